use Rattle.port_facts.proofs.Legal.{journal_reached}
use Rattle.port_facts.proofs.reached.legal_journals_are_reached.Goals as goal

pub returns : goal.returns
returns c = journal_reached
