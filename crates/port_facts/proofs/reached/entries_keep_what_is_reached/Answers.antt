use Rattle.port_facts.proofs.Legal.{entry_reached}
use Rattle.port_facts.proofs.reached.entries_keep_what_is_reached.Goals as goal

pub returns : goal.returns
returns c = entry_reached
