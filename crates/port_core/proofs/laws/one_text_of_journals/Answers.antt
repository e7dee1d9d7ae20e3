use Rattle.port_core.proofs.ToldLemmas.{one_journal}
use Rattle.port_core.proofs.laws.one_text_of_journals.Goals as goal

pub returns : goal.returns
returns c = one_journal c.one_text.ensures
