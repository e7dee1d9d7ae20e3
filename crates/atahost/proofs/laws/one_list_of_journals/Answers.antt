use Rattle.atahost.proofs.JournalLemmas.{one_list}
use Rattle.atahost.proofs.laws.one_list_of_journals.Goals as goal

pub returns : goal.returns
returns c = one_list c.one_script.ensures
