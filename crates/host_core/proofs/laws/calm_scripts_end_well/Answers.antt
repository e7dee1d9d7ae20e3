use Rattle.host_core.proofs.CalmLemmas.{journals_end_well}
use Rattle.host_core.proofs.laws.calm_scripts_end_well.Goals as goal

pub returns : goal.returns
returns c = λ rounds heads steps. journals_end_well rounds 0 heads steps
