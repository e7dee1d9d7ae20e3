use Rattle.std.proofs.Common.{refl}
use Rattle.hba_model.proofs.BitLemmas.{bits_none}
use Rattle.hba_model.proofs.hba.Hba.take_causes.Goals as goal

pub returns-clause-taken : goal.returns-clause-taken
returns-clause-taken c = rw (← c.self.view_is, bits_none 15) refl
