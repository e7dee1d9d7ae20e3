use Rattle.hba_model.proofs.BitLemmas.{bits_clear}
use Rattle.hba_model.proofs.bits.without_bit.Goals as goal

pub returns-clause-bits : goal.returns-clause-bits
returns-clause-bits c = λ count within few. bits_clear count c.args.mask c.args.at within few
