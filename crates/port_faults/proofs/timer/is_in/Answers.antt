use Rattle.std.proofs.Common.{eq-eqb}
use Rattle.std.proofs.lemmas.Bool.{eqb-true}
use Rattle.std.proofs.lemmas.Nat.{bit_set_by_shift}
use Rattle.port_faults.proofs.timer.is_in.Goals as goal

pub returns : goal.returns
returns c = (
  (λ test. (bit_set_by_shift c.args.mask c.args.tag).0 (eqb-true _ 1 test)),
  (λ bit. eq-eqb _ 1 ((bit_set_by_shift c.args.mask c.args.tag).1 bit)),
)
