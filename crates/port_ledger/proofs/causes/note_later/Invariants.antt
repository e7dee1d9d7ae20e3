use Rattle.std.proofs.Common.{◌≡◌, take, length}
use Rattle.port_past.specs.Noted.{with_later}
use Rattle.port_ledger.proofs.causes.note_later.Given as goal

abbrev pub invariant-loop-at : goal.invariant-loop-at
invariant-loop-at l = record {
  noted : l.noted ≡ with_later (take l.at l.tferr) l.initial.noted;
  size : length l.noted ≡ 15;
  before : length l.initial.noted ≡ 15;
  tferr : length l.tferr ≡ 15;
}
