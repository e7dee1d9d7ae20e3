use Rattle.std.proofs.Common.{◌≡◌, not, drop, filter, slice_get}
use Rattle.drive_model.specs.Holding.{is_hung}
use Rattle.drive_model.proofs.holding.nth_able.Given as goal

abbrev pub invariant-loop-h : goal.invariant-loop-h
invariant-loop-h l =
    slice_get (filter (λ h. not (is_hung h.assigned)) (drop l.h-index l.list)) l.left
    ≡ slice_get (filter (λ h. not (is_hung h.assigned)) l.list) l.place
