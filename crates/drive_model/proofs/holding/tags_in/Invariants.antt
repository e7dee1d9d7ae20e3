use Rattle.std.proofs.Common.{◌≡◌, ℕ, false, take, get_or, length}
use Rattle.drive_model.specs.Holding.{has_tag}
use Rattle.drive_model.proofs.holding.tags_in.Given as goal

abbrev pub invariant-loop-h : goal.invariant-loop-h
invariant-loop-h l = (length l.held ≡ 32) × ((t : ℕ) → get_or l.held t false ≡ has_tag t (take l.h-index l.list))
