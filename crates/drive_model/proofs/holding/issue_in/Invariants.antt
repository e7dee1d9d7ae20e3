use Rattle.std.proofs.Common.{◌≡◌, drop}
use Rattle.drive_model.specs.Holding.{issue_of}
use Rattle.drive_model.proofs.holding.issue_in.Given as goal

abbrev pub invariant-loop-h : goal.invariant-loop-h
invariant-loop-h l = issue_of l.n.n (drop l.h-index l.list) ≡ issue_of l.n.n l.list
