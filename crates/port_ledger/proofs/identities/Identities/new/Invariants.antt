use Rattle.std.proofs.Common.{◌≡◌, ◌≤◌, replicate, None, Option}
use Rattle.std.specs.Vec.{vec_capacity}
use Rattle.port_past.specs.declared.identity_told.IdentityTold.{IdentityTold}
use Rattle.port_ledger.proofs.identities.Identities.new.Given as goal

abbrev pub invariant-loop-at : goal.invariant-loop-at
invariant-loop-at l = (l.list.items ≡ replicate {A = Option IdentityTold} l.at None) × (15 ≤ vec_capacity l.list)
