use Rattle.std.proofs.Common.{◌≡◌, ◌≤◌, replicate, None, Option}
use Rattle.std.specs.Vec.{vec_capacity}
use Rattle.port_past.specs.declared.completion.Completion.{Completion}
use Rattle.port_ledger.proofs.completion_list.CompletionList.new.Given as goal

abbrev pub invariant-loop-at : goal.invariant-loop-at
invariant-loop-at l = (l.list.items ≡ replicate {A = Option Completion} l.at None) × (32 ≤ vec_capacity l.list)
