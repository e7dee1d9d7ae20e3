use Rattle.std.proofs.Common.{◌≡◌, take, length, replicate, None, Option}
use Rattle.port_past.specs.declared.completion.Completion.{Completion}
use Rattle.port_ledger.proofs.completion_list.CompletionList.clear.Given as goal

abbrev pub invariant-loop-at : goal.invariant-loop-at
invariant-loop-at l = (length l.self ≡ 32) × (take l.at l.self ≡ replicate {A = Option Completion} l.at None)
