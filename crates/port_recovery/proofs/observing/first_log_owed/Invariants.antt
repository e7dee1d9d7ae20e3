use Rattle.std.proofs.Common.{◌≡◌, ◌-◌}
use Rattle.std.specs.Prelude.{find}
use Rattle.std.specs.List.{range_with_len}
use Rattle.port_ledger.specs.LedgerView.{past}
use Rattle.port_past.specs.Heads.{places_of}
use Rattle.port_past.specs.Logs.{logs}
use Rattle.port_past.specs.Noted.{tferr_noted}
use Rattle.port_past.specs.Slots.{slots}
use Rattle.port_rules.specs.Logs.{is_log_owed}
use Rattle.port_recovery.proofs.observing.first_log_owed.Given as goal

abbrev pub invariant-loop-at : goal.invariant-loop-at
invariant-loop-at l =
    let is_owed = is_log_owed (tferr_noted (past l.ledger)) (logs (past l.ledger)) (slots (past l.ledger)) in
    find is_owed (range_with_len l.at (l.ledger.head.places - l.at)) ≡ find is_owed (places_of l.ledger.head)
