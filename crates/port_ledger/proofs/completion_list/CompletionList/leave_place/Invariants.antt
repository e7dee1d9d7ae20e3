use Rattle.std.proofs.Common.{◌≡◌, ◌<◌, None, take, length}
use Rattle.host_tags.specs.Slots.{is_flight_at}
use Rattle.port_past.specs.ByTag.{set_where}
use Rattle.port_ledger.proofs.completion_list.CompletionList.leave_place.Given as goal

abbrev pub invariant-loop-at : goal.invariant-loop-at
invariant-loop-at l = (l.self ≡ set_where (is_flight_at l.place) None (take l.at l.flights) l.initial.self) × (0 < l.at → length l.flights ≡ 32)
