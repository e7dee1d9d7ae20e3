use Rattle.std.proofs.Common.{◌≡◌, ℕ, map, length}
use Rattle.port_ledger.specs.DriveParts.{AreQuick, AreRoomy, RoomyUpTo, drive_of}
use Rattle.port_ledger.proofs.drive_list.reserve_each.Given as goal

abbrev pub invariant-loop-at : goal.invariant-loop-at
invariant-loop-at l = record {
  drives : map drive_of l.list.items ≡ map drive_of l.initial.list.items;
  length : length l.list.items ≡ length l.initial.list.items;
  room : RoomyUpTo l.room l.at l.list.items;
  kept : (less : ℕ) → AreRoomy less l.initial.list.items → AreRoomy less l.list.items;
  quick : AreQuick l.initial.list.items → AreQuick l.list.items;
}
