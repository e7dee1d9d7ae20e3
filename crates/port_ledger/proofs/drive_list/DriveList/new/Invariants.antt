use Rattle.std.proofs.Common.{◌≡◌, ◌≤◌, length, map, take}
use Rattle.std.specs.Vec.{vec_capacity}
use Rattle.ata_script.specs.declared.drive_head.DriveHead.{DriveHead}
use Rattle.drive_model.specs.FreshAndReset.{fresh}
use Rattle.port_ledger.specs.DriveParts.{AreQuick, drive_of}
use Rattle.port_ledger.proofs.drive_list.DriveList.new.Given as goal

abbrev pub invariant-loop-head : goal.invariant-loop-head
invariant-loop-head l = record {
  drives : map drive_of l.list.items ≡ map (λ (h : DriveHead). fresh h.identity h.ready) (take l.head-index l.heads);
  quick : AreQuick l.list.items;
  room : length l.heads ≤ vec_capacity l.list;
}
