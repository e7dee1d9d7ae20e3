use Rattle.std.proofs.Common.{◌≡◌, drop}
use Rattle.ata_script.specs.DrivePlaces.{drive_places}
use Rattle.ata_script.specs.Places.{is_taken}
use Rattle.ata_script.proofs.standing.is_taken.Given as goal

abbrev pub invariant-loop-drive : goal.invariant-loop-drive
invariant-loop-drive l = is_taken l.place (drive_places (drop l.drive-index l.drives)) ≡ is_taken l.place (drive_places l.drives)
