use Rattle.std.proofs.Common.{◌≡◌, ◌++◌, drop}
use Rattle.std.specs.Prelude.{map}
use Rattle.ata_script.specs.Heads.{drive_said}
use Rattle.ata_script.specs.ScriptText.{items_text, drive_items}
use Rattle.ata_script.proofs.writer.put_drives.Given as goal

abbrev pub invariant-loop-drive : goal.invariant-loop-drive
invariant-loop-drive l =
    (l.text.items ++ items_text (drive_items l.port l.number (map drive_said (drop l.drive-index l.drives))) ≡ l.fn.text.items ++ items_text (drive_items l.port 0 (map drive_said l.drives)))
    × (l.number ≡ l.drive-index)
