use Rattle.ata_script.proofs.DraftsAdded.{drive_adds, none_said}
use Rattle.ata_script.proofs.draft.Draft.add_drive.Goals as goal

pub returns : goal.returns
returns c =
    drive_adds c.args.self.now.version c.args.self.now.head c.add_drive.new.self c.args.self.now.steps c.args.port c.args.number c.args.drive c.add_drive.result
    (none_said c.args.self.now.steps c.items.result.now c.is_empty.result c.items.ensures c.is_empty.ensures c.if-not-is_empty.false) c.add_drive.ensures
