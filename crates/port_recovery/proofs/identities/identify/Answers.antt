use Rattle.std.proofs.Common.{◌∙◌, ap}
use Rattle.ata_script.specs.declared.port_head.PortHead.{PortHead}
use Rattle.port_recovery.proofs.IdentityLemmas.{found_told, identity_told}
use Rattle.port_recovery.proofs.identities.identify.Goals as goal

pub returns : goal.returns
returns c =
    found_told c.args.place c.args.number c.items.result.now c.drive_of-drive.result.now c.drive_of-drive.ensures
    (c.items.ensures ∙ ap (λ (h : PortHead). h.drives) c.head.ensures)
    (identity_told c.args.place c.udma_of-udma.result c.is_attached_drive-same.result c.ncq_of-ncq.result
    c.is_in_doubt-dubious.result c.drive_of-drive.result.now.identity
    (rw c.identified-identified.ensures at c.note.ensures) c.attach.ensures.adds c.note-2.ensures c.is_attached_drive-same.ensures c.udma_of-udma.ensures c.ncq_of-ncq.ensures
    c.is_in_doubt-dubious.ensures)
