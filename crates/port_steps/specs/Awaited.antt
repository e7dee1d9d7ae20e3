-- The times for which an open reset or identity waits.
use Rattle.std.specs.Prelude.{ℕ, List, Option, Some, None, option_map}
use Rattle.ata_script.specs.declared.port_head.PortHead.{PortHead}
use Rattle.ata_trace.specs.Event.{Event}
use Rattle.drive_model.specs.View.{DriveView}
use Rattle.eh_flow.specs.declared.phase.Phase.{Phase}
use Rattle.eh_flow.specs.declared.phase.Phase.TheVariants.{ResetOpen, IdentOpen}
use Rattle.port_past.specs.Drives.{drive_at}

-- its deadline
abbrev pub deadline_of : Phase → Option ℕ
deadline_of (ResetOpen place attempt ident deadline) = Some deadline.n
deadline_of (IdentOpen place attempt deadline) = Some deadline.n
deadline_of _ = None

-- when the drive of an open reset is ready
abbrev pub ready_in : PortHead → List Event → Phase → Option ℕ
ready_in head past (ResetOpen place attempt ident deadline) = option_map (λ (d : DriveView). d.ready_at.n) (drive_at head past place)
ready_in head past _ = None
