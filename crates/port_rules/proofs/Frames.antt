-- A frame tells whether its command is queued, and only a read or a write is.
use Rattle.std.proofs.Common.{◌≡◌, ℕ, Bool, true, false, ◌&&◌, refl}
use Rattle.ata_base.specs.Operations.{is_data}
use Rattle.ata_base.specs.declared.op.Op.{Op}
use Rattle.ata_base.specs.declared.op.Op.TheVariants.{Read, Write, Verify, Flush, Power}
use Rattle.ata_tf.specs.CommandCodes.{command_frame}
use Rattle.port_past.specs.Slots.{is_queued_frame}
use Rattle.port_rules.specs.Kick.{tag_named}

-- a frame tells whether its command is queued
pub frame_tells :
    (op : Op) (queued : Bool) (tag port : ℕ) → (queued ≡ true → is_data op ≡ true)
    → is_queued_frame (command_frame op (tag_named queued tag) port) ≡ queued
frame_tells (Read lba count) true tag port moves = refl
frame_tells (Read lba count) false tag port moves = refl
frame_tells (Write lba count stamp) true tag port moves = refl
frame_tells (Write lba count stamp) false tag port moves = refl
frame_tells (Verify lba count) true tag port moves = absurd (cc (moves refl))
frame_tells (Verify lba count) false tag port moves = refl
frame_tells Flush true tag port moves = absurd (cc (moves refl))
frame_tells Flush false tag port moves = refl
frame_tells Power true tag port moves = absurd (cc (moves refl))
frame_tells Power false tag port moves = refl

pub queued_data : (moves on queued : Bool) → (moves && on) ≡ queued → queued ≡ true → moves ≡ true
queued_data true on queued e is = refl
queued_data false on queued e is = cc
