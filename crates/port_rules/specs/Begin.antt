use Rattle.std.specs.Prelude.{ℕ, ◌^◌, ◌&&◌, Bool, true, not, List, [], ◌∷◌, ◌++◌, Option}
use Rattle.ata_base.specs.Kinds.{timeout}
use Rattle.ata_base.specs.declared.err_mask.ErrMask.{ErrMask}
use Rattle.ata_script.specs.declared.port_head.PortHead.{PortHead}
use Rattle.ata_trace.specs.Event.{Event}
use Rattle.ata_trace.specs.declared.act.Act.{Act}
use Rattle.ata_trace.specs.declared.act.Act.TheVariants.{Begun, Frozen}
use Rattle.host_tags.specs.declared.in_flight.InFlight.{InFlight}
use Rattle.host_timer.specs.Due.{has_due}
use Rattle.port_past.specs.Completions.{completions}
use Rattle.port_past.specs.PortState.{is_frozen}
use Rattle.port_past.specs.Slots.{slots}
use Rattle.host_tags.specs.Slots.{is_unowned}
use Rattle.port_rules.specs.Sorting.{ok_answers, condemnations}
use Rattle.port_rules.specs.Told.{told_if}

-- the kind timeout alone
abbrev pub timed_out : ErrMask
timed_out = record { 0 = 2 ^ timeout }

-- those that are condemned freeze the port where it isn't frozen
abbrev pub with_freeze : Bool → List Act → List Act
with_freeze frozen [] = []
with_freeze frozen (act ∷ rest) = act ∷ rest ++ told_if (not frozen) Frozen

-- recovery begins: the completed issues that aren't owned are answered, the others condemned with timeout
abbrev pub begin_acts : PortHead → List Event → List Act
begin_acts head past =
    Begun
    ∷ ok_answers (slots past) (completions head past)
    ++ with_freeze (is_frozen past) (condemnations (λ f. true) timed_out (slots past) (completions head past))

-- whether an issue in flight is neither owned nor due
abbrev pub is_awaited : ℕ → Bool → Option InFlight → Bool
is_awaited now drained slot = is_unowned slot && not (has_due now drained slot)
