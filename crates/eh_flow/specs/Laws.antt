-- What holds of the table of recovery.
use Rattle.std.specs.Prelude.{◌≡◌, ◌≢◌, ℕ, Bool, true, false, Option, Some, None, IsSome, IfSome, IsTrue}
use Rattle.ata_base.specs.declared.ms.Ms.{Ms}
use Rattle.eh_flow.specs.Table.{recovery_row}
use Rattle.eh_flow.specs.declared.observation.Observation.{Observation}
use Rattle.eh_flow.specs.declared.phase.Phase.{Phase}
use Rattle.eh_flow.specs.declared.phase.Phase.TheVariants.{Idle, Logs, HostOwed, HostOpen, ResetOwed, ResetOpen, IdentOwed, IdentOpen, Through}
use Rattle.eh_flow.specs.declared.row.Row.{Row}
use Rattle.eh_flow.specs.declared.row.Row.TheVariants.{Nothing, WaitTag, Begin, Log, Autopsy, HostBegin, HostEnd, ResetBegin, ResetGone, ResetReady, ResetLate, ResetWait, IdentAsk, IdentRead, IdentLate, IdentWait, Finish}

-- the place of a phase, where it has one
abbrev pub place_of : Phase → Option ℕ
place_of (ResetOwed place attempt ident) = Some place
place_of (ResetOpen place attempt ident deadline) = Some place
place_of (IdentOwed place attempt) = Some place
place_of (IdentOpen place attempt deadline) = Some place
place_of _ = None

-- the place whose task a row goes on with, where it is one of a place's
abbrev pub task_place : Row → Option ℕ
task_place (ResetBegin place attempt ident deadline) = Some place
task_place (ResetGone place) = Some place
task_place (ResetReady place) = Some place
task_place (ResetLate place again) = Some place
task_place (ResetWait place) = Some place
task_place (IdentAsk place attempt deadline) = Some place
task_place (IdentRead place) = Some place
task_place (IdentLate place again) = Some place
task_place (IdentWait place) = Some place
task_place _ = None

-- every state has a row
abbrev pub HasRow : Type 0
HasRow = (phase : Phase) (seen : Observation) → IsSome (recovery_row phase seen)

-- a row goes on with the task of the phase's place, or of none where the phase has none
abbrev pub KeepsPlace : Type 0
KeepsPlace = (phase : Phase) (seen : Observation) → IfSome (recovery_row phase seen) (λ row. task_place row ≡ place_of phase)

-- whether a row asks for an identity, reads one or waits for it
abbrev pub is_asking : Row → Bool
is_asking (IdentAsk place attempt deadline) = true
is_asking (IdentRead place) = true
is_asking (IdentLate place again) = true
is_asking (IdentWait place) = true
is_asking _ = false

-- on a frozen port no identity is asked for, read or waited for
abbrev pub AsksNothingFrozen : Type 0
AsksNothingFrozen = (phase : Phase) (seen : Observation) → IsTrue seen.frozen
    → IfSome (recovery_row phase seen) (λ row. is_asking row ≡ false)
