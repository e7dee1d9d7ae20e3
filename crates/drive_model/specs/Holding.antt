-- The issues that a drive holds, in the order of issue.
use Rattle.std.specs.Prelude.{ℕ, ◌%◌, ◌==◌, nat_eq, Bool, true, false, not, List, [], ◌∷◌, ◌++◌, Option, Some, None, All, length, map, filter, find, slice_get}
use Rattle.std.specs.List.{list_any}
use Rattle.ata_base.specs.declared.issue_no.IssueNo.{IssueNo}
use Rattle.ata_base.specs.declared.op.Op.{Op}
use Rattle.drive_model.specs.declared.assigned.Assigned.{Assigned}
use Rattle.drive_model.specs.declared.assigned.Assigned.TheVariants.{Hang}
use Rattle.drive_model.specs.declared.held.Held.{Held}
use Rattle.drive_model.specs.declared.queued_error.QueuedError.{QueuedError}
use Rattle.drive_model.specs.Assigned.{next_assigned, with_count_down}
use Rattle.drive_model.specs.Sectors.{IsShort}
use Rattle.drive_model.specs.View.{DriveView}

-- No part of the rules of a port, but words of the code: tags_of, has_tag, AllShort, HoldingView.

-- the tags of held issues
abbrev pub tags_of : List Held → List ℕ
tags_of holds = map (λ h. h.tag) holds

-- whether an issue with this tag is held
abbrev pub has_tag : ℕ → List Held → Bool
has_tag tag holds = list_any (nat_eq tag) (tags_of holds)

-- the held issue of this number
abbrev pub issue_of : ℕ → List Held → Option Held
issue_of number holds = find (λ h. h.number.n == number) holds

-- the held issues but for the one of this number
abbrev pub without_issue : ℕ → List Held → List Held
without_issue number holds = filter (λ h. not (h.number.n == number)) holds

-- whether a hang is assigned: such an issue is held and never done
abbrev pub is_hung : Assigned → Bool
is_hung Hang = true
is_hung _ = false

-- the issues that a drive can work on: those without a hang, and none while it is stopped
abbrev pub workable : Option QueuedError → List Held → List Held
workable None holds = filter (λ h. not (is_hung h.assigned)) holds
workable (Some error) holds = []

-- the issue that a pick means: of those that can be worked on the one at this place, counted round
abbrev pub picked_of : ℕ → List Held → Option Held
picked_of pick [] = None
picked_of pick (h ∷ rest) = slice_get (h ∷ rest) (pick % length (h ∷ rest))

-- the issue that a drive would work on
abbrev pub picked : ℕ → DriveView → Option Held
picked pick v = picked_of pick (workable v.stopped v.held)

-- a drive once it has taken an issue: held as the last one, with what is assigned to it
abbrev pub taken : IssueNo → ℕ → Op → Bool → DriveView → DriveView
taken number tag op queued v = record v {
  held = v.held ++ record { number = number; tag = tag; op = op; queued = queued; assigned = next_assigned v.counts } ∷ [];
  counts = with_count_down (next_assigned v.counts) v.counts;
}

-- each held issue gives at most 16 stamps
abbrev pub AllShort : List Held → Type 0
AllShort holds = All (λ h. IsShort h.op) holds

-- the issues that a drive holds, and for how many more there is memory
pub record HoldingView : Type 0 where
  pub issues : List Held
  pub spare : ℕ
