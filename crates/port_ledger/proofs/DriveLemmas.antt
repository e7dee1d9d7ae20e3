-- Drives in a list, of which one is changed.
use Rattle.std.proofs.Common.{◌≡◌, ◌≢◌, ◌==◌, Bool, true, false, subst, ℕ, ◌+◌, ◌<◌, ◌≤◌, List, [], ◌∷◌, Option, None, Some, suc, zero, length, get_or, map, take, slice_get, slice_set, ◌++◌, if◌then◌else◌, refl, sym, ap, arith}
use Rattle.std.proofs.lemmas.Bool.{eqb-true, eq-eqb}
use Rattle.std.proofs.lemmas.List.{get_or-set_same, get_or-set_other, length-set, map-append, take_more}
use Rattle.std.proofs.lemmas.List.Elements.{All-nil, All-push, All-set, All-weaker}
use Rattle.ata_base.specs.declared.fault.Fault.{Fault}
use Rattle.ata_base.specs.declared.fault.Fault.TheVariants.{Media, Hang, Icrc, Abort, Df, BadStat, Idnf, LogFail, LogSum, LogNq, LogIdle, IdentFail, Serr}
use Rattle.ata_base.specs.declared.regs.Regs.{Regs}
use Rattle.drive_model.specs.declared.held.Held.{Held}
use Rattle.drive_model.specs.declared.log_told.LogTold.{LogTold}
use Rattle.drive_model.specs.declared.log_told.LogTold.TheVariants.{Page, BadPage, NoPage}
use Rattle.ata_script.specs.declared.drive_head.DriveHead.{DriveHead}
use Rattle.drive_model.specs.FreshAndReset.{fresh}
use Rattle.drive_model.specs.Holding.{issue_of}
use Rattle.drive_model.specs.Inject.{can_inject, injected}
use Rattle.drive_model.specs.Log.{answers_asking}
use Rattle.drive_model.specs.Told.{ended_with, with_done, log_read}
use Rattle.drive_model.specs.View.{DriveView, DriveWithSpare}
use Rattle.port_past.specs.Completions.{worker_stamps, stamps_of}
use Rattle.port_past.specs.IdentAnswers.{answers_ident}
use Rattle.ata_trace.specs.declared.step.Step.{Step}
use Rattle.ata_trace.specs.declared.step.Step.TheVariants.{Submit, Kick, Work, Irq, Drop, Stray, Tick, Expire, Recover, Plug, Unplug, Inject, Boot}
use Rattle.port_past.specs.Drives.{with_fault}
use Rattle.port_past.specs.Places.{changed_at, changed_at_some}
use Rattle.port_past.proofs.PlaceLemmas.{unchanged_at_some}
use Rattle.port_ledger.specs.DriveParts.{drive_of, AreRoomy, AreQuick, RoomyUpTo, TakesFault, drive_in, fault_put}

-- a drive in the list is changed
pub drives_changed : (at : ℕ) (f : DriveView → DriveView) (list : List DriveWithSpare) (d new : DriveWithSpare) → at < length list → d ≡ get_or list at d → new.drive ≡ f d.drive → map drive_of (slice_set list at new) ≡ changed_at at f (map drive_of list)
drives_changed at f [] d new within is by = absurd (omega arith)
drives_changed zero f (x ∷ list) d new within is by = rw (by, is) refl
drives_changed (suc at) f (x ∷ list) d new within is by = ap (λ ys. x.drive ∷ ys) (drives_changed at f list d new (omega arith) is by)

-- a drive that isn't there isn't changed
pub drives_past : (at : ℕ) (f : DriveView → DriveView) (list : List DriveWithSpare) → length list ≤ at → map drive_of list ≡ changed_at at f (map drive_of list)
drives_past at f [] past = refl
drives_past zero f (x ∷ list) past = absurd (omega arith)
drives_past (suc at) f (x ∷ list) past = ap (λ ys. x.drive ∷ ys) (drives_past at f list (omega arith))

-- less room is there too
pub AreRoomy_less : (more less : ℕ) (list : List DriveWithSpare) → less ≤ more → AreRoomy more list → AreRoomy less list
AreRoomy_less more less list le roomy = All-weaker (λ d. more ≤ d.spare) (λ d. less ≤ d.spare) (λ d enough. omega arith) list roomy

-- one with as much room comes in
pub AreRoomy_set : (room at : ℕ) (list : List DriveWithSpare) (d : DriveWithSpare) → AreRoomy room list → room ≤ d.spare → AreRoomy room (slice_set list at d)
AreRoomy_set room at list d roomy enough = All-set (λ x. room ≤ x.spare) list at d enough roomy

-- one as quick as another in the list comes in
pub AreQuick_set : (at : ℕ) (list : List DriveWithSpare) (d new : DriveWithSpare) → AreQuick list → at < length list → d ≡ get_or list at d → new.drive.ready ≡ d.drive.ready → AreQuick (slice_set list at new)
AreQuick_set at list d new quick within is same =
    let old : d.drive.ready.n ≤ 60000 = subst (λ x. x.drive.ready.n ≤ 60000) (sym is) (quick at d within) in
    All-set (λ x. x.drive.ready.n ≤ 60000) list at new (rw same old) quick

-- each is quick
pub quick_at : (at : ℕ) (list : List DriveWithSpare) (d : DriveWithSpare) → AreQuick list → at < length list → d ≡ get_or list at d → d.drive.ready.n ≤ 60000
quick_at at list d quick within is = subst (λ x. x.drive.ready.n ≤ 60000) (sym is) (quick at d within)

ended_ready : (regs : Regs) (h : Option Held) (v : DriveView) → (ended_with regs h v).ready ≡ v.ready
ended_ready regs None v = refl
ended_ready regs (Some h) v = refl

-- no drive gets slower
pub done_ready : (number : ℕ) (regs : Regs) (v : DriveView) → (with_done number regs v).ready ≡ v.ready
done_ready number regs v = ended_ready regs (issue_of number v.held) v

pub log_ready : (idle : Option ℕ) (told : LogTold) (v : DriveView) → (log_read idle told v).ready ≡ v.ready
log_ready idle (Page tag regs) v = refl
log_ready idle BadPage v = refl
log_ready idle NoPage v = refl

injected_ready : (fault : Fault) (v : DriveView) → (injected fault v).ready ≡ v.ready
injected_ready (Media lba) v = refl
injected_ready (Hang k) v = refl
injected_ready (Icrc k) v = refl
injected_ready (Abort k) v = refl
injected_ready (Df k) v = refl
injected_ready (BadStat k) v = refl
injected_ready (Idnf k) v = refl
injected_ready (LogFail k) v = refl
injected_ready (LogSum k) v = refl
injected_ready (LogNq k) v = refl
injected_ready (LogIdle k) v = refl
injected_ready (IdentFail k) v = refl
injected_ready (Serr bit) v = refl

pub inject_ready : (fault : Fault) (b : Bool) (v : DriveView) → (if b then injected fault v else v).ready ≡ v.ready
inject_ready fault true v = injected_ready fault v
inject_ready fault false v = refl

-- what it gives
pub given_at : (number at : ℕ) (list : List DriveWithSpare) (d : DriveWithSpare) → at < length list → d ≡ get_or list at d → worker_stamps number (Some at) (map drive_of list) ≡ stamps_of number d.drive
given_at number at [] d within is = absurd (omega arith)
given_at number zero (x ∷ list) d within is = rw is refl
given_at number (suc at) (x ∷ list) d within is = given_at number at list d (omega arith) is

-- one that isn't there gives nothing
pub given_past : (number at : ℕ) (list : List DriveWithSpare) → length list ≤ at → worker_stamps number (Some at) (map drive_of list) ≡ []
given_past number at [] past = refl
given_past number zero (x ∷ list) past = absurd (omega arith)
given_past number (suc at) (x ∷ list) past = given_past number at list (omega arith)

-- whether it answers
pub answers_at : (at : ℕ) (list : List DriveWithSpare) (d : DriveWithSpare) → at < length list → d ≡ get_or list at d → answers_ident (Some at) (map drive_of list) ≡ answers_asking d.drive
answers_at at [] d within is = absurd (omega arith)
answers_at zero (x ∷ list) d within is = rw is refl
answers_at (suc at) (x ∷ list) d within is = answers_at at list d (omega arith) is

pub answers_past : (at : ℕ) (list : List DriveWithSpare) → length list ≤ at → answers_ident (Some at) (map drive_of list) ≡ false
answers_past at [] past = refl
answers_past zero (x ∷ list) past = absurd (omega arith)
answers_past (suc at) (x ∷ list) past = answers_past at list (omega arith)

-- the drive of a number
pub drive_there : (at : ℕ) (list : List DriveWithSpare) (d : DriveWithSpare) → at < length list → d ≡ get_or list at d → slice_get (map drive_of list) at ≡ Some d.drive
drive_there at [] d within is = absurd (omega arith)
drive_there zero (x ∷ list) d within is = rw is refl
drive_there (suc at) (x ∷ list) d within is = drive_there at list d (omega arith) is

pub drive_past : (at : ℕ) (list : List DriveWithSpare) → length list ≤ at → slice_get (map drive_of list) at ≡ None
drive_past at [] past = refl
drive_past zero (x ∷ list) past = absurd (omega arith)
drive_past (suc at) (x ∷ list) past = drive_past at list (omega arith)

-- ---- drives as they begin

abbrev begun : DriveHead → DriveView
begun head = fresh head.identity head.ready

-- one head more
pub drives_more : (at : ℕ) (heads : List DriveHead) (list : List DriveWithSpare) (head : DriveHead) (d : DriveWithSpare) → at < length heads → head ≡ get_or heads at head → map drive_of list ≡ map begun (take at heads) → d.drive ≡ fresh head.identity head.ready → map drive_of (list ++ d ∷ []) ≡ map begun (take (at + 1) heads)
drives_more at heads list head d within is so_far here =
    rw (take_more heads at head within, map-append, map-append, so_far, here, ← is) refl

pub AreQuick_push : (list : List DriveWithSpare) (d : DriveWithSpare) → AreQuick list → d.drive.ready.n ≤ 60000 → AreQuick (list ++ d ∷ [])
AreQuick_push list d quick here = All-push (λ x. x.drive.ready.n ≤ 60000) list d quick here

pub AreQuick_none : AreQuick []
AreQuick_none = All-nil (λ x. x.drive.ready.n ≤ 60000)

-- no issue is nothing to have memory for
pub AreRoomy_none : (list : List DriveWithSpare) → AreRoomy 0 list
AreRoomy_none list = λ k d within. omega arith

-- ---- faults

-- a bit of SError changes no drive, and another fault can be taken
record IsPutIn (fault : Fault) (v : DriveView) : Type 0 where
  pub is : (if can_inject fault v then injected fault v else v) ≡ injected fault v

put_some : (fault : Fault) (v : DriveView) → can_inject fault v ≡ true → IsPutIn fault v
put_some fault v can = record { is = rw can refl }

put_in : (fault : Fault) (v : DriveView) → TakesFault fault (Some v) → IsPutIn fault v
put_in (Media lba) v takes = put_some (Media lba) v takes
put_in (Hang k) v takes = put_some (Hang k) v takes
put_in (Icrc k) v takes = put_some (Icrc k) v takes
put_in (Abort k) v takes = put_some (Abort k) v takes
put_in (Df k) v takes = put_some (Df k) v takes
put_in (BadStat k) v takes = put_some (BadStat k) v takes
put_in (Idnf k) v takes = put_some (Idnf k) v takes
put_in (LogFail k) v takes = put_some (LogFail k) v takes
put_in (LogSum k) v takes = put_some (LogSum k) v takes
put_in (LogNq k) v takes = put_some (LogNq k) v takes
put_in (LogIdle k) v takes = put_some (LogIdle k) v takes
put_in (IdentFail k) v takes = put_some (IdentFail k) v takes
put_in (Serr bit) v takes = record { is = refl }

takes_at : (fault : Fault) (at : ℕ) (list : List DriveWithSpare) (d : DriveWithSpare) → at < length list → d ≡ get_or list at d → TakesFault fault (drive_in (map drive_of list) (Some at)) → TakesFault fault (Some d.drive)
takes_at fault at [] d within is takes = absurd (omega arith)
takes_at fault zero (x ∷ list) d within is takes = rw is takes
takes_at fault (suc at) (x ∷ list) d within is takes = takes_at fault at list d (omega arith) is takes

-- a fault that the drive of a number takes is put in
pub drives_injected : (fault : Fault) (at : ℕ) (list : List DriveWithSpare) (d new : DriveWithSpare) (b : Bool) → at < length list → d ≡ get_or list at d
    → TakesFault fault (drive_in (map drive_of list) (Some at)) → b ≡ can_inject fault d.drive → new.drive ≡ (if b then injected fault d.drive else d.drive)
    → map drive_of (slice_set list at new) ≡ changed_at at (injected fault) (map drive_of list)
drives_injected fault at list d new b within is takes done by =
    let here : TakesFault fault (Some d.drive) = takes_at fault at list d within is takes in
    drives_changed at (injected fault) list d new within is (rw (by, done) (put_in fault d.drive here).is)

-- a step that puts in no fault changes no drive
pub no_fault : (step : Step) (d : Option ℕ) (list : List DriveView) → fault_put step ≡ None → list ≡ changed_at_some d (with_fault step) list
no_fault (Submit id place op allow wait) d list none = sym (unchanged_at_some d _ list (λ v. refl))
no_fault (Kick place) d list none = sym (unchanged_at_some d _ list (λ v. refl))
no_fault (Work place pick) d list none = sym (unchanged_at_some d _ list (λ v. refl))
no_fault Irq d list none = sym (unchanged_at_some d _ list (λ v. refl))
no_fault Drop d list none = sym (unchanged_at_some d _ list (λ v. refl))
no_fault (Stray tag) d list none = sym (unchanged_at_some d _ list (λ v. refl))
no_fault (Tick ms) d list none = sym (unchanged_at_some d _ list (λ v. refl))
no_fault Expire d list none = sym (unchanged_at_some d _ list (λ v. refl))
no_fault Recover d list none = sym (unchanged_at_some d _ list (λ v. refl))
no_fault (Plug place drive) d list none = sym (unchanged_at_some d _ list (λ v. refl))
no_fault (Unplug place) d list none = sym (unchanged_at_some d _ list (λ v. refl))
no_fault (Inject place fault) d list none = absurd (cc)
no_fault Boot d list none = sym (unchanged_at_some d _ list (λ v. refl))

-- one that puts in a fault puts it into the drive
pub some_fault : (step : Step) (fault : Fault) (d : Option ℕ) (list : List DriveView) → fault_put step ≡ Some fault → changed_at_some d (with_fault step) list ≡ changed_at_some d (injected fault) list
some_fault (Submit id place op allow wait) fault d list is = absurd (cc)
some_fault (Kick place) fault d list is = absurd (cc)
some_fault (Work place pick) fault d list is = absurd (cc)
some_fault Irq fault d list is = absurd (cc)
some_fault Drop fault d list is = absurd (cc)
some_fault (Stray tag) fault d list is = absurd (cc)
some_fault (Tick ms) fault d list is = absurd (cc)
some_fault Expire fault d list is = absurd (cc)
some_fault Recover fault d list is = absurd (cc)
some_fault (Plug place drive) fault d list is = absurd (cc)
some_fault (Unplug place) fault d list is = absurd (cc)
some_fault (Inject place its) fault d list is = (let same : its ≡ fault = cc in rw same refl)
some_fault Boot fault d list is = absurd (cc)

-- ---- room

-- a drive comes in that is the same but for its room
pub drives_kept : (at : ℕ) (list : List DriveWithSpare) (d new : DriveWithSpare) → d ≡ get_or list at d → new.drive ≡ d.drive → map drive_of (slice_set list at new) ≡ map drive_of list
drives_kept at [] d new is same = refl
drives_kept zero (x ∷ list) d new is same = rw (same, is) refl
drives_kept (suc at) (x ∷ list) d new is same = ap (λ ys. x.drive ∷ ys) (drives_kept at list d new is same)

-- one with more room comes in
pub reserved_kept : (less at : ℕ) (list : List DriveWithSpare) (d new : DriveWithSpare) → d ≡ get_or list at d → at < length list → d.spare ≤ new.spare → AreRoomy less list → AreRoomy less (slice_set list at new)
reserved_kept less at list d new is within more roomy =
    let enough : less ≤ d.spare = subst (λ x. less ≤ x.spare) (sym is) (roomy at d within) in
    AreRoomy_set less at list new roomy (omega arith)

roomy_here : (room at k : ℕ) (d : DriveWithSpare) (list : List DriveWithSpare) (new : DriveWithSpare) → RoomyUpTo room at list → at < length list → room ≤ new.spare → k < at + 1 → k < length list → (b : Bool) → (k == at) ≡ b → room ≤ (get_or (slice_set list at new) k d).spare
roomy_here room at k d list new up within enough below inside true is =
    let same : k ≡ at = eqb-true k at is in
    rw (same, get_or-set_same list at new d within) enough
roomy_here room at k d list new up within enough below inside false is =
    let other : k ≢ at = λ e. let yes : (k == at) ≡ true = eq-eqb k at e in cc in
    rw (get_or-set_other list at k new d other) (up.each k d (omega arith) inside)

-- one drive more has room
pub roomy_more : (room at : ℕ) (list : List DriveWithSpare) (new : DriveWithSpare) → at < length list → room ≤ new.spare → RoomyUpTo room at list → RoomyUpTo room (at + 1) (slice_set list at new)
roomy_more room at list new within enough up = record {
  each = λ k d below inside. roomy_here room at k d list new up within enough below (simp length-set at inside) (k == at) refl;
}

-- none has to
pub roomy_none : (room : ℕ) (list : List DriveWithSpare) → RoomyUpTo room 0 list
roomy_none room list = record { each = λ k d below. absurd (omega arith) }

-- all have
pub roomy_all : (room at : ℕ) (list : List DriveWithSpare) → length list ≤ at → RoomyUpTo room at list → AreRoomy room list
roomy_all room at list through up = λ k d inside. up.each k d (omega arith) inside
