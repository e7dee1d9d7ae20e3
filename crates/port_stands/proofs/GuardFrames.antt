-- What the rows of a recovery leave of the gate.
use Rattle.std.proofs.Common.{◌≡◌, ◌∙◌, ℕ, Bool, true, false, not, ◌||◌, List, [], ◌∷◌, ◌++◌, Option, Some, is_some, inl, inr, slice_set, refl, sym, ap, subst, if◌then◌else◌}
use Rattle.std.specs.Prelude.{slice_index_or, slice_index}
use Rattle.std.specs.List.{list_all}
use Rattle.ata_base.specs.declared.ms.Ms.{Ms}
use Rattle.ata_script.specs.declared.port_head.PortHead.{PortHead}
use Rattle.ata_trace.specs.Event.{Event, onto}
use Rattle.ata_trace.specs.Event.Event.{Entered, Told}
use Rattle.ata_trace.specs.declared.act.Act.{Act}
use Rattle.ata_trace.specs.declared.act.Act.TheVariants.{Frozen, Thawed, ResetBegun, ResetLate, ResetFailed, ResetEndedGen, ResetEndedNone, ResetEndedHost, IdentAsked, IdentLate, Identified, Same, Attached, Detached, Disabled, Mode, WaitingReset, WaitingIdent}
use Rattle.ata_trace.specs.declared.step.Step.{Step}
use Rattle.ata_trace.specs.declared.who.Who.{Who}
use Rattle.eh_flow.specs.declared.phase.Phase.{Phase}
use Rattle.eh_flow.specs.declared.phase.Phase.TheVariants.{ResetOwed, IdentOwed}
use Rattle.host_tags.specs.Slots.{flight_at}
use Rattle.host_tags.specs.declared.in_flight.InFlight.{InFlight}
use Rattle.port_past.specs.Attachment.{attached}
use Rattle.port_past.specs.PortState.{is_frozen, is_asked, is_running, is_autopsied}
use Rattle.port_past.specs.Places.{changed_at}
use Rattle.port_past.specs.PlaceTold.{place_told, late}
use Rattle.port_past.specs.Slots.{slots}
use Rattle.port_past.specs.Tasks.{tasks}
use Rattle.port_past.specs.declared.place_told.HostTold.{HostTold}
use Rattle.port_past.specs.declared.place_told.HostTold.TheVariants.{NotBegun as NoHost, ResetBegun as HostBegun, ResetEnded as HostEnded}
use Rattle.port_past.specs.declared.place_told.PlaceTold.{PlaceTold}
use Rattle.port_past.specs.declared.place_told.PlaceTold.TheVariants.{NotBegun, ResetBegun as ResetWasBegun, ResetLate as ResetWasLate, ResetEnded, ResetFailed as ResetHasFailed, IdentAsked as IdentWasAsked, IdentLate as IdentWasLate, Mode as HasMode}
use Rattle.port_past.specs.declared.task.Task.{Task}
use Rattle.port_past.specs.declared.task.Task.TheVariants.{Host, Reset, Revalidate}
use Rattle.port_rules.specs.Phase.{place_phase, host_phase}
use Rattle.port_stands.proofs.Blocks.{left_alone}
use Rattle.port_stands.proofs.Phases.{IsTask, same_place, read_set, read_changed, phase_place, stand_place, is_of_task}
use Rattle.port_stands.specs.Gate.{Gate, gate, IsGuarded, is_on_its_way, is_host_phase, is_under_way}
use Rattle.port_stands.specs.Words.{RecoveryView, recovery, task_stand, phase_of, is_home}

-- an act of a row, but for freezing and thawing
abbrev pub is_row_act : Act → Bool
is_row_act (ResetBegun place attempt deadline) = true
is_row_act (ResetLate place) = true
is_row_act (ResetFailed place) = true
is_row_act (ResetEndedGen place generation) = true
is_row_act (ResetEndedNone place) = true
is_row_act ResetEndedHost = true
is_row_act (IdentAsked place attempt deadline) = true
is_row_act (IdentLate place) = true
is_row_act (Identified place model serial sectors depth) = true
is_row_act (Same place) = true
is_row_act (Attached place) = true
is_row_act (Detached place) = true
is_row_act (Disabled place) = true
is_row_act (Mode place udma ncq dubious) = true
is_row_act (WaitingReset place) = true
is_row_act (WaitingIdent place) = true
is_row_act act = false

-- an act of a row
abbrev pub is_gate_row : Act → Bool
is_gate_row Frozen = true
is_gate_row Thawed = true
is_gate_row act = is_row_act act

-- what no row changes
pub record Frame : Type 0 where
  pub running : Bool
  pub autopsied : Bool
  pub asked : Bool
  pub tasks : List Task
  pub slots : List (Option InFlight)

abbrev pub frame : PortHead → List Event → Frame
frame head past = record { running = is_running past; autopsied = is_autopsied past; asked = is_asked past; tasks = tasks head past; slots = slots past }

pub frame_step : (head : PortHead) (past : List Event) (act : Act) → is_gate_row act ≡ true → frame head (Told act ∷ past) ≡ frame head past
frame_step head past Frozen is = refl
frame_step head past Thawed is = refl
frame_step head past (ResetBegun place attempt deadline) is = refl
frame_step head past (ResetLate place) is = refl
frame_step head past (ResetFailed place) is = refl
frame_step head past (ResetEndedGen place generation) is = refl
frame_step head past (ResetEndedNone place) is = refl
frame_step head past ResetEndedHost is = refl
frame_step head past (IdentAsked place attempt deadline) is = refl
frame_step head past (IdentLate place) is = refl
frame_step head past (Identified place model serial sectors depth) is = refl
frame_step head past (Same place) is = refl
frame_step head past (Attached place) is = refl
frame_step head past (Detached place) is = refl
frame_step head past (Disabled place) is = refl
frame_step head past (Mode place udma ncq dubious) is = refl
frame_step head past (WaitingReset place) is = refl
frame_step head past (WaitingIdent place) is = refl
frame_step head past act is = absurd (cc)

pub cool_step : (past : List Event) (act : Act) → is_row_act act ≡ true → is_frozen (Told act ∷ past) ≡ is_frozen past
cool_step past Frozen is = absurd (cc)
cool_step past Thawed is = absurd (cc)
cool_step past act is = refl

pub row_is_gate : (act : Act) → is_row_act act ≡ true → is_gate_row act ≡ true
row_is_gate Frozen is = absurd (cc)
row_is_gate Thawed is = absurd (cc)
row_is_gate act is = is

-- a gate after a row of a task
pub row_guarded :
    (pmp : Bool) (g h : Gate) → IsGuarded pmp g → h.recovery.running ≡ g.recovery.running → h.recovery.autopsied ≡ true
    → h.recovery.tasks ≡ g.recovery.tasks → h.asked ≡ g.asked → h.slots ≡ g.slots
    → (pmp ≡ false → h.frozen ≡ true → is_on_its_way h ≡ true)
    → (pmp ≡ true → h.frozen ≡ true → is_host_phase (phase_of h.recovery) ≡ true)
    → IsGuarded pmp h
row_guarded pmp g h was running autopsied tasks asked slots direct multiplier = record {
  owned = λ runs tag f here. was.owned (sym running ∙ runs) tag f (subst (λ s. flight_at s tag ≡ Some f) slots here);
  recovering = λ tag f here own.
      ap (λ a. a || h.recovery.running) asked ∙ ap (λ r. g.asked || r) running
      ∙ was.recovering tag f (subst (λ s. flight_at s tag ≡ Some f) slots here) own;
  expired = λ tag f here free told. asked ∙ was.expired tag f (subst (λ s. flight_at s tag ≡ Some f) slots here) free told;
  direct = direct;
  multiplier = λ fan cold. inl (multiplier fan cold);
  new = λ runs early. absurd (cc);
  home = λ is. subst (λ t. list_all is_home t ≡ true) (sym tasks) (was.home is);
}

module _ (head : PortHead) (past : List Event) (time : ℕ) (who : Who) (seq : ℕ) (step : Step) where
  -- a row after which a direct port is on its way, where it is frozen, and a multiplier waits for its host
  pub task_guarded :
      (acts : List Act) (at : Phase) → IsTask (recovery head past) at → list_all is_gate_row acts ≡ true
      → IsGuarded head.pmp (gate head past)
      → (head.pmp ≡ false → is_frozen (onto (Entered time who seq step ∷ past) acts) ≡ true
      → is_on_its_way (gate head (onto (Entered time who seq step ∷ past) acts)) ≡ true)
      → (head.pmp ≡ true → is_frozen (onto (Entered time who seq step ∷ past) acts) ≡ true
      → is_host_phase (phase_of (recovery head (onto (Entered time who seq step ∷ past) acts))) ≡ true)
      → IsGuarded head.pmp (gate head (onto (Entered time who seq step ∷ past) acts))
  task_guarded acts at task all was direct multiplier =
      let same : frame head (onto (Entered time who seq step ∷ past) acts) ≡ frame head past =
      left_alone is_gate_row (frame head) (frame_step head) (Entered time who seq step ∷ past) acts all in
      row_guarded head.pmp (gate head past) (gate head (onto (Entered time who seq step ∷ past) acts)) was
      (ap (λ (f : Frame). f.running) same) (ap (λ (f : Frame). f.autopsied) same ∙ task.autopsied)
      (ap (λ (f : Frame). f.tasks) same) (ap (λ (f : Frame). f.asked) same) (ap (λ (f : Frame). f.slots) same) direct multiplier

  -- a row after which the port isn't frozen
  pub cool_guarded :
      (acts : List Act) (at : Phase) → IsTask (recovery head past) at → list_all is_gate_row acts ≡ true
      → is_frozen (onto (Entered time who seq step ∷ past) acts) ≡ false → IsGuarded head.pmp (gate head past)
      → IsGuarded head.pmp (gate head (onto (Entered time who seq step ∷ past) acts))
  cool_guarded acts at task all cool was =
      task_guarded acts at task all was (λ is cold. absurd (cc)) (λ is cold. absurd (cc))

  pub still_cool :
      (acts : List Act) → list_all is_row_act acts ≡ true → is_frozen past ≡ false
      → is_frozen (onto (Entered time who seq step ∷ past) acts) ≡ false
  still_cool acts all cool = left_alone is_row_act is_frozen cool_step (Entered time who seq step ∷ past) acts all ∙ cool

-- ---- a frozen port

pub on_way : (g : Gate) → is_under_way (phase_of g.recovery) ≡ true → is_on_its_way g ≡ true
on_way g is = way_by g.asked (is_under_way (phase_of g.recovery)) (not (slice_index_or g.recovery.attached 0 false)) is
  where
    way_by : (a b c : Bool) → b ≡ true → (a || (b || c)) ≡ true
    way_by true b c is = refl
    way_by false true c is = refl
    way_by false false c is = absurd (cc)

pub off_way : (g : Gate) → slice_index_or g.recovery.attached 0 false ≡ false → is_on_its_way g ≡ true
off_way g is = way_by g.asked (is_under_way (phase_of g.recovery)) (slice_index_or g.recovery.attached 0 false) is
  where
    way_by : (a b c : Bool) → c ≡ false → (a || (b || not c)) ≡ true
    way_by true b c is = refl
    way_by false true c is = refl
    way_by false false true is = absurd (cc)
    way_by false false false is = refl

-- a multiplier at a place's task isn't frozen
pub fan_thawed :
    (pmp : Bool) (g : Gate) (at : Phase) → IsGuarded pmp g → phase_of g.recovery ≡ at → is_host_phase at ≡ false
    → is_of_task at ≡ true → pmp ≡ true → g.frozen ≡ false
fan_thawed pmp g at was is other task fan = thawed_by g.frozen refl
  where
    thawed_by : (b : Bool) → g.frozen ≡ b → g.frozen ≡ false
    thawed_by true cold = elim (was.multiplier fan cold) [
      | inl turn ↦ absurd (cc (turn, ap is_host_phase is))
      | inr logs ↦ absurd (cc (logs.0, is, ap is_of_task is, ap is_of_task logs.0))
    ]
    thawed_by false cold = cold

-- ---- a reset begins

fresh_open :
    (place : ℕ) (first : Phase) (wanted : Bool) (lates attempt : ℕ) (deadline : Ms) (was : List PlaceTold)
    → is_some (place_phase place first wanted lates (slice_index_or (slice_set was place (ResetWasBegun attempt deadline)) place NotBegun)) ≡ true
fresh_open place first wanted lates attempt deadline was =
    elim (read_set was place (ResetWasBegun attempt deadline) NotBegun) [
      | inl new ↦ rw new refl
      | inr none ↦ rw none refl
    ]

pub host_no_place : (h : HostTold) (place : ℕ) → stand_place (host_phase h) ≡ Some place → ⊥
host_no_place NoHost place is = cc
host_no_place HostBegun place is = cc
host_no_place HostEnded place is = cc

pub place_open :
    (s t : RecoveryView) (at : Phase) (place attempt : ℕ) (deadline : Ms) → phase_place at ≡ Some place
    → t.seen ≡ slice_set s.seen place (ResetWasBegun attempt deadline)
    → (task : Task) → task_stand s task ≡ Some at → is_some (task_stand t task) ≡ true
place_open s t at place attempt deadline there place_told Host is = absurd (host_no_place s.host place (ap stand_place is ∙ there))
place_open s t at place attempt deadline there place_told (Reset p) is =
    let same : p ≡ place = same_place p place (ResetOwed p 1 1) at (slice_index_or s.attached p false || slice_index_or s.hot p false) (slice_index s.lates p) (slice_index_or s.seen p NotBegun) refl there is in
    rw (place_told, ← same) (fresh_open p (ResetOwed p 1 1) (slice_index_or t.attached p false || slice_index_or t.hot p false) (slice_index t.lates p) attempt deadline s.seen)
place_open s t at place attempt deadline there place_told (Revalidate p) is =
    let same : p ≡ place = same_place p place (IdentOwed p 1) at (slice_index_or s.attached p false || slice_index_or s.hot p false) (slice_index s.lates p) (slice_index_or s.seen p NotBegun) refl there is in
    rw (place_told, ← same) (fresh_open p (IdentOwed p 1) (slice_index_or t.attached p false || slice_index_or t.hot p false) (slice_index t.lates p) attempt deadline s.seen)

pub seen_reset :
    (past : List Event) (place attempt : ℕ) (deadline : Ms) (pmp frozen : Bool)
    → place_told (onto past ((if pmp then [] else (if frozen then [] else Frozen ∷ [])) ++ ResetBegun (Some place) attempt deadline ∷ []))
    ≡ slice_set (place_told past) place (ResetWasBegun attempt deadline)
seen_reset past place attempt deadline true frozen = refl
seen_reset past place attempt deadline false true = refl
seen_reset past place attempt deadline false false = refl

pub cool_reset :
    (past : List Event) (place attempt : ℕ) (deadline : Ms) (pmp frozen : Bool) → pmp ≡ true
    → is_frozen (onto past ((if pmp then [] else (if frozen then [] else Frozen ∷ [])) ++ ResetBegun (Some place) attempt deadline ∷ []))
    ≡ is_frozen past
cool_reset past place attempt deadline true frozen is = refl
cool_reset past place attempt deadline false frozen is = absurd (cc)

-- ---- a reset is late

late_open :
    (place : ℕ) (first : Phase) (wanted : Bool) (lates : ℕ) (sn : PlaceTold) → is_some (place_phase place first wanted lates sn) ≡ true
    → is_some (place_phase place first wanted lates (late sn)) ≡ true
late_open place first wanted lates (ResetWasBegun attempt deadline) is = refl
late_open place first wanted lates NotBegun is = is
late_open place first wanted lates (ResetWasLate attempt) is = is
late_open place first wanted lates (ResetEnded found) is = is
late_open place first wanted lates ResetHasFailed is = is
late_open place first wanted lates (IdentWasAsked deadline) is = is
late_open place first wanted lates IdentWasLate is = is
late_open place first wanted lates HasMode is = is

pub place_late :
    (s t : RecoveryView) (at : Phase) (place : ℕ) → phase_place at ≡ Some place
    → t.seen ≡ changed_at place late s.seen → t.attached ≡ s.attached → t.hot ≡ s.hot → t.lates ≡ s.lates
    → (task : Task) → task_stand s task ≡ Some at → is_some (task_stand t task) ≡ true
place_late s t at place there place_told attached hot lates Host is = absurd (host_no_place s.host place (ap stand_place is ∙ there))
place_late s t at place there place_told attached hot lates (Reset p) is =
    let same : p ≡ place = same_place p place (ResetOwed p 1 1) at (slice_index_or s.attached p false || slice_index_or s.hot p false) (slice_index s.lates p) (slice_index_or s.seen p NotBegun) refl there is in
    rw (place_told, attached, hot, lates, ← same, read_changed s.seen p late NotBegun refl)
    (late_open p (ResetOwed p 1 1) (slice_index_or s.attached p false || slice_index_or s.hot p false) (slice_index s.lates p) (slice_index_or s.seen p NotBegun) (ap is_some is))
place_late s t at place there place_told attached hot lates (Revalidate p) is =
    let same : p ≡ place = same_place p place (IdentOwed p 1) at (slice_index_or s.attached p false || slice_index_or s.hot p false) (slice_index s.lates p) (slice_index_or s.seen p NotBegun) refl there is in
    rw (place_told, attached, hot, lates, ← same, read_changed s.seen p late NotBegun refl)
    (late_open p (IdentOwed p 1) (slice_index_or s.attached p false || slice_index_or s.hot p false) (slice_index s.lates p) (slice_index_or s.seen p NotBegun) (ap is_some is))
