-- What acts and phases leave of the tries of resets and identities: 4 and 3 at most.
use Rattle.std.proofs.Common.{◌≡◌, ◌∙◌, ℕ, ◌+◌, ◌<◌, ◌≤◌, Bool, true, false, nat_lt, List, [], ◌∷◌, Option, None, Some, inl, inr, slice_set, refl, sym, ap, subst, arith, if◌then◌else◌}
use Rattle.std.specs.List.{list_all}
use Rattle.std.specs.Prelude.{slice_index, slice_index_or, unwrap_or}
use Rattle.std.proofs.lemmas.Bool.{ltb-true}
use Rattle.ata_base.proofs.Truth.{both}
use Rattle.ata_base.specs.declared.ms.Ms.{Ms}
use Rattle.ata_script.specs.declared.port_head.PortHead.{PortHead}
use Rattle.ata_trace.specs.Event.{Event, onto}
use Rattle.ata_trace.specs.Event.Event.{Told}
use Rattle.ata_trace.specs.declared.act.Act.{Act}
use Rattle.ata_trace.specs.declared.act.Act.TheVariants.{Begun, IdentAsked, IdentLate, Mode, ResetBegun, ResetEndedGen, ResetEndedNone, ResetFailed, ResetLate}
use Rattle.eh_flow.specs.declared.phase.Phase.{Phase}
use Rattle.eh_flow.specs.declared.phase.Phase.TheVariants.{IdentOpen, IdentOwed, Idle, Logs, ResetOpen, ResetOwed}
use Rattle.eh_reval.specs.IdentWaits.{ident_tries}
use Rattle.port_past.specs.PlaceTold.{host_told, ident_lates, late, place_told}
use Rattle.port_past.specs.Places.{changed_at, everywhere}
use Rattle.port_past.specs.PortState.{is_autopsied, is_running}
use Rattle.port_past.specs.Tasks.{tasks}
use Rattle.port_past.specs.declared.place_told.HostTold.{HostTold}
use Rattle.port_past.specs.declared.place_told.HostTold.TheVariants.{NotBegun as HostNotBegun, ResetBegun as ToldHostBegun, ResetEnded as ToldHostEnded}
use Rattle.port_past.specs.declared.place_told.PlaceTold.{PlaceTold}
use Rattle.port_past.specs.declared.place_told.PlaceTold.TheVariants.{NotBegun, ResetBegun as ToldResetBegun, ResetLate as ToldResetLate, ResetEnded as ToldResetEnded, ResetFailed as ToldResetFailed, IdentAsked as ToldIdentAsked, IdentLate as ToldIdentLate, Mode as ToldMode}
use Rattle.port_past.specs.declared.task.Task.{Task}
use Rattle.port_past.specs.declared.task.Task.TheVariants.{Host, Reset, Revalidate}
use Rattle.port_rules.specs.Phase.{first_phase, host_phase, is_wanted, phase, place_phase, task_phase}
use Rattle.port_stands.proofs.Driven.{read_change}
use Rattle.port_stands.proofs.EachStep.{HasKick, HasSteps}
use Rattle.port_stands.proofs.GuardAutopsy.{is_autopsy_act}
use Rattle.port_stands.proofs.Within.{read_same, read_written_at}

-- ---- what is told of a place, and how often its identity was late

-- what a place has before it while its task isn't through: identities may be late 3 times, resets be tried 4 times
abbrev pub Leaves : PlaceTold → ℕ → Type 0
Leaves NotBegun lates = lates < 3
Leaves (ToldResetBegun attempt deadline) lates = (attempt ≤ 4) × (lates < 3)
Leaves (ToldResetLate attempt) lates = (attempt < 4) × (lates < 3)
Leaves (ToldResetEnded true) lates = lates < 3
Leaves (ToldResetEnded false) lates = Unit {0}
Leaves ToldResetFailed lates = Unit {0}
Leaves (ToldIdentAsked deadline) lates = lates < 3
Leaves ToldIdentLate lates = Unit {0}
Leaves ToldMode lates = Unit {0}

-- what was told last of a place goes with so many identities that were late
abbrev pub GoesWith : PlaceTold → ℕ → Type 0
GoesWith told lates = (lates ≤ 3) × Leaves told lates

-- so it is of each place
abbrev pub AreFew : List PlaceTold → List ℕ → Type 0
AreFew seen lates = (place : ℕ) → GoesWith (slice_index_or seen place NotBegun) (slice_index lates place)

-- so it is of a past
abbrev pub HasFewTries : List Event → Type 0
HasFewTries past = AreFew (place_told past) (ident_lates past)

pub none_few : AreFew (everywhere NotBegun) (everywhere 0)
none_few place =
    subst (λ told. GoesWith told (slice_index_or (everywhere 0) place 0)) (sym (read_same 15 place NotBegun))
    (subst (GoesWith NotBegun) (sym (read_same 15 place 0)) (omega arith, omega arith))

module _ (seen : List PlaceTold) (lates : List ℕ) (place : ℕ) (was : AreFew seen lates) where
  pub set_few : (new : PlaceTold) → GoesWith new (slice_index lates place) → AreFew (slice_set seen place new) lates
  set_few new fits x = elim (read_written_at seen place x new NotBegun) [
    | inl here ↦
        subst (λ told. GoesWith told (slice_index lates x)) (sym here.1)
        (subst (λ p. GoesWith new (slice_index lates p)) (sym here.0) fits)
    | inr apart ↦ subst (λ told. GoesWith told (slice_index lates x)) (sym apart.0) (was x)
  ]

  pub late_few :
      (attempt : ℕ) (deadline : Ms) → slice_index_or seen place NotBegun ≡ ToldResetBegun attempt deadline → attempt < 4
      → slice_index lates place < 3 → AreFew (changed_at place late seen) lates
  late_few attempt deadline told again few x = elim (read_change seen place x late NotBegun) [
    | inl here ↦
        let now : slice_index_or (changed_at place late seen) x NotBegun ≡ ToldResetLate attempt =
        here.1 ∙ ap (λ p. late (slice_index_or seen p NotBegun)) here.0 ∙ ap late told in
        let low : slice_index lates x < 3 = subst (λ p. slice_index lates p < 3) (sym here.0) few in
        subst (λ t. GoesWith t (slice_index lates x)) (sym now) (omega (arith, low), (again, low))
    | inr apart ↦ subst (λ t. GoesWith t (slice_index lates x)) (sym apart.0) (was x)
  ]

  pub failed_few :
      slice_index lates place < 3 → AreFew (slice_set (changed_at place late seen) place ToldResetFailed) lates
  failed_few few x = elim (read_written_at (changed_at place late seen) place x ToldResetFailed NotBegun) [
    | inl here ↦ subst (λ t. GoesWith t (slice_index lates x)) (sym here.1) ((was x).0, tt)
    | inr apart ↦ elim (read_change seen place x late NotBegun) [
      | inl here ↦
          let low : slice_index lates x < 3 = subst (λ p. slice_index lates p < 3) (sym here.0) few in
          subst (λ t. GoesWith t (slice_index lates x)) (sym (apart.0 ∙ apart.1 here.0)) (omega (arith, low), low)
      | inr other ↦ subst (λ t. GoesWith t (slice_index lates x)) (sym (apart.0 ∙ other.0)) (was x)
    ]
  ]

  module _
      (deadline : Ms) (told : slice_index_or seen place NotBegun ≡ ToldIdentAsked deadline)
      (few : slice_index lates place < 3) where
    abbrev pub one_late : List ℕ
    one_late = changed_at place (λ n. n + 1) lates

    -- no place has more than 3
    at_most : (x : ℕ) → slice_index one_late x ≤ 3
    at_most x = elim (read_change lates place x (λ n. n + 1) 0) [
      | inl up ↦
          let low : slice_index lates x < 3 = subst (λ p. slice_index lates p < 3) (sym up.0) few in
          omega (arith, up.1, low)
      | inr none ↦ omega (arith, none.0, (was x).0)
    ]

    pub ident_late_few : AreFew (slice_set seen place ToldIdentLate) one_late
    ident_late_few x = elim (read_written_at seen place x ToldIdentLate NotBegun) [
      | inl here ↦ subst (λ t. GoesWith t (slice_index one_late x)) (sym here.1) (at_most x, tt)
      | inr apart ↦ elim (read_change lates place x (λ n. n + 1) 0) [
        | inl up ↦ absurd (cc (sym told ∙ ap (λ p. slice_index_or seen p NotBegun) (sym up.0) ∙ apart.1 up.0))
        | inr none ↦
            subst (λ t. GoesWith t (slice_index one_late x)) (sym apart.0)
            (subst (GoesWith (slice_index_or seen x NotBegun)) (sym none.0) (was x))
      ]
    ]

-- ---- acts after which it stays so, whatever was told before

abbrev pub is_harmless : Act → Bool
is_harmless (ResetBegun (Some place) attempt deadline) = false
is_harmless (ResetLate (Some place)) = false
is_harmless (ResetEndedGen place generation) = false
is_harmless (IdentAsked place attempt deadline) = false
is_harmless (IdentLate place) = false
is_harmless act = true

harmless_step :
    (past : List Event) (act : Act) → is_harmless act ≡ true → HasFewTries past → HasFewTries (Told act ∷ past)
harmless_step past Begun is was = none_few
harmless_step past (ResetBegun None attempt deadline) is was = was
harmless_step past (ResetBegun (Some place) attempt deadline) is was = absurd (cc)
harmless_step past (ResetLate None) is was = was
harmless_step past (ResetLate (Some place)) is was = absurd (cc)
harmless_step past (ResetEndedGen place generation) is was = absurd (cc)
harmless_step past (ResetEndedNone place) is was =
    set_few (place_told past) (ident_lates past) place was (ToldResetEnded false) ((was place).0, tt)
harmless_step past (ResetFailed None) is was = was
harmless_step past (ResetFailed (Some place)) is was =
    set_few (place_told past) (ident_lates past) place was ToldResetFailed ((was place).0, tt)
harmless_step past (IdentAsked place attempt deadline) is was = absurd (cc)
harmless_step past (IdentLate place) is was = absurd (cc)
harmless_step past (Mode place udma ncq in_doubt) is was =
    set_few (place_told past) (ident_lates past) place was ToldMode ((was place).0, tt)
harmless_step past act is was = was

pub few_onto :
    (past : List Event) (acts : List Act) → list_all is_harmless acts ≡ true → HasFewTries past
    → HasFewTries (onto past acts)
few_onto past [] all was = was
few_onto past (act ∷ rest) all was =
    let parts = both (is_harmless act) (list_all is_harmless rest) all in
    few_onto (Told act ∷ past) rest parts.1 (harmless_step past act parts.0 was)

pub harmless_kick : HasKick is_harmless
harmless_kick = record {
  nothing = refl;
  deferred = λ i w. refl;
  exclusive = λ p. refl;
  gone = λ i. refl;
  issued = λ i n t d f. refl;
}

pub harmless_steps : HasSteps is_harmless
harmless_steps = record {
  nothing = refl;
  accepted = λ i. refl;
  refused = λ i w. refl;
  done = λ n s e l c. refl;
  raised = refl;
  lost = refl;
  now = λ t. refl;
  plugged = λ p d. refl;
  unplugged = λ p. refl;
  injected = λ p. refl;
  answered = λ f e. refl;
  condemned = λ f. refl;
  frozen = refl;
  requested = refl;
  expired = λ f. refl;
  drained = refl;
}

pub autopsy_harmless : (act : Act) → is_autopsy_act act ≡ true → is_harmless act ≡ true
autopsy_harmless (ResetBegun (Some place) attempt deadline) is = is
autopsy_harmless (ResetBegun None attempt deadline) is = refl
autopsy_harmless (ResetLate (Some place)) is = is
autopsy_harmless (ResetLate None) is = refl
autopsy_harmless (ResetEndedGen place generation) is = is
autopsy_harmless (IdentAsked place attempt deadline) is = is
autopsy_harmless (IdentLate place) is = is
autopsy_harmless act is = refl

-- ---- where recovery stands

-- what a phase has before it
abbrev pub HasBefore : List PlaceTold → List ℕ → Phase → Type 0
HasBefore seen lates (ResetOwed place attempt ident) = (attempt ≤ 4) × (slice_index lates place < 3)
HasBefore seen lates (ResetOpen place attempt ident deadline) =
    (slice_index_or seen place NotBegun ≡ ToldResetBegun attempt deadline) × (slice_index lates place < 3)
HasBefore seen lates (IdentOwed place attempt) = slice_index lates place < 3
HasBefore seen lates (IdentOpen place attempt deadline) =
    (slice_index_or seen place NotBegun ≡ ToldIdentAsked deadline) × (slice_index lates place < 3)
HasBefore seen lates _ = Unit {0}

abbrev HasSome : List PlaceTold → List ℕ → Option Phase → Type 0
HasSome seen lates None = Unit {0}
HasSome seen lates (Some p) = HasBefore seen lates p

module _ (seen : List PlaceTold) (lates : List ℕ) where
  wanted_has : (place : ℕ) (wanted : Bool) → slice_index lates place < 3
      → HasSome seen lates (if wanted then Some (IdentOwed place (slice_index lates place + 1)) else None)
  wanted_has place true few = few
  wanted_has place false few = tt

  late_has : (place : ℕ) (again : Bool) → nat_lt (slice_index lates place) ident_tries ≡ again
      → HasSome seen lates (if again then Some (ResetOwed place 1 (slice_index lates place + 1)) else None)
  late_has place true is = (omega arith, ltb-true (slice_index lates place) 3 is)
  late_has place false is = tt

  place_has :
      (place : ℕ) (first : Phase) (wanted : Bool) (told : PlaceTold) → slice_index_or seen place NotBegun ≡ told
      → GoesWith told (slice_index lates place) → (slice_index lates place < 3 → HasBefore seen lates first)
      → HasSome seen lates (place_phase place first wanted (slice_index lates place) told)
  place_has place first wanted NotBegun is fits begins = begins fits.1
  place_has place first wanted (ToldResetBegun attempt deadline) is fits begins = (is, fits.1.1)
  place_has place first wanted (ToldResetLate attempt) is fits begins = (omega (arith, fits.1.0), fits.1.1)
  place_has place first wanted (ToldResetEnded true) is fits begins = wanted_has place wanted fits.1
  place_has place first wanted (ToldResetEnded false) is fits begins = tt
  place_has place first wanted ToldResetFailed is fits begins = tt
  place_has place first wanted (ToldIdentAsked deadline) is fits begins = (is, fits.1)
  place_has place first wanted ToldIdentLate is fits begins =
      late_has place (nat_lt (slice_index lates place) ident_tries) refl
  place_has place first wanted ToldMode is fits begins = tt

  host_has : (told : HostTold) → HasSome seen lates (host_phase told)
  host_has HostNotBegun = tt
  host_has ToldHostBegun = tt
  host_has ToldHostEnded = tt

  or_has : (found : Option Phase) (other : Phase) → HasSome seen lates found → HasBefore seen lates other
      → HasBefore seen lates (unwrap_or found other)
  or_has None other own later = later
  or_has (Some p) other own later = own

module _ (past : List Event) (was : HasFewTries past) where
  task_has : (task : Task) → HasSome (place_told past) (ident_lates past) (task_phase past task)
  task_has Host = host_has (place_told past) (ident_lates past) (host_told past)
  task_has (Reset place) =
      place_has (place_told past) (ident_lates past) place (ResetOwed place 1 1) (is_wanted past place)
      (slice_index_or (place_told past) place NotBegun) refl (was place) (λ few. (omega arith, few))
  task_has (Revalidate place) =
      place_has (place_told past) (ident_lates past) place (IdentOwed place 1) (is_wanted past place)
      (slice_index_or (place_told past) place NotBegun) refl (was place) (λ few. few)

  first_has : (todo : List Task) → HasBefore (place_told past) (ident_lates past) (first_phase past todo)
  first_has [] = tt
  first_has (task ∷ rest) =
      or_has (place_told past) (ident_lates past) (task_phase past task) (first_phase past rest) (task_has task)
      (first_has rest)

  phase_by :
      (running autopsied : Bool) (todo : List Task)
      → HasBefore (place_told past) (ident_lates past)
      (if running then (if autopsied then first_phase past todo else Logs) else Idle)
  phase_by true true todo = first_has todo
  phase_by true false todo = tt
  phase_by false autopsied todo = tt

  pub phase_has : (head : PortHead) → HasBefore (place_told past) (ident_lates past) (phase head past)
  phase_has head = phase_by (is_running past) (is_autopsied past) (tasks head past)
