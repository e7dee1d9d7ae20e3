-- What is said of a severed place is read from, and what leaves it.
use Rattle.port_rules.proofs.RecoverByPhase.{waiting_or_begun}
use Rattle.std.proofs.Common.{◌≡◌, ◌∙◌, ℕ, ◌*◌, ◌^◌, Bool, true, false, not, ◌&&◌, ◌||◌, ◌==◌, List, [], ◌∷◌, ◌++◌, Option, None, Some, ◌⊎◌, inl, inr, suc, zero, flat_map, position, bit_or, refl, sym, ap, subst, arith, if◌then◌else◌}
use Rattle.std.specs.Prelude.{slice_index_or}
use Rattle.std.specs.List.{list_all, list_any}
use Rattle.std.specs.Int.{bit_at}
use Rattle.std.proofs.lemmas.Bool.{eqb-true}
use Rattle.std.proofs.lemmas.Nat.Bits.{bit_at-lt, bit_at_or, and_pow}
use Rattle.ata_base.specs.Kinds.{has, dev}
use Rattle.ata_base.specs.declared.fault.Fault.{Fault}
use Rattle.ata_base.specs.declared.fault.Fault.TheVariants.{Serr}
use Rattle.ata_script.specs.declared.port_head.PortHead.{PortHead}
use Rattle.ata_trace.specs.Event.{Event, onto}
use Rattle.ata_trace.specs.Event.Event.{Entered, Told}
use Rattle.ata_trace.specs.declared.act.Act.{Act}
use Rattle.ata_trace.specs.declared.act.Act.TheVariants.{Done, Issued, Log, LogFailed, LogBadSum, LogNotQueued, Begun, Ended, Autopsied, Nothing, WaitingTag, Attached, Detached, Disabled, Plugged, Unplugged, Injected}
use Rattle.ata_base.specs.declared.link_action.LinkAction.TheVariants.{NoAction, Revalidate, Reset as ResetRemedy}
use Rattle.ata_trace.specs.declared.step.Step.{Step}
use Rattle.ata_trace.specs.declared.step.Step.TheVariants.{Recover, Plug, Unplug, Inject}
use Rattle.ata_trace.specs.declared.who.Who.{Who}
use Rattle.drive_model.specs.View.{DriveView}
use Rattle.eh_autopsy.specs.Actions.{wants_reset, is_slower}
use Rattle.eh_flow.specs.declared.phase.Phase.TheVariants.{Logs, Through}
use Rattle.link_model.specs.LinkView.{LinkView, empty_link, linked_drive, with_plugged}
use Rattle.port_past.specs.Clock.{clock}
use Rattle.port_past.specs.Commands.{commands}
use Rattle.port_past.specs.Attachment.{attached, detachments}
use Rattle.port_past.specs.Drain.{is_drained}
use Rattle.port_past.specs.Drives.{plugged_drive}
use Rattle.port_past.specs.Completions.{completions}
use Rattle.port_past.specs.PortState.{is_frozen, is_running, is_autopsied}
use Rattle.port_past.specs.Heads.{places_of}
use Rattle.port_past.specs.Judged.{judged}
use Rattle.port_past.specs.Links.{links, link_at, linked_at, faulted, serror_read}
use Rattle.port_past.specs.Places.{changed_at}
use Rattle.port_past.specs.Slots.{slots}
use Rattle.host_tags.specs.Slots.{is_owned_at}
use Rattle.port_rules.specs.Autopsy.{all_kinds, has_io_error, speed_action, action_of, is_examined, examined_acts, autopsy_acts}
use Rattle.port_rules.specs.Blame.{is_hotplugged}
use Rattle.port_rules.specs.Finish.{finishes, finish_acts}
use Rattle.port_rules.specs.Sorting.{ok_answers, condemnations}
use Rattle.port_rules.specs.Logs.{log_owed}
use Rattle.port_rules.specs.Plug.{fault_acts}
use Rattle.drive_model.specs.Inject.{can_inject}
use Rattle.port_rules.specs.Begin.{timed_out, with_freeze, begin_acts, is_awaited}
use Rattle.port_rules.specs.AutopsyView.{AutopsyView, autopsy_view}
use Rattle.port_rules.specs.Told.{raised_acts}
use Rattle.port_stands.proofs.Again.{none_again, reset_again}
use Rattle.ata_base.proofs.Truth.{both, both_true, either_left}
use Rattle.port_stands.proofs.Blocks.{all_append, left_alone}
use Rattle.ata_trace.proofs.Pasts.{onto_append}
use Rattle.port_past.proofs.Sizes.{true_within, length_attached}
use Rattle.port_stands.proofs.Driven.{read_change}
use Rattle.port_stands.proofs.DrivenKeeps.{read_map}
use Rattle.port_stands.proofs.GuardAutopsy.{Still, still, still_step, is_autopsy_act, autopsy_all}
use Rattle.port_stands.proofs.Likes.{Back, is_behind, back_left}
use Rattle.port_stands.proofs.Lists.{all_answers, all_condemnations, all_with_freeze, all_finishes}
use Rattle.port_stands.proofs.Phases.{logs_runs, IsTask}
use Rattle.port_stands.proofs.Steps.{all_raised}
use Rattle.port_stands.proofs.WholeDirect.{linked_step, reset_owed, whole_owed}
use Rattle.port_stands.proofs.Within.{read_put}
use Rattle.port_stands.specs.All.{AllStands}
use Rattle.port_stands.specs.Handled.{to_reset}
use Rattle.port_stands.specs.Severed.{to_link}
use Rattle.port_stands.proofs.Heads.{HasOnePlace}
use Rattle.port_stands.specs.Words.{RecoveryView, recovery, phase_of}

-- ---- the bit

to_bit : (s : ℕ) → has s 16 ≡ true → bit_at s 16 ≡ 1
to_bit s is = by (bit_at s 16) refl
  where
    by : (b : ℕ) → bit_at s 16 ≡ b → bit_at s 16 ≡ 1
    by zero e = absurd (cc (is, ap (λ n. not (n == 0)) (and_pow s 16 ∙ ap (λ x. x * 65536) e)))
    by (suc n) e = omega (arith, e, bit_at-lt s 16)

from_bit : (s : ℕ) → bit_at s 16 ≡ 1 → has s 16 ≡ true
from_bit s e = ap (λ n. not (n == 0)) (and_pow s 16 ∙ ap (λ x. x * 65536) e)

keep_bit : (s m : ℕ) → has s 16 ≡ true → has (bit_or s m) 16 ≡ true
keep_bit s m is = from_bit (bit_or s m) (bit_at_or s m 16 ∙ omega (arith, to_bit s is, bit_at-lt m 16))

new_bit : (s : ℕ) → has (bit_or s 65536) 16 ≡ true
new_bit s = from_bit (bit_or s 65536) (bit_at_or s 65536 16 ∙ omega (arith, bit_at-lt s 16, phy_at))
  where
    phy_at : bit_at 65536 16 ≡ 1
    phy_at = refl

-- ---- what it is read from

pub record Tie : Type 0 where
  pub stands : RecoveryView
  pub wires : List LinkView

abbrev pub tie : PortHead → List Event → Tie
tie head p = record { stands = recovery head p; wires = links head p }

-- what is told of a place, by these
abbrev pub IsTied : Tie → ℕ → Type 0
IsTied t x = (has (link_at t.wires x).serror 16 ≡ true) ⊎ (((t.stands.running && t.stands.autopsied) ≡ true) × (to_link t.stands x ≡ true))

abbrev pub AreTied : Tie → Type 0
AreTied t = (x : ℕ) → slice_index_or t.stands.attached x false ≡ true → linked_at t.wires x ≡ None → IsTied t x

one_all : (kind : Act → Bool) (act : Act) → kind act ≡ true → list_all kind (act ∷ []) ≡ true
one_all kind act is = rw is

abbrev pub leaves_ties : Act → Bool
leaves_ties (Done number status error lba count) = true
leaves_ties (Issued id number tag deadline fis) = true
leaves_ties (Log place tag status error lba count) = true
leaves_ties (LogFailed place) = true
leaves_ties (LogBadSum place) = true
leaves_ties (LogNotQueued place) = true
leaves_ties act = is_behind act

tie_step : (head : PortHead) (p : List Event) (act : Act) → leaves_ties act ≡ true → tie head (Told act ∷ p) ≡ tie head p
tie_step head p (Done number status error lba count) is = refl
tie_step head p (Issued id number tag deadline fis) is = refl
tie_step head p (Log place tag status error lba count) is = refl
tie_step head p (LogFailed place) is = refl
tie_step head p (LogBadSum place) is = refl
tie_step head p (LogNotQueued place) is = refl
tie_step head p act is = ap (λ (b : Back). record { stands = b.recovery; wires = b.links }) (back_left head p (act ∷ []) (one_all is_behind act is))

pub tie_left : (head : PortHead) (p : List Event) (acts : List Act) → list_all leaves_ties acts ≡ true → tie head (onto p acts) ≡ tie head p
tie_left head p acts all = left_alone leaves_ties (tie head) (tie_step head) p acts all

left_tied : (head : PortHead) (p : List Event) (acts : List Act) → list_all leaves_ties acts ≡ true → AreTied (tie head p) → AreTied (tie head (onto p acts))
left_tied head p acts all was = subst AreTied (sym (tie_left head p acts all)) was

-- a link is changed
changed_tied :
    (t : Tie) (place : ℕ) (g : LinkView → LinkView)
    → ((l : LinkView) → linked_drive (g l) ≡ None → ((linked_drive l ≡ None) × (has l.serror 16 ≡ true → has (g l).serror 16 ≡ true)) ⊎ (has (g l).serror 16 ≡ true))
    → AreTied t → AreTied (record { stands = t.stands; wires = changed_at place g t.wires })
changed_tied t place g keeps was = λ x there cut. elim (read_change t.wires place x g empty_link) [
  | inl here ↦ elim (keeps (link_at t.wires x) (ap linked_drive (sym here.1) ∙ cut)) [
    | inl old ↦ elim (was x there old.0) [
      | inl phy ↦ inl (ap (λ (l : LinkView). has l.serror 16) here.1 ∙ old.1 phy)
      | inr owed ↦ inr owed
    ]
    | inr new ↦ inl (ap (λ (l : LinkView). has l.serror 16) here.1 ∙ new)
  ]
  | inr other ↦ elim (was x there (ap linked_drive (sym other.0) ∙ cut)) [
    | inl phy ↦ inl (ap (λ (l : LinkView). has l.serror 16) other.0 ∙ phy)
    | inr owed ↦ inr owed
  ]
]

faulted_keeps : (step : Step) (l : LinkView) → linked_drive (faulted step l) ≡ None → (linked_drive l ≡ None) × (has l.serror 16 ≡ true → has (faulted step l).serror 16 ≡ true)
faulted_keeps (Inject place (Serr bit)) l cut = (cut, λ is. keep_bit l.serror _ is)
faulted_keeps (Inject place fault) l cut = (cut, λ is. is)
faulted_keeps step l cut = (cut, λ is. is)

-- ---- devices only go

abbrev pub is_no_attach : Act → Bool
is_no_attach (Attached place) = false
is_no_attach act = true

attach_step : (p : List Event) (act : Act) (x : ℕ) → is_no_attach act ≡ true → slice_index_or (attached (Told act ∷ p)) x false ≡ true → slice_index_or (attached p) x false ≡ true
attach_step p (Attached place) x is there = absurd (cc)
attach_step p (Detached place) x is there = elim (read_put (attached p) place x false false) [
  | inl here ↦ absurd (cc (here.1, there))
  | inr other ↦ sym other ∙ there
]
attach_step p (Disabled place) x is there = elim (read_put (attached p) place x false false) [
  | inl here ↦ absurd (cc (here.1, there))
  | inr other ↦ sym other ∙ there
]
attach_step p act x is there = there

pub attach_less : (p : List Event) (acts : List Act) (x : ℕ) → list_all is_no_attach acts ≡ true → slice_index_or (attached (onto p acts)) x false ≡ true → slice_index_or (attached p) x false ≡ true
attach_less p [] x all there = there
attach_less p (act ∷ rest) x all there =
    let parts = both (is_no_attach act) (list_all is_no_attach rest) all in
    attach_step p act x parts.0 (attach_less (Told act ∷ p) rest x parts.1 there)

or_second : (a b c d : Bool) → b ≡ true → (a || b || c || d) ≡ true
or_second true true c d e = refl
or_second false true c d e = refl
or_second a false c d e = absurd (cc)

or_middle : (a b c : Bool) → b ≡ true → (a || b || c) ≡ true
or_middle true true c e = refl
or_middle false true c e = refl
or_middle a false c e = absurd (cc)

hot_resets : (s : AutopsyView) → has s.serror 16 ≡ true → action_of s ≡ ResetRemedy
hot_resets s phy =
    ap (λ b. if b then ResetRemedy else (if has_io_error s || not (all_kinds s == 0 || all_kinds s == 2 ^ dev) then Revalidate else NoAction))
    (or_second s.frozen (is_hotplugged s) (wants_reset (all_kinds s)) (is_slower (speed_action s))
    (either_left (has s.serror 16) (has s.serror 26 && not (s.pmp && not s.attached)) phy))

told_examined : (s : AutopsyView) → has s.serror 16 ≡ true → is_examined s ≡ true
told_examined s phy = or_middle (list_any (is_owned_at s.place) s.slots) (not (s.serror == 0)) ((s.place == 0) && not s.pmp && s.frozen) (by (s.serror == 0) refl)
  where
    by : (b : Bool) → (s.serror == 0) ≡ b → not (s.serror == 0) ≡ true
    by true e = absurd (cc (phy, ap (λ n. has n 16) (eqb-true s.serror 0 e)))
    by false e = ap not e

module _ (head : PortHead) (past : List Event) (time : ℕ) (who : Who) (seq : ℕ) (all : AllStands head past) (was : AreTied (tie head past)) where
  pub left_entry : (step : Step) (acts : List Act) → list_all leaves_ties acts ≡ true → AreTied (tie head (onto (Entered time who seq step ∷ past) acts))
  left_entry step acts leaves = left_tied head (Entered time who seq step ∷ past) acts leaves was

  raised_tied : (p : List Event) → AreTied (tie head p) → AreTied (tie head (onto p (raised_acts past)))
  raised_tied p t = left_tied head p (raised_acts past) (all_raised leaves_ties past refl) t

  pub plug_tied : (place drive : ℕ) (b : Bool) → AreTied (tie head (onto (Entered time who seq (Plug place drive) ∷ past) (if b then Plugged place drive ∷ raised_acts past else Nothing ∷ [])))
  plug_tied place drive false = left_entry (Plug place drive) (Nothing ∷ []) refl
  plug_tied place drive true =
      raised_tied (Told (Plugged place drive) ∷ Entered time who seq (Plug place drive) ∷ past)
      (changed_tied (tie head past) place (with_plugged (Some drive)) (λ l cut. inr (new_bit l.serror)) was)

  pub unplug_tied : (place : ℕ) (b : Bool) → AreTied (tie head (onto (Entered time who seq (Unplug place) ∷ past) (if b then Unplugged place ∷ raised_acts past else Nothing ∷ [])))
  unplug_tied place false = left_entry (Unplug place) (Nothing ∷ []) refl
  unplug_tied place true =
      raised_tied (Told (Unplugged place) ∷ Entered time who seq (Unplug place) ∷ past)
      (changed_tied (tie head past) place (with_plugged None) (λ l cut. inr (new_bit l.serror)) was)

  injected_tied : (step : Step) (place : ℕ) → AreTied (tie head (Told (Injected place) ∷ Entered time who seq step ∷ past))
  injected_tied step place = changed_tied (tie head past) place (faulted step) (λ l cut. inl (faulted_keeps step l cut)) was

  fault_tied : (step : Step) (place : ℕ) (fault : Fault) (v : Option DriveView) → AreTied (tie head (onto (Entered time who seq step ∷ past) (fault_acts past place fault v)))
  fault_tied step place (Serr bit) v = raised_tied (Told (Injected place) ∷ Entered time who seq step ∷ past) (injected_tied step place)
  fault_tied step place fault None = left_entry step (Nothing ∷ []) refl
  fault_tied step place fault (Some v) = by (can_inject fault v)
    where
      by : (b : Bool) → AreTied (tie head (onto (Entered time who seq step ∷ past) (if b then Injected place ∷ [] else Nothing ∷ [])))
      by true = injected_tied step place
      by false = left_entry step (Nothing ∷ []) refl

  pub inject_tied : (step : Step) (place : ℕ) (fault : Fault) (b : Bool) → AreTied (tie head (onto (Entered time who seq step ∷ past) (if b then fault_acts past place fault (plugged_drive head past place) else Nothing ∷ [])))
  inject_tied step place fault true = fault_tied step place fault (plugged_drive head past place)
  inject_tied step place fault false = left_entry step (Nothing ∷ []) refl

  -- ---- where recovery doesn't run, or makes its autopsy, or ends

  -- before the autopsy SError tells
  early_phy : (is_running past && is_autopsied past) ≡ false → (x : ℕ) → slice_index_or (attached past) x false ≡ true → linked_at (links head past) x ≡ None → has (link_at (links head past) x).serror 16 ≡ true
  early_phy early x there cut = elim (was x there cut) [
    | inl phy ↦ phy
    | inr owed ↦ absurd (cc (early, owed.0))
  ]

  begin_tied : is_running past ≡ false → AreTied (tie head (onto (Entered time who seq Recover ∷ past) (begin_acts head past)))
  begin_tied idle =
      let marks : List Act = condemnations (λ f. true) timed_out (slots past) (completions head past) in
      left_tied head (Told Begun ∷ Entered time who seq Recover ∷ past) (ok_answers (slots past) (completions head past) ++ with_freeze (is_frozen past) marks)
      (all_append leaves_ties (ok_answers (slots past) (completions head past)) (with_freeze (is_frozen past) marks)
      (all_answers leaves_ties (λ f e. refl) (slots past) (completions head past))
      (all_with_freeze leaves_ties (is_frozen past) marks refl (all_condemnations leaves_ties (λ f. true) timed_out (λ f. refl) (slots past) (completions head past))))
      (λ x there cut. inl (early_phy (ap (λ b. b && is_autopsied past) idle) x there cut))

  waiting_tied : is_running past ≡ false → (found : Option ℕ) → AreTied (tie head (onto (Entered time who seq Recover ∷ past) (waiting_or_begun head past found)))
  waiting_tied idle (Some tag) = left_entry Recover (WaitingTag tag ∷ []) refl
  waiting_tied idle None = begin_tied idle

  pub rests_tied :
      is_running past ≡ false → (asked : Bool)
      → AreTied (tie head (onto (Entered time who seq Recover ∷ past) (if asked then waiting_or_begun head past (position (is_awaited (clock past) (is_drained past)) (slots past)) else Nothing ∷ [])))
  rests_tied idle true = waiting_tied idle (position (is_awaited (clock past) (is_drained past)) (slots past))
  rests_tied idle false = left_entry Recover (Nothing ∷ []) refl

  pub end_tied : IsTask (recovery head past) Through → AreTied (tie head (onto (Entered time who seq Recover ∷ past) (finish_acts past)))
  end_tied task =
      let start : List Event = Entered time who seq Recover ∷ past in
      let told : List Act = finishes (commands past) (detachments past) (slots past) (judged past) in
      let same : tie head (onto start told) ≡ tie head past =
      tie_left head start told (all_finishes leaves_ties (record { nodev = λ i n. refl; retried = λ i n r. refl; failed = λ i n j. refl }) (commands past) (detachments past) (slots past) (judged past)) in
      subst (λ p. AreTied (tie head p)) (sym (onto_append start told (Ended ∷ [])))
      (λ x there cut. elim (was x (ap (λ (t : Tie). slice_index_or t.stands.attached x false) (sym same) ∙ there) (ap (λ (t : Tie). linked_at t.wires x) (sym same) ∙ cut)) [
        | inl phy ↦ inl (ap (λ (t : Tie). has (link_at t.wires x).serror 16) same ∙ phy)
        | inr owed ↦ absurd (cc (owed.1, none_again (recovery head past) x task.at))
      ])

-- the autopsy
module _ (head : PortHead) (past : List Event) (who : Who) (seq : ℕ) (fits : HasOnePlace head) (all : AllStands head past) (was : AreTied (tie head past)) where
  abbrev base : List Event
  base = onto (Entered (clock past) who seq Recover ∷ past) (flat_map (λ place. examined_acts (autopsy_view head past place)) (places_of head))

  pub autopsy_tied : phase_of (recovery head past) ≡ Logs → log_owed head past ≡ None → AreTied (tie head (onto (Entered (clock past) who seq Recover ∷ past) (autopsy_acts head past)))
  autopsy_tied at waits =
      subst (λ p. AreTied (tie head p)) (sym (onto_append (Entered (clock past) who seq Recover ∷ past) (flat_map (λ place. examined_acts (autopsy_view head past place)) (places_of head)) (Autopsied ∷ []))) tied
    where
      runs : (is_running past ≡ true) × (is_autopsied past ≡ false)
      runs = logs_runs (recovery head past) at

      same : still base ≡ still past
      same = left_alone is_autopsy_act still still_step (Entered (clock past) who seq Recover ∷ past) (flat_map (λ place. examined_acts (autopsy_view head past place)) (places_of head)) (autopsy_all head past)

      linked_same : (x : ℕ) → linked_at (links head (Told Autopsied ∷ base)) x ≡ linked_at (links head past) x
      linked_same x = elim (read_map serror_read (links head base) x) [
        | inl e ↦ ap linked_drive e ∙ left_alone is_autopsy_act (λ p. linked_at (links head p) x) (linked_step head x) (Entered (clock past) who seq Recover ∷ past) (flat_map (λ place. examined_acts (autopsy_view head past place)) (places_of head)) (autopsy_all head past)
        | inr e ↦ ap linked_drive e ∙ left_alone is_autopsy_act (λ p. linked_at (links head p) x) (linked_step head x) (Entered (clock past) who seq Recover ∷ past) (flat_map (λ place. examined_acts (autopsy_view head past place)) (places_of head)) (autopsy_all head past)
      ]

      owed : (x : ℕ) → slice_index_or (attached past) x false ≡ true → has (link_at (links head past) x).serror 16 ≡ true → (b : Bool) → (head.pmp && is_frozen past) ≡ b → to_reset (recovery head (Told Autopsied ∷ base)) x ≡ true
      owed x there phy true e = whole_owed head past (clock past) who seq fits all.whole at waits (inr all.there) e x there
      owed x there phy false e =
          reset_owed head past (clock past) who seq fits all.whole at waits (inr all.there) x (all.whole.stands.within.attached x there)
          (omega (arith, true_within (attached past) x there, length_attached past)) (told_examined (autopsy_view head past x) phy) (hot_resets (autopsy_view head past x) phy) e

      tied : AreTied (tie head (Told Autopsied ∷ base))
      tied x there cut =
          let here : slice_index_or (attached past) x false ≡ true = ap (λ (s : Still). slice_index_or s.attached x false) (sym same) ∙ there in
          let phy = early_phy head past (clock past) who seq all was (ap (λ b. b && is_autopsied past) runs.0 ∙ runs.1) x here (sym (linked_same x) ∙ cut) in
          inr (
            both_true (is_running base) true (ap (λ (s : Still). s.running) same ∙ runs.0) refl,
            reset_again (recovery head (Told Autopsied ∷ base)) x (owed x here phy (head.pmp && is_frozen past) refl),
          )
