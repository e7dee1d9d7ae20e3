-- What the autopsy hands to the tasks, but at a frozen multiplier.
use Rattle.std.proofs.Common.{◌≡◌, ◌≢◌, ◌∙◌, ℕ, ◌+◌, ◌<◌, ◌≤◌, Bool, true, false, not, ◌&&◌, ◌||◌, ◌==◌, cond, List, [], ◌∷◌, Option, None, Some, ◌⊎◌, inl, inr, suc, zero, length, map, flat_map, find, is_some, is_none, slice_get, refl, sym, ap, subst, arith, if◌then◌else◌}
use Rattle.std.specs.Prelude.{slice_index_or}
use Rattle.std.specs.List.{list_any, range_with_len}
use Rattle.std.proofs.lemmas.Bool.{eqb-true, eq-eqb}
use Rattle.ata_base.specs.declared.regs.Regs.{Regs}
use Rattle.ata_script.specs.declared.port_head.PortHead.{PortHead}
use Rattle.ata_trace.specs.Event.{Event, onto}
use Rattle.ata_trace.specs.Event.Event.{Entered, Told}
use Rattle.ata_trace.specs.declared.act.Act.{Act}
use Rattle.ata_trace.specs.declared.act.Act.TheVariants.{Judged, Recorded, Cleared, Hot, Action, Autopsied}
use Rattle.ata_base.specs.declared.link_action.LinkAction.TheVariants.{Reset}
use Rattle.ata_base.specs.declared.speed_action.SpeedAction.TheVariants.{Speed}
use Rattle.ata_trace.specs.declared.step.Step.TheVariants.{Recover}
use Rattle.ata_trace.specs.declared.who.Who.{Who}
use Rattle.drive_model.specs.View.{DriveView}
use Rattle.drive_model.specs.declared.held.Held.{Held}
use Rattle.drive_model.specs.declared.queued_error.QueuedError.{QueuedError}
use Rattle.eh_flow.specs.declared.phase.Phase.TheVariants.{Logs}
use Rattle.host_tags.specs.Slots.{flight_at, is_owned_at, is_owned_queued_at}
use Rattle.host_tags.specs.declared.in_flight.InFlight.{InFlight}
use Rattle.link_model.specs.LinkView.{linked_drive}
use Rattle.port_past.specs.Causes.{tferr}
use Rattle.port_past.specs.Clock.{clock}
use Rattle.port_past.specs.Attachment.{attached}
use Rattle.port_past.specs.Drives.{drives}
use Rattle.port_past.specs.PortState.{is_frozen, is_running, is_autopsied}
use Rattle.port_past.specs.Hot.{was_hot}
use Rattle.port_past.specs.Links.{links, link_at, linked_at, limited, serror_read}
use Rattle.port_past.specs.Logs.{logs}
use Rattle.port_past.specs.Noted.{tferr_noted}
use Rattle.port_past.specs.Slots.{slots}
use Rattle.port_past.specs.Tasks.{actions, action_tasks, tasks_made, reset_tasks}
use Rattle.eh_autopsy.specs.declared.failed_issue.FailedIssue.{FailedIssue}
use Rattle.drive_model.specs.declared.log_told.LogTold.{LogTold}
use Rattle.drive_model.specs.declared.log_told.LogTold.TheVariants.{Page, BadPage, NoPage}
use Rattle.port_rules.specs.Autopsy.{action_of, is_examined, examined_acts}
use Rattle.port_past.specs.Heads.{places_of}
use Rattle.port_rules.specs.Logs.{is_log_owed, log_owed}
use Rattle.port_rules.specs.AutopsyView.{autopsy_view}
use Rattle.port_stands.proofs.Blocks.{left_alone}
use Rattle.ata_trace.proofs.Pasts.{onto_append}
use Rattle.port_stands.proofs.Driven.{linked_plugged}
use Rattle.port_stands.proofs.DrivenKeeps.{keeps_link, read_map}
use Rattle.port_stands.proofs.GuardAutopsy.{Still, still, still_step, is_autopsy_act, autopsy_all, frozen_resets}
use Rattle.port_past.proofs.PlaceSizes.{length_links, length_failures, length_hot}
use Rattle.port_stands.proofs.HandOver.{linked_within, said_at, unread_resets}
use Rattle.port_stands.proofs.Handled.{handled_task}
use Rattle.port_stands.proofs.Judgements.{flying_within, owned_seen, or_first}
use Rattle.port_stands.proofs.Phases.{logs_runs}
use Rattle.port_stands.proofs.TaskList.{is_reset_of, made_single, said_reset, owed_by, attached_reset}
use Rattle.port_stands.specs.Dated.{AreThere}
use Rattle.port_stands.proofs.WholeEnd.{none_failed_early}
use Rattle.port_stands.specs.Driven.{IsHeld}
use Rattle.port_stands.specs.Handled.{to_reset, handling, AreHandled}
use Rattle.ata_base.specs.Each.{Each}
use Rattle.port_stands.proofs.Heads.{HasOnePlace}
use Rattle.port_stands.specs.Whole.{HandsOver, IsWhole}
use Rattle.port_stands.specs.Words.{recovery, phase_of}
use Rattle.port_past.proofs.Sizes.{length_attached}

pub linked_step : (head : PortHead) (x : ℕ) (p : List Event) (act : Act) → is_autopsy_act act ≡ true → linked_at (links head (Told act ∷ p)) x ≡ linked_at (links head p) x
linked_step head x p (Judged number kinds) is = refl
linked_step head x p (Cleared place) is = refl
linked_step head x p (Action place kinds chosen) is = refl
linked_step head x p (Hot place generation) is = (keeps_link (limited generation) (λ l. refl) (λ l. refl) (links head p) place x).1
linked_step head x p (Recorded place io dubious kinds ncq_off speed_down pio keep (Speed generation)) is = (keeps_link (limited generation) (λ l. refl) (λ l. refl) (links head p) place x).1
linked_step head x p (Recorded place io dubious kinds ncq_off speed_down pio keep action) is = refl
linked_step head x p act is = absurd (cc)

drives_step : (head : PortHead) (p : List Event) (act : Act) → is_autopsy_act act ≡ true → drives head (Told act ∷ p) ≡ drives head p
drives_step head p (Judged number kinds) is = refl
drives_step head p (Cleared place) is = refl
drives_step head p (Action place kinds chosen) is = refl
drives_step head p (Hot place generation) is = refl
drives_step head p (Recorded place io dubious kinds ncq_off speed_down pio keep action) is = refl
drives_step head p act is = absurd (cc)

failures_step : (p : List Event) (act : Act) → is_autopsy_act act ≡ true → tferr (Told act ∷ p) ≡ tferr p
failures_step p (Judged number kinds) is = refl
failures_step p (Cleared place) is = refl
failures_step p (Action place kinds chosen) is = refl
failures_step p (Hot place generation) is = refl
failures_step p (Recorded place io dubious kinds ncq_off speed_down pio keep action) is = refl
failures_step p act is = absurd (cc)

queued_seen : (place tag : ℕ) (slots : List (Option InFlight)) (f : InFlight) → flight_at slots tag ≡ Some f → f.place ≡ place → f.owned ≡ true → f.queued ≡ true → list_any (is_owned_queued_at place) slots ≡ true
queued_seen place tag [] f here there own queued = absurd (cc)
queued_seen place zero (None ∷ slots) f here there own queued = absurd (cc)
queued_seen place zero (Some g ∷ slots) f here there own queued =
    let same : g ≡ f = cc in
    ap (λ b. b || list_any (is_owned_queued_at place) slots)
    (ap (λ (y : InFlight). (y.place == place) && y.owned && y.queued) same ∙ all_three (f.place == place) f.owned f.queued (eq-eqb f.place place there) own queued)
  where
    all_three : (a b c : Bool) → a ≡ true → b ≡ true → c ≡ true → (a && b && c) ≡ true
    all_three true true true x y z = refl
    all_three false b c x y z = absurd (cc)
    all_three true false c x y z = absurd (cc)
    all_three true true false x y z = absurd (cc)
queued_seen place (suc tag) (s ∷ slots) f here there own queued = later (is_owned_queued_at place s) _ (queued_seen place tag slots f here there own queued)
  where
    later : (a b : Bool) → b ≡ true → (a || b) ≡ true
    later true b e = refl
    later false b e = e

none_found : (p : ℕ → Bool) (k n x : ℕ) → k ≤ x → x < k + n → find p (range_with_len k n) ≡ None → p x ≡ false
none_found p k zero x low high is = absurd (omega (arith, low, high))
none_found p k (suc n) x low high is = by (p k) refl is (k == x) refl (λ more rest. none_found p (k + 1) n x more (omega (arith, high)) rest)
  where
    apart : (a b : ℕ) → (a == b) ≡ false → a ≢ b
    apart a b e same = cc (e, eq-eqb a b same)

    next : (a b : ℕ) → a ≤ b → a ≢ b → a + 1 ≤ b
    next a b low other = omega (arith, low, other)

    by : (b : Bool) → p k ≡ b → cond b (Some k) (find p (range_with_len (k + 1) n)) ≡ None → (c : Bool) → (k == x) ≡ c
        → (k + 1 ≤ x → find p (range_with_len (k + 1) n) ≡ None → p x ≡ false) → p x ≡ false
    by true e is c d later = absurd (cc)
    by false e is true d later = ap p (sym (eqb-true k x d)) ∙ e
    by false e is false d later = later (next k x low (apart k x d)) is

failure_at : (fs : List (Option FailedIssue)) (x : ℕ) (failure : FailedIssue) → slice_index_or fs x None ≡ Some failure → x < length fs
failure_at [] x failure is = absurd (cc)
failure_at (f ∷ fs) zero failure is = omega arith
failure_at (f ∷ fs) (suc x) failure is = omega (arith, failure_at fs x failure is)

module _ (head : PortHead) (past : List Event) (time : ℕ) (who : Who) (seq : ℕ) (fits : HasOnePlace head) (was : IsWhole head past)
    (at : phase_of (recovery head past) ≡ Logs) (waits : log_owed head past ≡ None) (either : ((head.pmp && is_frozen past) ≡ false) ⊎ (AreThere past)) where
  abbrev start : List Event
  start = Entered time who seq Recover ∷ past

  abbrev told : List Act
  told = flat_map (λ place. examined_acts (autopsy_view head past place)) (places_of head)

  abbrev base : List Event
  base = onto (Entered time who seq Recover ∷ past) (flat_map (λ place. examined_acts (autopsy_view head past place)) (places_of head))

  runs : (is_running past ≡ true) × (is_autopsied past ≡ false)
  runs = logs_runs (recovery head past) at

  same_still : still base ≡ still past
  same_still = left_alone is_autopsy_act still still_step start told (autopsy_all head past)

  thawed_plain : is_frozen past ≡ false → (head.pmp && is_frozen past) ≡ false
  thawed_plain cool = ap (λ b. head.pmp && b) cool ∙ and_false head.pmp
    where
      and_false : (b : Bool) → (b && false) ≡ false
      and_false true = refl
      and_false false = refl

  -- a place where the autopsy says reset is to be reset
  pub reset_owed : (x : ℕ) → x < head.places → x < 15 → is_examined (autopsy_view head past x) ≡ true → action_of (autopsy_view head past x) ≡ Reset → (head.pmp && is_frozen past) ≡ false → to_reset (recovery head (Told Autopsied ∷ base)) x ≡ true
  reset_owed x within few seen resets narrow =
      let said : slice_index_or (actions base) x None ≡ Some Reset = said_at head past start 0 head.places x (omega arith) (omega (arith, within)) few seen ∙ ap Some resets in
      let plain : (head.pmp && is_frozen base) ≡ false = ap (λ (s : Still). head.pmp && s.frozen) same_still ∙ narrow in
      let new = was.stands.guarded.new runs.0 runs.1 in
      owed_by (recovery head (Told Autopsied ∷ base)) x (tasks_made (head.pmp && is_frozen base) (attached base) (was_hot base) (actions base))
      (ap (λ (s : Still). s.seen) same_still ∙ new.1.0)
      (ap (λ b. list_any (is_reset_of x) (tasks_made b (attached base) (was_hot base) (actions base))) plain
      ∙ subst (λ n. list_any (is_reset_of n) (action_tasks 0 (actions base)) ≡ true) (plus x) (said_reset 0 x (actions base) said))
    where
      plus : (x : ℕ) → 0 + x ≡ x
      plus x = omega arith

  owned_at : (tag : ℕ) (f : InFlight) → flight_at (slots past) tag ≡ Some f → f.owned ≡ true
  owned_at = was.stands.guarded.owned runs.0

  examined_at : (x tag : ℕ) (f : InFlight) → flight_at (slots past) tag ≡ Some f → f.place ≡ x → is_examined (autopsy_view head past x) ≡ true
  examined_at x tag f here there =
      or_first (list_any (is_owned_at x) (slots past)) (not ((autopsy_view head past x).serror == 0)) ((x == 0) && not head.pmp && is_frozen past)
      (owned_seen x tag (slots past) f here (ap (λ b. b && f.owned) (eq-eqb f.place x there) ∙ owned_at tag f here))

  few_places : (x d : ℕ) → linked_at (links head past) x ≡ Some d → x < 15
  few_places x d linked = omega (arith, linked_within (links head past) x d linked, length_links head past)

  -- a place with a device is to be reset where the host is
  pub whole_owed : (head.pmp && is_frozen past) ≡ true → (x : ℕ) → slice_index_or (attached past) x false ≡ true → to_reset (recovery head (Told Autopsied ∷ base)) x ≡ true
  whole_owed wide x is =
      let whole : (head.pmp && is_frozen base) ≡ true = ap (λ (s : Still). head.pmp && s.frozen) same_still ∙ wide in
      let new = was.stands.guarded.new runs.0 runs.1 in
      owed_by (recovery head (Told Autopsied ∷ base)) x (tasks_made (head.pmp && is_frozen base) (attached base) (was_hot base) (actions base))
      (ap (λ (s : Still). s.seen) same_still ∙ new.1.0)
      (ap (λ b. list_any (is_reset_of x) (tasks_made b (attached base) (was_hot base) (actions base))) whole
      ∙ subst (λ n. list_any (is_reset_of n) (reset_tasks 0 (attached base) (was_hot base)) ≡ true) (plus x)
      (attached_reset 0 x (attached base) (was_hot base) (length_attached base ∙ sym (length_hot base)) (ap (λ (s : Still). slice_index_or s.attached x false) same_still ∙ is)))
    where
      plus : (x : ℕ) → 0 + x ≡ x
      plus x = omega arith

  -- a place of a frozen port with an issue in flight is to be reset
  frozen_owed : is_frozen past ≡ true → (x tag : ℕ) (f : InFlight) → x < 15 → flight_at (slots past) tag ≡ Some f → f.place ≡ x → to_reset (recovery head (Told Autopsied ∷ base)) x ≡ true
  frozen_owed cold x tag f few here there = by (head.pmp && is_frozen past) refl
    where
      narrow_owed : (head.pmp && is_frozen past) ≡ false → to_reset (recovery head (Told Autopsied ∷ base)) x ≡ true
      narrow_owed narrow =
          reset_owed x (subst (λ y. y < head.places) there (flying_within head past was.stands.known was.stands.within tag f here)) few (examined_at x tag f here there)
          (frozen_resets (autopsy_view head past x) cold) narrow

      by : (b : Bool) → (head.pmp && is_frozen past) ≡ b → to_reset (recovery head (Told Autopsied ∷ base)) x ≡ true
      by false e = narrow_owed e
      by true e = elim either [
        | inl narrow ↦ absurd (cc (narrow, e))
        | inr all ↦ whole_owed e x
            (ap (λ p. slice_index_or (attached past) p false) (sym there)
            ∙ all.there (ap (λ b. b && is_autopsied past) runs.0 ∙ runs.1) tag f here)
      ]

  -- so is a place of a thawed port whose drive is stopped
  stopped_owed : is_frozen past ≡ false → (x d : ℕ) (v : DriveView) (e : QueuedError) → linked_at (links head past) x ≡ Some d → slice_get (drives head past) d ≡ Some v → v.stopped ≡ Some e → to_reset (recovery head (Told Autopsied ∷ base)) x ≡ true
  stopped_owed cool x d v e linked get by =
      let n = was.handled.logs_noted runs.0 runs.1 cool x d v linked get (λ none. cc) in
      let s = was.driven.stopped d v e get by in
      let there : s.flight.place ≡ x =
      was.driven.plugged s.flight.place x d (linked_plugged (link_at (links head past) s.flight.place) d s.flies.linked) (linked_plugged (link_at (links head past) x) d linked) in
      let within : x < head.places = subst (λ y. y < head.places) there (flying_within head past was.stands.known was.stands.within e.tag s.flight s.flies.here) in
      by_log (slice_index_or (logs past) x None) refl n.0 n.1 e.tag s.flight s.flies.here there s.queued within (few_places x d linked)
    where
      owed_log : (x tag : ℕ) (f : InFlight) → is_some (slice_index_or (tferr_noted past) x None) ≡ true → slice_index_or (logs past) x None ≡ None → flight_at (slots past) tag ≡ Some f → f.place ≡ x → f.queued ≡ true → is_log_owed (tferr_noted past) (logs past) (slots past) x ≡ true
      owed_log x tag f noted_x none here there queued =
          three (is_some (slice_index_or (tferr_noted past) x None)) (is_none (slice_index_or (logs past) x None)) (list_any (is_owned_queued_at x) (slots past)) noted_x (ap is_none none)
          (queued_seen x tag (slots past) f here there (owned_at tag f here) queued)
        where
          three : (a b c : Bool) → a ≡ true → b ≡ true → c ≡ true → (a && b && c) ≡ true
          three true true true x y z = refl
          three false b c x y z = absurd (cc)
          three true false c x y z = absurd (cc)
          three true true false x y z = absurd (cc)

      by_log :
          (found : Option LogTold) → slice_index_or (logs past) x None ≡ found → is_some (slice_index_or (tferr_noted past) x None) ≡ true
          → ((tag : ℕ) (regs : Regs) → slice_index_or (logs past) x None ≢ Some (Page tag regs)) → (tag : ℕ) (f : InFlight) → flight_at (slots past) tag ≡ Some f → f.place ≡ x → f.queued ≡ true
          → x < head.places → x < 15 → to_reset (recovery head (Told Autopsied ∷ base)) x ≡ true
      by_log None is noted_x no_page tag f here there queued within few =
          absurd (cc (
            owed_log x tag f noted_x is here there queued,
            none_found (is_log_owed (tferr_noted past) (logs past) (slots past)) 0 head.places x (omega arith) (omega (arith, within))
                (ap (λ b. if b then None else find (is_log_owed (tferr_noted past) (logs past) (slots past)) (places_of head)) (sym cool) ∙ waits),
          ))
      by_log (Some (Page t r)) is noted_x no_page tag f here there queued within few = absurd (no_page t r is)
      by_log (Some BadPage) is noted_x no_page tag f here there queued within few =
          reset_owed x within few (examined_at x tag f here there)
          (unread_resets (autopsy_view head past x) BadPage tag f here (ap (λ b. b && f.owned) (eq-eqb f.place x there) ∙ owned_at tag f here) is refl) (thawed_plain cool)
      by_log (Some NoPage) is noted_x no_page tag f here there queued within few =
          reset_owed x within few (examined_at x tag f here there)
          (unread_resets (autopsy_view head past x) NoPage tag f here (ap (λ b. b && f.owned) (eq-eqb f.place x there) ∙ owned_at tag f here) is refl) (thawed_plain cool)

  -- whichever it is, a place at which a drive does something is to be reset
  linked_was : (x d : ℕ) → linked_at (links head (Told Autopsied ∷ base)) x ≡ Some d → linked_at (links head past) x ≡ Some d
  linked_was x d linked =
      sym (left_alone is_autopsy_act (λ p. linked_at (links head p) x) (linked_step head x) start told (autopsy_all head past)) ∙ sym (read_off x) ∙ linked
    where
      read_off : (x : ℕ) → linked_at (map serror_read (links head base)) x ≡ linked_at (links head base) x
      read_off x = elim (read_map serror_read (links head base) x) [
        | inl e ↦ ap linked_drive e
        | inr e ↦ ap linked_drive e
      ]

  drives_were : drives head (Told Autopsied ∷ base) ≡ drives head past
  drives_were = left_alone is_autopsy_act (drives head) (drives_step head) start told (autopsy_all head past)

  failures_were : tferr (Told Autopsied ∷ base) ≡ tferr past
  failures_were = left_alone is_autopsy_act tferr failures_step start told (autopsy_all head past)

  stopped_idle : (x d : ℕ) (v : DriveView) → linked_at (links head past) x ≡ Some d → slice_get (drives head past) d ≡ Some v → to_reset (recovery head (Told Autopsied ∷ base)) x ≡ false → (frozen : Bool) → is_frozen past ≡ frozen → (stopped : Option QueuedError) → v.stopped ≡ stopped → v.stopped ≡ None
  stopped_idle x d v linked get owed frozen frost None by = by
  stopped_idle x d v linked get owed false frost (Some e) by = absurd (cc (stopped_owed frost x d v e linked get by, owed))
  stopped_idle x d v linked get owed true frost (Some e) by =
      let s = was.driven.stopped d v e get by in
      let there : s.flight.place ≡ x =
      was.driven.plugged s.flight.place x d (linked_plugged (link_at (links head past) s.flight.place) d s.flies.linked) (linked_plugged (link_at (links head past) x) d linked) in
      absurd (cc (frozen_owed frost x e.tag s.flight (few_places x d linked) s.flies.here there, owed))

  held_idle : (x d : ℕ) (v : DriveView) → linked_at (links head past) x ≡ Some d → slice_get (drives head past) d ≡ Some v → to_reset (recovery head (Told Autopsied ∷ base)) x ≡ false → v.stopped ≡ None → (frozen : Bool) → is_frozen past ≡ frozen → (held : List Held) → v.held ≡ held → Each (IsHeld head past d) held → v.held ≡ []
  held_idle x d v linked get owed none frozen frost [] is each = is
  held_idle x d v linked get owed none false frost (h ∷ rest) is each = was.handled.logs_halted runs.0 runs.1 frost x d v linked get none
  held_idle x d v linked get owed none true frost (h ∷ rest) is each =
      let k = each.0 in
      let there : k.flight.place ≡ x =
      was.driven.plugged k.flight.place x d (linked_plugged (link_at (links head past) k.flight.place) d k.flies.linked) (linked_plugged (link_at (links head past) x) d linked) in
      absurd (cc (frozen_owed frost x h.tag k.flight (few_places x d linked) k.flies.here there, owed))

  failed_none : (x : ℕ) → to_reset (recovery head (Told Autopsied ∷ base)) x ≡ false → (frozen : Bool) → is_frozen past ≡ frozen → (found : Option FailedIssue) → slice_index_or (tferr past) x None ≡ found → slice_index_or (tferr past) x None ≡ None
  failed_none x owed false frost found is = none_failed_early head past time who seq was runs.0 runs.1 frost x
  failed_none x owed true frost None is = is
  failed_none x owed true frost (Some failure) is =
      let s = was.driven.struck x failure is in
      absurd (cc (frozen_owed frost x s.tag s.flight (omega (arith, failure_at (tferr past) x failure is, length_failures past)) s.here s.there, owed))

  autopsy_hands : AreHandled (handling head (Told Autopsied ∷ base))
  autopsy_hands =
      handled_task (handling head (Told Autopsied ∷ base)) (ap (λ (s : Still). s.running) same_still ∙ runs.0) refl
      (λ x d v linked get owed.
      let l = linked_was x d linked in
      let g : slice_get (drives head past) d ≡ Some v = ap (λ ds. slice_get ds d) (sym drives_were) ∙ get in
      let none = stopped_idle x d v l g owed (is_frozen past) refl v.stopped refl in
      record { holds = held_idle x d v l g owed none (is_frozen past) refl v.held refl (was.driven.held d v g); stopped = none })
      (λ x owed. ap (λ f. slice_index_or f x None) failures_were ∙ failed_none x owed (is_frozen past) refl (slice_index_or (tferr past) x None) refl)
      (made_single (head.pmp && is_frozen base) (attached base) (was_hot base) (actions base))

-- the autopsy hands over what it should, where it doesn't reset the host, or the devices of what flies are there
pub hands_over :
    (head : PortHead) (past : List Event) (who : Who) (seq : ℕ) → HasOnePlace head → IsWhole head past → ((head.pmp && is_frozen past) ≡ false) ⊎ (AreThere past)
    → HandsOver head past who seq
hands_over head past who seq fits was either = λ at waits.
    subst (λ p. AreHandled (handling head p))
    (sym (onto_append (Entered (clock past) who seq Recover ∷ past) (flat_map (λ place. examined_acts (autopsy_view head past place)) (places_of head)) (Autopsied ∷ [])))
    (autopsy_hands head past (clock past) who seq fits was at waits either)
