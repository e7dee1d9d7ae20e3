-- The gate of a port stays guarded over the autopsy and over the end of recovery.
use Rattle.eh_flow.specs.Finish.{is_retried}
use Rattle.std.proofs.Common.{◌≡◌, ◌∙◌, ℕ, ◌<◌, Bool, true, false, not, ◌&&◌, ◌||◌, ◌==◌, List, [], ◌∷◌, ◌++◌, Option, None, Some, inl, inr, suc, zero, flat_map, slice_get, slice_set, refl, sym, ap, subst, arith, if◌then◌else◌}
use Rattle.std.specs.Prelude.{slice_index_or}
use Rattle.std.specs.List.{list_all, list_any, range_with_len}
use Rattle.std.proofs.lemmas.Bool.{eqb-true, eq-eqb}
use Rattle.ata_base.specs.declared.cmd.Cmd.{Cmd}
use Rattle.ata_base.specs.declared.issue_no.IssueNo.{IssueNo}
use Rattle.ata_script.specs.declared.port_head.PortHead.{PortHead}
use Rattle.ata_trace.specs.Event.{Event, onto}
use Rattle.ata_trace.specs.Event.Event.{Entered, Told}
use Rattle.ata_trace.specs.declared.act.Act.{Act}
use Rattle.ata_trace.specs.declared.act.Act.TheVariants.{Judged, Recorded, Cleared, Hot, Action, Autopsied, Ended, AnsweredNodev, AnsweredFailed, Retried}
use Rattle.ata_base.specs.declared.link_action.LinkAction.{LinkAction}
use Rattle.ata_base.specs.declared.link_action.LinkAction.TheVariants.{NoAction, Revalidate, Reset}
use Rattle.ata_trace.specs.declared.step.Step.{Step}
use Rattle.ata_trace.specs.declared.who.Who.{Who}
use Rattle.eh_flow.specs.declared.phase.Phase.TheVariants.{Logs, Through}
use Rattle.host_tags.specs.Slots.{flight_at, is_owned_at}
use Rattle.host_tags.specs.declared.in_flight.InFlight.{InFlight}
use Rattle.port_past.specs.Answers.{issue_told}
use Rattle.port_past.specs.Commands.{commands, command_of, is_gone}
use Rattle.port_past.specs.Attachment.{attached, detachments}
use Rattle.port_past.specs.PortState.{is_frozen, is_asked, is_running, is_autopsied}
use Rattle.port_past.specs.Hot.{was_hot}
use Rattle.port_past.specs.Judged.{judged}
use Rattle.port_past.specs.Places.{nowhere}
use Rattle.port_past.specs.PlaceTold.{place_told, host_told, ident_lates}
use Rattle.port_past.specs.Slots.{slots}
use Rattle.port_past.specs.Tasks.{tasks, actions, tasks_made, action_tasks}
use Rattle.port_past.specs.declared.judgement.Judgement.{Judgement}
use Rattle.port_past.specs.declared.place_told.HostTold.{HostTold}
use Rattle.port_past.specs.declared.place_told.PlaceTold.{PlaceTold}
use Rattle.port_past.specs.declared.task.Task.{Task}
use Rattle.port_rules.specs.Autopsy.{action_of, autopsy_of, is_examined, examined_acts, autopsy_acts}
use Rattle.port_past.specs.Heads.{places_of}
use Rattle.eh_flow.specs.declared.issue_finish.Finish.TheVariants.{NoDev, Retry, Fail}
use Rattle.port_rules.specs.Finish.{told_finish, registers_told, finish_act, issue_finish, finishes, finish_acts}
use Rattle.port_rules.specs.AutopsyView.{AutopsyView, autopsy_view}
use Rattle.port_stands.proofs.Autopsies.{HasAutopsy, all_places, actions_told}
use Rattle.port_stands.proofs.Blocks.{left_alone, flight_onto}
use Rattle.ata_trace.proofs.Pasts.{onto_append}
use Rattle.port_stands.proofs.GuardIrq.{Shell, shell, shell_left}
use Rattle.port_stands.proofs.GuardFrames.{on_way}
use Rattle.port_stands.proofs.Lists.{all_finishes}
use Rattle.port_stands.proofs.Marks.{empty_stays, still_same, slot_append, was_there}
use Rattle.port_stands.proofs.Phases.{logs_runs, IsTask}
use Rattle.port_stands.specs.Gate.{Gate, gate, AreAll, IsGuarded, is_on_its_way, is_host_phase}
use Rattle.port_stands.proofs.Heads.{HasOnePlace}
use Rattle.port_stands.specs.Words.{recovery, phase_of, is_home, left_by, slot_onto, is_no_issue, is_slot_act}

-- an act of an autopsy, but the last
abbrev pub is_autopsy_act : Act → Bool
is_autopsy_act (Judged number kinds) = true
is_autopsy_act (Recorded place io dubious kinds ncq_off speed_down pio keep action) = true
is_autopsy_act (Cleared place) = true
is_autopsy_act (Hot place generation) = true
is_autopsy_act (Action place kinds chosen) = true
is_autopsy_act act = false

-- what an autopsy leaves until its end
pub record Still : Type 0 where
  pub running : Bool
  pub frozen : Bool
  pub asked : Bool
  pub attached : List Bool
  pub lates : List ℕ
  pub seen : List PlaceTold
  pub host : HostTold
  pub slots : List (Option InFlight)

abbrev pub still : List Event → Still
still past = record {
  running = is_running past;
  frozen = is_frozen past;
  asked = is_asked past;
  attached = attached past;
  lates = ident_lates past;
  seen = place_told past;
  host = host_told past;
  slots = slots past;
}

pub still_step : (past : List Event) (act : Act) → is_autopsy_act act ≡ true → still (Told act ∷ past) ≡ still past
still_step past (Judged number kinds) is = refl
still_step past (Recorded place io dubious kinds ncq_off speed_down pio keep action) is = refl
still_step past (Cleared place) is = refl
still_step past (Hot place generation) is = refl
still_step past (Action place kinds chosen) is = refl
still_step past act is = absurd (cc)

autopsy_is : (place : ℕ) → HasAutopsy is_autopsy_act place
autopsy_is place = record { judged = λ n k. refl; recorded = λ i d k n s o e a. refl; cleared = refl; hot = λ g. refl }

-- the places' acts are such
pub autopsy_all : (head : PortHead) (past : List Event) → list_all is_autopsy_act (flat_map (λ place. examined_acts (autopsy_view head past place)) (places_of head)) ≡ true
autopsy_all head past = all_places is_autopsy_act head past (λ place within. autopsy_is place) (λ place k r within. refl)

-- ---- a direct port

or_last : (a b c : Bool) → c ≡ true → (a || b || c) ≡ true
or_last true true c is = refl
or_last true false c is = refl
or_last false true c is = refl
or_last false false c is = is

frozen_examined : (head : PortHead) (past : List Event) → head.pmp ≡ false → is_frozen past ≡ true → is_examined (autopsy_view head past 0) ≡ true
frozen_examined head past direct cold =
    or_last (list_any (is_owned_at 0) (slots past)) (not ((autopsy_view head past 0).serror == 0)) _ (cold_by head.pmp (is_frozen past) direct cold)
  where
    cold_by : (pmp frozen : Bool) → pmp ≡ false → frozen ≡ true → ((0 == 0) && not pmp && frozen) ≡ true
    cold_by false true d c = refl
    cold_by true frozen d c = absurd (cc)
    cold_by pmp false d c = absurd (cc)

pub frozen_resets : (s : AutopsyView) → s.frozen ≡ true → action_of s ≡ Reset
frozen_resets s cold = rw cold refl

tasks_home : (r : LinkAction) → list_all is_home (action_tasks 0 (slice_set nowhere 0 (Some r))) ≡ true
tasks_home NoAction = refl
tasks_home Revalidate = refl
tasks_home Reset = refl

place_actions :
    (base : List Event) (s : AutopsyView) (b : Bool)
    → actions (onto base ((if b then autopsy_of s else []) ++ []))
    ≡ (if b then slice_set (actions base) s.place (Some (action_of s)) else actions base)
place_actions base s true = ap actions (onto_append base (autopsy_of s) []) ∙ actions_told base s
place_actions base s false = refl

-- what a direct port's autopsy says
direct_actions :
    (head : PortHead) (past base : List Event) (n : ℕ) → n ≡ 1
    → actions (onto base (flat_map (λ place. examined_acts (autopsy_view head past place)) (range_with_len 0 n)))
    ≡ (if is_examined (autopsy_view head past 0) then slice_set (actions base) 0 (Some (action_of (autopsy_view head past 0))) else actions base)
direct_actions head past base n one = rw one (place_actions base (autopsy_view head past 0) (is_examined (autopsy_view head past 0)))

home_by : (b : Bool) (r : LinkAction) → list_all is_home (action_tasks 0 (if b then slice_set nowhere 0 (Some r) else nowhere)) ≡ true
home_by true r = tasks_home r
home_by false r = refl

module _ (head : PortHead) (past : List Event) (time : ℕ) (who : Who) (seq : ℕ) (step : Step) where
  -- the gate once the places are examined
  abbrev seen_through : Still → List Bool → List (Option LinkAction) → List Task → Gate
  seen_through s was_hot actions tasks = record {
    recovery = record {
      running = s.running;
      autopsied = true;
      tasks = tasks;
      attached = s.attached;
      hot = was_hot;
      lates = s.lates;
      seen = s.seen;
      host = s.host;
      actions = actions;
    };
    frozen = s.frozen;
    asked = s.asked;
    slots = s.slots;
  }

  autopsied_guarded :
      (was_hot : List Bool) (said : List (Option LinkAction)) → is_running past ≡ true → is_autopsied past ≡ false
      → (head.pmp ≡ false → said ≡ (if is_examined (autopsy_view head past 0) then slice_set nowhere 0 (Some (action_of (autopsy_view head past 0))) else nowhere))
      → IsGuarded head.pmp (gate head past)
      → IsGuarded head.pmp (seen_through (still past) was_hot said (tasks_made (head.pmp && is_frozen past) (attached past) was_hot said))
  autopsied_guarded was_hot said running early direct was =
      let new = was.new running early in
      record {
        owned = was.owned;
        recovering = was.recovering;
        expired = was.expired;
        direct = λ is cold.
            let all : said ≡ slice_set nowhere 0 (Some Reset) =
            direct is
            ∙ ap (λ b. if b then slice_set nowhere 0 (Some (action_of (autopsy_view head past 0))) else nowhere) (frozen_examined head past is cold)
            ∙ ap (λ r. slice_set nowhere 0 (Some r)) (frozen_resets (autopsy_view head past 0) cold) in
            on_way (seen_through (still past) was_hot said (tasks_made (head.pmp && is_frozen past) (attached past) was_hot said))
            (rw (is, all, running, new.1.0) refl);
        multiplier = λ is cold. inl (rw (is, cold, running, new.0) refl);
        new = λ runs late. absurd (cc);
        home = λ is. rw (is, direct is) (home_by (is_examined (autopsy_view head past 0)) (action_of (autopsy_view head past 0)));
      }

  pub autopsy_guarded :
      HasOnePlace head → phase_of (recovery head past) ≡ Logs → IsGuarded head.pmp (gate head past)
      → IsGuarded head.pmp (gate head (onto (Entered time who seq step ∷ past) (autopsy_acts head past)))
  autopsy_guarded fits at was =
      let start : List Event = Entered time who seq step ∷ past in
      let told : List Act = flat_map (λ place. examined_acts (autopsy_view head past place)) (places_of head) in
      let base : List Event = onto start told in
      let same : still base ≡ still past =
      left_alone is_autopsy_act still still_step start told (autopsy_all head past) in
      let runs = logs_runs (recovery head past) at in
      let new = was.new runs.0 runs.1 in
      subst (IsGuarded head.pmp)
      (sym (ap (gate head) (onto_append start told (Autopsied ∷ []))
      ∙ ap (λ (s : Still). record {
        recovery = record {
          running = s.running;
          autopsied = true;
          tasks = tasks_made (head.pmp && s.frozen) s.attached (was_hot base) (actions base);
          attached = s.attached;
          hot = was_hot base;
          lates = s.lates;
          seen = s.seen;
          host = s.host;
          actions = actions base;
        };
        frozen = s.frozen;
        asked = s.asked;
        slots = s.slots;
      }) same))
      (autopsied_guarded (was_hot base) (actions base) runs.0 runs.1
      (λ direct. direct_actions head past start head.places (fits.one_place direct)
      ∙ ap (λ r. if is_examined (autopsy_view head past 0) then slice_set r 0 (Some (action_of (autopsy_view head past 0))) else r) new.1.1)
      was)

-- ---- the end

-- an issue that the finish reaches: it is judged, and its command is one of the accepted
pub record IsEnding (commands : List Cmd) (judged : List (Option Judgement)) (tag : ℕ) (f : InFlight) : Type 0 where
  pub judgement : Judgement
  pub told : slice_get judged tag ≡ Some (Some judgement)
  pub cmd : Cmd
  pub known : command_of f.id commands ≡ Some cmd

left_none : (b : Bool) (y : InFlight) → b ≡ true → (if b then None else Some y) ≡ None
left_none true y is = refl
left_none false y is = absurd (cc)

told_none : (n : ℕ) (y : InFlight) → 0 < n → y.number.n ≡ n → left_by (issue_told n) (Some y) ≡ None
told_none n y some same = by (n == 0) refl
  where
    by : (b : Bool) → (n == 0) ≡ b → left_by (if b then None else Some n) (Some y) ≡ None
    by true e = absurd (omega (arith, some, eqb-true n 0 e))
    by false e = left_none (y.number.n == n) y (eq-eqb y.number.n n same)

finish_leaves :
    (c : Cmd) (number : IssueNo) (j : Judgement) (y : InFlight) (gone retried : Bool) → 0 < number.n → y.number.n ≡ number.n
    → slot_onto ((told_finish c number j (if gone then NoDev else if retried then Retry (j.kinds.0 == 0) else Fail)) ∷ []) (Some y) ≡ None
finish_leaves c number j y true retried some same = told_none number.n y some same
finish_leaves c number j y false true some same = left_none (y.number.n == number.n) y (eq-eqb y.number.n number.n same)
finish_leaves c number j y false false some same = left_none (y.number.n == number.n) y (eq-eqb y.number.n number.n same)

own_leaves :
    (own : Bool) (detachments : List ℕ) (f y : InFlight) (j : Judgement) (cmd : Cmd) (found : Option Cmd) (rest : List Act) → own ≡ true
    → found ≡ Some cmd → 0 < f.number.n → y.number.n ≡ f.number.n
    → slot_onto ((if own then issue_finish detachments f.number j found else []) ++ rest) (Some y) ≡ None
own_leaves true detachments f y j cmd found rest own known some same =
    rw known
    (slot_append (finish_act cmd f.number j (is_gone cmd detachments) ∷ []) rest (Some y)
    ∙ ap (slot_onto rest) (finish_leaves cmd f.number j y (is_gone cmd detachments) (is_retried cmd j.kinds) some same) ∙ empty_stays rest)
own_leaves false detachments f y j cmd found rest own known some same = absurd (cc)

later_leaves :
    (y : InFlight) (acts rest : List Act) → ((z : InFlight) → z.number.n ≡ y.number.n → slot_onto rest (Some z) ≡ None)
    → slot_onto (acts ++ rest) (Some y) ≡ None
later_leaves y acts rest later = slot_append acts rest (Some y) ∙ by_slot (slot_onto acts (Some y)) refl
  where
    by_slot : (slot : Option InFlight) → slot_onto acts (Some y) ≡ slot → slot_onto rest slot ≡ None
    by_slot None is = empty_stays rest
    by_slot (Some z) is = later z (ap (λ x. x.n) (still_same acts y z is).n)

-- an owned issue that is judged leaves at the finish
pub finished :
    (commands : List Cmd) (detachments : List ℕ) (slots : List (Option InFlight)) (judged : List (Option Judgement)) (tag : ℕ) (f y : InFlight)
    → flight_at slots tag ≡ Some f → f.owned ≡ true → IsEnding commands judged tag f → 0 < f.number.n → y.number.n ≡ f.number.n
    → slot_onto (finishes commands detachments slots judged) (Some y) ≡ None
finished commands detachments [] judged tag f y here own end some same = absurd (cc)
finished commands detachments (slot ∷ slots) [] tag f y here own end some same = absurd (cc (end.told))
finished commands detachments (None ∷ slots) (j ∷ judged) zero f y here own end some same = absurd (cc)
finished commands detachments (None ∷ slots) (j ∷ judged) (suc tag) f y here own end some same =
    finished commands detachments slots judged tag f y here own (record { judgement = end.judgement; told = end.told; cmd = end.cmd; known = end.known }) some same
finished commands detachments (Some g ∷ slots) (None ∷ judged) zero f y here own end some same = absurd (cc (end.told))
finished commands detachments (Some g ∷ slots) (None ∷ judged) (suc tag) f y here own end some same =
    finished commands detachments slots judged tag f y here own (record { judgement = end.judgement; told = end.told; cmd = end.cmd; known = end.known }) some same
finished commands detachments (Some g ∷ slots) (Some j ∷ judged) zero f y here own end some same =
    let one : g ≡ f = cc in
    own_leaves g.owned detachments g y j end.cmd (command_of g.id commands) (finishes commands detachments slots judged)
    (ap (λ x. x.owned) one ∙ own) (ap (λ x. command_of x.id commands) one ∙ end.known) (subst (λ x. 0 < x.number.n) (sym one) some) (same ∙ ap (λ x. x.number.n) (sym one))
finished commands detachments (Some g ∷ slots) (Some j ∷ judged) (suc tag) f y here own end some same =
    later_leaves y (if g.owned then issue_finish detachments g.number j (command_of g.id commands) else []) (finishes commands detachments slots judged)
    (λ z number. finished commands detachments slots judged tag f z here own
    (record { judgement = end.judgement; told = end.told; cmd = end.cmd; known = end.known }) some (number ∙ same))

module _ (head : PortHead) (past : List Event) (time : ℕ) (who : Who) (seq : ℕ) (step : Step) where
  finish_is : (kind : Act → Bool) → ((id : ℕ) (number : IssueNo) → kind (AnsweredNodev id number) ≡ true)
      → ((id : ℕ) (number : IssueNo) (raised : Bool) → kind (Retried id number raised) ≡ true)
      → ((id : ℕ) (number : IssueNo) (j : Judgement) → kind (AnsweredFailed id number j.kinds (registers_told j.regs).status (registers_told j.regs).error (registers_told j.regs).lba (registers_told j.regs).count) ≡ true)
      → list_all kind (finishes (commands past) (detachments past) (slots past) (judged past)) ≡ true
  finish_is kind nodev again failed =
      all_finishes kind (record { nodev = nodev; retried = again; failed = failed }) (commands past) (detachments past) (slots past) (judged past)

  on_still : (g : Gate) → phase_of g.recovery ≡ Through → is_on_its_way g ≡ true → (g.asked || not (slice_index_or g.recovery.attached 0 false)) ≡ true
  on_still g at is = sym (rw at) ∙ is

  pub finish_guarded :
      phase_of (recovery head past) ≡ Through → IsTask (recovery head past) Through → ((tag : ℕ) (f : InFlight) → flight_at (slots past) tag ≡ Some f → IsEnding (commands past) (judged past) tag f)
      → AreAll (λ f. 0 < f.number.n) (slots past) → IsGuarded head.pmp (gate head past)
      → IsGuarded head.pmp (gate head (onto (Entered time who seq step ∷ past) (finish_acts past)))
  finish_guarded at task ending from_one was =
      let start : List Event = Entered time who seq step ∷ past in
      let told : List Act = finishes (commands past) (detachments past) (slots past) (judged past) in
      let base : List Event = onto start told in
      let same : shell head base ≡ shell head past =
      shell_left head start told (finish_is is_slot_act (λ i n. refl) (λ i n r. refl) (λ i n j. refl)) in
      let none : list_all is_no_issue told ≡ true = finish_is is_no_issue (λ i n. refl) (λ i n r. refl) (λ i n j. refl) in
      let nobody : (tag : ℕ) (x : InFlight) → flight_at (slots base) tag ≡ Some x → ⊥ =
      λ tag x here.
      let e : slot_onto told (flight_at (slots past) tag) ≡ Some x = sym (flight_onto start told tag none) ∙ here in
      let a = was_there told (flight_at (slots past) tag) x e in
      let gone = finished (commands past) (detachments past) (slots past) (judged past) tag a.0 a.0 a.1.0
      (was.owned task.running tag a.0 a.1.0) (ending tag a.0 a.1.0) (from_one tag a.0 a.1.0) refl in
      cc (gone, e, ap (slot_onto told) a.1.0) in
      subst (IsGuarded head.pmp)
      (sym (ap (gate head) (onto_append start told (Ended ∷ []))
      ∙ ap (λ (s : Shell). record { recovery = record s.recovery { running = false }; frozen = s.frozen; asked = s.asked; slots = slots base }) same))
      (record {
        owned = λ runs tag x here. absurd (nobody tag x here);
        recovering = λ tag x here own. absurd (nobody tag x here);
        expired = λ tag x here free told. absurd (nobody tag x here);
        direct = λ direct cold. on_still (gate head past) at (was.direct direct cold);
        multiplier = λ fan cold. elim (was.multiplier fan cold) [
          | inl turn ↦ absurd (cc (turn, ap is_host_phase at))
          | inr logs ↦ absurd (cc (at, logs.0))
        ];
        new = λ runs early. absurd (cc);
        home = was.home;
      })
