-- All stands over the entries of a submit, of work, of the line, of plugs and faults and of time.
use Rattle.std.proofs.Common.{◌≡◌, ◌∙◌, ℕ, Bool, true, false, nat_lt, List, [], ◌∷◌, Option, None, Some, ◌⊎◌, inl, inr, is_some, slice_get, slice_set, option_and_then, refl, sym, ap, subst, if◌then◌else◌}
use Rattle.std.specs.Prelude.{slice_index_or}
use Rattle.std.specs.List.{list_all}
use Rattle.ata_base.specs.declared.fault.Fault.{Fault}
use Rattle.ata_base.specs.declared.fault.Fault.TheVariants.{Serr}
use Rattle.ata_base.specs.declared.op.Op.{Op}
use Rattle.ata_base.specs.declared.regs.Regs.{Regs}
use Rattle.ata_script.specs.declared.port_head.PortHead.{PortHead}
use Rattle.ata_trace.specs.Event.{Event, onto}
use Rattle.ata_trace.specs.Event.Event.{Entered, Told}
use Rattle.ata_trace.specs.declared.act.Act.{Act}
use Rattle.ata_trace.specs.declared.act.Act.TheVariants.{Frozen, Thawed, Done, Plugged, Unplugged, Injected, Nothing, Raised}
use Rattle.ata_trace.specs.declared.step.Step.{Step}
use Rattle.ata_trace.specs.declared.step.Step.TheVariants.{Submit, Work, Drop, Stray, Tick, Expire, Plug, Unplug, Inject}
use Rattle.ata_trace.specs.declared.who.Who.{Who}
use Rattle.drive_model.specs.Holding.{picked}
use Rattle.drive_model.specs.Inject.{can_inject}
use Rattle.drive_model.specs.View.{DriveView}
use Rattle.std.specs.Option.{option_map_or}
use Rattle.port_stands.specs.Gate.{AreNumbered}
use Rattle.drive_model.specs.Work.{registers, act_of, cause_of, registers_of}
use Rattle.drive_model.specs.declared.held.Held.{Held}
use Rattle.host_tags.specs.declared.in_flight.InFlight.{InFlight}
use Rattle.port_past.specs.Causes.{tferr}
use Rattle.port_past.specs.Drives.{drives, with_fault, plugged_drive, drive_at}
use Rattle.drive_model.specs.Told.{is_good_end}
use Rattle.port_past.specs.PortState.{is_frozen}
use Rattle.port_past.specs.Issues.{issue_count}
use Rattle.port_past.specs.Line.{is_line_up}
use Rattle.port_past.specs.Links.{links, plugged_at, linked_at, faulted}
use Rattle.port_past.specs.Slots.{slots}
use Rattle.eh_autopsy.specs.declared.failed_issue.FailedIssue.{FailedIssue}
use Rattle.port_rules.specs.Line.{drop_acts, stray_acts}
use Rattle.port_rules.specs.Plug.{can_plug, plug_acts, unplug_acts, fault_acts, inject_acts}
use Rattle.port_rules.specs.Submit.{submit_acts}
use Rattle.port_rules.specs.Time.{tick_acts, expire_acts}
use Rattle.port_rules.specs.Told.{raised_acts}
use Rattle.port_rules.specs.Work.{worked_acts, ended_acts, work_acts}
use Rattle.port_stands.proofs.Blocks.{left_alone}
use Rattle.port_stands.proofs.DrivenKeeps.{keeps_link, faulted_plugged, keeps_view, step_keeps}
use Rattle.port_stands.proofs.DrivenEntries.{is_free, free_onto, driven_began, picked_is, work_driven, plug_driven}
use Rattle.port_stands.proofs.DrivenEnd.{IsEnd, own, same_flight, views}
use Rattle.port_stands.proofs.Handled.{handled_less, handled_done}
use Rattle.port_stands.proofs.Likes.{is_behind, like_unplugged, like_plugged, like_kept}
use Rattle.port_stands.proofs.Marks.{is_no_mark}
use Rattle.port_stands.proofs.StandingKinds.{all_expire}
use Rattle.port_stands.proofs.Steps.{all_submit, all_work, all_drop, all_stray, all_tick, all_plug, all_unplug, all_inject, all_raised}
use Rattle.port_stands.proofs.Wholes.{unmixed_onto}
use Rattle.port_stands.proofs.WholeSteps.{IsMade, behind_handled}
use Rattle.port_stands.proofs.Within.{read_put}
use Rattle.port_stands.specs.Handled.{handling, AreHandled}
use Rattle.port_stands.specs.Whole.{IsWhole}
use Rattle.port_stands.specs.Words.{is_no_issue}

-- an act that neither freezes nor thaws
abbrev pub is_frosty : Act → Bool
is_frosty Frozen = false
is_frosty Thawed = false
is_frosty act = true

pub frosty_step : (p : List Event) (act : Act) → is_frosty act ≡ true → is_frozen (Told act ∷ p) ≡ is_frozen p
frosty_step p Frozen is = absurd (cc)
frosty_step p Thawed is = absurd (cc)
frosty_step p act is = refl

raised_frost : (p : List Event) (up : Bool) → is_frozen (onto p (if up then [] else Raised ∷ [])) ≡ is_frozen p
raised_frost p true = refl
raised_frost p false = refl

raised_handled : (head : PortHead) (p base : List Event) → AreHandled (handling head base) → AreHandled (handling head (onto base (raised_acts p)))
raised_handled head p base was =
    behind_handled head base (raised_acts p) (all_raised is_behind p refl) (all_raised is_no_issue p refl) (all_raised is_no_mark p refl)
    (raised_frost base (is_line_up p)) was

module _ (head : PortHead) (past : List Event) (time : ℕ) (who : Who) (seq : ℕ) (was : IsWhole head past) where
  -- an entry of acts after which all still flies and that leave what is handled
  pub quiet_made :
      (step : Step) (acts : List Act) → handling head (Entered time who seq step ∷ past) ≡ handling head past
      → list_all is_no_issue acts ≡ true → list_all is_free acts ≡ true → list_all is_behind acts ≡ true → list_all is_no_mark acts ≡ true
      → is_frozen (onto (Entered time who seq step ∷ past) acts) ≡ is_frozen past
      → IsMade head (onto (Entered time who seq step ∷ past) acts)
  quiet_made step acts begun issue free behind mark frost =
      let start : List Event = Entered time who seq step ∷ past in
      record {
        unmixed = unmixed_onto start acts issue was.unmixed;
        driven = free_onto head start acts free (driven_began head past time who seq step was.driven);
        handled = behind_handled head start acts behind issue mark frost (subst AreHandled (sym begun) was.handled);
      }

  frost_left : (step : Step) (acts : List Act) → list_all is_frosty acts ≡ true → is_frozen (onto (Entered time who seq step ∷ past) acts) ≡ is_frozen past
  frost_left step acts all = left_alone is_frosty is_frozen frosty_step (Entered time who seq step ∷ past) acts all

  pub submit_made : (id place : ℕ) (op : Op) (allow wait : ℕ) → IsMade head (onto (Entered time who seq (Submit id place op allow wait) ∷ past) (submit_acts past id place op))
  submit_made id place op allow wait =
      quiet_made (Submit id place op allow wait) (submit_acts past id place op) refl
      (all_submit is_no_issue head past id place op refl (λ r. refl)) (all_submit is_free head past id place op refl (λ r. refl))
      (all_submit is_behind head past id place op refl (λ r. refl)) (all_submit is_no_mark head past id place op refl (λ r. refl))
      (frost_left (Submit id place op allow wait) (submit_acts past id place op) (all_submit is_frosty head past id place op refl (λ r. refl)))

  pub drop_made : IsMade head (onto (Entered time who seq Drop ∷ past) (drop_acts past))
  drop_made =
      quiet_made Drop (drop_acts past) refl (all_drop is_no_issue past refl refl) (all_drop is_free past refl refl) (all_drop is_behind past refl refl)
      (all_drop is_no_mark past refl refl) (frost_left Drop (drop_acts past) (all_drop is_frosty past refl refl))

  pub stray_made : (tag : ℕ) → IsMade head (onto (Entered time who seq (Stray tag) ∷ past) (stray_acts past))
  stray_made tag =
      quiet_made (Stray tag) (stray_acts past) refl (all_stray is_no_issue past refl refl) (all_stray is_free past refl refl) (all_stray is_behind past refl refl)
      (all_stray is_no_mark past refl refl) (frost_left (Stray tag) (stray_acts past) (all_stray is_frosty past refl refl))

  pub tick_made : (ms : ℕ) → IsMade head (onto (Entered time who seq (Tick ms) ∷ past) (tick_acts past ms))
  tick_made ms =
      quiet_made (Tick ms) (tick_acts past ms) refl (all_tick is_no_issue past ms refl (λ t. refl)) (all_tick is_free past ms refl (λ t. refl))
      (all_tick is_behind past ms refl (λ t. refl)) (all_tick is_no_mark past ms refl (λ t. refl))
      (frost_left (Tick ms) (tick_acts past ms) (all_tick is_frosty past ms refl (λ t. refl)))

  pub expire_made : IsMade head (onto (Entered time who seq Expire ∷ past) (expire_acts head past))
  expire_made =
      quiet_made Expire (expire_acts head past) refl (all_expire is_no_issue head past (λ f. refl) refl refl refl)
      (all_expire is_free head past (λ f. refl) refl refl refl) (all_expire is_behind head past (λ f. refl) refl refl refl)
      (all_expire is_no_mark head past (λ f. refl) refl refl refl)
      (frost_left Expire (expire_acts head past) (all_expire is_frosty head past (λ f. refl) refl refl refl))

  -- ---- plugs and faults

  plug_by :
      (place drive : ℕ) (b : Bool)
      → AreHandled (handling head (onto (Entered time who seq (Plug place drive) ∷ past) (if b then Plugged place drive ∷ raised_acts past else Nothing ∷ [])))
  plug_by place drive false = behind_handled head (Entered time who seq (Plug place drive) ∷ past) (Nothing ∷ []) refl refl refl refl was.handled
  plug_by place drive true =
      let q : List Event = Told (Plugged place drive) ∷ Entered time who seq (Plug place drive) ∷ past in
      raised_handled head past q
      (handled_less (handling head past) (handling head q) was.handled refl refl refl (λ x d v l a b w. w) (λ x f is. is)
      (λ tag f here. record { flight = f; here = here; n = refl; place = refl; owned = refl })
      (like_plugged (handling head past) place drive))

  pub plug_made : (place drive : ℕ) → IsMade head (onto (Entered time who seq (Plug place drive) ∷ past) (plug_acts head past place drive))
  plug_made place drive = record {
    unmixed = unmixed_onto (Entered time who seq (Plug place drive) ∷ past) (plug_acts head past place drive) (all_plug is_no_issue head past place drive refl refl refl) was.unmixed;
    driven = plug_driven head past time who seq was.driven was.stands.numbered (Plug place drive) place drive;
    handled = plug_by place drive (can_plug head (links head past) place drive);
  }

  unplug_by :
      (place : ℕ) (b : Bool)
      → AreHandled (handling head (onto (Entered time who seq (Unplug place) ∷ past) (if b then Unplugged place ∷ raised_acts past else Nothing ∷ [])))
  unplug_by place false = behind_handled head (Entered time who seq (Unplug place) ∷ past) (Nothing ∷ []) refl refl refl refl was.handled
  unplug_by place true =
      let q : List Event = Told (Unplugged place) ∷ Entered time who seq (Unplug place) ∷ past in
      raised_handled head past q
      (handled_less (handling head past) (handling head q) was.handled refl refl refl (λ x d v l a b w. w) (λ x f is. is)
      (λ tag f here. record { flight = f; here = here; n = refl; place = refl; owned = refl })
      (like_unplugged (handling head past) place))

  pub unplug_made : (place : ℕ) → IsMade head (onto (Entered time who seq (Unplug place) ∷ past) (unplug_acts head past place))
  unplug_made place = record {
    unmixed = unmixed_onto (Entered time who seq (Unplug place) ∷ past) (unplug_acts head past place) (all_unplug is_no_issue head past place refl refl refl) was.unmixed;
    driven = free_onto head (Entered time who seq (Unplug place) ∷ past) (unplug_acts head past place) (all_unplug is_free head past place refl refl refl)
        (driven_began head past time who seq (Unplug place) was.driven);
    handled = unplug_by place (is_some (plugged_at (links head past) place));
  }

  injected_handled : (step : Step) (place : ℕ) → handling head (Entered time who seq step ∷ past) ≡ handling head past → AreHandled (handling head (Told (Injected place) ∷ Entered time who seq step ∷ past))
  injected_handled step place begun =
      let start : List Event = Entered time who seq step ∷ past in
      let q : List Event = Told (Injected place) ∷ start in
      let keeps = keeps_link (faulted step) (λ l. (faulted_plugged step l).0) (λ l. (faulted_plugged step l).1) (links head past) place in
      handled_less (handling head start) (handling head q) (subst AreHandled (sym begun) was.handled) refl refl refl (λ x d v l a b w. w) (λ x f is. is)
      (λ tag f here. record { flight = f; here = here; n = refl; place = refl; owned = refl })
      (like_kept (handling head start) (links head q) (drives head q) (λ x. (keeps x).1)
      (keeps_view (with_fault step) (step_keeps step) (drives head past) (plugged_at (links head past) place)))

  fault_by :
      (step : Step) (place : ℕ) (fault : Fault) (v : Option DriveView) → handling head (Entered time who seq step ∷ past) ≡ handling head past
      → AreHandled (handling head (onto (Entered time who seq step ∷ past) (fault_acts past place fault v)))
  fault_by step place (Serr bit) v begun = raised_handled head past (Told (Injected place) ∷ Entered time who seq step ∷ past) (injected_handled step place begun)
  fault_by step place fault None begun = behind_handled head (Entered time who seq step ∷ past) (Nothing ∷ []) refl refl refl refl (subst AreHandled (sym begun) was.handled)
  fault_by step place fault (Some v) begun = one_by (can_inject fault v)
    where
      one_by : (b : Bool) → AreHandled (handling head (onto (Entered time who seq step ∷ past) (if b then Injected place ∷ [] else Nothing ∷ [])))
      one_by true = injected_handled step place begun
      one_by false = behind_handled head (Entered time who seq step ∷ past) (Nothing ∷ []) refl refl refl refl (subst AreHandled (sym begun) was.handled)

  pub inject_made : (place : ℕ) (fault : Fault) → IsMade head (onto (Entered time who seq (Inject place fault) ∷ past) (inject_acts head past place fault))
  inject_made place fault = record {
    unmixed = unmixed_onto (Entered time who seq (Inject place fault) ∷ past) (inject_acts head past place fault) (all_inject is_no_issue head past place fault refl refl refl) was.unmixed;
    driven = free_onto head (Entered time who seq (Inject place fault) ∷ past) (inject_acts head past place fault) (all_inject is_free head past place fault refl refl refl)
        (driven_began head past time who seq (Inject place fault) was.driven);
    handled = by (nat_lt place head.places);
  }
    where
      by : (b : Bool) → AreHandled (handling head (onto (Entered time who seq (Inject place fault) ∷ past) (if b then fault_acts past place fault (plugged_drive head past place) else Nothing ∷ [])))
      by true = fault_by (Inject place fault) place fault (plugged_drive head past place) refl
      by false = behind_handled head (Entered time who seq (Inject place fault) ∷ past) (Nothing ∷ []) refl refl refl refl was.handled

  -- ---- work

  done_handled :
      (place pick drive : ℕ) (v : DriveView) (found : Option Held) → linked_at (links head past) place ≡ Some drive
      → slice_get (drives head past) drive ≡ Some v → picked pick v ≡ found
      → AreHandled (handling head (onto (Entered time who seq (Work place pick) ∷ past) (ended_acts past (act_of found v))))
  done_handled place pick drive v None linked view is = behind_handled head (Entered time who seq (Work place pick) ∷ past) (Nothing ∷ []) refl refl refl refl was.handled
  done_handled place pick drive v (Some h) linked view is =
      let k = picked_is pick v h is in
      let r : Regs = registers_of (cause_of h v.bad) h.op in
      let start : List Event = Entered time who seq (Work place pick) ∷ past in
      let q : List Event = Told (Done h.number r.status r.error r.lba r.count) ∷ start in
      let begun = driven_began head past time who seq (Work place pick) was.driven in
      let numbered : AreNumbered (issue_count start) (slots start) = record { apart = was.stands.numbered.apart; from_one = was.stands.numbered.from_one; up_to = was.stands.numbered.up_to } in
      let end : IsEnd head start h r = record {
        place = place;
        pick = pick;
        drive = drive;
        view = v;
        asked = refl;
        linked = linked;
        was = view;
        runs = k.runs;
        index = k.index;
        holds = k.holds;
      } in
      raised_handled head past q
      (handled_done (handling head past) (handling head q) was.handled
      (record {
        place = place;
        drive = drive;
        view = v;
        held = h;
        number = h.number.n;
        linked = linked;
        was = view;
        runs = k.runs;
        holds = λ empty. cc (ap (λ hs. slice_get hs k.index) empty, k.holds);
        recovery = refl;
        frozen = refl;
        slots = refl;
        links = refl;
        noted = refl;
        logs = refl;
        views = λ d w at. elim (views head start begun numbered h r end d w at) [
          | inl here ↦ inl here.0
          | inr other ↦ inr other.1
        ];
        failed = failed_by place h r (is_good_end r.status r.error r.lba);
        own = λ tag f here number.
            let same = same_flight head start begun numbered h r end tag f here number in
            ap (λ (x : InFlight). linked_at (links head past) x.place) same.1 ∙ (own head start begun numbered h r end).flies.linked;
      }))
    where
      failed_by :
          (place : ℕ) (h : Held) (r : Regs) (good : Bool) (x : ℕ) (failure : FailedIssue)
          → slice_index_or (if good then tferr past else slice_set (tferr past) place (Some (record { number = h.number; regs = registers r.status r.error r.lba r.count }))) x None ≡ Some failure
          → ((x ≡ place) × (failure.number.n ≡ h.number.n)) ⊎ (slice_index_or (tferr past) x None ≡ Some failure)
      failed_by place h r true x failure is = inr is
      failed_by place h r false x failure is = elim (read_put (tferr past) place x (Some (record { number = h.number; regs = registers r.status r.error r.lba r.count })) None) [
        | inl here ↦ inl (here.0, number_of (sym is ∙ here.1))
        | inr there ↦ inr (sym there ∙ is)
      ]
        where
          number_of : Some failure ≡ Some (record { number = h.number; regs = registers r.status r.error r.lba r.count }) → failure.number.n ≡ h.number.n
          number_of e = ap (λ (o : Option FailedIssue). option_map_or (λ (f : FailedIssue). f.number.n) o 0) e

  drive_handled :
      (place pick : ℕ) (drive : Option ℕ) (found : Option DriveView) → linked_at (links head past) place ≡ drive
      → option_and_then (slice_get (drives head past)) drive ≡ found
      → AreHandled (handling head (onto (Entered time who seq (Work place pick) ∷ past) (worked_acts past pick found)))
  drive_handled place pick drive None linked is = behind_handled head (Entered time who seq (Work place pick) ∷ past) (Nothing ∷ []) refl refl refl refl was.handled
  drive_handled place pick None (Some v) linked is = absurd (cc)
  drive_handled place pick (Some d) (Some v) linked is = done_handled place pick d v (picked pick v) linked is refl

  pub work_made : (place pick : ℕ) → IsMade head (onto (Entered time who seq (Work place pick) ∷ past) (work_acts head past place pick))
  work_made place pick = record {
    unmixed = unmixed_onto (Entered time who seq (Work place pick) ∷ past) (work_acts head past place pick) (all_work is_no_issue head past place pick refl refl (λ n s e l c. refl)) was.unmixed;
    driven = work_driven head past time who seq was.driven was.stands.numbered place pick;
    handled = drive_handled place pick (linked_at (links head past) place) (drive_at head past place) refl refl;
  }
