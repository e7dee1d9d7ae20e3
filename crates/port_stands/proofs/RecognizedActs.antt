-- What leaves the drives at their places recognized, but for the rows of the tasks.
use Rattle.port_rules.proofs.RecoverByPhase.{waiting_or_begun}
use Rattle.std.proofs.Common.{◌≡◌, ◌∙◌, ℕ, Bool, true, false, ◌&&◌, List, [], ◌∷◌, ◌++◌, Option, None, Some, inl, inr, map, flat_map, position, refl, sym, ap, subst, if◌then◌else◌}
use Rattle.std.specs.Prelude.{slice_index_or}
use Rattle.std.specs.List.{list_all}
use Rattle.ata_base.specs.declared.fault.Fault.{Fault}
use Rattle.ata_base.specs.declared.fault.Fault.TheVariants.{Serr}
use Rattle.ata_script.specs.declared.port_head.PortHead.{PortHead}
use Rattle.ata_trace.proofs.Pasts.{onto_append}
use Rattle.ata_trace.specs.Event.{Event, onto}
use Rattle.ata_trace.specs.Event.Event.{Entered, Told}
use Rattle.ata_trace.specs.declared.act.Act.{Act}
use Rattle.ata_trace.specs.declared.act.Act.TheVariants.{Nothing, Begun, Ended, Autopsied, WaitingTag, Plugged, Unplugged, Injected, Identified}
use Rattle.ata_trace.specs.declared.step.Step.{Step}
use Rattle.ata_trace.specs.declared.step.Step.TheVariants.{Recover, Plug, Unplug, Inject}
use Rattle.ata_trace.specs.declared.who.Who.{Who}
use Rattle.drive_model.specs.Inject.{can_inject}
use Rattle.drive_model.specs.View.{DriveView}
use Rattle.eh_flow.specs.declared.phase.Phase.TheVariants.{Logs, Through}
use Rattle.link_model.specs.LinkView.{LinkView, empty_link, linked_drive, with_plugged}
use Rattle.port_facts.specs.Stamps.{sectors_of}
use Rattle.port_past.specs.Attachment.{attached, detachments}
use Rattle.port_past.specs.Clock.{clock}
use Rattle.port_past.specs.Commands.{commands}
use Rattle.port_past.specs.Completions.{completions}
use Rattle.port_past.specs.Drain.{is_drained}
use Rattle.port_past.specs.Drives.{plugged_drive}
use Rattle.port_past.specs.Heads.{places_of}
use Rattle.port_past.specs.Identities.{identities, sectors_at}
use Rattle.port_past.specs.Judged.{judged}
use Rattle.port_past.specs.Links.{links, link_at, linked_at, faulted, serror_read}
use Rattle.port_past.specs.Places.{changed_at}
use Rattle.port_past.specs.PortState.{is_frozen, is_running, is_autopsied}
use Rattle.port_past.specs.Slots.{slots}
use Rattle.port_past.specs.declared.identity_told.IdentityTold.{IdentityTold}
use Rattle.port_rules.specs.Autopsy.{examined_acts, autopsy_acts}
use Rattle.port_rules.specs.AutopsyView.{autopsy_view}
use Rattle.port_rules.specs.Begin.{timed_out, with_freeze, begin_acts, is_awaited}
use Rattle.port_rules.specs.Finish.{finishes, finish_acts}
use Rattle.port_rules.specs.Plug.{fault_acts}
use Rattle.port_rules.specs.Sorting.{ok_answers, condemnations}
use Rattle.port_rules.specs.Told.{raised_acts}
use Rattle.port_stands.proofs.Blocks.{all_append, left_alone}
use Rattle.port_stands.proofs.Driven.{read_change}
use Rattle.port_stands.proofs.Fitting.{sectors_told, AreMet, AreRecognized}
use Rattle.port_stands.proofs.GuardAutopsy.{Still, still, still_step, is_autopsy_act, autopsy_all}
use Rattle.port_stands.proofs.Lists.{all_answers, all_condemnations, all_with_freeze, all_finishes}
use Rattle.port_stands.proofs.Phases.{logs_runs, IsTask}
use Rattle.port_stands.proofs.SeveredTies.{Tie, tie, tie_left, leaves_ties}
use Rattle.port_stands.proofs.Steps.{all_raised}
use Rattle.port_stands.proofs.WholeDirect.{linked_step}
use Rattle.port_stands.proofs.DrivenKeeps.{read_map}
use Rattle.port_stands.specs.Words.{RecoveryView, recovery, walk, phase_of}
use Rattle.port_stands.proofs.RecognizedTasks.{through_read}

-- ---- acts that leave all of it

told_step : (p : List Event) (act : Act) → leaves_ties act ≡ true → identities (Told act ∷ p) ≡ identities p
told_step p (Identified place model serial sectors depth) is = absurd (cc)
told_step p act is = refl

autopsy_told : (p : List Event) (act : Act) → is_autopsy_act act ≡ true → identities (Told act ∷ p) ≡ identities p
autopsy_told p (Identified place model serial sectors depth) is = absurd (cc)
autopsy_told p act is = refl

met_left : (head : PortHead) (p : List Event) (acts : List Act) → list_all leaves_ties acts ≡ true → AreRecognized head p → AreRecognized head (onto p acts)
met_left head p acts all was =
    subst (λ (t : Tie). AreMet head t.stands t.wires (identities (onto p acts))) (sym (tie_left head p acts all))
    (subst (λ i. AreMet head (recovery head p) (links head p) i) (sym (left_alone leaves_ties identities told_step p acts all)) was)

-- a link is changed, and none is made
changed_met :
    (head : PortHead) (s : RecoveryView) (wires : List LinkView) (told : List (Option IdentityTold)) (place : ℕ) (g : LinkView → LinkView)
    → ((l : LinkView) (d : ℕ) → linked_drive (g l) ≡ Some d → linked_drive l ≡ Some d) → AreMet head s wires told → AreMet head s (changed_at place g wires) told
changed_met head s wires told place g keeps was = λ x d there linked. elim (read_change wires place x g empty_link) [
  | inl here ↦ was x d there (keeps (link_at wires x) d (ap linked_drive (sym here.1) ∙ linked))
  | inr other ↦ was x d there (ap linked_drive (sym other.0) ∙ linked)
]

faulted_linked : (step : Step) (l : LinkView) → linked_drive (faulted step l) ≡ linked_drive l
faulted_linked (Inject place (Serr bit)) l = refl
faulted_linked (Inject place fault) l = refl
faulted_linked step l = refl

module _ (head : PortHead) (past : List Event) (time : ℕ) (who : Who) (seq : ℕ) (was : AreRecognized head past) where
  pub left_entry : (step : Step) (acts : List Act) → list_all leaves_ties acts ≡ true → AreRecognized head (onto (Entered time who seq step ∷ past) acts)
  left_entry step acts leaves = met_left head (Entered time who seq step ∷ past) acts leaves was

  raised_met : (p : List Event) → AreRecognized head p → AreRecognized head (onto p (raised_acts past))
  raised_met p met = met_left head p (raised_acts past) (all_raised leaves_ties past refl) met

  pub plug_met : (place drive : ℕ) (b : Bool) → AreRecognized head (onto (Entered time who seq (Plug place drive) ∷ past) (if b then Plugged place drive ∷ raised_acts past else Nothing ∷ []))
  plug_met place drive false = left_entry (Plug place drive) (Nothing ∷ []) refl
  plug_met place drive true =
      raised_met (Told (Plugged place drive) ∷ Entered time who seq (Plug place drive) ∷ past)
      (changed_met head (recovery head past) (links head past) (identities past) place (with_plugged (Some drive)) (λ l d is. absurd (cc)) was)

  pub unplug_met : (place : ℕ) (b : Bool) → AreRecognized head (onto (Entered time who seq (Unplug place) ∷ past) (if b then Unplugged place ∷ raised_acts past else Nothing ∷ []))
  unplug_met place false = left_entry (Unplug place) (Nothing ∷ []) refl
  unplug_met place true =
      raised_met (Told (Unplugged place) ∷ Entered time who seq (Unplug place) ∷ past)
      (changed_met head (recovery head past) (links head past) (identities past) place (with_plugged None) (λ l d is. absurd (cc)) was)

  injected_met : (step : Step) (place : ℕ) → AreRecognized head (Told (Injected place) ∷ Entered time who seq step ∷ past)
  injected_met step place = changed_met head (recovery head past) (links head past) (identities past) place (faulted step) (λ l d is. sym (faulted_linked step l) ∙ is) was

  fault_met : (step : Step) (place : ℕ) (fault : Fault) (v : Option DriveView) → AreRecognized head (onto (Entered time who seq step ∷ past) (fault_acts past place fault v))
  fault_met step place (Serr bit) v = raised_met (Told (Injected place) ∷ Entered time who seq step ∷ past) (injected_met step place)
  fault_met step place fault None = left_entry step (Nothing ∷ []) refl
  fault_met step place fault (Some v) = by (can_inject fault v)
    where
      by : (b : Bool) → AreRecognized head (onto (Entered time who seq step ∷ past) (if b then Injected place ∷ [] else Nothing ∷ []))
      by true = injected_met step place
      by false = left_entry step (Nothing ∷ []) refl

  pub inject_met : (step : Step) (place : ℕ) (fault : Fault) (b : Bool) → AreRecognized head (onto (Entered time who seq step ∷ past) (if b then fault_acts past place fault (plugged_drive head past place) else Nothing ∷ []))
  inject_met step place fault true = fault_met step place fault (plugged_drive head past place)
  inject_met step place fault false = left_entry step (Nothing ∷ []) refl

  -- ---- where recovery doesn't run, or makes its autopsy, or ends

  -- before the autopsy the sizes are the same
  pub matched : (is_running past && is_autopsied past) ≡ false → (x d : ℕ) → slice_index_or (attached past) x false ≡ true → linked_at (links head past) x ≡ Some d → sectors_of head d ≡ sectors_at past x
  matched early x d there linked = elim (was x d there linked) [
    | inl same ↦ same
    | inr unread ↦ absurd (cc (early, unread.runs))
  ]

  begin_met : is_running past ≡ false → AreRecognized head (onto (Entered time who seq Recover ∷ past) (begin_acts head past))
  begin_met idle =
      let marks : List Act = condemnations (λ f. true) timed_out (slots past) (completions head past) in
      met_left head (Told Begun ∷ Entered time who seq Recover ∷ past) (ok_answers (slots past) (completions head past) ++ with_freeze (is_frozen past) marks)
      (all_append leaves_ties (ok_answers (slots past) (completions head past)) (with_freeze (is_frozen past) marks)
      (all_answers leaves_ties (λ f e. refl) (slots past) (completions head past))
      (all_with_freeze leaves_ties (is_frozen past) marks refl (all_condemnations leaves_ties (λ f. true) timed_out (λ f. refl) (slots past) (completions head past))))
      (λ x d there linked. inl (matched (ap (λ b. b && is_autopsied past) idle) x d there linked))

  waiting_met : is_running past ≡ false → (found : Option ℕ) → AreRecognized head (onto (Entered time who seq Recover ∷ past) (waiting_or_begun head past found))
  waiting_met idle (Some tag) = left_entry Recover (WaitingTag tag ∷ []) refl
  waiting_met idle None = begin_met idle

  pub rests_met :
      is_running past ≡ false → (asked : Bool)
      → AreRecognized head (onto (Entered time who seq Recover ∷ past) (if asked then waiting_or_begun head past (position (is_awaited (clock past) (is_drained past)) (slots past)) else Nothing ∷ []))
  rests_met idle true = waiting_met idle (position (is_awaited (clock past) (is_drained past)) (slots past))
  rests_met idle false = left_entry Recover (Nothing ∷ []) refl

  pub end_met : IsTask (recovery head past) Through → AreRecognized head (onto (Entered time who seq Recover ∷ past) (finish_acts past))
  end_met task =
      let start : List Event = Entered time who seq Recover ∷ past in
      let told : List Act = finishes (commands past) (detachments past) (slots past) (judged past) in
      let all = all_finishes leaves_ties (record { nodev = λ i n. refl; retried = λ i n r. refl; failed = λ i n j. refl }) (commands past) (detachments past) (slots past) (judged past) in
      let same : tie head (onto start told) ≡ tie head past = tie_left head start told all in
      subst (AreRecognized head) (sym (onto_append start told (Ended ∷ [])))
      (λ x d there linked. elim (met_left head start told all was x d there linked) [
        | inl e ↦ inl e
        | inr u ↦ absurd (through_read (recovery head (onto start told)) x (recovery head (onto start told)).tasks
            (subst (λ (t : Tie). walk t.stands t.stands.tasks ≡ Through) (sym same) task.at) there u.unread u.task)
      ])

  -- the autopsy
  pub autopsy_met : phase_of (recovery head past) ≡ Logs → AreRecognized head (onto (Entered time who seq Recover ∷ past) (autopsy_acts head past))
  autopsy_met at =
      let start : List Event = Entered time who seq Recover ∷ past in
      let told : List Act = flat_map (λ place. examined_acts (autopsy_view head past place)) (places_of head) in
      let all = autopsy_all head past in
      let runs = logs_runs (recovery head past) at in
      let same : still (onto start told) ≡ still past = left_alone is_autopsy_act still still_step start told all in
      let kept : identities (onto start told) ≡ identities past = left_alone is_autopsy_act identities autopsy_told start told all in
      subst (AreRecognized head) (sym (onto_append start told (Autopsied ∷ [])))
      (λ x d there linked.
      let wire : linked_at (links head (onto start told)) x ≡ linked_at (links head past) x = left_alone is_autopsy_act (λ p. linked_at (links head p) x) (linked_step head x) start told all in
      inl (matched (ap (λ b. b && is_autopsied past) runs.0 ∙ runs.1) x d (ap (λ (s : Still). slice_index_or s.attached x false) (sym same) ∙ there)
      (sym wire ∙ sym (read_link (links head (onto start told)) x) ∙ linked)
      ∙ ap (λ i. sectors_told i x) (sym kept)))
    where
      read_link : (ls : List LinkView) (x : ℕ) → linked_at (map serror_read ls) x ≡ linked_at ls x
      read_link ls x = elim (read_map serror_read ls x) [
        | inl e ↦ ap linked_drive e
        | inr e ↦ ap linked_drive e
      ]
