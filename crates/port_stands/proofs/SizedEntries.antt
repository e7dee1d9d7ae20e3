-- Over each entry the accepted commands ask for sectors of their devices.
use Rattle.std.proofs.Common.{◌≡◌, ℕ, Bool, true, false, List, [], ◌∷◌, flat_map, refl, sym, subst}
use Rattle.std.specs.List.{list_all}
use Rattle.ata_base.proofs.Truth.{both}
use Rattle.ata_base.specs.Each.{Each}
use Rattle.ata_script.specs.declared.port_head.PortHead.{PortHead}
use Rattle.ata_trace.specs.Entries.{grown}
use Rattle.ata_trace.specs.Event.{Event, onto}
use Rattle.ata_trace.specs.Event.Event.{Entered, Told}
use Rattle.ata_trace.specs.declared.act.Act.{Act}
use Rattle.ata_trace.specs.declared.act.Act.TheVariants.{Accepted, Retried, Identified, Autopsied, Ended}
use Rattle.ata_trace.specs.declared.step.Step.{Step}
use Rattle.ata_trace.specs.declared.step.Step.TheVariants.{Submit, Kick, Work, Irq, Drop, Stray, Tick, Expire, Recover, Plug, Unplug, Inject, Boot}
use Rattle.ata_trace.specs.declared.who.Who.{Who}
use Rattle.port_past.specs.Attachment.{detachments}
use Rattle.port_past.specs.Clock.{clock}
use Rattle.port_past.specs.Commands.{commands}
use Rattle.port_past.specs.Completions.{completions}
use Rattle.port_past.specs.Heads.{places_of}
use Rattle.port_past.specs.Identities.{identities}
use Rattle.port_past.specs.Judged.{judged}
use Rattle.port_past.specs.PortState.{is_frozen}
use Rattle.port_past.specs.Slots.{slots}
use Rattle.port_rules.specs.Autopsy.{examined_acts, autopsy_acts}
use Rattle.port_rules.specs.AutopsyView.{autopsy_view}
use Rattle.port_rules.specs.Begin.{timed_out, with_freeze, begin_acts}
use Rattle.port_rules.specs.Finish.{finishes, finish_acts}
use Rattle.port_rules.specs.Legal.{legal_acts, entry_after}
use Rattle.port_rules.specs.Logs.{log_acts}
use Rattle.port_rules.specs.Recover.{recover_acts}
use Rattle.port_rules.specs.Sorting.{ok_answers, condemnations}
use Rattle.port_stands.proofs.Blocks.{all_append, all_wider}
use Rattle.port_stands.proofs.EachStep.{all_kick}
use Rattle.port_stands.proofs.Fitting.{IsSized, AreSized}
use Rattle.port_stands.proofs.GuardAutopsy.{is_autopsy_act, autopsy_all}
use Rattle.port_stands.proofs.GuardFrames.{is_gate_row}
use Rattle.port_stands.proofs.Lists.{all_answers, all_condemnations, all_with_freeze, all_finishes}
use Rattle.port_stands.proofs.Recovers.{is_rest, is_modeless, RecoverDoes, recover_does}
use Rattle.port_stands.proofs.Recovers.RecoverDoes.{Rests, Begins, Reads, Examines, DoesRow, Identifies, Ends}
use Rattle.port_stands.proofs.Sized.{leaves_sizes, sized_onto, submit_sized, identity_sized}
use Rattle.port_stands.proofs.StandingKinds.{all_irq, all_expire}
use Rattle.port_stands.proofs.Steps.{all_work, all_drop, all_stray, all_tick, all_plug, all_unplug, all_inject, all_logs}
use Rattle.port_stands.specs.All.{AllStands}

all_both :
    (one other kind : Act → Bool) → ((act : Act) → one act ≡ true → other act ≡ true → kind act ≡ true) → (acts : List Act)
    → list_all one acts ≡ true → list_all other acts ≡ true → list_all kind acts ≡ true
all_both one other kind gives [] a b = refl
all_both one other kind gives (act ∷ rest) a b =
    let left = both (one act) (list_all one rest) a in
    let right = both (other act) (list_all other rest) b in
    rw (gives act left.0 right.0) (all_both one other kind gives rest left.1 right.1)

row_sizes : (act : Act) → is_gate_row act ≡ true → is_modeless act ≡ true → leaves_sizes act ≡ true
row_sizes (Accepted id) row modeless = absurd (cc)
row_sizes (Identified place model serial sectors depth) row modeless = absurd (cc)
row_sizes act row modeless = refl

rest_sizes : (act : Act) → is_rest act ≡ true → leaves_sizes act ≡ true
rest_sizes (Accepted id) is = absurd (cc)
rest_sizes (Identified place model serial sectors depth) is = absurd (cc)
rest_sizes act is = refl

autopsy_sizes : (act : Act) → is_autopsy_act act ≡ true → leaves_sizes act ≡ true
autopsy_sizes (Accepted id) is = absurd (cc)
autopsy_sizes (Identified place model serial sectors depth) is = absurd (cc)
autopsy_sizes act is = refl

module _ (head : PortHead) (past : List Event) (who : Who) (seq : ℕ) (all : AllStands head past) (was : AreSized past) where
  abbrev start : List Event
  start = Entered (clock past) who seq Recover ∷ past

  recover_sized : AreSized (onto start (recover_acts head past))
  recover_sized = by (recover_does head past)
    where
      by : {acts : List Act} → RecoverDoes head past acts → AreSized (onto start acts)
      by {acts} (Rests idle each) = sized_onto start acts (all_wider is_rest leaves_sizes rest_sizes acts each) was
      by {acts} (Begins begin) =
          subst (λ a. AreSized (onto start a)) (sym begin.told)
          (sized_onto start (begin_acts head past)
          (all_append leaves_sizes (ok_answers (slots past) (completions head past)) (with_freeze (is_frozen past) (condemnations (λ f. true) timed_out (slots past) (completions head past)))
          (all_answers leaves_sizes (λ f e. refl) (slots past) (completions head past))
          (all_with_freeze leaves_sizes (is_frozen past) (condemnations (λ f. true) timed_out (slots past) (completions head past)) refl
          (all_condemnations leaves_sizes (λ f. true) timed_out (λ f. refl) (slots past) (completions head past)))) was)
      by {acts} (Reads log) =
          subst (λ a. AreSized (onto start a)) (sym log.told)
          (sized_onto start (log_acts head past log.place)
          (all_logs leaves_sizes (record { page = λ p t s e l c. refl; failed = λ p. refl; bad_sum = λ p. refl; not_queued = λ p. refl; aborted = λ n. refl }) head past log.place) was)
      by {acts} (Examines autopsy) =
          subst (λ a. AreSized (onto start a)) (sym autopsy.told)
          (sized_onto start (autopsy_acts head past)
          (all_append leaves_sizes (flat_map (λ place. examined_acts (autopsy_view head past place)) (places_of head)) (Autopsied ∷ [])
          (all_wider is_autopsy_act leaves_sizes autopsy_sizes (flat_map (λ place. examined_acts (autopsy_view head past place)) (places_of head)) (autopsy_all head past)) refl) was)
      by {acts} (DoesRow row modeless) = sized_onto start acts (all_both is_gate_row is_modeless leaves_sizes row_sizes acts row.all modeless) was
      by {acts} (Identifies identity) =
          subst (λ a. AreSized (onto start a)) (sym identity.told) (identity_sized past (clock past) who seq Recover all.dated was identity.place identity.view.identity)
      by {acts} (Ends end) =
          subst (λ a. AreSized (onto start a)) (sym end.told)
          (sized_onto start (finish_acts past)
          (all_append leaves_sizes (finishes (commands past) (detachments past) (slots past) (judged past)) (Ended ∷ [])
          (all_finishes leaves_sizes (record { nodev = λ i n. refl; retried = λ i n r. refl; failed = λ i n j. refl }) (commands past) (detachments past) (slots past) (judged past)) refl) was)

  left_sized : (step : Step) → list_all leaves_sizes (legal_acts head past step) ≡ true → AreSized (grown past (entry_after head past who seq step))
  left_sized step each = sized_onto (Entered (clock past) who seq step ∷ past) (legal_acts head past step) each was

  pub sized_after : (step : Step) → AreSized (grown past (entry_after head past who seq step))
  sized_after (Submit id place op allow wait) = submit_sized past (clock past) who seq id place op allow wait was
  sized_after (Kick place) = left_sized (Kick place) (all_kick leaves_sizes (record { nothing = refl; deferred = λ i w. refl; exclusive = λ p. refl; gone = λ i. refl; issued = λ i n t d f. refl }) head past place)
  sized_after (Work place pick) = left_sized (Work place pick) (all_work leaves_sizes head past place pick refl refl (λ n s e l c. refl))
  sized_after Irq = left_sized Irq (all_irq leaves_sizes head past (λ f e. refl) (λ f. refl) refl refl refl)
  sized_after Drop = left_sized Drop (all_drop leaves_sizes past refl refl)
  sized_after (Stray tag) = left_sized (Stray tag) (all_stray leaves_sizes past refl refl)
  sized_after (Tick ms) = left_sized (Tick ms) (all_tick leaves_sizes past ms refl (λ t. refl))
  sized_after Expire = left_sized Expire (all_expire leaves_sizes head past (λ f. refl) refl refl refl)
  sized_after Recover = recover_sized
  sized_after (Plug place drive) = left_sized (Plug place drive) (all_plug leaves_sizes head past place drive refl refl refl)
  sized_after (Unplug place) = left_sized (Unplug place) (all_unplug leaves_sizes head past place refl refl refl)
  sized_after (Inject place fault) = left_sized (Inject place fault) (all_inject leaves_sizes head past place fault refl refl refl)
  sized_after Boot = left_sized Boot refl

-- an act by which no command is accepted or counted
abbrev pub is_unlisted : Act → Bool
is_unlisted (Accepted id) = false
is_unlisted (Retried id number raised) = false
is_unlisted act = true

pub unlisted_step : (p : List Event) (act : Act) → is_unlisted act ≡ true → commands (Told act ∷ p) ≡ commands p
unlisted_step p (Accepted id) is = absurd (cc)
unlisted_step p (Retried id number raised) is = absurd (cc)
unlisted_step p act is = refl

pub none_sized : (q : List Event) → commands q ≡ [] → AreSized q
none_sized q none = subst (λ cs. Each (IsSized (identities q) (detachments q)) cs) (sym none) tt
