-- In each recovery a place's reset is tried 4 times at most in a row, and its identity is late 3 times at most.
use Rattle.std.proofs.Common.{◌≡◌, ℕ, ◌<◌, ◌≤◌, Bool, true, false, not, nat_le, nat_lt, List, [], ◌∷◌, ◌++◌, Option, None, Some, inl, inr, flat_map, position, slice_set, refl, sym, subst, arith, if◌then◌else◌}
use Rattle.std.specs.List.{list_all}
use Rattle.std.specs.Prelude.{slice_index, slice_index_or}
use Rattle.std.proofs.lemmas.Bool.{ltb-true}
use Rattle.ata_base.specs.declared.identity.Identity.{Identity}
use Rattle.ata_base.specs.declared.ms.Ms.{Ms}
use Rattle.ata_script.specs.declared.port_head.PortHead.{PortHead}
use Rattle.ata_trace.specs.Entries.{EntryView, grown, past_from, past_of}
use Rattle.ata_trace.specs.Event.{Event, onto}
use Rattle.ata_trace.specs.Event.Event.{Entered, Told}
use Rattle.ata_trace.specs.declared.act.Act.{Act}
use Rattle.ata_trace.specs.declared.act.Act.TheVariants.{Attached, Autopsied, Begun, Detached, Disabled, Ended, Frozen, IdentAsked, IdentLate, Identified, Nothing, ResetBegun, ResetEndedGen, ResetEndedNone, ResetFailed, ResetLate, Same, Thawed, WaitingIdent}
use Rattle.ata_trace.specs.declared.step.Step.{Step}
use Rattle.ata_trace.specs.declared.step.Step.TheVariants.{Boot, Recover}
use Rattle.ata_trace.specs.declared.who.Who.{Who}
use Rattle.ata_trace.specs.declared.who.Who.TheVariants.{Boot as ByBoot}
use Rattle.drive_model.specs.View.{DriveView}
use Rattle.eh_flow.specs.Table.{deadline_of}
use Rattle.eh_flow.specs.declared.phase.Phase.{Phase}
use Rattle.eh_flow.specs.declared.phase.Phase.TheVariants.{HostOpen, HostOwed, IdentOpen, IdentOwed, Idle, Logs, ResetOpen, ResetOwed, Through}
use Rattle.eh_reset.specs.ResetWaits.{reset_tries, reset_wait_of}
use Rattle.eh_reset.specs.declared.look.ResetLook.{ResetLook}
use Rattle.eh_reset.specs.declared.look.ResetLook.TheVariants.{Gone, Late, Open_, Ready}
use Rattle.eh_reval.specs.IdentWaits.{ident_tries, ident_wait_of}
use Rattle.port_past.specs.Attachment.{attached, detachments}
use Rattle.port_past.specs.Clock.{clock}
use Rattle.port_past.specs.Commands.{commands}
use Rattle.port_past.specs.Completions.{completions}
use Rattle.port_past.specs.Drain.{is_drained}
use Rattle.port_past.specs.Drives.{drive_at}
use Rattle.port_past.specs.Heads.{places_of}
use Rattle.port_past.specs.IdentAnswers.{is_ident_answered}
use Rattle.port_past.specs.Judged.{judged}
use Rattle.port_past.specs.PlaceTold.{ident_lates, place_told}
use Rattle.port_past.specs.PortState.{is_asked, is_frozen}
use Rattle.port_past.specs.Slots.{slots}
use Rattle.port_past.specs.declared.place_told.PlaceTold.TheVariants.{NotBegun, ResetBegun as ToldResetBegun, ResetEnded as ToldResetEnded, IdentAsked as ToldIdentAsked}
use Rattle.port_rules.proofs.RecoverByPhase.{log_or_autopsy, look_acts, look_of, open_ident_acts, phase_acts, recover_told, reset_acts, unanswered_acts, waiting_or_begun}
use Rattle.port_rules.specs.Autopsy.{examined_acts}
use Rattle.port_rules.specs.AutopsyView.{autopsy_view}
use Rattle.port_rules.specs.Begin.{is_awaited, timed_out, with_freeze}
use Rattle.port_rules.specs.Boot.{boot_acts}
use Rattle.port_rules.specs.Finish.{finishes}
use Rattle.port_rules.specs.Identities.{attach_acts, ident_late_acts, identity_acts, is_attached_drive, mode_act, ncq_of, udma_of}
use Rattle.port_rules.specs.Legal.{AreLegal, HasLegalActs, IsLegal, entry_after, legal_acts}
use Rattle.port_rules.specs.Logs.{log_owed}
use Rattle.port_rules.specs.Phase.{phase}
use Rattle.port_rules.specs.Recover.{recover_acts}
use Rattle.port_rules.specs.Resets.{generation_of, if_attached, thaw_acts}
use Rattle.port_rules.specs.Sorting.{condemnations, ok_answers}
use Rattle.port_stands.proofs.Blocks.{all_append, all_wider}
use Rattle.port_stands.proofs.EachStep.{all_step}
use Rattle.port_stands.proofs.GuardAutopsy.{autopsy_all, is_autopsy_act}
use Rattle.port_stands.proofs.Lists.{HasFinish, all_answers, all_condemnations, all_finishes, all_if, all_more, all_told, all_with_freeze}
use Rattle.port_stands.proofs.Silence.{boot_kind}
use Rattle.port_stands.proofs.Steps.{all_logs}
use Rattle.port_core.proofs.TryLemmas.{AreFew, HasBefore, HasFewTries, autopsy_harmless, failed_few, few_onto, harmless_kick, harmless_steps, ident_late_few, is_harmless, late_few, none_few, phase_has, set_few}

-- ---- what recovery tells

module _ (head : PortHead) (past : List Event) (time : ℕ) (who : Who) (seq : ℕ) (was : HasFewTries past) where
  abbrev start : List Event
  start = Entered time who seq Recover ∷ past

  abbrev lates_at : ℕ → ℕ
  lates_at place = slice_index (ident_lates past) place

  harmless : (acts : List Act) → list_all is_harmless acts ≡ true → HasFewTries (onto start acts)
  harmless acts all = few_onto start acts all was

  -- recovery waits, or begins
  waiting_few : (found : Option ℕ) → HasFewTries (onto start (waiting_or_begun head past found))
  waiting_few (Some tag) = was
  waiting_few None =
      let owed : List Act = condemnations (λ f. true) timed_out (slots past) (completions head past) in
      few_onto (Told Begun ∷ start)
      (ok_answers (slots past) (completions head past) ++ with_freeze (is_frozen past) owed)
      (all_append is_harmless (ok_answers (slots past) (completions head past)) (with_freeze (is_frozen past) owed)
      (all_answers is_harmless (λ f e. refl) (slots past) (completions head past))
      (all_with_freeze is_harmless (is_frozen past) owed refl
      (all_condemnations is_harmless (λ f. true) timed_out (λ f. refl) (slots past) (completions head past))))
      none_few

  abbrev awaited : Option ℕ
  awaited = position (is_awaited (clock past) (is_drained past)) (slots past)

  idle_few :
      (asked : Bool)
      → HasFewTries (onto start (if asked then waiting_or_begun head past awaited else Nothing ∷ []))
  idle_few true = waiting_few awaited
  idle_few false = was

  -- a log is read, or the autopsy made
  logs_few : (found : Option ℕ) → HasFewTries (onto start (log_or_autopsy head past found))
  logs_few (Some place) =
      harmless (log_or_autopsy head past (Some place))
      (all_logs is_harmless (record {
        page = λ p t s e l c. refl;
        failed = λ p. refl;
        bad_sum = λ p. refl;
        not_queued = λ p. refl;
        aborted = λ n. refl;
      }) head past place)
  logs_few None =
      let examined : List Act = flat_map (λ place. examined_acts (autopsy_view head past place)) (places_of head) in
      harmless (log_or_autopsy head past None)
      (all_append is_harmless examined (Autopsied ∷ [])
      (all_wider is_autopsy_act is_harmless autopsy_harmless examined (autopsy_all head past)) refl)

  host_few :
      (frozen : Bool) (deadline : Ms)
      → HasFewTries (onto start ((if frozen then [] else Frozen ∷ []) ++ ResetBegun None 1 deadline ∷ []))
  host_few true deadline = was
  host_few false deadline = was

  -- a reset begins
  reset_by :
      (place attempt : ℕ) (deadline : Ms) (pmp frozen : Bool)
      → AreFew (slice_set (place_told past) place (ToldResetBegun attempt deadline)) (ident_lates past)
      → HasFewTries
      (onto start
      ((if pmp then [] else (if frozen then [] else Frozen ∷ [])) ++ ResetBegun (Some place) attempt deadline ∷ []))
  reset_by place attempt deadline true frozen few = few
  reset_by place attempt deadline false true few = few
  reset_by place attempt deadline false false few = few

  reset_few :
      (place attempt : ℕ) → attempt ≤ 4 → lates_at place < 3
      → HasFewTries (onto start (reset_acts head past place attempt))
  reset_few place attempt low few =
      let deadline : Ms = deadline_of (clock past) (reset_wait_of attempt) in
      reset_by place attempt deadline head.pmp (is_frozen past)
      (set_few (place_told past) (ident_lates past) place was (ToldResetBegun attempt deadline)
      ((was place).0, (low, few)))

  attached_all :
      (place : ℕ) (act : Act) → is_harmless act ≡ true → list_all is_harmless (if_attached past place act) ≡ true
  attached_all place act is = all_told is_harmless (slice_index_or (attached past) place false) act is

  thaw_all : list_all is_harmless (thaw_acts head) ≡ true
  thaw_all = all_told is_harmless (not head.pmp) Thawed refl

  -- a reset is late
  late_by :
      (place attempt : ℕ) (deadline : Ms) (again : Bool) → nat_lt attempt reset_tries ≡ again
      → slice_index_or (place_told past) place NotBegun ≡ ToldResetBegun attempt deadline → lates_at place < 3
      → HasFewTries
      (onto start
      (ResetLate (Some place)
      ∷ (if again then [] else ResetFailed (Some place) ∷ if_attached past place (Disabled place))))
  late_by place attempt deadline true is told few =
      late_few (place_told past) (ident_lates past) place was attempt deadline told (ltb-true attempt 4 is) few
  late_by place attempt deadline false is told few =
      few_onto (Told (ResetFailed (Some place)) ∷ Told (ResetLate (Some place)) ∷ start)
      (if_attached past place (Disabled place)) (attached_all place (Disabled place) refl)
      (failed_few (place_told past) (ident_lates past) place was few)

  look_few :
      (place attempt : ℕ) (deadline : Ms) (v : Option DriveView) (look : ResetLook)
      → slice_index_or (place_told past) place NotBegun ≡ ToldResetBegun attempt deadline → lates_at place < 3
      → HasFewTries (onto start (look_acts head past place attempt v look))
  look_few place attempt deadline v Gone told few =
      harmless (ResetEndedNone place ∷ thaw_acts head ++ if_attached past place (Detached place))
      (all_more is_harmless (ResetEndedNone place) (thaw_acts head ++ if_attached past place (Detached place)) refl
      (all_append is_harmless (thaw_acts head) (if_attached past place (Detached place)) thaw_all
      (attached_all place (Detached place) refl)))
  look_few place attempt deadline v Ready told few =
      few_onto (Told (ResetEndedGen place (generation_of head past place v)) ∷ start) (thaw_acts head) thaw_all
      (set_few (place_told past) (ident_lates past) place was (ToldResetEnded true) ((was place).0, few))
  look_few place attempt deadline v Late told few =
      late_by place attempt deadline (nat_lt attempt reset_tries) refl told few
  look_few place attempt deadline v Open_ told few = was

  -- an identity is asked for, late, or read
  asked_few :
      (place attempt : ℕ) (deadline : Ms) → lates_at place < 3
      → HasFewTries (onto start (IdentAsked place attempt deadline ∷ []))
  asked_few place attempt deadline few =
      set_few (place_told past) (ident_lates past) place was (ToldIdentAsked deadline) ((was place).0, few)

  module _
      (place : ℕ) (asked : Ms) (told : slice_index_or (place_told past) place NotBegun ≡ ToldIdentAsked asked)
      (few : lates_at place < 3) where
    due_few :
        (attempt : ℕ) (due : Bool)
        → HasFewTries
        (onto start
        (if due then ident_late_acts past place (nat_lt attempt ident_tries) else WaitingIdent place ∷ []))
    due_few attempt false = was
    due_few attempt true =
        few_onto (Told (IdentLate place) ∷ start)
        (if nat_lt attempt ident_tries then [] else if_attached past place (Disabled place))
        (all_if is_harmless (nat_lt attempt ident_tries) [] (if_attached past place (Disabled place)) refl
        (attached_all place (Disabled place) refl))
        (ident_late_few (place_told past) (ident_lates past) place was asked told few)

    read_few : (found : Identity) → HasFewTries (onto start (identity_acts past place found))
    read_few found =
        let same : Bool = is_attached_drive past place found in
        let attach : List Act = attach_acts past place same in
        let there : Bool = slice_index_or (attached past) place false in
        let mode : Act = mode_act past place same (udma_of past place same) (ncq_of past place same found) in
        let anew : List Act = if there then Detached place ∷ Attached place ∷ [] else Attached place ∷ [] in
        harmless (identity_acts past place found)
        (all_more is_harmless (Identified place found.model found.serial found.sectors found.depth)
        (attach ++ mode ∷ []) refl
        (all_append is_harmless attach (mode ∷ [])
        (all_if is_harmless same (Same place ∷ []) anew refl
        (all_if is_harmless there (Detached place ∷ Attached place ∷ []) (Attached place ∷ []) refl refl)) refl))

    heard_few :
        (attempt deadline : ℕ) (v : DriveView) (answered : Bool)
        → HasFewTries
        (onto start
        (if answered then identity_acts past place v.identity else unanswered_acts past place attempt deadline))
    heard_few attempt deadline v true = read_few v.identity
    heard_few attempt deadline v false = due_few attempt (nat_le deadline (clock past))

    ident_few :
        (attempt deadline : ℕ) (v : Option DriveView)
        → HasFewTries (onto start (open_ident_acts head past place attempt deadline v))
    ident_few attempt deadline None = due_few attempt (nat_le deadline (clock past))
    ident_few attempt deadline (Some v) =
        heard_few attempt deadline v (slice_index_or (is_ident_answered head past) place false)

  either_few : (b : Bool) (acts others : List Act) → HasFewTries (onto start acts) → HasFewTries (onto start others)
      → HasFewTries (onto start (if b then acts else others))
  either_few true acts others a b = a
  either_few false acts others a b = b

  finish_harmless : HasFinish is_harmless
  finish_harmless = record { nodev = λ i n. refl; retried = λ i n r. refl; failed = λ i n j. refl }

  phase_few :
      (at : Phase) → HasBefore (place_told past) (ident_lates past) at
      → HasFewTries (onto start (phase_acts head past at))
  phase_few Idle has = idle_few (is_asked past)
  phase_few Logs has = logs_few (log_owed head past)
  phase_few HostOwed has = host_few (is_frozen past) (deadline_of (clock past) (reset_wait_of 1))
  phase_few HostOpen has = was
  phase_few (ResetOwed place attempt ident) has = reset_few place attempt has.0 has.1
  phase_few (ResetOpen place attempt ident deadline) has =
      let v : Option DriveView = drive_at head past place in
      look_few place attempt deadline v (look_of (clock past) deadline.n v) has.0 has.1
  phase_few (IdentOwed place attempt) has =
      let deadline : Ms = deadline_of (clock past) (ident_wait_of attempt) in
      either_few (is_frozen past) (reset_acts head past place 1) (IdentAsked place attempt deadline ∷ [])
      (reset_few place 1 (omega arith) has) (asked_few place attempt deadline has)
  phase_few (IdentOpen place attempt deadline) has =
      let v : Option DriveView = drive_at head past place in
      either_few (is_frozen past) (reset_acts head past place 1) (open_ident_acts head past place attempt deadline.n v)
      (reset_few place 1 (omega arith) has.1) (ident_few place deadline has.0 has.1 attempt deadline.n v)
  phase_few Through has =
      let told : List Act = finishes (commands past) (detachments past) (slots past) (judged past) in
      harmless (told ++ Ended ∷ [])
      (all_append is_harmless told (Ended ∷ [])
      (all_finishes is_harmless finish_harmless (commands past) (detachments past) (slots past) (judged past)) refl)

  recover_few : HasFewTries (onto start (recover_acts head past))
  recover_few =
      subst (λ acts. HasFewTries (onto start acts)) (sym (recover_told head past))
      (phase_few (phase head past) (phase_has past was head))

-- ---- each entry

module _ (head : PortHead) where
  few_after :
      (past : List Event) (who : Who) (seq : ℕ) (step : Step) → HasFewTries past
      → HasFewTries (grown past (entry_after head past who seq step))
  few_after past who seq step was = elim (all_step is_harmless harmless_steps harmless_kick head past step) [
    | inl is ↦
        subst (λ s. HasFewTries (grown past (entry_after head past who seq s))) (sym is)
        (recover_few head past (clock past) who seq was)
    | inr all ↦ few_onto (Entered (clock past) who seq step ∷ past) (legal_acts head past step) all was
  ]

  entries_few :
      (past : List Event) (entries : List EntryView) → HasFewTries past → AreLegal head past entries
      → HasFewTries (past_from past entries)
  entries_few past [] was legal = was
  entries_few past (r ∷ rest) was legal =
      entries_few (grown past r) rest
      (subst (λ x. HasFewTries (grown past x)) (sym legal.0) (few_after past r.who r.seq r.step was)) legal.1

  acts_few : (journal : List EntryView) → HasLegalActs head journal → HasFewTries (past_of journal)
  acts_few [] legal = absurd legal
  acts_few (first ∷ rest) legal =
      entries_few (grown [] first) rest
      (subst (λ x. HasFewTries (grown [] x)) (sym legal.0)
      (few_onto (Entered 0 ByBoot 0 Boot ∷ []) (boot_acts head)
      (boot_kind head is_harmless refl (λ p i. refl) (λ p. refl) (λ p o. refl)) none_few)) legal.1

  -- the past of each legal journal has so few
  pub journal_tries : (journal : List EntryView) → IsLegal head journal → HasFewTries (past_of journal)
  journal_tries journal legal = acts_few journal legal.acts
