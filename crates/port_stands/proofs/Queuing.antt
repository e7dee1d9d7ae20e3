-- Where NCQ is on, the device has a queue.
use Rattle.std.proofs.Common.{◌≡◌, ◌≢◌, ◌∙◌, ℕ, ◌+◌, ◌<◌, Bool, true, false, not, ◌&&◌, ◌||◌, ◌==◌, List, [], ◌∷◌, Option, None, Some, ◌⊎◌, inl, inr, suc, zero, flat_map, option_and_then, slice_set, refl, sym, ap, subst, arith}
use Rattle.std.specs.Prelude.{slice_index_or}
use Rattle.std.specs.Option.{option_map_or}
use Rattle.std.specs.List.{list_all, range_with_len}
use Rattle.ata_base.specs.declared.identity.Identity.{Identity}
use Rattle.ata_script.specs.declared.port_head.PortHead.{PortHead}
use Rattle.ata_trace.specs.Entries.{EntryView, grown, past_from, past_of}
use Rattle.ata_trace.specs.Event.{Event, onto}
use Rattle.ata_trace.specs.Event.Event.{Entered, Told}
use Rattle.ata_trace.specs.declared.act.Act.{Act}
use Rattle.ata_trace.specs.declared.act.Act.TheVariants.{Identified, Mode, Attached, Detached, Same, Autopsied, Ended}
use Rattle.ata_trace.specs.declared.step.Step.{Step}
use Rattle.ata_trace.specs.declared.step.Step.TheVariants.{Recover, Boot}
use Rattle.ata_trace.specs.declared.who.Who.{Who}
use Rattle.ata_trace.specs.declared.who.Who.TheVariants.{Boot as ByBoot}
use Rattle.drive_model.specs.View.{DriveView}
use Rattle.port_past.specs.Clock.{clock}
use Rattle.port_past.specs.Commands.{commands}
use Rattle.port_past.specs.Attachment.{attached, detachments}
use Rattle.port_past.specs.Completions.{completions}
use Rattle.port_past.specs.PortState.{is_frozen}
use Rattle.port_past.specs.Heads.{identity_of, drive_at_boot, places_of}
use Rattle.port_past.specs.Judged.{judged}
use Rattle.port_past.specs.Identities.{identities, depth_at}
use Rattle.port_past.specs.declared.identity_told.IdentityTold.{IdentityTold}
use Rattle.port_past.specs.Modes.{ncq_on}
use Rattle.port_past.specs.Lowerings.{ncq_ended}
use Rattle.port_past.specs.Doubt.{dubious}
use Rattle.port_past.specs.Slots.{slots}
use Rattle.port_rules.specs.Autopsy.{examined_acts, autopsy_acts}
use Rattle.port_rules.specs.Boot.{found_acts, found_at, boot_entry}
use Rattle.port_rules.specs.Finish.{finishes, finish_acts}
use Rattle.port_rules.specs.Identities.{attach_acts, udma_of, ncq_of, is_other_mode, mode_act, is_attached_drive, identity_acts}
use Rattle.port_rules.specs.Sorting.{ok_answers, condemnations}
use Rattle.port_rules.specs.Legal.{legal_acts, entry_after, AreLegal, HasLegalActs, IsLegal}
use Rattle.port_rules.specs.Logs.{log_acts}
use Rattle.port_rules.specs.Begin.{timed_out, with_freeze, begin_acts}
use Rattle.port_rules.specs.Recover.{recover_acts}
use Rattle.port_rules.specs.AutopsyView.{autopsy_view}
use Rattle.port_rules.specs.Told.{or_nothing}
use Rattle.port_stands.proofs.Blocks.{all_append, all_wider, left_alone}
use Rattle.ata_trace.proofs.Pasts.{onto_append}
use Rattle.port_stands.proofs.EachStep.{HasSteps, all_step}
use Rattle.port_stands.proofs.GuardAutopsy.{is_autopsy_act, autopsy_all}
use Rattle.port_stands.proofs.HandOver.{read_back}
use Rattle.port_stands.proofs.Lists.{all_answers, all_condemnations, all_with_freeze, all_if, all_finishes}
use Rattle.port_stands.proofs.Recovers.{is_rest, is_modeless, RecoverDoes, recover_does}
use Rattle.port_stands.proofs.Recovers.RecoverDoes.{Rests, Begins, Reads, Examines, DoesRow, Identifies, Ends}
use Rattle.port_stands.proofs.Steps.{all_logs}
use Rattle.port_stands.proofs.Within.{read_written_at, read_same}
use Rattle.port_stands.specs.Queuing.{HasQueues}
use Rattle.port_past.proofs.Sizes.{true_within}
use Rattle.port_past.proofs.PlaceSizes.{length_identities, length_ncq}

-- ---- acts that tell no identity and no mode

pub record Modes : Type 0 where
  pub told : List (Option IdentityTold)
  pub queuing : List Bool

abbrev pub modes : List Event → Modes
modes p = record { told = identities p; queuing = ncq_on p }

modes_step : (p : List Event) (act : Act) → is_modeless act ≡ true → modes (Told act ∷ p) ≡ modes p
modes_step p (Identified place model serial sectors depth) is = absurd (cc)
modes_step p (Mode place udma on dubious) is = absurd (cc)
modes_step p act is = refl

abbrev pub HasModes : Modes → Type 0
HasModes m = (place : ℕ) → slice_index_or m.queuing place false ≡ true
    → 0 < option_map_or (λ (i : IdentityTold). i.depth) (slice_index_or m.told place None) 0

queues_left : (p : List Event) (acts : List Act) → list_all is_modeless acts ≡ true → HasQueues p → HasQueues (onto p acts)
queues_left p acts all was = subst HasModes (sym (left_alone is_modeless modes modes_step p acts all)) was

-- ---- a drive tells who it is, and its mode is told

module _ (base : List Event) (at : ℕ) (i : Identity) (between : List Act) (udma : ℕ) (on in_doubt : Bool) where
  abbrev who_told : List Event
  who_told = Told (Identified at i.model i.serial i.sectors i.depth) ∷ base

  abbrev after_mode : List Event
  after_mode = Told (Mode at udma on in_doubt) ∷ onto (Told (Identified at i.model i.serial i.sectors i.depth) ∷ base) between

  queues_told : list_all is_modeless between ≡ true → (on ≡ true → 0 < i.depth) → HasQueues base → HasQueues after_mode
  queues_told all deep was = λ x is. by x is (read_written_at (ncq_on (onto who_told between)) at x on false)
    where
      same : modes (onto who_told between) ≡ modes who_told
      same = left_alone is_modeless modes modes_step who_told between all

      told : IdentityTold
      told = record { model = i.model; serial = i.serial; sectors = i.sectors; depth = i.depth }

      told_is : identities after_mode ≡ slice_set (identities base) at (Some told)
      told_is = ap (λ (m : Modes). m.told) same

      ncq_is : ncq_on (onto who_told between) ≡ ncq_on base
      ncq_is = ap (λ (m : Modes). m.queuing) same

      depth_is : (x : ℕ) (o : Option IdentityTold) → slice_index_or (identities after_mode) x None ≡ o → depth_at after_mode x ≡ option_map_or (λ (k : IdentityTold). k.depth) o 0
      depth_is x o e = ap (λ y. option_map_or (λ (k : IdentityTold). k.depth) y 0) e

      here_deep : (x : ℕ) → slice_index_or (ncq_on after_mode) x false ≡ true → x ≡ at → on ≡ true → 0 < depth_at after_mode x
      here_deep x is there turned =
          let few : at < 15 = omega (arith, true_within (ncq_on after_mode) x is, length_ncq after_mode, there) in
          let e : depth_at after_mode x ≡ i.depth = depth_is x (Some told)
          (ap (λ k. slice_index_or k x None) told_is ∙ ap (λ y. slice_index_or (slice_set (identities base) at (Some told)) y None) there
          ∙ read_back (identities base) at (Some told) None (omega (arith, few, length_identities base))) in
          omega (arith, e, deep turned)

      old_deep : (x : ℕ) → slice_index_or (ncq_on base) x false ≡ true → x ≢ at → 0 < depth_at after_mode x
      old_deep x was_on apart = elim (read_written_at (identities base) at x (Some told) None) [
        | inl new ↦ absurd (apart new.0)
        | inr old ↦
            let e : depth_at after_mode x ≡ depth_at base x = depth_is x (slice_index_or (identities base) x None) (ap (λ k. slice_index_or k x None) told_is ∙ old.0) in
            omega (arith, e, was x was_on)
      ]

      by : (x : ℕ) → slice_index_or (ncq_on after_mode) x false ≡ true
          → ((x ≡ at) × (slice_index_or (ncq_on after_mode) x false ≡ on))
          ⊎ ((slice_index_or (ncq_on after_mode) x false ≡ slice_index_or (ncq_on (onto who_told between)) x false)
          × (x ≡ at → slice_index_or (ncq_on (onto who_told between)) x false ≡ false))
          → 0 < depth_at after_mode x
      by x is (inl new) = here_deep x is new.0 (sym new.1 ∙ is)
      by x is (inr old) =
          let was_on : slice_index_or (ncq_on (onto who_told between)) x false ≡ true = sym old.0 ∙ is in
          old_deep x (ap (λ n. slice_index_or n x false) (sym ncq_is) ∙ was_on) (λ e. cc (old.1 e, was_on))

deep_by : (depth : ℕ) (b : Bool) → (not (depth == 0) && b) ≡ true → 0 < depth
deep_by zero b is = absurd (cc)
deep_by (suc depth) b is = omega arith

-- ---- the rows of an identity

module _ (head : PortHead) (past : List Event) (time : ℕ) (who : Who) (seq : ℕ) (was : HasQueues past) where
  attach_modeless : (place : ℕ) (same : Bool) → list_all is_modeless (attach_acts past place same) ≡ true
  attach_modeless place same =
      all_if is_modeless same (Same place ∷ []) _ refl (all_if is_modeless (slice_index_or (attached past) place false) (Detached place ∷ Attached place ∷ []) (Attached place ∷ []) refl refl)

  identity_queues : (place : ℕ) (v : DriveView) → HasQueues (onto (Entered time who seq Recover ∷ past) (identity_acts past place v.identity))
  identity_queues place v =
      let i : Identity = v.identity in
      let same : Bool = is_attached_drive past place i in
      let start : List Event = Entered time who seq Recover ∷ past in
      subst (HasQueues) (sym (onto_append (Told (Identified place i.model i.serial i.sectors i.depth) ∷ start) (attach_acts past place same) (mode_act past place same (udma_of past place same) (ncq_of past place same i) ∷ [])))
      (queues_told start place i (attach_acts past place same) (udma_of past place same) (ncq_of past place same i) (not same || slice_index_or (dubious past) place false || is_other_mode past place (udma_of past place same) (ncq_of past place same i)) (attach_modeless place same)
      (λ e. deep_by i.depth (not (same && slice_index_or (ncq_ended past) place false)) e) was)

  recover_queues : HasQueues (onto (Entered time who seq Recover ∷ past) (recover_acts head past))
  recover_queues = by (recover_does head past)
    where
      modeless_rest : (act : Act) → is_rest act ≡ true → is_modeless act ≡ true
      modeless_rest (Identified place model serial sectors depth) is = is
      modeless_rest (Mode place udma on dubious) is = is
      modeless_rest act is = refl

      modeless_autopsy : (act : Act) → is_autopsy_act act ≡ true → is_modeless act ≡ true
      modeless_autopsy (Identified place model serial sectors depth) is = is
      modeless_autopsy (Mode place udma on dubious) is = is
      modeless_autopsy act is = refl

      by : {acts : List Act} → RecoverDoes head past acts → HasQueues (onto (Entered time who seq Recover ∷ past) acts)
      by {acts} (Rests idle all) = queues_left (Entered time who seq Recover ∷ past) acts (all_wider is_rest is_modeless modeless_rest acts all) was
      by {acts} (Begins begin) =
          subst (λ a. HasQueues (onto (Entered time who seq Recover ∷ past) a)) (sym begin.told)
          (queues_left (Entered time who seq Recover ∷ past) (begin_acts head past)
          (all_append is_modeless (ok_answers (slots past) (completions head past)) (with_freeze (is_frozen past) (condemnations (λ f. true) timed_out (slots past) (completions head past)))
          (all_answers is_modeless (λ f e. refl) (slots past) (completions head past))
          (all_with_freeze is_modeless (is_frozen past) (condemnations (λ f. true) timed_out (slots past) (completions head past)) refl
          (all_condemnations is_modeless (λ f. true) timed_out (λ f. refl) (slots past) (completions head past)))) was)
      by {acts} (Reads log) =
          subst (λ a. HasQueues (onto (Entered time who seq Recover ∷ past) a)) (sym log.told)
          (queues_left (Entered time who seq Recover ∷ past) (log_acts head past log.place)
          (all_logs is_modeless (record { page = λ p t s e l c. refl; failed = λ p. refl; bad_sum = λ p. refl; not_queued = λ p. refl; aborted = λ n. refl }) head past log.place) was)
      by {acts} (Examines autopsy) =
          subst (λ a. HasQueues (onto (Entered time who seq Recover ∷ past) a)) (sym autopsy.told)
          (queues_left (Entered time who seq Recover ∷ past) (autopsy_acts head past)
          (all_append is_modeless (flat_map (λ place. examined_acts (autopsy_view head past place)) (places_of head)) (Autopsied ∷ [])
          (all_wider is_autopsy_act is_modeless modeless_autopsy (flat_map (λ place. examined_acts (autopsy_view head past place)) (places_of head)) (autopsy_all head past)) refl) was)
      by {acts} (DoesRow row modeless) = queues_left (Entered time who seq Recover ∷ past) acts modeless was
      by {acts} (Identifies identity) =
          subst (λ a. HasQueues (onto (Entered time who seq Recover ∷ past) a)) (sym identity.told) (identity_queues identity.place identity.view)
      by {acts} (Ends end) =
          subst (λ a. HasQueues (onto (Entered time who seq Recover ∷ past) a)) (sym end.told)
          (queues_left (Entered time who seq Recover ∷ past) (finish_acts past)
          (all_append is_modeless (finishes (commands past) (detachments past) (slots past) (judged past)) (Ended ∷ [])
          (all_finishes is_modeless (record { nodev = λ i n. refl; retried = λ i n r. refl; failed = λ i n j. refl }) (commands past) (detachments past) (slots past) (judged past)) refl) was)

-- ---- the boot

module _ (head : PortHead) where
  found_queues : (base : List Event) (place : ℕ) (found : Option Identity) → HasQueues base → HasQueues (onto base (found_acts place found))
  found_queues base place None was = was
  found_queues base place (Some i) was =
      queues_told base place i (Attached place ∷ []) 6 (not (i.depth == 0)) true refl (λ e. deep_by i.depth true (and_true (not (i.depth == 0)) e)) was
    where
      and_true : (b : Bool) → b ≡ true → (b && true) ≡ true
      and_true true e = refl
      and_true false e = absurd (cc)

  range_queues :
      (base : List Event) (k n : ℕ) → HasQueues base
      → HasQueues (onto base (flat_map (found_at head) (range_with_len k n)))
  range_queues base k zero was = was
  range_queues base k (suc n) was =
      let found : Option Identity = option_and_then (identity_of head.drives) (drive_at_boot head.drives k) in
      let acts : List Act = found_acts k found in
      subst HasQueues (sym (onto_append base acts (flat_map (found_at head) (range_with_len (k + 1) n))))
      (range_queues (onto base acts) (k + 1) n (found_queues base k found was))

  or_nothing_queues : (acts : List Act) → HasQueues (onto (Entered 0 ByBoot 0 Boot ∷ []) acts) → HasQueues (onto (Entered 0 ByBoot 0 Boot ∷ []) (or_nothing acts))
  or_nothing_queues [] was = was
  or_nothing_queues (act ∷ rest) was = was

  boot_queues : HasQueues (grown [] (boot_entry head))
  boot_queues =
      or_nothing_queues (flat_map (found_at head) (places_of head))
      (range_queues (Entered 0 ByBoot 0 Boot ∷ []) 0 head.places (λ x is. absurd (cc (is, read_same 15 x false))))

  modeless_steps : HasSteps is_modeless
  modeless_steps = record {
    nothing = refl;
    accepted = λ i. refl;
    refused = λ i w. refl;
    done = λ n s e l c. refl;
    raised = refl;
    lost = refl;
    now = λ t. refl;
    plugged = λ p d. refl;
    unplugged = λ p. refl;
    injected = λ p. refl;
    answered = λ f e. refl;
    condemned = λ f. refl;
    frozen = refl;
    requested = refl;
    expired = λ f. refl;
    drained = refl;
  }

  queues_after : (past : List Event) (who : Who) (seq : ℕ) (step : Step) → HasQueues past → HasQueues (grown past (entry_after head past who seq step))
  queues_after past who seq step was =
      elim (all_step is_modeless modeless_steps (record { nothing = refl; deferred = λ i w. refl; exclusive = λ p. refl; gone = λ i. refl; issued = λ i n t d f. refl }) head past step) [
        | inl is ↦ subst (λ s. HasQueues (grown past (entry_after head past who seq s))) (sym is) (recover_queues head past (clock past) who seq was)
        | inr all ↦ queues_left (Entered (clock past) who seq step ∷ past) (legal_acts head past step) all was
      ]

  entries_queues : (past : List Event) (entries : List EntryView) → HasQueues past → AreLegal head past entries → HasQueues (past_from past entries)
  entries_queues past [] was legal = was
  entries_queues past (r ∷ rest) was legal =
      entries_queues (grown past r) rest
      (subst (λ x. HasQueues (grown past x)) (sym legal.0) (queues_after past r.who r.seq r.step was)) legal.1

  -- between entries of a legal journal each place where NCQ is on has a queue
  acts_queues : (journal : List EntryView) → HasLegalActs head journal → HasQueues (past_of journal)
  acts_queues [] legal = absurd legal
  acts_queues (first ∷ rest) legal =
      entries_queues (grown [] first) rest (subst (λ x. HasQueues (grown [] x)) (sym legal.0) boot_queues) legal.1

  pub journal_queues : (journal : List EntryView) → IsLegal head journal → HasQueues (past_of journal)
  journal_queues journal legal = acts_queues journal legal.acts
