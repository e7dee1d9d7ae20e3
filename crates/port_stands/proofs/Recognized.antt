-- The drive that is linked at a place with a device is the size that was identified there, or is yet to be identified.
use Rattle.eh_flow.specs.Table.{deadline_of}
use Rattle.port_rules.proofs.RecoverByPhase.{recover_told, open_ident_acts, log_or_autopsy, phase_acts, reset_acts, look_of}
use Rattle.std.proofs.Common.{◌≡◌, ◌∙◌, ℕ, ◌+◌, ◌<◌, Bool, true, false, nat_lt, List, [], ◌∷◌, Option, None, Some, ◌⊎◌, inl, inr, suc, zero, flat_map, is_some, slice_set, option_and_then, refl, sym, ap, subst, arith, if◌then◌else◌}
use Rattle.std.specs.Prelude.{slice_index_or}
use Rattle.std.specs.List.{range_with_len}
use Rattle.std.specs.Option.{option_map_or}
use Rattle.ata_base.specs.declared.identity.Identity.{Identity}
use Rattle.ata_script.specs.declared.port_head.PortHead.{PortHead}
use Rattle.ata_trace.proofs.Pasts.{onto_append}
use Rattle.ata_trace.specs.Entries.{grown}
use Rattle.ata_trace.specs.Event.{Event, onto}
use Rattle.ata_trace.specs.Event.Event.{Entered, Told}
use Rattle.ata_trace.specs.declared.act.Act.{Act}
use Rattle.ata_trace.specs.declared.act.Act.TheVariants.{Nothing, IdentAsked, Attached}
use Rattle.ata_trace.specs.declared.step.Step.{Step}
use Rattle.ata_trace.specs.declared.step.Step.TheVariants.{Submit, Kick, Work, Irq, Drop, Stray, Tick, Expire, Recover, Plug, Unplug, Inject, Boot}
use Rattle.ata_trace.specs.declared.who.Who.{Who}
use Rattle.ata_trace.specs.declared.who.Who.TheVariants.{Boot as ByBoot}
use Rattle.eh_flow.specs.declared.phase.Phase.{Phase}
use Rattle.eh_flow.specs.declared.phase.Phase.TheVariants.{Idle, Logs, HostOwed, HostOpen, ResetOwed, ResetOpen, IdentOwed, IdentOpen, Through}
use Rattle.eh_reset.specs.ResetWaits.{reset_wait_of}
use Rattle.eh_reval.specs.IdentWaits.{ident_wait_of}
use Rattle.port_past.proofs.PlaceSizes.{length_identities}
use Rattle.port_past.proofs.Sizes.{attached_within}
use Rattle.port_past.specs.Attachment.{attached}
use Rattle.port_past.specs.Clock.{clock}
use Rattle.port_past.specs.Drives.{drives, drive_at}
use Rattle.port_past.specs.Heads.{identity_of, drive_at_boot, places_of}
use Rattle.port_past.specs.Identities.{identities, sectors_at}
use Rattle.port_past.specs.Links.{links, linked_at, plugged_at}
use Rattle.port_past.specs.PortState.{is_frozen, is_asked}
use Rattle.port_past.specs.declared.identity_told.IdentityTold.{IdentityTold}
use Rattle.port_rules.specs.Boot.{found_acts, boot_entry}
use Rattle.port_rules.specs.Legal.{legal_acts, entry_after}
use Rattle.port_rules.specs.Logs.{log_owed, log_acts}
use Rattle.port_rules.specs.Phase.{phase}
use Rattle.port_rules.specs.Plug.{can_plug}
use Rattle.port_rules.specs.Told.{or_nothing}
use Rattle.port_stands.proofs.EachStep.{all_kick}
use Rattle.port_stands.proofs.Fitting.{AreRecognized, HoldOwn}
use Rattle.port_stands.proofs.HandOver.{read_back}
use Rattle.port_stands.proofs.Phases.{phase_is, idle_rests, task_runs}
use Rattle.port_stands.proofs.Severed.{booted}
use Rattle.port_stands.proofs.SeveredTies.{leaves_ties}
use Rattle.port_stands.proofs.Standing.{all_booted}
use Rattle.port_stands.proofs.StandingKinds.{all_irq, all_expire}
use Rattle.port_stands.proofs.Steps.{all_submit, all_work, all_drop, all_stray, all_tick, all_logs}
use Rattle.port_stands.proofs.WholeRows.{Plant, plant, plant_left, is_idle_row}
use Rattle.port_stands.proofs.Within.{read_put, read_same}
use Rattle.port_stands.specs.Words.{recovery, phase_of}
use Rattle.port_stands.proofs.RecognizedTasks.{open_tries}
use Rattle.port_stands.proofs.RecognizedActs.{left_entry, plug_met, unplug_met, inject_met, rests_met, end_met, autopsy_met}
use Rattle.port_stands.proofs.RecognizedRows.{reset_met, host_begun_met, host_ended_met, asked_met, look_met, ident_met}

module _ (head : PortHead) (past : List Event) (who : Who) (seq : ℕ) (was : AreRecognized head past) (own : HoldOwn head past) where
  by_frost : (frozen : Bool) (acts more : List Act) → AreRecognized head (onto (Entered (clock past) who seq Recover ∷ past) acts) → AreRecognized head (onto (Entered (clock past) who seq Recover ∷ past) more)
      → AreRecognized head (onto (Entered (clock past) who seq Recover ∷ past) (if frozen then acts else more))
  by_frost true acts more a b = a
  by_frost false acts more a b = b

  logs_met : phase_of (recovery head past) ≡ Logs → (found : Option ℕ) → AreRecognized head (onto (Entered (clock past) who seq Recover ∷ past) (log_or_autopsy head past found))
  logs_met at (Some place) =
      left_entry head past (clock past) who seq was Recover (log_acts head past place)
      (all_logs leaves_ties (record { page = λ p t s e l c. refl; failed = λ p. refl; bad_sum = λ p. refl; not_queued = λ p. refl; aborted = λ n. refl }) head past place)
  logs_met at None = autopsy_met head past (clock past) who seq was at

  phase_met : (at : Phase) → phase_of (recovery head past) ≡ at → AreRecognized head (onto (Entered (clock past) who seq Recover ∷ past) (phase_acts head past at))
  phase_met Idle is = rests_met head past (clock past) who seq was (idle_rests (recovery head past) is) (is_asked past)
  phase_met Logs is = logs_met is (log_owed head past)
  phase_met HostOwed is = host_begun_met head past (clock past) who seq was own HostOwed (task_runs (recovery head past) HostOwed refl is) (deadline_of (clock past) (reset_wait_of 1))
  phase_met HostOpen is = host_ended_met head past (clock past) who seq was own HostOpen (task_runs (recovery head past) HostOpen refl is)
  phase_met (ResetOwed place attempt ident) is =
      reset_met head past (clock past) who seq was own (ResetOwed place attempt ident) (task_runs (recovery head past) (ResetOwed place attempt ident) refl is) place attempt refl
  phase_met (ResetOpen place attempt ident deadline) is =
      look_met head past (clock past) who seq was own (ResetOpen place attempt ident deadline) (task_runs (recovery head past) (ResetOpen place attempt ident deadline) refl is) place attempt
      (drive_at head past place) (look_of (clock past) deadline.n (drive_at head past place)) refl
  phase_met (IdentOwed place attempt) is =
      let task = task_runs (recovery head past) (IdentOwed place attempt) refl is in
      by_frost (is_frozen past) (reset_acts head past place 1) (IdentAsked place attempt (deadline_of (clock past) (ident_wait_of attempt)) ∷ [])
      (reset_met head past (clock past) who seq was own (IdentOwed place attempt) task place 1 refl)
      (asked_met head past (clock past) who seq was own (IdentOwed place attempt) task place attempt (deadline_of (clock past) (ident_wait_of attempt)) refl)
  phase_met (IdentOpen place attempt deadline) is =
      let task = task_runs (recovery head past) (IdentOpen place attempt deadline) refl is in
      by_frost (is_frozen past) (reset_acts head past place 1) (open_ident_acts head past place attempt deadline.n (drive_at head past place))
      (reset_met head past (clock past) who seq was own (IdentOpen place attempt deadline) task place 1 refl)
      (ident_met head past (clock past) who seq was own (IdentOpen place attempt deadline) task place attempt deadline.n (drive_at head past place) refl
      (open_tries (recovery head past) place attempt deadline (recovery head past).tasks task.at))
  phase_met Through is = end_met head past (clock past) who seq was (task_runs (recovery head past) Through refl is)

  pub recognized_after : (step : Step) → AreRecognized head (grown past (entry_after head past who seq step))
  recognized_after (Submit id place op allow wait) = left_entry head past (clock past) who seq was (Submit id place op allow wait) (legal_acts head past (Submit id place op allow wait)) (all_submit leaves_ties head past id place op refl (λ r. refl))
  recognized_after (Kick place) =
      left_entry head past (clock past) who seq was (Kick place) (legal_acts head past (Kick place))
      (all_kick leaves_ties (record { nothing = refl; deferred = λ i w. refl; exclusive = λ p. refl; gone = λ i. refl; issued = λ i n t d f. refl }) head past place)
  recognized_after (Work place pick) = left_entry head past (clock past) who seq was (Work place pick) (legal_acts head past (Work place pick)) (all_work leaves_ties head past place pick refl refl (λ n s e l c. refl))
  recognized_after Irq = left_entry head past (clock past) who seq was Irq (legal_acts head past Irq) (all_irq leaves_ties head past (λ f e. refl) (λ f. refl) refl refl refl)
  recognized_after Drop = left_entry head past (clock past) who seq was Drop (legal_acts head past Drop) (all_drop leaves_ties past refl refl)
  recognized_after (Stray tag) = left_entry head past (clock past) who seq was (Stray tag) (legal_acts head past (Stray tag)) (all_stray leaves_ties past refl refl)
  recognized_after (Tick ms) = left_entry head past (clock past) who seq was (Tick ms) (legal_acts head past (Tick ms)) (all_tick leaves_ties past ms refl (λ t. refl))
  recognized_after Expire = left_entry head past (clock past) who seq was Expire (legal_acts head past Expire) (all_expire leaves_ties head past (λ f. refl) refl refl refl)
  recognized_after Recover =
      subst (λ acts. AreRecognized head (onto (Entered (clock past) who seq Recover ∷ past) acts)) (sym (recover_told head past))
      (phase_met (phase head past) (sym (phase_is head past)))
  recognized_after (Plug place drive) = plug_met head past (clock past) who seq was place drive (can_plug head (links head past) place drive)
  recognized_after (Unplug place) = unplug_met head past (clock past) who seq was place (is_some (plugged_at (links head past) place))
  recognized_after (Inject place fault) = inject_met head past (clock past) who seq was (Inject place fault) place fault (nat_lt place head.places)
  recognized_after Boot = left_entry head past (clock past) who seq was Boot (Nothing ∷ []) refl

-- ---- the boot

-- a drive stands where a device was attached, of the size that was identified
record IsStanding (head : PortHead) (p : List Event) (x : ℕ) : Type 0 where
  pub identity : Identity
  pub stands : option_and_then (identity_of head.drives) (drive_at_boot head.drives x) ≡ Some identity
  pub size : sectors_at p x ≡ identity.sectors

module _ (head : PortHead) where
  abbrev standing_at : ℕ → Option Identity
  standing_at x = option_and_then (identity_of head.drives) (drive_at_boot head.drives x)

  abbrev AreStanding : List Event → Type 0
  AreStanding p = (x : ℕ) → slice_index_or (attached p) x false ≡ true → IsStanding head p x

  found_standing : (p : List Event) (place : ℕ) (found : Option Identity) → standing_at place ≡ found → AreStanding p → AreStanding (onto p (found_acts place found))
  found_standing p place None is was = was
  found_standing p place (Some i) is was = λ x there. by x there (read_put (identities p) place x (Some told) None)
    where
      told : IdentityTold
      told = record { model = i.model; serial = i.serial; sectors = i.sectors; depth = i.depth }

      by : (x : ℕ) → slice_index_or (slice_set (attached p) place true) x false ≡ true
          → ((x ≡ place) × (slice_index_or (slice_set (identities p) place (Some told)) x None ≡ Some told)) ⊎ (slice_index_or (slice_set (identities p) place (Some told)) x None ≡ slice_index_or (identities p) x None)
          → IsStanding head (onto p (found_acts place (Some i))) x
      by x there (inl here) = record {
        identity = i;
        stands = ap standing_at here.0 ∙ is;
        size = ap (λ o. option_map_or (λ (k : IdentityTold). k.sectors) o 0) here.1;
      }
      by x there (inr other) = elim (read_put (attached p) place x true false) [
        | inl here ↦ record {
          identity = i;
          stands = ap standing_at here.0 ∙ is;
          size = ap (λ o. option_map_or (λ (k : IdentityTold). k.sectors) o 0)
              (ap (λ y. slice_index_or (slice_set (identities p) place (Some told)) y None) here.0
              ∙ read_back (identities p) place (Some told) None (omega (arith, attached_within (Told (Attached place) ∷ p) x there, here.0, length_identities p)));
        }
        | inr old ↦
            let s : IsStanding head p x = was x (sym old ∙ there) in
            record { identity = s.identity; stands = s.stands; size = ap (λ o. option_map_or (λ (k : IdentityTold). k.sectors) o 0) other ∙ s.size }
      ]

  range_standing : (p : List Event) (k n : ℕ) → AreStanding p → AreStanding (onto p (flat_map (λ place. found_acts place (standing_at place)) (range_with_len k n)))
  range_standing p k zero was = was
  range_standing p k (suc n) was =
      subst AreStanding (sym (onto_append p (found_acts k (standing_at k)) (flat_map (λ place. found_acts place (standing_at place)) (range_with_len (k + 1) n))))
      (range_standing (onto p (found_acts k (standing_at k))) (k + 1) n (found_standing p k (standing_at k) refl was))

  or_nothing_met : (acts : List Act) → AreRecognized head (onto (Entered 0 ByBoot 0 Boot ∷ []) acts) → AreRecognized head (onto (Entered 0 ByBoot 0 Boot ∷ []) (or_nothing acts))
  or_nothing_met [] was = was
  or_nothing_met (act ∷ rest) was = was

  pub boot_recognized : AreRecognized head (grown [] (boot_entry head))
  boot_recognized =
      let boot : List Event = Entered 0 ByBoot 0 Boot ∷ [] in
      let acts : List Act = flat_map (λ place. found_acts place (standing_at place)) (places_of head) in
      let same : plant head (onto boot acts) ≡ plant head [] = plant_left head boot acts (all_booted is_idle_row head (λ p i. refl) (λ p w. refl) (λ p o. refl)) in
      or_nothing_met acts (λ x d there linked.
      let few : x < 15 = attached_within (onto boot acts) x there in
      let s : IsStanding head (onto boot acts) x = range_standing boot 0 head.places (λ y is. absurd (cc (is, read_same 15 y false))) x there in
      let at : drive_at_boot head.drives x ≡ Some d = sym (booted head x few) ∙ ap (λ (p : Plant). linked_at p.links x) (sym same) ∙ linked in
      inl (ap (λ o. option_map_or (λ (i : Identity). i.sectors) o 0) (sym (ap (option_and_then (identity_of head.drives)) at) ∙ s.stands) ∙ sym s.size))
