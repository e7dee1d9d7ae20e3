-- What stands of a past stands after each entry.
use Rattle.std.proofs.Common.{◌≡◌, ℕ, ◌<◌, Bool, true, false, not, ◌==◌, List, [], ◌∷◌, Option, None, Some, suc, zero, flat_map, replicate, unwrap_or, slice_get, option_and_then, refl, sym, ap, subst, arith}
use Rattle.std.specs.List.{list_all}
use Rattle.std.proofs.lemmas.Bool.{lt-ltb}
use Rattle.ata_base.specs.declared.identity.Identity.{Identity}
use Rattle.ata_script.specs.declared.port_head.PortHead.{PortHead}
use Rattle.ata_trace.specs.Entries.{EntryView, grown, past_from, past_of}
use Rattle.ata_trace.specs.Event.{Event, onto}
use Rattle.ata_trace.specs.Event.Event.{Entered}
use Rattle.ata_trace.specs.declared.act.Act.{Act}
use Rattle.ata_trace.specs.declared.act.Act.TheVariants.{Identified, Attached, Mode, Nothing}
use Rattle.ata_trace.specs.declared.step.Step.{Step}
use Rattle.ata_trace.specs.declared.step.Step.TheVariants.{Submit, Kick, Work, Irq, Drop, Stray, Tick, Expire, Recover, Plug, Unplug, Inject, Boot}
use Rattle.ata_trace.specs.declared.who.Who.{Who}
use Rattle.ata_trace.specs.declared.who.Who.TheVariants.{Boot as ByBoot}
use Rattle.host_tags.specs.Slots.{flight_at, no_flights}
use Rattle.host_tags.specs.declared.in_flight.InFlight.{InFlight}
use Rattle.port_past.specs.Clock.{clock}
use Rattle.port_rules.specs.Submit.{submit_acts}
use Rattle.ata_base.specs.declared.op.Op.{Op}
use Rattle.port_past.specs.PortState.{is_frozen, is_running}
use Rattle.port_past.specs.Heads.{identity_of, drive_at_boot, places_of}
use Rattle.port_past.specs.Slots.{slots}
use Rattle.port_past.specs.Tasks.{tasks}
use Rattle.port_rules.specs.Boot.{found_acts, found_at, boot_acts, boot_entry}
use Rattle.port_rules.specs.Legal.{entry_after, AreLegal, HasLegalActs, IsLegal}
use Rattle.port_stands.proofs.Autopsies.{flat_range}
use Rattle.port_stands.proofs.Blocks.{all_wider, left_alone}
use Rattle.port_stands.proofs.Guard.{leaves_gate, guarded_left}
use Rattle.port_stands.proofs.GuardIrq.{nothing_told}
use Rattle.port_stands.proofs.GuardFrames.{Frame, frame, frame_step, is_gate_row, is_row_act, row_is_gate, cool_step}
use Rattle.port_stands.proofs.Judgements.{is_no_turn, judged_entry}
use Rattle.port_stands.proofs.Known.{is_no_start, submit_known}
use Rattle.port_stands.proofs.Lists.{all_more, all_or_nothing}
use Rattle.port_stands.proofs.Numbers.{numbered_onto}
use Rattle.port_stands.proofs.Steps.{all_submit}
use Rattle.port_stands.proofs.Within.{is_fit, submit_within, read_same}
use Rattle.port_stands.specs.Gate.{gate, IsGuarded}
use Rattle.port_stands.proofs.Heads.{HasOnePlace}
use Rattle.port_stands.specs.Stands.{Stands}
use Rattle.ata_base.specs.Each.{Each}
use Rattle.port_stands.specs.Known.{IsWaiting}
use Rattle.ata_base.specs.declared.cmd.Cmd.{Cmd}
use Rattle.ata_base.specs.declared.link_action.LinkAction.{LinkAction}
use Rattle.port_stands.specs.Words.{is_no_issue}
use Rattle.port_stands.proofs.StandingSteps.{plain_stands, quiet_stands, work_stands, drop_stands, stray_stands, tick_stands, plug_stands, unplug_stands, inject_stands, irq_stands, expire_stands, recover_stands, kick_stands}

-- ---- each entry

module _ (head : PortHead) (past : List Event) (who : Who) (seq : ℕ) (fits : HasOnePlace head) (was : Stands head past) where
  submit_stands :
      (id place : ℕ) (op : Op) (allow wait : ℕ)
      → Stands head (onto (Entered (clock past) who seq (Submit id place op allow wait) ∷ past) (submit_acts past id place op))
  submit_stands id place op allow wait =
      let step : Step = Submit id place op allow wait in
      let acts : List Act = submit_acts past id place op in
      record {
        numbered = numbered_onto (Entered (clock past) who seq step ∷ past) acts (all_submit is_no_issue head past id place op refl (λ r. refl))
            (record { apart = was.numbered.apart; from_one = was.numbered.from_one; up_to = was.numbered.up_to });
        known = submit_known head past (clock past) who seq id place op allow wait was.known;
        within = submit_within head past (clock past) who seq id place op allow wait was.within;
        judged = judged_entry head past (clock past) who seq step acts (all_submit is_no_turn head past id place op refl (λ r. refl)) was.judged;
        guarded = guarded_left head past (clock past) who seq step acts (all_submit leaves_gate head past id place op refl (λ r. refl)) was.guarded;
      }

  -- what stands stands after the entry of each step
  pub stands_after : (step : Step) → Stands head (grown past (entry_after head past who seq step))
  stands_after (Submit id place op allow wait) = submit_stands id place op allow wait
  stands_after (Kick place) = kick_stands head past (clock past) who seq (Kick place) was place
  stands_after (Work place pick) = work_stands head past (clock past) who seq (Work place pick) was place pick
  stands_after Irq = irq_stands head past (clock past) who seq Irq was
  stands_after Drop = drop_stands head past (clock past) who seq Drop was
  stands_after (Stray tag) = stray_stands head past (clock past) who seq (Stray tag) was
  stands_after (Tick ms) = tick_stands head past (clock past) who seq (Tick ms) was ms
  stands_after Expire = expire_stands head past (clock past) who seq Expire was
  stands_after Recover = recover_stands head past (clock past) who seq Recover was fits
  stands_after (Plug place drive) = plug_stands head past (clock past) who seq (Plug place drive) was place drive
  stands_after (Unplug place) = unplug_stands head past (clock past) who seq (Unplug place) was place
  stands_after (Inject place fault) = inject_stands head past (clock past) who seq (Inject place fault) was place fault
  stands_after Boot = quiet_stands head past (clock past) who seq Boot was (Nothing ∷ []) (record { issues = refl; starts = refl; turns = refl; fits = refl }) refl

-- ---- the boot

pub none_flying : (n tag : ℕ) (f : InFlight) → unwrap_or (slice_get (replicate n None) tag) None ≡ Some f → ⊥
none_flying zero tag f is = cc
none_flying (suc n) zero f is = cc
none_flying (suc n) (suc tag) f is = none_flying n tag f is

pub none_waiting : (P : Cmd → Type 0) (n place : ℕ) → Each P (unwrap_or (slice_get (replicate n []) place) [])
none_waiting P zero place = tt
none_waiting P (suc n) zero = tt
none_waiting P (suc n) (suc place) = none_waiting P n place

found_all :
    (kind : Act → Bool) (place : ℕ) (found : Option Identity)
    → ((i : Identity) → kind (Identified place i.model i.serial i.sectors i.depth) ≡ true) → kind (Attached place) ≡ true
    → ((on : Bool) → kind (Mode place 6 on true) ≡ true) → list_all kind (found_acts place found) ≡ true
found_all kind place None identified attached mode = refl
found_all kind place (Some i) identified attached mode =
    all_more kind (Identified place i.model i.serial i.sectors i.depth) (Attached place ∷ Mode place 6 (not (i.depth == 0)) true ∷ []) (identified i)
    (all_more kind (Attached place) (Mode place 6 (not (i.depth == 0)) true ∷ []) attached
    (all_more kind (Mode place 6 (not (i.depth == 0)) true) [] (mode (not (i.depth == 0))) refl))

pub all_booted :
    (kind : Act → Bool) (head : PortHead)
    → ((place : ℕ) (i : Identity) → kind (Identified place i.model i.serial i.sectors i.depth) ≡ true)
    → ((place : ℕ) → place < head.places → kind (Attached place) ≡ true)
    → ((place : ℕ) (on : Bool) → kind (Mode place 6 on true) ≡ true)
    → list_all kind (flat_map (found_at head) (places_of head)) ≡ true
all_booted kind head identified attached mode =
    flat_range kind (found_at head) 0 head.places
    (λ x low high. found_all kind x (option_and_then (identity_of head.drives) (drive_at_boot head.drives x)) (identified x) (attached x (omega (arith, high))) (mode x))

module _ (head : PortHead) where
  -- before any entry
  nothing_stands : Stands head []
  nothing_stands = record {
    numbered = record {
      apart = λ t u f g at_t at_u same. absurd (none_flying 32 t f at_t);
      from_one = λ t f here. absurd (none_flying 32 t f here);
      up_to = λ t f here. absurd (none_flying 32 t f here);
    };
    known = record {
      flying = λ t f here. absurd (none_flying 32 t f here);
      waiting = λ place. none_waiting (IsWaiting [] place) 15 place;
      returning = tt;
    };
    within = record {
      attached = λ p is. absurd (cc (is, read_same 15 p false));
      hot = λ p is. absurd (cc (is, read_same 15 p false));
      actions = λ p r is. absurd (cc (is, read_same {A = Option LinkAction} 15 p None));
      tasks = tt;
      commands = tt;
    };
    judged = record { judged = λ runs done t f here. absurd (none_flying 32 t f here) };
    guarded = record {
      owned = λ runs t f here. absurd (cc);
      recovering = λ t f here own. absurd (none_flying 32 t f here);
      expired = λ t f here free told. absurd (none_flying 32 t f here);
      direct = λ is cold. absurd (cc);
      multiplier = λ is cold. absurd (cc);
      new = λ runs early. absurd (cc);
      home = λ is. refl;
    };
  }

  boot_guarded :
      (acts : List Act) → list_all is_row_act acts ≡ true
      → IsGuarded head.pmp (gate head (onto (Entered 0 ByBoot 0 Boot ∷ []) acts))
  boot_guarded acts all =
      let start : List Event = Entered 0 ByBoot 0 Boot ∷ [] in
      let same : frame head (onto start acts) ≡ frame head [] =
      left_alone is_gate_row (frame head) (frame_step head) start acts (all_wider is_row_act is_gate_row row_is_gate acts all) in
      let cool : is_frozen (onto start acts) ≡ false = left_alone is_row_act is_frozen cool_step start acts all in
      let idle : is_running (onto start acts) ≡ false = ap (λ (f : Frame). f.running) same in
      let empty : slots (onto start acts) ≡ no_flights = ap (λ (f : Frame). f.slots) same in
      let none : tasks head (onto start acts) ≡ [] = ap (λ (f : Frame). f.tasks) same in
      record {
        owned = λ runs t f here. absurd (cc);
        recovering = λ t f here own. absurd (none_flying 32 t f (subst (λ s. flight_at s t ≡ Some f) empty here));
        expired = λ t f here free told. absurd (none_flying 32 t f (subst (λ s. flight_at s t ≡ Some f) empty here));
        direct = λ is cold. absurd (cc);
        multiplier = λ is cold. absurd (cc);
        new = λ runs early. absurd (cc);
        home = λ is. rw none refl;
      }

  -- what stands stands after the boot
  pub boot_stands : Stands head (grown [] (boot_entry head))
  boot_stands =
      let acts : List Act = flat_map (found_at head) (places_of head) in
      plain_stands head [] 0 ByBoot 0 Boot nothing_stands (boot_acts head)
      (record {
        issues = all_or_nothing is_no_issue acts refl (all_booted is_no_issue head (λ p i. refl) (λ p w. refl) (λ p o. refl));
        starts = all_or_nothing is_no_start acts refl (all_booted is_no_start head (λ p i. refl) (λ p w. refl) (λ p o. refl));
        turns = all_or_nothing is_no_turn acts refl (all_booted is_no_turn head (λ p i. refl) (λ p w. refl) (λ p o. refl));
        fits = all_or_nothing (is_fit head.places) acts refl
            (all_booted (is_fit head.places) head (λ p i. refl) (λ p w. lt-ltb p head.places w) (λ p o. refl));
      })
      (subst (IsGuarded head.pmp) (sym (nothing_told head (Entered 0 ByBoot 0 Boot ∷ []) acts))
      (boot_guarded acts (all_booted is_row_act head (λ p i. refl) (λ p w. refl) (λ p o. refl))))

  entries_stand :
      HasOnePlace head → (past : List Event) (entries : List EntryView) → Stands head past → AreLegal head past entries
      → Stands head (past_from past entries)
  entries_stand fits past [] was legal = was
  entries_stand fits past (r ∷ rest) was legal =
      entries_stand fits (grown past r) rest
      (subst (λ x. Stands head (grown past x)) (sym legal.0) (stands_after head past r.who r.seq fits was r.step)) legal.1

  -- it stands of every legal journal
  acts_stands : HasOnePlace head → (journal : List EntryView) → HasLegalActs head journal → Stands head (past_of journal)
  acts_stands fits [] legal = absurd legal
  acts_stands fits (first ∷ rest) legal =
      entries_stand fits (grown [] first) rest
      (subst (λ x. Stands head (grown [] x)) (sym legal.0) boot_stands) legal.1

  pub journal_stands : HasOnePlace head → (journal : List EntryView) → IsLegal head journal → Stands head (past_of journal)
  journal_stands fits journal legal = acts_stands fits journal legal.acts

pub stays :
    (head : PortHead) → HasOnePlace head → (past : List Event) (who : Who) (seq : ℕ) (step : Step) → Stands head past
    → Stands head (grown past (entry_after head past who seq step))
stays head fits past who seq step was = stands_after head past who seq fits was step
