-- What waits and what flies is of accepted commands.
use Rattle.std.proofs.Common.{◌≡◌, ◌∙◌, ℕ, Bool, true, false, not, ◌==◌, cond, List, [], ◌∷◌, ◌++◌, Option, None, Some, option_map, option_to_list, ◌⊎◌, inl, inr, suc, zero, map, find, drop, slice_set, refl, sym, ap, subst, if◌then◌else◌}
use Rattle.std.specs.List.{list_all}
use Rattle.std.proofs.lemmas.Bool.{eq-eqb}
use Rattle.std.proofs.lemmas.List.Folds.{find-append}
use Rattle.std.specs.Option.{option_or, option_map_or}
use Rattle.ata_base.specs.declared.cmd.Cmd.{Cmd}
use Rattle.ata_script.specs.declared.port_head.PortHead.{PortHead}
use Rattle.ata_trace.specs.Event.{Event, onto}
use Rattle.ata_trace.specs.Event.Event.{Entered, Told}
use Rattle.ata_trace.specs.declared.act.Act.{Act}
use Rattle.ata_trace.specs.declared.act.Act.TheVariants.{Accepted, Issued, AnsweredNodev, Retried, Ended, Refused, Deferred, Exclusive, Nothing}
use Rattle.host_queue.specs.Waiting.{waiting_at, joined, without_front}
use Rattle.host_tags.specs.Slots.{flight_at}
use Rattle.host_tags.specs.declared.in_flight.InFlight.{InFlight}
use Rattle.port_past.specs.Commands.{commands, command_of, counted, place_of, is_accepted}
use Rattle.port_past.specs.Queues.{queues, retried, with_retried}
use Rattle.port_past.specs.Slots.{slots}
use Rattle.ata_base.specs.declared.op.Op.{Op}
use Rattle.std.specs.Prelude.{slice_index_or, slice_index}
use Rattle.ata_trace.specs.declared.refusal.Refusal.{Refusal}
use Rattle.ata_trace.specs.declared.refusal.Refusal.TheVariants.{SameId, NoDevice, BadCount, BadRange}
use Rattle.ata_trace.specs.declared.step.Step.{Step}
use Rattle.ata_trace.specs.declared.step.Step.TheVariants.{Submit}
use Rattle.ata_trace.specs.declared.who.Who.{Who}
use Rattle.port_past.specs.Attachment.{attached, detachments}
use Rattle.port_past.specs.Identities.{sectors_at}
use Rattle.port_rules.specs.Kick.{kick_acts}
use Rattle.port_rules.specs.Submit.{has_count, is_on_device, refusal_of, refused_or_accepted, submit_acts}
use Rattle.ata_base.specs.Reasons.{first_reason}
use Rattle.port_stands.proofs.Kicks.{is_wait, IsIssue, kick_does}
use Rattle.port_stands.proofs.Kicks.KickDoes.{Waits, Gone, Issues}
use Rattle.ata_base.proofs.Truth.{both}
use Rattle.port_stands.proofs.Blocks.{flight_step, all_wider}
use Rattle.port_stands.proofs.Marks.{IsSame, was_there}
use Rattle.port_stands.proofs.Numbers.{read_written, some_same}
use Rattle.port_stands.specs.Gate.{AreAll}
use Rattle.ata_base.specs.Each.{Each}
use Rattle.port_stands.specs.Known.{IsKnown, IsWaiting, AreKnown}
use Rattle.port_stands.specs.Words.{is_no_issue}
use Rattle.ata_base.proofs.EachLemmas.{every_front, every_weaker, every_append, every_rest}
use Rattle.port_past.proofs.KnownCommands.{found_id, not_found}

-- ---- queues, one at a time

-- what waits at a place once a queue is written: what was written, or what waited
pub queue_written :
    (lists : List (List Cmd)) (place at : ℕ) (queue : List Cmd)
    → ((at ≡ place) × (waiting_at (slice_set lists place queue) at ≡ queue)) ⊎ (waiting_at (slice_set lists place queue) at ≡ waiting_at lists at)
queue_written [] place at queue = inr refl
queue_written (q ∷ lists) zero zero queue = inl (refl, refl)
queue_written (q ∷ lists) zero (suc at) queue = inr refl
queue_written (q ∷ lists) (suc place) zero queue = inr refl
queue_written (q ∷ lists) (suc place) (suc at) queue =
    elim (queue_written lists place at queue) [
      | inl here ↦ inl (ap suc here.0, here.1)
      | inr there ↦ inr there
    ]

module _ (P : ℕ → Cmd → Type 0) where
  pub each_written :
      (lists : List (List Cmd)) (place : ℕ) (queue : List Cmd) → ((at : ℕ) → Each (P at) (waiting_at lists at))
      → Each (P place) queue → (at : ℕ) → Each (P at) (waiting_at (slice_set lists place queue) at)
  each_written lists place queue each new at =
      elim (queue_written lists place at queue) [
        | inl here ↦ subst (λ q. Each (P at) q) (sym here.1) (subst (λ x. Each (P x) queue) (sym here.0) new)
        | inr there ↦ subst (λ q. Each (P at) q) (sym there) (each at)
      ]

  pub each_served :
      (lists : List (List Cmd)) (place : ℕ) → ((at : ℕ) → Each (P at) (waiting_at lists at))
      → (at : ℕ) → Each (P at) (waiting_at (without_front place lists) at)
  each_served lists place each = each_written lists place (drop 1 (waiting_at lists place)) each (every_rest (P place) (waiting_at lists place) (each place))

  pub each_joined :
      (lists : List (List Cmd)) (c : Cmd) → P c.place c → ((at : ℕ) → Each (P at) (waiting_at lists at))
      → (at : ℕ) → Each (P at) (waiting_at (joined c lists) at)
  each_joined lists c new each =
      each_written lists c.place (waiting_at lists c.place ++ c ∷ []) each
      (every_append (P c.place) (waiting_at lists c.place) (c ∷ []) (each c.place) (new, tt))

  pub each_returned :
      (lists : List (List Cmd)) (more : List Cmd) → Each (λ c. P c.place c) more → ((at : ℕ) → Each (P at) (waiting_at lists at))
      → (at : ℕ) → Each (P at) (waiting_at (with_retried more lists) at)
  each_returned lists [] new each = each
  each_returned lists (c ∷ more) new each =
      let rest = each_returned lists more new.1 each in
      each_written (with_retried more lists) c.place (c ∷ waiting_at (with_retried more lists) c.place) rest (new.0, rest c.place)

-- ---- accepted commands

pub found_more : (p : Cmd → Bool) (was : List Cmd) (c d : Cmd) → find p was ≡ Some d → find p (was ++ c ∷ []) ≡ Some d
found_more p was c d is = find-append p was (c ∷ []) ∙ ap (λ o. option_or o (find p (c ∷ []))) is

-- one more accepted command
abbrev pub known_more :
    (was : List Cmd) (c : Cmd) (id place : ℕ) → IsKnown was id place → IsKnown (was ++ c ∷ []) id place
known_more was c id place k = record { cmd = k.cmd; found = found_more (λ d. d.id == id) was c k.cmd k.found; there = k.there }

-- a command with a new number is found
abbrev pub known_new : (was : List Cmd) (c : Cmd) → command_of c.id was ≡ None → IsKnown (was ++ c ∷ []) c.id c.place
known_new was c new = record {
  cmd = c;
  found = find-append (λ d. d.id == c.id) was (c ∷ []) ∙ ap (λ o. option_or o (find (λ d. d.id == c.id) (c ∷ []))) new
      ∙ ap (λ b. cond b (Some c) None) (eq-eqb c.id c.id refl);
  there = refl;
}

pub counted_if : (b raised : Bool) (c : Cmd) → ((if b then counted raised c else c).id ≡ c.id) × ((if b then counted raised c else c).place ≡ c.place)
counted_if true raised c = (refl, refl)
counted_if false raised c = (refl, refl)

mapped_by :
    (g : Cmd → Cmd) (b : Bool) (c d : Cmd) (o more : Option Cmd) → cond b (Some c) o ≡ Some d
    → (o ≡ Some d → more ≡ Some (g d)) → cond b (Some (g c)) more ≡ Some (g d)
mapped_by g true c d o more is later = ap (option_map g) is
mapped_by g false c d o more is later = later is

pub found_mapped :
    (g : Cmd → Cmd) (id : ℕ) → ((c : Cmd) → (g c).id ≡ c.id) → (was : List Cmd) (d : Cmd) → command_of id was ≡ Some d
    → command_of id (map g was) ≡ Some (g d)
found_mapped g id keeps [] d is = absurd (cc)
found_mapped g id keeps (c ∷ was) d is =
    ap (λ i. cond (i == id) (Some (g c)) (command_of id (map g was))) (keeps c)
    ∙ mapped_by g (c.id == id) c d (command_of id was) (command_of id (map g was)) is (λ later. found_mapped g id keeps was d later)

-- a command that is counted is as known
abbrev pub known_counted :
    (was : List Cmd) (which : ℕ) (raised : Bool) (id place : ℕ) → IsKnown was id place
    → IsKnown (map (λ c. if c.id == which then counted raised c else c) was) id place
known_counted was which raised id place k =
    let g : Cmd → Cmd = λ c. if c.id == which then counted raised c else c in
    record {
      cmd = g k.cmd;
      found = found_mapped g id (λ c. (counted_if (c.id == which) raised c).0) was k.cmd k.found;
      there = (counted_if (k.cmd.id == which) raised k.cmd).1 ∙ k.there;
    }

-- ---- acts

-- an act by which no command and no issue begins
abbrev pub is_no_start : Act → Bool
is_no_start (Accepted id) = false
is_no_start (Issued id number tag deadline fis) = false
is_no_start act = true

start_issues : (act : Act) → is_no_start act ≡ true → is_no_issue act ≡ true
start_issues (Issued id number tag deadline fis) is = is
start_issues act is = refl

-- what flies after an act flew before
pub flying_after :
    (past : List Event) (act : Act) → is_no_issue act ≡ true
    → (P : InFlight → Type 0) → ((f g : InFlight) → IsSame f g → P f → P g)
    → AreAll P (slots past) → AreAll P (slots (Told act ∷ past))
flying_after past act none P moves was tag g here =
    let a = was_there (act ∷ []) (flight_at (slots past) tag) g (sym (flight_step act (commands past) (slots past) tag none) ∙ here) in
    moves a.0 g a.1.1 (was tag a.0 a.1.0)

counted_device : (b raised : Bool) (c : Cmd) → (if b then counted raised c else c).attachment ≡ c.attachment
counted_device true raised c = refl
counted_device false raised c = refl

-- a command that waits is as well known once one is counted, and once one more is accepted
waiting_counted :
    (was : List Cmd) (which : ℕ) (raised : Bool) (place : ℕ) (c : Cmd) → IsWaiting was place c
    → IsWaiting (map (λ c. if c.id == which then counted raised c else c) was) place c
waiting_counted was which raised place c w = record {
  known = known_counted was which raised c.id c.place w.known;
  there = w.there;
  attachment = counted_device (w.known.cmd.id == which) raised w.known.cmd ∙ w.attachment;
}

waiting_more : (was : List Cmd) (new : Cmd) (place : ℕ) (c : Cmd) → IsWaiting was place c → IsWaiting (was ++ new ∷ []) place c
waiting_more was new place c w = record { known = known_more was new c.id c.place w.known; there = w.there; attachment = w.attachment }

known_same : (was : List Cmd) (f g : InFlight) → IsSame f g → IsKnown was f.id f.place → IsKnown was g.id g.place
known_same was f g same k = record { cmd = k.cmd; found = ap (λ id. command_of id was) same.cmd ∙ k.found; there = k.there ∙ sym same.place }

retried_known :
    (was : List Cmd) (id : ℕ) (raised : Bool) (found : Option Cmd) → command_of id was ≡ found
    → Each (λ c. IsWaiting (map (λ c. if c.id == id then counted raised c else c) was) c.place c) (option_to_list (option_map (counted raised) found))
retried_known was id raised None is = tt
retried_known was id raised (Some c) is =
    let number : c.id ≡ id = found_id id was c is in (
      record {
        known = known_counted was id raised c.id c.place (record { cmd = c; found = ap (λ i. command_of i was) number ∙ is; there = refl });
        there = refl;
        attachment = counted_device (c.id == id) raised c;
      },
      tt,
    )

pub served_if :
    (b : Bool) (P : ℕ → Cmd → Type 0) (lists : List (List Cmd)) (place : ℕ) → ((at : ℕ) → Each (P at) (waiting_at lists at))
    → (at : ℕ) → Each (P at) (waiting_at (if b then without_front place lists else lists) at)
served_if true P lists place each = each_served P lists place each
served_if false P lists place each = each

known_step : (past : List Event) (act : Act) → is_no_start act ≡ true → AreKnown past → AreKnown (Told act ∷ past)
known_step past (Accepted id) none was = absurd (cc)
known_step past (Issued id number tag deadline fis) none was = absurd (cc)
known_step past (AnsweredNodev id number) none was = record {
  flying = flying_after past (AnsweredNodev id number) refl (λ f. IsKnown (commands past) f.id f.place) (known_same (commands past)) was.flying;
  waiting = served_if (number.n == 0) (IsWaiting (commands past)) (queues past) (place_of id (commands past)) was.waiting;
  returning = was.returning;
}
known_step past (Retried id number raised) none was =
    let now : List Cmd = map (λ c. if c.id == id then counted raised c else c) (commands past) in
    let more : (i place : ℕ) → IsKnown (commands past) i place → IsKnown now i place = known_counted (commands past) id raised in
    record {
      flying = λ tag f here. more f.id f.place
          (flying_after past (Retried id number raised) refl (λ f. IsKnown (commands past) f.id f.place) (known_same (commands past)) was.flying tag f here);
      waiting = λ place. every_weaker (IsWaiting (commands past) place) (IsWaiting now place)
          (waiting_counted (commands past) id raised place) (waiting_at (queues past) place) (was.waiting place);
      returning = every_append (λ c. IsWaiting now c.place c) (retried past) (option_to_list (option_map (counted raised) (command_of id (commands past))))
          (every_weaker (λ c. IsWaiting (commands past) c.place c) (λ c. IsWaiting now c.place c) (λ c w. waiting_counted (commands past) id raised c.place c w) (retried past) was.returning)
          (retried_known (commands past) id raised (command_of id (commands past)) refl);
    }
known_step past Ended none was = record {
  flying = was.flying;
  waiting = each_returned (IsWaiting (commands past)) (queues past) (retried past)
      was.returning was.waiting;
  returning = tt;
}
known_step past act none was = record {
  flying = flying_after past act (start_issues act none) (λ f. IsKnown (commands past) f.id f.place) (known_same (commands past)) was.flying;
  waiting = was.waiting;
  returning = was.returning;
}

-- acts by which nothing begins leave all known
pub known_onto : (past : List Event) (acts : List Act) → list_all is_no_start acts ≡ true → AreKnown past → AreKnown (onto past acts)
known_onto past [] all was = was
known_onto past (act ∷ rest) all was =
    let parts = both (is_no_start act) (list_all is_no_start rest) all in
    known_onto (Told act ∷ past) rest parts.1 (known_step past act parts.0 was)

-- a head changes nothing
pub known_begun : (past : List Event) (event : Event) → commands (event ∷ past) ≡ commands past → slots (event ∷ past) ≡ slots past
    → queues (event ∷ past) ≡ queues past → retried (event ∷ past) ≡ retried past → AreKnown past → AreKnown (event ∷ past)
known_begun past event c s q r was = record {
  flying = λ tag f here. subst (λ x. IsKnown x f.id f.place) (sym c) (was.flying tag f (subst (λ x. flight_at x tag ≡ Some f) s here));
  waiting = λ place. subst (λ x. Each (IsWaiting x place) (waiting_at (queues (event ∷ past)) place)) (sym c)
      (subst (λ x. Each (IsWaiting (commands past) place) (waiting_at x place)) (sym q) (was.waiting place));
  returning = subst (λ x. Each (λ d. IsWaiting x d.place d) (retried (event ∷ past))) (sym c)
      (subst (λ x. Each (λ d. IsWaiting (commands past) d.place d) x) (sym r) was.returning);
}

-- ---- entries

no_reason :
    (a b c d : Bool)
    → first_reason ((SameId, a) ∷ (NoDevice, not b) ∷ (BadCount, c) ∷ (BadRange, d) ∷ []) ≡ None
    → (a ≡ false) × (b ≡ true)
no_reason true b c d is = absurd (cc)
no_reason false false c d is = absurd (cc)
no_reason false true c d is = (refl, refl)

-- what is accepted is new, and a device is attached at its place
pub accepted_fits :
    (head : PortHead) (past : List Event) (id place : ℕ) (op : Op) → refusal_of past id place op ≡ None
    → (is_accepted id (commands past) ≡ false) × (slice_index_or (attached past) place false ≡ true)
accepted_fits head past id place op is =
    no_reason (is_accepted id (commands past)) (slice_index_or (attached past) place false) (not (has_count op)) (not (is_on_device op (sectors_at past place))) is

module _ (head : PortHead) (past : List Event) (time : ℕ) (who : Who) (seq : ℕ) where
  -- an entry in which nothing begins
  pub known_entry :
      (step : Step) (acts : List Act) → list_all is_no_start acts ≡ true → AreKnown past
      → AreKnown (onto (Entered time who seq step ∷ past) acts)
  known_entry step acts all was =
      known_onto (Entered time who seq step ∷ past) acts all (known_begun past (Entered time who seq step) refl refl refl refl was)

  accepted_known :
      (id place : ℕ) (op : Op) (allow wait : ℕ) (why : Option Refusal) → refusal_of past id place op ≡ why → AreKnown past
      → AreKnown (onto (Entered time who seq (Submit id place op allow wait) ∷ past) (refused_or_accepted id why))
  accepted_known id place op allow wait (Some why) is was = known_entry (Submit id place op allow wait) (Refused id why ∷ []) refl was
  accepted_known id place op allow wait None is was =
      let c : Cmd = record {
        id = id;
        place = place;
        op = op;
        allow = allow;
        retries = 0;
        wait = record { n = wait };
        attachment = slice_index (detachments past) place;
      } in
      let new = known_new (commands past) c (not_found id (commands past) (accepted_fits head past id place op is).0) in
      let more : (i p : ℕ) → IsKnown (commands past) i p → IsKnown (commands past ++ c ∷ []) i p = known_more (commands past) c in
      record {
        flying = λ tag f here. more f.id f.place (was.flying tag f here);
        waiting = each_joined (IsWaiting (commands past ++ c ∷ [])) (queues past) c (record { known = new; there = refl; attachment = refl })
            (λ at. every_weaker (IsWaiting (commands past) at) (IsWaiting (commands past ++ c ∷ []) at)
            (waiting_more (commands past) c at) (waiting_at (queues past) at) (was.waiting at));
        returning = every_weaker (λ d. IsWaiting (commands past) d.place d) (λ d. IsWaiting (commands past ++ c ∷ []) d.place d)
            (λ d w. waiting_more (commands past) c d.place d w) (retried past) was.returning;
      }

  pub submit_known :
      (id place : ℕ) (op : Op) (allow wait : ℕ) → AreKnown past
      → AreKnown (onto (Entered time who seq (Submit id place op allow wait) ∷ past) (submit_acts past id place op))
  submit_known id place op allow wait was = accepted_known id place op allow wait (refusal_of past id place op) refl was

  issued_known :
      (step : Step) (place : ℕ) (acts : List Act) → IsIssue head past place acts → AreKnown past
      → AreKnown (onto (Entered time who seq step ∷ past) acts)
  issued_known step place acts issue was =
      let id : ℕ = issue.cmd.id in
      let front : IsWaiting (commands past) place issue.cmd = every_front (IsWaiting (commands past) place) (waiting_at (queues past) place) issue.cmd issue.waiting (was.waiting place) in
      let at : place_of id (commands past) ≡ front.known.cmd.place = ap (λ o. option_map_or (λ c. c.place) o 0) front.known.found in
      subst (λ a. AreKnown (onto (Entered time who seq step ∷ past) a)) (sym issue.told)
      (record {
        flying = λ tag f here. elim (read_written (slots past) issue.tag tag _ f here) [
          | inl new ↦ subst (λ (x : InFlight). IsKnown (commands past) x.id x.place) (some_same _ f new.1)
              (record { cmd = front.known.cmd; found = front.known.found; there = sym at })
          | inr old ↦ was.flying tag f old.1
        ];
        waiting = each_served (IsWaiting (commands past)) (queues past) (place_of id (commands past)) was.waiting;
        returning = was.returning;
      })

  wait_starts : (act : Act) → is_wait act ≡ true → is_no_start act ≡ true
  wait_starts Nothing is = refl
  wait_starts (Deferred id why) is = refl
  wait_starts (Exclusive place) is = refl
  wait_starts act is = absurd (cc)

  pub kick_known :
      (step : Step) (place : ℕ) → AreKnown past → AreKnown (onto (Entered time who seq step ∷ past) (kick_acts head past place))
  kick_known step place was =
      elim (kick_does head past place) [
        | Waits all ↦ known_entry step (kick_acts head past place) (all_wider is_wait is_no_start wait_starts (kick_acts head past place) all) was
        | Gone answer ↦ known_entry step (kick_acts head past place) (subst (λ a. list_all is_no_start a ≡ true) (sym answer.told) refl) was
        | Issues issue ↦ issued_known step place (kick_acts head past place) issue was
      ]
