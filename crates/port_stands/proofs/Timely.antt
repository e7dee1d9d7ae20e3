-- How late the issues in flight may be due, and since when an asked port may be quiet.
use Rattle.std.proofs.Common.{◌≡◌, ℕ, ◌+◌, ◌≤◌, Bool, true, false, ◌==◌, nat_le, ◌^◌, List, [], ◌∷◌, Option, None, Some, option_map, option_to_list, map, inl, inr, refl, sym, ap, subst, arith, if◌then◌else◌}
use Rattle.std.specs.List.{list_all, All}
use Rattle.std.specs.Prelude.{slice_index}
use Rattle.std.proofs.lemmas.Bool.{leb-true, le-leb}
use Rattle.ata_base.specs.declared.cmd.Cmd.{Cmd}
use Rattle.ata_base.specs.declared.ms.Ms.{Ms}
use Rattle.ata_base.specs.declared.op.Op.{Op}
use Rattle.ata_script.specs.declared.port_head.PortHead.{PortHead}
use Rattle.ata_trace.specs.Entries.{EntryView, grown, past_from, past_of}
use Rattle.ata_trace.specs.Event.{Event, onto}
use Rattle.ata_trace.specs.Event.Event.{Entered, Told}
use Rattle.ata_trace.specs.declared.act.Act.{Act}
use Rattle.ata_trace.specs.declared.act.Act.TheVariants.{Accepted, Refused, Issued, Now, AnsweredOk, AnsweredNodev, Retried, Ended, Requested, Nothing, Deferred, Exclusive}
use Rattle.ata_trace.specs.declared.refusal.Refusal.{Refusal}
use Rattle.ata_trace.specs.declared.step.Step.{Step}
use Rattle.ata_trace.specs.declared.step.Step.TheVariants.{Submit, Kick, Work, Irq, Drop, Stray, Tick, Expire, Recover, Plug, Unplug, Inject, Boot}
use Rattle.ata_trace.specs.declared.who.Who.{Who}
use Rattle.ata_trace.specs.declared.who.Who.TheVariants.{Boot as ByBoot}
use Rattle.host_queue.specs.Waiting.{waiting_at}
use Rattle.host_tags.specs.declared.in_flight.InFlight.{InFlight}
use Rattle.port_past.specs.Clock.{clock}
use Rattle.port_past.specs.Commands.{commands, command_of, counted, place_of}
use Rattle.port_past.specs.Attachment.{detachments}
use Rattle.port_past.specs.Queues.{queues, retried}
use Rattle.port_past.specs.Slots.{slots}
use Rattle.port_rules.specs.Boot.{boot_acts, boot_entry}
use Rattle.port_rules.specs.Kick.{kick_acts}
use Rattle.std.proofs.lemmas.List.Elements.{All-head, All-tail}
use Rattle.port_rules.specs.Ranges.{IsScriptStep}
use Rattle.port_rules.specs.Legal.{legal_acts, entry_after, AreLegal, HasLegalActs, IsLegal}
use Rattle.port_rules.specs.Phase.{phase}
use Rattle.port_rules.specs.Submit.{refusal_of, refused_or_accepted}
use Rattle.port_stands.proofs.All.{all_after, boot_all}
use Rattle.ata_base.proofs.Truth.{both}
use Rattle.port_stands.proofs.Blocks.{all_wider}
use Rattle.port_stands.proofs.Judgements.{each_found}
use Rattle.port_stands.proofs.Kicks.{is_wait, kick_does}
use Rattle.port_stands.proofs.Kicks.KickDoes.{Waits, Gone, Issues}
use Rattle.ata_base.proofs.EachLemmas.{every_append, every_front}
use Rattle.port_stands.proofs.Known.{each_served, each_joined, each_returned, served_if, flying_after}
use Rattle.port_stands.proofs.Numbers.{read_written, some_same}
use Rattle.port_stands.proofs.Phases.{phase_is}
use Rattle.port_stands.proofs.Recovering.{HasRecovery, all_recover}
use Rattle.port_stands.proofs.Silence.{boot_kind}
use Rattle.port_stands.proofs.StandingKinds.{all_irq, all_expire}
use Rattle.port_stands.proofs.Standing.{none_flying, none_waiting}
use Rattle.port_stands.proofs.StandingSteps.{place_within}
use Rattle.port_stands.proofs.Steps.{all_work, all_drop, all_stray, all_plug, all_unplug, all_inject}
use Rattle.port_stands.specs.All.{AllStands}
use Rattle.port_stands.specs.Gate.{AreAll}
use Rattle.ata_base.specs.Each.{Each}
use Rattle.port_stands.proofs.Heads.{HasOnePlace}
use Rattle.port_stands.specs.Timely.{longest_wait, is_short_step, AreShort, IsTimely}
use Rattle.port_stands.specs.Words.{is_no_issue}

-- an act by which no command and no issue begins, and no time passes
abbrev pub is_timeless : Act → Bool
is_timeless (Accepted id) = false
is_timeless (Issued id number tag deadline fis) = false
is_timeless (Now at) = false
is_timeless act = true

timeless_issues : (act : Act) → is_timeless act ≡ true → is_no_issue act ≡ true
timeless_issues (Issued id number tag deadline fis) is = is
timeless_issues act is = refl

wait_timeless : (act : Act) → is_wait act ≡ true → is_timeless act ≡ true
wait_timeless Nothing is = refl
wait_timeless (Deferred id why) is = refl
wait_timeless (Exclusive place) is = refl
wait_timeless act is = absurd (cc)

timeless_recovery : (n : ℕ) → HasRecovery is_timeless n
timeless_recovery n = record {
  nothing = refl;
  waiting = λ t. refl;
  answered = λ f e. refl;
  condemned = λ f k. refl;
  frozen = refl;
  thawed = refl;
  logs = record { page = λ p t s e l c. refl; failed = λ p. refl; bad_sum = λ p. refl; not_queued = λ p. refl; aborted = λ n. refl };
  autopsy = λ p w. record { judged = λ n k. refl; recorded = λ i d k n s o e a. refl; cleared = refl; hot = λ g. refl };
  action = λ p k r w. refl;
  host_begun = λ d. refl;
  host_ended = refl;
  begun = λ p a d. refl;
  reset = λ p w. record { ended = λ g. refl; none = refl; late = refl; failed = refl; disabled = refl; detached = refl; waiting = refl };
  asked = λ p a d. refl;
  identity = λ p w. record { identified = λ i. refl; same = refl; attached = refl; detached = refl; disabled = refl; mode = λ u o d. refl; late = refl; waiting = refl };
  finish = record { nodev = λ i n. refl; retried = λ i n r. refl; failed = λ i n j. refl };
  ended = refl;
}

module _ (limit : ℕ) where
  abbrev IsShort : Cmd → Type 0
  IsShort c = c.wait.n ≤ limit

  -- what was accepted, waits and is given back waits so long at most, and the port is timely
  pub record AreTimely (past : List Event) : Type 0 where
    pub accepted : Each IsShort (commands past)
    pub waiting : (place : ℕ) → Each IsShort (waiting_at (queues past) place)
    pub returning : Each IsShort (retried past)
    pub timely : IsTimely limit past

  counted_short : (b raised : Bool) (c : Cmd) → IsShort c → IsShort (if b then counted raised c else c)
  counted_short true raised c is = is
  counted_short false raised c is = is

  given_short :
      (was : List Cmd) (id : ℕ) (raised : Bool) (found : Option Cmd) → command_of id was ≡ found → Each IsShort was
      → Each IsShort (option_to_list (option_map (counted raised) found))
  given_short was id raised None is each = tt
  given_short was id raised (Some c) is each = (each_found IsShort id was c is each, tt)

  due_after :
      (past : List Event) (act : Act) → is_no_issue act ≡ true → AreAll (λ f. f.deadline.n ≤ clock past + limit) (slots past)
      → AreAll (λ f. f.deadline.n ≤ clock past + limit) (slots (Told act ∷ past))
  due_after past act none was =
      flying_after past act none (λ f. f.deadline.n ≤ clock past + limit) (λ f g same low. omega (arith, low, ap (λ (d : Ms). d.n) same.deadline)) was

  timely_step : (past : List Event) (act : Act) → is_timeless act ≡ true → AreTimely past → AreTimely (Told act ∷ past)
  timely_step past (Accepted id) is was = absurd (cc)
  timely_step past (Issued id number tag deadline fis) is was = absurd (cc)
  timely_step past (Now at) is was = absurd (cc)
  timely_step past (AnsweredNodev id number) is was = record {
    accepted = was.accepted;
    waiting = served_if (number.n == 0) (λ at c. IsShort c) (queues past) (place_of id (commands past)) was.waiting;
    returning = was.returning;
    timely = record { due = due_after past (AnsweredNodev id number) refl was.timely.due; quiet_since = was.timely.quiet_since };
  }
  timely_step past (Retried id number raised) is was = record {
    accepted = each_changed (commands past) was.accepted;
    waiting = was.waiting;
    returning = every_append IsShort (retried past) (option_to_list (option_map (counted raised) (command_of id (commands past)))) was.returning
        (given_short (commands past) id raised (command_of id (commands past)) refl was.accepted);
    timely = record { due = due_after past (Retried id number raised) refl was.timely.due; quiet_since = was.timely.quiet_since };
  }
    where
      each_changed : (cs : List Cmd) → Each IsShort cs → Each IsShort (map (λ c. if c.id == id then counted raised c else c) cs)
      each_changed [] each = tt
      each_changed (c ∷ cs) each = (counted_short (c.id == id) raised c each.0, each_changed cs each.1)
  timely_step past Ended is was = record {
    accepted = was.accepted;
    waiting = each_returned (λ at c. IsShort c) (queues past) (retried past) was.returning was.waiting;
    returning = tt;
    timely = record { due = was.timely.due; quiet_since = was.timely.quiet_since };
  }
  timely_step past (AnsweredOk id number status error lba count stamps) is was = record {
    accepted = was.accepted;
    waiting = was.waiting;
    returning = was.returning;
    timely = record { due = due_after past (AnsweredOk id number status error lba count stamps) refl was.timely.due; quiet_since = omega arith };
  }
  timely_step past Requested is was = record {
    accepted = was.accepted;
    waiting = was.waiting;
    returning = was.returning;
    timely = record { due = was.timely.due; quiet_since = omega arith };
  }
  timely_step past act is was = record {
    accepted = was.accepted;
    waiting = was.waiting;
    returning = was.returning;
    timely = record { due = due_after past act (timeless_issues act is) was.timely.due; quiet_since = was.timely.quiet_since };
  }

  timely_onto : (past : List Event) (acts : List Act) → list_all is_timeless acts ≡ true → AreTimely past → AreTimely (onto past acts)
  timely_onto past [] all was = was
  timely_onto past (act ∷ rest) all was =
      let parts = both (is_timeless act) (list_all is_timeless rest) all in
      timely_onto (Told act ∷ past) rest parts.1 (timely_step past act parts.0 was)

  timely_began : (past : List Event) (time : ℕ) (who : Who) (seq : ℕ) (step : Step) → AreTimely past → AreTimely (Entered time who seq step ∷ past)
  timely_began past time who seq step was = record {
    accepted = was.accepted;
    waiting = was.waiting;
    returning = was.returning;
    timely = record { due = was.timely.due; quiet_since = was.timely.quiet_since };
  }

  module _ (head : PortHead) (past : List Event) (who : Who) (seq : ℕ) (was : AreTimely past) where
    timeless_entry : (step : Step) → list_all is_timeless (legal_acts head past step) ≡ true → AreTimely (grown past (entry_after head past who seq step))
    timeless_entry step all = timely_onto (Entered (clock past) who seq step ∷ past) (legal_acts head past step) all (timely_began past (clock past) who seq step was)

    submit_timely :
        (id place : ℕ) (op : Op) (allow wait : ℕ) (why : Option Refusal) → wait ≤ limit
        → AreTimely (onto (Entered (clock past) who seq (Submit id place op allow wait) ∷ past) (refused_or_accepted id why))
    submit_timely id place op allow wait (Some why) short = timely_onto (Entered (clock past) who seq (Submit id place op allow wait) ∷ past) (Refused id why ∷ []) refl (timely_began past (clock past) who seq (Submit id place op allow wait) was)
    submit_timely id place op allow wait None short =
        let c : Cmd = record {
          id = id;
          place = place;
          op = op;
          allow = allow;
          retries = 0;
          wait = record { n = wait };
          attachment = slice_index (detachments past) place;
        } in
        record {
          accepted = every_append IsShort (commands past) (c ∷ []) was.accepted (short, tt);
          waiting = each_joined (λ at d. IsShort d) (queues past) c short was.waiting;
          returning = was.returning;
          timely = record { due = was.timely.due; quiet_since = was.timely.quiet_since };
        }

    kick_timely : (place : ℕ) → AreTimely (onto (Entered (clock past) who seq (Kick place) ∷ past) (kick_acts head past place))
    kick_timely place = elim (kick_does head past place) [
      | Waits all ↦ timeless_entry (Kick place) (all_wider is_wait is_timeless wait_timeless (kick_acts head past place) all)
      | Gone answer ↦ timeless_entry (Kick place) (subst (λ a. list_all is_timeless a ≡ true) (sym answer.told) refl)
      | Issues issue ↦
          let front : IsShort issue.cmd = every_front IsShort (waiting_at (queues past) place) issue.cmd issue.waiting (was.waiting place) in
          subst (λ a. AreTimely (onto (Entered (clock past) who seq (Kick place) ∷ past) a)) (sym issue.told) (record {
            accepted = was.accepted;
            waiting = each_served (λ at c. IsShort c) (queues past) (place_of issue.cmd.id (commands past)) was.waiting;
            returning = was.returning;
            timely = record {
              due = λ tag f here. elim (read_written (slots past) issue.tag tag _ f here) [
                | inl new ↦ omega (arith, front, ap (λ (x : InFlight). x.deadline.n) (some_same _ f new.1))
                | inr old ↦ was.timely.due tag f old.1
              ];
              quiet_since = was.timely.quiet_since;
            };
          })
    ]

    tick_by : (ms : ℕ) (b : Bool) → AreTimely (onto (Entered (clock past) who seq (Tick ms) ∷ past) (if b then Now (record { n = clock past + ms }) ∷ [] else Nothing ∷ []))
    tick_by ms false = timely_onto (Entered (clock past) who seq (Tick ms) ∷ past) (Nothing ∷ []) refl (timely_began past (clock past) who seq (Tick ms) was)
    tick_by ms true = record {
      accepted = was.accepted;
      waiting = was.waiting;
      returning = was.returning;
      timely = record {
        due = λ tag f here. omega (arith, was.timely.due tag f here);
        quiet_since = omega (arith, was.timely.quiet_since);
      };
    }

    timely_after : AllStands head past → (step : Step) → is_short_step limit step ≡ true → AreTimely (grown past (entry_after head past who seq step))
    timely_after all (Submit id place op allow wait) short = submit_timely id place op allow wait (refusal_of past id place op) (leb-true wait limit short)
    timely_after all (Kick place) short = kick_timely place
    timely_after all (Work place pick) short = timeless_entry (Work place pick) (all_work is_timeless head past place pick refl refl (λ n s e l c. refl))
    timely_after all Irq short = timeless_entry Irq (all_irq is_timeless head past (λ f e. refl) (λ f. refl) refl refl refl)
    timely_after all Drop short = timeless_entry Drop (all_drop is_timeless past refl refl)
    timely_after all (Stray tag) short = timeless_entry (Stray tag) (all_stray is_timeless past refl refl)
    timely_after all (Tick ms) short = tick_by ms (nat_le (clock past + ms) (2 ^ 62))
    timely_after all Expire short = timeless_entry Expire (all_expire is_timeless head past (λ f. refl) refl refl refl)
    timely_after all Recover short =
        timeless_entry Recover
        (all_recover is_timeless head past (timeless_recovery head.places) refl refl
        (place_within head past (clock past) who seq Recover all.whole.stands (phase head past) (sym (phase_is head past))))
    timely_after all (Plug place drive) short = timeless_entry (Plug place drive) (all_plug is_timeless head past place drive refl refl refl)
    timely_after all (Unplug place) short = timeless_entry (Unplug place) (all_unplug is_timeless head past place refl refl refl)
    timely_after all (Inject place fault) short = timeless_entry (Inject place fault) (all_inject is_timeless head past place fault refl refl refl)
    timely_after all Boot short = timeless_entry Boot refl

  module _ (head : PortHead) (fits : HasOnePlace head) where
    boot_timely : AreTimely (grown [] (boot_entry head))
    boot_timely =
        timely_onto (Entered 0 ByBoot 0 Boot ∷ []) (boot_acts head) (boot_kind head is_timeless refl (λ p i. refl) (λ p. refl) (λ p o. refl))
        (record {
          accepted = tt;
          waiting = λ place. none_waiting IsShort 15 place;
          returning = tt;
          timely = record { due = λ tag f here. absurd (none_flying 32 tag f here); quiet_since = omega arith };
        })

    entries_timely : (past : List Event) (entries : List EntryView) → AllStands head past → AreTimely past → AreLegal head past entries → AreShort limit entries → IsTimely limit (past_from past entries)
    entries_timely past [] all was legal short = was.timely
    entries_timely past (r ∷ rest) all was legal short =
        entries_timely (grown past r) rest
        (subst (λ x. AllStands head (grown past x)) (sym legal.0) (all_after head fits past r.who r.seq r.step all))
        (subst (λ x. AreTimely (grown past x)) (sym legal.0) (timely_after head past r.who r.seq was all r.step short.0)) legal.1 short.1

    acts_by : (journal : List EntryView) → HasLegalActs head journal → AreShort limit journal → IsTimely limit (past_of journal)
    acts_by [] legal short = absurd legal
    acts_by (first ∷ rest) legal short =
        entries_timely (grown [] first) rest
        (subst (λ x. AllStands head (grown [] x)) (sym legal.0) (boot_all head))
        (subst (λ x. AreTimely (grown [] x)) (sym legal.0) boot_timely) legal.1 short.1

    journal_by : (journal : List EntryView) → IsLegal head journal → AreShort limit journal → IsTimely limit (past_of journal)
    journal_by journal legal short = acts_by journal legal.acts short

-- between entries the port is timely, where no command may wait longer
pub journal_timely :
    (head : PortHead) → HasOnePlace head → (limit : ℕ) (journal : List EntryView) → IsLegal head journal → AreShort limit journal → IsTimely limit (past_of journal)
journal_timely head fits limit journal legal short = journal_by limit head fits journal legal short

-- no step that a script can have submits a command that may wait longer than the longest wait
short_step : (step : Step) → IsScriptStep step → is_short_step longest_wait step ≡ true
short_step (Submit id place op allow wait) range = le-leb wait longest_wait range.0.4.high
short_step step range = refl

short_of : (journal : List EntryView) → All (λ (e : EntryView). IsScriptStep e.step) journal → AreShort longest_wait journal
short_of [] ranges = tt
short_of (r ∷ rest) ranges = (
  short_step r.step (All-head (λ (e : EntryView). IsScriptStep e.step) r rest ranges),
  short_of rest (All-tail (λ (e : EntryView). IsScriptStep e.step) r rest ranges),
)

-- so between entries of a legal journal each issue is due within that time
pub journal_due : (head : PortHead) → HasOnePlace head → (journal : List EntryView) → IsLegal head journal → IsTimely longest_wait (past_of journal)
journal_due head fits journal legal = journal_timely head fits longest_wait journal legal (short_of journal legal.ranges)
