-- All stands over the entries of a kick, of work, of plugs and of time.
use Rattle.std.proofs.Common.{◌≡◌, ◌∙◌, ℕ, ◌+◌, ◌≤◌, Bool, true, false, ◌||◌, List, [], ◌∷◌, None, Some, slice_get, refl, sym, ap, subst, arith}
use Rattle.std.specs.Prelude.{slice_index_or}
use Rattle.std.specs.List.{list_all}
use Rattle.std.specs.Option.{option_map_or}
use Rattle.ata_base.specs.Operations.{is_data}
use Rattle.ata_script.specs.declared.port_head.PortHead.{PortHead}
use Rattle.ata_trace.specs.Event.{Event, onto}
use Rattle.ata_trace.specs.Event.Event.{Entered, Told}
use Rattle.ata_trace.specs.declared.act.Act.{Act}
use Rattle.ata_trace.specs.declared.act.Act.TheVariants.{Deferred, Exclusive, AnsweredNodev, Nothing}
use Rattle.ata_trace.specs.declared.step.Step.TheVariants.{Kick}
use Rattle.ata_trace.specs.declared.who.Who.{Who}
use Rattle.host_defer.specs.Obstacles.{is_link_busy}
use Rattle.host_queue.specs.Waiting.{waiting_at}
use Rattle.host_tags.specs.Slots.{flight_at}
use Rattle.host_tags.specs.declared.in_flight.InFlight.{InFlight}
use Rattle.port_past.specs.Commands.{commands, place_of}
use Rattle.port_past.specs.PortState.{is_frozen, is_asked, is_running, is_recovering}
use Rattle.port_past.specs.Links.{linked_at}
use Rattle.port_past.specs.Modes.{ncq_on}
use Rattle.port_past.specs.Queues.{queues}
use Rattle.port_past.specs.Slots.{slots}
use Rattle.port_rules.specs.Kick.{outline, tag_limit, frame_port, kick_acts}
use Rattle.port_stands.proofs.Blocks.{all_wider, flight_onto, left_alone}
use Rattle.port_stands.proofs.DrivenEntries.{is_free, free_onto, driven_began, driven_nodev}
use Rattle.port_stands.proofs.DrivenIssue.{driven_issued}
use Rattle.port_stands.proofs.Handled.{WasFlying, handled_less, handled_issued}
use Rattle.port_stands.proofs.Kicks.{is_wait, IsGoneAnswer, IsIssue, kick_does, wait_issues}
use Rattle.port_stands.proofs.Kicks.KickDoes.{Waits, Gone, Issues}
use Rattle.ata_base.proofs.EachLemmas.{every_front}
use Rattle.port_stands.proofs.Likes.{Back, back, is_behind, back_left, like_self}
use Rattle.port_stands.proofs.Marks.{was_there, is_no_mark, unowned}
use Rattle.port_stands.proofs.Wholes.{unmixed_onto, unmixed_put, given_free}
use Rattle.port_rules.proofs.Frames.{frame_tells, queued_data}
use Rattle.port_stands.specs.Driven.{AreDriven}
use Rattle.port_stands.specs.Handled.{handling, AreHandled}
use Rattle.port_stands.specs.Known.{IsWaiting}
use Rattle.port_stands.specs.Whole.{AreUnmixed, IsWhole}
use Rattle.port_stands.specs.Words.{slot_onto, is_no_issue}

-- what flew before acts that issue and condemn nothing, as much owned
pub was_flying :
    (head : PortHead) (p : List Event) (acts : List Act) → list_all is_no_issue acts ≡ true → list_all is_no_mark acts ≡ true
    → (tag : ℕ) (f : InFlight) → flight_at (slots (onto p acts)) tag ≡ Some f → WasFlying (handling head p) tag f
was_flying head p acts none unmarked tag f here =
    let e : slot_onto acts (flight_at (slots p) tag) ≡ Some f = sym (flight_onto p acts tag none) ∙ here in
    let a = was_there acts (flight_at (slots p) tag) f e in
    record {
      flight = a.0;
      here = a.1.0;
      n = ap (λ x. x.n) a.1.1.n;
      place = a.1.1.place;
      owned = unowned acts a.0 f unmarked (ap (slot_onto acts) (sym a.1.0) ∙ e);
    }

-- acts that leave all but slots, and condemn and issue nothing and leave the frost
pub behind_handled :
    (head : PortHead) (p : List Event) (acts : List Act) → list_all is_behind acts ≡ true → list_all is_no_issue acts ≡ true
    → list_all is_no_mark acts ≡ true → is_frozen (onto p acts) ≡ is_frozen p → AreHandled (handling head p) → AreHandled (handling head (onto p acts))
behind_handled head p acts behind none unmarked frost was =
    let same : back head (onto p acts) ≡ back head p = back_left head p acts behind in
    handled_less (handling head p) (handling head (onto p acts)) was (ap (λ (b : Back). b.recovery) same) frost (ap (λ (b : Back). b.noted) same)
    (λ x d v linked at by was tag regs is. was tag regs (ap (λ (b : Back). slice_index_or b.logs x None) (sym same) ∙ is))
    (λ x failure is. ap (λ (b : Back). slice_index_or b.failures x None) (sym same) ∙ is)
    (was_flying head p acts none unmarked)
    (λ x d v linked at. like_self (handling head p) x d v
    (ap (λ (b : Back). linked_at b.links x) (sym same) ∙ linked) (ap (λ (b : Back). slice_get b.drives d) (sym same) ∙ at))

-- ---- a kick

wait_free : (act : Act) → is_wait act ≡ true → is_free act ≡ true
wait_free Nothing is = refl
wait_free (Deferred id why) is = refl
wait_free (Exclusive place) is = refl
wait_free act is = absurd (cc)

wait_behind : (act : Act) → is_wait act ≡ true → is_behind act ≡ true
wait_behind Nothing is = refl
wait_behind (Deferred id why) is = refl
wait_behind (Exclusive place) is = refl
wait_behind act is = absurd (cc)

wait_marks : (act : Act) → is_wait act ≡ true → is_no_mark act ≡ true
wait_marks Nothing is = refl
wait_marks (Deferred id why) is = refl
wait_marks (Exclusive place) is = refl
wait_marks act is = absurd (cc)

wait_frost : (p : List Event) (act : Act) → is_wait act ≡ true → is_frozen (Told act ∷ p) ≡ is_frozen p
wait_frost p Nothing is = refl
wait_frost p (Deferred id why) is = refl
wait_frost p (Exclusive place) is = refl
wait_frost p act is = absurd (cc)

-- what an entry makes beside the facts that stand by themselves
pub record IsMade (head : PortHead) (past : List Event) : Type 0 where
  pub unmixed : AreUnmixed (slots past)
  pub driven : AreDriven head past
  pub handled : AreHandled (handling head past)

module _ (head : PortHead) (past : List Event) (time : ℕ) (who : Who) (seq : ℕ) (was : IsWhole head past) where
  waits_made :
      (place : ℕ) (acts : List Act) → list_all is_wait acts ≡ true → IsMade head (onto (Entered time who seq (Kick place) ∷ past) acts)
  waits_made place acts all =
      let start : List Event = Entered time who seq (Kick place) ∷ past in
      record {
        unmixed = unmixed_onto start acts (all_wider is_wait is_no_issue wait_issues acts all) was.unmixed;
        driven = free_onto head start acts (all_wider is_wait is_free wait_free acts all) (driven_began head past time who seq (Kick place) was.driven);
        handled = behind_handled head start acts (all_wider is_wait is_behind wait_behind acts all) (all_wider is_wait is_no_issue wait_issues acts all)
            (all_wider is_wait is_no_mark wait_marks acts all) (left_alone is_wait is_frozen wait_frost start acts all) was.handled;
      }

  gone_made :
      (place : ℕ) (acts : List Act) → IsGoneAnswer past place acts → IsMade head (onto (Entered time who seq (Kick place) ∷ past) acts)
  gone_made place acts answer =
      let start : List Event = Entered time who seq (Kick place) ∷ past in
      subst (λ a. IsMade head (onto start a)) (sym answer.told)
      (record {
        unmixed = unmixed_onto start (AnsweredNodev answer.cmd.id (record { n = 0 }) ∷ []) refl was.unmixed;
        driven = driven_nodev head start answer.cmd.id
            (driven_began head past time who seq (Kick place) was.driven);
        handled = behind_handled head start (AnsweredNodev answer.cmd.id (record { n = 0 }) ∷ []) refl refl refl refl was.handled;
      })

  none_owned : is_recovering past ≡ false → (tag : ℕ) (f : InFlight) → flight_at (slots past) tag ≡ Some f → f.owned ≡ false
  none_owned settled tag f here = by f.owned refl
    where
      by : (b : Bool) → f.owned ≡ b → f.owned ≡ false
      by true own = absurd (cc (settled, was.stands.guarded.recovering tag f here own))
      by false own = own

  or_none : (a b : Bool) → (a || b) ≡ false → b ≡ false
  or_none true b e = absurd (cc)
  or_none false b e = e

  issue_made :
      (place : ℕ) (acts : List Act) → IsIssue head past place acts → IsMade head (onto (Entered time who seq (Kick place) ∷ past) acts)
  issue_made place acts issue =
      let start : List Event = Entered time who seq (Kick place) ∷ past in
      let id : ℕ = issue.cmd.id in
      let front : IsWaiting (commands past) place issue.cmd =
      every_front (IsWaiting (commands past) place) (waiting_at (queues past) place) issue.cmd issue.waiting (was.stands.known.waiting place) in
      let there : place_of id (commands past) ≡ issue.cmd.place = ap (λ o. option_map_or (λ c. c.place) o 0) front.known.found ∙ front.known.there in
      let given = given_free (tag_limit past issue.cmd.place issue.queued) issue.tag past issue.free in
      let idle : is_running past ≡ false = or_none (is_asked past) (is_running past) issue.settled in
      subst (λ a. IsMade head (onto start a)) (sym issue.told)
      (record {
        unmixed = unmixed_put (slots past) issue.tag _ issue.queued
            (frame_tells issue.cmd.op issue.queued issue.tag (frame_port head issue.cmd.place)
            (queued_data (is_data issue.cmd.op) (slice_index_or (ncq_on past) issue.cmd.place false) issue.queued issue.kind))
            (ap (λ x. is_link_busy (outline (slots past)) x issue.queued) there ∙ issue.alone) was.unmixed;
        driven = driven_issued head start (driven_began head past time who seq (Kick place) was.driven) id _ issue.tag _ _
            front.known.cmd front.known.found given.1 given.0
            (λ tag f here e. above (was.stands.numbered.up_to tag f here) e);
        handled = handled_issued (handling head past) issue.tag _ _ was.handled idle refl (none_owned issue.settled);
      })
    where
      above : {n m : ℕ} → n ≤ m → n ≡ m + 1 → ⊥
      above low e = omega (arith, low, e)

  pub kick_made : (place : ℕ) → IsMade head (onto (Entered time who seq (Kick place) ∷ past) (kick_acts head past place))
  kick_made place =
      elim (kick_does head past place) [
        | Waits all ↦ waits_made place (kick_acts head past place) all
        | Gone answer ↦ gone_made place (kick_acts head past place) answer
        | Issues issue ↦ issue_made place (kick_acts head past place) issue
      ]
