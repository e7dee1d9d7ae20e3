-- What an exclusive place is claimed by, and the acts that leave it.
use Rattle.std.proofs.Common.{◌≡◌, ◌∙◌, ℕ, ◌<◌, Bool, true, false, ◌==◌, List, [], ◌∷◌, ◌++◌, Option, None, Some, ◌⊎◌, inl, inr, suc, zero, length, drop, option_map, slice_get, unwrap_or, refl, sym, ap, subst, arith, if◌then◌else◌}
use Rattle.std.specs.List.{list_all}
use Rattle.std.proofs.lemmas.Bool.{eqb-true, eq-eqb}
use Rattle.ata_base.specs.declared.cmd.Cmd.{Cmd}
use Rattle.ata_trace.specs.Event.{Event, onto}
use Rattle.ata_trace.specs.Event.Event.{Told}
use Rattle.ata_trace.specs.declared.act.Act.{Act}
use Rattle.ata_trace.specs.declared.act.Act.TheVariants.{Accepted, Issued, AnsweredOk, AnsweredFailed, AnsweredNodev, Retried, Condemned, Expired, Exclusive, Begun, Ended, Detached, Disabled}
use Rattle.host_queue.specs.Waiting.{waiting_at, front_of, joined, without_front}
use Rattle.host_tags.specs.Numbers.{is_issue, flight_of}
use Rattle.host_tags.specs.Marks.{condemned, expired}
use Rattle.host_tags.specs.Slots.{flight_at, put}
use Rattle.host_tags.specs.declared.in_flight.InFlight.{InFlight}
use Rattle.port_past.specs.Commands.{commands, is_gone}
use Rattle.port_past.specs.Attachment.{detachments}
use Rattle.port_past.specs.Exclusive.{exclusive, answered_place, is_exclusive, but_place}
use Rattle.port_past.specs.PortState.{is_running}
use Rattle.port_past.specs.Queues.{queues}
use Rattle.port_past.specs.Slots.{slots}
use Rattle.ata_base.proofs.Truth.{both}
use Rattle.port_stands.proofs.Blocks.{left_alone, flight_step}
use Rattle.port_stands.proofs.Known.{queue_written}
use Rattle.port_stands.proofs.Judgements.{found_by_number}
use Rattle.port_stands.proofs.Marks.{was_there}
use Rattle.port_stands.specs.Claims.{IsBusy, HasFront, AreClaimed}
use Rattle.port_stands.specs.Words.{slot_after, is_no_issue}

-- ---- acts that leave all of it

-- what a claim is read from
pub record Hold : Type 0 where
  pub port_of : Option ℕ
  pub running : Bool
  pub flights : List (Option InFlight)
  pub lists : List (List Cmd)
  pub parted : List ℕ

abbrev pub hold : List Event → Hold
hold p = record { port_of = exclusive p; running = is_running p; flights = slots p; lists = queues p; parted = detachments p }

abbrev pub leaves_hold : Act → Bool
leaves_hold (Accepted id) = false
leaves_hold (Issued id number tag deadline fis) = false
leaves_hold (AnsweredOk id number status error lba count stamps) = false
leaves_hold (AnsweredFailed id number kinds status error lba count) = false
leaves_hold (AnsweredNodev id number) = false
leaves_hold (Retried id number raised) = false
leaves_hold (Condemned number kinds) = false
leaves_hold (Expired id number) = false
leaves_hold (Exclusive place) = false
leaves_hold Begun = false
leaves_hold Ended = false
leaves_hold (Detached place) = false
leaves_hold (Disabled place) = false
leaves_hold act = true

hold_step : (p : List Event) (act : Act) → leaves_hold act ≡ true → hold (Told act ∷ p) ≡ hold p
hold_step p (Accepted id) is = absurd (cc)
hold_step p (Issued id number tag deadline fis) is = absurd (cc)
hold_step p (AnsweredOk id number status error lba count stamps) is = absurd (cc)
hold_step p (AnsweredFailed id number kinds status error lba count) is = absurd (cc)
hold_step p (AnsweredNodev id number) is = absurd (cc)
hold_step p (Retried id number raised) is = absurd (cc)
hold_step p (Condemned number kinds) is = absurd (cc)
hold_step p (Expired id number) is = absurd (cc)
hold_step p (Exclusive place) is = absurd (cc)
hold_step p Begun is = absurd (cc)
hold_step p Ended is = absurd (cc)
hold_step p (Detached place) is = absurd (cc)
hold_step p (Disabled place) is = absurd (cc)
hold_step p act is = refl

-- from one past to another: what is exclusive was, recovery doesn't run more, and what is used is used still
pub moved :
    (p q : List Event) → ((x : ℕ) → exclusive q ≡ Some x → (exclusive p ≡ Some x) × ((is_running p ≡ false → is_running q ≡ false)
    × ((IsBusy p x → IsBusy q x ⊎ HasFront q x) × (HasFront p x → IsBusy q x ⊎ HasFront q x)))) → AreClaimed p → AreClaimed q
moved p q moves was = λ x is.
    let m = moves x is in
    let c = was x m.0 in
    record {
      idle = m.1.0 c.idle;
      used = elim c.used [
        | inl busy ↦ m.1.1.0 busy
        | inr front ↦ m.1.1.1 front
      ];
    }

pub same_claimed : (p q : List Event) → hold q ≡ hold p → AreClaimed p → AreClaimed q
same_claimed p q same was =
    moved p q (λ x is. (
      ap (λ (h : Hold). h.port_of) (sym same) ∙ is,
      (
        λ idle. ap (λ (h : Hold). h.running) same ∙ idle,
        (
          λ busy. inl (record { tag = busy.tag; flight = busy.flight; here = ap (λ (h : Hold). flight_at h.flights busy.tag) same ∙ busy.here; there = busy.there }),
          λ front. inr (record {
            cmd = front.cmd;
            waiting = ap (λ (h : Hold). front_of h.lists x) same ∙ front.waiting;
            current = ap (λ (h : Hold). is_gone front.cmd h.parted) same ∙ front.current;
          }),
        ),
      ),
    )) was

pub left_claimed : (p : List Event) (acts : List Act) → list_all leaves_hold acts ≡ true → AreClaimed p → AreClaimed (onto p acts)
left_claimed p acts all was = same_claimed p (onto p acts) (left_alone leaves_hold hold hold_step p acts all) was

-- where nothing is exclusive all is claimed, and stays so but for `exclusive`
abbrev pub is_no_claim : Act → Bool
is_no_claim (Exclusive place) = false
is_no_claim act = true

but_none : (answered : Option ℕ) → but_place answered None ≡ None
but_none None = refl
but_none (Some place) = refl

nothing_step : (p : List Event) (act : Act) → is_no_claim act ≡ true → exclusive p ≡ None → exclusive (Told act ∷ p) ≡ None
nothing_step p (Exclusive place) is none = absurd (cc)
nothing_step p Begun is none = refl
nothing_step p act is none = rw none (but_none (answered_place act (slots p)))

pub nothing_onto : (p : List Event) (acts : List Act) → list_all is_no_claim acts ≡ true → exclusive p ≡ None → exclusive (onto p acts) ≡ None
nothing_onto p [] all none = none
nothing_onto p (act ∷ rest) all none =
    let parts = both (is_no_claim act) (list_all is_no_claim rest) all in
    nothing_onto (Told act ∷ p) rest parts.1 (nothing_step p act parts.0 none)

pub nothing_claimed : (p : List Event) → exclusive p ≡ None → AreClaimed p
nothing_claimed p none = λ x is. absurd (cc (none, is))

-- ---- answers and marks

-- the issues in flight have numbers of their own
abbrev IsApart : List Event → Type 0
IsApart p = (t u : ℕ) (f g : InFlight) → flight_at (slots p) t ≡ Some f → flight_at (slots p) u ≡ Some g → f.number.n ≡ g.number.n → t ≡ u

-- an answer, a mark, or an act that leaves it all
abbrev pub is_serving : Act → Bool
is_serving (AnsweredOk id number status error lba count stamps) = true
is_serving (Condemned number kinds) = true
is_serving (Expired id number) = true
is_serving act = leaves_hold act

serving_issues : (act : Act) → is_serving act ≡ true → is_no_issue act ≡ true
serving_issues (Issued id number tag deadline fis) is = is
serving_issues act is = refl

apart_step : (p : List Event) (act : Act) → is_no_issue act ≡ true → IsApart p → IsApart (Told act ∷ p)
apart_step p act none was = λ t u f g at_t at_u same.
    let a = was_there (act ∷ []) (flight_at (slots p) t) f (sym (flight_step act (commands p) (slots p) t none) ∙ at_t) in
    let b = was_there (act ∷ []) (flight_at (slots p) u) g (sym (flight_step act (commands p) (slots p) u none) ∙ at_u) in
    was t u a.0 b.0 a.1.0 b.1.0 (sym (ap (λ m. m.n) a.1.1.n) ∙ same ∙ ap (λ m. m.n) b.1.1.n)

-- the issue in flight of a number
flight_found :
    (p : List Event) (tag n : ℕ) (f : InFlight) → IsApart p → flight_at (slots p) tag ≡ Some f → f.number.n ≡ n → flight_of n (slots p) ≡ Some f
flight_found p tag n f apart here e =
    let found = found_by_number (slots p) tag f here (λ u g at same. apart u tag g f at here same) in
    subst (λ m. flight_of m (slots p) ≡ Some f) e (ap (λ o. unwrap_or o None) found.issue)

-- an act after which what was at a place is there still, and nothing else moves
kept_claimed :
    (p : List Event) (act : Act) → is_no_issue act ≡ true → exclusive (Told act ∷ p) ≡ exclusive p → is_running (Told act ∷ p) ≡ is_running p
    → queues (Told act ∷ p) ≡ queues p → detachments (Told act ∷ p) ≡ detachments p
    → ((f : InFlight) → (g : InFlight) × ((slot_after act (Some f) ≡ Some g) × (g.place ≡ f.place)))
    → AreClaimed p → AreClaimed (Told act ∷ p)
kept_claimed p act none e r q d stays was =
    moved p (Told act ∷ p) (λ x is. (
      sym e ∙ is,
      (
        λ idle. r ∙ idle,
        (
          λ busy.
              let s = stays busy.flight in
              inl (record {
                tag = busy.tag;
                flight = s.0;
                here = flight_step act (commands p) (slots p) busy.tag none ∙ ap (slot_after act) busy.here ∙ s.1.0;
                there = s.1.1 ∙ busy.there;
              }),
          λ front. inr (record {
            cmd = front.cmd;
            waiting = ap (λ l. front_of l x) q ∙ front.waiting;
            current = ap (is_gone front.cmd) d ∙ front.current;
          }),
        ),
      ),
    )) was

-- a place that is exclusive after an answer was it before, and isn't the answered one
unanswered : (answered was : Option ℕ) (x : ℕ) → but_place answered was ≡ Some x → (was ≡ Some x) × (answered ≡ Some x → ⊥)
unanswered None was x is = (is, λ e. cc)
unanswered (Some y) was x is = by (is_exclusive y was) refl is
  where
    by : (b : Bool) → is_exclusive y was ≡ b → (if b then None else was) ≡ Some x → (was ≡ Some x) × (Some y ≡ Some x → ⊥)
    by true e is = absurd (cc (is))
    by false e is = (is, λ same. let one : x ≡ y = cc (same) in cc (e, ap (is_exclusive y) is, eq-eqb x y one))

serving_step : (p : List Event) (act : Act) → is_serving act ≡ true → IsApart p → AreClaimed p → AreClaimed (Told act ∷ p)
serving_step p (AnsweredOk id number status error lba count stamps) is apart was =
    let act : Act = AnsweredOk id number status error lba count stamps in
    moved p (Told act ∷ p) (λ x is.
    let un = unanswered (answered_place act (slots p)) (exclusive p) x is in (
      un.0,
      (
        λ idle. idle,
        (
          λ busy. inl (record {
            tag = busy.tag;
            flight = busy.flight;
            here = flight_step act (commands p) (slots p) busy.tag refl ∙ ap (slot_after act) busy.here
                ∙ by busy.flight (busy.flight.number.n == number.n) refl (λ e.
                un.1 (ap (option_map (λ (f : InFlight). f.place)) (flight_found p busy.tag number.n busy.flight apart busy.here e) ∙ ap Some busy.there));
            there = busy.there;
          }),
          λ front. inr (record { cmd = front.cmd; waiting = front.waiting; current = front.current }),
        ),
      ),
    )) was
  where
    by : (f : InFlight) (b : Bool) → (f.number.n == number.n) ≡ b → (f.number.n ≡ number.n → ⊥) → (if b then None else Some f) ≡ Some f
    by f true e never = absurd (never (eqb-true f.number.n number.n e))
    by f false e never = refl
serving_step p (Condemned number kinds) is apart was =
    kept_claimed p (Condemned number kinds) refl refl refl refl refl (λ f. by f (is_issue number.n (Some f))) was
  where
    by : (f : InFlight) (b : Bool) → (g : InFlight) × (((if b then option_map (condemned kinds) (Some f) else Some f) ≡ Some g) × (g.place ≡ f.place))
    by f true = (condemned kinds f, (refl, refl))
    by f false = (f, (refl, refl))
serving_step p (Expired id number) is apart was =
    kept_claimed p (Expired id number) refl refl refl refl refl (λ f. by f (is_issue number.n (Some f))) was
  where
    by : (f : InFlight) (b : Bool) → (g : InFlight) × (((if b then option_map expired (Some f) else Some f) ≡ Some g) × (g.place ≡ f.place))
    by f true = (expired f, (refl, refl))
    by f false = (f, (refl, refl))
serving_step p act is apart was = same_claimed p (Told act ∷ p) (hold_step p act is) was

pub serving_onto : (p : List Event) (acts : List Act) → list_all is_serving acts ≡ true → IsApart p → AreClaimed p → AreClaimed (onto p acts)
serving_onto p [] all apart was = was
serving_onto p (act ∷ rest) all apart was =
    let parts = both (is_serving act) (list_all is_serving rest) all in
    serving_onto (Told act ∷ p) rest parts.1 (apart_step p act (serving_issues act parts.0) apart) (serving_step p act parts.0 apart was)

-- ---- queues

front_more : (queue : List Cmd) (c front : Cmd) → slice_get queue 0 ≡ Some front → slice_get (queue ++ c ∷ []) 0 ≡ Some front
front_more [] c front is = absurd (cc)
front_more (d ∷ queue) c front is = is

pub front_joined : (lists : List (List Cmd)) (c : Cmd) (x : ℕ) (front : Cmd) → front_of lists x ≡ Some front → front_of (joined c lists) x ≡ Some front
front_joined lists c x front is = elim (queue_written lists c.place x (waiting_at lists c.place ++ c ∷ [])) [
  | inl here ↦ ap (λ q. slice_get q 0) here.1 ∙ front_more (waiting_at lists c.place) c front (ap (front_of lists) (sym here.0) ∙ is)
  | inr there ↦ ap (λ q. slice_get q 0) there ∙ is
]

pub front_served : (lists : List (List Cmd)) (y x : ℕ) (front : Cmd) → front_of lists x ≡ Some front → (x ≡ y) ⊎ (front_of (without_front y lists) x ≡ Some front)
front_served lists y x front is = elim (queue_written lists y x (drop 1 (waiting_at lists y))) [
  | inl here ↦ inl here.0
  | inr there ↦ inr (ap (λ q. slice_get q 0) there ∙ is)
]

-- ---- slots

pub put_here : (slots : List (Option InFlight)) (tag : ℕ) (new : InFlight) → tag < length slots → flight_at (put tag new slots) tag ≡ Some new
put_here [] tag new within = absurd (omega (arith, within))
put_here (s ∷ slots) zero new within = refl
put_here (s ∷ slots) (suc tag) new within = put_here slots tag new (omega (arith, within))

pub put_beside : (slots : List (Option InFlight)) (tag t : ℕ) (new f : InFlight) → flight_at slots tag ≡ None → flight_at slots t ≡ Some f → flight_at (put tag new slots) t ≡ Some f
put_beside [] tag t new f free here = absurd (cc)
put_beside (s ∷ slots) zero zero new f free here = absurd (cc)
put_beside (s ∷ slots) zero (suc t) new f free here = here
put_beside (s ∷ slots) (suc tag) zero new f free here = here
put_beside (s ∷ slots) (suc tag) (suc t) new f free here = put_beside slots tag t new f free here
