-- A completed issue is answered.
use Rattle.std.proofs.Common.{◌⊎◌, inl, inr, ◌≡◌, ◌≢◌, ◌∙◌, ℕ, ◌+◌, ◌≤◌, ◌==◌, Bool, true, false, not, cond, ◌∷◌, Option, None, Some, filter, option_map, refl, sym, ap, subst, arith}
use Rattle.std.proofs.lemmas.Bool.{eqb-true, eq-eqb}
use Rattle.std.proofs.lemmas.List.{length-map}
use Rattle.ata_script.specs.declared.port_head.PortHead.{PortHead}
use Rattle.drive_model.specs.declared.held.Held.{Held}
use Rattle.host_tags.specs.Numbers.{is_issue, flight_of, without}
use Rattle.host_tags.specs.Slots.{flight_at}
use Rattle.host_tags.specs.declared.in_flight.InFlight.{InFlight}
use Rattle.ata_base.proofs.EachLemmas.{every_weaker}
use Rattle.port_calm.proofs.Lists.{or_either}
use Rattle.port_calm.proofs.Sight.{Sight, IsCalm, FliesAt, WaitsAt, Flies, Waits, HasFlight, end_at, flights_total}
use Rattle.port_calm.proofs.Slots.{find_flight, same_or_not, not_same, without_at, where_at, any_filter, any_filtered, total_left, times_left, length_left}
use Rattle.port_past.proofs.Sizes.{length_where}
use Rattle.port_calm.specs.Calm.{is_among}
use Rattle.port_past.specs.ByTag.{set_where}
use Rattle.port_past.specs.Commands.{is_accepted}
use Rattle.port_past.specs.Exclusive.{but_place}
use Rattle.port_past.specs.declared.completion.Completion.{Completion}

abbrev pub answered_in : Sight → InFlight → Sight
answered_in s f = record s {
  slots = without f.number.n s.slots;
  ends = set_where (is_issue f.number.n) None s.slots s.ends;
  live = filter (λ c. not (c == f.id)) s.live;
  answered = f.id ∷ s.answered;
  exclusive = but_place (option_map (λ (g : InFlight). g.place) (flight_of f.number.n s.slots)) s.exclusive;
}

-- an exclusive place that an answer leaves so is another one
still_exclusive : (p : ℕ) (was : Option ℕ) (x : ℕ) → but_place (Some p) was ≡ Some x → (was ≡ Some x) × (p ≢ x)
still_exclusive p None x is = absurd (cc)
still_exclusive p (Some y) x is = by (y == p) refl is where
  by : (b : Bool) → (y == p) ≡ b → cond b None (Some y) ≡ Some x → (Some y ≡ Some x) × (p ≢ x)
  by true so is = absurd (cc)
  by false so is = (is, λ e. let same : y ≡ x = cc in let yes = eq-eqb y p (same ∙ sym e) in cc)

module _ (head : PortHead) (s : Sight) (t : ℕ) (f : InFlight) (end : Completion) (h : IsCalm head s) (is : flight_at s.slots t ≡ Some f) (done : end_at s.ends t ≡ Some end) where
  pub left_at :
      (u : ℕ) (g : InFlight) → flight_at (without f.number.n s.slots) u ≡ Some g
      → (flight_at s.slots u ≡ Some g) × (u ≢ t)
  left_at u g there = by (flight_at s.slots u) refl (sym (without_at f.number.n s.slots u) ∙ there) where
    which : (k : InFlight) (b : Bool) → flight_at s.slots u ≡ Some k → (k.number.n == f.number.n) ≡ b → cond b None (Some k) ≡ Some g → (flight_at s.slots u ≡ Some g) × (u ≢ t)
    which k true here so left = absurd (cc)
    which k false here so left = (
      here ∙ left,
      λ e.
          let at : flight_at s.slots t ≡ Some k = subst (λ y. flight_at s.slots y ≡ Some k) e here in
          let same : k ≡ f = cc in
          let yes = eq-eqb k.number.n f.number.n (ap (λ (y : InFlight). y.number.n) same) in
          cc,
    )

    by :
        (slot : Option InFlight) → flight_at s.slots u ≡ slot → cond (is_issue f.number.n slot) None slot ≡ Some g
        → (flight_at s.slots u ≡ Some g) × (u ≢ t)
    by None here left = absurd (cc)
    by (Some k) here left = which k (k.number.n == f.number.n) here refl left

  -- another issue has another number
  other_number : (u : ℕ) (g : InFlight) → flight_at s.slots u ≡ Some g → u ≢ t → is_issue f.number.n (Some g) ≡ false
  other_number u g here other = not_same g.number.n f.number.n (λ e. other (h.apart u t g f here is e))

  pub stays : (u : ℕ) (g : InFlight) → flight_at s.slots u ≡ Some g → u ≢ t → flight_at (without f.number.n s.slots) u ≡ Some g
  stays u g here other =
      without_at f.number.n s.slots u ∙ ap (λ slot. cond (is_issue f.number.n slot) None slot) here
      ∙ ap (λ b. cond b None (Some g)) (other_number u g here other)

  pub end_stays :
      (u : ℕ) (g : InFlight) → flight_at s.slots u ≡ Some g → u ≢ t
      → end_at (set_where (is_issue f.number.n) None s.slots s.ends) u ≡ end_at s.ends u
  end_stays u g here other =
      where_at (is_issue f.number.n) None None s.slots s.ends u (h.long_slots ∙ sym h.long_ends) refl
      ∙ ap (λ slot. cond (is_issue f.number.n slot) None (end_at s.ends u)) here
      ∙ ap (λ b. cond b None (end_at s.ends u)) (other_number u g here other)

  not_done : (u : ℕ) → end_at s.ends u ≡ None → u ≢ t
  not_done u undone e = let there : end_at s.ends t ≡ None = subst (λ y. end_at s.ends y ≡ None) e undone in cc

  has_still :
      (e m : ℕ) → HasFlight s.still.links s.slots s.ends e m
      → HasFlight s.still.links (without f.number.n s.slots) (set_where (is_issue f.number.n) None s.slots s.ends) e m
  has_still e m w = record {
    tag = w.tag;
    flight = w.flight;
    here = stays w.tag w.flight w.here (not_done w.tag w.undone);
    same = w.same;
    undone = end_stays w.tag w.flight w.here (not_done w.tag w.undone) ∙ w.undone;
    linked = w.linked;
  }

  -- it is another issue, where something of it is another
  differs : {A : Type 0} (of : InFlight → A) (u : ℕ) (g : InFlight) → flight_at s.slots u ≡ Some g → (of g ≡ of f → ⊥) → u ≢ t
  differs of u g here apart e =
      let at : flight_at s.slots t ≡ Some g = subst (λ y. flight_at s.slots y ≡ Some g) e here in
      let same : g ≡ f = cc in
      apart (ap of same)

  -- the issue of its number is this one
  found : flight_of f.number.n s.slots ≡ Some f
  found =
      find_flight f.number.n t f s.slots is refl
      (λ u g here same.
      let at : flight_at s.slots t ≡ Some g = subst (λ y. flight_at s.slots y ≡ Some g) (h.apart u t g f here is same) here in cc)

  claimed_all :
      (x : ℕ) → but_place (option_map (λ (g : InFlight). g.place) (flight_of f.number.n s.slots)) s.exclusive ≡ Some x
      → FliesAt (without f.number.n s.slots) x ⊎ WaitsAt s.queues x
  claimed_all x so =
      let k = still_exclusive f.place s.exclusive x
      (subst (λ o. but_place (option_map (λ (g : InFlight). g.place) o) s.exclusive ≡ Some x) found so) in
      let other : f.place ≢ x = k.1 in
      elim (h.claimed x k.0) [
        | inl g ↦ inl (record {
          tag = g.tag;
          flight = g.flight;
          here = stays g.tag g.flight g.here (differs (λ y. y.place) g.tag g.flight g.here (λ e. other (sym e ∙ g.place)));
          place = g.place;
        })
        | inr q ↦ inr q
      ]

  here_all :
      (id : ℕ) → is_among id (filter (λ c. not (c == f.id)) s.live) ≡ true
      → Waits s.queues id ⊎ Flies (without f.number.n s.slots) id
  here_all id so =
      let k = any_filtered (λ n. n == id) (λ c. not (c == f.id)) s.live so in
      let found : k.1.0 ≡ id = eqb-true k.1.0 id k.1.1.0 in
      let other : id ≢ f.id = λ e. let yes = eq-eqb k.1.0 f.id (found ∙ e) in let no = k.1.1.1 in cc in
      elim (h.here id k.0) [
        | inl w ↦ inl w
        | inr w ↦ inr (record {
          tag = w.tag;
          flight = w.flight;
          here = stays w.tag w.flight w.here (differs (λ y. y.id) w.tag w.flight w.here (λ e. other (sym w.same ∙ e)));
          same = w.same;
        })
      ]

  told_all :
      (id : ℕ) → is_accepted id s.commands ≡ true
      → (is_among id (filter (λ c. not (c == f.id)) s.live) ≡ true) ⊎ (is_among id (f.id ∷ s.answered) ≡ true)
  told_all id so =
      elim (same_or_not f.id id) [
        | inl same ↦ inr (or_either (f.id == id) _ (inl (eq-eqb f.id id same)))
        | inr other ↦ elim (h.told id so) [
          | inl live ↦ inl (any_filter (λ n. n == id) (λ c. not (c == f.id)) s.live
              (λ n e. ap not (not_same n f.id (λ x. other (sym x ∙ eqb-true n id e)))) live)
          | inr answered ↦ inr (or_either (f.id == id) _ (inr answered))
        ]
      ]

  pub answer_calm : IsCalm head (answered_in s f)
  answer_calm = record {
    still = h.still;
    long_queues = h.long_queues;
    long_slots = length-map s.slots _ ∙ h.long_slots;
    long_ends = length_where (is_issue f.number.n) None s.slots s.ends ∙ h.long_ends;
    long_drives = h.long_drives;
    waits = h.waits;
    flies = λ u g there. h.flies u g (left_at u g there).0;
    apart = λ u w g k there also e. h.apart u w g k (left_at u g there).0 (left_at w k also).0 e;
    held = λ u g there undone.
        let was = left_at u g there in
        h.held u g was.0 (sym (end_stays u g was.0 was.1) ∙ undone);
    sound = h.sound;
    flown = λ e v there.
        every_weaker (λ (x : Held). HasFlight s.still.links s.slots s.ends e x.number.n)
        (λ (x : Held). HasFlight s.still.links (without f.number.n s.slots) (set_where (is_issue f.number.n) None s.slots s.ends) e x.number.n)
        (λ x. has_still e x.number.n) v.held (h.flown e v there);
    claimed = claimed_all;
    here = here_all;
    told = told_all;
    few = omega (arith, h.few, total_left s.slots t f is, length_left f.id s.live, h.once f.id);
    once = λ id. omega (arith, times_left f.id id s.live, h.once id);
    known = λ id so. h.known id (any_filtered (λ n. n == id) (λ c. not (c == f.id)) s.live so).0;
    least = omega (arith, h.least, length_left f.id s.live);
  }

  -- there is one issue less
  pub answer_less : flights_total (without f.number.n s.slots) + 1 ≤ flights_total s.slots
  answer_less = total_left s.slots t f is
