-- A command is issued, and a place is exclusive.
use Rattle.std.proofs.Common.{◌⊎◌, inl, inr, ◌≡◌, ◌≢◌, ◌∙◌, ℕ, ◌+◌, ◌<◌, ◌≤◌, ◌==◌, Bool, true, List, [], Option, None, Some, length, drop, slice_get, slice_set, refl, sym, ap, subst, arith, length-set}
use Rattle.std.proofs.lemmas.Bool.{eqb-true, eq-eqb}
use Rattle.std.specs.List.{list_any}
use Rattle.std.specs.Option.{option_map_or}
use Rattle.ata_base.specs.declared.cmd.Cmd.{Cmd}
use Rattle.ata_base.specs.declared.issue_no.IssueNo.{IssueNo}
use Rattle.ata_base.specs.declared.ms.Ms.{Ms}
use Rattle.ata_base.specs.declared.op.Op.{Op}
use Rattle.ata_script.specs.declared.port_head.PortHead.{PortHead}
use Rattle.drive_model.specs.Assigned.{next_assigned, with_count_down}
use Rattle.drive_model.specs.Holding.{taken}
use Rattle.drive_model.specs.View.{DriveView}
use Rattle.drive_model.specs.declared.assigned.Assigned.TheVariants.{Nothing}
use Rattle.drive_model.specs.declared.held.Held.{Held}
use Rattle.host_queue.specs.Waiting.{waiting_at, front_of, without_front}
use Rattle.host_tags.specs.Slots.{flight_at, put}
use Rattle.host_tags.specs.declared.in_flight.InFlight.{InFlight}
use Rattle.port_calm.proofs.Lists.Changed.{It, Other}
use Rattle.ata_base.specs.Each.{Each}
use Rattle.ata_base.proofs.EachLemmas.{every_weaker, every_push, every_rest, every_at}
use Rattle.port_past.proofs.EachAt.{every_changed}
use Rattle.port_past.proofs.PlaceSizes.{length_changed}
use Rattle.port_calm.proofs.Lists.{changed_get, changed_keeps, changed_brings, read_set, read_set_same, read_set_other, any_push, any_pushed}
use Rattle.port_calm.proofs.Sight.{Sight, IsCalm, IsWaiting, IsFlight, FliesAny, FliesAt, WaitsAt, Flies, Waits, IsSound, HasFlight, end_at, holds, holds_in, waits_total, flights_total}
use Rattle.port_calm.proofs.Slots.Put.{New, Old}
use Rattle.port_calm.proofs.Slots.{same_or_not, put_get, total_set, length_later, total_put, any_front}
use Rattle.port_past.specs.Commands.{command_of}
use Rattle.port_past.specs.Drives.{with_issue}
use Rattle.port_past.specs.Links.{linked_at}
use Rattle.port_past.specs.Places.{changed_at, changed_at_some}
use Rattle.port_past.specs.Slots.{fresh_flight, is_queued_frame}
use Rattle.port_past.specs.declared.completion.Completion.{Completion}

abbrev pub issued_in : Sight → Cmd → IssueNo → ℕ → Ms → List ℕ → Option ℕ → Sight
issued_in s c n tag deadline fis l = record s {
  queues = without_front c.place s.queues;
  slots = put tag (fresh_flight c.id n c.place deadline fis) s.slots;
  ends = slice_set s.ends tag None;
  drives = changed_at_some l (taken n tag c.op (is_queued_frame fis)) s.drives;
  issues = s.issues + 1;
}

-- the same as the events tell it
abbrev pub issued_as : Sight → ℕ → Option Cmd → IssueNo → ℕ → Ms → List ℕ → Sight
issued_as s id o n tag deadline fis = record s {
  queues = without_front (option_map_or (λ (c : Cmd). c.place) o 0) s.queues;
  slots = put tag (fresh_flight id n (option_map_or (λ (c : Cmd). c.place) o 0) deadline fis) s.slots;
  ends = slice_set s.ends tag None;
  drives = with_issue o n tag fis s.still.links s.drives;
  issues = s.issues + 1;
}

-- an issue stays held
pub holds_keeps :
    (drives : List DriveView) (l : Option ℕ) (n at : ℕ) (change : DriveView → DriveView)
    → ((v : DriveView) → holds n v.held ≡ true → holds n (change v).held ≡ true)
    → holds_in drives l n ≡ true → holds_in (changed_at at change drives) l n ≡ true
holds_keeps drives None n at change keeps is = is
holds_keeps drives (Some d) n at change keeps is = changed_keeps (λ v. holds n v.held) at change drives d keeps is

taken_sound : (n : IssueNo) (tag : ℕ) (op : Op) (queued : Bool) (v : DriveView) → IsSound v → IsSound (taken n tag op queued v)
taken_sound n tag op queued v h = record {
  counts = ap (λ c. with_count_down (next_assigned c) c) h.counts;
  going = h.going;
  good = h.good;
  ready = every_push (λ (x : Held). x.assigned ≡ Nothing) v.held _ h.ready (ap next_assigned h.counts);
}

-- what an issue leaves: an issue in flight, completed what was completed before, and no more commands open
pub record IsIssued (head : PortHead) (s later : Sight) : Type 0 where
  pub calm : IsCalm head later
  pub flies : FliesAny later.slots
  pub before :
      (t : ℕ) (f : InFlight) (e : Completion) → flight_at later.slots t ≡ Some f → end_at later.ends t ≡ Some e
      → (flight_at s.slots t ≡ Some f) × (end_at s.ends t ≡ Some e)
  pub fewer : waits_total later.queues + flights_total later.slots ≤ waits_total s.queues + flights_total s.slots

module _ (head : PortHead) (s : Sight) (c : Cmd) (n : IssueNo) (tag : ℕ) (deadline : Ms) (fis : List ℕ) (d : ℕ) (h : IsCalm head s) (front : front_of s.queues c.place ≡ Some c) (within : tag < 32) (free : flight_at s.slots tag ≡ None) (next : n.n ≡ s.issues + 1) (later : 0 < deadline.n) (linked : linked_at s.still.links c.place ≡ Some d) where
  waiting : IsWaiting s.still.attached s.still.partings s.commands c.place c
  waiting = every_at (IsWaiting s.still.attached s.still.partings s.commands c.place) (waiting_at s.queues c.place) 0 c (h.waits c.place) front

  busy : (t : ℕ) (f : InFlight) → flight_at s.slots t ≡ Some f → t ≢ tag
  busy t f is e = let none : flight_at s.slots t ≡ None = subst (λ u. flight_at s.slots u ≡ None) (sym e) free in cc

  still_here : (t : ℕ) (f : InFlight) → flight_at s.slots t ≡ Some f → flight_at (put tag (fresh_flight c.id n c.place deadline fis) s.slots) t ≡ Some f
  still_here t f is = read_set_other s.slots tag t (Some (fresh_flight c.id n c.place deadline fis)) None (busy t f is) ∙ is

  new_here : flight_at (put tag (fresh_flight c.id n c.place deadline fis) s.slots) tag ≡ Some (fresh_flight c.id n c.place deadline fis)
  new_here = read_set_same s.slots tag (Some (fresh_flight c.id n c.place deadline fis)) None (omega (arith, h.long_slots))

  waits_all :
      (x : ℕ) → Each (IsWaiting s.still.attached s.still.partings s.commands x) (waiting_at (without_front c.place s.queues) x)
  waits_all x =
      let P = IsWaiting s.still.attached s.still.partings s.commands in
      read_set (Each (P x)) s.queues c.place (drop 1 (waiting_at s.queues c.place)) x []
      (λ e. subst (λ y. Each (P y) (drop 1 (waiting_at s.queues c.place))) (sym e)
      (every_rest (P c.place) (waiting_at s.queues c.place) (h.waits c.place)))
      (h.waits x)

  flies_all :
      (t : ℕ) (f : InFlight) → flight_at (put tag (fresh_flight c.id n c.place deadline fis) s.slots) t ≡ Some f
      → IsFlight s.still.attached s.commands (s.issues + 1) f
  flies_all t f is =
      elim (put_get tag (fresh_flight c.id n c.place deadline fis) s.slots t f is) [
        | New here same ↦ subst (IsFlight s.still.attached s.commands (s.issues + 1)) (sym same) (record {
          unowned = refl;
          later = later;
          some = omega (arith, next);
          numbered = omega (arith, next);
          cmd = c;
          known = waiting.known;
          place = refl;
          home = waiting.home;
        })
        | Old other was ↦
            let w = h.flies t f was in
            record {
              unowned = w.unowned;
              later = w.later;
              some = w.some;
              numbered = omega (arith, w.numbered);
              cmd = w.cmd;
              known = w.known;
              place = w.place;
              home = w.home;
            }
      ]

  below : (t : ℕ) (f g : InFlight) → flight_at s.slots t ≡ Some f → g ≡ fresh_flight c.id n c.place deadline fis → f.number.n ≡ g.number.n → ⊥
  below t f g was same e = omega (arith, (h.flies t f was).numbered, next, e, ap (λ (x : InFlight). x.number.n) same)

  apart_all :
      (t u : ℕ) (f g : InFlight) → flight_at (put tag (fresh_flight c.id n c.place deadline fis) s.slots) t ≡ Some f
      → flight_at (put tag (fresh_flight c.id n c.place deadline fis) s.slots) u ≡ Some g → f.number.n ≡ g.number.n → t ≡ u
  apart_all t u f g is also e =
      elim (put_get tag (fresh_flight c.id n c.place deadline fis) s.slots t f is) [
        | New here same ↦ elim (put_get tag (fresh_flight c.id n c.place deadline fis) s.slots u g also) [
          | New there too ↦ here ∙ sym there
          | Old other was ↦ absurd (below u g f was same (sym e))
        ]
        | Old other was ↦ elim (put_get tag (fresh_flight c.id n c.place deadline fis) s.slots u g also) [
          | New there too ↦ absurd (below t f g was too e)
          | Old another been ↦ h.apart t u f g was been e
        ]
      ]

  held_all :
      (t : ℕ) (f : InFlight) → flight_at (put tag (fresh_flight c.id n c.place deadline fis) s.slots) t ≡ Some f
      → end_at (slice_set s.ends tag None) t ≡ None
      → holds_in (changed_at d (taken n tag c.op (is_queued_frame fis)) s.drives) (linked_at s.still.links f.place) f.number.n ≡ true
  held_all t f is undone =
      elim (put_get tag (fresh_flight c.id n c.place deadline fis) s.slots t f is) [
        | New here same ↦
            let brings = changed_brings (λ v. holds n.n v.held) d (taken n tag c.op (is_queued_frame fis)) s.drives
            (λ v. any_pushed (λ (x : Held). x.number.n == n.n) v.held
            (record { number = n; tag = tag; op = c.op; queued = is_queued_frame fis; assigned = next_assigned v.counts })
            (eq-eqb n.n n.n refl))
            (omega (arith, h.long_drives, (drive_within))) in
            subst (λ (g : InFlight). holds_in (changed_at d (taken n tag c.op (is_queued_frame fis)) s.drives) (linked_at s.still.links g.place) g.number.n ≡ true)
            (sym same)
            (subst (λ l. holds_in (changed_at d (taken n tag c.op (is_queued_frame fis)) s.drives) l n.n ≡ true) (sym linked) brings)
        | Old other was ↦
            holds_keeps s.drives (linked_at s.still.links f.place) f.number.n d (taken n tag c.op (is_queued_frame fis))
            (λ v. any_push (λ (x : Held). x.number.n == f.number.n) v.held _)
            (h.held t f was (sym (read_set_other s.ends tag t None None other) ∙ undone))
      ] where
        drive_within : d < length head.drives
        drive_within =
            let home = h.still.homes c.place waiting.home in
            let same : home.drive ≡ d = cc in
            omega (arith, home.within, same)

  has_still :
      (e m : ℕ) → HasFlight s.still.links s.slots s.ends e m
      → HasFlight s.still.links (put tag (fresh_flight c.id n c.place deadline fis) s.slots) (slice_set s.ends tag None) e m
  has_still e m w = record {
    tag = w.tag;
    flight = w.flight;
    here = still_here w.tag w.flight w.here;
    same = w.same;
    undone = read_set_other s.ends tag w.tag None None (busy w.tag w.flight w.here) ∙ w.undone;
    linked = w.linked;
  }

  has_new : HasFlight s.still.links (put tag (fresh_flight c.id n c.place deadline fis) s.slots) (slice_set s.ends tag None) d n.n
  has_new = record {
    tag = tag;
    flight = fresh_flight c.id n c.place deadline fis;
    here = new_here;
    same = refl;
    undone = read_set_same s.ends tag None None (omega (arith, h.long_ends));
    linked = linked;
  }

  flown_all :
      (e : ℕ) (v : DriveView) → slice_get (changed_at d (taken n tag c.op (is_queued_frame fis)) s.drives) e ≡ Some v
      → Each (λ (x : Held). HasFlight s.still.links (put tag (fresh_flight c.id n c.place deadline fis) s.slots) (slice_set s.ends tag None) e x.number.n) v.held
  flown_all e v is =
      let P : ℕ → Held → Type 0 = λ y x. HasFlight s.still.links (put tag (fresh_flight c.id n c.place deadline fis) s.slots) (slice_set s.ends tag None) y x.number.n in
      let was : (w : DriveView) → slice_get s.drives e ≡ Some w → Each (P e) w.held =
      λ w there. every_weaker (λ (x : Held). HasFlight s.still.links s.slots s.ends e x.number.n) (P e)
      (λ x. has_still e x.number.n) w.held (h.flown e w there) in
      elim (changed_get d (taken n tag c.op (is_queued_frame fis)) s.drives e v is) [
        | It w here there same ↦
            let new : HasFlight s.still.links (put tag (fresh_flight c.id n c.place deadline fis) s.slots) (slice_set s.ends tag None) e n.n =
            subst (λ y. HasFlight s.still.links (put tag (fresh_flight c.id n c.place deadline fis) s.slots) (slice_set s.ends tag None) y n.n) (sym here) has_new in
            subst (λ (x : DriveView). Each (P e) x.held) (sym same) (every_push (P e) w.held _ (was w there) new)
        | Other other there ↦ was v there
      ]

  flies_still : (x : ℕ) → FliesAt s.slots x → FliesAt (put tag (fresh_flight c.id n c.place deadline fis) s.slots) x
  flies_still x w = record { tag = w.tag; flight = w.flight; here = still_here w.tag w.flight w.here; place = w.place }

  claims : (x : ℕ) → WaitsAt s.queues x → FliesAt (put tag (fresh_flight c.id n c.place deadline fis) s.slots) x ⊎ WaitsAt (without_front c.place s.queues) x
  claims x w =
      elim (same_or_not x c.place) [
        | inl same ↦ inl (record { tag = tag; flight = fresh_flight c.id n c.place deadline fis; here = new_here; place = sym same })
        | inr other ↦ inr (record {
          front = w.front;
          is = ap (λ q. slice_get q 0) (read_set_other s.queues c.place x (drop 1 (waiting_at s.queues c.place)) [] other) ∙ w.is;
        })
      ]

  flies_on : (id : ℕ) → Flies s.slots id → Flies (put tag (fresh_flight c.id n c.place deadline fis) s.slots) id
  flies_on id w = record { tag = w.tag; flight = w.flight; here = still_here w.tag w.flight w.here; same = w.same }

  waits_on : (id : ℕ) → Waits s.queues id → Waits (without_front c.place s.queues) id ⊎ Flies (put tag (fresh_flight c.id n c.place deadline fis) s.slots) id
  waits_on id w =
      let test : Cmd → Bool = λ k. k.id == id in
      elim (same_or_not w.place c.place) [
        | inl same ↦
            elim (any_front test (waiting_at s.queues c.place) c front (subst (λ y. list_any test (waiting_at s.queues y) ≡ true) same w.among)) [
              | inl it ↦ inr (record { tag = tag; flight = fresh_flight c.id n c.place deadline fis; here = new_here; same = eqb-true c.id id it })
              | inr behind ↦ inl (record {
                place = c.place;
                among = subst (λ q. list_any test q ≡ true)
                    (sym (read_set_same s.queues c.place (drop 1 (waiting_at s.queues c.place)) [] (omega (arith, h.long_queues, (h.still.homes c.place waiting.home).few))))
                    behind;
              })
            ]
        | inr other ↦ inl (record {
          place = w.place;
          among = subst (λ q. list_any test q ≡ true)
              (sym (read_set_other s.queues c.place w.place (drop 1 (waiting_at s.queues c.place)) [] other)) w.among;
        })
      ]

  issue_fewer :
      waits_total (without_front c.place s.queues) + flights_total (put tag (fresh_flight c.id n c.place deadline fis) s.slots)
      ≤ waits_total s.queues + flights_total s.slots
  issue_fewer = omega (
    arith,
    total_set s.queues c.place (drop 1 (waiting_at s.queues c.place)),
    length_later (waiting_at s.queues c.place) c front,
    total_put tag (fresh_flight c.id n c.place deadline fis) s.slots,
  )

  issue_calm : IsCalm head (issued_in s c n tag deadline fis (Some d))
  issue_calm = record {
    still = h.still;
    long_queues = length-set s.queues c.place _ ∙ h.long_queues;
    long_slots = length-set s.slots tag _ ∙ h.long_slots;
    long_ends = length-set s.ends tag _ ∙ h.long_ends;
    long_drives = length_changed d _ s.drives ∙ h.long_drives;
    waits = waits_all;
    flies = flies_all;
    apart = apart_all;
    held = held_all;
    sound = every_changed IsSound d (taken n tag c.op (is_queued_frame fis)) s.drives (taken_sound n tag c.op (is_queued_frame fis)) h.sound;
    flown = flown_all;
    claimed = λ x is. elim (h.claimed x is) [ inl f ↦ inl (flies_still x f) | inr w ↦ claims x w ];
    here = λ id is. elim (h.here id is) [ inl w ↦ waits_on id w | inr f ↦ inr (flies_on id f) ];
    told = h.told;
    few = omega (arith, h.few, issue_fewer);
    once = h.once;
    known = h.known;
    least = h.least;
  }

  -- what is completed was completed before
  done_before :
      (t : ℕ) (f : InFlight) (e : Completion) → flight_at (put tag (fresh_flight c.id n c.place deadline fis) s.slots) t ≡ Some f
      → end_at (slice_set s.ends tag None) t ≡ Some e → (flight_at s.slots t ≡ Some f) × (end_at s.ends t ≡ Some e)
  done_before t f e is done =
      elim (put_get tag (fresh_flight c.id n c.place deadline fis) s.slots t f is) [
        | New here same ↦
            let none = read_set_same s.ends tag None None (omega (arith, h.long_ends)) in
            let there = subst (λ y. end_at (slice_set s.ends tag None) y ≡ Some e) here done in
            absurd (cc)
        | Old other was ↦ (was, sym (read_set_other s.ends tag t None None other) ∙ done)
      ]

  -- as the events tell it
  pub issue_told : IsIssued head s (issued_as s c.id (command_of c.id s.commands) n tag deadline fis)
  issue_told =
      subst (λ o. IsIssued head s (issued_as s c.id o n tag deadline fis)) (sym waiting.known)
      (subst (λ l. IsIssued head s (issued_in s c n tag deadline fis l)) (sym linked) (record {
        calm = issue_calm;
        flies = record { tag = tag; flight = fresh_flight c.id n c.place deadline fis; here = new_here };
        before = done_before;
        fewer = issue_fewer;
      }))

abbrev pub claimed_by : Sight → ℕ → Sight
claimed_by s x = record s { exclusive = Some x }

-- a place where a command waits is exclusive
pub claim_calm : (head : PortHead) (s : Sight) (x : ℕ) → IsCalm head s → WaitsAt s.queues x → IsCalm head (claimed_by s x)
claim_calm head s x h waits = record {
  still = h.still;
  long_queues = h.long_queues;
  long_slots = h.long_slots;
  long_ends = h.long_ends;
  long_drives = h.long_drives;
  waits = h.waits;
  flies = h.flies;
  apart = h.apart;
  held = h.held;
  sound = h.sound;
  flown = h.flown;
  claimed = λ y is. let same : x ≡ y = cc in inr (subst (WaitsAt s.queues) same waits);
  here = h.here;
  told = h.told;
  few = h.few;
  once = h.once;
  known = h.known;
  least = h.least;
}
