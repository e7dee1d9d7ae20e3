-- Links unmixed: what an issue finds at its place when it starts.
use Rattle.std.proofs.Common.{◌≡◌, ◌∙◌, ℕ, ◌+◌, ◌<◌, ◌≤◌, Bool, true, false, not, ◌&&◌, ◌==◌, List, [], ◌∷◌, Option, None, Some, option_map, map, length, ◌⊎◌, inl, inr, zero, suc, refl, sym, ap, subst, arith}
use Rattle.std.specs.List.{list_any, count_by}
use Rattle.std.proofs.lemmas.Bool.{eqb-true, not-false}
use Rattle.std.proofs.lemmas.List.Sums.{sum_by-cons, sum_by-le-sum_by}
use Rattle.ata_script.specs.declared.port_head.PortHead.{PortHead}
use Rattle.ata_trace.specs.Entries.{EntryView, past_of}
use Rattle.ata_trace.specs.Event.{Event}
use Rattle.ata_trace.specs.Event.Event.{Told}
use Rattle.ata_trace.specs.declared.act.Act.TheVariants.{Issued, AnsweredOk, AnsweredFailed, AnsweredNodev, Retried, Condemned, Expired}
use Rattle.ata_base.specs.declared.issue_no.IssueNo.{IssueNo}
use Rattle.std.specs.Option.{option_map_or}
use Rattle.host_tags.specs.Marks.{condemned, expired}
use Rattle.host_tags.specs.Numbers.{without, changed_by_number}
use Rattle.port_past.specs.Commands.{commands, place_of}
use Rattle.host_defer.specs.Obstacles.{is_link_busy, is_at as is_seen_at, is_unqueued_at as is_seen_unqueued_at, is_elsewhere}
use Rattle.host_tags.specs.Slots.{flight_at, put, released}
use Rattle.host_tags.specs.declared.in_flight.InFlight.{InFlight}
use Rattle.port_past.specs.Slots.{slots, fresh_flight}
use Rattle.port_rules.specs.Kick.{place_and_queuing, outline}
use Rattle.port_rules.specs.Legal.{IsLegal}
use Rattle.port_laws.specs.Links.{is_at, is_unqueued_at, IsUnmixed, AreLinksUnmixed, AreTogether, IsOneLink}
use Rattle.port_facts.specs.Moments.{AtEach}
use Rattle.port_facts.specs.Once.{one_if}
use Rattle.port_facts.specs.Allowed.{IsUnissued, Flies, IsAllowed}
use Rattle.port_facts.proofs.Counts.{count_slot, count_changed}
use Rattle.host_tags.proofs.FlightLemmas.{each_at, each_put, each_without, each_changed}
use Rattle.host_tags.proofs.NumberLemmas.{without_fresh}
use Rattle.port_past.proofs.LeavingSlots.{each_told, told_leaves}
use Rattle.port_facts.proofs.Known.{place_of_device}
use Rattle.port_facts.proofs.Numbered.{leaves, fresh_zero}
use Rattle.port_facts.proofs.Legal.{journal_allowed}
use Rattle.port_past.proofs.Sizes.{length_slots, flight_within}
use Rattle.host_tags.specs.EachFlight.{EachFlight}
use Rattle.ata_base.proofs.Truth.{neither}

part_of : (a b : Bool) → one_if (a && b) ≤ one_if a
part_of true true = omega arith
part_of true false = omega arith
part_of false b = omega arith

unqueued_is_at : (place : ℕ) (slot : Option InFlight) → one_if (is_unqueued_at place slot) ≤ one_if (is_at place slot)
unqueued_is_at place None = omega arith
unqueued_is_at place (Some f) = part_of (f.place == place) (not f.queued)

-- no more issues at a place are unqueued than there are
unqueued_less :
    (place : ℕ) (slots : List (Option InFlight))
    → count_by (is_unqueued_at place) slots ≤ count_by (is_at place) slots
unqueued_less place slots =
    sum_by-le-sum_by (λ x. one_if (is_unqueued_at place x)) (λ x. one_if (is_at place x)) slots (unqueued_is_at place)

-- what isn't seen in the slots isn't counted in them
unseen :
    (seen : Option (ℕ × Bool) → Bool) (p : Option InFlight → Bool)
    → ((slot : Option InFlight) → seen (option_map place_and_queuing slot) ≡ p slot)
    → (slots : List (Option InFlight)) → list_any seen (map (option_map place_and_queuing) slots) ≡ false
    → count_by p slots ≡ 0
unseen seen p agree [] none = refl
unseen seen p agree (slot ∷ slots) none =
    let parts = neither _ _ none in
    let here = ap one_if (sym (agree slot) ∙ parts.0) in
    omega (arith, sum_by-cons (λ x. one_if (p x)) slot slots, here, unseen seen p agree slots parts.1)

agree_at : (place : ℕ) (slot : Option InFlight) → is_seen_at place (option_map place_and_queuing slot) ≡ is_at place slot
agree_at place None = refl
agree_at place (Some f) = refl

agree_unqueued :
    (place : ℕ) (slot : Option InFlight)
    → is_seen_unqueued_at place (option_map place_and_queuing slot) ≡ is_unqueued_at place slot
agree_unqueued place None = refl
agree_unqueued place (Some f) = refl

-- beside a queued issue none is unqueued, beside an unqueued one there is none
link_free :
    (place : ℕ) (queued : Bool) (slots : List (Option InFlight))
    → is_link_busy (outline slots) place queued ≡ false
    → (queued ≡ true → count_by (is_unqueued_at place) slots ≡ 0) × (queued ≡ false → count_by (is_at place) slots ≡ 0)
link_free place true slots alone =
    (λ so. unseen (is_seen_unqueued_at place) (is_unqueued_at place) (agree_unqueued place) slots alone, λ so. absurd (cc))
link_free place false slots alone =
    (λ so. absurd (cc), λ so. unseen (is_seen_at place) (is_at place) (agree_at place) slots alone)

one_more :
    (here queued : Bool) (unqueued all unqueued_after all_after : ℕ)
    → unqueued_after ≡ unqueued + one_if (here && not queued) → all_after ≡ all + one_if here
    → (here ≡ true → queued ≡ true → unqueued ≡ 0) → (here ≡ true → queued ≡ false → all ≡ 0)
    → ((unqueued ≡ 0) ⊎ (all ≡ 1)) → (unqueued_after ≡ 0) ⊎ (all_after ≡ 1)
one_more true true unqueued all unqueued_after all_after more one beside alone was = inl (omega (arith, beside refl refl))
one_more true false unqueued all unqueued_after all_after more one beside alone was = inr (omega (arith, alone refl refl))
one_more false queued unqueued all unqueued_after all_after more one beside alone (inl none) = inl (omega arith)
one_more false queued unqueued all unqueued_after all_after more one beside alone (inr single) = inr (omega arith)

one_less :
    (unqueued all unqueued_after all_after : ℕ) → unqueued_after ≤ unqueued → all_after ≤ all → unqueued_after ≤ all_after
    → ((unqueued ≡ 0) ⊎ (all ≡ 1)) → (unqueued_after ≡ 0) ⊎ (all_after ≡ 1)
one_less unqueued all unqueued_after all_after less fewer part (inl none) = inl (omega arith)
one_less unqueued all unqueued_after zero less fewer part (inr single) = inl (omega arith)
one_less unqueued all unqueued_after (suc n) less fewer part (inr single) = inr (omega arith)

put_unmixed :
    (place x tag : ℕ) (f : InFlight) (queued : Bool) (slots : List (Option InFlight))
    → f.place ≡ x → f.queued ≡ queued → tag < 32 → flight_at slots tag ≡ None → 32 ≤ length slots
    → is_link_busy (outline slots) x queued ≡ false → IsUnmixed place slots
    → IsUnmixed place (put tag f slots)
put_unmixed place x tag f queued slots there kind within free enough alone was =
    let all = count_slot (is_at place) slots tag (Some f) (omega arith) in
    let unqueued = count_slot (is_unqueued_at place) slots tag (Some f) (omega arith) in
    let no_one = ap (λ slot. one_if (is_at place slot)) free in
    let no_unqueued = ap (λ slot. one_if (is_unqueued_at place slot)) free in
    let busy = link_free x queued slots alone in
    let same : (f.place == place) ≡ true → x ≡ place = λ e. sym there ∙ eqb-true f.place place e in
    one_more (f.place == place) f.queued _ _ _ _ (omega (arith, unqueued, no_unqueued)) (omega (arith, all, no_one))
    (λ here so. subst (λ y. count_by (is_unqueued_at y) slots ≡ 0) (same here) (busy.0 (sym kind ∙ so)))
    (λ here so. subst (λ y. count_by (is_at y) slots ≡ 0) (same here) (busy.1 (sym kind ∙ so)))
    was

released_unmixed :
    (place tag : ℕ) (f : InFlight) (slots : List (Option InFlight)) → flight_at slots tag ≡ Some f
    → IsUnmixed place slots → IsUnmixed place (released tag slots)
released_unmixed place tag f slots here was =
    let within = flight_within slots tag f here in
    let all = count_slot (is_at place) slots tag None within in
    let unqueued = count_slot (is_unqueued_at place) slots tag None within in
    one_less _ _ _ _ (omega (arith, unqueued)) (omega (arith, all)) (unqueued_less place (released tag slots)) was

left_unmixed :
    (head : PortHead) (place id : ℕ) (number : IssueNo) (past : List Event) → IsAllowed head past → Flies id number past
    → IsUnmixed place (slots past) → IsUnmixed place (without number.n (slots past))
left_unmixed head place id number past h f was =
    subst (IsUnmixed place) (sym (leaves head past h id number f))
    (released_unmixed place f.tag f.flight (slots past) f.here was)

lost_unmixed :
    (head : PortHead) (place id : ℕ) (number : IssueNo) (past : List Event) → IsAllowed head past
    → IsUnissued id number past ⊎ Flies id number past
    → IsUnmixed place (slots past) → IsUnmixed place (without number.n (slots past))
lost_unmixed head place id number past h (inl unissued) was =
    subst (λ n. IsUnmixed place (without n (slots past))) (sym unissued.none)
    (subst (IsUnmixed place) (sym (without_fresh 0 (slots past) (fresh_zero head past h))) was)
lost_unmixed head place id number past h (inr f) was = left_unmixed head place id number past h f was

unseen_by :
    (p : InFlight → Bool) (change : InFlight → InFlight) → ((f : InFlight) → p (change f) ≡ p f) → (slot : Option InFlight)
    → option_map_or p (option_map change slot) false ≡ option_map_or p slot false
unseen_by p change keeps None = refl
unseen_by p change keeps (Some f) = keeps f

marked_unmixed :
    (place : ℕ) (change : InFlight → InFlight) → ((f : InFlight) → (change f).place ≡ f.place)
    → ((f : InFlight) → (change f).queued ≡ f.queued) → (n : ℕ) (slots : List (Option InFlight))
    → IsUnmixed place slots → IsUnmixed place (changed_by_number change n slots)
marked_unmixed place change there kind n slots was =
    let all = count_changed (is_at place) change
    (unseen_by (λ f. f.place == place) change (λ f. ap (λ x. x == place) (there f))) n slots in
    let unqueued = count_changed (is_unqueued_at place) change
    (unseen_by (λ f. (f.place == place) && not f.queued) change
    (λ f. ap (λ x. (x == place) && not (change f).queued) (there f) ∙ ap (λ q. (f.place == place) && not q) (kind f))) n slots in
    subst (λ m. (m ≡ 0) ⊎ (count_by (is_at place) (changed_by_number change n slots) ≡ 1)) (sym unqueued)
    (subst (λ m. (count_by (is_unqueued_at place) slots ≡ 0) ⊎ (m ≡ 1)) (sym all) was)

unmixed_of_allowed : (head : PortHead) (past : List Event) → IsAllowed head past → (place : ℕ) → IsUnmixed place (slots past)
unmixed_of_allowed head [] h place = inl refl
unmixed_of_allowed head (Told (Issued id number tag deadline fis) ∷ past) h place =
    let m = h.0 in
    put_unmixed place m.is_front.front.place tag (fresh_flight id number (place_of id (commands past)) deadline fis) m.queued (slots past)
    (place_of_device id (commands past) _ m.is_front.stands) m.kind
    m.within m.free (omega (arith, length_slots past)) m.alone (unmixed_of_allowed head past h.1 place)
unmixed_of_allowed head (Told (AnsweredOk id number status error lba count stamps) ∷ past) h place =
    left_unmixed head place id number past h.1 h.0.flies (unmixed_of_allowed head past h.1 place)
unmixed_of_allowed head (Told (AnsweredFailed id number kinds status error lba count) ∷ past) h place =
    left_unmixed head place id number past h.1 h.0.finish.flies (unmixed_of_allowed head past h.1 place)
unmixed_of_allowed head (Told (AnsweredNodev id number) ∷ past) h place =
    subst (IsUnmixed place) (sym (told_leaves number.n (slots past) (fresh_zero head past h.1)))
    (lost_unmixed head place id number past h.1 h.0.here (unmixed_of_allowed head past h.1 place))
unmixed_of_allowed head (Told (Retried id number raised) ∷ past) h place =
    left_unmixed head place id number past h.1 h.0.finish.flies (unmixed_of_allowed head past h.1 place)
unmixed_of_allowed head (Told (Condemned number kinds) ∷ past) h place =
    marked_unmixed place (condemned kinds) (λ f. refl) (λ f. refl) number.n (slots past) (unmixed_of_allowed head past h.1 place)
unmixed_of_allowed head (Told (Expired id number) ∷ past) h place =
    marked_unmixed place expired (λ f. refl) (λ f. refl) number.n (slots past) (unmixed_of_allowed head past h.1 place)
unmixed_of_allowed head (event ∷ past) h place = unmixed_of_allowed head past h.1 place

each_unmixed : (head : PortHead) (past : List Event) → IsAllowed head past → AtEach AreLinksUnmixed past
each_unmixed head [] h = tt
each_unmixed head (event ∷ past) h = (unmixed_of_allowed head (event ∷ past) h, each_unmixed head past h.1)

-- at each moment of a legal journal the issues in flight at a place are all queued, or there is one
pub links_are_unmixed :
    (head : PortHead) (journal : List EntryView) → IsLegal head journal → AtEach AreLinksUnmixed (past_of journal)
links_are_unmixed head journal legal =
    each_unmixed head (past_of journal) (journal_allowed head journal legal)

none_elsewhere :
    (x : ℕ) (slots : List (Option InFlight)) → list_any (is_elsewhere x) (outline slots) ≡ false
    → EachFlight (λ f. f.place ≡ x) slots
none_elsewhere x [] none = tt
none_elsewhere x (None ∷ slots) none = none_elsewhere x slots none
none_elsewhere x (Some f ∷ slots) none =
    let parts = neither (not (f.place == x)) _ none in
    (eqb-true f.place x (not-false _ parts.0), none_elsewhere x slots parts.1)

-- all issues in flight are at one place
one_place :
    (head : PortHead) → head.pmp ≡ true → head.fbs ≡ false → (past : List Event) → IsAllowed head past
    → (x : ℕ) × EachFlight (λ f. f.place ≡ x) (slots past)
one_place head pmp fbs [] h = (0, tt)
one_place head pmp fbs (Told (Issued id number tag deadline fis) ∷ past) h =
    let front = h.0.is_front in
    let x = front.front.place in (
      x,
      each_put (λ f. f.place ≡ x) tag (fresh_flight id number (place_of id (commands past)) deadline fis) (slots past)
          (none_elsewhere x (slots past) (h.0.one_link pmp fbs)) (place_of_device id (commands past) _ front.stands),
    )
one_place head pmp fbs (Told (AnsweredOk id number status error lba count stamps) ∷ past) h =
    let was = one_place head pmp fbs past h.1 in (was.0, each_without (λ f. f.place ≡ was.0) number.n (slots past) was.1)
one_place head pmp fbs (Told (AnsweredFailed id number kinds status error lba count) ∷ past) h =
    let was = one_place head pmp fbs past h.1 in (was.0, each_without (λ f. f.place ≡ was.0) number.n (slots past) was.1)
one_place head pmp fbs (Told (AnsweredNodev id number) ∷ past) h =
    let was = one_place head pmp fbs past h.1 in (was.0, each_told (λ f. f.place ≡ was.0) number.n (slots past) was.1)
one_place head pmp fbs (Told (Retried id number raised) ∷ past) h =
    let was = one_place head pmp fbs past h.1 in (was.0, each_without (λ f. f.place ≡ was.0) number.n (slots past) was.1)
one_place head pmp fbs (Told (Condemned number kinds) ∷ past) h =
    let was = one_place head pmp fbs past h.1 in
    (was.0, each_changed (λ f. f.place ≡ was.0) (condemned kinds) number.n (slots past) (λ f is. is) was.1)
one_place head pmp fbs (Told (Expired id number) ∷ past) h =
    let was = one_place head pmp fbs past h.1 in
    (was.0, each_changed (λ f. f.place ≡ was.0) expired number.n (slots past) (λ f is. is) was.1)
one_place head pmp fbs (event ∷ past) h = one_place head pmp fbs past h.1

together :
    (head : PortHead) → head.pmp ≡ true → head.fbs ≡ false → (past : List Event) → IsAllowed head past → AreTogether (slots past)
together head pmp fbs past h tag other f g here there =
    let one = one_place head pmp fbs past h in
    each_at (λ x. x.place ≡ one.0) (slots past) tag f one.1 here ∙ sym (each_at (λ x. x.place ≡ one.0) (slots past) other g one.1 there)

each_together :
    (head : PortHead) → head.pmp ≡ true → head.fbs ≡ false → (past : List Event) → IsAllowed head past → AtEach IsOneLink past
each_together head pmp fbs [] h = tt
each_together head pmp fbs (event ∷ past) h = (together head pmp fbs (event ∷ past) h, each_together head pmp fbs past h.1)

-- at each moment of a legal journal of a multiplier that doesn't switch by frames all issues in flight are at one place
pub links_are_one :
    (head : PortHead) → head.pmp ≡ true → head.fbs ≡ false → (journal : List EntryView) → IsLegal head journal
    → AtEach IsOneLink (past_of journal)
links_are_one head pmp fbs journal legal = each_together head pmp fbs (past_of journal) (journal_allowed head journal legal)
