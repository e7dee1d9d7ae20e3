-- The past of a legal journal is one that recovery can work on.
use Rattle.std.proofs.Common.{◌≡◌, ◌∙◌, ℕ, ◌+◌, ◌<◌, ◌≤◌, List, [], ◌∷◌, Option, Some, suc, zero, refl, ap, arith}
use Rattle.std.specs.List.{count_by}
use Rattle.std.specs.Prelude.{slice_index_or}
use Rattle.std.proofs.lemmas.Bool.{eq-eqb}
use Rattle.std.proofs.lemmas.List.Sums.{sum_by-cons}
use Rattle.ata_base.proofs.EachLemmas.{every_weaker}
use Rattle.ata_script.specs.declared.port_head.PortHead.{PortHead}
use Rattle.ata_trace.specs.Entries.{EntryView, past_of}
use Rattle.ata_trace.specs.Event.{Event}
use Rattle.host_tags.specs.Slots.{flight_at}
use Rattle.host_tags.specs.declared.in_flight.InFlight.{InFlight}
use Rattle.port_facts.proofs.Legal.{journal_allowed}
use Rattle.port_facts.proofs.Once.{once_or_live}
use Rattle.port_facts.specs.Once.{flights, is_issue_of, one_if}
use Rattle.port_past.specs.Drives.{drives}
use Rattle.port_past.specs.PlaceTold.{ident_lates, place_told}
use Rattle.port_past.specs.Slots.{slots}
use Rattle.port_past.specs.declared.place_told.PlaceTold.{PlaceTold}
use Rattle.port_past.specs.declared.place_told.PlaceTold.TheVariants.{NotBegun, ResetLate}
use Rattle.port_recovery.specs.Reading.{HoldFlights, IsInFlight}
use Rattle.port_recovery.specs.Recoverable.{AreFewTries, AreOneEach, IsRecoverable, late_try}
use Rattle.port_rules.specs.Legal.{IsLegal}
use Rattle.port_stands.proofs.All.{journal_all}
use Rattle.port_stands.proofs.Heads.{one_place}
use Rattle.port_stands.specs.All.{AllStands}
use Rattle.port_stands.specs.Driven.{AreDriven, IsHeld}
use Rattle.port_core.proofs.FewTries.{journal_tries}
use Rattle.port_core.proofs.TryLemmas.{GoesWith, HasFewTries}

-- ---- no command is twice in flight

counted_more :
    (id : ℕ) (slot : Option InFlight) (slots : List (Option InFlight))
    → count_by (is_issue_of id) (slot ∷ slots) ≡ one_if (is_issue_of id slot) + count_by (is_issue_of id) slots
counted_more id slot slots = sum_by-cons (λ s. one_if (is_issue_of id s)) slot slots

one_here : (id : ℕ) (slot : Option InFlight) (f : InFlight) → slot ≡ Some f → f.id ≡ id → one_if (is_issue_of id slot) ≡ 1
one_here id slot f here same = ap (λ s. one_if (is_issue_of id s)) here ∙ ap one_if (eq-eqb f.id id same)

counted_here :
    (id t : ℕ) (slots : List (Option InFlight)) (f : InFlight) → flight_at slots t ≡ Some f → f.id ≡ id
    → 0 < count_by (is_issue_of id) slots
counted_here id t [] f here same = absurd (cc)
counted_here id zero (slot ∷ slots) f here same = omega (arith, counted_more id slot slots, one_here id slot f here same)
counted_here id (suc t) (slot ∷ slots) f here same = omega (arith, counted_more id slot slots, counted_here id t slots f here same)

one_tag :
    (id t u : ℕ) (slots : List (Option InFlight)) (f g : InFlight) → count_by (is_issue_of id) slots ≤ 1
    → flight_at slots t ≡ Some f → flight_at slots u ≡ Some g → f.id ≡ id → g.id ≡ id → t ≡ u
one_tag id t u [] f g few at_t at_u f_is g_is = absurd (cc)
one_tag id zero zero (slot ∷ slots) f g few at_t at_u f_is g_is = refl
one_tag id zero (suc u) (slot ∷ slots) f g few at_t at_u f_is g_is =
    absurd (omega (arith, few, counted_more id slot slots, one_here id slot f at_t f_is, counted_here id u slots g at_u g_is))
one_tag id (suc t) zero (slot ∷ slots) f g few at_t at_u f_is g_is =
    absurd (omega (arith, few, counted_more id slot slots, one_here id slot g at_u g_is, counted_here id t slots f at_t f_is))
one_tag id (suc t) (suc u) (slot ∷ slots) f g few at_t at_u f_is g_is =
    ap suc (one_tag id t u slots f g (omega (arith, few, counted_more id slot slots)) at_t at_u f_is g_is)

one_each : (past : List Event) → ((id : ℕ) → flights id past ≤ 1) → AreOneEach (slots past)
one_each past few t u f g at_t at_u same = one_tag g.id t u (slots past) f g (few g.id) at_t at_u same refl

-- ---- what a drive holds is in flight

held_flights : (head : PortHead) (past : List Event) → AreDriven head past → HoldFlights (slots past) (drives head past)
held_flights head past driven = record {
  single = driven.single;
  flying = λ d v is.
      every_weaker (IsHeld head past d) (IsInFlight (slots past))
      (λ h held. rw held.flies.here (eq-eqb held.flight.number.n h.number.n held.number)) v.held (driven.held d v is);
}

-- ---- tries are few

low_try : (told : PlaceTold) (lates : ℕ) → GoesWith told lates → late_try told < 255
low_try (ResetLate attempt) lates fits = omega (arith, fits.1.0)
low_try told lates fits = omega arith

few_tries : (past : List Event) → HasFewTries past → AreFewTries (place_told past) (ident_lates past)
few_tries past few place =
    let fits = few place in
    (low_try (slice_index_or (place_told past) place NotBegun) _ fits, omega (arith, fits.0))

-- so the past of each legal journal is recoverable
pub recoverable : (head : PortHead) (entries : List EntryView) → IsLegal head entries → IsRecoverable head (past_of entries)
recoverable head entries legal =
    let past : List Event = past_of entries in
    let all : AllStands head past = journal_all head (one_place head) entries legal in
    record {
      single = one_each past (λ id. (once_or_live head past (journal_allowed head entries legal) id).one_issue);
      held = held_flights head past all.whole.driven;
      tries = few_tries past (journal_tries head entries legal);
    }
