-- The numbers of the issues in flight are apart, from 1 up to the last.
use Rattle.std.proofs.Common.{◌≡◌, ◌≢◌, ℕ, ◌+◌, ◌<◌, ◌≤◌, ◌==◌, Bool, true, false, List, [], ◌∷◌, Option, None, Some, option_map, refl, sym, subst, arith, if◌then◌else◌, ne_eqb}
use Rattle.ata_base.specs.declared.issue_no.IssueNo.{IssueNo}
use Rattle.ata_script.specs.declared.port_head.PortHead.{PortHead}
use Rattle.ata_trace.specs.Event.{Event}
use Rattle.ata_trace.specs.Event.Event.{Told}
use Rattle.ata_trace.specs.declared.act.Act.TheVariants.{Issued, AnsweredOk, AnsweredFailed, AnsweredNodev, Retried, Condemned, Expired}
use Rattle.host_tags.proofs.NumberLemmas.{apart_put, without_here}
use Rattle.host_tags.specs.Marks.{condemned, expired}
use Rattle.host_tags.specs.Numbers.{AreApart, IsFresh, without, changed_by_number, KeepsNumber}
use Rattle.host_tags.specs.Slots.{released}
use Rattle.host_tags.specs.declared.in_flight.InFlight.{InFlight}
use Rattle.port_past.specs.Commands.{commands, place_of}
use Rattle.port_past.specs.Issues.{issue_count}
use Rattle.port_past.specs.Slots.{slots, fresh_flight, without_left}
use Rattle.port_facts.specs.Allowed.{IsAllowed, Flies}
use Rattle.host_tags.proofs.FlightLemmas.{each_put, each_without, each_changed, each_weaker, each_fresh, fresh_each, apart_without}
use Rattle.host_tags.specs.EachFlight.{EachFlight}

fresh_changed :
    (m n : ℕ) (change : InFlight → InFlight) (slots : List (Option InFlight)) → KeepsNumber change → IsFresh m slots
    → IsFresh m (changed_by_number change n slots)
fresh_changed m n change slots keeps h =
    fresh_each m (changed_by_number change n slots)
    (each_changed (λ f. f.number.n ≢ m) change n slots (λ f other. subst (λ x. x.n ≢ m) (sym (keeps f)) other) (each_fresh m slots h))

apart_changed_by :
    (b : Bool) (change : InFlight → InFlight) (f : InFlight) (rest : List (Option InFlight)) → KeepsNumber change
    → IsFresh f.number.n rest → AreApart rest → AreApart ((if b then option_map change (Some f) else Some f) ∷ rest)
apart_changed_by true change f rest keeps fresh h = (subst (λ x. IsFresh x.n rest) (sym (keeps f)) fresh, h)
apart_changed_by false change f rest keeps fresh h = (fresh, h)

apart_changed :
    (n : ℕ) (change : InFlight → InFlight) (slots : List (Option InFlight)) → KeepsNumber change → AreApart slots
    → AreApart (changed_by_number change n slots)
apart_changed n change [] keeps h = tt
apart_changed n change (None ∷ slots) keeps h = apart_changed n change slots keeps h
apart_changed n change (Some f ∷ slots) keeps h =
    apart_changed_by (f.number.n == n) change f (changed_by_number change n slots) keeps
    (fresh_changed f.number.n n change slots keeps h.0) (apart_changed n change slots keeps h.1)

-- a number of an issue, where so many were given out
abbrev pub IsNumber : ℕ → InFlight → Type 0
IsNumber last f = (0 < f.number.n) × (f.number.n ≤ last)

pub record AreNumbered (past : List Event) : Type 0 where
  pub apart : AreApart (slots past)
  pub numbers : EachFlight (IsNumber (issue_count past)) (slots past)

left : (n : ℕ) (past : List Event) → AreNumbered past → AreApart (without n (slots past)) × EachFlight (IsNumber (issue_count past)) (without n (slots past))
left n past was = (apart_without n (slots past) was.apart, each_without (IsNumber (issue_count past)) n (slots past) was.numbers)

told_left :
    (b : Bool) (n : ℕ) (past : List Event) → AreNumbered past
    → AreApart (without_left (if b then None else Some n) (slots past)) × EachFlight (IsNumber (issue_count past)) (without_left (if b then None else Some n) (slots past))
told_left true n past was = (was.apart, was.numbers)
told_left false n past was = left n past was

marked :
    (change : InFlight → InFlight) (n : ℕ) (past : List Event) → KeepsNumber change
    → ((f : InFlight) → IsNumber (issue_count past) f → IsNumber (issue_count past) (change f)) → AreNumbered past
    → AreApart (changed_by_number change n (slots past)) × EachFlight (IsNumber (issue_count past)) (changed_by_number change n (slots past))
marked change n past keeps stays was =
    (apart_changed n change (slots past) keeps was.apart, each_changed (IsNumber (issue_count past)) change n (slots past) stays was.numbers)

pub are_numbered : (head : PortHead) (past : List Event) → IsAllowed head past → AreNumbered past
are_numbered head [] h = record { apart = tt; numbers = tt }
are_numbered head (Told (Issued id number tag deadline fis) ∷ past) h =
    let was = are_numbered head past h.1 in
    let next : number.n ≡ issue_count past + 1 = h.0.next in
    let f : InFlight = fresh_flight id number (place_of id (commands past)) deadline fis in
    let fresh = fresh_each number.n (slots past)
    (each_weaker (IsNumber (issue_count past)) (λ g. g.number.n ≢ number.n) (λ g is e. omega (arith, is.1, e, next)) (slots past) was.numbers) in
    record {
      apart = apart_put tag f (slots past) was.apart fresh;
      numbers = each_put (IsNumber (issue_count past + 1)) tag f (slots past)
          (each_weaker (IsNumber (issue_count past)) (IsNumber (issue_count past + 1)) (λ g is. (is.0, omega (arith, is.1))) (slots past) was.numbers)
          (omega (arith, next), omega (arith, next));
    }
are_numbered head (Told (AnsweredOk id number status error lba count stamps) ∷ past) h =
    let it = left number.n past (are_numbered head past h.1) in record { apart = it.0; numbers = it.1 }
are_numbered head (Told (AnsweredFailed id number kinds status error lba count) ∷ past) h =
    let it = left number.n past (are_numbered head past h.1) in record { apart = it.0; numbers = it.1 }
are_numbered head (Told (AnsweredNodev id number) ∷ past) h =
    let it = told_left (number.n == 0) number.n past (are_numbered head past h.1) in record { apart = it.0; numbers = it.1 }
are_numbered head (Told (Retried id number raised) ∷ past) h =
    let it = left number.n past (are_numbered head past h.1) in record { apart = it.0; numbers = it.1 }
are_numbered head (Told (Condemned number kinds) ∷ past) h =
    let it = marked (condemned kinds) number.n past (λ f. refl) (λ f is. is) (are_numbered head past h.1) in
    record { apart = it.0; numbers = it.1 }
are_numbered head (Told (Expired id number) ∷ past) h =
    let it = marked expired number.n past (λ f. refl) (λ f is. is) (are_numbered head past h.1) in
    record { apart = it.0; numbers = it.1 }
are_numbered head (event ∷ past) h =
    let was = are_numbered head past h.1 in record { apart = was.apart; numbers = was.numbers }

-- no issue has the number 0
pub fresh_zero : (head : PortHead) (past : List Event) → IsAllowed head past → IsFresh 0 (slots past)
fresh_zero head past h =
    let was = are_numbered head past h in
    fresh_each 0 (slots past)
    (each_weaker (IsNumber (issue_count past)) (λ g. g.number.n ≢ 0) (λ g is e. omega (arith, is.0, e)) (slots past) was.numbers)

-- each issue has a number that isn't 0
pub are_some : (head : PortHead) (past : List Event) → IsAllowed head past → EachFlight (λ f. (f.number.n == 0) ≡ false) (slots past)
are_some head past h =
    each_weaker (IsNumber (issue_count past)) (λ g. (g.number.n == 0) ≡ false) (λ g is. ne_eqb g.number.n 0 (λ e. omega (arith, is.0, e))) (slots past)
    (are_numbered head past h).numbers

-- an issue that leaves frees its tag
pub leaves :
    (head : PortHead) (past : List Event) → IsAllowed head past → (id : ℕ) (number : IssueNo) → (f : Flies id number past)
    → without number.n (slots past) ≡ released f.tag (slots past)
leaves head past h id number f =
    subst (λ x. without x.n (slots past) ≡ released f.tag (slots past)) f.numbered
    (without_here f.tag f.flight (slots past) (are_numbered head past h).apart f.here)
