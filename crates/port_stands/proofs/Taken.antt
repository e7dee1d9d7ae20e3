-- Which issues are answered and which condemned, where slots and ends are walked together.
use Rattle.std.proofs.Common.{◌≡◌, ◌∙◌, ℕ, Bool, true, false, not, ◌&&◌, ◌==◌, List, [], ◌∷◌, Option, None, Some, suc, zero, slice_get, refl, sym, ap, subst, if◌then◌else◌}
use Rattle.std.proofs.lemmas.Bool.{eqb-true, eq-eqb}
use Rattle.ata_base.specs.declared.err_mask.ErrMask.{ErrMask}
use Rattle.ata_trace.specs.declared.act.Act.{Act}
use Rattle.ata_trace.specs.declared.act.Act.TheVariants.{Condemned}
use Rattle.host_tags.specs.Slots.{flight_at}
use Rattle.host_tags.specs.Marks.{condemned}
use Rattle.host_tags.specs.declared.in_flight.InFlight.{InFlight}
use Rattle.port_past.specs.declared.completion.Completion.{Completion}
use Rattle.port_rules.specs.Sorting.{ok_act, ok_answers, condemnations}
use Rattle.port_stands.proofs.Marks.{empty_stays, still_same}
use Rattle.port_stands.specs.Driven.{end_at}
use Rattle.port_stands.specs.Words.{slot_onto}
use Rattle.ata_base.proofs.Truth.{not_true}

left_spare : (b : Bool) (f : InFlight) → b ≡ false → (if b then None else Some f) ≡ Some f
left_spare true f e = absurd (cc)
left_spare false f e = refl

spare_by :
    (own : Bool) (h f : InFlight) (end : Completion) (rest : List Act) → (own ≡ false → (f.number.n == h.number.n) ≡ false)
    → slot_onto rest (Some f) ≡ Some f
    → slot_onto (if own then rest else ok_act h end ∷ rest) (Some f) ≡ Some f
spare_by true h f end rest other later = later
spare_by false h f end rest other later = ap (slot_onto rest) (left_spare (f.number.n == h.number.n) f (other refl)) ∙ later

-- an issue whose number has no end isn't answered
pub unanswered :
    (slots : List (Option InFlight)) (ends : List (Option Completion)) (f : InFlight)
    → ((u : ℕ) (h : InFlight) → flight_at slots u ≡ Some h → h.number.n ≡ f.number.n → end_at ends u ≡ None)
    → slot_onto (ok_answers slots ends) (Some f) ≡ Some f
unanswered [] ends f none = refl
unanswered (None ∷ slots) [] f none = refl
unanswered (Some h ∷ slots) [] f none = refl
unanswered (None ∷ slots) (end ∷ ends) f none = unanswered slots ends f (λ u h at same. none (suc u) h at same)
unanswered (Some h ∷ slots) (None ∷ ends) f none = unanswered slots ends f (λ u g at same. none (suc u) g at same)
unanswered (Some h ∷ slots) (Some end ∷ ends) f none =
    spare_by h.owned h f end (ok_answers slots ends)
    (λ free. not_true (f.number.n == h.number.n) (λ e. cc (none 0 h refl (sym (eqb-true f.number.n h.number.n e)))))
    (unanswered slots ends f (λ u g at same. none (suc u) g at same))

left_or : (b : Bool) (f : InFlight) (rest : List Act) → slot_onto rest (Some f) ≡ None → slot_onto rest (if b then None else Some f) ≡ None
left_or true f rest later = empty_stays rest
left_or false f rest later = later

answered_by :
    (own : Bool) (h f : InFlight) (end : Completion) (rest : List Act) → slot_onto rest (Some f) ≡ None
    → slot_onto (if own then rest else ok_act h end ∷ rest) (Some f) ≡ None
answered_by true h f end rest later = later
answered_by false h f end rest later = left_or (f.number.n == h.number.n) f rest later

answered_here :
    (own : Bool) (f : InFlight) (end : Completion) (rest : List Act) → own ≡ false
    → slot_onto (if own then rest else ok_act f end ∷ rest) (Some f) ≡ None
answered_here true f end rest free = absurd (cc)
answered_here false f end rest free =
    ap (λ b. slot_onto rest (if b then None else Some f)) (eq-eqb f.number.n f.number.n refl) ∙ empty_stays rest

-- a free issue with an end is answered
pub answered :
    (slots : List (Option InFlight)) (ends : List (Option Completion)) (tag : ℕ) (f : InFlight) (end : Completion)
    → flight_at slots tag ≡ Some f → f.owned ≡ false → end_at ends tag ≡ Some end
    → slot_onto (ok_answers slots ends) (Some f) ≡ None
answered [] ends tag f end here free is = absurd (cc)
answered (slot ∷ slots) [] tag f end here free is = absurd (cc)
answered (None ∷ slots) (e ∷ ends) zero f end here free is = absurd (cc)
answered (None ∷ slots) (e ∷ ends) (suc tag) f end here free is = answered slots ends tag f end here free is
answered (Some h ∷ slots) (None ∷ ends) zero f end here free is = absurd (cc)
answered (Some h ∷ slots) (None ∷ ends) (suc tag) f end here free is = answered slots ends tag f end here free is
answered (Some h ∷ slots) (Some e ∷ ends) zero f end here free is =
    let same : h ≡ f = cc in
    subst (λ x. slot_onto (ok_answers (Some x ∷ slots) (Some e ∷ ends)) (Some f) ≡ None) (sym same)
    (answered_here f.owned f e (ok_answers slots ends) free)
answered (Some h ∷ slots) (Some e ∷ ends) (suc tag) f end here free is =
    answered_by h.owned h f e (ok_answers slots ends) (answered slots ends tag f end here free is)

owned_if :
    (b : Bool) (y x : InFlight) (kinds : ErrMask) (rest : List Act)
    → ((z : InFlight) → z.number.n ≡ y.number.n → slot_onto rest (Some z) ≡ Some x → x.owned ≡ true)
    → slot_onto rest (if b then Some (condemned kinds y) else Some y) ≡ Some x → x.owned ≡ true
owned_if true y x kinds rest later e = later (condemned kinds y) refl e
owned_if false y x kinds rest later e = later y refl e

condemned_by :
    (b : Bool) (h y x : InFlight) (kinds : ErrMask) (rest : List Act)
    → ((z : InFlight) → z.number.n ≡ y.number.n → slot_onto rest (Some z) ≡ Some x → x.owned ≡ true)
    → slot_onto (if b then Condemned h.number kinds ∷ rest else rest) (Some y) ≡ Some x → x.owned ≡ true
condemned_by true h y x kinds rest later e = owned_if (y.number.n == h.number.n) y x kinds rest later e
condemned_by false h y x kinds rest later e = later y refl e

condemned_here :
    (b : Bool) (f y x : InFlight) (kinds : ErrMask) (rest : List Act) → b ≡ true → y.number.n ≡ f.number.n
    → slot_onto (if b then Condemned f.number kinds ∷ rest else rest) (Some y) ≡ Some x → x.owned ≡ true
condemned_here true f y x kinds rest is same e =
    let at : slot_onto rest (Some (condemned kinds y)) ≡ Some x =
    sym (ap (λ b. slot_onto rest (if b then Some (condemned kinds y) else Some y)) (eq-eqb y.number.n f.number.n same)) ∙ e in
    (still_same rest (condemned kinds y) x at).owned refl
condemned_here false f y x kinds rest is same e = absurd (cc)

and_true : (a b : Bool) → a ≡ false → b ≡ true → (not a && b) ≡ true
and_true true b x y = absurd (cc)
and_true false b x y = y

-- a free issue without an end is condemned, where it passes the test
pub condemned_at :
    (test : InFlight → Bool) (kinds : ErrMask) (slots : List (Option InFlight)) (ends : List (Option Completion)) (tag : ℕ)
    (f y x : InFlight) → flight_at slots tag ≡ Some f → f.owned ≡ false → test f ≡ true
    → slice_get ends tag ≡ Some None → y.number.n ≡ f.number.n
    → slot_onto (condemnations test kinds slots ends) (Some y) ≡ Some x → x.owned ≡ true
condemned_at test kinds [] ends tag f y x here free passes is same e = absurd (cc)
condemned_at test kinds (slot ∷ slots) [] tag f y x here free passes is same e = absurd (cc)
condemned_at test kinds (None ∷ slots) (end ∷ ends) zero f y x here free passes is same e = absurd (cc)
condemned_at test kinds (None ∷ slots) (end ∷ ends) (suc tag) f y x here free passes is same e =
    condemned_at test kinds slots ends tag f y x here free passes is same e
condemned_at test kinds (Some h ∷ slots) (Some end ∷ ends) zero f y x here free passes is same e = absurd (cc)
condemned_at test kinds (Some h ∷ slots) (Some end ∷ ends) (suc tag) f y x here free passes is same e =
    condemned_at test kinds slots ends tag f y x here free passes is same e
condemned_at test kinds (Some h ∷ slots) (None ∷ ends) zero f y x here free passes is same e =
    let one : h ≡ f = cc in
    condemned_here (not f.owned && test f) f y x kinds (condemnations test kinds slots ends) (and_true f.owned (test f) free passes) same
    (subst (λ z. slot_onto (condemnations test kinds (Some z ∷ slots) (None ∷ ends)) (Some y) ≡ Some x) one e)
condemned_at test kinds (Some h ∷ slots) (None ∷ ends) (suc tag) f y x here free passes is same e =
    condemned_by (not h.owned && test h) h y x kinds (condemnations test kinds slots ends)
    (λ z number later. condemned_at test kinds slots ends tag f z x here free passes is (number ∙ same) later) e

-- an issue without an end
pub record IsOpen (slots : List (Option InFlight)) (ends : List (Option Completion)) : Type 0 where
  pub tag : ℕ
  pub flight : InFlight
  pub here : flight_at slots tag ≡ Some flight
  pub unended : end_at ends tag ≡ None

later_open : (slot : Option InFlight) (end : Option Completion) (slots : List (Option InFlight)) (ends : List (Option Completion)) → IsOpen slots ends → IsOpen (slot ∷ slots) (end ∷ ends)
later_open slot end slots ends o = record { tag = suc o.tag; flight = o.flight; here = o.here; unended = o.unended }

-- where something is condemned an issue is without an end
pub some_open :
    (test : InFlight → Bool) (kinds : ErrMask) (slots : List (Option InFlight)) (ends : List (Option Completion)) (act : Act) (rest : List Act)
    → condemnations test kinds slots ends ≡ act ∷ rest → IsOpen slots ends
some_open test kinds [] ends act rest is = absurd (cc)
some_open test kinds (None ∷ slots) [] act rest is = absurd (cc)
some_open test kinds (Some h ∷ slots) [] act rest is = absurd (cc)
some_open test kinds (None ∷ slots) (end ∷ ends) act rest is = later_open None end slots ends (some_open test kinds slots ends act rest is)
some_open test kinds (Some h ∷ slots) (Some end ∷ ends) act rest is = later_open (Some h) (Some end) slots ends (some_open test kinds slots ends act rest is)
some_open test kinds (Some h ∷ slots) (None ∷ ends) act rest is = record { tag = 0; flight = h; here = refl; unended = refl }
