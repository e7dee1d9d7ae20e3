-- A picked issue is found by its number, where none is held twice.
use Rattle.std.proofs.Common.{◌≡◌, ◌≢◌, ℕ, ◌<◌, Bool, true, false, not, filter, List, [], ◌∷◌, ◌++◌, Option, None, Some, length, refl, sym, arith, if◌then◌else◌, ◌%◌}
use Rattle.std.proofs.lemmas.Bool.{eq-eqb, ne_eqb}
use Rattle.drive_model.specs.View.{DriveView}
use Rattle.drive_model.specs.declared.held.Held.{Held}
use Rattle.drive_model.specs.declared.queued_error.QueuedError.{QueuedError}
use Rattle.ata_base.specs.Each.{Each}
use Rattle.ata_base.proofs.EachLemmas.{every_append, every_filter, every_both, every_at}
use Rattle.drive_model.specs.Holding.{issue_of, workable, is_hung, picked, picked_of}
use Rattle.drive_model.specs.Single.{AreSingle}

pub apart_joined :
    (holds : List Held) (new : Held) → AreSingle holds → Each (λ g. g.number.n < new.number.n) holds → AreSingle (holds ++ new ∷ [])
apart_joined [] new apart below = (tt, tt)
apart_joined (h ∷ holds) new apart below = (
  every_append (λ g. g.number.n ≢ h.number.n) holds (new ∷ []) apart.0 ((λ e. omega (arith, e, below.0)), tt),
  apart_joined holds new apart.1 below.1,
)

apart_filter_by :
    (b : Bool) (h : Held) (rest : List Held) → Each (λ g. g.number.n ≢ h.number.n) rest → AreSingle rest → AreSingle (if b then h ∷ rest else rest)
apart_filter_by true h rest other apart = (other, apart)
apart_filter_by false h rest other apart = apart

pub apart_filter : (test : Held → Bool) (holds : List Held) → AreSingle holds → AreSingle (filter test holds)
apart_filter test [] apart = tt
apart_filter test (h ∷ holds) apart =
    apart_filter_by (test h) h (filter test holds) (every_filter (λ g. g.number.n ≢ h.number.n) test holds apart.0) (apart_filter test holds apart.1)

-- ---- what is picked

found_later :
    (h : Held) (rest : List Held) → Each (λ g. g.number.n ≢ h.number.n) rest → Each (λ g. issue_of g.number.n rest ≡ Some g) rest
    → Each (λ g. issue_of g.number.n (h ∷ rest) ≡ Some g) rest
found_later h rest other found =
    every_both (λ g. g.number.n ≢ h.number.n) (λ g. issue_of g.number.n rest ≡ Some g) (λ g. issue_of g.number.n (h ∷ rest) ≡ Some g)
    (λ g apart is. rw (ne_eqb h.number.n g.number.n (λ e. apart (sym e))) is) rest other found

found_each : (holds : List Held) → AreSingle holds → Each (λ g. issue_of g.number.n holds ≡ Some g) holds
found_each [] apart = tt
found_each (h ∷ holds) apart =
    (rw (eq-eqb h.number.n h.number.n refl) refl, found_later h holds apart.0 (found_each holds apart.1))

workable_each : (P : Held → Type 0) (stopped : Option QueuedError) (holds : List Held) → Each P holds → Each P (workable stopped holds)
workable_each P None holds all = every_filter P (λ h. not (is_hung h.assigned)) holds all
workable_each P (Some e) holds all = tt

pub picked_each : (P : Held → Type 0) (pick : ℕ) (holds : List Held) (h : Held) → Each P holds → picked_of pick holds ≡ Some h → P h
picked_each P pick [] h all is = absurd (cc)
picked_each P pick (g ∷ rest) h all is = every_at P (g ∷ rest) (pick % length (g ∷ rest)) h all is

-- a picked issue is found by its number
pub picked_found : (pick : ℕ) (v : DriveView) (h : Held) → AreSingle v.held → picked pick v ≡ Some h → issue_of h.number.n v.held ≡ Some h
picked_found pick v h apart is =
    picked_each (λ g. issue_of g.number.n v.held ≡ Some g) pick (workable v.stopped v.held) h
    (workable_each (λ g. issue_of g.number.n v.held ≡ Some g) v.stopped v.held (found_each v.held apart)) is
