-- Commands found by their numbers, and what a retry leaves of them.
use Rattle.std.proofs.Common.{◌≡◌, ℕ, Bool, true, false, ◌||◌, ◌==◌, cond, List, [], ◌∷◌, None, Some, map, refl, if◌then◌else◌, ◌<◌, Option, subst}
use Rattle.std.proofs.lemmas.Bool.{eqb-true}
use Rattle.ata_base.specs.declared.cmd.Cmd.{Cmd}
use Rattle.port_past.specs.Commands.{command_of, counted, is_accepted}
use Rattle.ata_base.specs.Each.{Each}

-- a number that no command was accepted under finds none
pub not_found : (id : ℕ) (was : List Cmd) → is_accepted id was ≡ false → command_of id was ≡ None
not_found id [] none = refl
not_found id (c ∷ was) none = not_by (c.id == id) none (λ later. not_found id was later)
  where
    not_by : (b : Bool) → (b || is_accepted id was) ≡ false → (is_accepted id was ≡ false → command_of id was ≡ None) → cond b (Some c) (command_of id was) ≡ None
    not_by true is later = absurd (cc)
    not_by false is later = later is

found_by : (here : Bool) (b : Cmd) (rest : Option Cmd) (c : Cmd) (id : ℕ) → cond here (Some b) rest ≡ Some c
    → (here ≡ true → b.id ≡ id) → (rest ≡ Some c → c.id ≡ id) → c.id ≡ id
found_by true b rest c id is one other = let same : b ≡ c = cc in subst (λ x. x.id ≡ id) same (one refl)
found_by false b rest c id is one other = other is

-- the command that is found by a number has it
pub found_id : (id : ℕ) (was : List Cmd) (c : Cmd) → command_of id was ≡ Some c → c.id ≡ id
found_id id [] c is = absurd (cc)
found_id id (b ∷ was) c is = found_by (b.id == id) b (command_of id was) c id is (eqb-true b.id id) (found_id id was c)

places_counted_by :
    (places : ℕ) (b raised : Bool) (c : Cmd) (rest : List Cmd) → c.place < places → Each (λ c. c.place < places) rest
    → Each (λ c. c.place < places) ((if b then counted raised c else c) ∷ rest)
places_counted_by places true raised c rest one all = (one, all)
places_counted_by places false raised c rest one all = (one, all)

-- a retry leaves the places of the commands
pub places_counted :
    (places other : ℕ) (raised : Bool) (was : List Cmd) → Each (λ c. c.place < places) was
    → Each (λ c. c.place < places) (map (λ c. if c.id == other then counted raised c else c) was)
places_counted places other raised [] all = tt
places_counted places other raised (c ∷ was) all =
    places_counted_by places (c.id == other) raised c _ all.0 (places_counted places other raised was all.1)
