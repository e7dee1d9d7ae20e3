-- One drive more at a port.
use Rattle.std.proofs.Common.{arith, ◌≡◌, ℕ, zero, suc, ◌<◌, ◌≤◌, length-append, Bool, true, false, not, ◌&&◌, ◌||◌, List, [], ◌∷◌, ◌++◌, length, refl, sym, ◌∙◌, ap}
use Rattle.std.specs.Prelude.{Option, Some, None, Result, Ok, Err, map, nat_eq, slice_get, slice_index_or, slice_set, OnOk, OnErr}
use Rattle.std.proofs.lemmas.Bool.Decides.{nat_tests}
use Rattle.ata_script.specs.Draft.{places_of, is_next_drive, with_drive}
use Rattle.ata_script.specs.DrivePlaces.{drive_places}
use Rattle.ata_script.specs.Drafts.{AddsDrive, AddsAt}
use Rattle.ata_script.specs.Heads.{drive_said, port_said}
use Rattle.ata_script.specs.Places.{is_place, is_taken, is_within, is_free, are_within, are_apart}
use Rattle.ata_script.specs.declared.drive_head.DriveHead.{DriveHead}
use Rattle.ata_script.specs.declared.port_head.PortHead.{PortHead}
use Rattle.ata_script.specs.declared.refusal.Refusal.{Refusal}
use Rattle.ata_script.specs.declared.refusal.Refusal.TheVariants.{Rule, Memory}
use Rattle.ata_script.proofs.Forms.{both}

pub said_places : (drives : List DriveHead) → places_of (map drive_said drives) ≡ drive_places drives
said_places [] = refl
said_places (drive ∷ rest) = ap (λ places. drive.place ∷ places) (said_places rest)

pub said_count : (drives : List DriveHead) → length (map drive_said drives) ≡ length drives
said_count [] = refl
said_count (drive ∷ rest) = ap suc (said_count rest)

pub said_more : (drives : List DriveHead) (drive : DriveHead) → map drive_said (drives ++ drive ∷ []) ≡ map drive_said drives ++ drive_said drive ∷ []
said_more [] drive = refl
said_more (first ∷ rest) drive = ap (λ more. drive_said first ∷ more) (said_more rest drive)

pub places_more : (drives : List DriveHead) (drive : DriveHead) → drive_places (drives ++ drive ∷ []) ≡ drive_places drives ++ drive.place ∷ []
places_more [] drive = refl
places_more (first ∷ rest) drive = ap (λ more. first.place ∷ more) (places_more rest drive)

or_false : (a : Bool) → (a || false) ≡ a
or_false true = refl
or_false false = refl

or_assoc : (a b c : Bool) → (a || (b || c)) ≡ ((a || b) || c)
or_assoc true b c = refl
or_assoc false b c = refl

not_or : (a b : Bool) → not (a || b) ≡ true → (a ≡ false) × (b ≡ false)
not_or true b e = cc e
not_or false true e = cc e
not_or false false e = (refl, refl)

taken_more : (x : ℕ) (places : List (Option ℕ)) (place : Option ℕ) → is_taken x (places ++ place ∷ []) ≡ (is_taken x places || is_place x place)
taken_more x [] place = or_false (is_place x place)
taken_more x (first ∷ rest) place = ap (λ b. is_place x first || b) (taken_more x rest place) ∙ or_assoc (is_place x first) (is_taken x rest) (is_place x place)

pub within_more : (n : ℕ) (places : List (Option ℕ)) (place : Option ℕ) → are_within n places ≡ true → is_within n place ≡ true → are_within n (places ++ place ∷ []) ≡ true
within_more n [] place all one = rw one refl
within_more n (first ∷ rest) place all one =
    let b = both (is_within n first) (are_within n rest) all in
    rw (b.0, within_more n rest place b.1 one) refl

differs : (x y : ℕ) → nat_eq y x ≡ false → nat_eq x y ≡ false
differs x y e = grind (arith, nat_tests, e)

-- a place that is free beside some is free beside one more that it isn't
free_more : (places : List (Option ℕ)) (x : Option ℕ) (place : Option ℕ) → is_free places x ≡ true → is_free (x ∷ places) place ≡ true → is_free (places ++ place ∷ []) x ≡ true
free_more places None place f g = refl
free_more places (Some x) None f g = rw (taken_more x places None, or_false (is_taken x places)) f
free_more places (Some x) (Some y) f g =
    let apart : nat_eq x y ≡ false = differs x y (not_or (nat_eq y x) (is_taken y places) g).0 in
    rw (taken_more x places (Some y), apart, or_false (is_taken x places)) f

free_rest : (places : List (Option ℕ)) (first place : Option ℕ) → is_free (first ∷ places) place ≡ true → is_free places place ≡ true
free_rest places first None g = refl
free_rest places first (Some y) g = rw (not_or (is_place y first) (is_taken y places) g).1 refl

pub apart_more : (places : List (Option ℕ)) (place : Option ℕ) → are_apart places ≡ true → is_free places place ≡ true → are_apart (places ++ place ∷ []) ≡ true
apart_more [] None all one = refl
apart_more [] (Some y) all one = refl
apart_more (first ∷ rest) place all one =
    let b = both (is_free rest first) (are_apart rest) all in
    rw (free_more rest first place b.0 one, apart_more rest place b.1 (free_rest rest first place one)) refl

-- what the test of the next drive says
pub record IsNext (port : PortHead) (number : ℕ) (place : Option ℕ) : Type 0 where
  pub count : number ≡ length port.drives
  pub within : is_within port.places place ≡ true
  pub free : is_free (drive_places port.drives) place ≡ true

pub next_is : (port : PortHead) (number : ℕ) (place : Option ℕ) → is_next_drive (Some (port_said port)) number place ≡ true → IsNext port number place
next_is port number place e =
    let one = both (nat_eq number (length (map drive_said port.drives))) (is_within port.places place && is_free (places_of (map drive_said port.drives)) place) e in
    let two = both (is_within port.places place) (is_free (places_of (map drive_said port.drives)) place) one.1 in
    let same : number ≡ length (map drive_said port.drives) = grind (arith, nat_tests, one.0) in
    record { count = same ∙ said_count port.drives; within = two.0; free = ap (λ places. is_free places place) (sym (said_places port.drives)) ∙ two.1 }

-- a drive was pushed, or it found no room: where the drives of the port stand then

pub record Stand (places : ℕ) (drives : List DriveHead) : Type 0 where
  pub few : length drives ≤ 32
  pub standing : are_within places (drive_places drives) ≡ true
  pub apart : are_apart (drive_places drives) ≡ true

pub pushed : {A E : Type 0} (port : PortHead) (number : ℕ) (drive : DriveHead) (next : List DriveHead) (result : Result A E) → number < 32 → IsNext port number drive.place
    → OnOk result (next ≡ port.drives ++ drive ∷ []) → OnErr result (next ≡ port.drives) → Stand port.places next
pushed port number drive next (Ok done) small is ok err = record {
  few = omega (arith, small, is.count, ap length ok, length-append port.drives (drive ∷ []));
  standing = ap (λ drives. are_within port.places (drive_places drives)) ok ∙ ap (are_within port.places) (places_more port.drives drive)
      ∙ within_more port.places (drive_places port.drives) drive.place port.standing is.within;
  apart = ap (λ drives. are_apart (drive_places drives)) ok ∙ ap are_apart (places_more port.drives drive) ∙ apart_more (drive_places port.drives) drive.place port.apart is.free;
}
pushed port number drive next (Err e) small is ok err = record {
  few = omega (arith, port.few_drives, ap length err);
  standing = ap (λ drives. are_within port.places (drive_places drives)) err ∙ port.standing;
  apart = ap (λ drives. are_apart (drive_places drives)) err ∙ port.apart;
}

-- one drive more at one of several ports

pub there : (ports : List PortHead) (at : ℕ) (port : PortHead) → at < length ports → port ≡ slice_index_or ports at port → slice_get ports at ≡ Some port
there [] at port within is = absurd (omega (arith, within))
there (first ∷ rest) zero port within is = ap (λ p. Some p) (sym is)
there (first ∷ rest) (suc at) port within is = there rest at port (omega (arith, within)) is

get_said : (ports : List PortHead) (at : ℕ) (port : PortHead) → slice_get ports at ≡ Some port → slice_get (map port_said ports) at ≡ Some (port_said port)
get_said [] at port e = cc e
get_said (first ∷ rest) zero port e = let same : first ≡ port = cc in ap (λ p. Some (port_said p)) same
get_said (first ∷ rest) (suc at) port e = get_said rest at port e

set_said : (ports : List PortHead) (at : ℕ) (port next : PortHead) (drive : DriveHead) → slice_get ports at ≡ Some port
    → port_said next ≡ record (port_said port) { drives = (port_said port).drives ++ drive_said drive ∷ [] }
    → map port_said (slice_set ports at next) ≡ with_drive at (drive_said drive) (map port_said ports)
set_said [] at port next drive e n = cc e
set_said (first ∷ rest) zero port next drive e n =
    let same : first ≡ port = cc in
    ap (λ p. p ∷ map port_said rest) (n ∙ ap (λ p. record (port_said p) { drives = (port_said p).drives ++ drive_said drive ∷ [] }) (sym same))
set_said (first ∷ rest) (suc at) port next drive e n = ap (λ more. port_said first ∷ more) (set_said rest at port next drive e n)

pub added_at : {A : Type 0} (ports : List PortHead) (at : ℕ) (port next : PortHead) (number : ℕ) (drive : DriveHead) (result : Result A Refusal)
    → slice_get ports at ≡ Some port → AddsDrive port next number drive result → AddsAt ports (slice_set ports at next) at number drive result
added_at ports at port next number drive (Ok done) e adds =
    (ap (λ p. is_next_drive p number drive.place) (get_said ports at port e) ∙ adds.0, set_said ports at port next drive e adds.1)
added_at ports at port next number drive (Err (Rule rule)) e adds =
    (ap (λ p. is_next_drive p number drive.place) (get_said ports at port e) ∙ adds.0, adds.1)
added_at ports at port next number drive (Err Memory) e adds = tt
