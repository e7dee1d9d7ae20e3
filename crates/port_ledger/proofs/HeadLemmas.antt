-- The drives of a head, and their links when the port boots.
use Rattle.std.proofs.Common.{◌≡◌, ◌≢◌, ◌∙◌, ℕ, suc, ◌+◌, ◌-◌, ◌<◌, ◌==◌, Bool, true, false, List, [], ◌∷◌, below_more, length, get_or, map, slice_set, refl, arith}
use Rattle.std.specs.Prelude.{All}
use Rattle.std.specs.List.{list_all}
use Rattle.std.proofs.Math.Logic.{∥∥₁_elim}
use Rattle.std.proofs.lemmas.Bool.Decides.{nat_tests}
use Rattle.std.proofs.lemmas.List.{get_or-set_same, get_or-set_other}
use Rattle.std.proofs.lemmas.List.FromFn.{fill_by_all}
use Rattle.ata_ident.specs.Build.{FitsPage}
use Rattle.ata_ident.specs.Text.{is_plain, is_printable}
use Rattle.ata_script.specs.declared.drive_head.DriveHead.{DriveHead}
use Rattle.ata_trace.specs.Names.{IsNameCharacter, IsDriveName}
use Rattle.link_model.specs.LinkView.{LinkView, empty_link}
use Rattle.port_past.specs.Links.{link_at_boot}
use Rattle.port_past.specs.Places.{all_places}

printable : (c : ℕ) → IsNameCharacter c → is_printable c ≡ true
printable c h = grind (arith, nat_tests, h)

no_space : (c : ℕ) → IsNameCharacter c → (c == 32) ≡ false
no_space c h = grind (arith, nat_tests, h)

all_printable : (w : List ℕ) → All IsNameCharacter w → list_all is_printable w ≡ true
all_printable [] h = refl
all_printable (c ∷ w) h = rw (printable c (h 0 0 (omega arith))) (all_printable w (λ k d l. h (suc k) d (omega (arith, l))))

-- a name can stand on a page
plain_name : (w : List ℕ) → IsDriveName w → is_plain w ≡ true
plain_name w h =
    let last : (get_or w (length w - 1) 0 == 32) ≡ false = no_space _ (h.1 (length w - 1) 0 (omega (arith, h.0))) in
    rw (all_printable w h.1, last) refl

by_cases : (b : Bool) → (b ≡ false → ⊥) → b ≡ true
by_cases true never = refl
by_cases false never = absurd (never refl)

⊥_once : (a b : ⊥) → a ≡ b
⊥_once a b = absurd a

-- the identity of a drive of a head fits a page
pub fits_page : (h : DriveHead) → FitsPage h.identity
fits_page h = record {
  model = by_cases (is_plain h.identity.model) (λ no. ∥∥₁_elim h.model ⊥_once (λ name. let yes = plain_name h.identity.model name in cc));
  serial = by_cases (is_plain h.identity.serial) (λ no. ∥∥₁_elim h.serial ⊥_once (λ name. let yes = plain_name h.identity.serial name in cc));
  firmware = rw h.firmware refl;
  sectors = (omega (arith, h.some_sectors), omega (arith, h.most_sectors));
  depth = h.depth;
  generation = (h.first_generation, h.last_generation);
  modes = omega (arith, h.udma);
}

-- ---- links, made place by place

abbrev AreBooted : List DriveHead → List LinkView → ℕ → Type 0
AreBooted drives links at = (k : ℕ) → k < at → get_or links k empty_link ≡ link_at_boot drives k

-- one place more
pub booted_more : (drives : List DriveHead) (links : List LinkView) (at : ℕ) (link : LinkView) → at < length links → link ≡ link_at_boot drives at → AreBooted drives links at → AreBooted drives (slice_set links at link) (at + 1)
booted_more drives links at link within is booted =
    below_more (λ k. get_or (slice_set links at link) k empty_link ≡ link_at_boot drives k) at
    (λ k less. let other : k ≢ at = λ e. absurd (omega arith) in get_or-set_other links at k link empty_link other ∙ booted k less)
    (get_or-set_same links at link empty_link within ∙ is)

-- all places
pub booted_all : (drives : List DriveHead) (links : List LinkView) → length links ≡ 15 → AreBooted drives links 15 → links ≡ map (link_at_boot drives) all_places
booted_all drives links size booted = fill_by_all (link_at_boot drives) links 15 empty_link size booted
