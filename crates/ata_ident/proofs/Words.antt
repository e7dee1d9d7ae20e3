-- What the numbers of a page are read as.
use Rattle.std.proofs.Common.{◌≡◌, ℕ, zero, suc, ◌+◌, ◌-◌, ◌^◌, ◌%◌, ◌<◌, ◌≤◌, ◌==◌, Bool, true, false, not, if◌then◌else◌, refl, ap, arith, ◌∙◌}
use Rattle.std.proofs.lemmas.Bool.{ne_eqb}
use Rattle.ata_ident.specs.Build.{capabilities}
use Rattle.ata_ident.specs.Read.{has_bit}

-- the generation that capabilities tell of
abbrev pub generation_of : ℕ → ℕ
generation_of word = if has_bit word 3 then 3 else if has_bit word 2 then 2 else 1

-- the depth that capabilities and a stored depth tell of
abbrev pub depth_of : ℕ → ℕ → ℕ
depth_of word stored = if has_bit word 8 then stored % 32 + 1 else 0

-- what a word tells of, that is made for a generation and for a drive without a queue or with one
record Tells (none : Bool) (g word : ℕ) : Type 0 where
  generation : generation_of word ≡ g
  queue : has_bit word 8 ≡ not none
  fits : word < 256 ^ 2

tells : (none : Bool) (g : ℕ) → 1 ≤ g → g ≤ 3 → Tells none g ((if none then 0 else 256) + (2 ^ (g + 1) - 2))
tells none zero low high = absurd (omega arith)
tells true (suc zero) low high = record { generation = refl; queue = refl; fits = omega arith }
tells false (suc zero) low high = record { generation = refl; queue = refl; fits = omega arith }
tells true (suc (suc zero)) low high = record { generation = refl; queue = refl; fits = omega arith }
tells false (suc (suc zero)) low high = record { generation = refl; queue = refl; fits = omega arith }
tells true (suc (suc (suc zero))) low high = record { generation = refl; queue = refl; fits = omega arith }
tells false (suc (suc (suc zero))) low high = record { generation = refl; queue = refl; fits = omega arith }
tells none (suc (suc (suc (suc g)))) low high = absurd (omega arith)

pub generation_of-capabilities : (depth g : ℕ) → 1 ≤ g → g ≤ 3 → generation_of (capabilities depth g) ≡ g
generation_of-capabilities depth g low high = (tells (depth == 0) g low high).generation

pub capabilities-fits : (depth g : ℕ) → 1 ≤ g → g ≤ 3 → capabilities depth g < 256 ^ 2
capabilities-fits depth g low high = (tells (depth == 0) g low high).fits

-- the depth, by whether there is a queue
depth_by : (depth : ℕ) → depth ≤ 32 → (if not (depth == 0) then (depth - 1) % 32 + 1 else 0) ≡ depth
depth_by zero most = refl
depth_by (suc d) most =
    let some : (suc d == 0) ≡ false = ne_eqb (suc d) 0 (λ e. omega arith) in
    let same : (suc d - 1) % 32 + 1 ≡ suc d = omega arith in
    ap (λ b. if not b then (suc d - 1) % 32 + 1 else 0) some ∙ same

pub depth_of-capabilities : (depth g : ℕ) → 1 ≤ g → g ≤ 3 → depth ≤ 32 → depth_of (capabilities depth g) (depth - 1) ≡ depth
depth_of-capabilities depth g low high most =
    ap (λ b. if b then (depth - 1) % 32 + 1 else 0) (tells (depth == 0) g low high).queue ∙ depth_by depth most
