-- What `build` writes is read back.
use Rattle.std.proofs.Common.{◌≡◌, ℕ, ◌+◌, ◌-◌, ◌*◌, ◌^◌, ◌%◌, ◌<◌, ◌≤◌, ◌==◌, ◌&&◌, Bool, true, false, not, List, [], ◌∷◌, ◌++◌, length, take, drop, refl, ap, arith, sym, ◌∙◌, sum, append_assoc}
use Rattle.std.specs.Prelude.{slice_range, slice_index, Ok}
use Rattle.std.proofs.lemmas.Bool.{ne_eqb}
use Rattle.std.proofs.lemmas.List.{drop-drop}
use Rattle.std.proofs.lemmas.List.Sums.{sum_by-append}
use Rattle.byteorder.specs.Endian.{little_number}
use Rattle.byteorder.specs.Numbers.{little_number-reads_back}
use Rattle.ata_base.specs.declared.identity.Identity.{Identity}
use Rattle.ata_lanes.specs.Sum.{byte_sum}
use Rattle.ata_ident.specs.Build.{FitsPage, blank_words, texts_part, numbers_part, capabilities, identity_page}
use Rattle.ata_ident.specs.Read.{word_at, has_bit, sectors_in, has_bad_sum, identity_in, reading_of}
use Rattle.ata_ident.specs.Text.{text_bytes, text_in}
use Rattle.ata_lanes.proofs.Sealing.{byte_sum-sealed}
use Rattle.ata_ident.proofs.Parts.{Parts, parts}
use Rattle.ata_ident.proofs.Texts.{length-text_bytes, text_in-text_bytes}
use Rattle.ata_ident.proofs.Words.{generation_of-capabilities, depth_of-capabilities, capabilities-fits}

-- words 47 to 255
abbrev behind : Identity → ℕ → List ℕ
behind i check = numbers_part i ++ 165 ∷ check ∷ []

-- the numbers, where their words are counted from word 47 on
stored_depth : (i : Identity) (check : ℕ) → i.depth ≤ 32 → word_at (behind i check) 28 ≡ i.depth - 1
unfolding blank_words
stored_depth i check h = little_number-reads_back 2 (i.depth - 1) (drop 58 (behind i check)) (omega arith)

stored_capabilities : (i : Identity) (check : ℕ) → 1 ≤ i.gen_no → i.gen_no ≤ 3 → word_at (behind i check) 29 ≡ capabilities i.depth i.gen_no
unfolding blank_words
stored_capabilities i check low high =
    little_number-reads_back 2 (capabilities i.depth i.gen_no) (drop 60 (behind i check)) (capabilities-fits i.depth i.gen_no low high)

stored_addressing : (i : Identity) (check : ℕ) → word_at (behind i check) 36 ≡ 17408
unfolding blank_words
stored_addressing i check = refl

stored_modes : (i : Identity) (check : ℕ) → i.udma < 128 → word_at (behind i check) 41 ≡ i.udma
unfolding blank_words
stored_modes i check h = little_number-reads_back 2 i.udma (drop 84 (behind i check)) (omega arith)

stored_sectors : (i : Identity) (check : ℕ) → i.sectors < 2 ^ 48 → little_number 8 (slice_range (behind i check) 106 114) ≡ i.sectors
unfolding blank_words
stored_sectors i check h = little_number-reads_back 8 i.sectors [] (omega arith)

-- the same in the page
word_behind : (page rest : List ℕ) (k : ℕ) → drop 94 page ≡ rest → word_at page (47 + k) ≡ word_at rest k
word_behind page rest k e =
    let place : 2 * (47 + k) ≡ 94 + 2 * k = omega arith in
    let same : drop (2 * (47 + k)) page ≡ drop (2 * k) rest = ap (λ n. drop n page) place ∙ sym (drop-drop (2 * k) 94 page) ∙ ap (λ xs. drop (2 * k) xs) e in
    ap (λ xs. little_number 2 xs) same

sectors_behind : (page rest : List ℕ) → drop 94 page ≡ rest → sectors_in page ≡ little_number 8 (slice_range rest 106 114)
sectors_behind page rest e = ap (λ xs. little_number 8 (take 8 xs)) (sym (drop-drop 106 94 page) ∙ ap (λ xs. drop 106 xs) e)

and_false : (b : Bool) → (b && false) ≡ false
and_false true = refl
and_false false = refl

-- a page of these facts is read as the identity in it
read_from : (page : List ℕ) → byte_sum page ≡ 0 → word_at page 83 ≡ 17408 → 0 < sectors_in page → reading_of page ≡ Ok (identity_in page)
unfolding reading_of
read_from page sum wide some =
    let good : has_bad_sum page ≡ false = ap (λ n. (slice_index page 510 == 165) && not (n == 0)) sum ∙ and_false _ in
    let bit : has_bit (word_at page 83) 10 ≡ true = ap (λ word. has_bit word 10) wide in
    let sectors : (sectors_in page == 0) ≡ false = ne_eqb (sectors_in page) 0 (λ e. omega arith) in
    rw (good, bit, sectors) refl

same_identity : (a b : Identity) → a.model ≡ b.model → a.serial ≡ b.serial → a.firmware ≡ b.firmware → a.sectors ≡ b.sectors
    → a.depth ≡ b.depth → a.gen_no ≡ b.gen_no → a.udma ≡ b.udma → a ≡ b
same_identity a b m s f n d g u = λ j. record { model = m j; serial = s j; firmware = f j; sectors = n j; depth = d j; gen_no = g j; udma = u j }

page_parts : (i : Identity) → identity_page i ≡ texts_part i ++ behind i ((256 - byte_sum ((texts_part i ++ numbers_part i) ++ 165 ∷ [])) % 256)
unfolding identity_page
page_parts i = simp append_assoc

sum_of_page : (i : Identity) → byte_sum (identity_page i) ≡ 0
unfolding identity_page
sum_of_page i = byte_sum-sealed ((texts_part i ++ numbers_part i) ++ 165 ∷ [])

pub reading_of-identity_page : (i : Identity) → FitsPage i
    → (length i.model ≤ 40) × (length i.serial ≤ 20) × (length i.firmware ≤ 8)
    → reading_of (identity_page i) ≡ Ok i
reading_of-identity_page i fits short =
    let page : List ℕ = identity_page i in
    let check : ℕ = (256 - byte_sum ((texts_part i ++ numbers_part i) ++ 165 ∷ [])) % 256 in
    let found : Parts (text_bytes 20 i.serial) (text_bytes 8 i.firmware) (text_bytes 40 i.model) (behind i check) page =
    rw page_parts (parts _ _ _ (behind i check) (length-text_bytes 20 i.serial short.1) (length-text_bytes 8 i.firmware short.2) (length-text_bytes 40 i.model short.0)) in
    let low : 1 ≤ i.gen_no = fits.generation.0 in
    let high : i.gen_no ≤ 3 = fits.generation.1 in
    let depth_word : word_at page 75 ≡ i.depth - 1 = word_behind page _ 28 found.rest_at ∙ stored_depth i check fits.depth in
    let capability_word : word_at page 76 ≡ capabilities i.depth i.gen_no = word_behind page _ 29 found.rest_at ∙ stored_capabilities i check low high in
    let addressing : word_at page 83 ≡ 17408 = word_behind page _ 36 found.rest_at ∙ stored_addressing i check in
    let modes : word_at page 88 ≡ i.udma = word_behind page _ 41 found.rest_at ∙ stored_modes i check fits.modes in
    let sectors : sectors_in page ≡ i.sectors = sectors_behind page _ found.rest_at ∙ stored_sectors i check fits.sectors.1 in
    let same : identity_in page ≡ i =
    same_identity (identity_in page) i
    (ap text_in found.model_at ∙ text_in-text_bytes 40 i.model fits.model)
    (ap text_in found.serial_at ∙ text_in-text_bytes 20 i.serial fits.serial)
    (ap text_in found.firmware_at ∙ text_in-text_bytes 8 i.firmware fits.firmware)
    sectors
    (rw (capability_word, depth_word) (depth_of-capabilities i.depth i.gen_no low high fits.depth))
    (rw capability_word (generation_of-capabilities i.depth i.gen_no low high))
    (rw modes (omega arith)) in
    read_from page (sum_of_page i) addressing (rw sectors fits.sectors.0) ∙ ap (λ found. Ok found) same
