-- A text that is written into a field is read from it.
use Rattle.std.proofs.Common.{◌≡◌, ℕ, suc, ◌+◌, ◌-◌, ◌<◌, ◌≤◌, ◌==◌, ◌&&◌, Bool, true, false, not, if◌then◌else◌, List, [], ◌∷◌, ◌++◌, length, get_or, replicate, map, refl, ap, arith, ◌∙◌, length-append}
use Rattle.std.specs.Prelude.{All}
use Rattle.std.specs.List.{list_all, suffix_len}
use Rattle.std.proofs.lemmas.Bool.{eq-eqb}
use Rattle.std.proofs.lemmas.Bool.Decides.{nat_tests}
use Rattle.std.proofs.lemmas.List.{get_or-append_right, get_or_append_left, get_or-replicate, length-replicate, take_at}
use Rattle.std.proofs.lemmas.List.Elements.{All-append, All-map, All-replicate, All-weaker}
use Rattle.std.proofs.lemmas.List.Folds.{map_fixed}
use Rattle.std.proofs.lemmas.List.Sums.{AllPass-from_list_all, suffix_len_is}
use Rattle.ata_ident.specs.Text.{is_plain, is_printable, pairs_swapped, padded_to, text_bytes, readable, without_padding, text_in}

pub length-pairs_swapped : (xs : List ℕ) → length (pairs_swapped xs) ≡ length xs
length-pairs_swapped [] = refl
length-pairs_swapped (a ∷ []) = refl
length-pairs_swapped (a ∷ b ∷ rest) = ap (λ n. suc (suc n)) (length-pairs_swapped rest)

pub pairs_swapped-pairs_swapped : (xs : List ℕ) → pairs_swapped (pairs_swapped xs) ≡ xs
pairs_swapped-pairs_swapped [] = refl
pairs_swapped-pairs_swapped (a ∷ []) = refl
pairs_swapped-pairs_swapped (a ∷ b ∷ rest) = ap (λ xs. a ∷ b ∷ xs) (pairs_swapped-pairs_swapped rest)

-- what is read is ASCII
readable_below : (byte : ℕ) → readable byte < 128
readable_below byte = grind (arith, nat_tests)

pub AllAscii-map-readable : (xs : List ℕ) → All (λ b. b < 128) (map readable xs)
AllAscii-map-readable xs = All-map (λ b. b < 128) readable xs (λ k d h. readable_below (get_or xs k d))

-- a printable character is read as it is
readable-printable : (byte : ℕ) → is_printable byte ≡ true → readable byte ≡ byte
readable-printable byte h = ap (λ b. if b then byte else 63) h

-- the two parts of a plain text
both : (a b : Bool) → (a && b) ≡ true → (a ≡ true) × (b ≡ true)
both true b h = (refl, h)
both false b h = absurd (cc)

not_true : (b : Bool) → not b ≡ true → b ≡ false
not_true true h = absurd (cc)
not_true false h = refl

pub length-padded_to : (width : ℕ) (text : List ℕ) → length text ≤ width → length (padded_to width text) ≡ width
length-padded_to width text h =
    let spaces : length (replicate (width - length text) 32) ≡ width - length text = length-replicate (width - length text) 32 in
    let all : length text + (width - length text) ≡ width = omega arith in
    length-append text (replicate (width - length text) 32) ∙ ap (λ n. length text + n) spaces ∙ all

padding : (text : List ℕ) (m k : ℕ) → length text ≤ k → k < length text + m → get_or (text ++ replicate m 32) k 0 ≡ 32
padding text m k low high =
    get_or-append_right text (replicate m 32) (length text) k 0 refl low ∙ get_or-replicate m (k - length text) 32 0 (omega arith)

last_kept : (text : List ℕ) (m : ℕ) → is_plain text ≡ true → 0 < length text
    → (get_or (text ++ replicate m 32) (length text - 1) 0 == 32) ≡ false
last_kept text m plain h =
    let within : length text - 1 < length text = omega arith in
    let same : get_or (text ++ replicate m 32) (length text - 1) 0 ≡ get_or text (length text - 1) 0 = get_or_append_left text (replicate m 32) 0 (length text - 1) within in
    ap (λ b. b == 32) same ∙ not_true (get_or text (length text - 1) 0 == 32) (both (list_all is_printable text) _ plain).1

without_padding-plain : (text : List ℕ) (m : ℕ) → is_plain text ≡ true → without_padding (text ++ replicate m 32) ≡ text
without_padding-plain text m plain =
    let whole : length (text ++ replicate m 32) ≡ length text + m = length-append text (replicate m 32) ∙ ap (λ n. length text + n) (length-replicate m 32) in
    let spaces : suffix_len (λ byte. byte == 32) (text ++ replicate m 32) ≡ length (text ++ replicate m 32) - length text =
    suffix_len_is (λ byte. byte == 32) (text ++ replicate m 32) (length text) 0 (omega arith)
    (λ k low high. eq-eqb _ 32 (padding text m k low (omega arith)))
    (λ h. last_kept text m plain h) in
    let kept : length (text ++ replicate m 32) - suffix_len (λ byte. byte == 32) (text ++ replicate m 32) ≡ length text = omega arith in
    rw kept (take_at text (replicate m 32) (length text) refl)

map-readable-plain : (text : List ℕ) (m : ℕ) → is_plain text ≡ true → map readable (text ++ replicate m 32) ≡ text ++ replicate m 32
map-readable-plain text m plain =
    map_fixed readable (text ++ replicate m 32)
    (All-append (λ b. readable b ≡ b) text (replicate m 32)
    (All-weaker (λ b. is_printable b ≡ true) (λ b. readable b ≡ b) readable-printable text
    (AllPass-from_list_all is_printable text (both (list_all is_printable text) _ plain).0))
    (All-replicate (λ b. readable b ≡ b) m 32 refl))

pub length-text_bytes : (width : ℕ) (text : List ℕ) → length text ≤ width → length (text_bytes width text) ≡ width
unfolding text_bytes
length-text_bytes width text h = length-pairs_swapped (padded_to width text) ∙ length-padded_to width text h

pub text_in-text_bytes : (width : ℕ) (text : List ℕ) → is_plain text ≡ true → text_in (text_bytes width text) ≡ text
unfolding text_bytes text_in
text_in-text_bytes width text plain =
    let m : ℕ = width - length text in
    ap (λ xs. without_padding (map readable xs)) (pairs_swapped-pairs_swapped (padded_to width text))
    ∙ ap without_padding (map-readable-plain text m plain)
    ∙ without_padding-plain text m plain
