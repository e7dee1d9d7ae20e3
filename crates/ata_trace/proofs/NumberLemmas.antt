-- The digits that a text begins with.
use Rattle.std.proofs.Common.{◌≡◌, ℕ, ◌+◌, ◌*◌, ◌-◌, ◌/◌, ◌%◌, ◌^◌, ◌<◌, ◌≤◌, ◌==◌, List, [], ◌∷◌, ◌++◌, length, drop, get_or, refl, sym, ap, ◌∙◌, arith, tests, append_assoc, append-nil, take, false}
use Rattle.std.specs.Prelude.{All, Some, slice_get, slice_index}
use Rattle.std.proofs.lemmas.List.{drop_more, get_or_default, take_rest, drop_all}
use Rattle.std.specs.Fmt.{decimal}
use Rattle.std.specs.Int.{IsInRange}
use Rattle.std.specs.Str.Parse.{AllDigits}
use Rattle.std.proofs.lemmas.Fmt.{decimal_digit, decimal_step, decimal_is_IsNumeral}
use Rattle.std.proofs.lemmas.Str.Parse.{digit_at}
use Rattle.std.proofs.lemmas.List.Splits.{slice_split_at, slice_split_none}
use Rattle.ata_trace.specs.Parts.{parts_of}

-- a digit that follows a number is its last
pub one_more : (n d : ℕ) (rest : List ℕ) → 0 < n → 48 ≤ d → d ≤ 57 → 10 * n + (d - 48) < 2 ^ 64 → decimal (10 * n + (d - 48)) ++ rest ≡ decimal n ++ d ∷ rest
one_more n d rest some low high fits =
    let front : (10 * n + (d - 48)) / 10 ≡ n = omega arith in
    let last : 48 + (10 * n + (d - 48)) % 10 ≡ d = omega arith in
    rw (decimal_step (10 * n + (d - 48)) (omega arith) fits, front, last, append_assoc) refl

-- a digit alone
pub one_alone : (d : ℕ) → 48 ≤ d → d ≤ 57 → decimal (d - 48) ≡ d ∷ []
one_alone d low high = let same : 48 + (d - 48) ≡ d = omega arith in rw (decimal_digit (d - 48) (omega arith), same) refl

-- no digit is a cut
uncut : (cut : ℕ) → cut < 48 → (ds : List ℕ) → AllDigits 10 ds → All (λ b. (b == cut) ≡ false) ds
uncut cut low ds all = λ k d within.
    let same : get_or ds k d ≡ get_or ds k 0 = get_or_default ds k d 0 within in
    let is : IsInRange 48 57 (get_or ds k 0) = digit_at ds k all within in
    rw same (grind (arith, tests, is.0))

pub number_alone : (cut n : ℕ) → cut < 48 → n < 2 ^ 64 → parts_of cut (decimal n) ≡ decimal n ∷ []
number_alone cut n low fits = slice_split_none (λ b. b == cut) (decimal n) (uncut cut low (decimal n) (decimal_is_IsNumeral n fits).0.1)

pub number_first : (cut n : ℕ) (rest : List ℕ) → cut < 48 → n < 2 ^ 64 → parts_of cut (decimal n ++ cut ∷ rest) ≡ decimal n ∷ parts_of cut rest
number_first cut n rest low fits = slice_split_at (λ b. b == cut) (decimal n) cut rest (uncut cut low (decimal n) (decimal_is_IsNumeral n fits).0.1) (grind (arith, tests))

-- the first digit of a text is a number
pub begun : (text : List ℕ) (d n : ℕ) → Some d ≡ slice_get text 0 → 48 ≤ d → d ≤ 57 → n ≡ d - 48 → (decimal n ++ drop 1 text ≡ text) × (1 ≤ length text)
begun [] d n is low high here = absurd (cc)
begun (e ∷ es) d n is low high here =
    let same : e ≡ d = cc in
    (rw (here, one_alone d low high, same) refl, omega arith)

-- and a digit more is a longer one
pub going : (text : List ℕ) (at n m : ℕ) → at < length text → 48 ≤ slice_index text at → slice_index text at ≤ 57 → 0 < n → m ≡ 10 * n + (slice_index text at - 48) → m < 2 ^ 64 → decimal n ++ drop at text ≡ text → (decimal m ++ drop (at + 1) text ≡ text) × (at + 1 ≤ length text)
going text at n m within low high some here fits was =
    (rw here (one_more n (slice_index text at) (drop (at + 1) text) some low high (rw here at fits) ∙ ap (λ rest. decimal n ++ rest) (sym (drop_more text at 0 within)) ∙ was), omega arith)

-- the first part of a text that begins with a number is the number, where the text ends behind it
pub first_alone : (cut n at : ℕ) (text : List ℕ) → cut < 48 → n < 2 ^ 64 → at ≡ length text → decimal n ++ drop at text ≡ text → parts_of cut text ≡ decimal n ∷ []
first_alone cut n at text low fits end is =
    let alone : text ≡ decimal n = sym is ∙ ap (λ rest. decimal n ++ rest) (drop_all at text (omega arith)) ∙ append-nil (decimal n) in
    rw alone (number_alone cut n low fits)

-- or a cut stands there
pub first_cut : (cut n at : ℕ) (text : List ℕ) → cut < 48 → n < 2 ^ 64 → at < length text → slice_index text at ≡ cut → decimal n ++ drop at text ≡ text → parts_of cut text ≡ decimal n ∷ parts_of cut (take (length text - (at + 1)) (drop (at + 1) text))
first_cut cut n at text low fits within here is =
    let split : text ≡ decimal n ++ cut ∷ drop (at + 1) text = sym is ∙ ap (λ rest. decimal n ++ rest) (drop_more text at 0 within ∙ ap (λ c. c ∷ drop (at + 1) text) here) in
    rw (take_rest text (at + 1)) (ap (parts_of cut) split ∙ number_first cut n (drop (at + 1) text) low fits)

-- the first part of a text that begins with a digit is that digit, where the text ends behind it
pub digit_ends : (cut : ℕ) (text : List ℕ) → cut < 48 → 48 ≤ slice_index text 0 → slice_index text 0 ≤ 57 → length text ≡ 1
    → parts_of cut text ≡ decimal (slice_index text 0 - 48) ∷ []
digit_ends cut [] low least most end = absurd (omega (arith, end))
digit_ends cut (d ∷ rest) low least most end = first_alone cut (d - 48) 1 (d ∷ rest) low (omega (arith, most)) (sym end) (rw (one_alone d least most) refl)

-- or a cut stands there
pub digit_cut : (cut : ℕ) (text : List ℕ) → cut < 48 → 48 ≤ slice_index text 0 → slice_index text 0 ≤ 57 → 1 < length text → slice_index text 1 ≡ cut
    → parts_of cut text ≡ decimal (slice_index text 0 - 48) ∷ parts_of cut (take (length text - 2) (drop 2 text))
digit_cut cut [] low least most more here = absurd (omega (arith, more))
digit_cut cut (d ∷ rest) low least most more here = first_cut cut (d - 48) 1 (d ∷ rest) low (omega (arith, most)) more here (rw (one_alone d least most) refl)
