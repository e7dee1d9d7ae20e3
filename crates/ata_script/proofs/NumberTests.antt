-- The words of decimal numbers, as tests.
use Rattle.std.proofs.Common.{arith, ◌≡◌, ℕ, ◌<◌, ◌+◌, ◌%◌, ◌^◌, Bool, true, false, ◌&&◌, List, [], ◌∷◌, ◌++◌, refl, sym, decimal}
use Rattle.std.specs.Prelude.{nat_le}
use Rattle.std.specs.Str.{bytes_eq}
use Rattle.std.proofs.lemmas.Bool.Decides.{nat_tests}
use Rattle.std.proofs.lemmas.Fmt.{decimal_by_steps}
use Rattle.std.proofs.lemmas.Slice.Eq.{bytes_eq-Decides}
use Rattle.ata_trace.specs.Parts.{first}
use Rattle.ata_trace.specs.Reading.{within, number_in}
use Rattle.ata_trace.proofs.Digits.{value_decimal}
use Rattle.ata_script.specs.Fields.{all_printed, is_word}
use Rattle.ata_script.specs.Fields.Field.{Number}
use Rattle.ata_script.specs.Taking.{State, taken}

printed_more : (word : List ℕ) (c : ℕ) → all_printed word ≡ true → (nat_le 33 c && nat_le c 126) ≡ true → all_printed (word ++ c ∷ []) ≡ true
printed_more [] c all one = rw one refl
printed_more (b ∷ word) c all one = grind (arith, nat_tests, printed_more word c)

word_more : (word : List ℕ) (c : ℕ) → is_word word ≡ true → (nat_le 33 c && nat_le c 126) ≡ true → is_word (word ++ c ∷ []) ≡ true
word_more [] c all one = cc all
word_more (b ∷ word) c all one = printed_more (b ∷ word) c all one

pub word_decimal : (n : ℕ) → n < 2 ^ 64 → is_word (decimal n) ≡ true
word_decimal n small = decimal_by_steps (λ n digits. is_word digits ≡ true)
    (λ n few. grind (arith, nat_tests))
    (λ n digits many before. word_more digits (48 + n % 10) before (grind (arith, nat_tests)))
    n small

same_bytes : (word : List ℕ) → bytes_eq word word ≡ true
same_bytes word = (bytes_eq-Decides word word).1 refl

and_true : (a : Bool) → (a && true) ≡ a
and_true true = refl
and_true false = refl

-- a number is told, and taken, where the first word is one

pub number_told : (least most n : ℕ) (words rest : List (List ℕ)) → n < 2 ^ 64 → words ≡ decimal n ∷ rest → within least most n ≡ number_in least most (first words)
number_told least most n words rest small is = sym (rw (is, value_decimal n small) refl)

pub number_taken : (least most n : ℕ) (s : State) (rest : List (List ℕ)) → n < 2 ^ 64 → s.rest ≡ decimal n ∷ rest
    → record { rest = rest; form = s.form; numbers = s.numbers && (nat_le least n && nat_le n most); names = s.names } ≡ taken (Number least most) s
number_taken least most n s rest small is =
    sym (rw (is, word_decimal n small, value_decimal n small, same_bytes (decimal n), and_true s.form, and_true (nat_le least n && nat_le n most), and_true s.names) refl)
