-- The words of a line that was written.
use Rattle.std.proofs.Common.{arith, ◌≡◌, ℕ, ◌-◌, true, false, List, [], ◌∷◌, ◌++◌, length, refl, sym, ◌∙◌, ap, append_assoc, length-append, codes}
use Rattle.std.specs.Prelude.{◌==◌, nat_lt}
use Rattle.std.specs.List.{onto_first}
use Rattle.std.proofs.lemmas.Bool.Decides.{nat_tests}
use Rattle.std.proofs.lemmas.List.{take_at}
use Rattle.ata_trace.specs.Parts.{words_of, without_end}
use Rattle.ata_trace.specs.Ranges.{IsAct}
use Rattle.ata_trace.specs.Text.{joined, act_words, act_line}
use Rattle.ata_trace.specs.Told.{act_told}
use Rattle.ata_trace.specs.declared.act.Act.{Act}
use Rattle.ata_trace.proofs.ActsBack.{act_back, act_plain}
use Rattle.ata_trace.proofs.Digits.{plain}
use Rattle.ata_trace.proofs.NameLemmas.{both}
use Rattle.ata_trace.proofs.WordsBack.{all_plain}

no_cut : (c : ℕ) (parts : List (List ℕ)) (rest : List ℕ) → nat_lt 32 c ≡ true → words_of rest ≡ parts → words_of (c ∷ rest) ≡ onto_first c parts
no_cut c parts rest other same = let e : (c == 32) ≡ false = grind (arith, nat_tests, other) in rw (e, same) refl

-- a word before a space is the first
pub first_word : (word rest : List ℕ) → plain word ≡ true → words_of (word ++ 32 ∷ rest) ≡ word ∷ words_of rest
first_word [] rest none = refl
first_word (c ∷ word) rest none = let b = both (nat_lt 32 c) (plain word) none in no_cut c (word ∷ words_of rest) (word ++ 32 ∷ rest) b.0 (first_word word rest b.1)

-- and one without a space behind it is the last
pub last_word : (word : List ℕ) → plain word ≡ true → words_of word ≡ word ∷ []
last_word [] none = refl
last_word (c ∷ word) none = let b = both (nat_lt 32 c) (plain word) none in no_cut c (word ∷ []) word b.0 (last_word word b.1)

pub joined_on : (text more : List ℕ) (words : List (List ℕ)) → joined (text ++ more) words ≡ text ++ joined more words
joined_on text more [] = refl
joined_on text more (word ∷ words) = ap (λ t. joined t words) (append_assoc text more (32 ∷ word)) ∙ joined_on text (more ++ 32 ∷ word) words

pub joined_more : (text word : List ℕ) (words : List (List ℕ)) → joined text (word ∷ words) ≡ text ++ 32 ∷ joined word words
joined_more text word words = joined_on text (32 ∷ word) words ∙ ap (λ t. text ++ t) (joined_on (32 ∷ []) word words)

-- the words of joined words
pub words_joined : (text : List ℕ) (words : List (List ℕ)) → plain text ≡ true → all_plain words ≡ true → words_of (joined text words) ≡ text ∷ words
words_joined text [] none all = last_word text none
words_joined text (word ∷ words) none all =
    let b = both (plain word) (all_plain words) all in
    ap words_of (joined_more text word words) ∙ first_word text (joined word words) none ∙ ap (λ ws. text ∷ ws) (words_joined word words b.0 b.1)

-- a line without its end
pub end_off : (text : List ℕ) (c : ℕ) → without_end (text ++ c ∷ []) ≡ text
end_off text c =
    let size : length (text ++ c ∷ []) - 1 ≡ length text = omega (arith, length-append text (c ∷ [])) in
    rw size (take_at text (c ∷ []) (length text) refl)

-- the line of an act tells it
pub line_back : (act : Act) → IsAct act → act_told (words_of (without_end (act_line act))) ≡ act
line_back act f =
    ap (λ text. act_told (words_of text)) (end_off (joined (codes "-") (act_words act)) 10)
    ∙ ap act_told (words_joined (codes "-") (act_words act) refl (act_plain act f))
    ∙ act_back act f

-- no line belongs to two acts
pub line_once : (a b : Act) → IsAct a → IsAct b → act_line a ≡ act_line b → a ≡ b
line_once a b f g same = sym (line_back a f) ∙ ap (λ line. act_told (words_of (without_end line))) same ∙ line_back b g
