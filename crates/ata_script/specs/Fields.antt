-- The fields of a form, and which rules the words of a line break by it.
use Rattle.std.specs.Prelude.{ℕ, Bool, true, false, ◌&&◌, ◌||◌, nat_le, List, [], ◌∷◌, length, decimal, Option, Some, None, if◌then◌else◌}
use Rattle.std.specs.Str.{bytes_eq}
use Rattle.ata_trace.specs.Parts.{first, later}
use Rattle.ata_trace.specs.Reading.{value_from, number_in, is_name, name_in}

-- what stands at a place of a form: a small word, one of several small words, a number of a range, such a
-- number or a small word, or a name of at most so many characters
pub data Field : Type 0 where
  Small : (word : List ℕ) → Field
  OneOf : (words : List (List ℕ)) → Field
  Number : (least most : ℕ) → Field
  NumberOr : (word : List ℕ) → (least most : ℕ) → Field
  Name : (most : ℕ) → Field

-- every byte is in 21h to 7Eh
abbrev pub all_printed : List ℕ → Bool
all_printed [] = true
all_printed (c ∷ rest) = (nat_le 33 c && nat_le c 126) && all_printed rest

-- a word: not empty, and of such bytes
abbrev pub is_word : List ℕ → Bool
is_word [] = false
is_word (c ∷ rest) = all_printed (c ∷ rest)

-- a number of the range, decimal, without sign and leading zeros
abbrev pub is_number : ℕ → ℕ → List ℕ → Bool
is_number least most word = (nat_le least (value_from 0 word) && nat_le (value_from 0 word) most) && bytes_eq (decimal (value_from 0 word)) word

-- whether the word is one of these
abbrev pub among : List (List ℕ) → List ℕ → Bool
among [] word = false
among (small ∷ []) word = bytes_eq word small
among (small ∷ next ∷ rest) word = bytes_eq word small || among (next ∷ rest) word

-- whether a word fits at the place of a field: a small word is that word or one of those, and at every other
-- place any word fits
abbrev pub fits_field : Field → List ℕ → Bool
fits_field (Small small) word = bytes_eq word small && is_word word
fits_field (OneOf words) word = among words word && is_word word
fits_field (Number least most) word = is_word word
fits_field (NumberOr small least most) word = is_word word
fits_field (Name most) word = is_word word

abbrev pub no_words : List (List ℕ) → Bool
no_words [] = true
no_words (word ∷ rest) = false

-- whether a line fits a form: it has as many words, and each fits at its place
abbrev pub fits : List Field → List (List ℕ) → Bool
fits [] words = no_words words
fits (field ∷ fields) words = fits_field field (first words) && fits fields (later words)

-- whether the numbers of a form are such numbers
abbrev pub number_right : Field → List ℕ → Bool
number_right (Small small) word = true
number_right (OneOf words) word = true
number_right (Number least most) word = is_number least most word
number_right (NumberOr small least most) word = bytes_eq word small || is_number least most word
number_right (Name most) word = true

abbrev pub numbers_right : List Field → List (List ℕ) → Bool
numbers_right [] words = true
numbers_right (field ∷ fields) words = number_right field (first words) && numbers_right fields (later words)

-- whether the names of a form are such names
abbrev pub name_right : Field → List ℕ → Bool
name_right (Small small) word = true
name_right (OneOf words) word = true
name_right (Number least most) word = true
name_right (NumberOr small least most) word = true
name_right (Name most) word = is_name word && nat_le (length word) most

abbrev pub names_right : List Field → List (List ℕ) → Bool
names_right [] words = true
names_right (field ∷ fields) words = name_right field (first words) && names_right fields (later words)

-- the least rule that is broken, where these are kept: a form is fitted (3), its numbers are right (4), its names are right (5)
abbrev pub least_broken : Bool → Bool → Bool → Option ℕ
least_broken form numbers names = if form then (if numbers then (if names then None else Some 5) else Some 4) else Some 3

-- the least rule that the words of a line break by a form
abbrev pub rule_by : List Field → List (List ℕ) → Option ℕ
rule_by form words = least_broken (fits form words) (numbers_right form words) (names_right form words)

-- that one of these which the word is, the last of them where it is none
abbrev pub nearest : List (List ℕ) → List ℕ → List ℕ
nearest [] word = []
nearest (small ∷ []) word = small
nearest (small ∷ next ∷ rest) word = if bytes_eq word small then small else nearest (next ∷ rest) word

-- the words of a form with the meanings of these words
abbrev pub spell_field : Field → List ℕ → List ℕ
spell_field (Small small) word = small
spell_field (OneOf words) word = nearest words word
spell_field (Number least most) word = decimal (number_in least most word)
spell_field (NumberOr small least most) word = if bytes_eq word small then small else decimal (number_in least most word)
spell_field (Name most) word = name_in most word

abbrev pub spell : List Field → List (List ℕ) → List (List ℕ)
spell [] words = []
spell (field ∷ fields) words = spell_field field (first words) ∷ spell fields (later words)
