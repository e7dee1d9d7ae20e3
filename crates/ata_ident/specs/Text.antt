-- The texts of an IDENTIFY DEVICE page (ACS-3, ATA string convention).
use Rattle.std.specs.Prelude.{ℕ, ◌-◌, ◌==◌, ◌&&◌, Bool, nat_le, if◌then◌else◌, List, [], ◌∷◌, ◌++◌, length, replicate, map, take, slice_index, not}
use Rattle.std.specs.List.{list_all, suffix_len}

-- the two bytes of each pair the other way round: a word's high byte holds the first character of its pair,
-- and stands second
abbrev pub pairs_swapped : List ℕ → List ℕ
pairs_swapped [] = []
pairs_swapped (a ∷ []) = a ∷ []
pairs_swapped (a ∷ b ∷ rest) = b ∷ a ∷ pairs_swapped rest

-- a text with spaces behind it up to this many characters
abbrev pub padded_to : ℕ → List ℕ → List ℕ
padded_to width text = text ++ replicate (width - length text) 32

-- the bytes of a field of this many characters that holds a text
unfoldable pub text_bytes : ℕ → List ℕ → List ℕ
text_bytes width text = pairs_swapped (padded_to width text)

-- whether a byte is a printable character: 20h to 7Eh
abbrev pub is_printable : ℕ → Bool
is_printable byte = nat_le 32 byte && nat_le byte 126

-- whether every character is printable and the last one isn't a space
abbrev pub is_plain : List ℕ → Bool
is_plain text = list_all is_printable text && not (slice_index text (length text - 1) == 32)

-- a byte as it is read: `?` where it isn't printable
abbrev pub readable : ℕ → ℕ
readable byte = if is_printable byte then byte else 63

-- a text without the spaces at its end
abbrev pub without_padding : List ℕ → List ℕ
without_padding text = take (length text - suffix_len (λ byte. byte == 32) text) text

-- the text that is read from the bytes of a field
unfoldable pub text_in : List ℕ → List ℕ
text_in field = without_padding (map readable (pairs_swapped field))
