-- The six counts of a window of an error ring, whose entries are two lists, the newest entry first: their
-- category bytes and their times.
use Rattle.std.specs.Prelude.{ℕ, ◌/◌, ◌%◌, Bool, ◌&&◌, ◌==◌, nat_lt, nat_le, List, [], ◌∷◌, ◌++◌, take, drop, zip, count_by}
use Rattle.std.specs.List.{prefix_len}

-- whether a category byte is marked dubious, by 4 in it
abbrev pub is_dubious : ℕ → Bool
is_dubious cat = cat / 4 % 2 == 1

-- whether an entry is in the window: not marked old, by 8 in its category byte, and not before `since`
abbrev pub is_within : ℕ → ℕ × ℕ → Bool
is_within since entry = nat_lt entry.0 8 && nat_le since entry.1

-- the category bytes from the newest up to the first whose entry isn't in the window
abbrev pub within_window : List ℕ → List ℕ → ℕ → List ℕ
within_window cats times since = take (prefix_len (is_within since) (zip cats times)) cats

-- how many of the newest are marked dubious, up to the first that isn't
abbrev pub dubious_len : List ℕ → ℕ
dubious_len cats = prefix_len is_dubious cats

-- how many category bytes are of this kind: 1 bus, 2 timeout, 3 unknown
abbrev pub count_of : ℕ → List ℕ → ℕ
count_of kind cats = count_by (λ cat. cat % 4 == kind) cats

-- how many are of bus, of timeout and of unknown
abbrev pub three_counts : List ℕ → List ℕ
three_counts cats = count_of 1 cats ∷ count_of 2 cats ∷ count_of 3 cats ∷ []

-- how many in the window count as dubious, of each kind, and then how many count plainly: an entry counts as
-- dubious while it and all newer ones are marked so
abbrev pub six_counts : List ℕ → List ℕ → ℕ → List ℕ
six_counts cats times since =
    let seen = within_window cats times since in
    three_counts (take (dubious_len seen) seen) ++ three_counts (drop (dubious_len seen) seen)
