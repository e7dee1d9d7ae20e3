-- The six counts of a window of an error ring. A ring is the list of its entries, the oldest first.
use Rattle.std.specs.Prelude.{ℕ, Bool, not, ◌&&◌, ◌==◌, nat_le, List, reverse, take, drop, count_by, take_while}
use Rattle.std.specs.List.{prefix_len}
use Rattle.eh_ring.specs.declared.error_category.Category.{Category}
use Rattle.eh_ring.specs.declared.error_category.Category.TheVariants.{Nil, Bus, Timeout, Unknown}
use Rattle.eh_ring.specs.declared.counts.Counts.{Counts}
use Rattle.eh_ring.specs.declared.entry.RingEntry.{RingEntry}
use Rattle.eh_ring.specs.Category.{category_of}

-- a number for each category
abbrev pub code_of : Category → ℕ
code_of Nil = 0
code_of Bus = 1
code_of Timeout = 2
code_of Unknown = 3

-- whether an entry is of this category
abbrev pub is_of : Category → RingEntry → Bool
is_of category e = code_of (category_of e.io e.kinds.0) == code_of category

-- whether an entry is in the window: not old, and not before `since`
abbrev pub is_within : ℕ → RingEntry → Bool
is_within since e = not e.stale && nat_le since e.at.n

-- the entries from the newest up to the first that isn't in the window
abbrev pub window : List RingEntry → ℕ → List RingEntry
window ring since = take_while (is_within since) (reverse ring)

-- how many of the newest are marked dubious, up to the first that isn't
abbrev pub dubious_len : List RingEntry → ℕ
dubious_len seen = prefix_len (λ e. e.dubious) seen

-- the counts of a window: an entry counts as dubious while it and all newer ones are marked so, else plainly
abbrev pub counts_of : List RingEntry → Counts
counts_of seen = record {
  dbus = count_by (is_of Bus) (take (dubious_len seen) seen);
  dtime = count_by (is_of Timeout) (take (dubious_len seen) seen);
  dunk = count_by (is_of Unknown) (take (dubious_len seen) seen);
  bus = count_by (is_of Bus) (drop (dubious_len seen) seen);
  time = count_by (is_of Timeout) (drop (dubious_len seen) seen);
  unk = count_by (is_of Unknown) (drop (dubious_len seen) seen);
}

-- the counts of the window of a ring that begins at `since`
unfoldable pub counts_in : List RingEntry → ℕ → Counts
counts_in ring since = counts_of (window ring since)
