-- The entries of a ring as the kernel that counts them takes them.
use Rattle.std.specs.Prelude.{◌≡◌, ℕ, ◌+◌, ◌≤◌, if◌then◌else◌, List, take, map, reverse}
use Rattle.eh_ring.specs.declared.entry.RingEntry.{RingEntry}
use Rattle.eh_ring.specs.Category.{category_of}
use Rattle.eh_ring.specs.Counts.{code_of}

-- the category, plus 4 if dubious, plus 8 if old
abbrev pub category_byte : RingEntry → ℕ
category_byte e = code_of (category_of e.io e.kinds.0) + (if e.dubious then 4 else 0) + (if e.stale then 8 else 0)

abbrev pub time_of : RingEntry → ℕ
time_of e = e.at.n

-- the first n places hold the category bytes and the times of the ring's entries, the newest first
pub record IsSpread (ring : List RingEntry) (cats times : List ℕ) (n : ℕ) : Type 0 where
  pub places : n ≤ 32
  pub bytes : take n cats ≡ map category_byte (reverse ring)
  pub moments : take n times ≡ map time_of (reverse ring)
