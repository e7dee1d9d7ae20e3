use Rattle.std.specs.Prelude.{ℕ}

-- The limits of a port, of its drives and of what one command asks for.

-- how many places a port has at most
abbrev pub most_places : ℕ
most_places = 15

-- how many tags a port has: 0 to 31
abbrev pub tag_count : ℕ
tag_count = 32

-- how many acts an entry has at most
abbrev pub most_acts : ℕ
most_acts = 128

-- how many sectors a drive has at most
abbrev pub most_drive_sectors : ℕ
most_drive_sectors = 65536

-- a read, a write or a verify is of so many sectors at most
abbrev pub most_sectors : ℕ
most_sectors = 16

-- the fastest UDMA mode
abbrev pub fastest_udma : ℕ
fastest_udma = 6

-- the fastest generation of a link
abbrev pub fastest_generation : ℕ
fastest_generation = 3
