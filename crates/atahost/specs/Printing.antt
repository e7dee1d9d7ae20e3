use Rattle.std.specs.Prelude.{◌≡◌, ◌<◌, ℕ, List, Option}
use Rattle.std.specs.Io.KnownBytes.{Appends}
use Rattle.ata_io.specs.Writing.{WritesPart}
use Rattle.atahost.specs.declared.status.Status.{Status}
use Rattle.atahost.specs.declared.status.Status.TheVariants.{Done, Left, WriteFault}

-- how the printing of a text ends, where so many commands are live
abbrev pub Prints : Option (List ℕ) → Option (List ℕ) → List ℕ → ℕ → Status → Type 0
Prints before after text live Done = Appends before after text × (live ≡ 0)
Prints before after text live (Left k) = Appends before after text × (live ≡ k) × (0 < k)
Prints before after text live WriteFault = WritesPart before after text
Prints before after text live _ = ⊥
