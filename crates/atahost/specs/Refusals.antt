use Rattle.std.specs.Prelude.{◌≡◌, ◌≤◌, ℕ, List, Option, IfSome, ⊤, length}
use Rattle.std.specs.Io.KnownBytes.{IsAtEnd}
use Rattle.ata_script.specs.Scripts.{IsScript}
use Rattle.ata_script.specs.declared.script.Script.{Script}
use Rattle.atahost.specs.Headline.{IsRefused, IsTooLong, most_bytes}
use Rattle.atahost.specs.declared.status.Status.{Status}
use Rattle.atahost.specs.declared.status.Status.TheVariants.{BadScript, TooLong, ReadFault, OutOfMemory}

-- what was left to read is this script, of at most the most bytes
pub record WasRead (left : Option (List ℕ)) (script : Script) : Type 0 where
  pub bytes : List ℕ
  pub all : IfSome left (λ all. all ≡ bytes)
  pub within : length bytes ≤ most_bytes
  pub text : IsScript bytes script

-- why no script was read, by what was left to read and is left now: each status with its cause
abbrev pub Refuses : Option (List ℕ) → Option (List ℕ) → Status → Type 0
Refuses left rest (BadScript line rule) = IfSome left (IsRefused line rule) × IsAtEnd rest
Refuses left rest TooLong = IfSome left IsTooLong
Refuses left rest ReadFault = ⊤
Refuses left rest OutOfMemory = ⊤
Refuses left rest _ = ⊥
