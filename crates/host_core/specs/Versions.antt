-- A script of version 1 and the same script in version 2.
use Rattle.std.specs.Prelude.{◌≡◌, ℕ, List, ◌∷◌, ◌++◌}
use Rattle.ata_script.specs.ScriptText.{version_line}
use Rattle.ata_script.specs.Scripts.{IsScript}
use Rattle.ata_script.specs.declared.script.Script.{Script}

-- bytes that begin with line 1 of a version
abbrev pub in_version : ℕ → List ℕ → List ℕ
in_version version rest = version_line version ++ 10 ∷ rest

-- with line 1 of version 2 the bytes are a script with the same ports and steps
pub record HasSecondVersion (rest : List ℕ) (first : Script) : Type 0 where
  pub second : Script
  pub read : IsScript (in_version 2 rest) second
  pub version : second.version ≡ 2
  pub head : second.head ≡ first.head
  pub steps : second.steps ≡ first.steps
