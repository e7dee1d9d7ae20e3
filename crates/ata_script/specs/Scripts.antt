-- The script of a text.
use Rattle.std.specs.Prelude.{ℕ, List}
use Rattle.ata_script.specs.Draft.{DraftView}
use Rattle.ata_script.specs.OfText.{all_said, Says}
use Rattle.ata_script.specs.declared.script.Script.{Script}

-- what a script says
abbrev pub script_said : Script → DraftView
script_said script = all_said script.version script.head script.steps

-- the bytes have no fault, and say this script
abbrev pub IsScript : List ℕ → Script → Type 0
IsScript bytes script = Says bytes (script_said script)
