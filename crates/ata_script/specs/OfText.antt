-- The texts of a script.
use Rattle.std.specs.Prelude.{ℕ, ◌≡◌, ◌≤◌, List, length, map, None}
use Rattle.ata_script.specs.Draft.{DraftView}
use Rattle.ata_script.specs.Grammar.{fault_of, said_of}
use Rattle.ata_script.specs.Heads.{port_said}
use Rattle.ata_script.specs.declared.port_head.PortHead.{PortHead}
use Rattle.ata_trace.specs.declared.step.Step.{Step}

-- what a version, heads and steps say
abbrev pub all_said : ℕ → List PortHead → List (ℕ × ℕ × Step) → DraftView
all_said version head steps = record { version = version; ports = map port_said head; steps = steps }

-- a text has no fault and says this
pub record Says (bytes : List ℕ) (said : DraftView) : Type 0 where
  pub right : fault_of bytes ≡ None
  pub is : said ≡ said_of bytes

-- some text without a fault says this, with at most 524,288 step lines
pub record IsOfText (version : ℕ) (head : List PortHead) (steps : List (ℕ × ℕ × Step)) : Type 0 where
  pub bytes : List ℕ
  pub says : Says bytes (all_said version head steps)
  pub few : length steps ≤ 524288
