-- The steps of a script at its ports, and the journals that they make.
use Rattle.std.specs.Prelude.{◌≡◌, ℕ, ◌+◌, ◌==◌, Bool, false, List, [], ◌∷◌, ◌++◌, All, if◌then◌else◌}
use Rattle.ata_script.specs.declared.port_head.PortHead.{PortHead}
use Rattle.ata_trace.specs.Entries.{EntryView, past_of}
use Rattle.ata_trace.specs.declared.step.Step.{Step}
use Rattle.ata_trace.specs.declared.who.Who.{Who}
use Rattle.ata_trace.specs.declared.who.Who.TheVariants.{Actor}
use Rattle.port_rules.specs.Boot.{boot_entry}
use Rattle.port_rules.specs.Legal.{IsLegal}
use Rattle.port_rules.specs.Ranges.{IsScriptStep}
use Rattle.port_rules.specs.Run.{StepCall, run}
use Rattle.port_rules.specs.Settle.{settled_journal, settling}

-- the steps at a port, each with its actor, in the order of their lines
abbrev pub steps_at : ℕ → List (ℕ × ℕ × Step) → List (ℕ × Step)
steps_at port [] = []
steps_at port (taken ∷ rest) = if taken.1 == port then (taken.0, taken.2) ∷ steps_at port rest else steps_at port rest

-- how many of these steps are an actor's
abbrev pub count_of : ℕ → List (ℕ × Step) → ℕ
count_of actor [] = 0
count_of actor (taken ∷ rest) = if taken.0 == actor then count_of actor rest + 1 else count_of actor rest

-- steps that follow others, each numbered by how many its actor has before it
abbrev pub in_turn : List (ℕ × Step) → List (ℕ × Step) → List StepCall
in_turn before [] = []
in_turn before (taken ∷ rest) =
    record { who = Actor taken.0; seq = count_of taken.0 before; step = taken.1 } ∷ in_turn (before ++ taken ∷ []) rest

-- what a script's steps ask of a port: those at it, in the order of their lines, each actor's numbered from 0
abbrev pub asked_at : ℕ → List (ℕ × ℕ × Step) → List StepCall
asked_at port steps = in_turn [] (steps_at port steps)

-- what steps make at the ports with these heads, of which the first has this number, before a port is settled
abbrev pub runs_from : ℕ → List PortHead → List (ℕ × ℕ × Step) → List (List EntryView)
runs_from number [] steps = []
runs_from number (head ∷ rest) steps = run head (asked_at number steps) ∷ runs_from (number + 1) rest steps

-- what steps make at the ports with these heads, before a port is settled
abbrev pub runs_of : List PortHead → List (ℕ × ℕ × Step) → List (List EntryView)
runs_of heads steps = runs_from 0 heads steps

-- the journals that steps make at the ports with these heads, of which the first has this number, each settled with at
-- most so many rounds
abbrev pub journals_from : ℕ → ℕ → List PortHead → List (ℕ × ℕ × Step) → List (List EntryView)
journals_from rounds number [] steps = []
journals_from rounds number (head ∷ rest) steps =
    settled_journal rounds head (asked_at number steps) ∷ journals_from rounds (number + 1) rest steps

-- the journals that steps make at the ports with these heads, each settled with at most so many rounds
abbrev pub journals_of : ℕ → List PortHead → List (ℕ × ℕ × Step) → List (List EntryView)
journals_of rounds heads steps = journals_from rounds 0 heads steps

-- a step of an actor at a port is one that a script can have
abbrev pub IsOfScript : ℕ × ℕ × Step → Type 0
IsOfScript taken = IsScriptStep taken.2

-- each of these steps is such
abbrev pub AreScriptSteps : List (ℕ × ℕ × Step) → Type 0
AreScriptSteps steps = All IsOfScript steps

-- what is asked for is a step that a script can have
abbrev pub IsScriptCall : StepCall → Type 0
IsScriptCall asked = IsScriptStep asked.step

-- each of these is such
abbrev pub AreScriptCalls : List StepCall → Type 0
AreScriptCalls asked = All IsScriptCall asked

-- each of these journals is legal for the head of its port
abbrev pub AreLegalFor : List PortHead → List (List EntryView) → Type 0
AreLegalFor [] [] = Unit {0}
AreLegalFor (head ∷ heads) (entries ∷ journals) = IsLegal head entries × AreLegalFor heads journals
AreLegalFor _ _ = ⊥

-- the steps of an actor
abbrev pub steps_of : ℕ → List (ℕ × Step) → List Step
steps_of actor [] = []
steps_of actor (taken ∷ rest) = if taken.0 == actor then taken.1 ∷ steps_of actor rest else steps_of actor rest

-- whether that is this actor
abbrev pub is_actor : ℕ → Who → Bool
is_actor actor (Actor other) = other == actor
is_actor actor _ = false

-- of what is asked, an actor's
abbrev pub asked_by : ℕ → List StepCall → List StepCall
asked_by actor [] = []
asked_by actor (asked ∷ rest) = if is_actor actor asked.who then asked ∷ asked_by actor rest else asked_by actor rest

-- what entries were asked for
abbrev pub asked_in : List EntryView → List StepCall
asked_in [] = []
asked_in (entry ∷ rest) = record { who = entry.who; seq = entry.seq; step = entry.step } ∷ asked_in rest

-- a journal of a port with this head and number, at which a script takes these steps, in line order, and which settles
-- with at most so many rounds: the boot entry, the entries of the actors, and the settling entries
pub record IsInLineOrder (rounds : ℕ) (head : PortHead) (number : ℕ) (steps : List (ℕ × ℕ × Step)) (entries : List EntryView) : Type 0 where
  pub played : List EntryView
  pub whole : entries ≡ boot_entry head ∷ played ++ settling head rounds (past_of (boot_entry head ∷ played))
  pub asked : asked_in played ≡ asked_at number steps
  pub legal : IsLegal head entries
