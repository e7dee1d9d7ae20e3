-- The ports of a script no step of which disturbs a port, in whatever order its actors take their steps.
use Rattle.std.proofs.Common.{arith, ◌≡◌, ◌∙◌, ℕ, ◌+◌, Bool, true, false, List, [], ◌∷◌, refl, sym, ap, subst}
use Rattle.std.specs.Prelude.{◌==◌, All, if◌then◌else◌}
use Rattle.std.proofs.lemmas.Bool.Decides.{nat_tests}
use Rattle.std.proofs.lemmas.List.Elements.{All-cons, All-head, All-nil, All-tail}
use Rattle.ata_script.specs.declared.port_head.PortHead.{PortHead}
use Rattle.ata_trace.specs.Entries.{EntryView}
use Rattle.ata_trace.specs.declared.step.Step.{Step}
use Rattle.ata_trace.specs.declared.who.Who.{Who}
use Rattle.ata_trace.specs.declared.who.Who.TheVariants.{Actor}
use Rattle.host_core.specs.Calm.{AreCalmPorts, AreCalmSteps, IsCalmPort, IsCalmTaken}
use Rattle.port_calm.specs.Calm.{AreCalm, IsCalmJournal, is_calm_step}
use Rattle.port_core.specs.Hosts.{journals_in}
use Rattle.port_core.specs.PortView.{PortView}
use Rattle.port_core.specs.Weave.{asked_by, asked_in, is_actor, steps_at, steps_of}
use Rattle.port_rules.specs.Run.{StepCall, numbered}
use Rattle.port_threads.specs.Moves.{IsOfActor}
use Rattle.port_threads.specs.Weave.{AreWeaves, IsRunOf, IsWeave}

-- what is asked for disturbs nothing
abbrev CalmCalls : List StepCall → Type 0
CalmCalls [] = Unit {0}
CalmCalls (call ∷ rest) = (is_calm_step call.step ≡ true) × CalmCalls rest

-- the steps of an actor at a port
steps_calm :
    (actor number : ℕ) (who : Who) (seq : ℕ) (lines : List (ℕ × ℕ × Step)) → AreCalmSteps lines
    → CalmCalls (numbered who seq (steps_of actor (steps_at number lines)))
steps_calm actor number who seq [] calm = tt
steps_calm actor number who seq (line ∷ lines) calm =
    at (line.1 == number) (line.0 == actor) (All-head IsCalmTaken line lines calm)
    (λ n. steps_calm actor number who n lines (All-tail IsCalmTaken line lines calm)) where
      by : (b : Bool) → is_calm_step line.2 ≡ true → ((n : ℕ) → CalmCalls (numbered who n (steps_of actor (steps_at number lines))))
          → CalmCalls (numbered who seq (if b then line.2 ∷ steps_of actor (steps_at number lines) else steps_of actor (steps_at number lines)))
      by true one rest = (one, rest (seq + 1))
      by false one rest = rest seq

      at : (b c : Bool) → is_calm_step line.2 ≡ true → ((n : ℕ) → CalmCalls (numbered who n (steps_of actor (steps_at number lines))))
          → CalmCalls (numbered who seq (steps_of actor (if b then (line.0, line.2) ∷ steps_at number lines else steps_at number lines)))
      at true c one rest = by (line.0 == actor) one rest
      at false c one rest = rest seq

-- what each actor was asked for disturbs nothing, but for the first
calls_tail :
    (call : StepCall) (rest : List StepCall) → ((actor : ℕ) → CalmCalls (asked_by actor (call ∷ rest))) → (actor : ℕ) → CalmCalls (asked_by actor rest)
calls_tail call rest calm actor = tail (is_actor actor call.who) (calm actor) where
  tail : (b : Bool) → CalmCalls (if b then call ∷ asked_by actor rest else asked_by actor rest) → CalmCalls (asked_by actor rest)
  tail true all = all.1
  tail false all = all

itself : (actor : ℕ) → is_actor actor (Actor actor) ≡ true
itself actor = grind (arith, nat_tests)

-- and the first
calls_head :
    (actor : ℕ) (call : StepCall) (rest : List StepCall) → call.who ≡ Actor actor → CalmCalls (asked_by actor (call ∷ rest)) → is_calm_step call.step ≡ true
calls_head actor call rest who calm = head (is_actor actor call.who) (ap (is_actor actor) who ∙ itself actor) calm where
  head : (b : Bool) → b ≡ true → CalmCalls (if b then call ∷ asked_by actor rest else asked_by actor rest) → is_calm_step call.step ≡ true
  head true is all = all.0
  head false is all = cc is

entries_calm :
    (entries : List EntryView) → All IsOfActor entries → ((actor : ℕ) → CalmCalls (asked_by actor (asked_in entries))) → AreCalm entries
entries_calm [] actors calm = tt
entries_calm (entry ∷ rest) actors calm =
    let call : StepCall = record { who = entry.who; seq = entry.seq; step = entry.step } in
    let mine : IsOfActor entry = All-head IsOfActor entry rest actors in (
      calls_head mine.0 call (asked_in rest) mine.1 (calm mine.0),
      entries_calm rest (All-tail IsOfActor entry rest actors) (calls_tail call (asked_in rest) calm),
    )

-- a weave of such a script
weave_calm :
    (head : PortHead) (number : ℕ) (lines : List (ℕ × ℕ × Step)) (entries : List EntryView) → AreCalmSteps lines → IsWeave head number lines entries
    → IsCalmJournal entries
weave_calm head number lines [] calm weave = tt
weave_calm head number lines (boot ∷ rest) calm weave =
    entries_calm rest weave.actors (λ actor. subst CalmCalls (sym (weave.each actor)) (steps_calm actor number (Actor actor) 0 lines calm))

weaves_calm :
    (number : ℕ) (heads : List PortHead) (lines : List (ℕ × ℕ × Step)) (ports : List PortView) → AreCalmSteps lines
    → AreWeaves number heads lines (journals_in ports) → AreCalmPorts ports
weaves_calm number [] lines [] calm woven = All-nil IsCalmPort
weaves_calm number (head ∷ heads) lines (port ∷ ports) calm woven =
    All-cons IsCalmPort port ports (weave_calm head number lines port.entries calm woven.0) (weaves_calm (number + 1) heads lines ports calm woven.1)
weaves_calm number [] lines (port ∷ ports) calm woven = absurd woven
weaves_calm number (head ∷ heads) lines [] calm woven = absurd woven

pub run_calm : (heads : List PortHead) (lines : List (ℕ × ℕ × Step)) (ports : List PortView) → AreCalmSteps lines → IsRunOf heads lines ports → AreCalmPorts ports
run_calm heads lines ports calm run = weaves_calm 0 heads lines ports calm run.woven
