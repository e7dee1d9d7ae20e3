-- Whether each issue in flight has its judgement.
use Rattle.std.specs.Prelude.{List, [], ◌∷◌, Option, None, Some}
use Rattle.port_past.specs.declared.judgement.Judgement.{Judgement}
use Rattle.host_tags.specs.declared.in_flight.InFlight.{InFlight}

-- each issue in flight has a judgement under its tag
abbrev pub AreJudged : List (Option InFlight) → List (Option Judgement) → Type 0
AreJudged [] judged = Unit {0}
AreJudged (None ∷ slots) [] = AreJudged slots []
AreJudged (None ∷ slots) (j ∷ judged) = AreJudged slots judged
AreJudged (Some f ∷ slots) [] = ⊥
AreJudged (Some f ∷ slots) (None ∷ judged) = ⊥
AreJudged (Some f ∷ slots) (Some j ∷ judged) = AreJudged slots judged
