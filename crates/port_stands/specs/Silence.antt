-- An issue that was answered, or given back for another try, ends no more.
use Rattle.std.specs.Prelude.{◌≡◌, ℕ, ◌<◌, ◌==◌, Bool, false, ◌||◌, List, [], ◌∷◌}
use Rattle.std.specs.Option.{option_map_or}
use Rattle.ata_trace.specs.Event.{Event}
use Rattle.ata_trace.specs.Event.Event.{Told}
use Rattle.ata_trace.specs.declared.act.Act.{Act}
use Rattle.ata_trace.specs.declared.act.Act.TheVariants.{Done}
use Rattle.port_past.specs.Answers.{left_issue}

-- whether an act answers the issue of this number or gives it back: an `answered C N` or `retried C N`
abbrev pub leaves_by : Act → ℕ → Bool
leaves_by act number = option_map_or (λ n. n == number) (left_issue act) false

-- whether an act of the past does
abbrev pub has_left : ℕ → List Event → Bool
has_left number [] = false
has_left number (Told act ∷ past) = leaves_by act number || has_left number past
has_left number (event ∷ past) = has_left number past

-- the issue of this number is one, and no answer and no retry has named it
pub record IsOut (number : ℕ) (past : List Event) : Type 0 where
  pub from_one : 0 < number
  pub stays : has_left number past ≡ false

-- at `done N`
abbrev pub IsSilentAfterAnswer : Event → List Event → Type 0
IsSilentAfterAnswer (Told (Done number status error lba count)) past = IsOut number.n past
IsSilentAfterAnswer _ past = Unit {0}
