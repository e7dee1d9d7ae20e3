use Rattle.std.specs.Prelude.{ℕ, ◌+◌, ◌==◌, ◌&&◌, Bool, List, [], ◌∷◌, Option, Some, None, if◌then◌else◌}
use Rattle.std.specs.Option.{option_map_or}
use Rattle.ata_base.specs.declared.regs.Regs.{Regs}
use Rattle.drive_model.specs.declared.log_told.LogTold.{LogTold}
use Rattle.drive_model.specs.declared.log_told.LogTold.TheVariants.{Page, BadPage, NoPage}
use Rattle.eh_autopsy.specs.Blame.{blame_of}
use Rattle.eh_autopsy.specs.Blame as judge
use Rattle.eh_autopsy.specs.Kinds.{kinds_of_serror, is_hotplug}
use Rattle.host_tags.specs.declared.in_flight.InFlight.{InFlight}
use Rattle.port_rules.specs.AutopsyView.{AutopsyView}

-- whether an issue is one of this place that recovery owns
abbrev pub is_owned_by : ℕ → InFlight → Bool
is_owned_by place f = (f.place == place) && f.owned

-- the kinds that SError gives to the place
abbrev pub link_kinds : AutopsyView → ℕ
link_kinds s = kinds_of_serror s.serror

-- whether the place is hot
abbrev pub is_hotplugged : AutopsyView → Bool
is_hotplugged s = is_hotplug s.serror s.attached s.pmp

-- the tag and the registers that a log names, where it has a page that names any
abbrev pub page_told : LogTold → Option (ℕ × Regs)
page_told (Page tag regs) = Some (tag, regs)
page_told BadPage = None
page_told NoPage = None

-- the kinds that the log of the place gives to its owned issue under a tag; where none was read, none
abbrev pub log_kinds : AutopsyView → ℕ → ℕ
log_kinds s tag = option_map_or (λ told. blame_of s.place s.slots tag (page_told told)) s.log 0

-- the final kinds of an owned issue under a tag: those that it was condemned with, those of the place, those of its
-- registers where its failure is noted, and those by the log; then some go
abbrev pub final_kinds : AutopsyView → ℕ → InFlight → ℕ
final_kinds s tag f = judge.final_kinds f (link_kinds s) s.noted (log_kinds s tag)

-- an issue with its final kinds
pub record JudgedIssue : Type 0 where
  pub flight : InFlight
  pub kinds : ℕ

-- the owned issues of a place from a tag on, each with its final kinds
abbrev pub judged_from : AutopsyView → ℕ → List (Option InFlight) → List JudgedIssue
judged_from s tag [] = []
judged_from s tag (None ∷ rest) = judged_from s (tag + 1) rest
judged_from s tag (Some f ∷ rest) =
    if is_owned_by s.place f
    then record { flight = f; kinds = final_kinds s tag f } ∷ judged_from s (tag + 1) rest
    else judged_from s (tag + 1) rest

-- the owned issues of a place, each with its final kinds
abbrev pub judged_here : AutopsyView → List JudgedIssue
judged_here s = judged_from s 0 s.slots
