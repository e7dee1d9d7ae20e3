use Rattle.std.specs.Prelude.{List}
use Rattle.ata_script.specs.declared.port_head.PortHead.{PortHead}
use Rattle.ata_trace.specs.Event.{Event}
use Rattle.ata_trace.specs.Event.Event.{Told}
use Rattle.ata_trace.specs.declared.act.Act.TheVariants.{Judged, Recorded, Cleared, Hot, Action}
use Rattle.port_facts.specs.Judgements.{IsActingRightly, IsClearedRightly, IsHotRightly, IsJudgedRightly, IsRecordedRightly}

-- what the autopsy tells of issues and errors is right at the moment at which it is told
abbrev pub IsRightJudgement : PortHead → Event → List Event → Type 0
IsRightJudgement head (Told (Judged number kinds)) past = IsJudgedRightly head number kinds past
IsRightJudgement head (Told (Recorded place io dubious kinds ncq_off speed_down pio keep action)) past =
    IsRecordedRightly head place io dubious kinds ncq_off speed_down pio keep action past
IsRightJudgement head (Told (Cleared place)) past = IsClearedRightly place past
IsRightJudgement head (Told (Hot place generation)) past = IsHotRightly head place generation past
IsRightJudgement head (Told (Action place kinds action)) past = IsActingRightly head place kinds action past
IsRightJudgement head _ past = Unit {0}
