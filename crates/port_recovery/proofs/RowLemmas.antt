-- The row of a recover step.
use Rattle.std.proofs.Common.{◌≡◌, ◌∙◌, false, List, [], ◌∷◌, Some, refl, sym, ap}
use Rattle.ata_base.proofs.Truth.{neither}
use Rattle.ata_script.specs.declared.port_head.PortHead.{PortHead}
use Rattle.ata_trace.specs.Event.{Event}
use Rattle.ata_trace.specs.declared.act.Act.TheVariants.{Nothing}
use Rattle.eh_flow.specs.Table.{recovery_row}
use Rattle.eh_flow.specs.declared.observation.Observation.{Observation}
use Rattle.eh_flow.specs.declared.phase.Phase.{Phase}
use Rattle.eh_flow.specs.declared.phase.Phase.TheVariants.{Idle}
use Rattle.eh_flow.specs.declared.row.Row.{Row}
use Rattle.port_past.specs.PortState.{is_asked, is_recovering, is_running}
use Rattle.port_rules.specs.Observing.{observed}
use Rattle.port_rules.specs.Phase.{phase}
use Rattle.port_rules.specs.Recover.{recover_acts, some_row_acts}

-- the row of what the code finds is that of the rule
pub row_found :
    (head : PortHead) (past : List Event) {stands : Phase} {seen : Observation} {row : Row}
    → stands ≡ phase head past → seen ≡ observed head past stands → recovery_row stands seen ≡ Some row
    → recovery_row (phase head past) (observed head past (phase head past)) ≡ Some row
row_found head past {stands} is sees found =
    ap (λ p. recovery_row p (observed head past p)) (sym is) ∙ ap (recovery_row stands) (sym sees) ∙ found

-- a port that isn't recovering has nothing to do
pub nothing_to_recover :
    (head : PortHead) (past : List Event) → is_recovering past ≡ false → recover_acts head past ≡ Nothing ∷ []
nothing_to_recover head past quiet =
    let neither_holds = neither (is_asked past) (is_running past) quiet in
    let idle : phase head past ≡ Idle = rw neither_holds.1 refl in
    let asked : is_asked past ≡ false = neither_holds.0 in
    ap (λ p. some_row_acts head past (recovery_row p (observed head past p))) idle ∙ rw asked refl
