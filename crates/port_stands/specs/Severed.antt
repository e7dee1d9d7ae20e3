-- A place with a device but without a link is told of by SError, or is to be linked again.
use Rattle.std.specs.Prelude.{◌≡◌, ◌⊎◌, ℕ, ◌==◌, Bool, true, false, ◌&&◌, List, Option, None, Some}
use Rattle.std.specs.List.{list_any, slice_index_or}
use Rattle.ata_base.specs.Kinds.{has}
use Rattle.ata_script.specs.declared.port_head.PortHead.{PortHead}
use Rattle.ata_trace.specs.Event.{Event}
use Rattle.eh_flow.specs.declared.phase.Phase.{Phase}
use Rattle.eh_flow.specs.declared.phase.Phase.TheVariants.{ResetOwed, ResetOpen}
use Rattle.port_past.specs.Attachment.{attached}
use Rattle.port_past.specs.PortState.{is_running, is_autopsied}
use Rattle.port_past.specs.Links.{links, link_at, linked_at}
use Rattle.port_stands.specs.Words.{RecoveryView, recovery, task_stand}

-- whether a phase owes a place a reset, or has one open there
abbrev pub links_again : ℕ → Option Phase → Bool
links_again place (Some (ResetOwed at attempt ident)) = at == place
links_again place (Some (ResetOpen at attempt ident deadline)) = at == place
links_again place phase = false

-- whether the recovery that runs is sure to reset a place, or does so
abbrev pub to_link : RecoveryView → ℕ → Bool
to_link s place = list_any (λ task. links_again place (task_stand s task)) s.tasks

-- SError of the place tells that PhyRdy changed (bit 16), or recovery links it again
abbrev pub IsToldOf : PortHead → List Event → ℕ → Type 0
IsToldOf head past place = (has (link_at (links head past) place).serror 16 ≡ true)
    ⊎ (((is_running past && is_autopsied past) ≡ true) × (to_link (recovery head past) place ≡ true))

-- so it is of each place with a device at which no drive is linked
abbrev pub SeveredAreTold : PortHead → List Event → Type 0
SeveredAreTold head past = (place : ℕ) → slice_index_or (attached past) place false ≡ true → linked_at (links head past) place ≡ None
    → IsToldOf head past place
