use Rattle.std.specs.Prelude.{ℕ, ◌==◌, Bool, false, ◌&&◌, ◌||◌, not, List, [], ◌∷◌, Option, is_none, if◌then◌else◌}
use Rattle.std.specs.List.{list_any}
use Rattle.std.specs.Option.{option_map_or}
use Rattle.ata_base.specs.Reasons.{first_reason}
use Rattle.ata_base.specs.declared.deferral.Deferral.{Deferral}
use Rattle.ata_base.specs.declared.deferral.Deferral.TheVariants.{Frozen, Recovering, LinkBusy, PortBusy, NoTag}
use Rattle.ata_base.specs.Limits.{tag_count}
use Rattle.host_tags.specs.Slots.{free_below}
use Rattle.host_defer.specs.declared.view.View.{View}

-- What a command has to wait for. The slots are those of the port's tags: the place of the issue in
-- flight and whether it is queued, None where the tag is free. (This project's own rule, in outline
-- after libata: queued beside unqueued commands, and command-based switching of a multiplier.)

-- whether the issue in a slot is at this place
abbrev pub is_at : ℕ → Option (ℕ × Bool) → Bool
is_at x slot = option_map_or (λ f. f.0 == x) slot false

-- whether an unqueued issue at this place is in a slot
abbrev pub is_unqueued_at : ℕ → Option (ℕ × Bool) → Bool
is_unqueued_at x slot = option_map_or (λ f. (f.0 == x) && not f.1) slot false

-- whether the issue in a slot is at another place
abbrev pub is_elsewhere : ℕ → Option (ℕ × Bool) → Bool
is_elsewhere x slot = option_map_or (λ f. not (f.0 == x)) slot false

-- whether another place alone may issue
abbrev pub is_taken : Option ℕ → ℕ → Bool
is_taken exclusive x = option_map_or (λ place. not (place == x)) exclusive false

-- beside a queued command no unqueued one may be in flight at its place, beside an unqueued one none
abbrev pub is_link_busy : List (Option (ℕ × Bool)) → ℕ → Bool → Bool
is_link_busy slots x queued = if queued then list_any (is_unqueued_at x) slots else list_any (is_at x) slots

-- on a multiplier without FIS-based switching an issue of another place is in flight, or another place alone
-- may issue
abbrev pub is_port_busy : View → ℕ → Bool
is_port_busy v x = v.pmp && not v.fbs && (list_any (is_elsewhere x) v.slots || is_taken v.exclusive x)

-- no tag is free, for a queued command none below the depth of its device
abbrev pub has_no_tag : List (Option (ℕ × Bool)) → Bool → ℕ → Bool
has_no_tag slots queued depth = is_none (free_below (if queued then depth else tag_count) slots)

-- each reason to defer a command of place x, in order, and whether it holds
abbrev pub reasons : View → ℕ → Bool → ℕ → List (Deferral × Bool)
reasons v x queued depth =
    (Frozen, v.frozen)
    ∷ (Recovering, v.recovering)
    ∷ (LinkBusy, is_link_busy v.slots x queued)
    ∷ (PortBusy, is_port_busy v x)
    ∷ (NoTag, has_no_tag v.slots queued depth)
    ∷ []

-- why a command is deferred: the first reason that holds; where there is none, it may be issued
abbrev pub deferral_of : View → ℕ → Bool → ℕ → Option Deferral
deferral_of v x queued depth = first_reason (reasons v x queued depth)
