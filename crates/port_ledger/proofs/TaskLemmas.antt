-- The tasks of a recovery, made place after place.
use Rattle.std.proofs.Common.{◌≡◌, ℕ, ◌+◌, ◌<◌, ◌≤◌, Bool, true, false, ◌||◌, List, [], ◌∷◌, ◌++◌, Option, None, Some, length, get_or, drop, if◌then◌else◌, append_assoc, append-nil}
use Rattle.std.proofs.lemmas.List.{drop_all, drop_more}
use Rattle.ata_base.specs.declared.link_action.LinkAction.{LinkAction}
use Rattle.ata_base.specs.declared.link_action.LinkAction.TheVariants.{NoAction, Revalidate, Reset}
use Rattle.port_past.specs.declared.task.Task.{Task}
use Rattle.port_past.specs.declared.task.Task.TheVariants.{Reset as ResetOf}
use Rattle.port_past.specs.Tasks.{action_tasks, reset_tasks, with_action}

reset_by : (b : Bool) (at : ℕ) (tasks rest : List Task) → (tasks ++ (if b then ResetOf at ∷ [] else [])) ++ rest ≡ tasks ++ (if b then ResetOf at ∷ rest else rest)
reset_by true at tasks rest = append_assoc tasks (ResetOf at ∷ []) rest
reset_by false at tasks rest = append_assoc tasks [] rest

-- one place more
pub reset_step : (at : ℕ) (there hot : List Bool) (wanted : Bool) (tasks : List Task) → at < length there → at < length hot → wanted ≡ (get_or there at false || get_or hot at false)
    → (tasks ++ (if wanted then ResetOf at ∷ [] else [])) ++ reset_tasks (at + 1) (drop (at + 1) there) (drop (at + 1) hot) ≡ tasks ++ reset_tasks at (drop at there) (drop at hot)
reset_step at there hot wanted tasks within inside is =
    rw (drop_more there at false within, drop_more hot at false inside, is)
    (reset_by (get_or there at false || get_or hot at false) at tasks (reset_tasks (at + 1) (drop (at + 1) there) (drop (at + 1) hot)))

-- none is left
pub reset_end : (at : ℕ) (there hot : List Bool) (tasks : List Task) → length there ≤ at → tasks ++ reset_tasks at (drop at there) (drop at hot) ≡ tasks
reset_end at there hot tasks past = rw (drop_all at there past) (append-nil tasks)

action_by : (action : Option LinkAction) (at : ℕ) (tasks rest : List Task) → (tasks ++ with_action at action []) ++ rest ≡ tasks ++ with_action at action rest
action_by None at tasks rest = append_assoc tasks [] rest
action_by (Some NoAction) at tasks rest = append_assoc tasks [] rest
action_by (Some Revalidate) at tasks rest = append_assoc tasks _ rest
action_by (Some Reset) at tasks rest = append_assoc tasks _ rest

-- one place more
pub action_step : (at : ℕ) (wanted : List (Option LinkAction)) (action : Option LinkAction) (tasks : List Task) → at < length wanted → action ≡ get_or wanted at action
    → (tasks ++ with_action at action []) ++ action_tasks (at + 1) (drop (at + 1) wanted) ≡ tasks ++ action_tasks at (drop at wanted)
action_step at wanted action tasks within is =
    rw (drop_more wanted at action within, ← is) (action_by action at tasks (action_tasks (at + 1) (drop (at + 1) wanted)))

-- none is left
pub action_end : (at : ℕ) (wanted : List (Option LinkAction)) (tasks : List Task) → length wanted ≤ at → tasks ++ action_tasks at (drop at wanted) ≡ tasks
action_end at wanted tasks past = rw (drop_all at wanted past) (append-nil tasks)
