-- What becomes of the commands whose issues recovery owns.
use Rattle.std.specs.Prelude.{ℕ, ◌+◌, ◌==◌, ◌&&◌, ◌||◌, Bool, nat_le, if◌then◌else◌}
use Rattle.ata_base.specs.Operations.{is_io}
use Rattle.ata_base.specs.declared.cmd.Cmd.{Cmd}
use Rattle.ata_base.specs.declared.err_mask.ErrMask.{ErrMask}
use Rattle.eh_autopsy.specs.Actions.{is_worth_retry}
use Rattle.eh_flow.specs.declared.issue_finish.Finish.{Finish}
use Rattle.eh_flow.specs.declared.issue_finish.Finish.TheVariants.{NoDev, Retry, Fail}

-- whether a command has no kinds of error: others were at fault
abbrev pub is_blameless : ErrMask → Bool
is_blameless kinds = kinds.0 == 0

-- how often a command may be tried again: as often as its user allows; where the allowance is raised, once more
abbrev pub allowance_of : Cmd → Bool → ℕ
allowance_of c raised = if raised then c.allow + 1 else c.allow

-- whether a command is tried again: it has no kinds or is worth it, and the retries with this one are at most the
-- allowance, which is raised where it has no kinds
abbrev pub is_retried : Cmd → ErrMask → Bool
is_retried c kinds =
    (is_blameless kinds || is_worth_retry (is_io c.op) kinds.0)
    && nat_le (c.retries + 1) (allowance_of c (is_blameless kinds))

-- the first that fits: its device is gone; it is tried again, for free where it has no kinds; it failed
abbrev pub finish_of : Cmd → ErrMask → Bool → Finish
finish_of c kinds gone =
    if gone then NoDev
    else if is_retried c kinds then Retry (is_blameless kinds)
    else Fail
