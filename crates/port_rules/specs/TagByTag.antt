use Rattle.std.specs.Prelude.{ℕ, Bool, not, ◌&&◌, List, [], ◌∷◌, ◌++◌, Option, Some, None, option_map, option_to_list, if◌then◌else◌}
use Rattle.ata_base.specs.declared.cmd.Cmd.{Cmd}
use Rattle.ata_base.specs.declared.err_mask.ErrMask.{ErrMask}
use Rattle.ata_trace.specs.declared.act.Act.{Act}
use Rattle.ata_trace.specs.declared.act.Act.TheVariants.{Condemned}
use Rattle.host_tags.specs.declared.in_flight.InFlight.{InFlight}
use Rattle.port_past.specs.declared.completion.Completion.{Completion}
use Rattle.port_past.specs.declared.judgement.Judgement.{Judgement}
use Rattle.port_past.specs.Commands.{command_of, is_gone}
use Rattle.port_rules.specs.Finish.{finish_act}
use Rattle.port_rules.specs.Sorting.{ok_act}

-- No part of the rules of a port, but words of the code: what the answers, the condemnations and the finish tell of one
-- tag. Lemmas in `proofs/TagByTag.antt` say that each is told tag by tag.

-- what is told of each slot and of what is kept beside it, at most one act a tag, in tag order
abbrev pub each_told : {A B : Type 0} → (A → B → Option Act) → List A → List B → List Act
each_told tell (x ∷ xs) (y ∷ ys) = option_to_list (tell x y) ++ each_told tell xs ys
each_told tell _ _ = []

-- the answer of an issue that is completed and not owned
abbrev pub answer_of : Option InFlight → Option Completion → Option Act
answer_of (Some f) (Some it) = if f.owned then None else Some (ok_act f it)
answer_of _ _ = None

-- the condemnation of an issue that is neither owned nor completed and passes a test
abbrev pub condemnation_of : (InFlight → Bool) → ErrMask → Option InFlight → Option Completion → Option Act
condemnation_of test kinds (Some f) None = if not f.owned && test f then Some (Condemned f.number kinds) else None
condemnation_of test kinds _ _ = None

-- the finish of an owned issue, which was judged, and whose command was accepted
abbrev pub finish_of : List Cmd → List ℕ → Option InFlight → Option Judgement → Option Act
finish_of accepted counts (Some f) (Some j) =
    if f.owned then option_map (λ c. finish_act c f.number j (is_gone c counts)) (command_of f.id accepted) else None
finish_of accepted counts _ _ = None
