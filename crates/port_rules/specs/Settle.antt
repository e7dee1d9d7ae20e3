use Rattle.std.specs.Prelude.{ℕ, zero, suc, ◌+◌, ◌-◌, Bool, true, false, not, ◌&&◌, List, [], ◌∷◌, ◌++◌, length, map, Option, Some, None, if◌then◌else◌}
use Rattle.std.specs.List.{list_all}
use Rattle.ata_script.specs.declared.port_head.PortHead.{PortHead}
use Rattle.ata_trace.specs.Entries.{EntryView, grown, past_from, past_of}
use Rattle.ata_trace.specs.Event.{Event}
use Rattle.ata_trace.specs.declared.act.Act.{Act}
use Rattle.ata_trace.specs.declared.act.Act.TheVariants.{Nothing, Deferred, WaitingTag, WaitingReset, WaitingIdent}
use Rattle.ata_trace.specs.declared.step.Step.{Step}
use Rattle.ata_trace.specs.declared.step.Step.TheVariants.{Kick, Work, Irq, Expire, Recover, Tick}
use Rattle.ata_trace.specs.declared.who.Who.TheVariants.{Settle}
use Rattle.port_past.specs.Clock.{clock}
use Rattle.port_past.specs.PortState.{is_recovering}
use Rattle.port_past.specs.Live.{live}
use Rattle.port_past.specs.Settlings.{settle_count}
use Rattle.port_past.specs.Heads.{places_of}
use Rattle.port_rules.specs.Coming.{coming}
use Rattle.port_rules.specs.Legal.{entry_after}
use Rattle.port_rules.specs.Run.{StepCall, numbered, run_from, run}

-- the steps of a round: each place is kicked, each drive works, and then the port's own steps
abbrev pub round_steps : PortHead → List Step
round_steps head =
    map (λ (place : ℕ). Kick place) (places_of head)
    ++ map (λ (place : ℕ). Work place 0) (places_of head)
    ++ Irq ∷ Expire ∷ Recover ∷ []

-- these steps of the settling, numbered on from here
abbrev pub calls_from : ℕ → List Step → List StepCall
calls_from seq steps = numbered Settle seq steps

-- whether an act is nothing, deferred or waiting
abbrev pub is_idle_act : Act → Bool
is_idle_act Nothing = true
is_idle_act (Deferred id why) = true
is_idle_act (WaitingTag tag) = true
is_idle_act (WaitingReset place) = true
is_idle_act (WaitingIdent place) = true
is_idle_act _ = false

-- whether entries have only such acts: nothing, deferred and waiting
abbrev pub are_idle : List EntryView → Bool
are_idle entries = list_all (λ (e : EntryView). list_all is_idle_act e.acts) entries

-- whether a list is empty
abbrev pub is_empty : List ℕ → Bool
is_empty [] = true
is_empty (id ∷ rest) = false

-- whether nothing is left to do: no command is live, and the port isn't recovering
abbrev pub is_settled : List Event → Bool
is_settled past = is_empty (live past) && not (is_recovering past)

-- after an idle round a tick to the next coming time, and what follows it; nothing where there is no such time
abbrev pub after_tick : PortHead → ℕ → List Event → (ℕ → List Event → List EntryView) → Option ℕ → List EntryView
after_tick head seq past next None = []
after_tick head seq past next (Some time) =
    let tick : EntryView = entry_after head past Settle seq (Tick (time - clock past)) in
    tick ∷ next (seq + 1) (grown past tick)

-- what follows a round
abbrev pub after_round : PortHead → ℕ → List Event → (ℕ → List Event → List EntryView) → Bool → List EntryView
after_round head seq past next idle = if idle then after_tick head seq past next (coming head past) else next seq past

-- at most so many rounds, until nothing is left to do
abbrev pub rounds_from : PortHead → ℕ → ℕ → List Event → List EntryView
rounds_from head zero seq past = []
rounds_from head (suc rounds) seq past =
    if is_settled past then []
    else
    let round : List EntryView = run_from head past (calls_from seq (round_steps head)) in
    round ++ after_round head (seq + length round) (past_from past round) (rounds_from head rounds) (are_idle round)

-- the settling entries after this past, with at most so many rounds
abbrev pub settling : PortHead → ℕ → List Event → List EntryView
settling head rounds past = rounds_from head rounds (settle_count past) past

-- the journal of these steps, settled
abbrev pub settled_journal : ℕ → PortHead → List StepCall → List EntryView
settled_journal rounds head asked =
    let entries : List EntryView = run head asked in
    entries ++ settling head rounds (past_of entries)
