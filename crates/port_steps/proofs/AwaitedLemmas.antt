-- The least of the times for which a port waits.
use Rattle.std.proofs.Common.{◌≡◌, ◌∙◌, ℕ, min, nat_lt, List, [], ◌∷◌, ◌++◌, Option, None, Some, filter, option_map, option_to_list, refl, sym, ap, append_assoc}
use Rattle.std.specs.List.{cons_option, reduce}
use Rattle.ata_script.specs.declared.port_head.PortHead.{PortHead}
use Rattle.ata_trace.specs.Event.{Event}
use Rattle.drive_model.specs.View.{DriveView}
use Rattle.eh_flow.specs.declared.phase.Phase.{Phase}
use Rattle.eh_flow.specs.declared.phase.Phase.TheVariants.{ResetOpen, IdentOpen}
use Rattle.host_timer.proofs.ComingLemmas.{above_more}
use Rattle.host_timer.specs.Coming.{coming_of, lesser, time_above, waited_times}
use Rattle.port_past.specs.Clock.{clock}
use Rattle.port_past.specs.Drives.{drive_at}
use Rattle.port_past.specs.Slots.{slots}
use Rattle.port_rules.specs.Coming.{coming, phase_times, waits_since}
use Rattle.port_rules.specs.Phase.{phase}
use Rattle.port_steps.specs.Awaited.{deadline_of, ready_in}

-- a time that may be missing, as a list
as_list : (time : Option ℕ) → option_to_list time ≡ cons_option time []
as_list None = refl
as_list (Some time) = refl

-- the times of an open reset or identity are its deadline and when its drive is ready
times_are :
    (head : PortHead) (past : List Event) (at : Phase)
    → phase_times head past at ≡ cons_option (deadline_of at) [] ++ cons_option (ready_in head past at) []
times_are head past (ResetOpen place attempt ident deadline) =
    ap (λ times. deadline.n ∷ times) (as_list (option_map (λ (d : DriveView). d.ready_at.n) (drive_at head past place)))
times_are head past (IdentOpen place attempt deadline) = refl
times_are head past at = refl

-- the least of some times above the present, and of two more
least_more :
    (now : ℕ) (times : List ℕ) (a b : Option ℕ)
    → reduce min (filter (nat_lt now) (times ++ (cons_option a [] ++ cons_option b [])))
    ≡ lesser (lesser (reduce min (filter (nat_lt now) times)) (time_above now a)) (time_above now b)
least_more now times a b =
    ap (λ all. reduce min (filter (nat_lt now) all)) (sym (append_assoc times (cons_option a []) (cons_option b [])))
    ∙ above_more now (times ++ cons_option a []) b
    ∙ ap (λ least. lesser least (time_above now b)) (above_more now times a)

pub coming_is :
    (head : PortHead) (past : List Event)
    → coming head past
    ≡ lesser (lesser (coming_of (clock past) (waits_since head past) (slots past)) (time_above (clock past) (deadline_of (phase head past))))
    (time_above (clock past) (ready_in head past (phase head past)))
coming_is head past =
    ap (λ times. reduce min (filter (nat_lt (clock past)) (waited_times (waits_since head past) (slots past) ++ times)))
    (times_are head past (phase head past))
    ∙ least_more (clock past) (waited_times (waits_since head past) (slots past)) (deadline_of (phase head past)) (ready_in head past (phase head past))
