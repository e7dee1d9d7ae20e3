use Rattle.std.specs.Prelude.{ℕ, ◌==◌, List, [], ◌∷◌, ◌++◌, Option, Some, None, option_map, option_to_list, if◌then◌else◌}
use Rattle.ata_base.specs.declared.cmd.Cmd.{Cmd}
use Rattle.ata_trace.specs.Event.{Event}
use Rattle.ata_trace.specs.Event.Event.{Told}
use Rattle.ata_trace.specs.declared.step.Step.{Step}
use Rattle.ata_trace.specs.declared.act.Act.TheVariants.{Accepted, Issued, AnsweredNodev, Retried, Ended}
use Rattle.host_queue.specs.Waiting.{joined, without_front, put_first, no_lists}
use Rattle.port_past.specs.Commands.{submitted, counted, commands, command_of, place_of}
use Rattle.port_past.specs.Attachment.{detachments}
use Rattle.ata_base.specs.Limits.{most_places}
use Rattle.port_past.specs.Steps.{last_step}

-- `retried C N` gives the command back, `ended` takes all that were given back
abbrev pub retried_after : Event → List Cmd → List Cmd → List Cmd
retried_after (Told (Retried id number allowance_raised)) accepted was =
    was ++ option_to_list (option_map (counted allowance_raised) (command_of id accepted))
retried_after (Told Ended) accepted was = []
retried_after _ accepted was = was

-- the commands that the finish of this recovery retried so far, in the order in which they were told; a finish tells in tag order
abbrev pub retried : List Event → List Cmd
retried [] = []
retried (event ∷ past) = retried_after event (commands past) (retried past)

-- a command that a step submitted joins the end of its place's queue
abbrev pub with_submitted : Option Cmd → List (List Cmd) → List (List Cmd)
with_submitted None was = was
with_submitted (Some c) was = joined c was

-- commands go to the front of their queues, the first of them foremost
abbrev pub with_retried : List Cmd → List (List Cmd) → List (List Cmd)
with_retried [] was = was
with_retried (c ∷ rest) was = put_first c (with_retried rest was)

-- `accepted C` puts C at the end of its queue; `issued C` and `answered C nodev 0` take the front of its place away, which
-- is C on a legal past; at `ended` the retried ones go to the front, the one told first foremost
abbrev pub queues_after : Event → Step → List ℕ → List Cmd → List Cmd → List (List Cmd) → List (List Cmd)
queues_after (Told (Accepted id)) step counts accepted back was = with_submitted (submitted id step counts) was
queues_after (Told (Issued id number tag deadline fis)) step counts accepted back was =
    without_front (place_of id accepted) was
queues_after (Told (AnsweredNodev id number)) step counts accepted back was =
    if number.n == 0 then without_front (place_of id accepted) was else was
queues_after (Told Ended) step counts accepted back was = with_retried back was
queues_after _ step counts accepted back was = was

-- the commands that wait, by place, each queue from its front on
abbrev pub queues : List Event → List (List Cmd)
queues [] = no_lists most_places
queues (event ∷ past) =
    queues_after event (last_step past) (detachments past) (commands past) (retried past) (queues past)
