-- How often a command is accepted, answered, live, in flight, waits and is given back.
use Rattle.std.specs.Prelude.{◌≡◌, ℕ, ◌+◌, ◌≤◌, ◌==◌, Bool, false, List, [], ◌∷◌, Option, None, Some, if◌then◌else◌}
use Rattle.std.specs.List.{count_by, sum_by}
use Rattle.std.specs.Option.{option_map_or}
use Rattle.ata_trace.specs.Event.{Event}
use Rattle.ata_trace.specs.Event.Event.{Told}
use Rattle.ata_trace.specs.declared.act.Act.TheVariants.{Accepted}
use Rattle.host_tags.specs.declared.in_flight.InFlight.{InFlight}
use Rattle.port_past.specs.Answers.{answered_command}
use Rattle.port_past.specs.Live.{live}
use Rattle.port_past.specs.Queues.{queues, retried}
use Rattle.port_past.specs.Slots.{slots}

-- 1 for what is so, 0 for what isn't
abbrev pub one_if : Bool → ℕ
one_if b = if b then 1 else 0

-- each `accepted C` is an acceptance of C
abbrev pub acceptances_after : ℕ → Event → ℕ → ℕ
acceptances_after id (Told (Accepted c)) was = was + one_if (c == id)
acceptances_after id _ was = was

-- how often this command was accepted
abbrev pub acceptances : ℕ → List Event → ℕ
acceptances id [] = 0
acceptances id (event ∷ past) = acceptances_after id event (acceptances id past)

-- whether an answer is of this command
abbrev pub is_answer_of : ℕ → Option ℕ → Bool
is_answer_of id None = false
is_answer_of id (Some c) = c == id

-- each of the three answers is an answer of its command
abbrev pub answers_after : ℕ → Event → ℕ → ℕ
answers_after id (Told act) was = if is_answer_of id (answered_command act) then was + 1 else was
answers_after id _ was = was

-- how often this command was answered
abbrev pub answers : ℕ → List Event → ℕ
answers id [] = 0
answers id (event ∷ past) = answers_after id event (answers id past)

-- how often this command is listed live
abbrev pub lives : ℕ → List Event → ℕ
lives id past = count_by (λ c. c == id) (live past)

-- whether an issue of this command is in a slot
abbrev pub is_issue_of : ℕ → Option InFlight → Bool
is_issue_of id slot = option_map_or (λ f. f.id == id) slot false

-- how many issues of this command are in flight
abbrev pub flights : ℕ → List Event → ℕ
flights id past = count_by (is_issue_of id) (slots past)

-- how often this command waits in a queue
abbrev pub waits : ℕ → List Event → ℕ
waits id past = sum_by (count_by (λ c. c.id == id)) (queues past)

-- how often the finish has given this command back, for the queues to take
abbrev pub returns : ℕ → List Event → ℕ
returns id past = count_by (λ c. c.id == id) (retried past)

-- a command is accepted at most once; once it is accepted, it is answered once or listed live once, and it is answered, has one
-- issue in flight, waits, or is given back by the finish
pub record IsOnceOrLive (id : ℕ) (past : List Event) : Type 0 where
  pub accepted_once : acceptances id past ≤ 1
  pub answered_or_live : answers id past + lives id past ≡ acceptances id past
  pub answered_or_here : answers id past + flights id past + waits id past + returns id past ≡ acceptances id past
  pub one_issue : flights id past ≤ 1
