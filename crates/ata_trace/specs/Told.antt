-- The act whose words these may be. Right where they are those of an act.
use Rattle.std.specs.Prelude.{ℕ, Bool, List, codes, if◌then◌else◌}
use Rattle.std.specs.Str.{bytes_eq}
use Rattle.ata_trace.specs.Parts.{parts_of, first, later}
use Rattle.ata_trace.specs.Reading.{number_in, any_in, where_in, byte_in, frame_in, name_in, after_name, kinds_in, refusal_in, deferral_in, action_in, speed_in, stamps_in, who_in, op_in, after_op, fault_in}
use Rattle.ata_base.specs.declared.ms.Ms.{Ms}
use Rattle.ata_trace.specs.declared.act.Act.{Act}
use Rattle.ata_trace.specs.declared.act.Act.TheVariants.{Accepted, Refused, Issued, Deferred, Exclusive, Done, Aborted, Raised, Lost, AnsweredOk, AnsweredFailed, AnsweredNodev, Expired, Drained, Condemned, Frozen, Thawed, Requested, Begun, Autopsied, Ended, Log, LogFailed, LogBadSum, LogNotQueued, Judged, Recorded, Cleared, Hot, Action, ResetBegun, ResetLate, ResetFailed, ResetEndedGen, ResetEndedNone, ResetEndedHost, IdentAsked, IdentLate, Identified, Same, Attached, Detached, Disabled, Mode, Retried, WaitingTag, WaitingReset, WaitingIdent, Now, Plugged, Unplugged, Injected, Nothing}
use Rattle.ata_trace.specs.declared.step.Step.{Step}
use Rattle.ata_trace.specs.declared.step.Step.TheVariants.{Submit, Kick, Work, Irq, Drop, Stray, Tick, Expire, Recover, Plug, Unplug, Inject, Boot}
use Rattle.ata_trace.specs.declared.who.Who.{Who}

-- the second word, and so on
abbrev pub second : List (List ℕ) → List ℕ
second ws = first (later ws)

abbrev pub third : List (List ℕ) → List ℕ
third ws = second (later ws)

abbrev pub fourth : List (List ℕ) → List ℕ
fourth ws = third (later ws)

abbrev pub fifth : List (List ℕ) → List ℕ
fifth ws = fourth (later ws)

abbrev pub sixth : List (List ℕ) → List ℕ
sixth ws = fifth (later ws)

abbrev pub seventh : List (List ℕ) → List ℕ
seventh ws = sixth (later ws)

-- the words behind the third, and so on
abbrev pub after_two : List (List ℕ) → List (List ℕ)
after_two ws = later (later ws)

abbrev pub after_three : List (List ℕ) → List (List ℕ)
after_three ws = later (after_two ws)

abbrev pub after_four : List (List ℕ) → List (List ℕ)
after_four ws = later (after_three ws)

abbrev pub after_five : List (List ℕ) → List (List ℕ)
after_five ws = later (after_four ws)

abbrev pub after_seven : List (List ℕ) → List (List ℕ)
after_seven ws = after_two (after_five ws)

abbrev pub id_in : List ℕ → ℕ
id_in word = number_in 1 65535 word

abbrev pub place_in : List ℕ → ℕ
place_in word = number_in 0 14 word

abbrev pub tag_in : List ℕ → ℕ
tag_in word = number_in 0 31 word

abbrev pub small_in : List ℕ → ℕ
small_in word = number_in 0 255 word

abbrev pub count_in : List ℕ → ℕ
count_in word = number_in 0 65535 word

-- whether the word is this one
abbrev pub is : List ℕ → List ℕ → Bool
is word expected = bytes_eq word expected

-- an act of waiting, of the time, of plugs or of nothing
unfoldable pub waiting_told : List (List ℕ) → Act
waiting_told ws =
    if is (first ws) (codes "tag") then WaitingTag (tag_in (second ws))
    else if is (first ws) (codes "reset") then WaitingReset (place_in (second ws))
    else WaitingIdent (place_in (second ws))

unfoldable pub other_told : List ℕ → List (List ℕ) → Act
other_told name ws =
    if is name (codes "waiting") then waiting_told ws
    else if is name (codes "now") then Now (record { n = any_in (first ws) })
    else if is name (codes "plugged") then Plugged (place_in (first ws)) (tag_in (second ws))
    else if is name (codes "unplugged") then Unplugged (place_in (first ws))
    else if is name (codes "injected") then Injected (place_in (first ws))
    else Nothing

-- an act of devices, or one of those
unfoldable pub device_told : List ℕ → List (List ℕ) → Act
device_told name ws =
    if is name (codes "identified") then Identified (place_in (first ws)) (name_in 40 (second ws)) (name_in 20 (third ws)) (any_in (fourth ws)) (small_in (fifth ws))
    else if is name (codes "same") then Same (place_in (first ws))
    else if is name (codes "attached") then Attached (place_in (first ws))
    else if is name (codes "detached") then Detached (place_in (first ws))
    else if is name (codes "disabled") then Disabled (place_in (first ws))
    else if is name (codes "mode") then Mode (place_in (first ws)) (small_in (second ws)) (is (third ws) (codes "on")) (is (fourth ws) (codes "dubious"))
    else other_told name ws

-- the end of a reset
unfoldable pub reset_ended_told : List (List ℕ) → Act
reset_ended_told ws =
    if is (first ws) (codes "host") then ResetEndedHost
    else if is (second ws) (codes "none") then ResetEndedNone (place_in (first ws))
    else ResetEndedGen (place_in (first ws)) (small_in (third ws))

-- an act of resets or of asking for an identity, or one of those
unfoldable pub reset_told : List ℕ → List (List ℕ) → Act
reset_told name ws =
    if is name (codes "reset-begun") then ResetBegun (where_in (first ws)) (small_in (second ws)) (record { n = any_in (third ws) })
    else if is name (codes "reset-late") then ResetLate (where_in (first ws))
    else if is name (codes "reset-failed") then ResetFailed (where_in (first ws))
    else if is name (codes "reset-ended") then reset_ended_told ws
    else if is name (codes "ident-asked") then IdentAsked (place_in (first ws)) (small_in (second ws)) (record { n = any_in (third ws) })
    else if is name (codes "ident-late") then IdentLate (place_in (first ws))
    else device_told name ws

-- what was read of a log
unfoldable pub log_told : List (List ℕ) → Act
log_told ws =
    if is (second ws) (codes "failed") then LogFailed (place_in (first ws))
    else if is (second ws) (codes "bad-sum") then LogBadSum (place_in (first ws))
    else if is (second ws) (codes "not-queued") then LogNotQueued (place_in (first ws))
    else Log (place_in (first ws)) (tag_in (third ws)) (byte_in (fourth ws)) (byte_in (fifth ws)) (any_in (sixth ws)) (count_in (seventh ws))

-- what a ring says, each word looked for in its turn
abbrev pub ncq_off_in : List ℕ → Bool
ncq_off_in word = is (first (parts_of 43 word)) (codes "ncq-off")

abbrev pub speed_down_in : List ℕ → Bool
speed_down_in word = is (first (after_name (parts_of 43 word) (codes "ncq-off"))) (codes "speed-down")

abbrev pub pio_in : List ℕ → Bool
pio_in word = is (first (after_name (after_name (parts_of 43 word) (codes "ncq-off")) (codes "speed-down"))) (codes "pio")

abbrev pub keep_in : List ℕ → Bool
keep_in word = is (first (after_name (after_name (after_name (parts_of 43 word) (codes "ncq-off")) (codes "speed-down")) (codes "pio"))) (codes "keep")

unfoldable pub recorded_told : List (List ℕ) → Act
recorded_told ws =
    Recorded (place_in (first ws)) (is (second ws) (codes "io")) (is (third ws) (codes "dubious")) (record { 0 = kinds_in (fourth ws) })
    (ncq_off_in (fifth ws)) (speed_down_in (fifth ws)) (pio_in (fifth ws)) (keep_in (fifth ws)) (speed_in (after_five ws))

-- an act of logs or of the ring, or one of those
unfoldable pub ring_told : List ℕ → List (List ℕ) → Act
ring_told name ws =
    if is name (codes "log") then log_told ws
    else if is name (codes "recorded") then recorded_told ws
    else reset_told name ws

-- an act of recovery, or one of those
unfoldable pub recovery_told : List ℕ → List (List ℕ) → Act
recovery_told name ws =
    if is name (codes "condemned") then Condemned (record { n = any_in (first ws) }) (record { 0 = kinds_in (second ws) })
    else if is name (codes "frozen") then Frozen
    else if is name (codes "thawed") then Thawed
    else if is name (codes "requested") then Requested
    else if is name (codes "begun") then Begun
    else if is name (codes "autopsied") then Autopsied
    else if is name (codes "ended") then Ended
    else if is name (codes "judged") then Judged (record { n = any_in (first ws) }) (record { 0 = kinds_in (second ws) })
    else if is name (codes "cleared") then Cleared (place_in (first ws))
    else if is name (codes "hot") then Hot (place_in (first ws)) (small_in (second ws))
    else if is name (codes "action") then Action (place_in (first ws)) (record { 0 = kinds_in (second ws) }) (action_in (third ws))
    else ring_told name ws

-- an answer
unfoldable pub answered_told : List (List ℕ) → Act
answered_told ws =
    if is (third ws) (codes "ok") then
    AnsweredOk (id_in (first ws)) (record { n = any_in (second ws) }) (byte_in (fourth ws)) (byte_in (fifth ws)) (any_in (sixth ws)) (count_in (seventh ws)) (stamps_in 16 (after_seven ws))
    else if is (third ws) (codes "failed") then
    AnsweredFailed (id_in (first ws)) (record { n = any_in (second ws) }) (record { 0 = kinds_in (fourth ws) }) (byte_in (fifth ws)) (byte_in (sixth ws)) (any_in (seventh ws)) (count_in (first (after_seven ws)))
    else AnsweredNodev (id_in (first ws)) (record { n = any_in (second ws) })

-- an act of answers, or one of those
unfoldable pub answer_told : List ℕ → List (List ℕ) → Act
answer_told name ws =
    if is name (codes "answered") then answered_told ws
    else if is name (codes "expired") then Expired (id_in (first ws)) (record { n = any_in (second ws) })
    else if is name (codes "drained") then Drained
    else if is name (codes "retried") then Retried (id_in (first ws)) (record { n = any_in (second ws) }) (is (third ws) (codes "yes"))
    else recovery_told name ws

-- an act of commands or of the line, or one of those
unfoldable pub command_told : List ℕ → List (List ℕ) → Act
command_told name ws =
    if is name (codes "accepted") then Accepted (id_in (first ws))
    else if is name (codes "refused") then Refused (id_in (first ws)) (refusal_in (second ws))
    else if is name (codes "issued") then Issued (id_in (first ws)) (record { n = any_in (second ws) }) (tag_in (third ws)) (record { n = any_in (fourth ws) }) (frame_in (fifth ws))
    else if is name (codes "deferred") then Deferred (id_in (first ws)) (deferral_in (second ws))
    else if is name (codes "exclusive") then Exclusive (place_in (first ws))
    else if is name (codes "done") then Done (record { n = any_in (first ws) }) (byte_in (second ws)) (byte_in (third ws)) (any_in (fourth ws)) (count_in (fifth ws))
    else if is name (codes "aborted") then Aborted (record { n = any_in (first ws) })
    else if is name (codes "raised") then Raised
    else if is name (codes "lost") then Lost
    else answer_told name ws

-- the act of the words of a line: the first is a dash
abbrev pub act_told : List (List ℕ) → Act
act_told ws = command_told (second ws) (after_two ws)

-- the step of the words behind its name
unfoldable pub submit_told : List (List ℕ) → Step
submit_told ws =
    Submit (id_in (first ws)) (place_in (second ws)) (op_in (third ws) (after_three ws))
    (number_in 0 100 (first (after_op (third ws) (after_three ws)))) (number_in 1 1000000 (second (after_op (third ws) (after_three ws))))

unfoldable pub plug_told : List ℕ → List (List ℕ) → Step
plug_told name ws =
    if is name (codes "plug") then Plug (place_in (first ws)) (tag_in (second ws))
    else if is name (codes "unplug") then Unplug (place_in (first ws))
    else if is name (codes "inject") then Inject (place_in (first ws)) (fault_in (second ws) (third ws))
    else Boot

unfoldable pub step_told : List ℕ → List (List ℕ) → Step
step_told name ws =
    if is name (codes "submit") then submit_told ws
    else if is name (codes "kick") then Kick (place_in (first ws))
    else if is name (codes "work") then Work (place_in (first ws)) (tag_in (second ws))
    else if is name (codes "irq") then Irq
    else if is name (codes "drop") then Drop
    else if is name (codes "stray") then Stray (tag_in (first ws))
    else if is name (codes "tick") then Tick (number_in 0 1000000 (first ws))
    else if is name (codes "expire") then Expire
    else if is name (codes "recover") then Recover
    else plug_told name ws

-- the head of the words of a line: the first is `at`
abbrev pub head_told : List (List ℕ) → Ms × Who × ℕ × Step
head_told ws = (record { n = any_in (second ws) }, who_in (third ws), any_in (fourth ws), step_told (fifth ws) (after_five ws))
