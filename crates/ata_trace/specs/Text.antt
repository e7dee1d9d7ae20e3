use Rattle.std.specs.Prelude.{ℕ, List, [], ◌∷◌, ◌++◌, map, codes, decimal}
use Rattle.hex.specs.Hex.{encode_lower}
use Rattle.ata_trace.specs.Words.{byte_word, either_word, where_word, kinds_word, verdict_word, who_word, refusal_word, deferral_word, action_word, speed_words, op_words, fault_words}
use Rattle.ata_trace.specs.declared.act.Act.{Act}
use Rattle.ata_trace.specs.declared.act.Act.TheVariants.{Accepted, Refused, Issued, Deferred, Exclusive, Done, Aborted, Raised, Lost, AnsweredOk, AnsweredFailed, AnsweredNodev, Expired, Drained, Condemned, Frozen, Thawed, Requested, Begun, Autopsied, Ended, Log, LogFailed, LogBadSum, LogNotQueued, Judged, Recorded, Cleared, Hot, Action, ResetBegun, ResetLate, ResetFailed, ResetEndedGen, ResetEndedNone, ResetEndedHost, IdentAsked, IdentLate, Identified, Same, Attached, Detached, Disabled, Mode, Retried, WaitingTag, WaitingReset, WaitingIdent, Now, Plugged, Unplugged, Injected}
use Rattle.ata_trace.specs.declared.step.Step.{Step}
use Rattle.ata_trace.specs.declared.step.Step.TheVariants.{Submit, Kick, Work, Irq, Drop, Stray, Tick, Expire, Recover, Plug, Unplug, Inject, Boot}
use Rattle.ata_trace.specs.declared.who.Who.{Who}

-- a text, and after it the words, one space before each
abbrev pub joined : List ℕ → List (List ℕ) → List ℕ
joined text [] = text
joined text (word ∷ rest) = joined (text ++ 32 ∷ word) rest

-- the words of a step
abbrev pub step_words : Step → List (List ℕ)
step_words (Submit id place op allow wait) = codes "submit" ∷ decimal id ∷ decimal place ∷ (op_words op ++ decimal allow ∷ decimal wait ∷ [])
step_words (Kick place) = codes "kick" ∷ decimal place ∷ []
step_words (Work place pick) = codes "work" ∷ decimal place ∷ decimal pick ∷ []
step_words Irq = codes "irq" ∷ []
step_words Drop = codes "drop" ∷ []
step_words (Stray tag) = codes "stray" ∷ decimal tag ∷ []
step_words (Tick ms) = codes "tick" ∷ decimal ms ∷ []
step_words Expire = codes "expire" ∷ []
step_words Recover = codes "recover" ∷ []
step_words (Plug place drive) = codes "plug" ∷ decimal place ∷ decimal drive ∷ []
step_words (Unplug place) = codes "unplug" ∷ decimal place ∷ []
step_words (Inject place fault) = codes "inject" ∷ decimal place ∷ fault_words fault
step_words Boot = codes "boot" ∷ []

-- the words of an act: a status and an error register in hexadecimal digits, as are the bytes of a
-- frame, and every other number in decimal. They come in groups, from the last on; first those of
-- waiting, of the time, of plugs and of nothing
abbrev pub other_words : Act → List (List ℕ)
other_words (WaitingTag tag) = codes "waiting" ∷ codes "tag" ∷ decimal tag ∷ []
other_words (WaitingReset place) = codes "waiting" ∷ codes "reset" ∷ decimal place ∷ []
other_words (WaitingIdent place) = codes "waiting" ∷ codes "ident" ∷ decimal place ∷ []
other_words (Now at) = codes "now" ∷ decimal at.n ∷ []
other_words (Plugged place drive) = codes "plugged" ∷ decimal place ∷ decimal drive ∷ []
other_words (Unplugged place) = codes "unplugged" ∷ decimal place ∷ []
other_words (Injected place) = codes "injected" ∷ decimal place ∷ []
other_words act = codes "nothing" ∷ []

-- those of devices
abbrev pub device_words : Act → List (List ℕ)
device_words (Identified place model serial sectors depth) = codes "identified" ∷ decimal place ∷ model ∷ serial ∷ decimal sectors ∷ decimal depth ∷ []
device_words (Same place) = codes "same" ∷ decimal place ∷ []
device_words (Attached place) = codes "attached" ∷ decimal place ∷ []
device_words (Detached place) = codes "detached" ∷ decimal place ∷ []
device_words (Disabled place) = codes "disabled" ∷ decimal place ∷ []
device_words (Mode place udma ncq dubious) =
    codes "mode" ∷ decimal place ∷ decimal udma
    ∷ either_word (codes "on") (codes "off") ncq ∷ either_word (codes "dubious") (codes "clean") dubious ∷ []
device_words act = other_words act

-- those of resets, and of asking who a drive is
abbrev pub reset_words : Act → List (List ℕ)
reset_words (ResetBegun place attempt deadline) = codes "reset-begun" ∷ where_word place ∷ decimal attempt ∷ decimal deadline.n ∷ []
reset_words (ResetLate place) = codes "reset-late" ∷ where_word place ∷ []
reset_words (ResetFailed place) = codes "reset-failed" ∷ where_word place ∷ []
reset_words (ResetEndedGen place generation) = codes "reset-ended" ∷ decimal place ∷ codes "gen" ∷ decimal generation ∷ []
reset_words (ResetEndedNone place) = codes "reset-ended" ∷ decimal place ∷ codes "none" ∷ []
reset_words ResetEndedHost = codes "reset-ended" ∷ codes "host" ∷ []
reset_words (IdentAsked place attempt deadline) = codes "ident-asked" ∷ decimal place ∷ decimal attempt ∷ decimal deadline.n ∷ []
reset_words (IdentLate place) = codes "ident-late" ∷ decimal place ∷ []
reset_words act = device_words act

-- those of the ring of errors
abbrev pub ring_words : Act → List (List ℕ)
ring_words (Recorded place io dubious kinds ncq_off speed_down pio keep action) =
    codes "recorded" ∷ decimal place ∷ either_word (codes "io") (codes "other") io ∷ either_word (codes "dubious") (codes "clean") dubious
    ∷ kinds_word kinds.0 ∷ verdict_word ncq_off speed_down pio keep ∷ speed_words action
ring_words (Cleared place) = codes "cleared" ∷ decimal place ∷ []
ring_words (Hot place generation) = codes "hot" ∷ decimal place ∷ decimal generation ∷ []
ring_words act = reset_words act

-- those of the error log
abbrev pub log_words : Act → List (List ℕ)
log_words (Log place tag status error lba count) =
    codes "log" ∷ decimal place ∷ codes "tag" ∷ decimal tag ∷ byte_word status ∷ byte_word error ∷ decimal lba ∷ decimal count ∷ []
log_words (LogFailed place) = codes "log" ∷ decimal place ∷ codes "failed" ∷ []
log_words (LogBadSum place) = codes "log" ∷ decimal place ∷ codes "bad-sum" ∷ []
log_words (LogNotQueued place) = codes "log" ∷ decimal place ∷ codes "not-queued" ∷ []
log_words act = ring_words act

-- those of the stages of recovery
abbrev pub recovery_words : Act → List (List ℕ)
recovery_words Frozen = codes "frozen" ∷ []
recovery_words Thawed = codes "thawed" ∷ []
recovery_words Requested = codes "requested" ∷ []
recovery_words Begun = codes "begun" ∷ []
recovery_words Autopsied = codes "autopsied" ∷ []
recovery_words Ended = codes "ended" ∷ []
recovery_words act = log_words act

-- those with kinds of error
abbrev pub judgement_words : Act → List (List ℕ)
judgement_words (AnsweredFailed id number kinds status error lba count) =
    codes "answered" ∷ decimal id ∷ decimal number.n ∷ codes "failed" ∷ kinds_word kinds.0
    ∷ byte_word status ∷ byte_word error ∷ decimal lba ∷ decimal count ∷ []
judgement_words (Condemned number kinds) = codes "condemned" ∷ decimal number.n ∷ kinds_word kinds.0 ∷ []
judgement_words (Judged number kinds) = codes "judged" ∷ decimal number.n ∷ kinds_word kinds.0 ∷ []
judgement_words (Action place kinds remedy) = codes "action" ∷ decimal place ∷ kinds_word kinds.0 ∷ action_word remedy ∷ []
judgement_words act = recovery_words act

-- those of a command that recovery leaves alone, that has no device or that is tried again
abbrev pub answer_words : Act → List (List ℕ)
answer_words (AnsweredOk id number status error lba count stamps) =
    codes "answered" ∷ decimal id ∷ decimal number.n ∷ codes "ok"
    ∷ byte_word status ∷ byte_word error ∷ decimal lba ∷ decimal count ∷ map decimal stamps
answer_words (AnsweredNodev id number) = codes "answered" ∷ decimal id ∷ decimal number.n ∷ codes "nodev" ∷ []
answer_words (Retried id number allowance_raised) = codes "retried" ∷ decimal id ∷ decimal number.n ∷ either_word (codes "yes") (codes "no") allowance_raised ∷ []
answer_words act = judgement_words act

-- those of the drive, of the interrupt line and of the timer
abbrev pub drive_words : Act → List (List ℕ)
drive_words (Done number status error lba count) =
    codes "done" ∷ decimal number.n ∷ byte_word status ∷ byte_word error ∷ decimal lba ∷ decimal count ∷ []
drive_words (Aborted number) = codes "aborted" ∷ decimal number.n ∷ []
drive_words Raised = codes "raised" ∷ []
drive_words Lost = codes "lost" ∷ []
drive_words (Expired id number) = codes "expired" ∷ decimal id ∷ decimal number.n ∷ []
drive_words Drained = codes "drained" ∷ []
drive_words act = answer_words act

-- those of commands
abbrev pub act_words : Act → List (List ℕ)
act_words (Accepted id) = codes "accepted" ∷ decimal id ∷ []
act_words (Refused id why) = codes "refused" ∷ decimal id ∷ refusal_word why ∷ []
act_words (Issued id number tag deadline fis) =
    codes "issued" ∷ decimal id ∷ decimal number.n ∷ decimal tag ∷ decimal deadline.n ∷ encode_lower fis ∷ []
act_words (Deferred id why) = codes "deferred" ∷ decimal id ∷ deferral_word why ∷ []
act_words (Exclusive place) = codes "exclusive" ∷ decimal place ∷ []
act_words act = drive_words act

-- the line of an act, with its line feed: a dash and the words
abbrev pub act_line : Act → List ℕ
act_line act = joined (codes "-") (act_words act) ++ codes "\n"

-- the line that an entry begins with, and its line feed: `at`, the time before the step in ms, who,
-- the number of the step, and the words of the step
abbrev pub head_line : ℕ → Who → ℕ → Step → List ℕ
head_line at who seq step = joined (codes "at") (decimal at ∷ who_word who ∷ decimal seq ∷ step_words step) ++ codes "\n"
