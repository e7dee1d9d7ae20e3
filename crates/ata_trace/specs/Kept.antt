-- What an act says that a journal keeps in short, beside those that it keeps whole.
use Rattle.std.specs.Prelude.{ℕ, suc, ◌≤◌, List, [], ◌∷◌, map, slice_get, unwrap_or}
use Rattle.ata_trace.specs.declared.act.Act.{Act}
use Rattle.ata_trace.specs.declared.act.Act.TheVariants as acts
use Rattle.ata_trace.specs.declared.kept.Kept.{Kept}
use Rattle.ata_trace.specs.declared.kept.Kept.TheVariants.{Accepted, Refused, Issued, Deferred, Exclusive, Done, Raised, Lost, AnsweredOk, Now, Nothing, Whole}

-- an answer with success that tells no stamps
abbrev pub answer_kept : Kept → Act
answer_kept (AnsweredOk status error count id number lba) = acts.AnsweredOk id number status error lba count []
answer_kept kept = acts.Nothing

-- what tells of an issue and of registers
abbrev pub issue_kept : Kept → Act
issue_kept (Issued tag id fis number deadline) = acts.Issued id number tag deadline fis
issue_kept (Done status error count number lba) = acts.Done number status error lba count
issue_kept kept = answer_kept kept

-- what has one number at most
abbrev pub plain_kept : Kept → Act
plain_kept Raised = acts.Raised
plain_kept Lost = acts.Lost
plain_kept (Now at) = acts.Now at
plain_kept (Exclusive place) = acts.Exclusive place
plain_kept Nothing = acts.Nothing
plain_kept kept = issue_kept kept

-- the act that is kept in short; the kinds of acts come in groups, from the last on
abbrev pub short_kept : Kept → Act
short_kept (Accepted id) = acts.Accepted id
short_kept (Refused id why) = acts.Refused id why
short_kept (Deferred id why) = acts.Deferred id why
short_kept kept = plain_kept kept

-- the act that is kept; one that is kept whole is told by its number there
abbrev pub act_kept : List Act → Kept → Act
act_kept whole (Whole number) = unwrap_or (slice_get whole number) acts.Nothing
act_kept whole kept = short_kept kept

abbrev pub acts_kept : List Act → List Kept → List Act
acts_kept whole kept = map (act_kept whole) kept

-- how many acts have to be kept whole for it
abbrev pub wholes : Kept → ℕ
wholes (Whole number) = suc number
wholes kept = 0

-- what of an act is kept whole for it
abbrev pub kept_whole : Kept → Act → List Act
kept_whole (Whole number) act = act ∷ []
kept_whole kept act = []

-- no act is told by a number past the first n
abbrev pub AreWithin : List Kept → ℕ → Type 0
AreWithin [] n = Unit {0}
AreWithin (kept ∷ rest) n = (wholes kept ≤ n) × AreWithin rest n
