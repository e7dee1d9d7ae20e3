use Rattle.std.specs.Prelude.{◌≡◌, ℕ, ◌==◌, Bool, true, false, List, [], ◌∷◌}
use Rattle.std.specs.List.{list_any}
use Rattle.ata_trace.specs.Entries.{EntryView, past_from}
use Rattle.ata_trace.specs.Event.{Event}
use Rattle.ata_trace.specs.Event.Event.{Told}
use Rattle.ata_trace.specs.declared.act.Act.{Act}
use Rattle.ata_trace.specs.declared.act.Act.TheVariants.{Accepted, Refused, Issued, Deferred, Exclusive, Done, Raised, AnsweredOk, Identified, Attached, Mode, Nothing}
use Rattle.ata_trace.specs.declared.step.Step.{Step}
use Rattle.ata_trace.specs.declared.step.Step.TheVariants.{Submit, Kick, Work, Irq, Expire, Recover, Boot}
use Rattle.port_past.specs.Commands.{commands, is_accepted}
use Rattle.drive_model.specs.Told.{is_good_end}
use Rattle.port_past.specs.PortState.{is_recovering}
use Rattle.port_past.specs.Live.{live}

-- whether a step disturbs nothing: no interrupt is lost or comes without cause, no time passes, nothing is plugged,
-- unplugged or put in
abbrev pub is_calm_step : Step → Bool
is_calm_step (Submit id place op allow wait) = true
is_calm_step (Kick place) = true
is_calm_step (Work place pick) = true
is_calm_step Irq = true
is_calm_step Expire = true
is_calm_step Recover = true
is_calm_step Boot = true
is_calm_step _ = false

-- the steps of these entries disturb nothing
abbrev pub AreCalm : List EntryView → Type 0
AreCalm [] = Unit {0}
AreCalm (r ∷ rest) = (is_calm_step r.step ≡ true) × AreCalm rest

-- the steps of a journal after its boot entry disturb nothing
abbrev pub IsCalmJournal : List EntryView → Type 0
IsCalmJournal [] = Unit {0}
IsCalmJournal (first ∷ rest) = AreCalm rest

-- `answered C N ok` answers C well
abbrev pub well_answered_after : Event → List ℕ → List ℕ
well_answered_after (Told (AnsweredOk id number status error lba count stamps)) was = id ∷ was
well_answered_after _ was = was

-- the numbers of the commands that were answered `ok`, the last first
abbrev pub well_answered : List Event → List ℕ
well_answered [] = []
well_answered (event ∷ past) = well_answered_after event (well_answered past)

-- whether a number is among these
abbrev pub is_among : ℕ → List ℕ → Bool
is_among id numbers = list_any (λ n. n == id) numbers

-- the acts of a calm port: a drive is found at boot; a command is accepted or refused, deferred or issued; an issue ends
-- well; the line goes up; a command is answered `ok`. So there is no other answer, nothing expires, is condemned or
-- tried again, and there is no recovery
abbrev pub IsCalmAct : Act → Type 0
IsCalmAct (Identified place model serial sectors depth) = Unit {0}
IsCalmAct (Attached place) = Unit {0}
IsCalmAct (Mode place udma ncq dubious) = Unit {0}
IsCalmAct (Accepted id) = Unit {0}
IsCalmAct (Refused id why) = Unit {0}
IsCalmAct (Deferred id why) = Unit {0}
IsCalmAct (Exclusive place) = Unit {0}
IsCalmAct (Issued id number tag deadline fis) = Unit {0}
IsCalmAct (Done number status error lba count) = is_good_end status error lba ≡ true
IsCalmAct Raised = Unit {0}
IsCalmAct (AnsweredOk id number status error lba count stamps) = Unit {0}
IsCalmAct Nothing = Unit {0}
IsCalmAct _ = ⊥

-- all acts of a past are such
abbrev pub HasCalmActs : List Event → Type 0
HasCalmActs [] = Unit {0}
HasCalmActs (Told act ∷ past) = IsCalmAct act × HasCalmActs past
HasCalmActs (event ∷ past) = HasCalmActs past

-- a past with these entries on top stays calm: the entries disturb nothing, so there is no tick among them, and accept
-- nothing; the port isn't recovering; and all acts so far are those of a calm port
pub record StaysCalm (past : List Event) (entries : List EntryView) : Type 0 where
  pub calm : AreCalm entries
  pub same : commands (past_from past entries) ≡ commands past
  pub resting : is_recovering (past_from past entries) ≡ false
  pub acts : HasCalmActs (past_from past entries)

-- it ends well: no command is live any more, and each accepted one was answered `ok`
pub record EndsWell (past : List Event) (entries : List EntryView) : Type 0 where
  pub none_live : live (past_from past entries) ≡ []
  pub answered : (id : ℕ) → is_accepted id (commands past) ≡ true → is_among id (well_answered (past_from past entries)) ≡ true
