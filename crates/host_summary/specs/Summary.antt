-- What the journals of a host come to, in twelve numbers.
use Rattle.std.specs.Prelude.{ℕ, ◌-◌, ◌^◌, min, Bool, true, false, List, [], ◌∷◌, ◌++◌, length, filter, codes, decimal}
use Rattle.std.specs.List.{flat_map}
use Rattle.ata_trace.specs.Entries.{EntryView}
use Rattle.ata_trace.specs.Text.{joined}
use Rattle.ata_trace.specs.declared.act.Act.{Act}
use Rattle.ata_trace.specs.declared.act.Act.TheVariants.{Accepted, Refused, Issued, AnsweredOk, AnsweredFailed, AnsweredNodev, Retried, Begun, Recorded}
use Rattle.ata_trace.specs.declared.step.Step.{Step}
use Rattle.ata_trace.specs.declared.step.Step.TheVariants.{Submit}
use Rattle.host_summary.specs.declared.summary.Summary.{Summary}
use Rattle.port_core.specs.Hosts.{lives_of}

-- what is counted

abbrev pub is_accepted : Act → Bool
is_accepted (Accepted id) = true
is_accepted _ = false

abbrev pub is_refused : Act → Bool
is_refused (Refused id why) = true
is_refused _ = false

abbrev pub is_issued : Act → Bool
is_issued (Issued id number tag deadline fis) = true
is_issued _ = false

abbrev pub is_ok : Act → Bool
is_ok (AnsweredOk id number status error lba count stamps) = true
is_ok _ = false

abbrev pub is_failed : Act → Bool
is_failed (AnsweredFailed id number kinds status error lba count) = true
is_failed _ = false

abbrev pub is_nodev : Act → Bool
is_nodev (AnsweredNodev id number) = true
is_nodev _ = false

abbrev pub is_retried : Act → Bool
is_retried (Retried id number raised) = true
is_retried _ = false

abbrev pub is_begun : Act → Bool
is_begun Begun = true
is_begun _ = false

abbrev pub is_recorded : Act → Bool
is_recorded (Recorded place io dubious kinds ncq_off speed_down pio keep action) = true
is_recorded _ = false

abbrev pub is_submit : ℕ × ℕ × Step → Bool
is_submit taken = submits taken.2 where
  submits : Step → Bool
  submits (Submit id place op allow wait) = true
  submits _ = false

-- a count as it is told: one that doesn't fit in 64 bits stands at the last number
abbrev pub told : ℕ → ℕ
told count = min count (2 ^ 64 - 1)

-- the acts of entries, of journals
abbrev pub acts_in : List EntryView → List Act
acts_in entries = flat_map (λ (e : EntryView). e.acts) entries

-- the entries of journals
abbrev pub entries_in : List (List EntryView) → List EntryView
entries_in journals = flat_map (λ (entries : List EntryView). entries) journals

-- how many acts of journals are such
abbrev pub acts_like : (Act → Bool) → List (List EntryView) → ℕ
acts_like test journals = told (length (filter test (acts_in (entries_in journals))))

-- the submit steps of a script; of its journals the acts of nine kinds, all entries, and the live commands
abbrev pub summary_of : List (ℕ × ℕ × Step) → List (List EntryView) → Summary
summary_of steps journals = record {
  commands = told (length (filter is_submit steps));
  accepted = acts_like is_accepted journals;
  refused = acts_like is_refused journals;
  issued = acts_like is_issued journals;
  ok = acts_like is_ok journals;
  failed = acts_like is_failed journals;
  nodev = acts_like is_nodev journals;
  retried = acts_like is_retried journals;
  runs = acts_like is_begun journals;
  recorded = acts_like is_recorded journals;
  entries = told (length (entries_in journals));
  live = lives_of journals;
}

-- the line of a number: its name, and it
abbrev pub count_line : List ℕ × ℕ → List ℕ
count_line (name, count) = joined name (decimal count ∷ []) ++ codes "\n"

-- the twelve numbers by their names, in order
abbrev pub named_counts : Summary → List (List ℕ × ℕ)
named_counts s =
    (codes "commands", s.commands) ∷ (codes "accepted", s.accepted) ∷ (codes "refused", s.refused) ∷ (codes "issued", s.issued)
    ∷ (codes "ok", s.ok) ∷ (codes "failed", s.failed) ∷ (codes "nodev", s.nodev) ∷ (codes "retried", s.retried)
    ∷ (codes "runs", s.runs) ∷ (codes "recorded", s.recorded) ∷ (codes "entries", s.entries) ∷ (codes "live", s.live) ∷ []

-- the text of a summary
abbrev pub summary_text : Summary → List ℕ
summary_text summary = flat_map count_line (named_counts summary)
