use Rattle.std.proofs.Common.{◌≡◌, ℕ, false, IsTrue, List, Option, refl, sym}
use Rattle.std.specs.Io.KnownBytes.{Appends, IsAtEnd}
use Rattle.ata_io.specs.Writing.{WritesPart}
use Rattle.ata_script.specs.declared.script.Script.{Script}
use Rattle.ata_trace.specs.Entries.{EntryView}
use Rattle.atahost.specs.Headline.{Replayed, CutShort, Replays}
use Rattle.atahost.specs.Printing.{Prints}
use Rattle.atahost.specs.Refusals.{Refuses, WasRead}
use Rattle.atahost.specs.Statuses.{read_faults_after, write_faults_after}
use Rattle.atahost.specs.declared.status.Status.{Status}
use Rattle.atahost.specs.declared.status.Status.TheVariants.{Done, Usage, Left, BadScript, TooLong, ReadFault, WriteFault, OutOfMemory}
use Rattle.port_core.specs.Hosts.{lives_of}
use Rattle.port_core.specs.Text.{texts_of}
use Rattle.port_core.specs.Told.{AreInRange}

-- a script was read, and journals made of it
pub record WasPlayed (AreOf : List ℕ → List (List EntryView) → Type 0) (left : Option (List ℕ)) (script : Script) (journals : List (List EntryView)) : Type 0 where
  pub read : WasRead left script
  pub made : AreOf read.bytes journals
  pub ranges : AreInRange journals

-- its text was written
replayed : (AreOf : List ℕ → List (List EntryView) → Type 0) (left before after : Option (List ℕ)) (script : Script) (journals : List (List EntryView)) (k : ℕ) → WasPlayed AreOf left script journals → Appends before after (texts_of journals) → lives_of journals ≡ k → Replayed AreOf left before after k
replayed AreOf left before after script journals k p whole count = record {
  bytes = p.read.bytes;
  journals = journals;
  read = p.read.all;
  within = p.read.within;
  made = p.made;
  ranges = p.ranges;
  written = whole;
  live = sym count;
}

-- a part of its text was written
cut_short : (AreOf : List ℕ → List (List EntryView) → Type 0) (left before after : Option (List ℕ)) (script : Script) (journals : List (List EntryView)) → WasPlayed AreOf left script journals → WritesPart before after (texts_of journals) → CutShort AreOf left before after
cut_short AreOf left before after script journals p part = record {
  bytes = p.read.bytes;
  journals = journals;
  read = p.read.all;
  within = p.read.within;
  made = p.made;
  ranges = p.ranges;
  count = part.0;
  part = part.1;
  written = part.2;
}

pub not_true : IsTrue false → ⊥
not_true h = cc

-- a replay that printed
pub printed : {S K : Type 0} (AreOf : List ℕ → List (List EntryView) → Type 0) (left : S → Option (List ℕ)) (reads : S → ℕ) (written : K → Option (List ℕ)) (writes : K → ℕ) (source rest : S) (sink after : K) (status : Status) (script : Script) (journals : List (List EntryView)) → WasPlayed AreOf (left source) script journals → IsAtEnd (left rest) → reads rest ≡ reads source → Prints (written sink) (written after) (texts_of journals) (lives_of journals) status → writes after ≡ write_faults_after status (writes sink) → Replays AreOf left reads written writes source rest sink after status
printed AreOf left reads written writes source rest sink after Done script journals p end same told count = record {
  told = (replayed _ _ _ _ script journals 0 p told.0 told.1, end);
  read = same;
  write = count;
  nothing_written = λ no. absurd (not_true no);
}
printed AreOf left reads written writes source rest sink after (Left k) script journals p end same told count = record {
  told = (told.2, replayed _ _ _ _ script journals k p told.0 told.1, end);
  read = same;
  write = count;
  nothing_written = λ no. absurd (not_true no);
}
printed AreOf left reads written writes source rest sink after WriteFault script journals p end same told count = record {
  told = (cut_short _ _ _ _ script journals p told, end);
  read = same;
  write = count;
  nothing_written = λ no. absurd (not_true no);
}
printed AreOf left reads written writes source rest sink after Usage script journals p end same told count = absurd told
printed AreOf left reads written writes source rest sink after (BadScript line rule) script journals p end same told count = absurd told
printed AreOf left reads written writes source rest sink after TooLong script journals p end same told count = absurd told
printed AreOf left reads written writes source rest sink after ReadFault script journals p end same told count = absurd told
printed AreOf left reads written writes source rest sink after OutOfMemory script journals p end same told count = absurd told

-- a replay that was refused a script
pub refused : {S K : Type 0} (AreOf : List ℕ → List (List EntryView) → Type 0) (left : S → Option (List ℕ)) (reads : S → ℕ) (written : K → Option (List ℕ)) (writes : K → ℕ) (source rest : S) (sink : K) (status : Status) → Refuses (left source) (left rest) status → reads rest ≡ read_faults_after status (reads source) → Replays AreOf left reads written writes source rest sink sink status
refused AreOf left reads written writes source rest sink (BadScript line rule) why count = record { told = why; read = count; write = refl; nothing_written = λ _. refl }
refused AreOf left reads written writes source rest sink TooLong why count = record { told = why; read = count; write = refl; nothing_written = λ _. refl }
refused AreOf left reads written writes source rest sink ReadFault why count = record { told = why; read = count; write = refl; nothing_written = λ _. refl }
refused AreOf left reads written writes source rest sink OutOfMemory why count = record { told = why; read = count; write = refl; nothing_written = λ _. refl }
refused AreOf left reads written writes source rest sink Done why count = absurd why
refused AreOf left reads written writes source rest sink Usage why count = absurd why
refused AreOf left reads written writes source rest sink (Left k) why count = absurd why
refused AreOf left reads written writes source rest sink WriteFault why count = absurd why
