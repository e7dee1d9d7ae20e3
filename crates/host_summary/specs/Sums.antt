-- Summaries of several ports, one after the other.
use Rattle.std.specs.Prelude.{◌≡◌, ℕ, ◌+◌, ◌<◌, ◌≤◌, List, [], ◌∷◌, Result, IfOk, length, get_or, slice_index_or}
use Rattle.ata_base.specs.declared.out_of_memory.OutOfMemory.{OutOfMemory}
use Rattle.ata_script.specs.declared.port_head.PortHead.{PortHead}
use Rattle.ata_trace.specs.declared.step.Step.{Step}
use Rattle.host_summary.specs.Summary.{summary_of, told}
use Rattle.host_summary.specs.declared.summary.Summary.{Summary}
use Rattle.port_core.specs.Weave.{asked_at}
use Rattle.port_rules.specs.Settle.{settled_journal}

-- two summaries in one
abbrev pub plus : Summary → Summary → Summary
plus s t = record {
  commands = told (s.commands + t.commands);
  accepted = told (s.accepted + t.accepted);
  refused = told (s.refused + t.refused);
  issued = told (s.issued + t.issued);
  ok = told (s.ok + t.ok);
  failed = told (s.failed + t.failed);
  nodev = told (s.nodev + t.nodev);
  retried = told (s.retried + t.retried);
  runs = told (s.runs + t.runs);
  recorded = told (s.recorded + t.recorded);
  entries = told (s.entries + t.entries);
  live = s.live + t.live;
}

-- a summary is that of the port at this place, settled after those of the steps that are at it
pub record IsSummaryOf (rounds : ℕ) (heads : List PortHead) (steps : List (ℕ × ℕ × Step)) (place : ℕ) (summary : Summary) : Type 0 where
  pub value : (head : PortHead) → head ≡ get_or heads place head → summary ≡ summary_of [] (settled_journal rounds head (asked_at place steps) ∷ [])
  pub few : summary.live ≤ 65536

-- there is one for each port, where memory wasn't wanted
pub record AreSummariesOf (rounds : ℕ) (heads : List PortHead) (steps : List (ℕ × ℕ × Step)) (made : List (Result Summary OutOfMemory)) : Type 0 where
  pub all : length made ≡ length heads
  pub each : (place : ℕ) (other : Result Summary OutOfMemory) → place < length heads
      → IfOk (slice_index_or made place other) (IsSummaryOf rounds heads steps place)
