use Rattle.std.specs.Prelude.{◌≡◌, ℕ, ◌+◌, ◌≤◌, List, Option, drop, length, option_to_list}
use Rattle.ata_trace.specs.Entries.{past_of}
use Rattle.ata_trace.specs.Event.{onto}
use Rattle.ata_trace.specs.declared.act.Act.{Act}
use Rattle.host_tags.specs.EachFlight.{kept_at}
use Rattle.host_tags.specs.declared.in_flight.InFlight.{InFlight}
use Rattle.port_ledger.specs.LedgerView.{LedgerView, past}
use Rattle.port_past.specs.Completions.{completions}
use Rattle.port_past.specs.Slots.{slots}
use Rattle.port_past.specs.declared.completion.Completion.{Completion}
use Rattle.port_rules.specs.TagByTag.{each_told}
use Rattle.port_telling.specs.Adds.{Adds}

-- the issues in flight, as a ledger's journal tells them
abbrev pub slots_in : LedgerView → List (Option InFlight)
slots_in ledger = slots (past ledger)

-- their good ends
abbrev pub completions_in : LedgerView → List (Option Completion)
completions_in ledger = completions ledger.head (past ledger)

-- what is told of a slot and of what is kept beside it
abbrev pub Telling : Type 0 → Type 0
Telling A = Option InFlight → Option A → Option Act

-- what is kept by tag beside the issues in flight
abbrev pub KeptBeside : Type 0 → Type 0
KeptBeside A = LedgerView → List (Option A)

-- at a tag is told what is to be told of the issue there and what is kept beside it, and what is kept of later tags
-- stays
pub record TellsAt
    {A : Type 0} (tell : Telling A) (beside : KeptBeside A) (tag : ℕ) (before after : LedgerView) : Type 0 where
  pub adds : Adds before after (option_to_list (tell (kept_at (slots_in before) tag) (kept_at (beside before) tag)))
  pub slots : drop (tag + 1) (slots_in after) ≡ drop (tag + 1) (slots_in before)
  pub others : drop (tag + 1) (beside after) ≡ drop (tag + 1) (beside before)

-- up to a tag is told what is to be told, and what is kept of the tags from there on is as it was at first
pub record ToldUpTo
    {A : Type 0} (tell : Telling A) (beside : KeptBeside A) (tag : ℕ) (first later : LedgerView) : Type 0 where
  pub told : onto (past_of later.entries) (each_told tell (drop tag (slots_in first)) (drop tag (beside first)))
      ≡ onto (past_of first.entries) (each_told tell (slots_in first) (beside first))
  pub room : first.room + length (each_told tell (drop tag (slots_in first)) (drop tag (beside first)))
      ≡ later.room + length (each_told tell (slots_in first) (beside first))
  pub spare : first.room ≤ later.room + tag
  pub head : later.head ≡ first.head
  pub slots : drop tag (slots_in later) ≡ drop tag (slots_in first)
  pub others : drop tag (beside later) ≡ drop tag (beside first)

-- what is told of an issue whatever is kept beside it
abbrev pub alone : {A : Type 0} → (Option InFlight → Option Act) → Telling A
alone tell slot beside = tell slot
