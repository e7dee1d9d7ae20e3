-- Legal journals, grown by a step and made by steps.
use Rattle.std.proofs.Common.{◌≡◌, ℕ, List, [], ◌∷◌, ◌++◌, refl, sym, ◌∙◌}
use Rattle.std.specs.List.{All}
use Rattle.std.proofs.lemmas.List.Elements.{All-nil, All-cons, All-head, All-tail, All-push}
use Rattle.ata_script.specs.declared.port_head.PortHead.{PortHead}
use Rattle.ata_trace.specs.Entries.{EntryView, grown, past_of}
use Rattle.ata_trace.specs.Event.{Event, onto}
use Rattle.ata_trace.specs.declared.step.Step.TheVariants.{Boot}
use Rattle.ata_trace.specs.declared.who.Who.TheVariants.{Boot as ByBoot}
use Rattle.ata_trace.specs.declared.step.Step.{Step}
use Rattle.ata_trace.specs.declared.who.Who.{Who}
use Rattle.ata_trace.proofs.Pasts.{past_of_push, past_of_same}
use Rattle.port_rules.proofs.Settling.{IsScriptEntry, legal_both, run_legal}
use Rattle.port_rules.specs.Boot.{boot_acts, boot_entry}
use Rattle.port_rules.specs.Legal.{entry_after, HasLegalActs, IsLegal}
use Rattle.port_rules.specs.Ranges.{IsScriptStep}
use Rattle.port_rules.specs.Run.{StepCall, run_from, run}
use Rattle.port_core.specs.Weave.{AreScriptCalls, IsScriptCall}

-- entries whose past grew by one entry are the entries with it
pub entries_grown :
    (before after : List EntryView) (entry : EntryView) → past_of after ≡ grown (past_of before) entry
    → after ≡ before ++ entry ∷ []
entries_grown before after entry same =
    past_of_same after (before ++ entry ∷ []) (same ∙ sym (past_of_push before entry))

-- a journal of legal acts and the entry that a step makes after it
acts_more :
    (head : PortHead) (entries : List EntryView) (who : Who) (seq : ℕ) (step : Step) → HasLegalActs head entries
    → HasLegalActs head (entries ++ entry_after head (past_of entries) who seq step ∷ [])
acts_more head [] who seq step legal = absurd legal
acts_more head (first ∷ rest) who seq step legal =
    let entry : EntryView = entry_after head (past_of (first ∷ rest)) who seq step in
    (legal.0, legal_both head (grown [] first) rest (entry ∷ []) legal.1 (refl, tt))

-- a legal journal and the entry that a step of a script makes after it is a legal journal
pub IsLegal_more :
    (head : PortHead) (entries : List EntryView) (who : Who) (seq : ℕ) (step : Step)
    → IsScriptStep step → IsLegal head entries → IsLegal head (entries ++ entry_after head (past_of entries) who seq step ∷ [])
IsLegal_more head entries who seq step range legal = record {
  acts = acts_more head entries who seq step legal.acts;
  ranges = All-push IsScriptEntry entries (entry_after head (past_of entries) who seq step) legal.ranges range;
}

-- the boot entry alone is a legal journal
pub IsLegal_boot : (head : PortHead) → IsLegal head (boot_entry head ∷ [])
IsLegal_boot head =
    record { acts = (refl, tt); ranges = All-cons IsScriptEntry (boot_entry head) [] tt (All-nil IsScriptEntry) }

-- the entries of a ledger that has told the boot acts
pub booted_entries :
    (head : PortHead) (before after : List EntryView)
    → past_of before ≡ grown [] (record { at = 0; who = ByBoot; seq = 0; step = Boot; acts = [] })
    → past_of after ≡ onto (past_of before) (boot_acts head) → after ≡ boot_entry head ∷ []
booted_entries head before after begun told = past_of_same after (boot_entry head ∷ []) (told ∙ rw begun refl)

-- the entries that steps of a script make have such steps
run_in_range :
    (head : PortHead) (past : List Event) (asked : List StepCall) → AreScriptCalls asked
    → All IsScriptEntry (run_from head past asked)
run_in_range head past [] each = All-nil IsScriptEntry
run_in_range head past (a ∷ rest) each =
    let entry : EntryView = entry_after head past a.who a.seq a.step in
    All-cons IsScriptEntry entry (run_from head (grown past entry) rest) (All-head IsScriptCall a rest each)
    (run_in_range head (grown past entry) rest (All-tail IsScriptCall a rest each))

-- the journal that steps of a script make is legal
pub runs_are_legal : (head : PortHead) (asked : List StepCall) → AreScriptCalls asked → IsLegal head (run head asked)
runs_are_legal head asked each = record {
  acts = (refl, run_legal head (grown [] (boot_entry head)) asked);
  ranges = All-cons IsScriptEntry (boot_entry head) (run_from head (grown [] (boot_entry head)) asked) tt
      (run_in_range head (grown [] (boot_entry head)) asked each);
}
