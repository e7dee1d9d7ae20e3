-- What a generated script tells.
use Rattle.std.proofs.Common.{◌≡◌, ℕ, List, Option}
use Rattle.ata_gen.specs.Generated.{script_made}
use Rattle.ata_script.specs.Scripts.{script_said}
use Rattle.ata_script.specs.declared.script.Script.{Script}
use Rattle.ata_trace.specs.Entries.{EntryView}
use Rattle.atahost.proofs.CompletenessLemmas.{not_more}
use Rattle.atahost.proofs.HeadlineLemmas.{not_true}
use Rattle.atahost.specs.Completeness.{IsWhole, Stays}
use Rattle.atahost.specs.Generated.{Generates}
use Rattle.atahost.specs.Printing.{Prints}
use Rattle.atahost.specs.Statuses.{write_faults_after}
use Rattle.atahost.specs.declared.status.Status.{Status}
use Rattle.atahost.specs.declared.status.Status.TheVariants.{Done, Usage, Left, BadScript, TooLong, ReadFault, WriteFault, OutOfMemory}
use Rattle.host_summary.specs.Summary.{summary_of, summary_text}
use Rattle.port_core.specs.Hosts.{lives_of}
use Rattle.port_core.specs.Weave.{journals_of}

-- a script that was generated and summed up
pub summed : {K : Type 0} (rounds n : ℕ) (written : K → Option (List ℕ)) (writes : K → ℕ) (sink after : K) (status : Status) (script : Script) (journals : List (List EntryView)) → script_said script ≡ script_made n → journals ≡ journals_of rounds script.head script.steps → Prints (written sink) (written after) (summary_text (summary_of script.steps journals)) (lives_of journals) status → writes after ≡ write_faults_after status (writes sink) → Generates rounds n written writes sink after status
summed rounds n written writes sink after Done script journals said made told count = record {
  told = record { script = script; journals = journals; generated = said; made = made; printed = told };
  write = count;
  nothing_written = λ no. absurd (not_true no);
}
summed rounds n written writes sink after (Left k) script journals said made told count = record {
  told = record { script = script; journals = journals; generated = said; made = made; printed = told };
  write = count;
  nothing_written = λ no. absurd (not_true no);
}
summed rounds n written writes sink after WriteFault script journals said made told count = record {
  told = record { script = script; journals = journals; generated = said; made = made; printed = told };
  write = count;
  nothing_written = λ no. absurd (not_true no);
}
summed rounds n written writes sink after Usage script journals said made told count = absurd told
summed rounds n written writes sink after (BadScript line rule) script journals said made told count = absurd told
summed rounds n written writes sink after TooLong script journals said made told count = absurd told
summed rounds n written writes sink after ReadFault script journals said made told count = absurd told
summed rounds n written writes sink after OutOfMemory script journals said made told count = absurd told

-- where the count of faults doesn't rise, all is printed or memory is wanted
pub summed_whole : {K : Type 0} (rounds n : ℕ) (written : K → Option (List ℕ)) (writes : K → ℕ) (sink after : K) (status : Status) → Generates rounds n written writes sink after status → Stays (writes sink) (writes after) → IsWhole status
summed_whole rounds n written writes sink after Done p w = tt
summed_whole rounds n written writes sink after (Left k) p w = tt
summed_whole rounds n written writes sink after OutOfMemory p w = tt
summed_whole rounds n written writes sink after WriteFault p w = absurd (not_more (writes sink) (writes after) w p.write)
summed_whole rounds n written writes sink after Usage p w = absurd p.told.printed
summed_whole rounds n written writes sink after (BadScript line rule) p w = absurd p.told.printed
summed_whole rounds n written writes sink after TooLong p w = absurd p.told.printed
summed_whole rounds n written writes sink after ReadFault p w = absurd p.told.printed
