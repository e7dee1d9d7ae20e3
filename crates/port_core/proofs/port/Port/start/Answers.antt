use Rattle.std.proofs.Common.{◌∙◌, ◌∷◌, [], ◌++◌, ap, sym, arith}
use Rattle.ata_trace.specs.JournalView.{JournalView}
use Rattle.port_rules.specs.Boot.{boot_entry}
use Rattle.port_core.proofs.port.Port.start.Goals as goal

pub invariant_of-result : goal.invariant_of-result
invariant_of-result c = record {
  same =
      c.keep.ensures [] (boot_entry c.args.head.now) c.in_ok-machine.ensures.entries
      ∙ ap (λ entries. entries ++ boot_entry c.args.head.now ∷ [])
      (c.in_ok-reserve.ensures.entries ∙ ap (λ (journal : JournalView). journal.entries) c.new-journal.ensures)
      ∙ sym c.in_ok-machine.ensures.entries;
  entry_room = λ one. absurd (omega (arith, one, c.in_ok-machine.ensures.spare));
  act_room = λ one. absurd (omega (arith, one, c.in_ok-machine.ensures.spare));
}
