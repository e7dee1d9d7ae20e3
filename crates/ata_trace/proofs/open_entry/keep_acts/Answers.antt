use Rattle.std.proofs.Common.{◌≡◌, ◌∙◌, ◌+◌, ◌∷◌, ◌++◌, [], take, ap, sym, arith}
use Rattle.std.proofs.lemmas.List.{take_more}
use Rattle.ata_trace.proofs.LastLemmas.{with_acts_more}
use Rattle.ata_trace.specs.Entries.{with_act}
use Rattle.ata_trace.specs.OpenEntries.{with_acts}
use Rattle.ata_trace.proofs.open_entry.keep_acts.Goals as goal

pub loop-act-preserved : goal.loop-act-preserved
loop-act-preserved c =
    let grown : take (c.loop-act.act-index + 1) c.args.acts.now ≡ take c.loop-act.act-index c.args.acts.now ++ c.act-item.result ∷ [] =
    take_more c.args.acts.now c.loop-act.act-index c.act-item.result c.loop-act-test.true
    ∙ ap (λ act. take c.loop-act.act-index c.args.acts.now ++ act ∷ []) (sym c.act-item.is) in (
      c.add.ensures.entries
          ∙ ap (λ entries. with_act entries c.act-item.result) c.loop-act.invariant.0
          ∙ sym (with_acts_more c.args.journal.now.entries (take c.loop-act.act-index c.args.acts.now) c.act-item.result)
          ∙ ap (with_acts c.args.journal.now.entries) (sym grown),
      c.add.ensures.some,
      omega (arith, c.loop-act.invariant.2, c.add.ensures.act_room),
    )
