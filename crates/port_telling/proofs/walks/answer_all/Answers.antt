use Rattle.std.proofs.Common.{◌∙◌, refl, sym, arith}
use Rattle.ata_trace.specs.Entries.{past_of}
use Rattle.port_past.proofs.Sizes.{length_ends}
use Rattle.port_rules.proofs.TagByTag.{answers_told}
use Rattle.port_telling.proofs.AddLemmas.{adds_same}
use Rattle.port_telling.proofs.WalkLemmas.{walk_goes, walk_ends, walk_ends_early}
use Rattle.port_telling.specs.Walks.{slots_in, completions_in}
use Rattle.port_telling.proofs.walks.answer_all.Goals as goal

pub loop-tag-preserved : goal.loop-tag-preserved
loop-tag-preserved c = record {
  told =
      let size = length_ends c.args.ledger.now.head (past_of c.args.ledger.now.entries) in
      walk_goes (omega arith) size c.loop-tag.invariant.told (rw c.at.ensures at c.answer_busy.ensures.tells);
  left = λ test kinds. c.answer_busy.ensures.left test kinds ∙ c.loop-tag.invariant.left test kinds;
}

pub returns-clause-adds : goal.returns-clause-adds
returns-clause-adds c =
    adds_same (sym (answers_told (slots_in c.args.ledger.now) (completions_in c.args.ledger.now)))
    (walk_ends (omega arith) c.loop-tag.invariant.told)

pub returns-then-busy-tag-eq0-clause-adds : goal.returns-then-busy-tag-eq0-clause-adds
returns-then-busy-tag-eq0-clause-adds c =
    adds_same (sym (answers_told (slots_in c.args.ledger.now) (completions_in c.args.ledger.now)))
    (walk_ends_early _ (λ it. refl) (rw c.slots.ensures.value at c.busy-busy.ensures.bits)
    (omega (arith, c.if-busy-tag-eq0.true)) c.loop-tag.invariant.told)
