use Rattle.std.proofs.Common.{arith}
use Rattle.ata_trace.specs.Entries.{past_of}
use Rattle.port_recovery.proofs.FinishLemmas.{finishes_are_kept, length_finishes}
use Rattle.port_telling.proofs.AddLemmas.{adds_same}
use Rattle.port_telling.proofs.WalkLemmas.{walk_goes, walk_ends}
use Rattle.port_recovery.proofs.finishing.finish_all.Goals as goal

pub loop-tag-preserved : goal.loop-tag-preserved
loop-tag-preserved c = record {
  told =
      let size = length_finishes (past_of c.args.ledger.now.entries) in
      walk_goes (omega arith) size c.loop-tag.invariant.told (rw c.at.ensures at c.finish_at.ensures.tells);
  single = c.finish_at.ensures.single;
}

pub returns-clause-adds : goal.returns-clause-adds
returns-clause-adds c =
    adds_same (finishes_are_kept (past_of c.args.ledger.now.entries)) (walk_ends (omega arith) c.loop-tag.invariant.told)
