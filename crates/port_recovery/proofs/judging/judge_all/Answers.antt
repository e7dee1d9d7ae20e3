use Rattle.std.proofs.Common.{arith}
use Rattle.host_tags.specs.Slots.{flight_at}
use Rattle.port_recovery.proofs.JudgeLemmas.{judge_next, judge_ends, one_or_none}
use Rattle.port_recovery.specs.Findings.{judged_under, view_in}
use Rattle.port_telling.specs.Walks.{slots_in}
use Rattle.port_recovery.proofs.judging.judge_all.Goals as goal

pub loop-tag-preserved : goal.loop-tag-preserved
loop-tag-preserved c =
    let here = rw c.at.ensures at c.judge_at.ensures in
    record {
      adds = judge_next c.args.place c.loop-tag.tag (omega arith) c.loop-tag.invariant.adds here;
      spare = omega (
        arith,
        here.room,
        c.loop-tag.invariant.spare,
        one_or_none (judged_under (view_in c.loop-tag.ledger c.args.place) c.loop-tag.tag (flight_at (slots_in c.loop-tag.ledger) c.loop-tag.tag)),
      );
    }

pub returns-clause-adds : goal.returns-clause-adds
returns-clause-adds c = judge_ends c.args.place c.loop-tag.tag (omega arith) c.loop-tag.invariant.adds
