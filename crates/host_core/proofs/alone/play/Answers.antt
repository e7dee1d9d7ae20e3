use Rattle.std.proofs.Common.{refl, rules, sym, ◌∙◌}
use Rattle.std.proofs.lemmas.Bool.{eqb-false}
use Rattle.host_core.proofs.AloneLemmas.{alone_elsewhere, alone_here, alone_none}
use Rattle.host_core.proofs.TakenSteps.{turn_small}
use Rattle.host_core.proofs.alone.play.Goals as goal
use Rattle.host_core.proofs.alone.play.Goals.{then-eq+in_ok-take, else-eq}

pub loop-taken-init : goal.loop-taken-init
loop-taken-init g c =
    alone_none _ _ _ (g.S.Station.seen c.args.port.now) _ refl refl c.requires c.new-turns.ensures

pub next-seq-requires : goal.next-seq-requires
next-seq-requires g c there small = turn_small _ _ _ _ _ c.loop-taken.invariant.counts c.loop-taken-test.true (search rules) there small

pub loop-taken-preserved : goal.loop-taken-preserved
loop-taken-preserved g c =
    elim c.if-eq.branch [
      | then-eq+in_ok-take w ↦
          rw w.port-is
          (alone_here _ _ _ _ _ (g.S.Station.seen w.take.new.port) _ _ c.taken-item.result c.next-seq.result
          c.loop-taken.invariant c.loop-taken-test.true c.taken-item.is c.next-seq.ensures.port c.next-seq.ensures.actor
          c.next-seq.ensures.number c.next-seq.ensures.counted
          (search rules) w.in_ok-take.ensures.number w.in_ok-take.ensures.head w.in_ok-take.ensures.entries)
      | else-eq w ↦
          rw w.port-is
          (alone_elsewhere _ _ _ _ _ _ _ c.taken-item.result
          c.loop-taken.invariant c.loop-taken-test.true c.taken-item.is c.next-seq.ensures.port c.next-seq.ensures.actor
          c.next-seq.ensures.counted
          (λ same. eqb-false c.taken-item.result.1 c.number-here.result (sym w.if-eq.ensures) (same ∙ sym c.number-here.ensures)))
    ]
