use Rattle.std.proofs.Common.{refl, subst}
use Rattle.atahost.proofs.GeneratedLemmas.{summed, summed_whole}
use Rattle.atahost.specs.Printing.{Prints}
use Rattle.host_summary.specs.Summary.{summary_text}
use Rattle.host_summary.specs.declared.summary.Summary.{Summary}
use Rattle.port_core.specs.Weave.{journals_of}
use Rattle.atahost.proofs.generated.gen_all.Goals as goal

pub returns-in-Ok-sum_up-clause-generates : goal.returns-in-Ok-sum_up-clause-generates
returns-in-Ok-sum_up-clause-generates g c =
    summed _ _ g.K.Sink.written g.K.Sink.fault_count _ _ _ c.in-Ok.script (journals_of c.args.rounds c.in-Ok.script.head c.in-Ok.script.steps) c.in-Ok.ensures
    refl
    (subst (λ (s : Summary). Prints (g.K.Sink.written c.args.sink.now) (g.K.Sink.written c.print.new.sink) (summary_text s) s.live c.print.result)
    c.in-Ok-sum_up.ensures.value c.print.ensures.printed)
    c.print.ensures.faults

pub returns-in-Ok-sum_up-clause-complete : goal.returns-in-Ok-sum_up-clause-complete
returns-in-Ok-sum_up-clause-complete g c writes =
    summed_whole _ _ g.K.Sink.written g.K.Sink.fault_count _ _ _ (returns-in-Ok-sum_up-clause-generates g c) writes
