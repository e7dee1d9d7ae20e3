use Rattle.port_rules.specs.Interrupt.{is_struck, no_kinds}
use Rattle.port_telling.proofs.AddLemmas.{adds_more}
use Rattle.port_steps.proofs.interrupt.serve.Goals as goal

pub returns : goal.returns
returns c =
    let left = c.answer_all.ensures.left (is_struck c.args.taken.now.freeze c.args.taken.now.failing) no_kinds in
    let condemned = rw left at c.condemn_struck.ensures.adds in
    let requested = rw (c.is_more.ensures, c.asks-request.ensures, c.is_asked-asked.ensures) at c.request_if.ensures in
    adds_more (adds_more (adds_more c.answer_all.ensures.adds condemned) c.freeze_if.ensures) requested
