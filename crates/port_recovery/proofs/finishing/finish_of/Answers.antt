use Rattle.std.proofs.Common.{◌∙◌, sym}
use Rattle.port_ledger.specs.LedgerView.{past}
use Rattle.port_past.specs.Commands.{commands}
use Rattle.port_recovery.proofs.FinishLemmas.{by_own_id, finish_sound}
use Rattle.port_recovery.proofs.finishing.finish_of.Goals as goal

pub returns-clause-sound : goal.returns-clause-sound
returns-clause-sound c =
    let accepted = commands (past c.args.ledger.now) in
    let known = by_own_id c.in-Some.flight.id accepted c.in_ok-cmd.cmd (sym c.command.ensures.value ∙ c.in_ok-cmd.was) in
    finish_sound c.args.ledger.now.head (past c.args.ledger.now) c.in_ok-cmd.cmd c.in-Some.flight.number c.in_ok-judgement.judgement
    c.is_gone.result c.finish_act.result c.finish_act.ensures.act (c.finish_act.ensures.counted accepted known)
