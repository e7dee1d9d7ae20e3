use Rattle.port_steps.proofs.IrqLemmas.{calm_told}
use Rattle.port_steps.proofs.interrupt.answer.Goals as goal

pub returns-clause-past : goal.returns-clause-past
returns-clause-past c =
    calm_told c.requires.served c.requires.calm c.begin.ensures c.answer_or_nothing.ensures
