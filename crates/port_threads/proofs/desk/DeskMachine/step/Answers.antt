use Rattle.std.proofs.Common.{◌∷◌, [], ◌++◌, ◌∙◌, ap, refl}
use Rattle.port_core.specs.PortView.{PortView}
use Rattle.port_threads.proofs.Journals.{moves_more, of_desk_more}
use Rattle.port_threads.proofs.desk.DeskMachine.step.Goals as goal
use Rattle.port_threads.specs.Moves.{moves_in}
use Rattle.turnstile.specs.Passes.{entry_of}

pub invariant_of-self : goal.invariant_of-self
invariant_of-self c = of_desk_more c.self.inside.port c.step.new.self _ c.at.result c.self.invariant c.step.ensures.legal c.step.ensures.entries refl

pub returns-clause-history : goal.returns-clause-history
returns-clause-history c =
    moves_more c.self.inside.port.head c.self.inside.port.entries c.step.new.self.entries _ c.args.actor c.at.result c.self.invariant.legal c.step.ensures.entries refl c.at.ensures
    ∙ ap (λ (p : PortView). moves_in p.entries ++ entry_of c.args.actor c.args.seq c.args.step.now ∷ []) c.self.view_is
