use Rattle.std.proofs.Common.{◌∙◌}
use Rattle.ata_trace.specs.Entries.{past_of}
use Rattle.port_before.proofs.Due.{coming_same}
use Rattle.port_core.proofs.Recoverable.{recoverable}
use Rattle.port_core.proofs.Settles.{comes_late, comes_soon}
use Rattle.port_core.proofs.machine.Machine.coming.Goals as goal

pub coming-requires-clause-tries : goal.coming-requires-clause-tries
coming-requires-clause-tries c =
    (recoverable c.self.inside.ledger.head c.self.inside.ledger.entries c.self.invariant.legal).tries

pub returns-clause-soon : goal.returns-clause-soon
returns-clause-soon c =
    rw (← c.self.view_is)
    (comes_soon c.self.inside.ledger.head c.self.inside.ledger.entries c.self.invariant.legal c.coming.result c.coming.ensures)

pub returns-clause-before_drain : goal.returns-clause-before_drain
returns-clause-before_drain c =
    rw (← c.self.view_is)
    (λ drain. c.coming.ensures ∙ coming_same c.self.inside.ledger.head drain (past_of c.self.inside.ledger.entries))

pub returns-clause-later : goal.returns-clause-later
returns-clause-later c =
    rw (← c.self.view_is)
    (comes_late c.self.inside.ledger.head c.self.inside.ledger.entries c.coming.result c.coming.ensures)
