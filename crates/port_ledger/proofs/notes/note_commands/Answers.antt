use Rattle.std.proofs.Common.{ap}
use Rattle.port_ledger.specs.LiveFlags.{live_of}
use Rattle.port_ledger.proofs.LiveLemmas.{ids_retried}
use Rattle.port_ledger.proofs.notes.note_commands.Goals as goal

pub returns-in-Retried-clause-live : goal.returns-in-Retried-clause-live
returns-in-Retried-clause-live c =
    rw (c.in-Retried.is, c.retry.ensures.list)
    (ap (λ ids. live_of c.args.live.now ids) (ids_retried c.in-Retried.id c.in-Retried.allowance_raised c.args.commands.now.list))
