use Rattle.std.proofs.Common.{◌≡◌, length}
use Rattle.ata_base.specs.Limits.{most_places}
use Rattle.port_ledger.specs.QueueParts.{IsReserved}
use Rattle.port_ledger.proofs.command_queues.reserve_each.Given as goal

abbrev pub invariant-loop-n : goal.invariant-loop-n
invariant-loop-n l =
    (l.queues.lists ≡ l.initial.queues.lists)
    × (length l.queues.lists ≡ most_places)
    × IsReserved l.n l.room l.initial.queues.spares l.queues.spares
