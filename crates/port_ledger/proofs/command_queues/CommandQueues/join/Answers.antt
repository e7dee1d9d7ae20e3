use Rattle.std.proofs.Common.{◌≡◌, ◌<◌, arith, ap, rules, sym}
use Rattle.ata_base.specs.Limits.{most_places}
use Rattle.port_ledger.proofs.QueueLemmas.{EachServes_joined, HasRoom_joined}
use Rattle.port_ledger.proofs.command_queues.CommandQueues.join.Goals as goal

pub invariant_of-self : goal.invariant_of-self
invariant_of-self c =
    let room : c.args.self.now.room ≡ c.self.inside.room = ap (λ r. r.room) (sym c.self.view_is) in
    let some : 0 < c.self.inside.room = omega (arith, c.requires.room, room) in
    let within : c.args.cmd.place < most_places = search rules in (
      rw c.push.ensures.spares (HasRoom_joined _ _ c.args.cmd.place _ c.self.invariant.0 some within),
      rw c.push.ensures.lists (EachServes_joined c.args.cmd _ c.self.invariant.1 c.requires.served),
      c.self.invariant.2,
      omega (arith, c.self.invariant.3),
    )
