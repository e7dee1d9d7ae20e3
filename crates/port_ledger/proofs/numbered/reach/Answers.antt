use Rattle.std.proofs.Common.{◌≡◌, ◌+◌, ◌-◌, length, arith}
use Rattle.port_ledger.proofs.numbered.reach.Goals as goal

pub returns-clause-items : goal.returns-clause-items
returns-clause-items g c =
    let all : c.loop-at.at - length c.args.table.now.items ≡ c.args.number + 1 - length c.args.table.now.items = omega (arith, c.loop-at-test.false, c.loop-at.invariant.few) in
    rw (← all) c.loop-at.invariant.items
