use Rattle.std.proofs.Common.{◌≡◌, ◌+◌, ◌-◌, ◌<◌, ◌≤◌, ◌++◌, ℕ, List, false, length, replicate, ap, sym, arith, length-append}
use Rattle.std.proofs.lemmas.List.{length-replicate}
use Rattle.port_past.specs.Commands.{is_accepted}
use Rattle.port_ledger.proofs.CommandLemmas.{index_push, index_reached}
use Rattle.port_ledger.proofs.command_table.CommandTable.accept.Goals as goal

pub invariant_of-self : goal.invariant_of-self
invariant_of-self c =
    let list : c.args.self.now.list ≡ c.self.inside.list.items = ap (λ r. r.list) (sym c.self.view_is) in
    let fresh : is_accepted c.args.cmd.id c.self.inside.list.items ≡ false = rw (← list) c.requires.fresh in
    let small : c.args.cmd.id < 65536 = omega (arith, c.get-2.ensures.value, c.get-2.ensures.range) in
    let length_is : c.len.result ≡ length c.self.inside.list.items = omega (arith, c.len.ensures, c.self.inside.list.ok.0) in
    let more : ℕ = c.args.cmd.id + 1 - length c.self.inside.table.items in
    let few : length c.self.inside.table.items + more ≤ 65536 = omega (arith, small, c.self.invariant.0.few) in
    let wide : List ℕ = c.self.inside.table.items ++ replicate more 0 in
    let within : c.args.cmd.id < length wide = omega (arith, length-append c.self.inside.table.items (replicate more 0), length-replicate {A = ℕ} more 0) in (
      rw (c.push_reserved.ensures.items, c.get-2.ensures.value, c.reach.ensures.items, c.get.ensures.value)
          (index_push wide c.self.inside.list.items c.args.cmd c.len.result length_is (index_reached _ _ more few c.self.invariant.0) within fresh c.requires.served),
      omega (arith, c.self.invariant.1, c.reach.ensures.capacity),
    )
