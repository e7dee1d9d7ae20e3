use Rattle.std.proofs.Common.{◌≡◌, ◌<◌, ◌-◌, sym, ap, arith, get_or}
use Rattle.std.proofs.lemmas.Grind.{common_steps}
use Rattle.port_past.specs.Commands.{counted}
use Rattle.port_ledger.specs.Commands.{index_of}
use Rattle.port_ledger.proofs.CommandLemmas.{index_counted, index_within, map_found, map_missing}
use Rattle.port_ledger.proofs.command_table.CommandTable.retry.Goals as goal

pub returns-then-at-ne0-clause-list : goal.returns-then-at-ne0-clause-list
returns-then-at-ne0-clause-list c =
    let list : c.args.self.now.list ≡ c.self.inside.list.items = ap (λ r. r.list) (sym c.self.view_is) in
    let at : c.place_of-at.result ≡ index_of c.args.id c.self.inside.list.items = rw (← list) c.place_of-at.ensures in
    let here : c.index-was.result.now ≡ get_or c.self.inside.list.items (index_of c.args.id c.self.inside.list.items - 1) c.index-was.result.now = grind (arith, common_steps) in
    let some : 0 < index_of c.args.id c.self.inside.list.items = omega arith in
    rw (list, c.counted.ensures, at) (sym (map_found (counted c.args.allowance_raised) c.args.id c.self.inside.list.items c.index-was.result.now c.self.invariant.0.apart some here))

pub returns-else-at-ne0-clause-list : goal.returns-else-at-ne0-clause-list
returns-else-at-ne0-clause-list c =
    let list : c.args.self.now.list ≡ c.self.inside.list.items = ap (λ r. r.list) (sym c.self.view_is) in
    let at : c.place_of-at.result ≡ index_of c.args.id c.self.inside.list.items = rw (← list) c.place_of-at.ensures in
    rw list (sym (map_missing (counted c.args.allowance_raised) c.args.id c.self.inside.list.items (omega arith)))

pub invariant_of-self : goal.invariant_of-self
invariant_of-self c =
    let list : c.args.self.now.list ≡ c.self.inside.list.items = ap (λ r. r.list) (sym c.self.view_is) in
    let at : c.place_of-at.result ≡ index_of c.args.id c.self.inside.list.items = rw (← list) c.place_of-at.ensures in
    let here : c.index-was.result.now ≡ get_or c.self.inside.list.items (index_of c.args.id c.self.inside.list.items - 1) c.index-was.result.now = grind (arith, common_steps) in
    let some : 0 < index_of c.args.id c.self.inside.list.items = omega arith in (
      rw at (index_counted c.self.inside.table.items c.self.inside.list.items (index_of c.args.id c.self.inside.list.items - 1) c.index-was.result.now c.counted.result c.args.allowance_raised c.self.invariant.0 here (index_within c.args.id c.self.inside.list.items some) c.counted.ensures),
      c.self.invariant.1,
    )
