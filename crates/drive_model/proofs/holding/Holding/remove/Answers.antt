use Rattle.std.proofs.Common.{◌≡◌, rules, arith}
use Rattle.std.proofs.lemmas.Fn.{filter_same}
use Rattle.std.proofs.lemmas.List.Elements.{All-filter}
use Rattle.drive_model.specs.Holding.{without_issue}
use Rattle.drive_model.specs.Sectors.{IsShort}
use Rattle.drive_model.proofs.holding.Holding.remove.Goals as goal

pub invariant_of-self : goal.invariant_of-self
invariant_of-self c =
    let left : c.retain.new.self.items ≡ without_issue c.args.n.n c.self.inside.list.items = filter_same _ _ _ (λ h b g k. search rules) _ _ c.retain.ensures.filtered in (
      rw c.retain.ensures.capacity (omega (arith, c.retain.ensures.bound, c.self.invariant.0, c.len.ensures, c.len-before.ensures)),
      rw left (All-filter _ (λ h. IsShort h.op) _ c.self.invariant.1),
    )

pub returns-clause-issues : goal.returns-clause-issues
returns-clause-issues c = rw (← c.self.view_is) (filter_same _ _ _ (λ h b g k. search rules) _ _ c.retain.ensures.filtered)
