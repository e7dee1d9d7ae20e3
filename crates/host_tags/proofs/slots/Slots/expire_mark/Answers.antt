use Rattle.std.proofs.Common.{sym, ◌∙◌}
use Rattle.host_tags.specs.Marks.{expired}
use Rattle.host_tags.proofs.NumberLemmas.{free_stays}
use Rattle.host_tags.proofs.slots.Slots.expire_mark.Goals as goal

pub returns-in_default : goal.returns-in_default
returns-in_default c = free_stays expired c.args.tag c.args.self.now (sym c.in_default.is ∙ c.get.ensures.flight)
