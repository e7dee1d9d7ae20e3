use Rattle.std.proofs.Common.{◌∙◌}
use Rattle.port_steps.proofs.DispatchLemmas.{expire_told, recover_told}
use Rattle.port_steps.proofs.dispatch.act.Goals as goal

pub returns-in-Expire : goal.returns-in-Expire
returns-in-Expire c = record {
  past = expire_told c.in-Expire.is c.begin.ensures c.expire.ensures;
  head = c.expire.ensures.head ∙ c.begin.ensures.head;
}

pub returns-in-Recover : goal.returns-in-Recover
returns-in-Recover c = record {
  past = recover_told c.in-Recover.is c.begin.ensures c.recover.ensures;
  head = c.recover.ensures.head ∙ c.begin.ensures.head;
}
