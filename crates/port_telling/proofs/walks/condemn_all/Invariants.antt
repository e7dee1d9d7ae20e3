use Rattle.port_rules.specs.Interrupt.{is_struck}
use Rattle.port_rules.specs.TagByTag.{condemnation_of}
use Rattle.port_telling.specs.Walks.{ToldUpTo, completions_in}
use Rattle.port_telling.proofs.walks.condemn_all.Given as goal

abbrev pub invariant-loop-tag : goal.invariant-loop-tag
invariant-loop-tag l =
    ToldUpTo (condemnation_of (is_struck l.all l.failing) l.kinds) completions_in l.tag l.initial.ledger l.ledger
