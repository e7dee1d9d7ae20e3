use Rattle.std.proofs.Common.{◌∙◌, rules, tests}
use Rattle.std.proofs.lemmas.Iterator.{YieldsList-from_slice}
use Rattle.std.proofs.lemmas.Iterator.Search.{any_from_yields_List}
use Rattle.std.specs.Prelude.{option_map}
use Rattle.host_defer.specs.Obstacles.{is_elsewhere}
use Rattle.port_rules.specs.Kick.{place_and_queuing}
use Rattle.port_steps.proofs.OutlineLemmas.{any_outlined}
use Rattle.port_steps.proofs.deferral.any_flight_elsewhere.Goals as goal

pub returns : goal.returns
returns c =
    any_from_yields_List (λ slot. is_elsewhere c.args.x (option_map place_and_queuing slot)) _ _ c.any.result c.any.ensures.ran
    (YieldsList-from_slice c.args.flights.now cc) (λ x b q k. search (rules, tests))
    ∙ any_outlined (is_elsewhere c.args.x) c.args.flights.now
