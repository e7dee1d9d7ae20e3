use Rattle.std.proofs.Common.{ap, arith}
use Rattle.ata_script.specs.declared.port_head.PortHead.{PortHead}
use Rattle.port_recovery.proofs.PlaceLemmas.{places_begin, places_next, places_end}
use Rattle.port_recovery.proofs.autopsied.examine_all.Goals as goal

pub loop-at-init : goal.loop-at-init
loop-at-init c = places_begin c.args.ledger.now

pub loop-at-preserved : goal.loop-at-preserved
loop-at-preserved c = places_next c.at.ensures c.loop-at.invariant c.examine.ensures

pub returns-clause-adds : goal.returns-clause-adds
returns-clause-adds c =
    let places = ap (λ (head : PortHead). head.places) c.head.ensures in
    places_end (omega (arith, places)) c.loop-at.invariant
