use Rattle.std.proofs.Common.{◌<◌, length, arith, length-set}
use Rattle.std.proofs.lemmas.List.{get_or_default}
use Rattle.std.proofs.lemmas.List.Edits.{map_over_more}
use Rattle.port_past.specs.Links.{serror_read}
use Rattle.port_ledger.proofs.links.clear_serror.Goals as goal

pub loop-at-preserved : goal.loop-at-preserved
loop-at-preserved c =
    let within : c.loop-at.at < length c.args.links.now = omega (arith, c.loop-at.invariant.1) in
    let still_within : c.loop-at.at < length c.loop-at.links = omega (arith, c.loop-at.invariant.0) in (
      simp length-set c.loop-at.invariant.0,
      c.loop-at.invariant.1,
      rw c.read.ensures (map_over_more serror_read _ _ c.loop-at.at _ within c.loop-at.invariant.2 (get_or_default _ c.loop-at.at _ _ still_within)),
    )
