use Rattle.std.proofs.Common.{arith}
use Rattle.ata_lanes.proofs.Window.{halves, six_from}
use Rattle.ata_lanes.proofs.counts.count_cats.Goals as goal

pub returns : goal.returns
returns c =
    let n = c.args.n in
    let cats = c.args.cats.now in
    let parts = halves cats n c.window_len-end.result c.min-dubious.result _ c.window_len-end.ensures.value
    (omega (arith, c.window_len-end.ensures.within, c.requires.places, c.told-cats)) c.dubious_run.result c.dubious_run.ensures c.min-dubious.ensures in
    six_from c.count_between.ensures c.count_between-2.ensures c.count_between-3.ensures c.count_between-4.ensures c.count_between-5.ensures
    c.count_between-6.ensures parts.0 parts.1
