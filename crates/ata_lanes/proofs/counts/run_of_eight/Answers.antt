use Rattle.std.proofs.Common.{leb, ltb, sym, ap, ap₂, ◌∙◌, arith, w64}
use Rattle.std.specs.Prelude.{min}
use Rattle.std.specs.List.{prefix_len}
use Rattle.std.proofs.lemmas.Simd.{length-chunk, bitmask_splat}
use lib.Lanes.{chunk}
use Rattle.ata_lanes.specs.Counts.{is_within}
use Rattle.ata_lanes.proofs.Lanes.{at_least, first_of_mask}
use Rattle.ata_lanes.proofs.Window.{chunk-zip, two_runs}
use Rattle.ata_lanes.proofs.counts.run_of_eight.Goals as goal

pub returns : goal.returns
returns c =
    let at = c.args.at in
    let since = c.args.since in
    let cats = chunk at 8 c.args.cats.now in
    let times = chunk at 8 c.args.times.now in
    let cats_long = length-chunk at 8 c.args.cats.now c.requires.room in
    let times_long = length-chunk at 8 c.args.times.now (omega (arith, c.requires.room, c.requires.same)) in
    let old = first_of_mask (leb 8) cats 8 _ cats_long (omega arith) (at_least 8 cats 8 cats_long (omega arith)) in
    let early = first_of_mask (λ time. ltb time since) times 8 _ times_long (omega arith) (bitmask_splat w64 ltb times 8 since times_long (omega arith)) in
    c.min.ensures ∙ ap₂ min (c.first_set.ensures ∙ old) (c.first_set-2.ensures ∙ early)
    ∙ sym (two_runs since cats times (cats_long ∙ sym times_long))
    ∙ ap (prefix_len (is_within since)) (chunk-zip at 8 c.args.cats.now c.args.times.now c.requires.same)
