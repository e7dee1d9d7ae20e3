use Rattle.std.proofs.Common.{◌≡◌, ◌-◌, ◌*◌, ◌%◌, drop, length, sum, take, ap, ◌∙◌, arith, zero-add}
use Rattle.std.proofs.Math.Seq.{take-take, take-length}
use Rattle.ata_lanes.proofs.Lanes.{add_chunk, fold_added}
use Rattle.ata_lanes.proofs.sum.sum512.Goals as goal

pub loop-chunk-preserved : goal.loop-chunk-preserved
loop-chunk-preserved c =
    let k = c.loop-chunk.chunk in
    let whole = take-take 64 (512 - 64 * k) (drop (64 * k) c.args.page.now) (omega arith) in
    add_chunk c.loop-chunk.lanes c.args.page.now _ k c.told-page (omega arith) whole c.loop-chunk.invariant

pub returns : goal.returns
returns c =
    let page = c.args.page.now in
    let all : 64 * c.loop-chunk.chunk ≡ length page = omega (arith, c.told-page) in
    fold_added 0 c.loop-chunk.lanes (omega arith) ∙ ap (λ n. n % 256) (zero-add (sum c.loop-chunk.lanes)) ∙ c.loop-chunk.invariant.1
    ∙ ap (λ n. sum (take n page) % 256) all ∙ ap (λ bytes. sum bytes % 256) (take-length page)
