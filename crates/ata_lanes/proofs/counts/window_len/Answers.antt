use Rattle.std.proofs.Common.{◌+◌, drop, zip, sym, ap, ap₂, ◌∙◌, arith}
use Rattle.std.specs.List.{prefix_len}
use Rattle.std.proofs.Math.Seq.{drop-drop}
use Rattle.std.proofs.lemmas.List.{length-drop, take_rest}
use Rattle.std.proofs.lemmas.Slice.Zip.{length-zip}
use Rattle.ata_lanes.specs.Counts.{is_within}
use Rattle.ata_lanes.proofs.Window.{zip-drop, runs_on}
use Rattle.ata_lanes.proofs.counts.window_len.Goals as goal

pub loop-seen-preserved : goal.loop-seen-preserved
loop-seen-preserved c =
    let entries = zip c.args.cats.now c.args.times.now in
    let seen = c.loop-seen.seen in
    let many = length-zip c.args.cats.now c.args.times.now in
    let left = length-drop seen entries in
    let on = runs_on (is_within c.args.since) (drop seen entries) 8 c.run_of_eight-run.result (omega arith) c.run_of_eight-run.ensures (omega arith) in
    let further = ap (prefix_len (is_within c.args.since)) (drop-drop 8 seen entries ∙ ap (λ n. drop (seen + n) entries) (sym on.0)) in
    (omega arith, omega (arith, c.loop-seen.invariant.1, on.0, on.1, further))

pub returns-clause-value : goal.returns-clause-value
returns-clause-value c =
    let seen = c.loop-seen.seen in
    let run = prefix_len (is_within c.args.since) in
    let rest = ap₂ (λ cats times. run (zip cats times)) (take_rest c.args.cats.now seen) (take_rest c.args.times.now seen)
    ∙ ap run (zip-drop seen c.args.cats.now c.args.times.now c.requires) in
    ap (λ n. seen + n) (c.plain_run.ensures.value ∙ rest) ∙ sym c.loop-seen.invariant.1
