use Rattle.std.proofs.Common.{◌<◌, length, get_or, arith}
use Rattle.std.proofs.lemmas.List.{get_or_default}
use Rattle.ata_trace.specs.Text.{act_line}
use Rattle.ata_trace.specs.declared.act.Act.{Act}
use Rattle.ata_trace.specs.declared.act.Act.TheVariants.{Nothing}
use Rattle.port_core.proofs.Pieces.{list_cut, list_more}
use Rattle.port_core.proofs.text.put_acts.Goals as goal

pub returns-in-Err : goal.returns-in-Err
returns-in-Err g c =
    let within : c.loop-i.i < length c.args.acts.now = omega arith in
    let act : Act = get_or c.args.acts.now c.loop-i.i Nothing in
    list_cut act_line _ _ _ _ _ _ _ c.args.acts.now c.loop-i.i act within (get_or_default _ _ _ _ within) c.loop-i.invariant
    (rw (c.set_line.ensures Nothing) at c.in-Err.ensures)

pub loop-i-preserved : goal.loop-i-preserved
loop-i-preserved g c =
    let within : c.loop-i.i < length c.args.acts.now = omega arith in
    let act : Act = get_or c.args.acts.now c.loop-i.i Nothing in
    list_more act_line _ _ _ _ _ _ c.args.acts.now c.loop-i.i act within (get_or_default _ _ _ _ within) c.loop-i.invariant
    (rw (c.set_line.ensures Nothing) at c.in-Ok.ensures)
