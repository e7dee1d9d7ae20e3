use Rattle.std.proofs.Common.{◌<◌, length, arith}
use Rattle.ata_trace.specs.Entries.{past_of}
use Rattle.port_past.specs.Live.{live}
use Rattle.port_core.specs.Text.{live_text}
use Rattle.port_core.proofs.Pieces.{list_cut, list_more}
use Rattle.port_core.proofs.text.put_lives.Goals as goal

pub returns-in-Err : goal.returns-in-Err
returns-in-Err g c =
    let within : c.loop-command.command-index < length c.args.accepted.now = omega arith in
    list_cut (live_text (live (past_of c.args.port.now.entries))) _ _ _ _ _ _ _ c.args.accepted.now c.loop-command.command-index c.command-item.result within c.command-item.is c.loop-command.invariant c.in-Err.ensures

pub loop-command-preserved : goal.loop-command-preserved
loop-command-preserved g c =
    let within : c.loop-command.command-index < length c.args.accepted.now = omega arith in
    list_more (live_text (live (past_of c.args.port.now.entries))) _ _ _ _ _ _ c.args.accepted.now c.loop-command.command-index c.command-item.result within c.command-item.is c.loop-command.invariant c.in-Ok.ensures
