use Rattle.std.proofs.Common.{◌<◌, length, arith}
use Rattle.port_core.proofs.ToldLemmas.{ids_more}
use Rattle.port_core.proofs.journal_ranges.ids_in_range.Goals as goal

pub loop-command-preserved : goal.loop-command-preserved
loop-command-preserved c =
    let within : c.loop-command.command-index < length c.args.commands.now = omega arith in
    ids_more c.args.commands.now c.loop-command.command-index c.command-item.result within c.command-item.is c.loop-command.invariant c.id_in_range.ensures
