use Rattle.std.proofs.Common.{sym}
use Rattle.port_ledger.proofs.LiveLemmas.{is_live_there}
use Rattle.port_ledger.proofs.live_flags.LiveFlags.is_live.Goals as goal

pub returns : goal.returns
returns c =
    rw (c.both.ensures, c.is_flagged.ensures, c.is_accepted.ensures)
    (sym (is_live_there c.args.self.now c.args.commands.now.list c.args.id))
