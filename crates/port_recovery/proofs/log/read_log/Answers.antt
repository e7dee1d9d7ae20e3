use Rattle.std.proofs.Common.{sym, subst}
use Rattle.ata_trace.specs.Entries.{past_of}
use Rattle.ata_trace.specs.declared.act.Act.{Act}
use Rattle.host_tags.specs.Slots.{lowest_free}
use Rattle.port_ledger.specs.Sound.{IsSound}
use Rattle.port_past.specs.Drives.{drive_at}
use Rattle.port_past.specs.Slots.{slots}
use Rattle.port_recovery.proofs.LogLemmas.{log_is_sound, log_told}
use Rattle.port_recovery.proofs.log.read_log.Goals as goal

pub note-requires-clause-sound : goal.note-requires-clause-sound
note-requires-clause-sound c =
    let head = c.args.ledger.now.head in
    let events = past_of c.args.ledger.now.entries in
    subst (λ (act : Act). IsSound head events act) (sym c.log_act-act.ensures)
    (log_is_sound head events c.args.place (lowest_free (slots events)) (drive_at head events c.args.place))

pub returns : goal.returns
returns c =
    log_told c.args.place c.dropped-tags.result (rw c.log_act-act.ensures at c.note.ensures) c.dropped-tags.ensures
    c.requires.held c.abort_all.ensures
