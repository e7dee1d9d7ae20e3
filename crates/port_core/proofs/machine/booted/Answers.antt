use Rattle.std.proofs.Common.{◌≡◌, ◌∷◌, [], ◌∙◌, ap}
use Rattle.ata_trace.specs.Entries.{past_of}
use Rattle.ata_trace.specs.Event.{onto}
use Rattle.port_rules.specs.Boot.{boot_acts, boot_entry}
use Rattle.port_core.proofs.Growing.{booted_entries, IsLegal_boot}
use Rattle.port_core.proofs.machine.booted.Goals as goal

pub returns-clause-entries : goal.returns-clause-entries
returns-clause-entries c =
    booted_entries c.args.head c.in_ok-ledger.ledger.entries c.boot.new.ledger.entries c.in_ok-ledger.ensures.past
    (c.boot.ensures.past ∙ ap (λ head. onto (past_of c.in_ok-ledger.ledger.entries) (boot_acts head)) c.in_ok-ledger.ensures.head)

pub returns-clause-legal : goal.returns-clause-legal
returns-clause-legal c =
    let entries : c.boot.new.ledger.entries ≡ boot_entry c.args.head ∷ [] = returns-clause-entries c in
    rw (c.boot.ensures.head, c.in_ok-ledger.ensures.head, entries) (IsLegal_boot c.args.head)
