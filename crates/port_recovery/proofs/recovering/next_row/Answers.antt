use Rattle.port_ledger.specs.LedgerView.{past}
use Rattle.port_recovery.proofs.RowLemmas.{row_found}
use Rattle.port_recovery.proofs.recovering.next_row.Goals as goal

pub returns : goal.returns
returns c =
    row_found c.args.ledger.now.head (past c.args.ledger.now) c.phase-stands.ensures c.observe-seen.ensures.value
    c.next.ensures
