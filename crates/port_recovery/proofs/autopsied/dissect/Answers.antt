use Rattle.port_recovery.proofs.PlaceLemmas.{dissected}
use Rattle.port_recovery.proofs.autopsied.dissect.Goals as goal

pub returns : goal.returns
returns c =
    dissected c.findings_at-found.ensures.value c.judge_all.ensures.adds c.record_if.ensures c.heat_if.ensures c.note.ensures
