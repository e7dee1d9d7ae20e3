use Rattle.atahost.proofs.CompletenessLemmas.{complete}
use Rattle.atahost.proofs.running.run_all.Goals as goal

pub returns-clause-complete : goal.returns-clause-complete
returns-clause-complete g c script reads writes =
    complete _ g.S.Source.left g.S.Source.fault_count g.K.Sink.written g.K.Sink.fault_count _ _ _ _ _ c.play.ensures.replays
    c.play.ensures.no_usage script reads writes
