use Rattle.atahost.proofs.CompletenessLemmas.{complete}
use Rattle.atahost.proofs.replay.replay_all.Goals as goal

pub returns-clause-complete : goal.returns-clause-complete
returns-clause-complete g c script reads writes =
    complete _ g.S.Source.left g.S.Source.fault_count g.K.Sink.written g.K.Sink.fault_count _ _ _ _ _ c.play.ensures.replays
    c.play.ensures.no_usage script reads writes

pub returns-clause-calm : goal.returns-clause-calm
returns-clause-calm g c calm =
    c.calm_scripts_end_calmly.ensures _ _ _ _ _ _ c.play.ensures.replays.told calm
