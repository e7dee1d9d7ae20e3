use Rattle.std.proofs.Common.{◌≡◌}
use Rattle.atahost.specs.declared.command.Command.TheVariants.{Replay}
use Rattle.atahost.proofs.CompletenessLemmas.{of_same_rounds}
use Rattle.atahost.proofs.top.atahost.Goals as goal

pub returns-in-Some-Replay-clause-calm : goal.returns-in-Some-Replay-clause-calm
returns-in-Some-Replay-clause-calm g c rounds asked =
    let command : Replay c.in-Some-Replay.rounds ≡ Replay rounds = cc in
    of_same_rounds _ _ _ rounds c.replay_all.ensures.calm (cc command)
