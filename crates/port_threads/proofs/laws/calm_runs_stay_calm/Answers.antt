use Rattle.port_threads.proofs.CalmRuns.{run_calm}
use Rattle.port_threads.proofs.laws.calm_runs_stay_calm.Goals as goal

pub returns : goal.returns
returns c = run_calm
