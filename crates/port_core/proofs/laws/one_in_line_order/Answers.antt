use Rattle.port_core.proofs.Weaves.{only_the_run, runs_in_line_order}
use Rattle.port_core.proofs.laws.one_in_line_order.Goals as goal

pub returns-clause-runs : goal.returns-clause-runs
returns-clause-runs c = runs_in_line_order

pub returns-clause-alone : goal.returns-clause-alone
returns-clause-alone c = only_the_run
