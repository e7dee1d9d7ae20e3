use Rattle.port_core.proofs.StepRanges.{script_in_range}
use Rattle.port_core.proofs.Weaves.{journals_are_legal}
use Rattle.port_core.proofs.laws.script_journals_are_legal.Goals as goal

pub returns-clause-steps : goal.returns-clause-steps
returns-clause-steps c = script_in_range

pub returns-clause-journals : goal.returns-clause-journals
returns-clause-journals c bytes script rounds is = journals_are_legal rounds 0 script.head script.steps (script_in_range bytes script is)
