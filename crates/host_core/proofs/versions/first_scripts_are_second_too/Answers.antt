use Rattle.host_core.proofs.VersionLemmas.{second_version}
use Rattle.host_core.proofs.versions.first_scripts_are_second_too.Goals as goal

pub returns : goal.returns
returns c = second_version
