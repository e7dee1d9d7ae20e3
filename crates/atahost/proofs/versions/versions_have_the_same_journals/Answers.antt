use Rattle.std.proofs.Common.{◌∙◌, sym, ap}
use Rattle.host_core.specs.Versions.{in_version}
use Rattle.port_core.specs.Weave.{journals_of}
use Rattle.atahost.proofs.versions.versions_have_the_same_journals.Goals as goal

pub returns-clause-kept : goal.returns-clause-kept
returns-clause-kept c rounds rest journals first =
    let too = c.first_scripts_are_second_too.ensures rest first.script first.read in
    record {
      script = too.second;
      read = too.read;
      made = first.made ∙ ap (λ heads. journals_of rounds heads first.script.steps) (sym too.head)
          ∙ ap (journals_of rounds too.second.head) (sym too.steps);
    }

pub returns-clause-same : goal.returns-clause-same
returns-clause-same c rounds rest these those first second =
    c.one_list_of_journals.ensures rounds (in_version 2 rest) these those (returns-clause-kept c rounds rest these first) second
