use Rattle.atahost.proofs.CompletenessLemmas.{ends_calmly}
use Rattle.atahost.proofs.laws.calm_scripts_end_calmly.Goals as goal

pub returns : goal.returns
returns c rounds left rest before after status told calm =
    ends_calmly c.one_list_of_journals.ensures rounds left rest before after status told calm
    (c.calm_scripts_end_well.ensures rounds calm.script.head calm.script.steps
    (c.script_journals_are_legal.ensures.steps calm.bytes calm.script calm.text) calm.calm calm.enough)
