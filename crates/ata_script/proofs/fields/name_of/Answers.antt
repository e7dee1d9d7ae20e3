use Rattle.std.proofs.Common.{◌≤◌, length, refl, sym, ◌∙◌}
use Rattle.ata_trace.specs.Names.{IsDriveName}
use Rattle.ata_trace.proofs.NameLemmas.{name_some, name_none}
use Rattle.ata_script.proofs.NameTests.{right_some, right_none}
use Rattle.ata_script.proofs.fields.name_of.Goals as goal

pub returns-in-Some : goal.returns-in-Some
returns-in-Some g c =
    let found = c.in-Some.ensures.found.0 refl in
    record {
      value = c.text_of.ensures.value ∙ c.in-Some.ensures.value ∙ sym (name_some g.row.N c.args.word.now found.0 found.1);
      allowed = c.text_of.ensures.allowed;
      right = right_some g.row.N c.args.word.now found.0 found.1;
    }

pub returns-in-None : goal.returns-in-None
returns-in-None g c =
    let none : length c.args.word.now ≤ g.row.N → IsDriveName c.args.word.now → ⊥ = λ short name. cc (c.in-None.ensures.found.1 (short, name)) in
    record {
      value = c.text_of-in-None.ensures.value ∙ c.dash.ensures ∙ name_none g.row.N c.args.word.now none;
      allowed = c.text_of-in-None.ensures.allowed;
      right = right_none g.row.N c.args.word.now none;
    }
