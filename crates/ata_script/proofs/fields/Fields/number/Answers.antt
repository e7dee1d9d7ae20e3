use Rattle.std.proofs.Common.{◌∙◌, ap}
use Rattle.std.specs.Prelude.{◌&&◌}
use Rattle.ata_trace.specs.Parts.{first}
use Rattle.ata_trace.specs.Reading.{number_in}
use Rattle.ata_script.specs.Fields.Field.{Number}
use Rattle.ata_script.specs.Taking.{State, taken}
use Rattle.ata_script.proofs.NumberTests.{number_told, number_taken}
use Rattle.ata_script.proofs.fields.Fields.number.Goals as goal

pub returns-in-Some-clause-value : goal.returns-in-Some-clause-value
returns-in-Some-clause-value c =
    c.within.ensures.value ∙ number_told c.args.least c.args.most c.in-Some.n c.self.inside.words c.short_number.new.self c.in-Some.ensures.0 c.in-Some.ensures.1
    ∙ ap (λ (s : State). number_in c.args.least c.args.most (first s.rest)) c.self.view_is

pub returns-in-Some-clause-state : goal.returns-in-Some-clause-state
returns-in-Some-clause-state c =
    let s : State = record { rest = c.self.inside.words; form = c.self.inside.form; numbers = c.self.inside.numbers; names = c.self.inside.names } in
    ap (λ b. record { rest = c.short_number.new.self; form = s.form; numbers = s.numbers && b; names = s.names }) c.is_within.ensures
    ∙ number_taken c.args.least c.args.most c.in-Some.n s c.short_number.new.self c.in-Some.ensures.0 c.in-Some.ensures.1
    ∙ ap (taken (Number c.args.least c.args.most)) c.self.view_is
