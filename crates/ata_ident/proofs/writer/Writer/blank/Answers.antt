use Rattle.std.proofs.Common.{◌*◌, ◌≤◌, ◌++◌, ap, arith, ◌∙◌}
use Rattle.std.proofs.lemmas.List.{take-replicate}
use Rattle.ata_ident.specs.Build.{blank_words}
use Rattle.ata_ident.proofs.writer.Writer.blank.Goals as goal

pub returns-clause-value : goal.returns-clause-value
unfolding blank_words
returns-clause-value c =
    let within : 2 * c.args.words ≤ 512 = omega arith in
    c.put.ensures.value ∙ ap (λ piece. c.args.self.now ++ piece) (take-replicate (2 * c.args.words) 512 0 within)
