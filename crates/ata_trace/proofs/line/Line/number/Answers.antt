use Rattle.std.proofs.lemmas.Fmt.{decimal_digit}
use Rattle.ata_trace.proofs.line.Line.number.Goals as goal

pub returns-then-n-lt10-clause-text : goal.returns-then-n-lt10-clause-text
returns-then-n-lt10-clause-text c = rw (decimal_digit c.args.n c.if-n-lt10.true) c.text.ensures.text
