use Rattle.std.proofs.Common.{◌∙◌, sym}
use Rattle.port_recovery.proofs.FinishLemmas.{finish_one, finish_stays, finish_tells}
use Rattle.port_recovery.proofs.finishing.finish_at.Goals as goal

pub returns-in-Some-clause-tells : goal.returns-in-Some-clause-tells
returns-in-Some-clause-tells c =
    finish_tells c.args.tag c.requires.single c.finish_of.ensures.apart (sym c.finish_of.ensures.act ∙ c.in-Some.is) c.note.ensures

pub returns-in-Some-clause-single : goal.returns-in-Some-clause-single
returns-in-Some-clause-single c =
    finish_one c.args.tag c.requires.single (sym c.finish_of.ensures.act ∙ c.in-Some.is) c.note.ensures

pub returns-in_default-clause-tells : goal.returns-in_default-clause-tells
returns-in_default-clause-tells c =
    finish_stays c.args.ledger.now c.args.tag (sym c.finish_of.ensures.act ∙ c.in_default.is)
