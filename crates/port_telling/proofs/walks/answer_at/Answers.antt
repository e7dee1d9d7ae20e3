use Rattle.std.proofs.Common.{◌∙◌, sym}
use Rattle.port_telling.proofs.WalkLemmas.{answered_left}
use Rattle.port_telling.proofs.walks.answer_at.Goals as goal

pub returns-clause-left : goal.returns-clause-left
returns-clause-left c =
    λ test kinds. answered_left _ _ _ _ test kinds c.in-Some.flight c.args.tag c.in-Some-completion.it.now _ _ _ _ _ _
    c.note.ensures.head c.note.ensures.past c.flight.ensures.apart (sym c.flight.ensures.value ∙ c.in-Some.is)
    (sym c.in-Some-completion.ensures.value)
