use Rattle.std.proofs.Common.{rules, ap, sym, subst, ◌∙◌}
use Rattle.turnstile.specs.Views.{at_stage}
use Rattle.turnstile.specs.declared.seat_view.Stage.TheVariants.{Idle}
use Rattle.turnstile.specs.Steps.{IsWaiting, Admitted}
use Rattle.turnstile.proofs.Seats.{draws_as, looks_as}
use Rattle.turnstile.proofs.turnstile.Turnstile.wait.Goals as goal

pub fetch_add-ticket-requires : goal.fetch_add-ticket-requires
fetch_add-ticket-requires g c = (search rules, search rules, draws_as _ _ _ _ _ _ _ c.requires.idle.0 c.requires.idle.1)

pub load-requires : goal.load-requires
load-requires g c = (search rules, search rules, looks_as _ _ _ _ _ _ _ _ c.loop.invariant.1)

pub returns-then-load-ticket : goal.returns-then-load-ticket
returns-then-load-ticket g c =
    let turn = (c.load.ensures.2 c.fetch_add-ticket.result c.loop.invariant.1).0 c.if-load-ticket.true in
    (c.load.ensures.0 ∙ (c.loop.invariant.0 ∙ sym c.requires.made), subst (λ v. Admitted v c.load.new.seat.me) c.loop.invariant.2 turn)

pub loop-preserved : goal.loop-preserved
loop-preserved g c =
    let same = (c.load.ensures.2 c.fetch_add-ticket.result c.loop.invariant.1).1 c.if-load-ticket.false in
    (c.load.ensures.0 ∙ c.loop.invariant.0, subst (λ m. IsWaiting m c.fetch_add-ticket.result) (sym same) c.loop.invariant.1, ap (λ m. at_stage m.0 Idle) same ∙ c.loop.invariant.2)
