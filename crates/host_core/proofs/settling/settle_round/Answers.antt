use Rattle.std.proofs.Common.{◌∙◌, ap, append-nil, sym}
use Rattle.ata_trace.specs.Entries.{past_of}
use Rattle.host_core.proofs.SettleLemmas.{busy_round, last_round, on_err_any, played_part, round_part, tick_follows}
use Rattle.port_rules.specs.Coming.{coming}
use Rattle.host_core.proofs.settling.settle_round.Goals as goal

pub returns-in_err-play_round-clause-part : goal.returns-in_err-play_round-clause-part
returns-in_err-play_round-clause-part g c =
    on_err_any c.from_residual.result
    (λ left.
    round_part (g.S.Station.seen c.args.port.now).head left (g.S.Station.seen c.args.port.now).entries (g.S.Station.seen c.play_round.new.port).entries (sym c.is_settled.ensures ∙ c.if-is_settled.false)
    c.in_err-play_round.ensures.part)

pub returns-then-not-branch-clause-goes : goal.returns-then-not-branch-clause-goes
returns-then-not-branch-clause-goes g c left =
    busy_round (g.S.Station.seen c.args.port.now).head left (g.S.Station.seen c.args.port.now).entries (g.S.Station.seen c.play_round.new.port).entries (sym c.is_settled.ensures ∙ c.if-is_settled.false)
    c.in_ok-play_round.ensures.entries (sym c.in_ok-play_round.ensures.idle ∙ c.if-not-branch.true)

pub returns-in_err-take-in-Some-clause-part : goal.returns-in_err-take-in-Some-clause-part
returns-in_err-take-in-Some-clause-part g c =
    on_err_any c.from_residual-in_err-take-in-Some.result
    (λ left.
    played_part (g.S.Station.seen c.args.port.now).head left (g.S.Station.seen c.args.port.now).entries (g.S.Station.seen c.play_round.new.port).entries (g.S.Station.seen c.take.new.port).entries
    (sym c.is_settled.ensures ∙ c.if-is_settled.false) c.in_ok-play_round.ensures.entries c.in_err-take-in-Some.ensures.err)

pub returns-in_ok-take-in-Some-clause-goes : goal.returns-in_ok-take-in-Some-clause-goes
returns-in_ok-take-in-Some-clause-goes g c left =
    tick_follows (g.S.Station.seen c.args.port.now) (g.S.Station.seen c.play_round.new.port) (g.S.Station.seen c.take.new.port) left c.in-Some.time.n c.now.result.n c.at-ms.result
    (sym c.is_settled.ensures ∙ c.if-is_settled.false) c.in_ok-play_round.ensures.entries
    (sym c.in_ok-play_round.ensures.idle ∙ c.if-not-branch.false) c.in_ok-play_round.ensures.head c.in-Some.ensures.value c.now.ensures
    c.at-ms.ensures c.in_ok-take-in-Some.ensures.entries

pub returns-in-None-clause-goes : goal.returns-in-None-clause-goes
returns-in-None-clause-goes g c left =
    append-nil (g.S.Station.seen c.play_round.new.port).entries
    ∙ last_round (g.S.Station.seen c.args.port.now).head left (g.S.Station.seen c.args.port.now).entries (g.S.Station.seen c.play_round.new.port).entries (sym c.is_settled.ensures ∙ c.if-is_settled.false)
    c.in_ok-play_round.ensures.entries (sym c.in_ok-play_round.ensures.idle ∙ c.if-not-branch.false)
    (ap (λ h. coming h (past_of (g.S.Station.seen c.play_round.new.port).entries)) (sym c.in_ok-play_round.ensures.head) ∙ sym c.in-None.ensures.value)
