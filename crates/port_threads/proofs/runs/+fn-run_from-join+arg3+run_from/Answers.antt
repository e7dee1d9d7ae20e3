use Rattle.std.proofs.Common.{◌≡◌, ◌≢◌, ℕ, ◌≤◌, ◌<◌, ◌+◌, [], map, arith, sym, ap, ◌∙◌, subst, rules}
use Rattle.std.specs.Prelude.{All}
use Rattle.std.proofs.lemmas.Result.{IfOk-weaker}
use Rattle.std.proofs.lemmas.List.Elements.{All-weaker}
use Rattle.ata_trace.specs.declared.step.Step.{Step}
use Rattle.turnstile.specs.Passes.{place}
use Rattle.port_threads.specs.Held.{Held, at_of}
use Rattle.port_threads.specs.Walks.{Walked, AreWovenFrom}
use Rattle.port_threads.proofs.Crowds.{woven_end, woven_past, woven_join, woven_ats, ats_single, ats_lessened, shares_lessened, fresh_lessened}
use Rattle.port_threads.proofs.Lines.{walked_ats}
use Rattle.port_threads.proofs.runs.+fn-run_from-join+arg3+run_from.Goals as goal

pub returns-then-from-ge-ACTORS : goal.returns-then-from-ge-ACTORS
returns-then-from-ge-ACTORS g t c = woven_end _ _ _ c.if-from-ge-ACTORS.true c.requires.few c.requires.fresh

pub returns-then-not-has_step : goal.returns-then-not-has_step
returns-then-not-has_step g t c =
    let none : All (λ (line : ℕ × ℕ × Step). line.0 ≢ c.args.from) c.args.script.now.steps = subst (All (λ (line : ℕ × ℕ × Step). line.0 ≢ c.args.from)) c.items.ensures c.if-not-has_step.ensures in
    IfOk-weaker c.run_from.result (AreWovenFrom (c.args.from + 1) c.args.script.now.steps c.args.passes) (AreWovenFrom c.args.from c.args.script.now.steps c.args.passes)
    (λ q w. woven_past c.args.from c.args.script.now.steps c.args.passes q none w) c.run_from.ensures

pub join-mine-requires-after_bounds : goal.join-mine-requires-after_bounds
join-mine-requires-after_bounds g t c κs within =
    let e = c.split-rest.ensures in
    let low : c.args.from < 32 = omega (arith, c.if-from-ge-ACTORS.false) in
    let mine : map at_of c.split-rest.result.1 ≡ map place c.args.desks.now = ap (map at_of) e.given ∙ ats_single c.args.passes ∙ c.requires.made in
    let rest : map at_of c.split-rest.result.0 ≡ map place c.args.desks.now = ap (map at_of) e.rest ∙ ats_lessened c.args.passes ∙ c.requires.made in
    let shares : All (λ (h : Held). 33 ≤ h.share + (c.args.from + 1)) c.split-rest.result.0 = subst (All (λ (h : Held). 33 ≤ h.share + (c.args.from + 1))) (sym e.rest) (shares_lessened c.args.from c.args.passes (omega (arith, low)) c.requires.shares) in
    let fresh : All (λ (h : Held). h.own ≡ []) c.split-rest.result.0 = subst (All (λ (h : Held). h.own ≡ [])) (sym e.rest) (fresh_lessened c.args.passes c.requires.fresh) in
    search rules

pub join-requires-clause-made : goal.join-requires-clause-made
join-requires-clause-made g t c =
    let w : AreWovenFrom (c.args.from + 1) c.args.script.now.steps c.split-rest.result.0 c.in-Ok-Ok.rest = search rules in
    woven_ats _ _ _ _ w ∙ ap (map at_of) c.split-rest.ensures.rest ∙ ats_lessened c.args.passes ∙ c.requires.made

pub join-requires-clause-other : goal.join-requires-clause-other
join-requires-clause-other g t c =
    let w : Walked c.args.from c.args.script.now.steps c.split-rest.result.1 c.in-Ok-Ok.mine = search rules in
    walked_ats _ _ _ _ w ∙ ap (map at_of) c.split-rest.ensures.given ∙ ats_single c.args.passes ∙ c.requires.made

pub returns-in-Ok-Ok : goal.returns-in-Ok-Ok
returns-in-Ok-Ok g t c =
    let r : AreWovenFrom (c.args.from + 1) c.args.script.now.steps c.split-rest.result.0 c.in-Ok-Ok.rest = search rules in
    let m : Walked c.args.from c.args.script.now.steps c.split-rest.result.1 c.in-Ok-Ok.mine = search rules in
    let some : All (λ (h : Held). 1 ≤ h.share) c.args.passes = All-weaker (λ (h : Held). 33 ≤ h.share + c.args.from) (λ (h : Held). 1 ≤ h.share) (λ h le. omega (arith, le, c.if-from-ge-ACTORS.false)) c.args.passes c.requires.shares in
    woven_join c.args.from c.args.script.now.steps c.args.passes c.in-Ok-Ok.mine c.in-Ok-Ok.rest c.join.result some
    (subst (λ l. Walked c.args.from c.args.script.now.steps l c.in-Ok-Ok.mine) c.split-rest.ensures.given m)
    (subst (λ l. AreWovenFrom (c.args.from + 1) c.args.script.now.steps l c.in-Ok-Ok.rest) c.split-rest.ensures.rest r)
    c.join.ensures.in_order c.join.ensures.joined
