use Rattle.std.proofs.Common.{◌≡◌, ◌≤◌, ◌+◌, ◌^◌, [], map, sym, ap, ◌∙◌, subst, arith}
use Rattle.std.specs.Prelude.{All}
use Rattle.std.proofs.lemmas.List.Elements.{All-weaker}
use Rattle.port_threads.specs.Held.{Held, at_of}
use Rattle.port_threads.specs.Walks.{AreWovenFrom}
use Rattle.port_threads.proofs.Ends.{new_in_order, first_ats, first_shares, first_fresh, woven_only, run_done}
use Rattle.port_threads.proofs.Crowds.{woven_ats}
use Rattle.std.proofs.lemmas.Result.{IfOk-weaker}
use Rattle.port_threads.proofs.runs.run_actors.Goals as goal
use Rattle.port_threads.specs.Stiles.{AllClosed, AllNew, first_pass}
use Rattle.port_threads.specs.Weave.{IsRunOf}

pub run_from-requires-clause-made : goal.run_from-requires-clause-made
run_from-requires-clause-made g c κs within = ap (map at_of) c.in_ok-desks.ensures.passes ∙ first_ats c.in_ok-desks.desks.items ∙ ap (map _) (sym c.as_slice.ensures.value)

pub run_from-requires-clause-shares : goal.run_from-requires-clause-shares
run_from-requires-clause-shares g c κs within =
    subst (All (λ (h : Held). 33 ≤ h.share + 0)) (sym c.in_ok-desks.ensures.passes)
    (All-weaker (λ (h : Held). h.share ≡ 2 ^ 32) (λ (h : Held). 33 ≤ h.share + 0) (λ h e. omega (arith, e)) _ (first_shares c.in_ok-desks.desks.items))

pub run_from-requires-clause-fresh : goal.run_from-requires-clause-fresh
run_from-requires-clause-fresh g c κs within = subst (All (λ (h : Held). h.own ≡ [])) (sym c.in_ok-desks.ensures.passes) (first_fresh c.in_ok-desks.desks.items)

pub close-requires-clause-made : goal.close-requires-clause-made
close-requires-clause-made g c =
    woven_ats 0 c.args.script.now.steps c.in_ok-desks.passes c.in_ok-passes.passes c.in_ok-passes.ensures ∙ ap (map at_of) c.in_ok-desks.ensures.passes ∙ first_ats c.in_ok-desks.desks.items

pub close-requires-clause-only : goal.close-requires-clause-only
close-requires-clause-only g c =
    woven_only c.args.script.now.steps c.in_ok-desks.passes c.in_ok-passes.passes c.in_ok-passes.ensures
    (subst (All (λ (h : Held). h.share ≡ 2 ^ 32)) (sym c.in_ok-desks.ensures.passes) (first_shares c.in_ok-desks.desks.items))

pub close-requires-clause-numbers : goal.close-requires-clause-numbers
close-requires-clause-numbers g c = new_in_order _ _ c.in_ok-desks.ensures.desks

pub returns : goal.returns
returns g c =
    let heads = c.args.script.now.head in
    let lines = c.args.script.now.steps in
    let desks = c.in_ok-desks.desks.items in
    let passes = c.in_ok-passes.passes in
    let new : AllNew 0 heads desks = subst (λ hs. AllNew 0 hs desks) c.items-2.ensures c.in_ok-desks.ensures.desks in
    let woven : AreWovenFrom 0 lines (map first_pass desks) passes = subst (λ hs. AreWovenFrom 0 lines hs passes) c.in_ok-desks.ensures.passes c.in_ok-passes.ensures in
    IfOk-weaker c.close.result (λ host. AllClosed desks passes host) (λ host. IsRunOf heads lines host) (λ host closed. run_done heads lines desks passes host new woven closed) c.close.ensures
