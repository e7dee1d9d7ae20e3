use Rattle.std.proofs.Common.{◌≡◌, ◌<◌, ◌+◌, ◌^◌, ℕ, List, [], ◌∷◌, length, take, get_or, sym, ap, ◌∙◌, subst, length-set, rules, arith}
use Rattle.std.proofs.lemmas.List.{take_all}
use Rattle.std.specs.Prelude.{slice_index}
use Rattle.ata_trace.specs.declared.step.Step.{Step}
use Rattle.port_threads.proofs.ActorSteps.{length-steps, steps_other, steps_elsewhere}
use Rattle.port_threads.proofs.Lines.{walk_here, walk_past, walk_short, count_here, count_past, walked_ats}
use Rattle.port_threads.proofs.Rows.{made_at, same_length}
use Rattle.port_threads.proofs.walks.walk.Goals as goal
use Rattle.port_threads.proofs.walks.walk.Goals.{then-taker-walker+then-port-desks+in-Ok, else-taker-walker, else-taker-walker-via-then-taker-walker+else-port-desks, else-taker-walker-via-else-taker-walker}
use Rattle.port_threads.specs.Held.{held_at, Grew}
use Rattle.port_threads.specs.Walks.{steps_by, Walked}
use Rattle.turnstile.specs.Passes.{place, entry_of}

pub overflow_add-counts : goal.overflow_add-counts
overflow_add-counts g c =
    let i = c.loop-line.line-index in
    let p = c.get-port.result in
    let lines = c.args.script.now.steps in
    let lt : i < length lines = omega (arith, c.loop-line-test.true, ap length c.items-line-items.ensures) in
    let within : p < length c.args.desks.now = omega (arith, c.if-port-desks.true) in
    let short : length c.items-line-items.result.now < 2 ^ 64 = search rules in
    omega (arith, c.loop-line.invariant.counts p within, length-steps p c.args.actor lines i (omega (arith, lt)), c.loop-line-test.true, short)

pub enter_at-requires-clause-made : goal.enter_at-requires-clause-made
enter_at-requires-clause-made g c =
    let within : c.get-port.result < length c.args.desks.now = omega (arith, c.if-port-desks.true) in
    let ats = walked_ats _ _ c.args.passes c.loop-line.passes c.loop-line.invariant.walked ∙ c.requires.made in
    let same = same_length c.loop-line.passes c.args.desks.now ats in
    made_at c.loop-line.passes c.args.desks.now c.get-port.result c.index-desks-port.result ats (omega (arith, within, same)) within ∙ ap (λ d. place d) (sym c.index-desks-port.is)

pub returns-in-Err-clause-short : goal.returns-in-Err-clause-short
returns-in-Err-clause-short g c = walk_short _ _ _ _ _ _ _ c.loop-line.invariant.walked c.in-Err.ensures.others c.in-Err.ensures.grew

pub loop-line-preserved : goal.loop-line-preserved
loop-line-preserved g c =
    let i = c.loop-line.line-index in
    let p = c.get-port.result in
    let lines = c.args.script.now.steps in
    let x : ℕ × ℕ × Step = c.line-item.result in
    let lt : i < length lines = omega (arith, c.loop-line-test.true, ap length c.items-line-items.ensures) in
    let is : x ≡ get_or lines i x = c.line-item.is ∙ ap (λ l. get_or l i x) c.items-line-items.ensures in
    let port : p ≡ x.1 = c.get-port.ensures.value in
    let taker : c.get-taker.result ≡ x.0 = c.get-taker.ensures.value in
    let walker : c.get-walker.result ≡ c.args.actor = c.get-walker.ensures.value in
    let same : length c.args.passes ≡ length c.args.desks.now = same_length c.args.passes c.args.desks.now c.requires.made in
    let k = c.loop-line.invariant in
    elim c.if-taker-walker.branch [
      | then-taker-walker+then-port-desks+in-Ok w ↦
          let mine : x.0 ≡ c.args.actor = sym taker ∙ w.if-taker-walker.true ∙ walker in
          let within : p < length c.args.desks.now = omega (arith, w.if-port-desks.true) in
          let small : p < length c.loop-line.counts = omega (arith, k.long, c.get-port.ensures.range) in
          let seq : ℕ = slice_index c.loop-line.counts p in
          let grew = subst (λ a. Grew (held_at c.loop-line.passes p) (entry_of a seq x.2 ∷ []) (held_at w.enter_at.new.self p)) walker w.in-Ok.ensures.grew in
          record {
            walked = subst (Walked c.args.actor _ c.args.passes) (sym w.passes-is)
                (walk_here c.args.actor lines i x x p seq c.args.passes c.loop-line.passes w.enter_at.new.self lt is mine port (k.counts p within) k.walked w.in-Ok.ensures.others grew);
            long = ap length w.counts-is ∙ length-set c.loop-line.counts p (seq + 1) ∙ k.long;
            counts = count_here c.args.actor lines i x x p c.loop-line.counts c.if-taker-walker.counts (length c.args.desks.now) lt is mine port small within k.counts w.counts-is;
          }
      | else-taker-walker w ↦
          let stays : (at : ℕ) → at < length c.args.passes → steps_by at (take (i + 1) lines) c.args.actor ≡ steps_by at (take i lines) c.args.actor =
          elim w.else-taker-walker.branch [
            | else-taker-walker-via-then-taker-walker+else-port-desks v ↦ λ at le. steps_elsewhere at c.args.actor lines i x x lt is (λ e. absurd (omega (arith, e, le, same, port, v.if-port-desks.false)))
            | else-taker-walker-via-else-taker-walker v ↦ λ at le. steps_other at c.args.actor lines i x x lt is (λ e. v.if-taker-walker.false (taker ∙ e ∙ sym walker))
          ] in
          record {
            walked = subst (Walked c.args.actor _ c.args.passes) (sym w.passes-is) (walk_past c.args.actor lines i c.args.passes c.loop-line.passes stays k.walked);
            long = ap length w.counts-is ∙ k.long;
            counts = subst (λ (l : List ℕ). (at : ℕ) → at < length c.args.desks.now → slice_index l at ≡ length (steps_by at (take (i + 1) lines) c.args.actor)) (sym w.counts-is)
                (count_past c.args.actor lines i c.loop-line.counts (length c.args.desks.now) (λ at le. stays at (omega (arith, le, same))) k.counts);
          }
    ]

pub returns-clause-walked : goal.returns-clause-walked
returns-clause-walked g c =
    let lines = c.args.script.now.steps in
    subst (λ l. Walked c.args.actor l c.args.passes c.loop-line.passes) (take_all c.loop-line.line-index lines (omega (arith, c.loop-line-test.false, ap length c.items-line-items.ensures))) c.loop-line.invariant.walked
