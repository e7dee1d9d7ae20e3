use Rattle.std.proofs.Common.{◌≡◌, ◌<◌, ◌≤◌, ◌+◌, ℕ, length, length-set, sym, ap, ap₂, ◌∙◌, subst, arith}
use Rattle.std.proofs.lemmas.List.{get_or-set_other}
use Rattle.std.specs.Prelude.{IsSome, None}
use Rattle.port_threads.specs.Held.{Held, held_at, joined}
use Rattle.port_threads.specs.PassesHeld.{held, of_pass}
use Rattle.port_threads.proofs.Rows.{made_at, lent_row, join_unvisited, join_step, put_there, put_length, same_length, held_same, rise_all}
use Rattle.port_threads.proofs.passes.Passes.join.Goals as goal
use Rattle.port_threads.proofs.passes.Passes.join.Goals.{After-lend-in-loop-port}

room : (c : After-lend-in-loop-port) → c.loop-port.port < length c.args.self
room c = let same = same_length c.args.self c.args.desks.now c.requires.made in omega (arith, same, c.loop-port-test.true)

room_other : (c : After-lend-in-loop-port) → c.loop-port.port < length c.args.other
room_other c = let same = same_length c.args.other c.args.desks.now c.requires.other in omega (arith, same, c.loop-port-test.true)

was : (c : After-lend-in-loop-port) → of_pass c.lend.result ≡ held_at c.args.self c.loop-port.port
was c = lent_row _ _ _ _ _ (omega (arith, c.loop-port.invariant.long, c.loop-port-test.true)) c.loop-port.invariant.both (join_unvisited _ _ _ (room c) (room_other c)) c.lend.ensures.pass

was_other : (c : After-lend-in-loop-port) → of_pass c.lend-in-loop-port.result ≡ held_at c.args.other c.loop-port.port
was_other c = ap held (sym c.lend-in-loop-port.ensures.pass) ∙ c.loop-port.invariant.still c.loop-port.port (omega arith) c.loop-port-test.true

pub join-both-requires : goal.join-both-requires
join-both-requires c =
    let there = ap (λ d. Rattle.turnstile.specs.Passes.place d) (sym c.index-desks-port.is) in
    record {
      made = (
        ap (λ (h : Held). h.at) (was c) ∙ made_at c.args.self c.args.desks.now c.loop-port.port c.index-desks-port.result c.requires.made (room c) c.loop-port-test.true ∙ there,
        ap (λ (h : Held). h.at) (was_other c) ∙ made_at c.args.other c.args.desks.now c.loop-port.port c.index-desks-port.result c.requires.other (room_other c) c.loop-port-test.true ∙ there,
      );
    }

pub loop-port-preserved : goal.loop-port-preserved
loop-port-preserved c =
    let b = (goal.at.loop-port-preserved c).After-lend-in-loop-port in
    let i = c.loop-port.port in
    let e = c.join-both.ensures in
    let both : of_pass c.join-both.result ≡ joined (held_at c.args.self i) (held_at c.args.other i) = held_same _ _ e.made e.share e.seen e.own ∙ ap₂ joined (was b) (was_other b) in
    let other = λ (k : ℕ) (le : i + 1 ≤ k). ap (λ l. Rattle.std.specs.Prelude.slice_index_or l k None) c.lend-in-loop-port.ensures.rest ∙ get_or-set_other c.loop-port.theirs.items i k None None (λ e. omega (arith, e, le)) in
    record {
      long = put_length _ _ _ _ _ c.lend.ensures.rest c.put_back.ensures ∙ c.loop-port.invariant.long;
      other = ap length c.lend-in-loop-port.ensures.rest ∙ length-set c.loop-port.theirs.items i None ∙ c.loop-port.invariant.other;
      both = join_step _ _ _ _ _ _ _ (room b) (room_other b) c.loop-port.invariant.both c.lend.ensures.rest c.put_back.ensures both;
      still = λ k le lt. ap held (other k le) ∙ c.loop-port.invariant.still k (omega (arith, le)) lt;
      there = put_there _ _ _ _ _ c.loop-port.invariant.there c.lend.ensures.rest c.put_back.ensures;
      still_there = λ k le lt. subst (λ p. IsSome p) (sym (other k le)) (c.loop-port.invariant.still_there k (omega (arith, le)) lt);
    }

pub returns-clause-in_order : goal.returns-clause-in_order
returns-clause-in_order c = (rise_all c.self.inside.items.items _ c.self.view_is, rise_all c.other.inside.items.items _ c.other.view_is)
