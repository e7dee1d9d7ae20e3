use Rattle.std.proofs.Common.{◌≡◌, ◌<◌, ◌≤◌, ◌+◌, ◌++◌, ◌∷◌, [], ℕ, length, length-append, get_or, length-set, sym, ap, ◌∙◌, subst, arith}
use Rattle.std.proofs.lemmas.List.{get_or-set_other}
use Rattle.std.specs.Prelude.{IsSome, None}
use Rattle.ata_script.specs.declared.port_head.PortHead.{PortHead}
use Rattle.port_core.specs.PortView.{PortView}
use Rattle.port_threads.proofs.Ends.{turn_room, turn_at, turn_rest, closed_more}
use Rattle.port_threads.proofs.Rows.{made_at, same_length}
use Rattle.port_threads.proofs.passes.Passes.close.Goals as goal
use Rattle.port_threads.proofs.passes.Passes.close.Goals.{After-lend}
use Rattle.port_threads.specs.Held.{Held, held_at, nothing}
use Rattle.port_threads.specs.Moves.{moves_in}
use Rattle.port_threads.specs.PassesHeld.{held, of_pass}
use Rattle.port_threads.specs.Stiles.{IsClosed, number_of}
use Rattle.turnstile.specs.Passes.{place, opening}
use Rattle.turnstile.specs.Weaves.{entries_at}

room : (c : After-lend) → c.loop-desk.place < length c.args.desks.items
room c = turn_room c.args.desks.items c.loop-desk.place _ _ (sym c.loop-desk.invariant.rest ∙ c.in-Some.ensures.steps.0)

has : (c : After-lend) → c.loop-desk.place < length c.args.self
has c = omega (arith, room c, same_length c.args.self c.args.desks.items c.requires.made)

was : (c : After-lend) → of_pass c.lend.result ≡ held_at c.args.self c.loop-desk.place
was c = ap held (sym c.lend.ensures.pass) ∙ c.loop-desk.invariant.still c.loop-desk.place (omega arith) (room c)

pub close-requires-clause-made : goal.close-requires-clause-made
close-requires-clause-made c =
    let is = turn_at c.args.desks.items c.loop-desk.place c.in-Some.desk _ (sym c.loop-desk.invariant.rest ∙ c.in-Some.ensures.steps.0) c.in-Some.desk in
    ap (λ (h : Held). h.at) (was c) ∙ made_at c.args.self c.args.desks.items c.loop-desk.place c.in-Some.desk c.requires.made (has c) (room c) ∙ ap (λ d. place d) is

pub close-requires-clause-only : goal.close-requires-clause-only
close-requires-clause-only c = ap (λ (h : Held). h.share) (was c) ∙ c.requires.only c.loop-desk.place nothing (has c)

pub push-requires : goal.push-requires
push-requires c =
    let b = (goal.at.push-requires c).After-lend in
    let is = turn_at c.args.desks.items c.loop-desk.place c.in-Some.desk _ (sym c.loop-desk.invariant.rest ∙ c.in-Some.ensures.steps.0) c.in-Some.desk in
    ap (λ (p : PortView). p.number) c.into_port-port.ensures.port ∙ ap (λ (f : ℕ × PortHead). f.0) c.close.ensures.fixed ∙ ap number_of (sym is)
    ∙ c.requires.numbers c.loop-desk.place c.in-Some.desk (room b) ∙ sym c.loop-desk.invariant.done

pub loop-desk-preserved : goal.loop-desk-preserved
loop-desk-preserved c =
    let b = (goal.at.loop-desk-preserved c).After-lend in
    let k = c.loop-desk.invariant in
    let i = c.loop-desk.place in
    let turn = sym k.rest ∙ c.in-Some.ensures.steps.0 in
    let grown = c.in_ok-push.ensures.ok in
    let port = c.into_port-port.ensures.port in
    let other = λ (j : ℕ) (le : i + 1 ≤ j). ap (λ l. get_or l j None) c.lend.ensures.rest ∙ get_or-set_other c.loop-desk.items.items i j None None (λ e. omega (arith, e, le)) in
    let one : IsClosed c.in-Some.desk (held_at c.args.self i) c.into_port-port.result = record {
      number = ap (λ (p : PortView). p.number) port ∙ ap (λ (f : ℕ × PortHead). f.0) c.close.ensures.fixed;
      head = ap (λ (p : PortView). p.head) port ∙ ap (λ (f : ℕ × PortHead). f.1) c.close.ensures.fixed;
      moves = ap (λ (p : PortView). moves_in p.entries) port ∙ c.close.ensures.history ∙ ap (λ (h : Held). moves_in (opening c.in-Some.desk).entries ++ entries_at h.own) (was b);
      legal = c.into_port-port.ensures.legal;
      actors = c.into_port-port.ensures.actors;
    } in
    record {
      done = omega (arith, ap length grown, length-append c.loop-desk.host (c.into_port-port.result ∷ []), k.done);
      left = omega (arith, k.left, c.in-Some.ensures.steps.1);
      rest = turn_rest c.args.desks.items i c.in-Some.desk _ turn;
      long = ap length c.lend.ensures.rest ∙ length-set c.loop-desk.items.items i None ∙ k.long;
      still = λ j le lt. ap held (other j le) ∙ k.still j (omega (arith, le)) lt;
      there = λ j le lt. subst (λ p. IsSome p) (sym (other j le)) (k.there j (omega (arith, le)) lt);
      closed = λ j t p lt. subst (λ l. IsClosed (get_or c.args.desks.items j t) (held_at c.args.self j) (get_or l j p)) (sym grown)
          (closed_more c.args.desks.items c.args.self c.loop-desk.host i c.in-Some.desk c.into_port-port.result k.done (turn_at c.args.desks.items i c.in-Some.desk _ turn) one k.closed j t p lt);
    }
