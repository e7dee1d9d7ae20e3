use Rattle.std.proofs.Common.{◌≡◌, ◌<◌, ◌≤◌, length, sym, ap, ◌∙◌, subst, refl, arith}
use Rattle.std.proofs.lemmas.List.Elements.{All-push}
use Rattle.std.specs.Prelude.{IsSome}
use Rattle.port_threads.specs.Held.{Held, held_at, lessened, single, nothing}
use Rattle.port_threads.specs.PassesHeld.{of_pass, AllThere}
use Rattle.port_threads.proofs.Rows.{made_at, lent_row, unvisited, row_step, put_there, put_length, one_more, same_length, held_same, view_length, given_length}
use Rattle.port_threads.proofs.passes.Passes.split.Goals as goal
use Rattle.port_threads.proofs.passes.Passes.split.Goals.{After-lend}

room : (c : After-lend) → c.loop-port.port < length c.args.self
room c = let same = same_length c.args.self c.args.desks.now c.requires.made in omega (arith, same, c.loop-port-test.true)

was : (c : After-lend) → of_pass c.lend.result ≡ held_at c.args.self c.loop-port.port
was c = lent_row _ _ _ _ _ (omega (arith, c.loop-port.invariant.long, c.loop-port-test.true)) c.loop-port.invariant.rest (unvisited lessened _ _ (room c)) c.lend.ensures.pass

pub split-rest-requires-clause-made : goal.split-rest-requires-clause-made
split-rest-requires-clause-made c =
    ap (λ (h : Held). h.at) (was c) ∙ made_at c.args.self c.args.desks.now c.loop-port.port c.index-desks-port.result c.requires.made (room c) c.loop-port-test.true
    ∙ ap (λ d. Rattle.turnstile.specs.Passes.place d) (sym c.index-desks-port.is)

pub split-rest-requires-clause-share : goal.split-rest-requires-clause-share
split-rest-requires-clause-share c = subst (λ (h : Held). 2 ≤ h.share) (sym (was c)) (c.requires.shares c.loop-port.port nothing (room c))

pub push-requires : goal.push-requires
push-requires c =
    let b = (goal.at.push-requires c).After-lend in
    let lt : c.loop-port.port < length c.args.self = room b in
    let few : length c.args.self ≤ 8 = omega (arith, c.self.invariant.0, view_length c.self.inside.items.items c.args.self c.self.view_is) in
    let is : length c.loop-port.given.items ≡ c.loop-port.port = given_length single c.loop-port.given.items c.args.self c.loop-port.port (omega (arith, lt)) c.loop-port.invariant.given in
    (omega arith, omega (arith, lt, few, is))

pub loop-port-preserved : goal.loop-port-preserved
loop-port-preserved c =
    let b = (goal.at.loop-port-preserved c).After-lend in
    let lt = room b in
    let h = held_at c.args.self c.loop-port.port in
    let e = c.split-rest.ensures in
    let less : of_pass c.split-rest.result.0 ≡ lessened h = held_same _ _ e.made.0 e.share.0 e.seen.0 e.own.0 ∙ ap lessened (was b) in
    let one : of_pass c.split-rest.result.1 ≡ single h = held_same _ _ e.made.1 e.share.1 e.seen.1 e.own.1 ∙ ap single (was b) in
    record {
      long = put_length _ _ _ _ _ c.lend.ensures.rest c.put_back.ensures ∙ c.loop-port.invariant.long;
      rest = row_step lessened _ _ _ _ _ _ lt c.loop-port.invariant.rest c.lend.ensures.rest c.put_back.ensures less;
      given = one_more single _ _ _ _ _ lt c.loop-port.invariant.given c.push.ensures.items one;
      there = put_there _ _ _ _ _ c.loop-port.invariant.there c.lend.ensures.rest c.put_back.ensures;
      all_given = subst AllThere (sym c.push.ensures.items) (All-push (λ p. IsSome p) _ _ c.loop-port.invariant.all_given refl);
    }
