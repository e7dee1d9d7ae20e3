use Rattle.std.proofs.Common.{◌≡◌, ◌++◌, ◌∷◌, [], map, sym, ap, ◌∙◌, subst, arith}
use Rattle.std.proofs.lemmas.List.{map-append}
use Rattle.port_core.specs.PortView.{PortView}
use Rattle.port_threads.proofs.Ends.{new_more}
use Rattle.port_threads.proofs.Rows.{held_same}
use Rattle.port_threads.proofs.runs.open.Goals as goal
use Rattle.port_threads.specs.Moves.{moves_in}
use Rattle.port_threads.specs.PassesHeld.{of_pass}
use Rattle.port_threads.specs.Stiles.{AllNew, first_pass, IsNew}

pub loop-number-preserved : goal.loop-number-preserved
loop-number-preserved c =
    let k = c.loop-number.invariant in
    let e = c.in-Ok.ensures in
    let head = c.index-heads-number.result in
    let first : of_pass c.in-Ok.pass ≡ first_pass c.in-Ok.desk = held_same _ _ e.made e.share e.seen e.own in
    let port = e.opening ∙ c.new.ensures in
    let one : IsNew c.loop-number.number head c.in-Ok.desk = record {
      number = ap (λ (p : PortView). p.number) port ∙ c.in_ok-port.ensures.number ∙ c.at.ensures;
      head = ap (λ (p : PortView). p.head) port ∙ c.in_ok-port.ensures.head;
      fresh = ap (λ (p : PortView). moves_in p.entries) port ∙ ap moves_in c.in_ok-port.ensures.entries;
    } in
    record {
      done = omega (arith, c.push_reserved.ensures.len, k.done);
      room = c.push_reserved.ensures.capacity ∙ k.room;
      passes = c.push.ensures ∙ ap (λ l. l ++ of_pass c.in-Ok.pass ∷ []) k.passes ∙ ap (λ h. map first_pass c.loop-number.desks.items ++ h ∷ []) first
          ∙ sym (map-append first_pass c.loop-number.desks.items (c.in-Ok.desk ∷ [])) ∙ ap (map first_pass) (sym c.push_reserved.ensures.items);
      desks = subst (AllNew 0 _) (sym c.push_reserved.ensures.items) (new_more c.args.heads.now c.loop-number.number head c.loop-number.desks.items c.in-Ok.desk c.loop-number-test.true c.index-heads-number.is k.desks one);
    }
