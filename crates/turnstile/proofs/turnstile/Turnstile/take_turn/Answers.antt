use Rattle.std.proofs.Common.{rules, ◌∙◌, Some}
use Rattle.turnstile.specs.Passes.{entry_of}
use Rattle.turnstile.specs.declared.entry.Entry.{Entry}
use Rattle.turnstile.proofs.Seats.{made_by, held_is, lent_in, hand_in_turn, marks_as, marked_in, made_is, serves_as, served_in, left_by}
use Rattle.turnstile.proofs.turnstile.Turnstile.take_turn.Goals as goal

pub slot_mut-requires : goal.slot_mut-requires
slot_mut-requires g c = let a = c.wait.ensures.1 in (c.wait.ensures.0 ∙ c.requires.made, (Some a.2, held_is _ _ _ a.4))

pub load-requires : goal.load-requires
load-requires g c =
    let e : Entry _ = entry_of c.args.actor c.args.seq c.args.step.now in
    let r = c.attempt-made.result in
    let v = c.args.seat.now.me.0 in
    let t = lent_in g.M.Machine.history g.M.Machine.fixed v c.wait.new.seat.me c.slot_mut.result.now c.attempt-made.new.slot r e c.wait.ensures.1 c.slot_mut.ensures.value c.attempt-made.ensures.stepped in
    (search rules, search rules, marks_as _ _ _ _ _ _ _ t.1 t.0 (made_by r e) (hand_in_turn v _ t.1 (Some t.0) t.2) t.3)

pub fetch_add-served-requires : goal.fetch_add-served-requires
fetch_add-served-requires g c =
    let e : Entry _ = entry_of c.args.actor c.args.seq c.args.step.now in
    let r = c.attempt-made.result in
    let v = c.args.seat.now.me.0 in
    let t = lent_in g.M.Machine.history g.M.Machine.fixed v c.wait.new.seat.me c.slot_mut.result.now c.attempt-made.new.slot r e c.wait.ensures.1 c.slot_mut.ensures.value c.attempt-made.ensures.stepped in
    let made = marked_in g.M.Machine.history v _ c.load.new.seat.me t.1 t.0 (made_by r e) t.2 t.3 c.load.ensures.2 in
    (search rules, search rules, serves_as _ _ _ _ _ _ _ t.1 t.0 (made_by r e) (made_is v c.load.new.seat.me t.1 (Some t.0) (made_by r e) made) t.3 t.4)

pub returns-clause-in_order : goal.returns-clause-in_order
returns-clause-in_order g c = c.fetch_add-served.ensures.2.0

pub returns-clause-left : goal.returns-clause-left
returns-clause-left g c =
    let e : Entry _ = entry_of c.args.actor c.args.seq c.args.step.now in
    let r = c.attempt-made.result in
    let v = c.args.seat.now.me.0 in
    let t = lent_in g.M.Machine.history g.M.Machine.fixed v c.wait.new.seat.me c.slot_mut.result.now c.attempt-made.new.slot r e c.wait.ensures.1 c.slot_mut.ensures.value c.attempt-made.ensures.stepped in
    let made = marked_in g.M.Machine.history v _ c.load.new.seat.me t.1 t.0 (made_by r e) t.2 t.3 c.load.ensures.2 in
    left_by v c.fetch_add-served.new.seat.me r e (served_in v c.load.new.seat.me c.fetch_add-served.new.seat.me t.1 t.0 (made_by r e) made c.fetch_add-served.ensures.2)
