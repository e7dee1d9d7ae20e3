use Rattle.std.proofs.Common.{◌≡◌, ◌∙◌, take, refl, rules, arith, sym}
use Rattle.std.proofs.lemmas.List.{take_all}
use Rattle.host_timer.proofs.ComingLemmas.{coming_more, coming_all}
use Rattle.host_timer.proofs.coming_time.coming.Goals as goal

pub loop-slot-preserved : goal.loop-slot-preserved
loop-slot-preserved c =
    let more = coming_more c.args.now.n c.flights-flights.result.now c.loop-slot.slot-index c.slot-item.result (search rules) in
    rw (c.lesser-least.ensures, c.time_above-waited.ensures, c.deadline_in-deadline.ensures, c.loop-slot.invariant, more, ← c.slot-item.is) refl

pub returns : goal.returns
returns c =
    let whole : take c.loop-slot.slot-index c.flights-flights.result.now ≡ c.flights-flights.result.now =
    take_all c.loop-slot.slot-index c.flights-flights.result.now (omega arith) in
    c.as_time.ensures
    ∙ rw (c.lesser-next.ensures, c.time_above-waited-2.ensures, c.drain_time-give_up.ensures, c.loop-slot.invariant, whole, c.flights-flights.ensures.flights)
    (sym (coming_all c.args.now.n _ c.args.slots.now))
