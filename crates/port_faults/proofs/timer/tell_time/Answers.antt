use Rattle.port_faults.proofs.TimeLemmas.{time_told}
use Rattle.port_faults.proofs.timer.tell_time.Goals as goal

pub returns : goal.returns
returns c =
    let request = rw (c.is_more.ensures, c.room.ensures, c.room-room.ensures) at c.request_if.ensures in
    let told =
    time_told c.has_drain_come-comes.result c.is_asked-asked.result c.is_drained-drained.result c.clock-clock.result.n
    c.drain_if.ensures c.expire_all.ensures.adds request in
    let drained = rw (c.is_drained-drained.ensures, c.has_drain_come-comes.ensures) at told in
    rw (c.is_asked-asked.ensures, c.clock-clock.ensures.value) at drained
