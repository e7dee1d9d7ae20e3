use Rattle.std.proofs.Common.{◌≡◌, ◌<◌, length, get_or, arith}
use Rattle.std.proofs.lemmas.Grind.{common_steps}
use Rattle.port_ledger.proofs.DriveLemmas.{drives_more, AreQuick_push}
use Rattle.port_ledger.proofs.drive_list.DriveList.new.Goals as goal

pub loop-head-preserved : goal.loop-head-preserved
loop-head-preserved c =
    let within : c.loop-head.head-index < length c.args.heads.now = omega (arith, c.loop-head-test.true) in
    let here : c.head-item.result ≡ get_or c.args.heads.now c.loop-head.head-index c.head-item.result = grind (arith, common_steps, c.head-item.is) in
    record {
      drives = rw c.push_reserved.ensures.items (drives_more c.loop-head.head-index c.args.heads.now c.loop-head.list.items c.head-item.result c.in_ok-drive_of.field-0 within here c.loop-head.invariant.drives c.in_ok-drive_of.ensures.value);
      quick = rw c.push_reserved.ensures.items (AreQuick_push c.loop-head.list.items c.in_ok-drive_of.field-0 c.loop-head.invariant.quick (rw c.in_ok-drive_of.ensures.value c.in_ok-drive_of.ensures.quick));
      room = omega (arith, c.loop-head.invariant.room, c.push_reserved.ensures.capacity);
    }
