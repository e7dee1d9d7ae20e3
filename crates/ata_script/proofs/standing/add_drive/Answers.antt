use Rattle.std.proofs.Common.{◌∙◌, sym}
use Rattle.ata_script.proofs.DrivesAdded.{next_is, pushed}
use Rattle.ata_script.proofs.standing.add_drive.Goals as goal

pub invariant_of-port : goal.invariant_of-port
invariant_of-port c =
    let port = c.args.port.now in
    let next = next_is port c.args.number c.args.drive.place (sym c.is_next.ensures.value ∙ c.if-not-is_next.false) in
    let stand = pushed port c.args.number c.args.drive c.push.new.self c.push.result c.is_next.ensures.small next c.push.ensures.ok c.push.ensures.err in
    record {
      some_places = port.some_places;
      most_places = port.most_places;
      direct = port.direct;
      switched = port.switched;
      few_drives = stand.few;
      standing = stand.standing;
      apart = stand.apart;
    }
