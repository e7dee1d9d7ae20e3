use Rattle.std.proofs.Common.{◌<◌, length, get_or, arith}
use Rattle.std.proofs.lemmas.List.{get_or_default}
use Rattle.std.proofs.lemmas.List.Edits.{map_over_more}
use Rattle.ata_ident.specs.Text.{readable}
use Rattle.ata_ident.proofs.text.make_readable.Goals as goal

pub loop-byte-preserved : goal.loop-byte-preserved
loop-byte-preserved c =
    let i = c.loop-byte.byte-index in
    let read = get_or c.loop-byte.bytes i 0 in
    let within : i < length c.loop-byte.bytes = omega arith in
    let inside : i < length c.args.bytes.now = omega arith in
    rw c.readable_byte.ensures
    (map_over_more readable c.args.bytes.now c.loop-byte.bytes i read inside c.loop-byte.invariant
    (get_or_default c.loop-byte.bytes i 0 read within))
