use Rattle.std.proofs.Common.{◌≡◌, ◌++◌, take, drop, map}
use Rattle.ata_ident.specs.Text.{readable}
use Rattle.ata_ident.proofs.text.make_readable.Given as goal

abbrev pub invariant-loop-byte : goal.invariant-loop-byte
invariant-loop-byte l = l.bytes ≡ map readable (take l.byte-index l.fn.bytes) ++ drop l.byte-index l.fn.bytes
