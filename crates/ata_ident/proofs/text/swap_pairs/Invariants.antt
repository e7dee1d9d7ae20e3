use Rattle.std.proofs.Common.{◌≡◌, ◌*◌, ◌++◌, take, drop}
use Rattle.ata_ident.specs.Text.{pairs_swapped}
use Rattle.ata_ident.proofs.text.swap_pairs.Given as goal

-- the pairs behind, once they are turned too, give the whole
abbrev pub invariant-loop-pair : goal.invariant-loop-pair
invariant-loop-pair l = take (2 * l.pair) l.bytes ++ pairs_swapped (drop (2 * l.pair) l.bytes) ≡ pairs_swapped l.fn.bytes
