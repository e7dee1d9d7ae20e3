use Rattle.std.proofs.Common.{ℕ, suc, ◌<◌, ◌^◌, List, [], ◌∷◌, get_or, Fits, w64, arith}
use Rattle.ata_trace.specs.Ranges.{AreLong}
use Rattle.port_core.proofs.NumberRanges.{is_in}
use Rattle.port_core.proofs.number_ranges.are_long.Goals as goal

-- each number is one of 64 bits where each element is
each_long : (numbers : List ℕ) → ((i : ℕ) → Fits w64 (get_or numbers i 0)) → AreLong numbers
each_long [] fits = tt
each_long (n ∷ rest) fits =
    let small : n < 2 ^ 64 = search (fits 0) in
    (is_in 0 18446744073709551615 n (omega arith) (omega arith) (omega arith), each_long rest (λ i. fits (suc i)))

pub returns : goal.returns
returns c = each_long c.args.numbers.now c.type_inv.numbers
