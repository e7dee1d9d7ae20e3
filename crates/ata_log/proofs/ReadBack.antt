-- What `build` writes is read back.
use Rattle.std.proofs.Common.{◌≡◌, ℕ, ◌+◌, ◌*◌, ◌/◌, ◌%◌, ◌^◌, ◌<◌, ◌==◌, true, false, nat_le, List, [], ◌++◌, refl, ap, arith, ◌∙◌}
use Rattle.std.specs.Prelude.{slice_index, slice_range, Ok}
use Rattle.std.proofs.lemmas.Bool.Decides.{nat_tests}
use Rattle.byteorder.specs.Endian.{little_number}
use Rattle.byteorder.specs.Numbers.{little_number-reads_back}
use Rattle.ata_base.specs.declared.regs.Regs.{Regs}
use Rattle.ata_base.proofs.RegsLemmas.{same_regs}
use Rattle.ata_lanes.specs.Sum.{byte_sum}
use Rattle.ata_log.specs.Page.{head_bytes, blank_bytes, log_page}
use Rattle.ata_log.specs.Read.{tag_in, regs_in, reading_of}
use Rattle.ata_lanes.proofs.Sealing.{byte_sum-sealed}

-- a page of these facts is read as the tag and the registers in it
read_from : (page : List ℕ) → byte_sum page ≡ 0 → slice_index page 0 < 32 → reading_of page ≡ Ok (tag_in page, regs_in page)
read_from page sum queued =
    let good : (byte_sum page == 0) ≡ true = ap (λ n. n == 0) sum in
    let queue : nat_le 128 (slice_index page 0) ≡ false = grind (arith, nat_tests) in
    rw (good, queue) refl

same_pair : (t u : ℕ) (a b : Regs) → t ≡ u → a ≡ b → ◌≡◌ {A = ℕ × Regs} (t, a) (u, b)
same_pair t u a b e f = λ j. (e j, f j)

pub reading_of-log_page : (tag : ℕ) (r : Regs) → tag < 32 → r.lba < 2 ^ 48 → r.count < 2 ^ 16
    → reading_of (log_page tag r) ≡ Ok (tag, r)
reading_of-log_page tag r small fits count =
    let page : List ℕ = log_page tag r in
    let sum : byte_sum page ≡ 0 = byte_sum-sealed (head_bytes tag r ++ blank_bytes) in
    let low : little_number 3 (slice_range page 4 7) ≡ r.lba % 2 ^ 24 = little_number-reads_back 3 (r.lba % 2 ^ 24) [] (omega arith) in
    let high : little_number 3 (slice_range page 8 11) ≡ r.lba / 2 ^ 24 = little_number-reads_back 3 (r.lba / 2 ^ 24) [] (omega arith) in
    let counted : little_number 2 (slice_range page 12 14) ≡ r.count = little_number-reads_back 2 r.count [] (omega arith) in
    let lba : little_number 3 (slice_range page 4 7) + 2 ^ 24 * little_number 3 (slice_range page 8 11) ≡ r.lba = rw (low, high) (omega arith) in
    let same_tag : tag_in page ≡ tag = omega arith in
    read_from page sum small
    ∙ ap (λ found. Ok found) (same_pair (tag_in page) tag (regs_in page) r same_tag (same_regs (regs_in page) r refl refl lba refl counted))
