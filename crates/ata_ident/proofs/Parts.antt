-- Where the parts of a page stand.
use Rattle.std.proofs.Common.{◌≡◌, ℕ, ◌+◌, ◌-◌, ◌*◌, List, ◌++◌, length, drop, refl, ap, arith, ◌∙◌, append_assoc, length-append}
use Rattle.std.specs.Prelude.{slice_range}
use Rattle.std.proofs.lemmas.List.{take_at, drop_at, length-replicate}
use Rattle.ata_ident.specs.Build.{blank_words}

pub length-blank_words : (n : ℕ) → length (blank_words n) ≡ 2 * n
unfolding blank_words
length-blank_words n = length-replicate (2 * n) 0

-- a piece between what stands before and behind it
part : (before piece behind : List ℕ) (k n m : ℕ) → length before ≡ k → length piece ≡ n → k + n ≡ m
    → slice_range (before ++ (piece ++ behind)) k m ≡ piece
part before piece behind k n m l p e =
    let rest : drop k (before ++ (piece ++ behind)) ≡ piece ++ behind = drop_at before (piece ++ behind) k l in
    let size : m - k ≡ n = omega arith in
    rw (rest, size) (take_at piece behind n p)

-- the three texts and what stands behind them
pub record Parts (serial firmware model rest page : List ℕ) : Type 0 where
  pub serial_at : slice_range page 20 40 ≡ serial
  pub firmware_at : slice_range page 46 54 ≡ firmware
  pub model_at : slice_range page 54 94 ≡ model
  pub rest_at : drop 94 page ≡ rest

pub parts : (serial firmware model rest : List ℕ) → length serial ≡ 20 → length firmware ≡ 8 → length model ≡ 40
    → Parts serial firmware model rest ((blank_words 10 ++ serial ++ blank_words 3 ++ firmware ++ model) ++ rest)
parts serial firmware model rest s f m =
    let a : length (blank_words 10) ≡ 20 = length-blank_words 10 in
    let b : length (blank_words 3) ≡ 6 = length-blank_words 3 in
    let l_serial : length (blank_words 10 ++ serial) ≡ 40 = omega (arith, length-append (blank_words 10) serial) in
    let l_gap : length (blank_words 10 ++ serial ++ blank_words 3) ≡ 46 = omega (arith, length-append (blank_words 10 ++ serial) (blank_words 3)) in
    let l_firmware : length (blank_words 10 ++ serial ++ blank_words 3 ++ firmware) ≡ 54 = omega (arith, length-append (blank_words 10 ++ serial ++ blank_words 3) firmware) in
    let l_model : length (blank_words 10 ++ serial ++ blank_words 3 ++ firmware ++ model) ≡ 94 = omega (arith, length-append (blank_words 10 ++ serial ++ blank_words 3 ++ firmware) model) in
    record {
      serial_at = (let e : (blank_words 10 ++ serial ++ blank_words 3 ++ firmware ++ model) ++ rest ≡ blank_words 10 ++ (serial ++ (blank_words 3 ++ (firmware ++ (model ++ rest)))) = simp append_assoc in
          ap (λ xs. slice_range xs 20 40) e ∙ part (blank_words 10) serial (blank_words 3 ++ (firmware ++ (model ++ rest))) 20 20 40 a s refl);
      firmware_at = (let e : (blank_words 10 ++ serial ++ blank_words 3 ++ firmware ++ model) ++ rest ≡ (blank_words 10 ++ serial ++ blank_words 3) ++ (firmware ++ (model ++ rest)) = simp append_assoc in
          ap (λ xs. slice_range xs 46 54) e ∙ part (blank_words 10 ++ serial ++ blank_words 3) firmware (model ++ rest) 46 8 54 l_gap f refl);
      model_at = (let e : (blank_words 10 ++ serial ++ blank_words 3 ++ firmware ++ model) ++ rest ≡ (blank_words 10 ++ serial ++ blank_words 3 ++ firmware) ++ (model ++ rest) = simp append_assoc in
          ap (λ xs. slice_range xs 54 94) e ∙ part (blank_words 10 ++ serial ++ blank_words 3 ++ firmware) model rest 54 40 94 l_firmware m refl);
      rest_at = drop_at (blank_words 10 ++ serial ++ blank_words 3 ++ firmware ++ model) rest 94 l_model;
    }
