-- How many digits a number has, one and four digits at a time.
use Rattle.std.proofs.Common.{◌≡◌, ℕ, ◌+◌, ◌/◌, ◌^◌, ◌<◌, ◌≤◌, length, ap, ◌∙◌, arith, length-append}
use Rattle.std.proofs.lemmas.Fmt.{decimal_digit, decimal_step, length-decimal-le}
use Rattle.std.specs.Fmt.{decimal}

pub one_digit : (n : ℕ) → n < 10 → length (decimal n) ≡ 1
one_digit n small = ap length (decimal_digit n small)

pub digit_more : (n : ℕ) → 10 ≤ n → n < 2 ^ 64 → length (decimal n) ≡ length (decimal (n / 10)) + 1
digit_more n large fits = ap length (decimal_step n large fits) ∙ length-append _ _

pub two_digits : (n : ℕ) → 10 ≤ n → n < 100 → length (decimal n) ≡ 2
two_digits n large small = omega (arith, digit_more n large (omega arith), one_digit (n / 10) (omega arith))

pub three_digits : (n : ℕ) → 100 ≤ n → n < 1000 → length (decimal n) ≡ 3
three_digits n large small = omega (arith, digit_more n (omega arith) (omega arith), two_digits (n / 10) (omega arith) (omega arith))

pub four_digits : (n : ℕ) → 1000 ≤ n → n < 10000 → length (decimal n) ≡ 4
four_digits n large small = omega (arith, digit_more n (omega arith) (omega arith), three_digits (n / 10) (omega arith) (omega arith))

pub four_more : (n : ℕ) → 10000 ≤ n → n < 2 ^ 64 → length (decimal n) ≡ length (decimal (n / 10000)) + 4
four_more n large fits =
    let same : n / 10 / 10 / 10 / 10 ≡ n / 10000 = omega arith in
    let one = digit_more n (omega arith) fits in
    let two = digit_more (n / 10) (omega arith) (omega arith) in
    let three = digit_more (n / 10 / 10) (omega arith) (omega arith) in
    let four : length (decimal (n / 10 / 10 / 10)) ≡ length (decimal (n / 10000)) + 1 = rw same at (digit_more (n / 10 / 10 / 10) (omega arith) (omega arith)) in
    omega (arith, one, two, three, four)

pub most_digits : (n : ℕ) → n < 2 ^ 64 → length (decimal n) ≤ 20
most_digits n fits = length-decimal-le 20 n (omega arith) (omega arith) fits
