-- The steps of a script, as far as they are made.
use Rattle.std.proofs.Common.{arith, ◌≡◌, ℕ, zero, suc, ◌<◌, ◌≤◌, ◌+◌, ◌/◌, List, [], ◌∷◌, ◌++◌, refl, sym, ◌∙◌, ap, append-nil}
use Rattle.std.specs.Prelude.{◌^◌}
use Rattle.std.specs.List.{flat_map, range_with_len}
use Rattle.std.proofs.lemmas.Grind.{flat_map-append}
use Rattle.ata_trace.specs.declared.step.Step.{Step}
use Rattle.ata_gen.specs.Generated.{lines_at, lines_drawn, next_number, number_at}

-- the lines of this many are made, and the number is the one that they were drawn from last
pub record IsMadeTo (n done number : ℕ) (steps : List (ℕ × ℕ × Step)) : Type 0 where
  pub made : steps ≡ flat_map (lines_at n) (range_with_len 1 done)
  pub last : number ≡ number_at n done
  pub small : number < 2 ^ 31

pub made_none : (n : ℕ) → n ≤ 20000 → IsMadeTo n 0 n []
made_none n few = record { made = refl; last = refl; small = omega (arith, few) }

range_more : (at count : ℕ) → range_with_len at (suc count) ≡ range_with_len at count ++ (at + count) ∷ []
range_more at zero = ap (λ n. n ∷ []) (omega arith)
range_more at (suc count) =
    let same : at + 1 + count ≡ at + suc count = omega arith in
    ap (λ rest. at ∷ rest) (range_more (at + 1) count ∙ ap (λ n. range_with_len (at + 1) count ++ n ∷ []) same)

pub made_more :
    (n done number next : ℕ) (steps after : List (ℕ × ℕ × Step)) → IsMadeTo n done number steps → next ≡ next_number number
    → after ≡ steps ++ lines_drawn (next / 65536) (done + 1) → IsMadeTo n (done + 1) next after
made_more n done number next steps after made is on =
    let same : next ≡ number_at n (suc done) = is ∙ ap next_number made.last in
    let one : done + 1 ≡ suc done = omega arith in
    let at : 1 + done ≡ suc done = omega arith in
    let f = lines_at n in
    record {
      made =
          on ∙ ap (λ all. all ++ lines_drawn (next / 65536) (done + 1)) made.made
          ∙ (λ i. flat_map f (range_with_len 1 done) ++ lines_drawn (same i / 65536) (one i))
          ∙ ap (λ more. flat_map f (range_with_len 1 done) ++ more) (sym (append-nil (f (suc done))))
          ∙ sym (flat_map-append f (range_with_len 1 done) (suc done ∷ []))
          ∙ ap (λ n. flat_map f (range_with_len 1 done ++ n ∷ [])) (sym at)
          ∙ ap (flat_map f) (sym (range_more 1 done))
          ∙ ap (λ n. flat_map f (range_with_len 1 n)) (sym one);
      last = same ∙ ap (number_at n) (sym one);
      small = omega (arith, is);
    }
