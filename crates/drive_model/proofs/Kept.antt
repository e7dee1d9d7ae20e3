-- Stamps of which the first are kept.
use Rattle.std.proofs.Common.{◌≡◌, ◌∙◌, ℕ, zero, suc, ◌+◌, ◌-◌, ◌<◌, ◌≤◌, List, [], ◌∷◌, ◌++◌, length, replicate, set, refl, sym, ap, append_assoc, arith}
use Rattle.std.proofs.lemmas.List.{length-append, length-replicate, set-append_right}
use Rattle.drive_model.specs.Sectors.{stamps_of}

-- so many stamps are so many
pub length_stamps_of : (kept : List ℕ) (count : ℕ) → length kept ≤ count → length (stamps_of kept count) ≡ count
length_stamps_of kept count few =
    omega (arith, length-append kept (replicate (count - length kept) 0), length-replicate {A = ℕ} (count - length kept) 0, few)

-- one among zeros is replaced
among_zeros : (at count stamp : ℕ) → at < count → set (replicate count 0) at stamp ≡ (replicate at 0 ++ stamp ∷ []) ++ replicate (count - (at + 1)) 0
among_zeros at zero stamp within = absurd (omega (arith, within))
among_zeros zero (suc count) stamp within = ap (λ n. stamp ∷ replicate n 0) (omega arith)
among_zeros (suc at) (suc count) stamp within =
    ap (λ stamps. 0 ∷ stamps)
    (among_zeros at count stamp (omega (arith, within)) ∙ ap (λ n. (replicate at 0 ++ stamp ∷ []) ++ replicate n 0) (omega arith))

-- one past those that are kept: so many more are kept
pub put_past : (kept : List ℕ) (count at stamp : ℕ) → length kept ≤ at → at < count
    → stamps_of ((kept ++ replicate (at - length kept) 0) ++ stamp ∷ []) count ≡ set (stamps_of kept count) at stamp
put_past kept count at stamp past within =
    let gap : List ℕ = replicate (at - length kept) 0 in
    let all : length ((kept ++ gap) ++ stamp ∷ []) ≡ at + 1 =
    omega (arith, length-append (kept ++ gap) (stamp ∷ []), length-append kept gap, length-replicate {A = ℕ} (at - length kept) 0, past) in
    ap (λ n. ((kept ++ gap) ++ stamp ∷ []) ++ replicate (count - n) 0) all
    ∙ ap (λ stamps. stamps ++ replicate (count - (at + 1)) 0) (append_assoc kept gap (stamp ∷ []))
    ∙ append_assoc kept (gap ++ stamp ∷ []) (replicate (count - (at + 1)) 0)
    ∙ ap (λ n. kept ++ ((gap ++ stamp ∷ []) ++ replicate n 0)) (omega (arith, past, within))
    ∙ ap (λ stamps. kept ++ stamps) (sym (among_zeros (at - length kept) (count - length kept) stamp (omega (arith, past, within))))
    ∙ sym (set-append_right kept (replicate (count - length kept) 0) (length kept) at stamp refl past)
