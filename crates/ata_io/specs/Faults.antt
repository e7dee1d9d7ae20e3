use Rattle.std.specs.Prelude.{◌≡◌, ℕ, ◌+◌, ◌-◌, ◌^◌, ◌<◌, List, length, min, Result, OnOk, OnErr, IfOk}

-- a count one higher, which stays at the last value of u64
abbrev pub one_more : ℕ → ℕ
one_more count = min (count + 1) (2 ^ 64 - 1)

-- a count of faults is one more after a call that failed, and stays in a call that succeeded
pub record HasCause {T E : Type 0} (before after : ℕ) (result : Result T E) : Type 0 where
  pub ok : OnOk result (after ≡ before)
  pub failed : OnErr result (after ≡ one_more before)

-- a write took at least one byte, if it was given one
abbrev pub TakesSome : {E : Type 0} → Result ℕ E → List ℕ → Type 0
TakesSome result piece = IfOk result (λ n. 0 < length piece → 0 < n)
