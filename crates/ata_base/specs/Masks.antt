use Rattle.std.specs.Prelude.{ℕ, ◌≡◌, Bool, false, List, map, slice_get}
use Rattle.std.specs.Fn.{FnReturnsAt}
use Rattle.std.specs.Option.{option_map_or}
use Rattle.std.specs.Simd.Lanes.{mask_l}
use denote.Param.Members.{Shared}
use denote.Ref.{Bor}

-- A mask is a number whose bits stand for the elements of a list, bit k for the element k.

-- the mask of the elements that pass a test
abbrev pub mask_of : {A : Type 0} → (A → Bool) → List A → ℕ
mask_of test list = mask_l (map test list)

-- whether there is an element k, and it passes the test
abbrev pub passes_at : {A : Type 0} → (A → Bool) → List A → ℕ → Bool
passes_at test list k = option_map_or test (slice_get list k) false

-- each call of a closure answers what the test says of its argument
abbrev pub Decides : {F A : Type 0} → Shared F (Bor A × Unit {0}) Bool → F → (A → Bool) → Type 0
Decides {F} {A} calls closure test = (x : A) (told : Bool) → FnReturnsAt calls closure x told → told ≡ test x
