use Rattle.std.specs.Prelude.{ℕ, zero, suc, List, [], ◌∷◌, Option, Some, None, replicate}
use Rattle.std.specs.List.{range_with_len}
use Rattle.ata_base.specs.Limits.{most_places}

-- all places in order
abbrev pub all_places : List ℕ
all_places = range_with_len 0 most_places

-- the same at every place
abbrev pub everywhere : {A : Type 0} → A → List A
everywhere value = replicate most_places value

-- a list with what stands at one index changed
abbrev pub changed_at : {A : Type 0} → ℕ → (A → A) → List A → List A
changed_at index change [] = []
changed_at zero change (x ∷ rest) = change x ∷ rest
changed_at (suc index) change (x ∷ rest) = x ∷ changed_at index change rest

-- a list with what stands at an index changed, where there is one
abbrev pub changed_at_some : {A : Type 0} → Option ℕ → (A → A) → List A → List A
changed_at_some None change was = was
changed_at_some (Some index) change was = changed_at index change was

-- a list by place of what may be told of each
abbrev pub nowhere : {A : Type 0} → List (Option A)
nowhere = everywhere None
