-- What holds of every value holds where there is one.
use Rattle.std.specs.Prelude.{Option, Some, None, IfSome, IfNone}

pub if_some : {A : Type 0} (x : Option A) → IfSome x (λ _. Unit {0})
if_some None = tt
if_some (Some x) = tt

pub if_none : {A : Type 0} (x : Option A) → IfNone x (Unit {0})
if_none None = tt
if_none (Some x) = tt
