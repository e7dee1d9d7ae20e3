use Rattle.std.proofs.Common.{◌≡◌, ℕ, ◌+◌, ◌<◌, ◌≤◌, List, [], ◌∷◌, ◌++◌, Option, Some, slice_get, suc, zero, length, get_or, take, drop, rules, refl, sym, ap, ◌∙◌, subst, arith, add-one, append_assoc, length-append}
use Rattle.std.specs.Prelude.{Result, Ok, Err}
use Rattle.std.specs.Io.KnownBytes.{Appends}
use Rattle.std.specs.List.{flat_map}
use Rattle.std.proofs.Math.Seq.{take-append-add}
use Rattle.std.proofs.KnownBytes.{Appends-trans}
use Rattle.std.proofs.lemmas.List.{take-append-le}
use Rattle.ata_io.specs.Faults.{one_more}
use Rattle.ata_io.specs.Writing.{Writes, WritesPart}

-- a text was written, and no fault was counted
pub record Wrote {K : Type 0} (written : K → Option (List ℕ)) (faults : K → ℕ) (before after : K) (text : List ℕ) : Type 0 where
  pub appends : Appends (written before) (written after) text
  pub faultless : faults after ≡ faults before

-- that is what a call that is to write a text, and succeeded, did
pub wrote : {K T E : Type 0} (w : K → Option (List ℕ)) (n : K → ℕ) (a b : K) (value : T) (text : List ℕ) → Writes {E = E} w n a b (Ok value) text → Wrote w n a b text
wrote w n a b value text done = record { appends = done.ok; faultless = done.cause.ok }

-- a part of a text is a part of a longer one
part_more : (before after : Option (List ℕ)) (text more : List ℕ) → WritesPart before after text → WritesPart before after (text ++ more)
part_more before after text more part =
    let within : part.0 ≤ length text = part.1 in
    (part.0, simp length-append (omega arith), rw take-append-le part.2)

-- a text and a part of the next is a part of both together
part_after : (before between after : Option (List ℕ)) (text more : List ℕ) → Appends before between text → WritesPart between after more → WritesPart before after (text ++ more)
part_after before between after text more whole part =
    let within : part.0 ≤ length more = part.1 in
    (length text + part.0, simp length-append (omega arith), rw take-append-add (Appends-trans before between after _ _ whole part.2))

-- a text was written, and a call is to write the next: together they are to write both
pub writes_then : {K T E : Type 0} (w : K → Option (List ℕ)) (n : K → ℕ) (a b c : K) (r : Result T E) (text more : List ℕ) → Wrote w n a b text → Writes w n b c r more → Writes w n a c r (text ++ more)
writes_then w n a b c (Ok value) text more first next = record {
  ok = Appends-trans _ _ _ _ _ first.appends next.ok;
  part = tt;
  cause = record { ok = next.cause.ok ∙ first.faultless; failed = tt };
}
writes_then w n a b c (Err fault) text more first next = record {
  ok = tt;
  part = part_after _ _ _ _ _ first.appends next.part;
  cause = record { ok = tt; failed = next.cause.failed ∙ ap one_more first.faultless };
}

-- a call that was to write the first of two texts, and failed, is a failed one that is to write both
pub writes_cut : {K T U E F : Type 0} (w : K → Option (List ℕ)) (n : K → ℕ) (a b : K) (e : E) (f : F) (text more : List ℕ) → Writes {T = T} w n a b (Err e) text → Writes {T = U} w n a b (Err f) (text ++ more)
writes_cut w n a b e f text more first = record {
  ok = tt;
  part = part_more _ _ text more first.part;
  cause = record { ok = tt; failed = first.cause.failed };
}

-- the same where the first text is that of a value which is another one's name
pub writes_cut_of : {X K T U E F : Type 0} (t : X → List ℕ) (w : K → Option (List ℕ)) (n : K → ℕ) (a b : K) (e : E) (f : F) (x y : X) (more : List ℕ) → x ≡ y → Writes {T = T} w n a b (Err e) (t x) → Writes {T = U} w n a b (Err f) (t y ++ more)
writes_cut_of t w n a b e f x y more same first = writes_cut w n a b e f (t y) more (rw same at first)

-- the texts of a list up to an element, its own, and those of the rest
flat_map_split : {X : Type 0} (f : X → List ℕ) (xs : List X) (i : ℕ) (x : X) → i < length xs → x ≡ get_or xs i x → flat_map f xs ≡ flat_map f (take i xs) ++ f x ++ flat_map f (drop (i + 1) xs)
flat_map_split f [] i x within here = absurd (omega arith)
flat_map_split f (y ∷ ys) zero x within here = rw here refl
flat_map_split f (y ∷ ys) (suc i) x within here =
    rw (add-one (suc i), flat_map_split f ys i x (omega arith) here) (rw (add-one i) (simp append_assoc))

flat_map_take : {X : Type 0} (f : X → List ℕ) (xs : List X) (i : ℕ) (x : X) → i < length xs → x ≡ get_or xs i x → flat_map f (take (i + 1) xs) ≡ flat_map f (take i xs) ++ f x
flat_map_take f [] i x within here = absurd (omega arith)
flat_map_take f (y ∷ ys) zero x within here = rw here (search rules)
flat_map_take f (y ∷ ys) (suc i) x within here =
    rw (add-one (suc i)) (rw (rw (add-one i) at (flat_map_take f ys i x (omega arith) here)) (simp append_assoc))

-- an element that is there is within the list, and is read
pub at_element : {X : Type 0} (xs : List X) (i : ℕ) (x : X) → slice_get xs i ≡ Some x → (i < length xs) × (x ≡ get_or xs i x)
at_element [] i x is = absurd (cc)
at_element (y ∷ ys) zero x is = (omega arith, cc)
at_element (y ∷ ys) (suc i) x is = let rest = at_element ys i x is in (omega (arith, rest.0), rest.1)

-- the texts of the first elements were written, and that of the next failed
pub list_cut : {X K T U E F : Type 0} (t : X → List ℕ) (w : K → Option (List ℕ)) (n : K → ℕ) (a b c : K) (e : E) (f : F) (xs : List X) (i : ℕ) (x : X) → i < length xs → x ≡ get_or xs i x → Wrote w n a b (flat_map t (take i xs)) → Writes {T = T} w n b c (Err e) (t x) → Writes {T = U} w n a c (Err f) (flat_map t xs)
list_cut t w n a b c e f xs i x within here first next =
    let split : flat_map t xs ≡ flat_map t (take i xs) ++ t x ++ flat_map t (drop (i + 1) xs) = flat_map_split t xs i x within here in
    rw split (writes_cut w n a c e f (flat_map t (take i xs) ++ t x) (flat_map t (drop (i + 1) xs)) (writes_then w n a b c (Err e) _ _ first next))

-- the texts of the first elements and that of the next were written
pub list_more : {X K T E : Type 0} (t : X → List ℕ) (w : K → Option (List ℕ)) (n : K → ℕ) (a b c : K) (value : T) (xs : List X) (i : ℕ) (x : X) → i < length xs → x ≡ get_or xs i x → Wrote w n a b (flat_map t (take i xs)) → Writes {E = E} w n b c (Ok value) (t x) → Wrote w n a c (flat_map t (take (i + 1) xs))
list_more t w n a b c value xs i x within here first next =
    subst (λ (all : List ℕ). Wrote w n a c all) (sym (flat_map_take t xs i x within here))
    (wrote w n a c value _ (writes_then w n a b c (Ok value) _ _ first next))
