-- The six counts of the category bytes of entries are the counts of the entries.
use Rattle.std.proofs.Common.{◌≡◌, ℕ, ◌+◌, ◌/◌, ◌%◌, ◌<◌, ◌==◌, ◌&&◌, Bool, true, false, not, cond, nat_lt, nat_le, if◌then◌else◌, List, [], ◌∷◌, get_or, take, drop, map, refl, ap, arith, ◌∙◌}
use Rattle.std.specs.Prelude.{All, count_by, zip, slice_index, take_while}
use Rattle.std.specs.List.{prefix_len}
use Rattle.std.proofs.lemmas.List.{take-map, drop-map}
use Rattle.std.proofs.lemmas.List.Elements.{All-map}
use Rattle.std.proofs.lemmas.List.Folds.{fold-map}
use Rattle.ata_lanes.specs.Counts.{six_counts, is_within as byte_within, is_dubious}
use Rattle.eh_ring.specs.declared.error_category.Category.{Category}
use Rattle.eh_ring.specs.declared.error_category.Category.TheVariants.{Nil, Bus, Timeout, Unknown}
use Rattle.eh_ring.specs.declared.counts.Counts.{Counts}
use Rattle.eh_ring.specs.declared.entry.RingEntry.{RingEntry}
use Rattle.eh_ring.specs.Bytes.{category_byte, time_of}
use Rattle.eh_ring.specs.Category.{category_of}
use Rattle.eh_ring.specs.Counts.{code_of, is_of, is_within, dubious_len, counts_of}

-- what the byte of a category and two marks tells
record Tells (category : Category) (dubious old : Bool) (byte : ℕ) : Type 0 where
  kind : byte % 4 ≡ code_of category
  doubt : (byte / 4 % 2 == 1) ≡ dubious
  fresh : nat_lt byte 8 ≡ not old
  small : byte < 16

tells : (category : Category) (dubious old : Bool)
    → Tells category dubious old (code_of category + (if dubious then 4 else 0) + (if old then 8 else 0))
tells Nil false false = record { kind = refl; doubt = refl; fresh = refl; small = omega arith }
tells Nil false true = record { kind = refl; doubt = refl; fresh = refl; small = omega arith }
tells Nil true false = record { kind = refl; doubt = refl; fresh = refl; small = omega arith }
tells Nil true true = record { kind = refl; doubt = refl; fresh = refl; small = omega arith }
tells Bus false false = record { kind = refl; doubt = refl; fresh = refl; small = omega arith }
tells Bus false true = record { kind = refl; doubt = refl; fresh = refl; small = omega arith }
tells Bus true false = record { kind = refl; doubt = refl; fresh = refl; small = omega arith }
tells Bus true true = record { kind = refl; doubt = refl; fresh = refl; small = omega arith }
tells Timeout false false = record { kind = refl; doubt = refl; fresh = refl; small = omega arith }
tells Timeout false true = record { kind = refl; doubt = refl; fresh = refl; small = omega arith }
tells Timeout true false = record { kind = refl; doubt = refl; fresh = refl; small = omega arith }
tells Timeout true true = record { kind = refl; doubt = refl; fresh = refl; small = omega arith }
tells Unknown false false = record { kind = refl; doubt = refl; fresh = refl; small = omega arith }
tells Unknown false true = record { kind = refl; doubt = refl; fresh = refl; small = omega arith }
tells Unknown true false = record { kind = refl; doubt = refl; fresh = refl; small = omega arith }
tells Unknown true true = record { kind = refl; doubt = refl; fresh = refl; small = omega arith }

byte_tells : (e : RingEntry) → Tells (category_of e.io e.kinds.0) e.dubious e.stale (category_byte e)
byte_tells e = tells (category_of e.io e.kinds.0) e.dubious e.stale

pub bytes_small : (es : List RingEntry) → All (λ cat. cat < 16) (map category_byte es)
bytes_small es = All-map (λ cat. cat < 16) category_byte es (λ k d h. (byte_tells (get_or es k d)).small)

zip-map : (f g : RingEntry → ℕ) (es : List RingEntry) → zip (map f es) (map g es) ≡ map (λ e. (f e, g e)) es
zip-map f g [] = refl
zip-map f g (e ∷ es) = ap (λ rest. (f e, g e) ∷ rest) (zip-map f g es)

prefix_len-map : {X : Type 0} (p : X → Bool) (f : RingEntry → X) (q : RingEntry → Bool) (es : List RingEntry)
    → ((e : RingEntry) → p (f e) ≡ q e) → prefix_len p (map f es) ≡ prefix_len q es
prefix_len-map p f q [] h = refl
prefix_len-map p f q (e ∷ es) h =
    ap (λ b. cond b (1 + prefix_len p (map f es)) 0) (h e) ∙ ap (λ n. cond (q e) (1 + n) 0) (prefix_len-map p f q es h)

count_by-map : (p : ℕ → Bool) (f : RingEntry → ℕ) (q : RingEntry → Bool) (es : List RingEntry)
    → ((e : RingEntry) → p (f e) ≡ q e) → count_by p (map f es) ≡ count_by q es
count_by-map p f q es h =
    fold-map (λ a x. a + cond (p x) 1 0) f 0 es ∙ ap (λ (t : RingEntry → Bool). count_by t es) (λ j e. h e j)

count_bytes : (category : Category) (es : List RingEntry)
    → count_by (λ cat. cat % 4 == code_of category) (map category_byte es) ≡ count_by (is_of category) es
count_bytes category es =
    count_by-map (λ cat. cat % 4 == code_of category) category_byte (is_of category) es (λ e. ap (λ n. n == code_of category) (byte_tells e).kind)

-- the counts as the kernel tells them
abbrev pub as_list : Counts → List ℕ
as_list c = c.dbus ∷ c.dtime ∷ c.dunk ∷ c.bus ∷ c.time ∷ c.unk ∷ []

counts_of_bytes : (seen : List RingEntry) → (bytes : List ℕ) → bytes ≡ map category_byte seen
    → (dubious : ℕ) → dubious ≡ dubious_len seen
    → count_by (λ cat. cat % 4 == 1) (take dubious bytes) ∷ count_by (λ cat. cat % 4 == 2) (take dubious bytes) ∷ count_by (λ cat. cat % 4 == 3) (take dubious bytes)
    ∷ count_by (λ cat. cat % 4 == 1) (drop dubious bytes) ∷ count_by (λ cat. cat % 4 == 2) (drop dubious bytes) ∷ count_by (λ cat. cat % 4 == 3) (drop dubious bytes) ∷ []
    ≡ as_list (counts_of seen)
counts_of_bytes seen bytes is dubious len =
    let front : take dubious bytes ≡ map category_byte (take (dubious_len seen) seen) =
    ap (λ xs. take dubious xs) is ∙ ap (λ n. take n (map category_byte seen)) len ∙ take-map category_byte (dubious_len seen) seen in
    let back : drop dubious bytes ≡ map category_byte (drop (dubious_len seen) seen) =
    ap (λ xs. drop dubious xs) is ∙ ap (λ n. drop n (map category_byte seen)) len ∙ drop-map category_byte (dubious_len seen) seen in
    let each : (category : Category) (xs : List ℕ) (es : List RingEntry) → xs ≡ map category_byte es
    → count_by (λ cat. cat % 4 == code_of category) xs ≡ count_by (is_of category) es =
    λ category xs es e. ap (λ ys. count_by (λ cat. cat % 4 == code_of category) ys) e ∙ count_bytes category es in
    let a = each Bus _ _ front in
    let b = each Timeout _ _ front in
    let c = each Unknown _ _ front in
    let d = each Bus _ _ back in
    let f = each Timeout _ _ back in
    let g = each Unknown _ _ back in
    λ j. a j ∷ b j ∷ c j ∷ d j ∷ f j ∷ g j ∷ []

pub six_counts-bytes : (es : List RingEntry) (since : ℕ)
    → six_counts (map category_byte es) (map time_of es) since ≡ as_list (counts_of (take_while (is_within since) es))
six_counts-bytes es since =
    let within : (e : RingEntry) → byte_within since (category_byte e, time_of e) ≡ is_within since e =
    λ e. ap (λ b. b && nat_le since (time_of e)) (byte_tells e).fresh in
    let size : prefix_len (byte_within since) (zip (map category_byte es) (map time_of es)) ≡ prefix_len (is_within since) es =
    ap (λ pairs. prefix_len (byte_within since) pairs) (zip-map category_byte time_of es)
    ∙ prefix_len-map (byte_within since) (λ e. (category_byte e, time_of e)) (is_within since) es within in
    let seen : take (prefix_len (byte_within since) (zip (map category_byte es) (map time_of es))) (map category_byte es)
    ≡ map category_byte (take_while (is_within since) es) =
    ap (λ n. take n (map category_byte es)) size ∙ take-map category_byte (prefix_len (is_within since) es) es in
    let doubt : prefix_len is_dubious (take (prefix_len (byte_within since) (zip (map category_byte es) (map time_of es))) (map category_byte es))
    ≡ dubious_len (take_while (is_within since) es) =
    ap (λ xs. prefix_len is_dubious xs) seen
    ∙ prefix_len-map is_dubious category_byte (λ e. e.dubious) (take_while (is_within since) es) (λ e. (byte_tells e).doubt) in
    counts_of_bytes (take_while (is_within since) es) _ seen _ doubt

pub counts_from : (six : List ℕ) (c : Counts) → six ≡ as_list c
    → record { dbus = slice_index six 0; dtime = slice_index six 1; dunk = slice_index six 2; bus = slice_index six 3; time = slice_index six 4; unk = slice_index six 5 } ≡ c
counts_from six c e = λ j. record {
  dbus = slice_index (e j) 0;
  dtime = slice_index (e j) 1;
  dunk = slice_index (e j) 2;
  bus = slice_index (e j) 3;
  time = slice_index (e j) 4;
  unk = slice_index (e j) 5;
}
