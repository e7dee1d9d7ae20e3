-- The tags of a controller, by the lists of their places and bits.
use Rattle.std.proofs.Common.{◌≡◌, ◌∙◌, ℕ, suc, zero, ◌<◌, ◌^◌, Bool, true, false, not, ◌&&◌, List, [], ◌∷◌, Option, None, Some, length, set, map, replicate, refl, sym, ap, arith, if◌then◌else◌}
use Rattle.std.specs.Simd.Lanes.{mask_l}
use Rattle.hba_model.specs.Bits.{bits_of, bits_less, stage_of, tags_of, NoneIsBoth}
use Rattle.hba_model.specs.TagView.{Idle, Done, TagView, never_issued}
use Rattle.hba_model.proofs.BitLemmas.{length_bits_of, mask_of_bits}
use Rattle.hba_model.specs.Tags.{active_mask, done_mask, tag_at, is_active, is_done, is_issued_at, cleared_by}

-- ---- one tag

-- one tag changes where its place and bits do
pub tags_set :
    (places : List (Option ℕ)) (actives dones : List Bool) (t : ℕ) (place : Option ℕ) (active done : Bool)
    → tags_of (set places t place) (set actives t active) (set dones t done)
    ≡ set (tags_of places actives dones) t (record { place = place; stage = stage_of active done })
tags_set [] actives dones t place active done = refl
tags_set (p ∷ places) [] dones zero place active done = refl
tags_set (p ∷ places) [] dones (suc t) place active done = refl
tags_set (p ∷ places) (a ∷ actives) [] zero place active done = refl
tags_set (p ∷ places) (a ∷ actives) [] (suc t) place active done = refl
tags_set (p ∷ places) (a ∷ actives) (d ∷ dones) zero place active done = refl
tags_set (p ∷ places) (a ∷ actives) (d ∷ dones) (suc t) place active done =
    ap (λ tags. record { place = p; stage = stage_of a d } ∷ tags) (tags_set places actives dones t place active done)

-- a tag that is finished keeps its place
pub tags_finished :
    (places : List (Option ℕ)) (actives dones : List Bool) (t : ℕ)
    → tags_of places (set actives t false) (set dones t true)
    ≡ set (tags_of places actives dones) t (record (tag_at (tags_of places actives dones) t) { stage = Done })
tags_finished [] actives dones t = refl
tags_finished (p ∷ places) [] dones t = refl
tags_finished (p ∷ places) (a ∷ actives) [] zero = refl
tags_finished (p ∷ places) (a ∷ actives) [] (suc t) = refl
tags_finished (p ∷ places) (a ∷ actives) (d ∷ dones) zero = refl
tags_finished (p ∷ places) (a ∷ actives) (d ∷ dones) (suc t) =
    ap (λ tags. record { place = p; stage = stage_of a d } ∷ tags) (tags_finished places actives dones t)

-- ---- all tags

cleared_one :
    (place : Option ℕ) (active done there : Bool)
    → ◌≡◌ {A = TagView} (record { place = place; stage = stage_of (active && not there) (done && not there) })
    (if there then record { place = place; stage = Idle } else record { place = place; stage = stage_of active done })
cleared_one place true true true = refl
cleared_one place true false true = refl
cleared_one place false true true = refl
cleared_one place false false true = refl
cleared_one place true true false = refl
cleared_one place true false false = refl
cleared_one place false true false = refl
cleared_one place false false false = refl

-- the bits of what was issued at a place go
pub tags_less :
    (x : ℕ) (places : List (Option ℕ)) (actives dones : List Bool)
    → tags_of places (bits_less actives (map (is_issued_at x) places)) (bits_less dones (map (is_issued_at x) places))
    ≡ map (cleared_by (Some x)) (tags_of places actives dones)
tags_less x [] actives dones = refl
tags_less x (p ∷ places) [] dones = refl
tags_less x (p ∷ places) (a ∷ actives) [] = refl
tags_less x (p ∷ places) (a ∷ actives) (d ∷ dones) =
    ap (λ (tag : TagView). tag ∷ tags_of places (bits_less actives (map (is_issued_at x) places)) (bits_less dones (map (is_issued_at x) places)))
    (cleared_one p a d (is_issued_at x p))
    ∙ ap (λ tags. cleared_by (Some x) (record { place = p; stage = stage_of a d }) ∷ tags) (tags_less x places actives dones)

-- no bit stands
pub tags_none :
    (n : ℕ) (places : List (Option ℕ)) (actives dones : List Bool) → length places ≡ n → length actives ≡ n
    → length dones ≡ n
    → tags_of places (replicate n false) (replicate n false) ≡ map (cleared_by None) (tags_of places actives dones)
tags_none n [] actives dones long a d = refl
tags_none zero (p ∷ places) actives dones long a d = absurd (omega (arith, long))
tags_none (suc n) (p ∷ places) [] dones long a d = absurd (omega (arith, a))
tags_none (suc n) (p ∷ places) (x ∷ actives) [] long a d = absurd (omega (arith, d))
tags_none (suc n) (p ∷ places) (x ∷ actives) (y ∷ dones) long a d =
    ap (λ tags. record { place = p; stage = Idle } ∷ tags)
    (tags_none n places actives dones (omega (arith, long)) (omega (arith, a)) (omega (arith, d)))

pub tags_quiet : (n : ℕ) → tags_of (replicate n None) (replicate n false) (replicate n false) ≡ replicate n never_issued
tags_quiet zero = refl
tags_quiet (suc n) = ap (λ tags. never_issued ∷ tags) (tags_quiet n)

-- ---- the bits of tags

active_bit : (place : Option ℕ) (active done : Bool) → is_active (record { place = place; stage = stage_of active done }) ≡ active
active_bit place true done = refl
active_bit place false true = refl
active_bit place false false = refl

pub actives_of :
    (n : ℕ) (places : List (Option ℕ)) (actives dones : List Bool) → length places ≡ n → length actives ≡ n
    → length dones ≡ n → map is_active (tags_of places actives dones) ≡ actives
actives_of n [] [] dones long a d = refl
actives_of n [] (x ∷ actives) dones long a d = absurd (omega (arith, long, a))
actives_of n (p ∷ places) [] dones long a d = absurd (omega (arith, long, a))
actives_of n (p ∷ places) (x ∷ actives) [] long a d = absurd (omega (arith, long, d))
actives_of zero (p ∷ places) (x ∷ actives) (y ∷ dones) long a d = absurd (omega (arith, long))
actives_of (suc n) (p ∷ places) (x ∷ actives) (y ∷ dones) long a d =
    ap (λ b. b ∷ map is_active (tags_of places actives dones)) (active_bit p x y)
    ∙ ap (λ bits. x ∷ bits) (actives_of n places actives dones (omega (arith, long)) (omega (arith, a)) (omega (arith, d)))

done_bit : (place : Option ℕ) (active done : Bool) → (active && done) ≡ false → is_done (record { place = place; stage = stage_of active done }) ≡ done
done_bit place true true both = absurd (cc)
done_bit place true false both = refl
done_bit place false true both = refl
done_bit place false false both = refl

pub dones_of :
    (n : ℕ) (places : List (Option ℕ)) (actives dones : List Bool) → length places ≡ n → length actives ≡ n
    → length dones ≡ n → NoneIsBoth actives dones → map is_done (tags_of places actives dones) ≡ dones
dones_of n [] actives [] long a d apart = refl
dones_of n [] actives (y ∷ dones) long a d apart = absurd (omega (arith, long, d))
dones_of n (p ∷ places) [] dones long a d apart = absurd (omega (arith, long, a))
dones_of n (p ∷ places) (x ∷ actives) [] long a d apart = refl
dones_of zero (p ∷ places) (x ∷ actives) (y ∷ dones) long a d apart = absurd (omega (arith, long))
dones_of (suc n) (p ∷ places) (x ∷ actives) (y ∷ dones) long a d apart =
    ap (λ b. b ∷ map is_done (tags_of places actives dones)) (done_bit p x y apart.0)
    ∙ ap (λ bits. y ∷ bits) (dones_of n places actives dones (omega (arith, long)) (omega (arith, a)) (omega (arith, d)) apart.1)

-- ---- no tag is both active and done

pub apart_set :
    (actives dones : List Bool) (t : ℕ) (active done : Bool) → NoneIsBoth actives dones → (active && done) ≡ false
    → NoneIsBoth (set actives t active) (set dones t done)
apart_set [] dones t active done apart one = tt
apart_set (x ∷ actives) [] zero active done apart one = tt
apart_set (x ∷ actives) [] (suc t) active done apart one = tt
apart_set (x ∷ actives) (y ∷ dones) zero active done apart one = (one, apart.1)
apart_set (x ∷ actives) (y ∷ dones) (suc t) active done apart one = (apart.0, apart_set actives dones t active done apart.1 one)

apart_one : (active done there : Bool) → (active && done) ≡ false → ((active && not there) && (done && not there)) ≡ false
apart_one true true there both = absurd (cc)
apart_one true false true both = refl
apart_one true false false both = refl
apart_one false done there both = refl

pub apart_less :
    (actives dones others : List Bool) → NoneIsBoth actives dones
    → NoneIsBoth (bits_less actives others) (bits_less dones others)
apart_less [] dones others apart = tt
apart_less (x ∷ actives) dones [] apart = tt
apart_less (x ∷ actives) [] (o ∷ others) apart = tt
apart_less (x ∷ actives) (y ∷ dones) (o ∷ others) apart = (apart_one x y o apart.0, apart_less actives dones others apart.1)

pub apart_none : (n : ℕ) → NoneIsBoth (replicate n false) (replicate n false)
apart_none zero = tt
apart_none (suc n) = (refl, apart_none n)

-- ---- the masks of a controller

pub active_is :
    (places : List (Option ℕ)) (active finished : ℕ) → length places ≡ 32 → active < 2 ^ 32
    → active ≡ active_mask (tags_of places (bits_of 32 active) (bits_of 32 finished))
active_is places active finished long room =
    sym (ap mask_l (actives_of 32 places (bits_of 32 active) (bits_of 32 finished) long (length_bits_of 32 active) (length_bits_of 32 finished))
    ∙ mask_of_bits 32 active room)

pub finished_is :
    (places : List (Option ℕ)) (active finished : ℕ) → length places ≡ 32 → finished < 2 ^ 32
    → NoneIsBoth (bits_of 32 active) (bits_of 32 finished)
    → finished ≡ done_mask (tags_of places (bits_of 32 active) (bits_of 32 finished))
finished_is places active finished long room apart =
    sym (ap mask_l (dones_of 32 places (bits_of 32 active) (bits_of 32 finished) long (length_bits_of 32 active) (length_bits_of 32 finished) apart)
    ∙ mask_of_bits 32 finished room)
