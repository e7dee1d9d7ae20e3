-- The lowest bit of the tags that are answerable.
use Rattle.std.proofs.Common.{◌≡◌, ◌∙◌, ℕ, ◌-◌, ◌<◌, ◌^◌, min, Bool, true, false, cond, not, ◌&&◌, List, Option, None, Some, refl, sym, ap, arith, bit_and, is_some, IsTrue}
use Rattle.std.specs.Int.{bit_at, bit_not, trailing_zeros, w32}
use Rattle.std.proofs.lemmas.Nat.Bits.{bit_at-zero, bit_at-lt, bit_at_and, bit_at_not, bit_at-trailing_zeros}
use Rattle.hba_model.specs.Tags.{tag_at, is_done, done_mask}
use Rattle.hba_model.specs.TagView.{TagView, never_issued}
use Rattle.host_tags.specs.Slots.{flight_at, is_unowned, has_owned, busy_mask, owned_mask}
use Rattle.host_tags.specs.declared.in_flight.InFlight.{InFlight}
use Rattle.host_tags.proofs.MaskLemmas.{bit_of}
use Rattle.host_issue.specs.Finding.{IsLeastTag, is_answerable}

by_owned : (owned done : Bool) → min (min 1 (1 - cond owned 1 0)) (cond done 1 0) ≡ cond (not owned && done) 1 0
by_owned true true = refl
by_owned true false = refl
by_owned false true = refl
by_owned false false = refl

-- the bit of a tag that is busy, not owned and done
one_bit :
    (slot : Option InFlight) (done : Bool)
    → min (min (cond (is_some slot) 1 0) (1 - cond (has_owned slot) 1 0)) (cond done 1 0)
    ≡ cond (is_unowned slot && done) 1 0
one_bit None true = refl
one_bit None false = refl
one_bit (Some f) done = by_owned f.owned done

set_by : (b : Bool) (v : ℕ) → v ≡ cond b 1 0 → v ≡ 1 → IsTrue b
set_by true v says one = refl
set_by false v says one = absurd (omega (arith, says, one))

clear_by : (b : Bool) (v : ℕ) → v ≡ cond b 1 0 → v ≡ 0 → b ≡ false
clear_by true v says none = absurd (omega (arith, says, none))
clear_by false v says none = refl

-- each bit says whether its tag is answerable
pub bit_answerable :
    (slots : List (Option InFlight)) (tags : List TagView) (busy owned done t : ℕ) → busy ≡ busy_mask slots
    → owned ≡ owned_mask slots → done ≡ done_mask tags → owned < 2 ^ 32 → t < 32
    → bit_at (bit_and (bit_and busy (bit_not w32 owned)) done) t ≡ cond (is_answerable slots tags t) 1 0
bit_answerable slots tags busy owned done t is_busy_mask is_owned_mask is_done_mask fits below =
    let others = bit_not w32 owned in
    let slot = flight_at slots t in
    let told = is_done (tag_at tags t) in
    bit_at_and (bit_and busy others) done t
    ∙ ap (λ x. min x (bit_at done t)) (bit_at_and busy others t)
    ∙ ap (λ x. min (min (bit_at busy t) x) (bit_at done t)) (bit_at_not w32 owned t fits below)
    ∙ ap (λ x. min (min x (1 - bit_at owned t)) (bit_at done t)) (bit_of is_some None slots t busy refl (sym is_busy_mask))
    ∙ ap (λ x. min (min (cond (is_some slot) 1 0) (1 - x)) (bit_at done t)) (bit_of has_owned None slots t owned refl (sym is_owned_mask))
    ∙ ap (λ x. min (min (cond (is_some slot) 1 0) (1 - cond (has_owned slot) 1 0)) x) (bit_of is_done never_issued tags t done refl (sym is_done_mask))
    ∙ one_bit slot told

-- the lowest bit is that of the least tag
pub least_found :
    (test : ℕ → Bool) (m at : ℕ) → ((t : ℕ) → t < 32 → bit_at m t ≡ cond (test t) 1 0) → 0 < m → m < 2 ^ 32
    → at ≡ trailing_zeros w32 m → IsLeastTag test (Some at)
least_found test m at each some fits is =
    let lowest = bit_at-trailing_zeros w32 m some fits in
    rw is (
      set_by (test _) _ (each _ lowest.0) lowest.1,
      λ lower low. clear_by (test lower) _ (each lower (omega (arith, low, lowest.0))) (lowest.2 lower low),
    )

-- where no bit is set, there is no such tag
pub none_found :
    (test : ℕ → Bool) (m : ℕ) → ((t : ℕ) → t < 32 → bit_at m t ≡ cond (test t) 1 0) → m ≡ 0 → IsLeastTag test None
none_found test m each none = λ tag below. clear_by (test tag) _ (each tag below) (ap (λ x. bit_at x tag) none ∙ bit_at-zero tag)
