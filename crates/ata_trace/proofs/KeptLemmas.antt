-- Acts that are kept stay what they are, whatever is kept after them.
use Rattle.std.proofs.Common.{◌≡◌, ℕ, suc, zero, ◌+◌, ◌<◌, ◌≤◌, List, [], ◌∷◌, ◌++◌, length, map, refl, sym, ap, ◌∙◌, arith, Some}
use Rattle.std.proofs.lemmas.List.{length-map, take-map, drop-map}
use Rattle.std.specs.Prelude.{◌-◌, drop, slice_get, slice_range, unwrap_or}
use Rattle.ata_trace.proofs.HeadLemmas.{entries_of_add, entry_lent}
use Rattle.ata_trace.specs.Entries.{with_act}
use Rattle.ata_trace.specs.Heads.{entries_of, entry_of, first_start, StartsInOrder}
use Rattle.ata_trace.specs.Kept.{act_kept, acts_kept, kept_whole, wholes, AreWithin}
use Rattle.ata_trace.specs.declared.act.Act.{Act}
use Rattle.ata_trace.specs.declared.act.Act.TheVariants as acts
use Rattle.ata_trace.specs.declared.journal.Head.{Head}
use Rattle.ata_trace.specs.declared.kept.Kept.{Kept}
use Rattle.ata_trace.specs.declared.kept.Kept.TheVariants.{Accepted, Refused, Issued, Deferred, Exclusive, Done, Raised, Lost, AnsweredOk, Now, Nothing, Whole}

-- what is in short keeps nothing whole
pub none_whole : (kept : Kept) (act : Act) → wholes kept ≡ 0 → kept_whole kept act ≡ []
none_whole (Whole number) act none = absurd (omega (arith, none))
none_whole (Accepted id) act none = refl
none_whole (Refused id why) act none = refl
none_whole (Issued tag id fis number deadline) act none = refl
none_whole (Deferred id why) act none = refl
none_whole (Exclusive place) act none = refl
none_whole (Done status error count number lba) act none = refl
none_whole Raised act none = refl
none_whole Lost act none = refl
none_whole (AnsweredOk status error count id number lba) act none = refl
none_whole (Now at) act none = refl
none_whole Nothing act none = refl

-- the newest of those that are kept whole
pub newest : (whole : List Act) (act : Act) → unwrap_or (slice_get (whole ++ act ∷ []) (length whole)) acts.Nothing ≡ act
newest [] act = refl
newest (first ∷ rest) act = newest rest act

whole_stays : (whole more : List Act) (number : ℕ) → number < length whole → slice_get (whole ++ more) number ≡ slice_get whole number
whole_stays [] more number within = absurd (omega arith)
whole_stays (first ∷ rest) more zero within = refl
whole_stays (first ∷ rest) more (suc number) within = whole_stays rest more number (omega arith)

act_stays : (whole more : List Act) (kept : Kept) → wholes kept ≤ length whole → act_kept (whole ++ more) kept ≡ act_kept whole kept
act_stays whole more (Whole number) within = ap (λ found. unwrap_or found acts.Nothing) (whole_stays whole more number (omega arith))
act_stays whole more (Accepted id) within = refl
act_stays whole more (Refused id why) within = refl
act_stays whole more (Issued tag id fis number deadline) within = refl
act_stays whole more (Deferred id why) within = refl
act_stays whole more (Exclusive place) within = refl
act_stays whole more (Done status error count number lba) within = refl
act_stays whole more Raised within = refl
act_stays whole more Lost within = refl
act_stays whole more (AnsweredOk status error count id number lba) within = refl
act_stays whole more (Now at) within = refl
act_stays whole more Nothing within = refl

-- one act more
pub acts_push : (whole more : List Act) (kept : List Kept) (next : Kept) (act : Act)
    → AreWithin kept (length whole) → act_kept (whole ++ more) next ≡ act → acts_kept (whole ++ more) (kept ++ next ∷ []) ≡ acts_kept whole kept ++ act ∷ []
acts_push whole more [] next act within is = ap (λ a. a ∷ []) is
acts_push whole more (first ∷ rest) next act within is =
    rw (act_stays whole more first within.0, acts_push whole more rest next act within.1 is) refl

-- as many acts as are kept
pub length_kept : (whole : List Act) (kept : List Kept) → length (acts_kept whole kept) ≡ length kept
length_kept whole kept = length-map kept (act_kept whole)

-- one act more in the last entry
pub entries_push : (heads : List Head) (whole after more : List Act) (kept : List Kept) (next : Kept) (act : Act)
    → after ≡ whole ++ more → act_kept after next ≡ act → AreWithin kept (length whole) → StartsInOrder heads (length kept)
    → entries_of heads (acts_kept after (kept ++ next ∷ [])) ≡ with_act (entries_of heads (acts_kept whole kept)) act
entries_push heads whole after more kept next act grown is within order =
    ap (entries_of heads) (rw grown (acts_push whole more kept next act within (rw grown at is)))
    ∙ entries_of_add heads (acts_kept whole kept) act (rw (length_kept whole kept) order)

pub within_push : (kept : List Kept) (next : Kept) (n m : ℕ) → n ≤ m → wholes next ≤ m → AreWithin kept n → AreWithin (kept ++ next ∷ []) m
within_push [] next n m more fits within = (fits, tt)
within_push (first ∷ rest) next n m more fits within = (omega (arith, within.0, more), within_push rest next n m more fits within.1)

-- the acts of an entry, lent
range_kept : (whole : List Act) (kept : List Kept) (start end : ℕ) → acts_kept whole (slice_range kept start end) ≡ slice_range (acts_kept whole kept) start end
range_kept whole kept start end = rw (drop-map (act_kept whole) start kept, take-map (act_kept whole) (end - start) (drop start kept)) refl

pub kept_lent : (heads lent_heads : List Head) (whole lent_whole : List Act) (kept lent_kept : List Kept) (i all end : ℕ) (h : Head)
    → slice_get lent_heads i ≡ Some h → end ≡ first_start (drop (i + 1) lent_heads) all
    → lent_heads ≡ heads → lent_whole ≡ whole → lent_kept ≡ kept → all ≡ length kept
    → Some (entry_of h (acts_kept lent_whole (slice_range lent_kept h.start end))) ≡ slice_get (entries_of heads (acts_kept whole kept)) i
kept_lent heads lent_heads whole lent_whole kept lent_kept i all end h found ends heads_same whole_same kept_same all_same =
    rw (whole_same, kept_same, range_kept whole kept h.start end)
    (entry_lent heads lent_heads (acts_kept whole kept) (acts_kept whole kept) i all end h found ends heads_same refl (all_same ∙ sym (length_kept whole kept)))
