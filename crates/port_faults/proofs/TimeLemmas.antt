-- The entry of the timer.
use Rattle.std.proofs.Common.{◌≡◌, ◌∙◌, ℕ, ◌+◌, zero, suc, Bool, true, false, not, ◌&&◌, nat_lt, List, [], ◌∷◌, ◌++◌, Option, None, Some, if◌then◌else◌, length, drop, IsTrue, IsBitSet, ◌↔◌, refl, sym, ap, subst, arith}
use Rattle.std.proofs.lemmas.Bool.{false_from_ne_true, le-ltb, lt-ltb}
use Rattle.ata_trace.specs.declared.act.Act.{Act}
use Rattle.ata_trace.specs.declared.act.Act.TheVariants.{Drained, Expired, Requested}
use Rattle.host_tags.specs.Slots.{flight_at, is_busy}
use Rattle.host_tags.specs.declared.in_flight.InFlight.{InFlight}
use Rattle.host_timer.specs.Due.{has_due, is_due}
use Rattle.port_ledger.specs.LedgerView.{LedgerView}
use Rattle.port_past.specs.Slots.{slots}
use Rattle.port_rules.specs.Time.{expiries, with_request}
use Rattle.port_rules.specs.Told.{told_if}
use Rattle.port_telling.proofs.AddLemmas.{adds_more, adds_same}
use Rattle.port_telling.proofs.WalkLemmas.{head_same}
use Rattle.port_telling.specs.Adds.{Adds}
use Rattle.port_telling.specs.Walks.{slots_in}

-- what is told asks for recovery where there is any
with_request_is :
    (asked : Bool) (before after : ℕ) (acts : List Act) → before ≡ after + length acts
    → acts ++ told_if (nat_lt after before && not asked) Requested ≡ with_request asked acts
with_request_is asked before after [] room =
    let none : nat_lt after before ≡ false = le-ltb after before (omega arith) in
    rw none refl
with_request_is asked before after (act ∷ rest) room =
    let some : nat_lt after before ≡ true = lt-ltb after before (omega arith) in
    rw some refl

-- that the port gives up waiting leaves the issues in flight
drained_leaves :
    {first mid : LedgerView} (comes : Bool) → Adds first mid (told_if comes Drained) → slots_in mid ≡ slots_in first
drained_leaves true adds = ap slots adds.past
drained_leaves false adds = ap slots adds.past

pub time_told :
    {first mid walked last : LedgerView} (comes asked drained : Bool) (time : ℕ)
    → Adds first mid (told_if comes Drained)
    → Adds mid walked (expiries time drained (slots_in mid))
    → Adds walked last (told_if (nat_lt walked.room mid.room && not asked) Requested)
    → Adds first last (told_if comes Drained ++ with_request asked (expiries time drained (slots_in first)))
time_told {first} {mid} {walked} {last} comes asked drained time drains walk request =
    let acts : List Act = expiries time drained (slots_in first) in
    let two : Adds mid walked acts = adds_same (ap (expiries time drained) (drained_leaves comes drains)) walk in
    adds_more drains (adds_same (with_request_is asked mid.room walked.room acts two.room) (adds_more two request))

-- ---- where no tag is busy

none_busy_expires :
    (time : ℕ) (drained : Bool) (flights : List (Option InFlight)) → ((tag : ℕ) → IsTrue (is_busy flights tag) → ⊥)
    → expiries time drained flights ≡ []
none_busy_expires time drained [] none = refl
none_busy_expires time drained (None ∷ flights) none = none_busy_expires time drained flights (λ tag. none (suc tag))
none_busy_expires time drained (Some f ∷ flights) none = absurd (none zero refl)

-- the timer tells of none
pub none_expires :
    (time busy : ℕ) (drained : Bool) (ledger : LedgerView)
    → ((tag : ℕ) → IsBitSet busy tag ↔ IsTrue (is_busy (slots_in ledger) tag)) → busy ≡ 0
    → Adds ledger ledger (expiries time drained (slots_in ledger))
none_expires time busy drained ledger bits idle =
    let none : expiries time drained (slots_in ledger) ≡ [] =
    none_busy_expires time drained (slots_in ledger) (λ tag is. subst (λ mask. IsBitSet mask tag) idle ((bits tag).1 is) refl) in
    rw none (record { past = refl; head = refl; room = omega arith })

-- ---- where none is due

not_expired : (due expired : Bool) (act : Act) → due ≡ false → (if due && not expired then Some act else None) ≡ None
not_expired due expired act late = rw late refl

none_due_expires :
    (time : ℕ) (drained : Bool) (flights : List (Option InFlight)) → ((tag : ℕ) → IsTrue (is_due time drained flights tag) → ⊥)
    → expiries time drained flights ≡ []
none_due_expires time drained [] none = refl
none_due_expires time drained (None ∷ flights) none = none_due_expires time drained flights (λ tag. none (suc tag))
none_due_expires time drained (Some f ∷ flights) none =
    rw (not_expired (has_due time drained (Some f)) f.expired (Expired f.id f.number) (false_from_ne_true (has_due time drained (Some f)) (none zero)))
    (none_due_expires time drained flights (λ tag. none (suc tag)))

-- the timer tells of none
pub none_due :
    (time tags : ℕ) (drained : Bool) (ledger : LedgerView)
    → ((tag : ℕ) → IsBitSet tags tag ↔ IsTrue (is_due time drained (slots_in ledger) tag)) → tags ≡ 0
    → Adds ledger ledger (expiries time drained (slots_in ledger))
none_due time tags drained ledger bits idle =
    let none : expiries time drained (slots_in ledger) ≡ [] =
    none_due_expires time drained (slots_in ledger) (λ tag is. subst (λ mask. IsBitSet mask tag) idle ((bits tag).1 is) refl) in
    rw none (record { past = refl; head = refl; room = omega arith })

-- ---- a mask of the issues that are due, taken before the walk

same_truth : (a b : Bool) → IsTrue a ↔ IsTrue b → a ≡ b
same_truth true true both = refl
same_truth true false both = absurd (cc (both.0 refl))
same_truth false true both = absurd (cc (both.1 refl))
same_truth false false both = refl

pub due_still :
    (time : ℕ) (drained : Bool) (tag mask : ℕ) (told : Bool) (first later : List (Option InFlight))
    → (IsTrue told ↔ IsBitSet mask tag) → (IsBitSet mask tag ↔ IsTrue (is_due time drained first tag))
    → drop tag later ≡ drop tag first
    → told ≡ has_due time drained (flight_at later tag)
due_still time drained tag mask told first later bit due same =
    same_truth told (is_due time drained first tag) (λ is. due.0 (bit.0 is), λ is. bit.1 (due.1 is))
    ∙ ap (has_due time drained) (sym (head_same later first tag same))
