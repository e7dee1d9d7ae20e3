-- Walks over the tags during which the port tells acts.
use Rattle.std.proofs.Common.{◌≡◌, ◌∙◌, ℕ, ◌+◌, ◌/◌, ◌^◌, ◌<◌, ◌≤◌, ◌↔◌, Bool, true, IsTrue, IsBitSet, List, [], ◌∷◌, ◌++◌, Option, Some, None, is_some, suc, zero, length, get_or, drop, refl, sym, ap, subst, arith, add-one, slice_set, length-append}
use Rattle.std.proofs.Math.Nat.{zero-div}
use Rattle.std.specs.Option.{option_to_list}
use Rattle.std.specs.List.{cons_option, filter_map}
use Rattle.std.proofs.lemmas.Bool.{eq-eqb}
use Rattle.std.proofs.lemmas.Grind.{drop_more_same}
use Rattle.std.proofs.lemmas.List.{drop_all, drop-set-lt, get_or-drop}
use Rattle.std.proofs.lemmas.Nat.{bit_set_by_shift, shr-shr}
use Rattle.std.proofs.lemmas.Option.{unwrap_or-slice_get}
use Rattle.ata_base.specs.declared.err_mask.ErrMask.{ErrMask}
use Rattle.ata_script.specs.declared.port_head.PortHead.{PortHead}
use Rattle.ata_trace.proofs.Pasts.{onto_append}
use Rattle.ata_trace.specs.Entries.{past_of}
use Rattle.ata_trace.specs.Event.{Event, onto}
use Rattle.ata_trace.specs.Event.Event.{Told}
use Rattle.ata_trace.specs.declared.act.Act.{Act}
use Rattle.ata_trace.specs.declared.act.Act.TheVariants.{AnsweredOk}
use Rattle.host_tags.proofs.NumberLemmas.{without_here, changed_here}
use Rattle.host_tags.specs.EachFlight.{kept_at}
use Rattle.host_tags.specs.Marks.{condemned, expired}
use Rattle.host_tags.specs.Numbers.{is_issue, without, changed_by_number, AreApart}
use Rattle.host_tags.specs.Slots.{flight_at, is_busy}
use Rattle.host_tags.specs.declared.in_flight.InFlight.{InFlight}
use Rattle.port_ledger.proofs.ListLemmas.{where_found}
use Rattle.port_ledger.specs.LedgerView.{LedgerView, past}
use Rattle.port_past.proofs.Sizes.{length_slots}
use Rattle.port_past.specs.ByTag.{set_where}
use Rattle.port_past.specs.Completions.{completions}
use Rattle.port_past.specs.Slots.{slots}
use Rattle.port_past.specs.declared.completion.Completion.{Completion}
use Rattle.port_rules.proofs.TagByTag.{condemnations_told}
use Rattle.port_rules.specs.Sorting.{condemnations}
use Rattle.port_rules.specs.TagByTag.{each_told, condemnation_of}
use Rattle.port_telling.specs.Adds.{Adds}
use Rattle.port_telling.specs.Walks.{KeptBeside, Telling, TellsAt, ToldUpTo, alone, slots_in}

-- the list from a tag on is what is kept there and what comes after it
drop_at :
    {A : Type 0} (list : List (Option A)) (tag : ℕ) → tag < length list
    → drop tag list ≡ kept_at list tag ∷ drop (tag + 1) list
drop_at [] tag within = absurd (omega arith)
drop_at (x ∷ rest) zero within = refl
drop_at (x ∷ rest) (suc tag) within = rw (add-one (suc tag)) (rw (add-one tag) at (drop_at rest tag (omega arith)))

at_drop : {A : Type 0} (list : List (Option A)) (tag : ℕ) → kept_at list tag ≡ get_or (drop tag list) 0 None
at_drop list tag =
    let none_more : tag ≡ tag + 0 = omega arith in
    unwrap_or-slice_get list tag None ∙ ap (λ i. get_or list i None) none_more ∙ sym (get_or-drop tag list 0 None)

-- two lists that are the same from a tag on have the same there
pub head_same :
    {A : Type 0} (xs ys : List (Option A)) (tag : ℕ) → drop tag xs ≡ drop tag ys → kept_at xs tag ≡ kept_at ys tag
head_same xs ys tag same = at_drop xs tag ∙ ap (λ list. get_or list 0 None) same ∙ sym (at_drop ys tag)

-- before the first tag nothing is told
pub walk_begins :
    {A : Type 0} (tell : Telling A) (beside : KeptBeside A) (first : LedgerView)
    → ToldUpTo tell beside 0 first first
walk_begins tell beside first = record {
  told = refl;
  room = refl;
  spare = omega arith;
  head = refl;
  slots = refl;
  others = refl;
}

at_most_one : (told : Option Act) → length (option_to_list told) ≤ 1
at_most_one None = omega arith
at_most_one (Some act) = omega arith

-- a tag more
pub walk_goes :
    {A : Type 0} {tell : Telling A} {beside : KeptBeside A} {tag : ℕ} {first later after : LedgerView}
    → tag < 32 → length (beside first) ≡ 32 → ToldUpTo tell beside tag first later → TellsAt tell beside tag later after
    → ToldUpTo tell beside (tag + 1) first after
walk_goes {A} {tell} {beside} {tag} {first} {later} {after} is_tag size up tells =
    let in_slots : tag < length (slots_in first) = omega (arith, length_slots (past first)) in
    let in_beside : tag < length (beside first) = omega (arith, size) in
    let rest : List Act = each_told tell (drop (tag + 1) (slots_in first)) (drop (tag + 1) (beside first)) in
    let here : List Act = option_to_list (tell (kept_at (slots_in first) tag) (kept_at (beside first) tag)) in
    let split : each_told tell (drop tag (slots_in first)) (drop tag (beside first)) ≡ here ++ rest =
    ap (λ list. each_told tell list (drop tag (beside first))) (drop_at (slots_in first) tag in_slots)
    ∙ ap (each_told tell (kept_at (slots_in first) tag ∷ drop (tag + 1) (slots_in first)))
    (drop_at (beside first) tag in_beside) in
    let same : option_to_list (tell (kept_at (slots_in later) tag) (kept_at (beside later) tag)) ≡ here =
    ap (λ slot. option_to_list (tell slot (kept_at (beside later) tag)))
    (head_same (slots_in later) (slots_in first) tag up.slots)
    ∙ ap (λ it. option_to_list (tell (kept_at (slots_in first) tag) it))
    (head_same (beside later) (beside first) tag up.others) in
    let told_here : past_of after.entries ≡ onto (past_of later.entries) here =
    tells.adds.past ∙ ap (onto (past_of later.entries)) same in
    let cost : later.room ≡ after.room + length here = tells.adds.room ∙ ap (λ acts. after.room + length acts) same in
    let lengths :
    length (each_told tell (drop tag (slots_in first)) (drop tag (beside first))) ≡ length here + length rest =
    ap length split ∙ length-append here rest in
    record {
      told =
          ap (λ p. onto p rest) told_here ∙ sym (onto_append (past_of later.entries) here rest)
          ∙ sym (ap (λ acts. onto (past_of later.entries) acts) split) ∙ up.told;
      room = omega (arith, cost, lengths, up.room);
      spare =
          omega
          (arith, cost, up.spare, at_most_one (tell (kept_at (slots_in first) tag) (kept_at (beside first) tag)));
      head = tells.adds.head ∙ up.head;
      slots = tells.slots ∙ drop_more_same (slots_in later) (slots_in first) tag up.slots;
      others = tells.others ∙ drop_more_same (beside later) (beside first) tag up.others;
    }

-- past the last tag all is told
pub walk_ends :
    {A : Type 0} {tell : Telling A} {beside : KeptBeside A} {tag : ℕ} {first later : LedgerView}
    → 32 ≤ tag → ToldUpTo tell beside tag first later
    → Adds first later (each_told tell (slots_in first) (beside first))
walk_ends {A} {tell} {beside} {tag} {first} {later} through up =
    let none : drop tag (slots_in first) ≡ [] =
    drop_all tag (slots_in first) (omega (arith, through, length_slots (past first))) in
    record {
      past = rw none at up.told;
      head = up.head;
      room = (let room = rw none at up.room in omega (arith, room));
    }

-- where no tag is busy nothing is told, if of a free tag nothing is
none_busy_tells :
    {A : Type 0} (tell : Telling A) (xs : List (Option InFlight)) (ys : List (Option A))
    → ((it : Option A) → tell None it ≡ None) → ((tag : ℕ) → IsTrue (is_busy xs tag) → ⊥) → each_told tell xs ys ≡ []
none_busy_tells tell [] ys free none = refl
none_busy_tells tell (x ∷ xs) [] free none = refl
none_busy_tells tell (None ∷ xs) (y ∷ ys) free none =
    rw (free y) (none_busy_tells tell xs ys free (λ tag. none (suc tag)))
none_busy_tells tell (Some f ∷ xs) (y ∷ ys) free none = absurd (none zero refl)

kept_later : {A : Type 0} (list : List (Option A)) (from more : ℕ) → kept_at (drop from list) more ≡ kept_at list (from + more)
kept_later list from more =
    unwrap_or-slice_get (drop from list) more None ∙ get_or-drop from list more None
    ∙ sym (unwrap_or-slice_get list (from + more) None)

-- a mask that shifts to nothing has no bit from there on
no_bit_from : (mask from more : ℕ) → mask / 2 ^ from ≡ 0 → IsBitSet mask (from + more) → ⊥
no_bit_from mask from more none is =
    let shifted : mask / 2 ^ (from + more) ≡ 0 =
    sym (shr-shr mask from more) ∙ ap (λ n. n / 2 ^ more) none ∙ zero-div (2 ^ more) in
    absurd (cc ((bit_set_by_shift mask (from + more)).1 is, shifted))

-- past the last busy tag all is told
pub walk_ends_early :
    {A : Type 0} {tell : Telling A} {beside : KeptBeside A} {tag : ℕ} {first later : LedgerView} (busy : ℕ)
    → ((it : Option A) → tell None it ≡ None) → ((t : ℕ) → IsBitSet busy t ↔ IsTrue (is_busy (slots_in first) t))
    → busy / 2 ^ tag ≡ 0 → ToldUpTo tell beside tag first later
    → Adds first later (each_told tell (slots_in first) (beside first))
walk_ends_early {A} {tell} {beside} {tag} {first} {later} busy free bits idle up =
    let none : each_told tell (drop tag (slots_in first)) (drop tag (beside first)) ≡ [] =
    none_busy_tells tell (drop tag (slots_in first)) (drop tag (beside first)) free
    (λ t is. no_bit_from busy tag t idle
    ((bits (tag + t)).1 (subst (λ slot. IsTrue (is_some slot)) (kept_later (slots_in first) tag t) is))) in
    record {
      past = rw none at up.told;
      head = up.head;
      room = (let room = rw none at up.room in omega (arith, room));
    }

-- a walk tells at most one act a tag
pub walk_short :
    {A : Type 0} (tell : Telling A) (xs : List (Option InFlight)) (ys : List (Option A))
    → length (each_told tell xs ys) ≤ length xs
walk_short tell [] ys = omega arith
walk_short tell (x ∷ xs) [] = omega arith
walk_short tell (x ∷ xs) (y ∷ ys) =
    let rest = length-append (option_to_list (tell x y)) (each_told tell xs ys) in
    omega (arith, rest, at_most_one (tell x y), walk_short tell xs ys)

-- ---- what an act leaves of the later tags

here_is :
    (f : InFlight) (tag : ℕ) (flights : List (Option InFlight)) → flight_at flights tag ≡ Some f
    → is_issue f.number.n (flight_at flights tag) ≡ true
here_is f tag flights here = rw here (eq-eqb f.number.n f.number.n refl)

-- an issue leaves
pub later_without :
    (f : InFlight) (tag : ℕ) (flights : List (Option InFlight)) → AreApart flights → flight_at flights tag ≡ Some f
    → drop (tag + 1) (without f.number.n flights) ≡ drop (tag + 1) flights
later_without f tag flights apart here =
    rw (without_here tag f flights apart here) (drop-set-lt (tag + 1) flights tag None (omega arith))

-- it is changed
later_changed :
    (change : InFlight → InFlight) (f : InFlight) (tag : ℕ) (flights : List (Option InFlight)) → AreApart flights
    → flight_at flights tag ≡ Some f
    → drop (tag + 1) (changed_by_number change f.number.n flights) ≡ drop (tag + 1) flights
later_changed change f tag flights apart here =
    rw (changed_here tag f change flights apart here) (drop-set-lt (tag + 1) flights tag _ (omega arith))

-- it is condemned
pub later_condemned :
    (kinds : ErrMask) (f : InFlight) (tag : ℕ) (flights : List (Option InFlight)) → AreApart flights
    → flight_at flights tag ≡ Some f
    → drop (tag + 1) (changed_by_number (condemned kinds) f.number.n flights) ≡ drop (tag + 1) flights
later_condemned kinds f tag flights apart here = later_changed (condemned kinds) f tag flights apart here

-- the timer tells of it
pub later_expired :
    (f : InFlight) (tag : ℕ) (flights : List (Option InFlight)) → AreApart flights → flight_at flights tag ≡ Some f
    → drop (tag + 1) (changed_by_number expired f.number.n flights) ≡ drop (tag + 1) flights
later_expired f tag flights apart here = later_changed expired f tag flights apart here

-- what is kept beside it is set
pub later_beside :
    {A : Type 0} (v : A) (f : InFlight) (tag : ℕ) (flights : List (Option InFlight)) (xs : List A) → AreApart flights
    → flight_at flights tag ≡ Some f → drop (tag + 1) (set_where (is_issue f.number.n) v flights xs) ≡ drop (tag + 1) xs
later_beside v f tag flights xs apart here =
    rw (where_found f.number.n tag v flights xs apart (here_is f tag flights here))
    (drop-set-lt (tag + 1) xs tag v (omega arith))

-- ---- an answered issue would not have been condemned

cleared :
    (test : InFlight → Bool) (kinds : ErrMask) (tag : ℕ) (it : Completion)
    (flights : List (Option InFlight)) (done : List (Option Completion))
    → kept_at done tag ≡ Some it
    → each_told (condemnation_of test kinds) (slice_set flights tag None) (slice_set done tag None)
    ≡ each_told (condemnation_of test kinds) flights done
cleared test kinds tag it [] done there = refl
cleared test kinds tag it (slot ∷ flights) [] there = absurd (cc)
cleared test kinds zero it (None ∷ flights) (e ∷ done) there = refl
cleared test kinds zero it (Some f ∷ flights) (e ∷ done) there = (let is : e ≡ Some it = there in rw is refl)
cleared test kinds (suc tag) it (slot ∷ flights) (e ∷ done) there =
    ap (λ acts. option_to_list (condemnation_of test kinds slot e) ++ acts)
    (cleared test kinds tag it flights done there)

condemned_left :
    (test : InFlight → Bool) (kinds : ErrMask) (f : InFlight) (tag : ℕ) (it : Completion)
    (flights : List (Option InFlight)) (done : List (Option Completion))
    → AreApart flights → flight_at flights tag ≡ Some f → kept_at done tag ≡ Some it
    → condemnations test kinds (without f.number.n flights) (set_where (is_issue f.number.n) None flights done)
    ≡ condemnations test kinds flights done
condemned_left test kinds f tag it flights done apart here there =
    let found = where_found f.number.n tag None flights done apart (here_is f tag flights here) in
    rw (without_here tag f flights apart here, found)
    (condemnations_told test kinds (slice_set flights tag None) (slice_set done tag None)
    ∙ cleared test kinds tag it flights done there
    ∙ sym (condemnations_told test kinds flights done))

-- an answer leaves what is to be condemned
pub answered_left :
    (head new_head : PortHead) (past after : List Event) (test : InFlight → Bool) (kinds : ErrMask)
    (f : InFlight) (tag : ℕ) (it : Completion) (id status error lba count : ℕ) (stamps : List ℕ)
    → new_head ≡ head → after ≡ Told (AnsweredOk id f.number status error lba count stamps) ∷ past
    → AreApart (slots past) → flight_at (slots past) tag ≡ Some f → kept_at (completions head past) tag ≡ Some it
    → condemnations test kinds (slots after) (completions new_head after)
    ≡ condemnations test kinds (slots past) (completions head past)
answered_left head new_head past after test kinds f tag it id status error lba count stamps same told apart here there =
    rw (same, told) (condemned_left test kinds f tag it (slots past) (completions head past) apart here there)

-- ---- a walk that asks for nothing beside the issues

one_or_none : (told : Option Act) (rest : List Act) → option_to_list told ++ rest ≡ cons_option told rest
one_or_none None rest = refl
one_or_none (Some act) rest = refl

pub walk_alone :
    {A : Type 0} (tell : Option InFlight → Option Act) (xs : List (Option InFlight)) (ys : List (Option A))
    → length xs ≤ length ys → each_told (alone tell) xs ys ≡ filter_map tell xs
walk_alone tell [] ys le = refl
walk_alone tell (x ∷ xs) [] le = absurd (omega arith)
walk_alone tell (x ∷ xs) (y ∷ ys) le =
    one_or_none (tell x) (each_told (alone tell) xs ys)
    ∙ ap (cons_option (tell x)) (walk_alone tell xs ys (omega arith))
