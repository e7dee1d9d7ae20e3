-- Once or live: the balance of a command's acceptances and answers.
use Rattle.std.proofs.Common.{◌≡◌, ◌∙◌, ℕ, ◌+◌, ◌<◌, ◌≤◌, Bool, true, false, ◌||◌, ◌==◌, ◌⊎◌, inl, inr, List, [], ◌∷◌, ◌++◌, map, cond, Option, None, Some, option_map, option_to_list, drop, slice_index, refl, sym, ap, subst, arith, if◌then◌else◌}
use Rattle.std.specs.List.{count_by, sum_by}
use Rattle.std.proofs.lemmas.Bool.{eqb-true, eq-eqb, ne_eqb}
use Rattle.std.proofs.lemmas.List.Folds.{list_any-append}
use Rattle.std.proofs.lemmas.List.Sums.{sum_by_push}
use Rattle.ata_base.specs.declared.cmd.Cmd.{Cmd}
use Rattle.ata_base.specs.declared.issue_no.IssueNo.{IssueNo}
use Rattle.ata_script.specs.declared.port_head.PortHead.{PortHead}
use Rattle.ata_trace.specs.Event.{Event}
use Rattle.ata_trace.specs.Event.Event.{Told}
use Rattle.ata_trace.specs.declared.act.Act.TheVariants.{Accepted, Issued, AnsweredOk, AnsweredFailed, AnsweredNodev, Retried, Condemned, Expired, Ended}
use Rattle.host_queue.specs.Waiting.{waiting_at, without_front}
use Rattle.host_tags.specs.Marks.{condemned, expired}
use Rattle.host_tags.specs.Numbers.{without}
use Rattle.host_tags.specs.Slots.{flight_at, put}
use Rattle.host_tags.specs.declared.in_flight.InFlight.{InFlight}
use Rattle.port_past.specs.Answers.{issue_told}
use Rattle.port_past.specs.Commands.{commands, command_of, place_of, is_accepted, submitted, counted}
use Rattle.port_past.specs.Attachment.{detachments}
use Rattle.port_past.specs.Issues.{issue_count}
use Rattle.port_past.specs.Live.{live, but_answered}
use Rattle.port_past.specs.Queues.{queues, retried, with_submitted}
use Rattle.port_past.specs.Slots.{slots, fresh_flight, without_left}
use Rattle.port_past.specs.Steps.{last_step}
use Rattle.port_facts.specs.Once.{acceptances, answers, lives, is_issue_of, flights, waits, returns, one_if, IsOnceOrLive}
use Rattle.port_facts.specs.Allowed.{IsFront, Flies, MayAccept, IsUnissued, IsAllowed}
use Rattle.port_facts.proofs.Counts.{count_slot, count_changed, count_queue, count_joined, count_served, count_returned, count_left, count_other}
use Rattle.host_tags.proofs.FlightLemmas.{each_at}
use Rattle.host_tags.proofs.NumberLemmas.{without_fresh}
use Rattle.port_past.proofs.LeavingSlots.{told_leaves}
use Rattle.port_facts.proofs.Known.{IsCopy, are_known, place_of_device, standing_within}
use Rattle.port_past.proofs.KnownCommands.{found_id}
use Rattle.ata_base.specs.Each.{Each}
use Rattle.port_facts.proofs.Numbered.{IsNumber, are_numbered, leaves, fresh_zero}
use Rattle.port_past.proofs.Sizes.{length_slots, length_queues, flight_within, front_within}

neither : (x y : Bool) → (x || (y || false)) ≡ false → (x ≡ false) × (y ≡ false)
neither true y none = absurd (cc)
neither false true none = absurd (cc)
neither false false none = (refl, refl)

-- ---- acceptances

accepted_is : (id : ℕ) (past : List Event) (m : MayAccept id past)
    → submitted id (last_step past) (detachments past)
    ≡ Some (record { id = id; place = m.place; op = m.op; allow = m.allow; retries = 0; wait = record { n = m.wait }; attachment = slice_index (detachments past) m.place })
accepted_is id past m = ap (λ s. submitted id s (detachments past)) m.asked

any_counted_by : (id : ℕ) (b raised : Bool) (c : Cmd) → ((if b then counted raised c else c).id == id) ≡ (c.id == id)
any_counted_by id true raised c = refl
any_counted_by id false raised c = refl

any_counted : (other id : ℕ) (raised : Bool) (was : List Cmd)
    → is_accepted id (map (λ c. if c.id == other then counted raised c else c) was) ≡ is_accepted id was
any_counted other id raised [] = refl
any_counted other id raised (c ∷ was) =
    rw (any_counted_by id (c.id == other) raised c, any_counted other id raised was) refl

-- a command that isn't among the accepted has no acceptance
unaccepted : (head : PortHead) (id : ℕ) (past : List Event) → IsAllowed head past → is_accepted id (commands past) ≡ false → acceptances id past ≡ 0
unaccepted head id [] h none = refl
unaccepted head id (Told (Accepted c) ∷ past) h none =
    let apart : (is_accepted id (commands past) ≡ false) × ((c == id) ≡ false) = neither _ (c == id) (sym (ap (λ x. is_accepted id (commands past ++ option_to_list x)) (accepted_is c past h.0)
    ∙ list_any-append (λ (x : Cmd). x.id == id) (commands past) _) ∙ none) in
    rw apart.1 (omega (arith, unaccepted head id past h.1 apart.0))
unaccepted head id (Told (Retried c number raised) ∷ past) h none =
    unaccepted head id past h.1 (sym (any_counted c id raised (commands past)) ∙ none)
unaccepted head id (event ∷ past) h none = unaccepted head id past h.1 none

once_more : (same : Bool) (n : ℕ) → n ≤ 1 → (same ≡ true → n ≡ 0) → n + one_if same ≤ 1
once_more true n most none = omega (arith, none refl)
once_more false n most none = omega (arith, most)

new_number : (head : PortHead) (c id : ℕ) (past : List Event) → IsAllowed head past → is_accepted c (commands past) ≡ false → (c == id) ≡ true → acceptances id past ≡ 0
new_number head c id past h fresh same =
    unaccepted head id past h (subst (λ n. is_accepted n (commands past) ≡ false) (eqb-true c id same) fresh)

pub accepted_once : (head : PortHead) (id : ℕ) (past : List Event) → IsAllowed head past → acceptances id past ≤ 1
accepted_once head id [] h = omega arith
accepted_once head id (Told (Accepted c) ∷ past) h =
    once_more (c == id) (acceptances id past) (accepted_once head id past h.1) (new_number head c id past h.1 h.0.fresh)
accepted_once head id (event ∷ past) h = accepted_once head id past h.1

-- ---- answers, flights, waits and what is given back

-- an accepted command waits
joins_waits :
    (id c : ℕ) (past : List Event) → MayAccept c past
    → sum_by (count_by (λ x. x.id == id)) (with_submitted (submitted c (last_step past) (detachments past)) (queues past))
    ≡ waits id past + one_if (c == id)
joins_waits id c past m =
    let p : Cmd → Bool = λ x. x.id == id in
    let cmd : Cmd = record { id = c; place = m.place; op = m.op; allow = m.allow; retries = 0; wait = record { n = m.wait }; attachment = slice_index (detachments past) m.place } in
    let was = waiting_at (queues past) m.place in
    let step = ap (λ s. sum_by (count_by p) (with_submitted s (queues past))) (accepted_is c past m) in
    let set = count_queue p (queues past) m.place (was ++ cmd ∷ []) (omega (arith, length_queues past, m.within)) in
    omega (arith, step, set, count_joined p was cmd)

-- a front that leaves waits no more
serves_waits :
    (id c : ℕ) (past : List Event) → IsFront c past
    → sum_by (count_by (λ x. x.id == id)) (without_front (place_of c (commands past)) (queues past)) + one_if (c == id)
    ≡ waits id past
serves_waits id c past m =
    let p : Cmd → Bool = λ x. x.id == id in
    let was = waiting_at (queues past) m.front.place in
    let at = ap (λ x. sum_by (count_by p) (without_front x (queues past))) (place_of_device c (commands past) _ m.stands) in
    let set = count_queue p (queues past) m.front.place (drop 1 was) (front_within (queues past) m.front.place m.front m.waiting) in
    let left = count_served p was m.front m.waiting in
    let same = ap (λ x. one_if (x == id)) m.same in
    omega (arith, at, set, left, same)

-- its issue flies
flies_flights :
    (id c tag : ℕ) (past : List Event) (f : InFlight) → f.id ≡ c → tag < 32 → flight_at (slots past) tag ≡ None
    → count_by (is_issue_of id) (put tag f (slots past)) ≡ flights id past + one_if (c == id)
flies_flights id c tag past f same within free =
    let set = count_slot (is_issue_of id) (slots past) tag (Some f) (omega (arith, within, length_slots past)) in
    let none = ap (λ slot. one_if (is_issue_of id slot)) free in
    let is = ap (λ x. one_if (x == id)) same in
    omega (arith, set, none, is)

-- an issue that leaves flies no more
leaves_flights :
    (head : PortHead) (id c : ℕ) (number : IssueNo) (past : List Event) → IsAllowed head past → Flies c number past
    → count_by (is_issue_of id) (without number.n (slots past)) + one_if (c == id) ≡ flights id past
leaves_flights head id c number past h f =
    let left = ap (count_by (is_issue_of id)) (leaves head past h c number f) in
    let set = count_slot (is_issue_of id) (slots past) f.tag None (flight_within (slots past) f.tag f.flight f.here) in
    let one = ap (λ slot. one_if (is_issue_of id slot)) f.here in
    let is = ap (λ x. one_if (x == id)) f.same in
    omega (arith, left, set, one, is)

flown_number :
    (head : PortHead) (past : List Event) → IsAllowed head past → (c : ℕ) (number : IssueNo) → Flies c number past
    → (number.n == 0) ≡ false
flown_number head past h c number f =
    let is = each_at (IsNumber (issue_count past)) (slots past) f.tag f.flight (are_numbered head past h).numbers f.here in
    ne_eqb number.n 0 (λ e. omega (arith, is.0, e, ap (λ x. x.n) f.numbered))

loses :
    (head : PortHead) (id c : ℕ) (number : IssueNo) (past : List Event) → IsAllowed head past → IsUnissued c number past ⊎ Flies c number past
    → count_by (is_issue_of id) (without number.n (slots past))
    + sum_by (count_by (λ x. x.id == id)) (if number.n == 0 then without_front (place_of c (commands past)) (queues past) else queues past)
    + one_if (c == id)
    ≡ flights id past + waits id past
loses head id c number past h (inl unissued) =
    let none : (number.n == 0) ≡ true = eq-eqb number.n 0 unissued.none in
    let stays : without number.n (slots past) ≡ slots past =
    subst (λ n. without n (slots past) ≡ slots past) (sym unissued.none) (without_fresh 0 (slots past) (fresh_zero head past h)) in
    rw (none, stays) (omega (arith, serves_waits id c past unissued.is_front))
loses head id c number past h (inr f) =
    let numbered : (number.n == 0) ≡ false = flown_number head past h c number f in
    rw numbered (omega (arith, leaves_flights head id c number past h f))

told_flights :
    (head : PortHead) (id n : ℕ) (past : List Event) → IsAllowed head past
    → count_by (is_issue_of id) (without_left (issue_told n) (slots past)) ≡ count_by (is_issue_of id) (without n (slots past))
told_flights head id n past h = ap (count_by (is_issue_of id)) (told_leaves n (slots past) (fresh_zero head past h))

-- what is retried is given back
back_returns :
    (id c : ℕ) (raised : Bool) (past : List Event) (d : Cmd) → command_of c (commands past) ≡ Some d
    → count_by (λ x. x.id == id) (retried past ++ option_to_list (option_map (counted raised) (command_of c (commands past))))
    ≡ returns id past + one_if (c == id)
back_returns id c raised past d is =
    let same = ap (λ x. one_if (x == id)) (found_id c (commands past) d is) in
    rw is (omega (arith, count_joined (λ x. x.id == id) (retried past) (counted raised d), same))

unseen_mark :
    (id : ℕ) (change : InFlight → InFlight) → ((f : InFlight) → (change f).id ≡ f.id) → (slot : Option InFlight)
    → is_issue_of id (option_map change slot) ≡ is_issue_of id slot
unseen_mark id change keeps None = refl
unseen_mark id change keeps (Some f) = ap (λ c. c == id) (keeps f)

-- what is given back is accepted, and so has a place
copies_within :
    (known : List Cmd) → Each (λ c. c.place < 15) known → (back : List Cmd) → Each (IsCopy known) back → Each (λ c. c.place < 15) back
copies_within known places [] copies = tt
copies_within known places (c ∷ back) copies = (standing_within 15 known places c.id c.place c.attachment copies.0, copies_within known places back copies.1)

places_back : (head : PortHead) (past : List Event) → IsAllowed head past → Each (λ c. c.place < 15) (retried past)
places_back head past h =
    let known = are_known head past h in copies_within (commands past) known.places (retried past) known.returned

-- one more where the test holds
more_if : (b : Bool) (n : ℕ) → cond b (n + 1) n ≡ n + one_if b
more_if true n = refl
more_if false n = omega arith

pub answered_or_here :
    (head : PortHead) (id : ℕ) (past : List Event) → IsAllowed head past
    → answers id past + flights id past + waits id past + returns id past ≡ acceptances id past
answered_or_here head id [] h = refl
answered_or_here head id (Told (Accepted c) ∷ past) h =
    omega (arith, answered_or_here head id past h.1, joins_waits id c past h.0)
answered_or_here head id (Told (Issued c number tag deadline fis) ∷ past) h =
    let f : InFlight = fresh_flight c number (place_of c (commands past)) deadline fis in
    let more = flies_flights id c tag past f refl h.0.within h.0.free in
    omega (arith, answered_or_here head id past h.1, more, serves_waits id c past h.0.is_front)
answered_or_here head id (Told (AnsweredOk c number status error lba count stamps) ∷ past) h =
    omega (arith, answered_or_here head id past h.1, leaves_flights head id c number past h.1 h.0.flies, more_if (c == id) (answers id past))
answered_or_here head id (Told (AnsweredFailed c number kinds status error lba count) ∷ past) h =
    omega (arith, answered_or_here head id past h.1, leaves_flights head id c number past h.1 h.0.finish.flies, more_if (c == id) (answers id past))
answered_or_here head id (Told (AnsweredNodev c number) ∷ past) h =
    omega (arith, answered_or_here head id past h.1, loses head id c number past h.1 h.0.here, told_flights head id number.n past h.1, more_if (c == id) (answers id past))
answered_or_here head id (Told (Retried c number raised) ∷ past) h =
    let finish = h.0.finish in
    omega (
      arith,
      answered_or_here head id past h.1,
      leaves_flights head id c number past h.1 finish.flies,
      back_returns id c raised past h.0.command finish.known,
    )
answered_or_here head id (Told (Condemned number kinds) ∷ past) h =
    let same = count_changed (is_issue_of id) (condemned kinds) (unseen_mark id (condemned kinds) (λ f. refl)) number.n (slots past) in
    omega (arith, answered_or_here head id past h.1, same)
answered_or_here head id (Told (Expired c number) ∷ past) h =
    let same = count_changed (is_issue_of id) expired (unseen_mark id expired (λ f. refl)) number.n (slots past) in
    omega (arith, answered_or_here head id past h.1, same)
answered_or_here head id (Told Ended ∷ past) h =
    let back = count_returned (λ c. c.id == id) (retried past) (queues past) (places_back head past h.1) (length_queues past) in
    omega (arith, answered_or_here head id past h.1, back)
answered_or_here head id (event ∷ past) h = answered_or_here head id past h.1

-- ---- answers and the live

live_less :
    (c id a n : ℕ) (numbers : List ℕ) (same : Bool) → (c == id) ≡ same → a + count_by (λ x. x == id) numbers ≡ n
    → (same ≡ true → (a ≡ 0) × (n ≡ 1))
    → cond same (a + 1) a + count_by (λ x. x == id) (but_answered (Some c) numbers) ≡ n
live_less c id a n numbers true is balance here =
    omega (arith, (here refl).0, (here refl).1, count_left c id numbers is)
live_less c id a n numbers false is balance here = omega (arith, balance, count_other c id numbers is)

-- a command that waits or flies isn't answered yet
unanswered :
    (head : PortHead) (id c m : ℕ) (past : List Event) → IsAllowed head past
    → m + one_if (c == id) ≤ flights id past + waits id past → (c == id) ≡ true
    → (answers id past ≡ 0) × (acceptances id past ≡ 1)
unanswered head id c m past h some same =
    let one = ap one_if same in
    let balance = answered_or_here head id past h in
    let most = accepted_once head id past h in
    (omega (arith, some, one, balance, most), omega (arith, some, one, balance, most))

answer_live :
    (head : PortHead) (id c m : ℕ) (past : List Event) → IsAllowed head past
    → m + one_if (c == id) ≤ flights id past + waits id past
    → answers id past + lives id past ≡ acceptances id past
    → cond (c == id) (answers id past + 1) (answers id past) + count_by (λ n. n == id) (but_answered (Some c) (live past))
    ≡ acceptances id past
answer_live head id c m past h some was =
    live_less c id (answers id past) (acceptances id past) (live past) (c == id) refl was (unanswered head id c m past h some)

pub answered_or_live :
    (head : PortHead) (id : ℕ) (past : List Event) → IsAllowed head past
    → answers id past + lives id past ≡ acceptances id past
answered_or_live head id [] h = refl
answered_or_live head id (Told (Accepted c) ∷ past) h =
    omega (arith, sum_by_push (λ n. one_if (n == id)) (live past) c, answered_or_live head id past h.1)
answered_or_live head id (Told (AnsweredOk c number status error lba count stamps) ∷ past) h =
    answer_live head id c (count_by (is_issue_of id) (without number.n (slots past))) past h.1
    (omega (arith, leaves_flights head id c number past h.1 h.0.flies)) (answered_or_live head id past h.1)
answered_or_live head id (Told (AnsweredFailed c number kinds status error lba count) ∷ past) h =
    answer_live head id c (count_by (is_issue_of id) (without number.n (slots past))) past h.1
    (omega (arith, leaves_flights head id c number past h.1 h.0.finish.flies)) (answered_or_live head id past h.1)
answered_or_live head id (Told (AnsweredNodev c number) ∷ past) h =
    answer_live head id c 0 past h.1
    (omega (arith, loses head id c number past h.1 h.0.here)) (answered_or_live head id past h.1)
answered_or_live head id (event ∷ past) h = answered_or_live head id past h.1

-- each command is answered once or live
pub once_or_live : (head : PortHead) (past : List Event) → IsAllowed head past → (id : ℕ) → IsOnceOrLive id past
once_or_live head past h id =
    let once = accepted_once head id past h in
    let balance = answered_or_here head id past h in
    record {
      accepted_once = once;
      answered_or_live = answered_or_live head id past h;
      answered_or_here = balance;
      one_issue = omega (arith, once, balance);
    }
