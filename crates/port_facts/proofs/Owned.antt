-- While recovery runs it owns each issue in flight.
use Rattle.std.proofs.Common.{◌≡◌, ◌∙◌, ℕ, ◌≤◌, ◌==◌, ◌||◌, ◌&&◌, not, ◌⊎◌, inl, inr, Bool, true, false, List, [], ◌∷◌, ◌++◌, Option, None, Some, option_map, length, refl, sym, subst, arith, if◌then◌else◌, ◌+◌}
use Rattle.std.proofs.lemmas.Bool.{eqb-true, eq-eqb}
use Rattle.ata_base.specs.declared.err_mask.ErrMask.{ErrMask}
use Rattle.ata_script.specs.declared.port_head.PortHead.{PortHead}
use Rattle.ata_trace.specs.Event.{Event, onto}
use Rattle.ata_trace.specs.Event.Event.{Told}
use Rattle.ata_trace.specs.declared.act.Act.{Act}
use Rattle.ata_trace.specs.declared.act.Act.TheVariants.{Issued, AnsweredOk, AnsweredFailed, AnsweredNodev, Retried, Condemned, Expired, Begun, Ended, Frozen, Requested}
use Rattle.host_tags.specs.Marks.{condemned, expired}
use Rattle.host_tags.specs.Numbers.{without, changed_by_number}
use Rattle.host_tags.specs.declared.in_flight.InFlight.{InFlight}
use Rattle.port_past.specs.Commands.{commands, place_of}
use Rattle.port_past.specs.Completions.{completions}
use Rattle.port_past.specs.PortState.{is_asked, is_running, is_frozen}
use Rattle.port_past.specs.Slots.{slots, fresh_flight}
use Rattle.port_past.specs.declared.completion.Completion.{Completion}
use Rattle.port_rules.specs.Sorting.{ok_act, ok_answers, condemnations}
use Rattle.port_rules.specs.Begin.{begin_acts, with_freeze, timed_out}
use Rattle.port_facts.specs.Allowed.{Allowed, AreAllowed}
use Rattle.port_facts.proofs.Blocks.{HoldsOf, is_named, named_append, block_onto, holds_each}
use Rattle.ata_base.proofs.Truth.{either_true, either_left, either_right}
use Rattle.ata_base.specs.Each.{Each}
use Rattle.host_tags.proofs.FlightLemmas.{each_without, each_changed, each_put}
use Rattle.port_past.proofs.LeavingSlots.{each_told}
use Rattle.port_facts.proofs.Plain.{IsPlain, ArePlain}
use Rattle.port_rules.specs.Told.{told_if}
use Rattle.port_past.proofs.Sizes.{length_slots, length_ends}
use Rattle.host_tags.specs.EachFlight.{AreOwned}
use Rattle.port_facts.specs.Reached.{IdleFree, RunsOwned}

-- ---- acts that begin no recovery

abbrev pub IsMild : Act → Type 0
IsMild Begun = ⊥
IsMild _ = Unit {0}

abbrev pub AreMild : List Act → Type 0
AreMild acts = Each IsMild acts

-- and neither condemn nor end one
abbrev pub IsSteady : Act → Type 0
IsSteady Begun = ⊥
IsSteady (Condemned number kinds) = ⊥
IsSteady Ended = ⊥
IsSteady _ = Unit {0}

abbrev pub AreSteady : List Act → Type 0
AreSteady [] = Unit {0}
AreSteady (act ∷ rest) = IsSteady act × AreSteady rest

mild_act : (act : Act) → IsSteady act → IsMild act
mild_act Begun steady = absurd steady
mild_act act steady = tt

pub steady_mild : (acts : List Act) → AreSteady acts → AreMild acts
steady_mild [] steady = tt
steady_mild (act ∷ rest) steady = (mild_act act steady.0, steady_mild rest steady.1)

steady_act : (act : Act) → IsPlain act → IsSteady act
steady_act Begun plain = absurd plain
steady_act (Condemned number kinds) plain = absurd plain
steady_act Ended plain = absurd plain
steady_act act plain = tt

pub plain_steady : (acts : List Act) → ArePlain acts → AreSteady acts
plain_steady [] plain = tt
plain_steady (act ∷ rest) plain = (steady_act act plain.0, plain_steady rest plain.1)

pub append_steady : (acts more : List Act) → AreSteady acts → AreSteady more → AreSteady (acts ++ more)
append_steady [] more first later = later
append_steady (act ∷ rest) more first later = (first.0, append_steady rest more first.1 later)

pub recovers_not : (asked runs : Bool) → (asked || runs) ≡ false → runs ≡ true → ⊥
recovers_not true runs is true_too = absurd (cc)
recovers_not false runs is true_too = absurd (cc)

owns_act :
    (head : PortHead) (past : List Event) (act : Act) → IsMild act → Allowed head (Told act) past → RunsOwned past
    → RunsOwned (Told act ∷ past)
owns_act head past Begun steady allowed owns runs = absurd steady
owns_act head past Ended steady allowed owns runs = absurd (cc)
owns_act head past (Issued id number tag deadline fis) steady allowed owns runs =
    absurd (recovers_not (is_asked past) (is_running past) allowed.open_gate.settled runs)
owns_act head past (AnsweredOk id number status error lba count stamps) steady allowed owns runs =
    each_without (λ f. f.owned ≡ true) number.n (slots past) (owns runs)
owns_act head past (AnsweredFailed id number kinds status error lba count) steady allowed owns runs =
    each_without (λ f. f.owned ≡ true) number.n (slots past) (owns runs)
owns_act head past (AnsweredNodev id number) steady allowed owns runs =
    each_told (λ f. f.owned ≡ true) number.n (slots past) (owns runs)
owns_act head past (Retried id number raised) steady allowed owns runs =
    each_without (λ f. f.owned ≡ true) number.n (slots past) (owns runs)
owns_act head past (Condemned number kinds) steady allowed owns runs =
    each_changed (λ f. f.owned ≡ true) (condemned kinds) number.n (slots past) (λ f is. refl) (owns runs)
owns_act head past (Expired id number) steady allowed owns runs =
    each_changed (λ f. f.owned ≡ true) expired number.n (slots past) (λ f is. is) (owns runs)
owns_act head past act steady allowed owns runs = owns runs

pub owns_onto :
    (head : PortHead) (past : List Event) (acts : List Act) → AreMild acts → AreAllowed head past acts → RunsOwned past
    → RunsOwned (onto past acts)
owns_onto head past [] steady allowed owns = owns
owns_onto head past (act ∷ rest) steady allowed owns =
    owns_onto head (Told act ∷ past) rest steady.1 allowed.1 (owns_act head past act steady.0 allowed.0 owns)

asks_not : (runs : Bool) → (true || runs) ≡ false → ⊥
asks_not runs is = absurd (cc)

frees_act :
    (head : PortHead) (past : List Event) (act : Act) → IsSteady act → IdleFree past → IdleFree (Told act ∷ past)
frees_act head past Begun steady free idle = absurd steady
frees_act head past Ended steady free idle = absurd steady
frees_act head past (Condemned number kinds) steady free idle = absurd steady
frees_act head past Requested steady free idle = absurd (asks_not (is_running past) idle)
frees_act head past (Issued id number tag deadline fis) steady free idle =
    each_put (λ f. f.owned ≡ false) tag (fresh_flight id number (place_of id (commands past)) deadline fis) (slots past) (free idle) refl
frees_act head past (AnsweredOk id number status error lba count stamps) steady free idle =
    each_without (λ f. f.owned ≡ false) number.n (slots past) (free idle)
frees_act head past (AnsweredFailed id number kinds status error lba count) steady free idle =
    each_without (λ f. f.owned ≡ false) number.n (slots past) (free idle)
frees_act head past (AnsweredNodev id number) steady free idle =
    each_told (λ f. f.owned ≡ false) number.n (slots past) (free idle)
frees_act head past (Retried id number raised) steady free idle =
    each_without (λ f. f.owned ≡ false) number.n (slots past) (free idle)
frees_act head past (Expired id number) steady free idle =
    each_changed (λ f. f.owned ≡ false) expired number.n (slots past) (λ f is. is) (free idle)
frees_act head past act steady free idle = free idle

pub frees_onto : (head : PortHead) (past : List Event) (acts : List Act) → AreSteady acts → IdleFree past → IdleFree (onto past acts)
frees_onto head past [] steady free = free
frees_onto head past (act ∷ rest) steady free =
    frees_onto head (Told act ∷ past) rest steady.1 (frees_act head past act steady.0 free)

asks_act : (past : List Event) (act : Act) → IsMild act → is_asked past ≡ true → is_asked (Told act ∷ past) ≡ true
asks_act past Begun mild asked = absurd mild
asks_act past Requested mild asked = refl
asks_act past act mild asked = asked

-- what is asked stays so
pub asks_onto : (past : List Event) (acts : List Act) → AreMild acts → is_asked past ≡ true → is_asked (onto past acts) ≡ true
asks_onto past [] mild asked = asked
asks_onto past (act ∷ rest) mild asked = asks_onto (Told act ∷ past) rest mild.1 (asks_act past act mild.0 asked)

-- ---- a recovery that begins answers or condemns each

-- the issue of this number, if it is in flight, is owned
abbrev IsTaken : ℕ → List (Option InFlight) → Type 0
IsTaken n slots = HoldsOf (λ f. f.owned ≡ true) n slots

-- whether an act takes the issue of this number
abbrev takes : ℕ → Act → Bool
takes n (AnsweredOk id number status error lba count stamps) = number.n == n
takes n (Condemned number kinds) = number.n == n
takes n _ = false

abbrev take_any : ℕ → List Act → Bool
take_any n acts = is_named takes n acts

-- the acts that a recovery begins with: answers, condemnations, a freeze
abbrev IsTaking : Act → Type 0
IsTaking (AnsweredOk id number status error lba count stamps) = Unit {0}
IsTaking (Condemned number kinds) = Unit {0}
IsTaking Frozen = Unit {0}
IsTaking _ = ⊥

abbrev AreTaking : List Act → Type 0
AreTaking acts = Each IsTaking acts

gone_by : (n : ℕ) (b : Bool) (f : InFlight) (rest : List (Option InFlight)) → (f.number.n == n) ≡ b → IsTaken n rest → IsTaken n ((if b then None else Some f) ∷ rest)
gone_by n true f rest is all = all
gone_by n false f rest is all = (λ same. absurd (cc (eq-eqb f.number.n n same, is)), all)

gone_taken : (n : ℕ) (slots : List (Option InFlight)) → IsTaken n (without n slots)
gone_taken n [] = tt
gone_taken n (None ∷ slots) = gone_taken n slots
gone_taken n (Some f ∷ slots) = gone_by n (f.number.n == n) f (without n slots) refl (gone_taken n slots)

blamed_by :
    (n : ℕ) (kinds : ErrMask) (b : Bool) (f : InFlight) (rest : List (Option InFlight)) → (f.number.n == n) ≡ b → IsTaken n rest
    → IsTaken n ((if b then option_map (condemned kinds) (Some f) else Some f) ∷ rest)
blamed_by n kinds true f rest is all = (λ same. refl, all)
blamed_by n kinds false f rest is all = (λ same. absurd (cc (eq-eqb f.number.n n same, is)), all)

blamed_taken : (n : ℕ) (kinds : ErrMask) (slots : List (Option InFlight)) → IsTaken n (changed_by_number (condemned kinds) n slots)
blamed_taken n kinds [] = tt
blamed_taken n kinds (None ∷ slots) = blamed_taken n kinds slots
blamed_taken n kinds (Some f ∷ slots) = blamed_by n kinds (f.number.n == n) f (changed_by_number (condemned kinds) n slots) refl (blamed_taken n kinds slots)

stays_taken : (n : ℕ) (past : List Event) (act : Act) → IsTaking act → IsTaken n (slots past) → IsTaken n (slots (Told act ∷ past))
stays_taken n past (AnsweredOk id number status error lba count stamps) taking was =
    each_without (λ f. f.number.n ≡ n → f.owned ≡ true) number.n (slots past) was
stays_taken n past (Condemned number kinds) taking was =
    each_changed (λ f. f.number.n ≡ n → f.owned ≡ true) (condemned kinds) number.n (slots past) (λ f is same. refl) was
stays_taken n past Frozen taking was = was
stays_taken n past act taking was = absurd taking

becomes_taken : (n : ℕ) (past : List Event) (act : Act) → takes n act ≡ true → IsTaken n (slots (Told act ∷ past))
becomes_taken n past (AnsweredOk id number status error lba count stamps) is =
    subst (λ m. IsTaken n (without m (slots past))) (sym (eqb-true number.n n is)) (gone_taken n (slots past))
becomes_taken n past (Condemned number kinds) is =
    subst (λ m. IsTaken n (changed_by_number (condemned kinds) m (slots past))) (sym (eqb-true number.n n is)) (blamed_taken n kinds (slots past))
becomes_taken n past act is = absurd (cc)

taking_append : (acts more : List Act) → AreTaking acts → AreTaking more → AreTaking (acts ++ more)
taking_append [] more first later = later
taking_append (act ∷ rest) more first later = (first.0, taking_append rest more first.1 later)

-- each issue in flight is owned, or answered, or condemned
abbrev IsCovered : ℕ → List Act → List Act → Type 0 → Type 0
IsCovered n told blamed owned = (take_any n told ≡ true) ⊎ ((take_any n blamed ≡ true) ⊎ owned)

covered_answer :
    (n : ℕ) (f : InFlight) (e : Completion) (told blamed : List Act) (slots : List (Option InFlight)) (owned same : Bool)
    → f.owned ≡ owned → (f.number.n == n) ≡ same → IsCovered n told blamed (IsTaken n slots)
    → IsCovered n (if owned then told else ok_act f e ∷ told) blamed (IsTaken n (Some f ∷ slots))
covered_answer n f e told blamed slots true same is number (inl told_one) = inl told_one
covered_answer n f e told blamed slots true same is number (inr (inl blamed_one)) = inr (inl blamed_one)
covered_answer n f e told blamed slots true same is number (inr (inr rest)) = inr (inr (λ e. is, rest))
covered_answer n f e told blamed slots false true is number rest = inl (rw number refl)
covered_answer n f e told blamed slots false false is number (inl told_one) = inl (rw number told_one)
covered_answer n f e told blamed slots false false is number (inr (inl blamed_one)) = inr (inl blamed_one)
covered_answer n f e told blamed slots false false is number (inr (inr rest)) =
    inr (inr (λ same. absurd (cc (eq-eqb f.number.n n same, number)), rest))

covered_blame :
    (n : ℕ) (f : InFlight) (kinds : ErrMask) (told blamed : List Act) (slots : List (Option InFlight)) (owned same : Bool)
    → f.owned ≡ owned → (f.number.n == n) ≡ same → IsCovered n told blamed (IsTaken n slots)
    → IsCovered n told (if not owned && true then Condemned f.number kinds ∷ blamed else blamed) (IsTaken n (Some f ∷ slots))
covered_blame n f kinds told blamed slots owned same is number (inl told_one) = inl told_one
covered_blame n f kinds told blamed slots true same is number (inr (inl blamed_one)) = inr (inl blamed_one)
covered_blame n f kinds told blamed slots true same is number (inr (inr rest)) = inr (inr (λ e. is, rest))
covered_blame n f kinds told blamed slots false true is number (inr rest) = inr (inl (rw number refl))
covered_blame n f kinds told blamed slots false false is number (inr (inl blamed_one)) = inr (inl (rw number blamed_one))
covered_blame n f kinds told blamed slots false false is number (inr (inr rest)) =
    inr (inr (λ same. absurd (cc (eq-eqb f.number.n n same, number)), rest))

covered :
    (n : ℕ) (kinds : ErrMask) (slots : List (Option InFlight)) (completions : List (Option Completion)) → length slots ≤ length completions
    → IsCovered n (ok_answers slots completions) (condemnations (λ f. true) kinds slots completions) (IsTaken n slots)
covered n kinds [] completions enough = inr (inr tt)
covered n kinds (slot ∷ slots) [] enough = absurd (omega (arith, enough))
covered n kinds (None ∷ slots) (e ∷ completions) enough = covered n kinds slots completions (omega (arith, enough))
covered n kinds (Some f ∷ slots) (Some e ∷ completions) enough =
    covered_answer n f e (ok_answers slots completions) (condemnations (λ f. true) kinds slots completions) slots f.owned (f.number.n == n) refl refl
    (covered n kinds slots completions (omega (arith, enough)))
covered n kinds (Some f ∷ slots) (None ∷ completions) enough =
    covered_blame n f kinds (ok_answers slots completions) (condemnations (λ f. true) kinds slots completions) slots f.owned (f.number.n == n) refl refl
    (covered n kinds slots completions (omega (arith, enough)))

answer_taking : (b : Bool) (f : InFlight) (e : Completion) (more : List Act) → AreTaking more → AreTaking (if b then more else ok_act f e ∷ more)
answer_taking true f e more taking = taking
answer_taking false f e more taking = (tt, taking)

answers_taking : (slots : List (Option InFlight)) (completions : List (Option Completion)) → AreTaking (ok_answers slots completions)
answers_taking [] completions = tt
answers_taking (None ∷ slots) [] = tt
answers_taking (Some f ∷ slots) [] = tt
answers_taking (None ∷ slots) (e ∷ completions) = answers_taking slots completions
answers_taking (Some f ∷ slots) (None ∷ completions) = answers_taking slots completions
answers_taking (Some f ∷ slots) (Some e ∷ completions) = answer_taking f.owned f e (ok_answers slots completions) (answers_taking slots completions)

blame_taking : (b : Bool) (f : InFlight) (kinds : ErrMask) (more : List Act) → AreTaking more → AreTaking (if b then Condemned f.number kinds ∷ more else more)
blame_taking true f kinds more taking = (tt, taking)
blame_taking false f kinds more taking = taking

blames_taking :
    (test : InFlight → Bool) (kinds : ErrMask) (slots : List (Option InFlight)) (completions : List (Option Completion))
    → AreTaking (condemnations test kinds slots completions)
blames_taking test kinds [] completions = tt
blames_taking test kinds (None ∷ slots) [] = tt
blames_taking test kinds (Some f ∷ slots) [] = tt
blames_taking test kinds (None ∷ slots) (e ∷ completions) = blames_taking test kinds slots completions
blames_taking test kinds (Some f ∷ slots) (Some e ∷ completions) = blames_taking test kinds slots completions
blames_taking test kinds (Some f ∷ slots) (None ∷ completions) =
    blame_taking (not f.owned && test f) f kinds (condemnations test kinds slots completions) (blames_taking test kinds slots completions)

frozen_taking : (b : Bool) → AreTaking (told_if b Frozen)
frozen_taking true = (tt, tt)
frozen_taking false = tt

freeze_taking : (frozen : Bool) (acts : List Act) → AreTaking acts → AreTaking (with_freeze frozen acts)
freeze_taking frozen [] taking = tt
freeze_taking frozen (act ∷ rest) taking = (taking.0, taking_append rest _ taking.1 (frozen_taking (not frozen)))

freeze_takes : (n : ℕ) (frozen : Bool) (acts : List Act) → take_any n acts ≡ true → take_any n (with_freeze frozen acts) ≡ true
freeze_takes n frozen [] is = is
freeze_takes n frozen (act ∷ rest) is =
    elim (either_true (takes n act) (take_any n rest) is) [
      | inl here ↦ either_left (takes n act) _ here
      | inr later ↦ either_right (takes n act) _ (named_append takes n rest (told_if (not frozen) Frozen) ∙ either_left (take_any n rest) _ later)
    ]

covers :
    (n : ℕ) (frozen : Bool) (told blamed : List Act) (slots : List (Option InFlight)) → IsCovered n told blamed (IsTaken n slots)
    → (take_any n (told ++ with_freeze frozen blamed) ≡ true) ⊎ IsTaken n slots
covers n frozen told blamed slots (inl told_one) =
    inl (named_append takes n told (with_freeze frozen blamed) ∙ either_left (take_any n told) _ told_one)
covers n frozen told blamed slots (inr (inl blamed_one)) =
    inl (named_append takes n told (with_freeze frozen blamed) ∙ either_right (take_any n told) _ (freeze_takes n frozen blamed blamed_one))
covers n frozen told blamed slots (inr (inr rest)) = inr rest

-- after a recovery has begun each issue in flight is owned
pub begin_owns :
    (head : PortHead) (past p : List Event) → slots p ≡ slots past → AreOwned (slots (onto p (begin_acts head past)))
begin_owns head past p same =
    let told = ok_answers (slots past) (completions head past) in
    let blamed = condemnations (λ f. true) timed_out (slots past) (completions head past) in
    let acts = told ++ with_freeze (is_frozen past) blamed in
    let taking : AreTaking acts = taking_append told _ (answers_taking (slots past) (completions head past))
    (freeze_taking (is_frozen past) blamed (blames_taking (λ f. true) timed_out (slots past) (completions head past))) in
    holds_each (λ f. f.owned ≡ true) (slots (onto (Told Begun ∷ p) acts))
    (λ n. block_onto (λ f. f.owned ≡ true) IsTaking takes stays_taken becomes_taken n (Told Begun ∷ p) acts taking
    (subst (λ s. (take_any n acts ≡ true) ⊎ IsTaken n s) (sym same)
    (covers n (is_frozen past) told blamed (slots past)
    (covered n timed_out (slots past) (completions head past) (omega (arith, length_slots past, length_ends head past))))))

runs_act : (past : List Event) (act : Act) → IsTaking act → is_running past ≡ true → is_running (Told act ∷ past) ≡ true
runs_act past (AnsweredOk id number status error lba count stamps) taking runs = runs
runs_act past (Condemned number kinds) taking runs = runs
runs_act past Frozen taking runs = runs
runs_act past act taking runs = absurd taking

runs_onto : (past : List Event) (acts : List Act) → AreTaking acts → is_running past ≡ true → is_running (onto past acts) ≡ true
runs_onto past [] taking runs = runs
runs_onto past (act ∷ rest) taking runs = runs_onto (Told act ∷ past) rest taking.1 (runs_act past act taking.0 runs)

-- and it runs
pub begin_runs : (head : PortHead) (past p : List Event) → is_running (onto p (begin_acts head past)) ≡ true
begin_runs head past p =
    let told = ok_answers (slots past) (completions head past) in
    let blamed = condemnations (λ f. true) timed_out (slots past) (completions head past) in
    runs_onto (Told Begun ∷ p) (told ++ with_freeze (is_frozen past) blamed)
    (taking_append told _ (answers_taking (slots past) (completions head past))
    (freeze_taking (is_frozen past) blamed (blames_taking (λ f. true) timed_out (slots past) (completions head past)))) refl

pub if_steady : (b : Bool) (acts more : List Act) → AreSteady acts → AreSteady more → AreSteady (if b then acts else more)
if_steady true acts more first other = first
if_steady false acts more first other = other
