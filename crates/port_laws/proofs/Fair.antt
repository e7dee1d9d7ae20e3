-- What each accepted command has had: its retries, and the counts of its place.
use Rattle.std.proofs.Common.{◌≡◌, ◌≢◌, ◌∙◌, ℕ, ◌+◌, ◌<◌, ◌≤◌, ◌==◌, ◌||◌, ◌&&◌, not, cond, nat_le, Bool, true, false, List, [], ◌∷◌, map, Option, None, Some, option_map, option_to_list, suc, zero, length, slice_index, refl, sym, ap, subst, arith, if◌then◌else◌}
use Rattle.std.specs.Option.{option_map_or, option_or}
use Rattle.std.proofs.lemmas.Bool.{eqb-true, eq-eqb, ne_eqb, eqb-false, leb-true}
use Rattle.std.proofs.lemmas.List.Folds.{find-append}
use Rattle.ata_base.specs.declared.cmd.Cmd.{Cmd}
use Rattle.ata_base.specs.declared.issue_no.IssueNo.{IssueNo}
use Rattle.ata_script.specs.declared.port_head.PortHead.{PortHead}
use Rattle.ata_trace.specs.Event.{Event}
use Rattle.ata_trace.specs.Event.Event.{Told}
use Rattle.ata_trace.specs.declared.act.Act.TheVariants.{Accepted, Retried, Detached, Disabled}
use Rattle.port_past.specs.Commands.{commands, command_of, place_of, is_accepted, submitted, counted, is_gone}
use Rattle.port_past.specs.Attachment.{detachments}
use Rattle.port_past.specs.Places.{changed_at}
use Rattle.port_past.specs.Steps.{last_step}
use Rattle.port_laws.specs.Statuses.{costs, has_gone}
use Rattle.port_facts.specs.Allowed.{IsAllowed, MayAccept, MayRetry}
use Rattle.port_facts.proofs.Known.{are_known, standing_within}
use Rattle.port_past.proofs.KnownCommands.{found_id, not_found}
use Rattle.port_past.proofs.PlaceSizes.{length_detachments}
use Rattle.ata_base.proofs.Truth.{equal_either_way, or_none, or_true}

-- ---- one more at a place

index_here : (x : ℕ) (xs : List ℕ) → x < length xs → slice_index (changed_at x (λ n. n + 1) xs) x ≡ slice_index xs x + 1
index_here x [] within = absurd (omega (arith, within))
index_here zero (y ∷ xs) within = refl
index_here (suc x) (y ∷ xs) within = index_here x xs (omega (arith, within))

index_other : (x y : ℕ) (xs : List ℕ) → x ≢ y → slice_index (changed_at x (λ n. n + 1) xs) y ≡ slice_index xs y
index_other x y [] other = refl
index_other zero zero (z ∷ xs) other = absurd (other refl)
index_other zero (suc y) (z ∷ xs) other = refl
index_other (suc x) zero (z ∷ xs) other = refl
index_other (suc x) (suc y) (z ∷ xs) other = index_other x y xs (λ e. other (ap suc e))

-- ---- commands found

if_id : (id : ℕ) (b raised : Bool) (c : Cmd) → ((if b then counted raised c else c).id == id) ≡ (c.id == id)
if_id id true raised c = refl
if_id id false raised c = refl

mapped_by :
    {A : Type 0} (f : A → A) (here : Bool) (c : A) (rest was : Option A) → rest ≡ option_map f was
    → cond here (Some (f c)) rest ≡ option_map f (cond here (Some c) was)
mapped_by f true c rest was is = refl
mapped_by f false c rest was is = is

abbrev recount : ℕ → Bool → Cmd → Cmd
recount other raised c = if c.id == other then counted raised c else c

found_mapped :
    (other id : ℕ) (raised : Bool) (was : List Cmd)
    → command_of id (map (recount other raised) was) ≡ option_map (recount other raised) (command_of id was)
found_mapped other id raised [] = refl
found_mapped other id raised (c ∷ was) =
    ap (λ b. cond b (Some (recount other raised c)) (command_of id (map (recount other raised) was))) (if_id id (c.id == other) raised c)
    ∙ mapped_by (recount other raised) (c.id == id) c _ (command_of id was) (found_mapped other id raised was)

accepted_by : (here : Bool) (c : Cmd) (rest : Option Cmd) (any : Bool) → cond here (Some c) rest ≡ None → (rest ≡ None → any ≡ false) → (here || any) ≡ false
accepted_by true c rest any is none = absurd (cc)
accepted_by false c rest any is none = none is

unaccepted : (id : ℕ) (was : List Cmd) → command_of id was ≡ None → is_accepted id was ≡ false
unaccepted id [] is = refl
unaccepted id (c ∷ was) is = accepted_by (c.id == id) c (command_of id was) (is_accepted id was) is (unaccepted id was)

-- ---- fair commands

-- a command has had no more retries at its cost than it was allowed, and is gone where its place parted since
pub record IsFair (spent : ℕ) (parted : Bool) (parts : List ℕ) (c : Cmd) : Type 0 where
  pub within : c.retries ≤ c.allow
  pub paid : c.retries ≡ spent
  pub earlier : c.attachment ≤ slice_index parts c.place
  pub gone : parted ≡ is_gone c parts

none_before : (found other : Option Cmd) → option_or found other ≡ None → found ≡ None
none_before None other is = refl
none_before (Some c) other is = absurd (cc)

none_mapped : (f : Cmd → Cmd) (found : Option Cmd) → option_map f found ≡ None → found ≡ None
none_mapped f None is = refl
none_mapped f (Some c) is = absurd (cc)

none_spent_by : (same raised : Bool) (n : ℕ) → same ≡ false → n ≡ 0 → (if same then (if raised then n else n + 1) else n) ≡ 0
none_spent_by true raised n is none = absurd (cc)
none_spent_by false raised n is none = none

-- a command that wasn't accepted had no retry
none_spent : (head : PortHead) (id : ℕ) (past : List Event) → IsAllowed head past → command_of id (commands past) ≡ None → costs id past ≡ 0
none_spent head id [] h none = refl
none_spent head id (Told (Accepted c) ∷ past) h none =
    none_spent head id past h.1
    (none_before (command_of id (commands past)) (command_of id (option_to_list (submitted c (last_step past) (detachments past))))
    (sym (find-append (λ x. x.id == id) (commands past) _) ∙ none))
none_spent head id (Told (Retried c number raised) ∷ past) h none =
    let before : command_of id (commands past) ≡ None =
    none_mapped (recount c raised) (command_of id (commands past)) (sym (found_mapped c id raised (commands past)) ∙ none) in
    none_spent_by (c == id) raised (costs id past)
    (ne_eqb c id (λ e. absurd (cc (h.0.finish.known, before, e))))
    (none_spent head id past h.1 before)
none_spent head id (event ∷ past) h none = none_spent head id past h.1 none

gone_new : (parts : List ℕ) (c : Cmd) → c.attachment ≡ slice_index parts c.place → false ≡ is_gone c parts
gone_new parts c is = rw (eq-eqb (slice_index parts c.place) c.attachment (sym is)) refl

not_same : (same was : Bool) → same ≡ false → (if same then false else was) ≡ was
not_same true was is = absurd (cc)
not_same false was is = refl

new_fair :
    (same : Bool) (new c : Cmd) (spent : ℕ) (parted : Bool) (parts : List ℕ) → cond same (Some new) None ≡ Some c → spent ≡ 0
    → new.retries ≡ 0 → new.attachment ≡ slice_index parts new.place → 0 ≤ new.allow
    → IsFair spent (if same then false else parted) parts c
new_fair false new c spent parted parts is none unused placed enough = absurd (cc)
new_fair true new c spent parted parts is none unused placed enough =
    let alike : new ≡ c = cc in
    subst (IsFair spent false parts) alike
    (record { within = omega (arith, unused); paid = unused ∙ sym none; earlier = omega (arith, placed); gone = gone_new parts new placed })

accepts_by :
    (head : PortHead) (past : List Event) (id x : ℕ) (c : Cmd) (found : Option Cmd) → IsAllowed head past → (m : MayAccept x past)
    → command_of id (commands past) ≡ found
    → option_or found (command_of id (option_to_list (submitted x (last_step past) (detachments past)))) ≡ Some c
    → ((d : Cmd) → command_of id (commands past) ≡ Some d → IsFair (costs id past) (has_gone id past) (detachments past) d)
    → IsFair (costs id past) (if x == id then false else has_gone id past) (detachments past) c
accepts_by head past id x c (Some d) h m found is was =
    let other : (x == id) ≡ false = ne_eqb x id (λ e. absurd (cc (found, subst (λ n. command_of n (commands past) ≡ None) e (not_found x (commands past) m.fresh)))) in
    let fair = was c (found ∙ is) in
    record { within = fair.within; paid = fair.paid; earlier = fair.earlier; gone = not_same (x == id) (has_gone id past) other ∙ fair.gone }
accepts_by head past id x c None h m found is was =
    let new : Cmd = record { id = x; place = m.place; op = m.op; allow = m.allow; retries = 0; wait = record { n = m.wait }; attachment = slice_index (detachments past) m.place } in
    let sub : submitted x (last_step past) (detachments past) ≡ Some new = ap (λ s. submitted x s (detachments past)) m.asked in
    let got : cond (x == id) (Some new) None ≡ Some c = sym (ap (λ s. command_of id (option_to_list s)) sub) ∙ is in
    new_fair (x == id) new c (costs id past) (has_gone id past) (detachments past) got (none_spent head id past h found) refl refl (omega arith)

counted_fair :
    (b same raised : Bool) (d : Cmd) (spent : ℕ) (parted : Bool) (parts : List ℕ) → b ≡ same
    → (same ≡ true → raised ≡ false → d.retries + 1 ≤ d.allow) → IsFair spent parted parts d
    → IsFair (if same then (if raised then spent else spent + 1) else spent) parted parts (if b then counted raised d else d)
counted_fair true true true d spent parted parts e cost is =
    record { within = is.within; paid = is.paid; earlier = is.earlier; gone = is.gone }
counted_fair true true false d spent parted parts e cost is =
    record { within = cost refl refl; paid = omega (arith, is.paid); earlier = is.earlier; gone = is.gone }
counted_fair true false raised d spent parted parts e cost is = absurd (cc)
counted_fair false true raised d spent parted parts e cost is = absurd (cc)
counted_fair false false raised d spent parted parts e cost is = is

costly : (e w : Bool) (r a : ℕ) → ((e || w) && nat_le (r + 1) (if e then a + 1 else a)) ≡ true → e ≡ false → r + 1 ≤ a
costly true w r a is none = absurd (cc)
costly false true r a is none = leb-true (r + 1) a is
costly false false r a is none = absurd (cc)

retry_within :
    {x : ℕ} {number : IssueNo} {raised : Bool} {past : List Event} (m : MayRetry x number raised past) (d : Cmd)
    → command_of x (commands past) ≡ Some d → raised ≡ false → d.retries + 1 ≤ d.allow
retry_within m d found cost =
    let same : m.command ≡ d = cc (m.finish.known, found) in
    subst (λ c. c.retries + 1 ≤ c.allow) same
    (costly (m.judgement.kinds.0 == 0) _ m.command.retries m.command.allow m.again (m.raises ∙ cost))

retries_by :
    (head : PortHead) (past : List Event) (id x : ℕ) (number : IssueNo) (raised : Bool) (c : Cmd) (found : Option Cmd) → MayRetry x number raised past
    → command_of id (commands past) ≡ found → option_map (recount x raised) found ≡ Some c
    → ((d : Cmd) → command_of id (commands past) ≡ Some d → IsFair (costs id past) (has_gone id past) (detachments past) d)
    → IsFair (if x == id then (if raised then costs id past else costs id past + 1) else costs id past) (has_gone id past) (detachments past) c
retries_by head past id x number raised c None m found is was = absurd (cc)
retries_by head past id x number raised c (Some d) m found is was =
    let same : recount x raised d ≡ c = cc in
    let alike : d.id ≡ id = found_id id (commands past) d found in
    subst (IsFair (if x == id then (if raised then costs id past else costs id past + 1) else costs id past) (has_gone id past) (detachments past)) same
    (counted_fair (d.id == x) (x == id) raised d (costs id past) (has_gone id past) (detachments past)
    (ap (λ n. n == x) alike ∙ equal_either_way id x)
    (λ so cost. retry_within m d (subst (λ n. command_of n (commands past) ≡ Some d) (sym (eqb-true x id so)) found) cost)
    (was d found))

parts_more :
    (x : ℕ) (c : Cmd) (parted : Bool) (spent : ℕ) (parts : List ℕ) (same : Bool) → (x == c.place) ≡ same → c.place < length parts
    → IsFair spent parted parts c → IsFair spent (parted || same) (changed_at x (λ n. n + 1) parts) c
parts_more x c parted spent parts true is within was =
    let at : x ≡ c.place = eqb-true x c.place is in
    let more : slice_index (changed_at x (λ n. n + 1) parts) c.place ≡ slice_index parts c.place + 1 =
    subst (λ y. slice_index (changed_at y (λ n. n + 1) parts) c.place ≡ slice_index parts c.place + 1) (sym at) (index_here c.place parts within) in
    let apart : (slice_index (changed_at x (λ n. n + 1) parts) c.place == c.attachment) ≡ false =
    ne_eqb _ c.attachment (λ e. omega (arith, more, e, was.earlier)) in
    record {
      within = was.within;
      paid = was.paid;
      earlier = omega (arith, more, was.earlier);
      gone = or_true parted ∙ sym (ap not apart);
    }
parts_more x c parted spent parts false is within was =
    let stays = index_other x c.place parts (λ e. eqb-false x c.place is e) in
    record {
      within = was.within;
      paid = was.paid;
      earlier = omega (arith, stays, was.earlier);
      gone = or_none parted ∙ was.gone ∙ sym (ap (λ n. not (n == c.attachment)) stays);
    }

place_found : (found : Option Cmd) (c : Cmd) → found ≡ Some c → option_map_or (λ (d : Cmd). d.place) found 0 ≡ c.place
place_found None c is = absurd (cc)
place_found (Some d) c is = let same : d ≡ c = cc in ap (λ e. e.place) same

parts :
    (head : PortHead) (past : List Event) → IsAllowed head past → (id x : ℕ) (c : Cmd) → command_of id (commands past) ≡ Some c
    → IsFair (costs id past) (has_gone id past) (detachments past) c
    → IsFair (costs id past) (has_gone id past || (x == place_of id (commands past))) (changed_at x (λ n. n + 1) (detachments past)) c
parts head past h id x c is was =
    let within : c.place < 15 = standing_within 15 (commands past) (are_known head past h).places id c.place c.attachment
    (ap (option_map (λ (d : Cmd). (d.place, d.attachment))) is) in
    subst (λ y. IsFair (costs id past) (has_gone id past || (x == y)) (changed_at x (λ n. n + 1) (detachments past)) c)
    (sym (place_found (command_of id (commands past)) c is))
    (parts_more x c (has_gone id past) (costs id past) (detachments past) (x == c.place) refl (omega (arith, within, length_detachments past)) was)

pub fair : (head : PortHead) (past : List Event) → IsAllowed head past → (id : ℕ) (c : Cmd) → command_of id (commands past) ≡ Some c
    → IsFair (costs id past) (has_gone id past) (detachments past) c
fair head [] h id c is = absurd (cc)
fair head (Told (Accepted x) ∷ past) h id c is =
    accepts_by head past id x c _ h.1 h.0 refl (sym (find-append (λ y. y.id == id) (commands past) _) ∙ is) (fair head past h.1 id)
fair head (Told (Retried x number raised) ∷ past) h id c is =
    retries_by head past id x number raised c _ h.0 refl (sym (found_mapped x id raised (commands past)) ∙ is) (fair head past h.1 id)
fair head (Told (Detached x) ∷ past) h id c is =
    parts head past h.1 id x c is (fair head past h.1 id c is)
fair head (Told (Disabled x) ∷ past) h id c is =
    parts head past h.1 id x c is (fair head past h.1 id c is)
fair head (event ∷ past) h id c is = fair head past h.1 id c is
