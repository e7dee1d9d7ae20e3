-- The finish, tag by tag.
use Rattle.std.proofs.Common.{◌≡◌, ◌≢◌, ◌∙◌, ℕ, ◌+◌, ◌≤◌, ◌==◌, Bool, true, false, List, [], ◌∷◌, ◌++◌, Option, None, Some, suc, zero, drop, length, map, refl, sym, ap, subst, arith, if◌then◌else◌}
use Rattle.std.specs.Prelude.{option_map, slice_index_or}
use Rattle.std.specs.Option.{option_to_list}
use Rattle.std.proofs.lemmas.Bool.{eqb-true}
use Rattle.ata_base.proofs.Truth.{not_true}
use Rattle.ata_base.specs.declared.cmd.Cmd.{Cmd}
use Rattle.ata_base.specs.declared.issue_no.IssueNo.{IssueNo}
use Rattle.ata_script.specs.declared.port_head.PortHead.{PortHead}
use Rattle.ata_trace.specs.Event.{Event}
use Rattle.ata_trace.specs.Event.Event.{Told}
use Rattle.ata_trace.specs.declared.act.Act.{Act}
use Rattle.eh_flow.specs.Finish.{finish_of as decided}
use Rattle.eh_flow.specs.declared.issue_finish.Finish.{Finish}
use Rattle.eh_flow.specs.declared.issue_finish.Finish.TheVariants.{NoDev, Retry, Fail}
use Rattle.host_tags.proofs.FlightLemmas.{each_weaker}
use Rattle.host_tags.specs.EachFlight.{EachFlight, kept_at}
use Rattle.host_tags.specs.Numbers.{without, AreApart}
use Rattle.host_tags.specs.Slots.{flight_at}
use Rattle.host_tags.specs.declared.in_flight.InFlight.{InFlight}
use Rattle.port_ledger.specs.LedgerView.{LedgerView, Goes, past}
use Rattle.port_ledger.specs.Sound.{IsCounted, IsSound}
use Rattle.port_past.proofs.JudgedSizes.{length_judged}
use Rattle.port_past.proofs.KnownCommands.{found_id}
use Rattle.port_past.proofs.Sizes.{length_slots}
use Rattle.port_past.specs.Attachment.{detachments}
use Rattle.port_past.specs.Commands.{command_of, commands, counted, is_gone}
use Rattle.port_past.specs.Judged.{judged}
use Rattle.port_past.specs.Slots.{slots, without_left}
use Rattle.port_past.specs.declared.judgement.Judgement.{Judgement}
use Rattle.port_rules.proofs.TagByTag.{finishes_told}
use Rattle.port_rules.specs.Finish.{finish_act, finishes, told_finish}
use Rattle.port_rules.specs.TagByTag.{each_told, finish_of}
use Rattle.port_telling.proofs.AddLemmas.{adds_act, adds_same}
use Rattle.port_telling.proofs.WalkLemmas.{later_without}
use Rattle.port_telling.specs.Walks.{TellsAt, slots_in}
use Rattle.port_recovery.specs.FinishByTag.{as_kept, by_tag, finishes_in, finishes_of}
use Rattle.port_recovery.specs.Recoverable.{AreOneEach}

-- ---- what is told of an issue can be noted

-- a command that is found has the number by which it is found
pub by_own_id :
    (id : ℕ) (accepted : List Cmd) (c : Cmd) → command_of id accepted ≡ Some c → command_of c.id accepted ≡ Some c
by_own_id id accepted c is = ap (λ n. command_of n accepted) (found_id id accepted c is) ∙ is

told_sound :
    (head : PortHead) (past : List Event) (c : Cmd) (number : IssueNo) (j : Judgement) (what : Finish)
    → IsCounted (commands past) (told_finish c number j what) → IsSound head past (told_finish c number j what)
told_sound head past c number j NoDev few =
    record { new = tt; next = tt; counted = few; put = tt; low = tt; limited = tt; early = tt }
told_sound head past c number j (Retry raised) few =
    record { new = tt; next = tt; counted = few; put = tt; low = tt; limited = tt; early = tt }
told_sound head past c number j Fail few =
    record { new = tt; next = tt; counted = few; put = tt; low = tt; limited = tt; early = tt }

pub finish_sound :
    (head : PortHead) (past : List Event) (c : Cmd) (number : IssueNo) (j : Judgement) (gone : Bool) (act : Act)
    → act ≡ finish_act c number j gone → IsCounted (commands past) act → IsSound head past act
finish_sound head past c number j gone act is few =
    subst (IsSound head past) (sym is)
    (told_sound head past c number j (decided c j.kinds gone) (subst (IsCounted (commands past)) is few))

-- ---- the list by tag

same_told :
    (accepted : List Cmd) (counts : List ℕ) (flights : List (Option InFlight)) (js : List (Option Judgement))
    → each_told as_kept flights (by_tag accepted counts flights js) ≡ each_told (finish_of accepted counts) flights js
same_told accepted counts [] js = refl
same_told accepted counts (slot ∷ flights) [] = refl
same_told accepted counts (slot ∷ flights) (j ∷ js) =
    ap (λ acts. option_to_list (finish_of accepted counts slot j) ++ acts) (same_told accepted counts flights js)

-- what is kept is what the finish tells
pub finishes_are_kept :
    (past : List Event)
    → each_told as_kept (slots past) (finishes_of past)
    ≡ finishes (commands past) (detachments past) (slots past) (judged past)
finishes_are_kept past =
    same_told (commands past) (detachments past) (slots past) (judged past)
    ∙ sym (finishes_told (commands past) (detachments past) (slots past) (judged past))

length_by_tag :
    (accepted : List Cmd) (counts : List ℕ) (flights : List (Option InFlight)) (js : List (Option Judgement))
    → length flights ≡ length js → length (by_tag accepted counts flights js) ≡ length flights
length_by_tag accepted counts [] js same = refl
length_by_tag accepted counts (slot ∷ flights) [] same = absurd (omega arith)
length_by_tag accepted counts (slot ∷ flights) (j ∷ js) same =
    omega (arith, length_by_tag accepted counts flights js (omega arith))

-- something or nothing is kept of each of the 32 tags
pub length_finishes : (past : List Event) → length (finishes_of past) ≡ 32
length_finishes past =
    length_by_tag (commands past) (detachments past) (slots past) (judged past)
    (length_slots past ∙ sym (length_judged past))
    ∙ length_slots past

none_unjudged : (accepted : List Cmd) (counts : List ℕ) (slot : Option InFlight) → finish_of accepted counts slot None ≡ None
none_unjudged accepted counts None = refl
none_unjudged accepted counts (Some f) = refl

at_by_tag :
    (accepted : List Cmd) (counts : List ℕ) (flights : List (Option InFlight)) (js : List (Option Judgement)) (tag : ℕ)
    → kept_at (by_tag accepted counts flights js) tag
    ≡ finish_of accepted counts (flight_at flights tag) (slice_index_or js tag None)
at_by_tag accepted counts [] js tag = refl
at_by_tag accepted counts (slot ∷ flights) [] tag = sym (none_unjudged accepted counts (flight_at (slot ∷ flights) tag))
at_by_tag accepted counts (slot ∷ flights) (j ∷ js) zero = refl
at_by_tag accepted counts (slot ∷ flights) (j ∷ js) (suc tag) = at_by_tag accepted counts flights js tag

none_by_tag : (accepted : List Cmd) (counts : List ℕ) (flights : List (Option InFlight)) → by_tag accepted counts flights [] ≡ []
none_by_tag accepted counts [] = refl
none_by_tag accepted counts (slot ∷ flights) = refl

drop_by_tag :
    (accepted : List Cmd) (counts : List ℕ) (k : ℕ) (flights : List (Option InFlight)) (js : List (Option Judgement))
    → drop k (by_tag accepted counts flights js) ≡ by_tag accepted counts (drop k flights) (drop k js)
drop_by_tag accepted counts zero flights js = refl
drop_by_tag accepted counts (suc k) [] js = refl
drop_by_tag accepted counts (suc k) (slot ∷ flights) [] = sym (none_by_tag accepted counts (drop k flights))
drop_by_tag accepted counts (suc k) (slot ∷ flights) (j ∷ js) = drop_by_tag accepted counts k flights js

-- ---- what an act of one tag leaves of what is told of later tags

-- the commands of these issues are the same in two lists
abbrev AreSame : List Cmd → List Cmd → List (Option InFlight) → Type 0
AreSame accepted was flights = EachFlight (λ f. command_of f.id accepted ≡ command_of f.id was) flights

same_by_tag :
    (accepted was : List Cmd) (counts : List ℕ) (flights : List (Option InFlight)) (js : List (Option Judgement))
    → AreSame accepted was flights → by_tag accepted counts flights js ≡ by_tag was counts flights js
same_by_tag accepted was counts [] js same = refl
same_by_tag accepted was counts (slot ∷ flights) [] same = refl
same_by_tag accepted was counts (None ∷ flights) (j ∷ js) same =
    ap (λ acts. None ∷ acts) (same_by_tag accepted was counts flights js same)
same_by_tag accepted was counts (Some f ∷ flights) (None ∷ js) same =
    ap (λ acts. None ∷ acts) (same_by_tag accepted was counts flights js same.1)
same_by_tag accepted was counts (Some f ∷ flights) (Some j ∷ js) same =
    ap (λ c. (if f.owned then option_map (λ c. finish_act c f.number j (is_gone c counts)) c else None)
    ∷ by_tag accepted counts flights js) same.0
    ∙ ap (λ acts. finish_of was counts (Some f) (Some j) ∷ acts) (same_by_tag accepted was counts flights js same.1)

-- a retry of a command leaves the others
other_by :
    (id other : ℕ) (raised : Bool) (c : Cmd) (rest was : List Cmd) (b : Bool) → (c.id == id) ≡ b → other ≢ id
    → command_of other rest ≡ command_of other was
    → command_of other ((if b then counted raised c else c) ∷ rest) ≡ command_of other (c ∷ was)
other_by id other raised c rest was true is differs same =
    let not_it : (c.id == other) ≡ false =
    not_true (c.id == other) (λ yes. differs (sym (eqb-true c.id other yes) ∙ eqb-true c.id id is)) in
    rw not_it same
other_by id other raised c rest was false is differs same = ap (λ found. if c.id == other then Some c else found) same

command_other :
    (id other : ℕ) (raised : Bool) (was : List Cmd) → other ≢ id
    → command_of other (map (λ c. if c.id == id then counted raised c else c) was) ≡ command_of other was
command_other id other raised [] differs = refl
command_other id other raised (c ∷ was) differs =
    other_by id other raised c (map (λ c. if c.id == id then counted raised c else c) was) was (c.id == id) refl differs
    (command_other id other raised was differs)

-- what holds of each issue from a tag on
each_from :
    (P : InFlight → Type 0) (k : ℕ) (flights : List (Option InFlight))
    → ((t : ℕ) (g : InFlight) → k ≤ t → flight_at flights t ≡ Some g → P g) → EachFlight P (drop k flights)
each_from P zero [] each = tt
each_from P zero (None ∷ flights) each = each_from P zero flights (λ t g le here. each (suc t) g (omega arith) here)
each_from P zero (Some f ∷ flights) each =
    (each 0 f (omega arith) refl, each_from P zero flights (λ t g le here. each (suc t) g (omega arith) here))
each_from P (suc k) [] each = tt
each_from P (suc k) (slot ∷ flights) each = each_from P k flights (λ t g le here. each (suc t) g (omega arith) here)

-- the issues of later tags are of other commands
later_others :
    (flights : List (Option InFlight)) (tag : ℕ) (f : InFlight) → AreOneEach flights → flight_at flights tag ≡ Some f
    → EachFlight (λ g. g.id ≢ f.id) (drop (tag + 1) flights)
later_others flights tag f one here =
    each_from (λ g. g.id ≢ f.id) (tag + 1) flights
    (λ t g le there same. let e : t ≡ tag = one t tag g f there here same in absurd (omega (arith, e, le)))

module _ (past : List Event) (tag : ℕ) (f : InFlight) (c : Cmd) (j : Judgement) (one : AreOneEach (slots past))
    (apart : AreApart (slots past)) (here : flight_at (slots past) tag ≡ Some f) (id : c.id ≡ f.id) where
  -- the past once the act is told
  abbrev told : Finish → List Event
  told what = Told (told_finish c f.number j what) ∷ past

  left_by : (b : Bool) → drop (tag + 1) (without_left (if b then None else Some f.number.n) (slots past)) ≡ drop (tag + 1) (slots past)
  left_by true = refl
  left_by false = later_without f tag (slots past) apart here

  later_slots : (what : Finish) → drop (tag + 1) (slots (told what)) ≡ drop (tag + 1) (slots past)
  later_slots NoDev = left_by (f.number.n == 0)
  later_slots (Retry raised) = later_without f tag (slots past) apart here
  later_slots Fail = later_without f tag (slots past) apart here

  others : EachFlight (λ g. g.id ≢ c.id) (drop (tag + 1) (slots past))
  others = subst (λ n. EachFlight (λ g. g.id ≢ n) (drop (tag + 1) (slots past))) (sym id) (later_others (slots past) tag f one here)

  later_commands : (what : Finish) → AreSame (commands (told what)) (commands past) (drop (tag + 1) (slots past))
  later_commands NoDev = each_weaker (λ g. g.id ≢ c.id) _ (λ g differs. refl) (drop (tag + 1) (slots past)) others
  later_commands (Retry raised) =
      each_weaker (λ g. g.id ≢ c.id) _ (λ g differs. command_other c.id g.id raised (commands past) differs)
      (drop (tag + 1) (slots past)) others
  later_commands Fail = each_weaker (λ g. g.id ≢ c.id) _ (λ g differs. refl) (drop (tag + 1) (slots past)) others

  later_kept :
      (accepted : List Cmd) (flights : List (Option InFlight)) → drop (tag + 1) flights ≡ drop (tag + 1) (slots past)
      → AreSame accepted (commands past) (drop (tag + 1) (slots past))
      → drop (tag + 1) (by_tag accepted (detachments past) flights (judged past)) ≡ drop (tag + 1) (finishes_of past)
  later_kept accepted flights slots_same same =
      drop_by_tag accepted (detachments past) (tag + 1) flights (judged past)
      ∙ ap (λ rest. by_tag accepted (detachments past) rest (drop (tag + 1) (judged past))) slots_same
      ∙ same_by_tag accepted (commands past) (detachments past) (drop (tag + 1) (slots past)) (drop (tag + 1) (judged past)) same
      ∙ sym (drop_by_tag (commands past) (detachments past) (tag + 1) (slots past) (judged past))

  later_finishes : (what : Finish) → drop (tag + 1) (finishes_of (told what)) ≡ drop (tag + 1) (finishes_of past)
  later_finishes NoDev = later_kept (commands (told NoDev)) (slots (told NoDev)) (later_slots NoDev) (later_commands NoDev)
  later_finishes (Retry raised) =
      later_kept (commands (told (Retry raised))) (slots (told (Retry raised))) (later_slots (Retry raised)) (later_commands (Retry raised))
  later_finishes Fail = later_kept (commands (told Fail)) (slots (told Fail)) (later_slots Fail) (later_commands Fail)

-- ---- no two issues in flight are of one command, also once one has left

unless_some : (b : Bool) (f g : InFlight) → ◌≡◌ {A = Option InFlight} (if b then None else Some f) (Some g) → ◌≡◌ {A = Option InFlight} (Some f) (Some g)
unless_some true f g is = absurd (cc)
unless_some false f g is = is

stayed :
    (n : ℕ) (flights : List (Option InFlight)) (t : ℕ) (g : InFlight) → flight_at (without n flights) t ≡ Some g
    → flight_at flights t ≡ Some g
stayed n [] t g here = here
stayed n (None ∷ flights) zero g here = here
stayed n (Some f ∷ flights) zero g here = unless_some (f.number.n == n) f g here
stayed n (None ∷ flights) (suc t) g here = stayed n flights t g here
stayed n (Some f ∷ flights) (suc t) g here = stayed n flights t g here

one_without : (n : ℕ) (flights : List (Option InFlight)) → AreOneEach flights → AreOneEach (without n flights)
one_without n flights one t u f g at_t at_u same = one t u f g (stayed n flights t f at_t) (stayed n flights u g at_u) same

one_by : (b : Bool) (n : ℕ) (flights : List (Option InFlight)) → AreOneEach flights → AreOneEach (without_left (if b then None else Some n) flights)
one_by true n flights one = one
one_by false n flights one = one_without n flights one

told_one :
    (past : List Event) (c : Cmd) (number : IssueNo) (j : Judgement) (what : Finish) → AreOneEach (slots past)
    → AreOneEach (slots (Told (told_finish c number j what) ∷ past))
told_one past c number j NoDev one = one_by (number.n == 0) number.n (slots past) one
told_one past c number j (Retry raised) one = one_without number.n (slots past) one
told_one past c number j Fail one = one_without number.n (slots past) one

-- ---- one tag

-- the issue of which an act is told, with its command and judgement
record IsFinish (accepted : List Cmd) (counts : List ℕ) (slot : Option InFlight) (act : Act) : Type 0 where
  flight : InFlight
  command : Cmd
  judgement : Judgement
  here : slot ≡ Some flight
  known : command_of flight.id accepted ≡ Some command
  told : act ≡ told_finish command flight.number judgement (decided command judgement.kinds (is_gone command counts))

known_finish :
    (accepted : List Cmd) (counts : List ℕ) (f : InFlight) (j : Judgement) (act : Act) (found : Option Cmd)
    → command_of f.id accepted ≡ found
    → option_map (λ c. finish_act c f.number j (is_gone c counts)) found ≡ Some act
    → IsFinish accepted counts (Some f) act
known_finish accepted counts f j act None known is = absurd (cc)
known_finish accepted counts f j act (Some c) known is = record {
  flight = f;
  command = c;
  judgement = j;
  here = refl;
  known = known;
  told = cc;
}

owned_finish :
    (accepted : List Cmd) (counts : List ℕ) (f : InFlight) (j : Judgement) (act : Act) (owned : Bool)
    → (if owned then option_map (λ c. finish_act c f.number j (is_gone c counts)) (command_of f.id accepted) else None)
    ≡ Some act
    → IsFinish accepted counts (Some f) act
owned_finish accepted counts f j act false is = absurd (cc)
owned_finish accepted counts f j act true is = known_finish accepted counts f j act (command_of f.id accepted) refl is

is_finish :
    (accepted : List Cmd) (counts : List ℕ) (slot : Option InFlight) (judgement : Option Judgement) (act : Act)
    → finish_of accepted counts slot judgement ≡ Some act → IsFinish accepted counts slot act
is_finish accepted counts None judgement act is = absurd (cc)
is_finish accepted counts (Some f) None act is = absurd (cc)
is_finish accepted counts (Some f) (Some j) act is = owned_finish accepted counts f j act f.owned is

-- what the finish tells of a tag
abbrev pub told_at : LedgerView → ℕ → Option Act
told_at ledger tag = finish_of
    (commands (past ledger))
    (detachments (past ledger))
    (flight_at (slots_in ledger) tag)
    (slice_index_or (judged (past ledger)) tag None)

kept_told : (ledger : LedgerView) (tag : ℕ) (told : Option Act) → told_at ledger tag ≡ told → kept_at (finishes_in ledger) tag ≡ told
kept_told ledger tag told is =
    at_by_tag (commands (past ledger)) (detachments (past ledger)) (slots_in ledger) (judged (past ledger)) tag ∙ is

-- an act is told of the issue there
pub finish_tells :
    {before after : LedgerView} {act : Act} (tag : ℕ) → AreOneEach (slots_in before) → AreApart (slots_in before)
    → told_at before tag ≡ Some act → Goes before after 0 1 (Told act ∷ past before)
    → TellsAt as_kept finishes_in tag before after
finish_tells {before} {after} {act} tag one apart is goes =
    let p = past before in
    let it = is_finish (commands p) (detachments p) (flight_at (slots p) tag) (slice_index_or (judged p) tag None) act is in
    let what = decided it.command it.judgement.kinds (is_gone it.command (detachments p)) in
    let id = found_id it.flight.id (commands p) it.command it.known in
    let now : past after ≡ Told (told_finish it.command it.flight.number it.judgement what) ∷ p =
    goes.past ∙ ap (λ a. Told a ∷ p) it.told in
    record {
      adds = adds_same (sym (ap option_to_list (kept_told before tag (Some act) is))) (adds_act goes);
      slots = ap (λ q. drop (tag + 1) (slots q)) now ∙ later_slots p tag it.flight it.command it.judgement one apart it.here id what;
      others =
          ap (λ q. drop (tag + 1) (finishes_of q)) now
          ∙ later_finishes p tag it.flight it.command it.judgement one apart it.here id what;
    }

pub finish_one :
    {before after : LedgerView} {act : Act} (tag : ℕ) → AreOneEach (slots_in before)
    → told_at before tag ≡ Some act → Goes before after 0 1 (Told act ∷ past before) → AreOneEach (slots_in after)
finish_one {before} {after} {act} tag one is goes =
    let p = past before in
    let it = is_finish (commands p) (detachments p) (flight_at (slots p) tag) (slice_index_or (judged p) tag None) act is in
    let what = decided it.command it.judgement.kinds (is_gone it.command (detachments p)) in
    let now : past after ≡ Told (told_finish it.command it.flight.number it.judgement what) ∷ p =
    goes.past ∙ ap (λ a. Told a ∷ p) it.told in
    subst (λ q. AreOneEach (slots q)) (sym now) (told_one p it.command it.flight.number it.judgement what one)

-- nothing is told
pub finish_stays :
    (ledger : LedgerView) (tag : ℕ) → told_at ledger tag ≡ None → TellsAt as_kept finishes_in tag ledger ledger
finish_stays ledger tag none = record {
  adds =
      adds_same (sym (ap option_to_list (kept_told ledger tag None none)))
      (record { past = refl; head = refl; room = omega arith });
  slots = refl;
  others = refl;
}
