-- What acts make of an issue in its slot.
use Rattle.std.proofs.Common.{◌≡◌, ◌∙◌, ℕ, Bool, true, false, ◌==◌, List, [], ◌∷◌, ◌++◌, Option, None, Some, ◌⊎◌, inl, inr, refl, sym, ap, subst, if◌then◌else◌}
use Rattle.std.specs.List.{list_all}
use Rattle.ata_trace.specs.declared.act.Act.{Act}
use Rattle.ata_trace.specs.declared.act.Act.TheVariants.{AnsweredOk, AnsweredFailed, AnsweredNodev, Expired, Condemned, Retried}
use Rattle.host_tags.specs.Marks.{condemned, expired}
use Rattle.host_tags.specs.declared.in_flight.InFlight.{InFlight}
use Rattle.port_past.specs.Answers.{left_issue}
use Rattle.ata_base.proofs.Truth.{both}
use Rattle.port_stands.specs.Words.{left_by, slot_after, slot_onto}

-- an issue in its slot before and after acts: the same issue, owned and expired where it was
pub record IsSame (f g : InFlight) : Type 0 where
  pub n : g.number ≡ f.number
  pub cmd : g.id ≡ f.id
  pub place : g.place ≡ f.place
  pub queued : g.queued ≡ f.queued
  pub deadline : g.deadline ≡ f.deadline
  pub owned : f.owned ≡ true → g.owned ≡ true
  pub expired : f.expired ≡ true → g.expired ≡ true

pub same_self : (f : InFlight) → IsSame f f
same_self f = record { n = refl; cmd = refl; place = refl; queued = refl; deadline = refl; owned = λ e. e; expired = λ e. e }

same_then : (f g h : InFlight) → IsSame f g → IsSame g h → IsSame f h
same_then f g h a b = record {
  n = b.n ∙ a.n;
  cmd = b.cmd ∙ a.cmd;
  place = b.place ∙ a.place;
  queued = b.queued ∙ a.queued;
  deadline = b.deadline ∙ a.deadline;
  owned = λ e. b.owned (a.owned e);
  expired = λ e. b.expired (a.expired e);
}

left_empty : (left : Option ℕ) → left_by left None ≡ None
left_empty None = refl
left_empty (Some number) = refl

pub empty_stays : (acts : List Act) → slot_onto acts None ≡ None
empty_stays [] = refl
empty_stays (Condemned number kinds ∷ rest) = empty_stays rest
empty_stays (Expired id number ∷ rest) = empty_stays rest
empty_stays (act ∷ rest) = ap (slot_onto rest) (left_empty (left_issue act)) ∙ empty_stays rest

if_left : (b : Bool) (f g : InFlight) → (if b then None else Some f) ≡ Some g → f ≡ g
if_left true f g e = absurd (cc)
if_left false f g e = cc

if_changed : (b : Bool) (f h g : InFlight) → (if b then Some h else Some f) ≡ Some g → (h ≡ g) ⊎ (f ≡ g)
if_changed true f h g e = inl cc
if_changed false f h g e = inr cc

-- what holds between an issue before and after each act of a kind holds over a list of them
module _
    (R : InFlight → InFlight → Type 0) (self : (f : InFlight) → R f f)
    (more : (f g h : InFlight) → R f g → R g h → R f h)
    (kind : Act → Bool)
    (step : (act : Act) (f g : InFlight) → kind act ≡ true → slot_after act (Some f) ≡ Some g → R f g) where
  carried_by :
      (act : Act) (rest : List Act) (f g : InFlight) (slot : Option InFlight) → slot_after act (Some f) ≡ slot
      → kind act ≡ true → ((h : InFlight) → slot_onto rest (Some h) ≡ Some g → R h g) → slot_onto rest slot ≡ Some g → R f g
  carried_by act rest f g None is one later e = absurd (cc (empty_stays rest))
  carried_by act rest f g (Some h) is one later e = more f h g (step act f h one is) (later h e)

  pub carried : (acts : List Act) (f g : InFlight) → list_all kind acts ≡ true → slot_onto acts (Some f) ≡ Some g → R f g
  carried [] f g all e = subst (R f) (cc) (self f)
  carried (act ∷ rest) f g all e =
      let parts = both (kind act) (list_all kind rest) all in
      carried_by act rest f g (slot_after act (Some f)) refl parts.0 (λ h is. carried rest h g parts.1 is) e

-- each act that leaves an issue in its slot leaves it the same
same_if : (b : Bool) (f h g : InFlight) → IsSame f h → (if b then Some h else Some f) ≡ Some g → IsSame f g
same_if true f h g same e = subst (IsSame f) (cc) same
same_if false f h g same e = subst (IsSame f) (cc) (same_self f)

same_left : (b : Bool) (f g : InFlight) → (if b then None else Some f) ≡ Some g → IsSame f g
same_left true f g e = absurd (cc)
same_left false f g e = subst (IsSame f) (cc) (same_self f)

same_answer : (left : Option ℕ) (f g : InFlight) → left_by left (Some f) ≡ Some g → IsSame f g
same_answer None f g e = subst (IsSame f) (cc) (same_self f)
same_answer (Some number) f g e = same_left (f.number.n == number) f g e

same_step : (act : Act) (f g : InFlight) → slot_after act (Some f) ≡ Some g → IsSame f g
same_step (Condemned number kinds) f g e =
    same_if (f.number.n == number.n) f (condemned kinds f) g
    (record { n = refl; cmd = refl; place = refl; queued = refl; deadline = refl; owned = λ o. refl; expired = λ o. o }) e
same_step (Expired id number) f g e =
    same_if (f.number.n == number.n) f (expired f) g
    (record { n = refl; cmd = refl; place = refl; queued = refl; deadline = refl; owned = λ o. o; expired = λ o. refl }) e
same_step act f g e = same_answer (left_issue act) f g e

abbrev pub every_act : Act → Bool
every_act act = true

all_every : (acts : List Act) → list_all every_act acts ≡ true
all_every [] = refl
all_every (act ∷ rest) = all_every rest

-- an issue that is still in its slot after acts is the one that was in it
pub still_same : (acts : List Act) (f g : InFlight) → slot_onto acts (Some f) ≡ Some g → IsSame f g
still_same acts f g e =
    carried IsSame same_self same_then every_act (λ act x y one is. same_step act x y is) acts f g (all_every acts) e

-- an issue that is in its slot after acts was in it before
pub was_there :
    (acts : List Act) (slot : Option InFlight) (g : InFlight) → slot_onto acts slot ≡ Some g
    → (f : InFlight) × ((slot ≡ Some f) × IsSame f g)
was_there acts None g e = absurd (cc (empty_stays acts))
was_there acts (Some f) g e = (f, (refl, still_same acts f g e))

-- acts one after the other
pub slot_append :
    (acts more : List Act) (slot : Option InFlight) → slot_onto (acts ++ more) slot ≡ slot_onto more (slot_onto acts slot)
slot_append [] more slot = refl
slot_append (act ∷ rest) more slot = slot_append rest more (slot_after act slot)

-- ---- acts by which no issue leaves

abbrev pub is_no_leave : Act → Bool
is_no_leave (Retried id number raised) = false
is_no_leave (AnsweredOk id number status error lba count stamps) = false
is_no_leave (AnsweredFailed id number kinds status error lba count) = false
is_no_leave (AnsweredNodev id number) = false
is_no_leave act = true

some_if : (b : Bool) (f h : InFlight) → (g : InFlight) × ((if b then Some h else Some f) ≡ Some g)
some_if true f h = (h, refl)
some_if false f h = (f, refl)

stays_step : (act : Act) (f : InFlight) → is_no_leave act ≡ true → (g : InFlight) × (slot_after act (Some f) ≡ Some g)
stays_step (Condemned number kinds) f is = some_if (f.number.n == number.n) f (condemned kinds f)
stays_step (Expired id number) f is = some_if (f.number.n == number.n) f (expired f)
stays_step (Retried id number raised) f is = absurd (cc)
stays_step (AnsweredOk id number status error lba count stamps) f is = absurd (cc)
stays_step (AnsweredFailed id number kinds status error lba count) f is = absurd (cc)
stays_step (AnsweredNodev id number) f is = absurd (cc)
stays_step act f is = (f, refl)

pub stays :
    (acts : List Act) (f : InFlight) → list_all is_no_leave acts ≡ true → (g : InFlight) × (slot_onto acts (Some f) ≡ Some g)
stays [] f all = (f, refl)
stays (act ∷ rest) f all =
    let parts = both (is_no_leave act) (list_all is_no_leave rest) all in
    let here = stays_step act f parts.0 in
    let later = stays rest here.0 parts.1 in
    (later.0, ap (slot_onto rest) here.1 ∙ later.1)

-- ---- acts that condemn nothing

abbrev pub is_no_mark : Act → Bool
is_no_mark (Condemned number kinds) = false
is_no_mark act = true

abbrev own_of : Option InFlight → Bool
own_of None = false
own_of (Some x) = x.owned

unowned_if : (b : Bool) (f h g : InFlight) → h.owned ≡ f.owned → (if b then Some h else Some f) ≡ Some g → g.owned ≡ f.owned
unowned_if true f h g same e = ap own_of (sym e) ∙ same
unowned_if false f h g same e = ap own_of (sym e)

unowned_left : (b : Bool) (f g : InFlight) → (if b then None else Some f) ≡ Some g → g.owned ≡ f.owned
unowned_left true f g e = absurd (cc)
unowned_left false f g e = ap own_of (sym e)

unowned_answer : (left : Option ℕ) (f g : InFlight) → left_by left (Some f) ≡ Some g → g.owned ≡ f.owned
unowned_answer None f g e = ap own_of (sym e)
unowned_answer (Some number) f g e = unowned_left (f.number.n == number) f g e

unowned_step : (act : Act) (f g : InFlight) → is_no_mark act ≡ true → slot_after act (Some f) ≡ Some g → g.owned ≡ f.owned
unowned_step (Condemned number kinds) f g is e = absurd (cc)
unowned_step (Expired id number) f g is e = unowned_if (f.number.n == number.n) f (expired f) g refl e
unowned_step act f g is e = unowned_answer (left_issue act) f g e

-- acts that condemn nothing leave each issue's owner
pub unowned :
    (acts : List Act) (f g : InFlight) → list_all is_no_mark acts ≡ true → slot_onto acts (Some f) ≡ Some g → g.owned ≡ f.owned
unowned acts f g all e =
    carried (λ x y. y.owned ≡ x.owned) (λ x. refl) (λ x y z a b. b ∙ a) is_no_mark unowned_step acts f g all e
