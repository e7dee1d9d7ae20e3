-- What holds of each issue in flight and of what is kept beside it under its tag.
use Rattle.std.proofs.Common.{◌≡◌, ◌≢◌, ◌∙◌, ℕ, ◌==◌, Bool, true, false, replicate, List, [], ◌∷◌, Option, None, Some, option_map, suc, zero, slice_set, refl, sym, ap, subst, if◌then◌else◌}
use Rattle.host_tags.specs.Numbers.{is_issue, without, changed_by_number, IsFresh, AreApart}
use Rattle.host_tags.proofs.FlightLemmas.{each_at, each_fresh}
use Rattle.host_tags.proofs.NumberLemmas.{other_issue}
use Rattle.host_tags.specs.Slots.{put}
use Rattle.host_tags.specs.declared.in_flight.InFlight.{InFlight}
use Rattle.port_past.specs.Answers.{issue_told}
use Rattle.port_past.specs.ByTag.{set_where}
use Rattle.port_past.specs.Completions.{but_left}
use Rattle.port_past.specs.Slots.{without_left}
use Rattle.port_past.specs.declared.completion.Completion.{Completion}
use Rattle.host_tags.specs.EachFlight.{kept_at, EachFlight}

abbrev pub EachBeside : {A : Type 0} → (InFlight → A → Type 0) → List (Option InFlight) → List (Option A) → Type 0
EachBeside P [] ys = Unit {0}
EachBeside P (None ∷ slots) [] = Unit {0}
EachBeside P (Some f ∷ slots) [] = Unit {0}
EachBeside P (None ∷ slots) (y ∷ ys) = EachBeside P slots ys
EachBeside P (Some f ∷ slots) (None ∷ ys) = EachBeside P slots ys
EachBeside P (Some f ∷ slots) (Some y ∷ ys) = P f y × EachBeside P slots ys

pub beside_at :
    {A : Type 0} (P : InFlight → A → Type 0) (slots : List (Option InFlight)) (ys : List (Option A)) (tag : ℕ) (f : InFlight) (y : A)
    → EachBeside P slots ys → kept_at slots tag ≡ Some f → kept_at ys tag ≡ Some y → P f y
beside_at P [] ys tag f y all here beside = absurd (cc)
beside_at P (None ∷ slots) [] tag f y all here beside = absurd (cc)
beside_at P (Some g ∷ slots) [] tag f y all here beside = absurd (cc)
beside_at P (None ∷ slots) (z ∷ ys) zero f y all here beside = absurd (cc)
beside_at P (Some g ∷ slots) (None ∷ ys) zero f y all here beside = absurd (cc)
beside_at P (Some g ∷ slots) (Some z ∷ ys) zero f y all here beside =
    let same : g ≡ f = cc in let alike : z ≡ y = cc in subst (λ x. P x y) same (subst (λ x. P g x) alike all.0)
beside_at P (None ∷ slots) (z ∷ ys) (suc tag) f y all here beside = beside_at P slots ys tag f y all here beside
beside_at P (Some g ∷ slots) (None ∷ ys) (suc tag) f y all here beside = beside_at P slots ys tag f y all here beside
beside_at P (Some g ∷ slots) (Some z ∷ ys) (suc tag) f y all here beside = beside_at P slots ys tag f y all.1 here beside

pub beside_weaker :
    {A : Type 0} (P Q : InFlight → A → Type 0) → ((f : InFlight) (y : A) → P f y → Q f y) → (slots : List (Option InFlight))
    (ys : List (Option A)) → EachBeside P slots ys → EachBeside Q slots ys
beside_weaker P Q weaker [] ys all = tt
beside_weaker P Q weaker (None ∷ slots) [] all = tt
beside_weaker P Q weaker (Some f ∷ slots) [] all = tt
beside_weaker P Q weaker (None ∷ slots) (y ∷ ys) all = beside_weaker P Q weaker slots ys all
beside_weaker P Q weaker (Some f ∷ slots) (None ∷ ys) all = beside_weaker P Q weaker slots ys all
beside_weaker P Q weaker (Some f ∷ slots) (Some y ∷ ys) all = (weaker f y all.0, beside_weaker P Q weaker slots ys all.1)

-- what holds of each issue holds of it beside anything
pub beside_each :
    {A : Type 0} (R : InFlight → Type 0) (Q : InFlight → A → Type 0) → ((f : InFlight) (y : A) → R f → Q f y)
    → (slots : List (Option InFlight)) (ys : List (Option A)) → EachFlight R slots → EachBeside Q slots ys
beside_each R Q gives [] ys all = tt
beside_each R Q gives (None ∷ slots) [] all = tt
beside_each R Q gives (Some f ∷ slots) [] all = tt
beside_each R Q gives (None ∷ slots) (y ∷ ys) all = beside_each R Q gives slots ys all
beside_each R Q gives (Some f ∷ slots) (None ∷ ys) all = beside_each R Q gives slots ys all.1
beside_each R Q gives (Some f ∷ slots) (Some y ∷ ys) all = (gives f y all.0, beside_each R Q gives slots ys all.1)

-- an issue is put where nothing is kept
pub beside_put :
    {A : Type 0} (P : InFlight → A → Type 0) (tag : ℕ) (f : InFlight) (slots : List (Option InFlight)) (ys : List (Option A))
    → EachBeside P slots ys → EachBeside P (put tag f slots) (slice_set ys tag None)
beside_put P tag f [] ys all = tt
beside_put P zero f (None ∷ slots) [] all = tt
beside_put P zero f (Some g ∷ slots) [] all = tt
beside_put P (suc tag) f (None ∷ slots) [] all = tt
beside_put P (suc tag) f (Some g ∷ slots) [] all = tt
beside_put P zero f (None ∷ slots) (y ∷ ys) all = all
beside_put P zero f (Some g ∷ slots) (None ∷ ys) all = all
beside_put P zero f (Some g ∷ slots) (Some y ∷ ys) all = all.1
beside_put P (suc tag) f (None ∷ slots) (y ∷ ys) all = beside_put P tag f slots ys all
beside_put P (suc tag) f (Some g ∷ slots) (None ∷ ys) all = beside_put P tag f slots ys all
beside_put P (suc tag) f (Some g ∷ slots) (Some y ∷ ys) all = (all.0, beside_put P tag f slots ys all.1)

gone_one :
    {A : Type 0} (P : InFlight → A → Type 0) (b : Bool) (f : InFlight) (y : A) (slots : List (Option InFlight)) (ys : List (Option A))
    → P f y → EachBeside P slots ys
    → EachBeside P ((if b then None else Some f) ∷ slots) ((if b then None else Some y) ∷ ys)
gone_one P true f y slots ys one all = all
gone_one P false f y slots ys one all = (one, all)

gone_none :
    {A : Type 0} (P : InFlight → A → Type 0) (b : Bool) (f : InFlight) (slots : List (Option InFlight)) (ys : List (Option A))
    → EachBeside P slots ys → EachBeside P ((if b then None else Some f) ∷ slots) ((if b then None else None) ∷ ys)
gone_none P true f slots ys all = all
gone_none P false f slots ys all = all

short : {A : Type 0} (P : InFlight → A → Type 0) (slots : List (Option InFlight)) → EachBeside P slots []
short P [] = tt
short P (None ∷ slots) = tt
short P (Some f ∷ slots) = tt

-- an issue leaves with what is kept beside it
pub beside_without :
    {A : Type 0} (P : InFlight → A → Type 0) (n : ℕ) (slots : List (Option InFlight)) (ys : List (Option A))
    → EachBeside P slots ys → EachBeside P (without n slots) (set_where (is_issue n) None slots ys)
beside_without P n [] ys all = tt
beside_without P n (None ∷ slots) [] all = tt
beside_without P n (Some f ∷ slots) [] all = short P (without n (Some f ∷ slots))
beside_without P n (None ∷ slots) (y ∷ ys) all = beside_without P n slots ys all
beside_without P n (Some f ∷ slots) (None ∷ ys) all =
    gone_none P (f.number.n == n) f (without n slots) (set_where (is_issue n) None slots ys) (beside_without P n slots ys all)
beside_without P n (Some f ∷ slots) (Some y ∷ ys) all =
    gone_one P (f.number.n == n) f y (without n slots) (set_where (is_issue n) None slots ys) all.0 (beside_without P n slots ys all.1)

marked_one :
    {A : Type 0} (P Q : InFlight → A → Type 0) (change : InFlight → InFlight) (b : Bool) (f : InFlight) (y : A)
    (slots : List (Option InFlight)) (ys : List (Option A)) → (b ≡ true → P f y → Q (change f) y) → (b ≡ false → P f y → Q f y)
    → P f y → EachBeside Q slots ys → EachBeside Q ((if b then option_map change (Some f) else Some f) ∷ slots) (Some y ∷ ys)
marked_one P Q change true f y slots ys new old one all = (new refl one, all)
marked_one P Q change false f y slots ys new old one all = (old refl one, all)

marked_none :
    {A : Type 0} (Q : InFlight → A → Type 0) (change : InFlight → InFlight) (b : Bool) (f : InFlight)
    (slots : List (Option InFlight)) (ys : List (Option A)) → EachBeside Q slots ys
    → EachBeside Q ((if b then option_map change (Some f) else Some f) ∷ slots) (None ∷ ys)
marked_none Q change true f slots ys all = all
marked_none Q change false f slots ys all = all

-- an issue is changed
pub beside_marked :
    {A : Type 0} (P Q : InFlight → A → Type 0) (change : InFlight → InFlight) (n : ℕ) (slots : List (Option InFlight)) (ys : List (Option A))
    → ((f : InFlight) (y : A) → (f.number.n == n) ≡ true → P f y → Q (change f) y)
    → ((f : InFlight) (y : A) → (f.number.n == n) ≡ false → P f y → Q f y)
    → EachBeside P slots ys → EachBeside Q (changed_by_number change n slots) ys
beside_marked P Q change n [] ys new old all = tt
beside_marked P Q change n (None ∷ slots) [] new old all = tt
beside_marked P Q change n (Some f ∷ slots) [] new old all = short Q (changed_by_number change n (Some f ∷ slots))
beside_marked P Q change n (None ∷ slots) (y ∷ ys) new old all = beside_marked P Q change n slots ys new old all
beside_marked P Q change n (Some f ∷ slots) (None ∷ ys) new old all =
    marked_none Q change (f.number.n == n) f (changed_by_number change n slots) ys (beside_marked P Q change n slots ys new old all)
beside_marked P Q change n (Some f ∷ slots) (Some y ∷ ys) new old all =
    marked_one P Q change (f.number.n == n) f y (changed_by_number change n slots) ys (new f y) (old f y) all.0 (beside_marked P Q change n slots ys new old all.1)

kept_one :
    {A : Type 0} (P : InFlight → A → Type 0) (R : InFlight → Type 0) (Q : InFlight → A → Type 0) (value y : A) (b : Bool) (f : InFlight)
    (slots : List (Option InFlight)) (ys : List (Option A)) → (b ≡ true → R f → Q f value) → (b ≡ false → P f y → Q f y) → R f → P f y
    → EachBeside Q slots ys → EachBeside Q (Some f ∷ slots) ((if b then Some value else Some y) ∷ ys)
kept_one P R Q value y true f slots ys new old r p all = (new refl r, all)
kept_one P R Q value y false f slots ys new old r p all = (old refl p, all)

kept_new :
    {A : Type 0} (R : InFlight → Type 0) (Q : InFlight → A → Type 0) (value : A) (b : Bool) (f : InFlight)
    (slots : List (Option InFlight)) (ys : List (Option A)) → (b ≡ true → R f → Q f value) → R f
    → EachBeside Q slots ys → EachBeside Q (Some f ∷ slots) ((if b then Some value else None) ∷ ys)
kept_new R Q value true f slots ys new r all = (new refl r, all)
kept_new R Q value false f slots ys new r all = all

-- something is kept of an issue
pub beside_kept :
    {A : Type 0} (P : InFlight → A → Type 0) (R : InFlight → Type 0) (Q : InFlight → A → Type 0) (value : A) (n : ℕ)
    (slots : List (Option InFlight)) (ys : List (Option A)) → ((f : InFlight) → (f.number.n == n) ≡ true → R f → Q f value)
    → ((f : InFlight) (y : A) → (f.number.n == n) ≡ false → P f y → Q f y) → EachFlight R slots → EachBeside P slots ys
    → EachBeside Q slots (set_where (is_issue n) (Some value) slots ys)
beside_kept P R Q value n [] ys new old each all = tt
beside_kept P R Q value n (None ∷ slots) [] new old each all = tt
beside_kept P R Q value n (Some f ∷ slots) [] new old each all = tt
beside_kept P R Q value n (None ∷ slots) (y ∷ ys) new old each all = beside_kept P R Q value n slots ys new old each all
beside_kept P R Q value n (Some f ∷ slots) (None ∷ ys) new old each all =
    kept_new R Q value (f.number.n == n) f slots (set_where (is_issue n) (Some value) slots ys) (new f) each.0
    (beside_kept P R Q value n slots ys new old each.1 all)
beside_kept P R Q value n (Some f ∷ slots) (Some y ∷ ys) new old each all =
    kept_one P R Q value y (f.number.n == n) f slots (set_where (is_issue n) (Some value) slots ys) (new f) (old f y) each.0 all.0
    (beside_kept P R Q value n slots ys new old each.1 all.1)

-- nothing is kept yet
pub beside_nothing : {A : Type 0} (P : InFlight → A → Type 0) (k : ℕ) (slots : List (Option InFlight)) → EachBeside P slots (replicate k None)
beside_nothing P k [] = tt
beside_nothing P zero (None ∷ slots) = tt
beside_nothing P zero (Some f ∷ slots) = tt
beside_nothing P (suc k) (None ∷ slots) = beside_nothing P k slots
beside_nothing P (suc k) (Some f ∷ slots) = beside_nothing P k slots

left_one :
    {A : Type 0} (P : InFlight → A → Type 0) (b : Bool) (f : InFlight) (y : A) (slots : List (Option InFlight)) (ys : List (Option A))
    → P f y → EachBeside P slots ys → EachBeside P ((if b then None else Some f) ∷ slots) (Some y ∷ ys)
left_one P true f y slots ys one all = all
left_one P false f y slots ys one all = (one, all)

left_none :
    {A : Type 0} (P : InFlight → A → Type 0) (b : Bool) (f : InFlight) (slots : List (Option InFlight)) (ys : List (Option A))
    → EachBeside P slots ys → EachBeside P ((if b then None else Some f) ∷ slots) (None ∷ ys)
left_none P true f slots ys all = all
left_none P false f slots ys all = all

-- an issue leaves what is kept beside it
pub beside_left :
    {A : Type 0} (P : InFlight → A → Type 0) (n : ℕ) (slots : List (Option InFlight)) (ys : List (Option A))
    → EachBeside P slots ys → EachBeside P (without n slots) ys
beside_left P n [] ys all = tt
beside_left P n (None ∷ slots) [] all = tt
beside_left P n (Some f ∷ slots) [] all = short P (without n (Some f ∷ slots))
beside_left P n (None ∷ slots) (y ∷ ys) all = beside_left P n slots ys all
beside_left P n (Some f ∷ slots) (None ∷ ys) all =
    left_none P (f.number.n == n) f (without n slots) ys (beside_left P n slots ys all)
beside_left P n (Some f ∷ slots) (Some y ∷ ys) all =
    left_one P (f.number.n == n) f y (without n slots) ys all.0 (beside_left P n slots ys all.1)

beside_kept_by :
    {A : Type 0} (P : InFlight → A → Type 0) (n : ℕ) (b : Bool) (slots : List (Option InFlight)) (ys : List (Option A))
    → EachBeside P slots ys → EachBeside P (without_left (if b then None else Some n) slots) ys
beside_kept_by P n true slots ys all = all
beside_kept_by P n false slots ys all = beside_left P n slots ys all

-- an answer that may be of no issue leaves what is beside it
pub beside_told_left :
    {A : Type 0} (P : InFlight → A → Type 0) (n : ℕ) (slots : List (Option InFlight)) (ys : List (Option A))
    → EachBeside P slots ys → EachBeside P (without_left (issue_told n) slots) ys
beside_told_left P n slots ys all = beside_kept_by P n (n == 0) slots ys all

beside_told_by :
    (P : InFlight → Completion → Type 0) (n : ℕ) (b : Bool) (slots : List (Option InFlight)) (ys : List (Option Completion))
    → EachBeside P slots ys
    → EachBeside P (without_left (if b then None else Some n) slots) (but_left (if b then None else Some n) slots ys)
beside_told_by P n true slots ys all = all
beside_told_by P n false slots ys all = beside_without P n slots ys all

-- an answer that may be of no issue takes its end along
pub beside_told :
    (P : InFlight → Completion → Type 0) (n : ℕ) (slots : List (Option InFlight)) (ys : List (Option Completion))
    → EachBeside P slots ys → EachBeside P (without_left (issue_told n) slots) (but_left (issue_told n) slots ys)
beside_told P n slots ys all = beside_told_by P n (n == 0) slots ys all

-- nothing changes beside issues of other numbers
pub beside_other :
    {A : Type 0} (P Q : InFlight → A → Type 0) (n : ℕ) (slots : List (Option InFlight)) (ys : List (Option A)) → IsFresh n slots
    → ((f : InFlight) (y : A) → (f.number.n == n) ≡ false → P f y → Q f y) → EachBeside P slots ys → EachBeside Q slots ys
beside_other P Q n [] ys fresh old all = tt
beside_other P Q n (None ∷ slots) [] fresh old all = tt
beside_other P Q n (Some f ∷ slots) [] fresh old all = tt
beside_other P Q n (None ∷ slots) (y ∷ ys) fresh old all = beside_other P Q n slots ys fresh old all
beside_other P Q n (Some f ∷ slots) (None ∷ ys) fresh old all = beside_other P Q n slots ys fresh.1 old all
beside_other P Q n (Some f ∷ slots) (Some y ∷ ys) fresh old all =
    (old f y (other_issue n f fresh.0) all.0, beside_other P Q n slots ys fresh.1 old all.1)

-- something is kept under the tag of an issue
pub beside_set :
    {A : Type 0} (P Q : InFlight → A → Type 0) (value : A) (n tag : ℕ) (slots : List (Option InFlight)) (ys : List (Option A)) (f : InFlight)
    → AreApart slots → kept_at slots tag ≡ Some f → f.number.n ≡ n → ((g : InFlight) → g.number.n ≡ n → Q g value)
    → ((g : InFlight) (y : A) → (g.number.n == n) ≡ false → P g y → Q g y) → EachBeside P slots ys
    → EachBeside Q slots (slice_set ys tag (Some value))
beside_set P Q value n tag [] ys f apart here is new old all = tt
beside_set P Q value n zero (None ∷ slots) [] f apart here is new old all = tt
beside_set P Q value n zero (Some g ∷ slots) [] f apart here is new old all = tt
beside_set P Q value n (suc tag) (None ∷ slots) [] f apart here is new old all = tt
beside_set P Q value n (suc tag) (Some g ∷ slots) [] f apart here is new old all = tt
beside_set P Q value n zero (None ∷ slots) (y ∷ ys) f apart here is new old all = absurd (cc)
beside_set P Q value n zero (Some g ∷ slots) (None ∷ ys) f apart here is new old all =
    let same : g ≡ f = cc in
    let number : g.number.n ≡ n = ap (λ x. x.number.n) same ∙ is in
    (new g number, beside_other P Q n slots ys (subst (λ m. IsFresh m slots) number apart.0) old all)
beside_set P Q value n zero (Some g ∷ slots) (Some y ∷ ys) f apart here is new old all =
    let same : g ≡ f = cc in
    let number : g.number.n ≡ n = ap (λ x. x.number.n) same ∙ is in
    (new g number, beside_other P Q n slots ys (subst (λ m. IsFresh m slots) number apart.0) old all.1)
beside_set P Q value n (suc tag) (None ∷ slots) (y ∷ ys) f apart here is new old all =
    beside_set P Q value n tag slots ys f apart here is new old all
beside_set P Q value n (suc tag) (Some g ∷ slots) (None ∷ ys) f apart here is new old all =
    beside_set P Q value n tag slots ys f apart.1 here is new old all
beside_set P Q value n (suc tag) (Some g ∷ slots) (Some y ∷ ys) f apart here is new old all =
    let other = each_at (λ x. x.number.n ≢ g.number.n) slots tag f (each_fresh g.number.n slots apart.0) here in
    (old g y (other_issue n g (λ e. other (is ∙ sym e))) all.0, beside_set P Q value n tag slots ys f apart.1 here is new old all.1)
