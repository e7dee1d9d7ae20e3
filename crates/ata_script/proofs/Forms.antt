-- What was taken of a line word by word is what a form says of it.
use Rattle.std.proofs.Common.{◌≡◌, ℕ, suc, zero, Bool, true, false, ◌&&◌, ◌||◌, List, [], ◌∷◌, refl, sym, ◌∙◌, ap, subst, decimal}
use Rattle.std.specs.Prelude.{Some, if◌then◌else◌, slice_get, nat_le}
use Rattle.std.specs.Str.{bytes_eq}
use Rattle.std.proofs.lemmas.Slice.Eq.{bytes_eq-Decides}
use Rattle.ata_trace.specs.Parts.{first, later, none_left}
use Rattle.ata_trace.specs.Reading.{value_from, number_in}
use Rattle.ata_script.specs.Fields.{Field, is_word, is_number, among, nearest, fits_field, fits, number_right, numbers_right, name_right, names_right, least_broken, rule_by, spell_field, spell}
use Rattle.ata_script.specs.Fields.Field.{Small, OneOf, Number, NumberOr, Name}
use Rattle.ata_script.specs.Forms.{rule_among}
use Rattle.ata_script.specs.Taking.{State, start, taken, after, verdict}

-- tests, one after the other

pub both : (a b : Bool) → (a && b) ≡ true → (a ≡ true) × (b ≡ true)
both true b h = (refl, h)
both false b h = cc h

one_by_one : (a b c : Bool) → ((a && b) && c) ≡ (a && (b && c))
one_by_one true b c = refl
one_by_one false b c = refl

and_true : (a : Bool) → (a && true) ≡ a
and_true true = refl
and_true false = refl

-- the verdict on a line that was taken by a form is the rule that it breaks by that form

judged : (form : List Field) (s : State)
    → verdict (after form s) ≡ least_broken (s.form && fits form s.rest) (s.numbers && numbers_right form s.rest) (s.names && names_right form s.rest)
judged [] s = rw (and_true s.numbers, and_true s.names) refl
judged (field ∷ fields) s =
    judged fields (taken field s)
    ∙ (λ i. least_broken
    (one_by_one s.form (fits_field field (first s.rest)) (fits fields (later s.rest)) i)
    (one_by_one s.numbers (number_right field (first s.rest)) (numbers_right fields (later s.rest)) i)
    (one_by_one s.names (name_right field (first s.rest)) (names_right fields (later s.rest)) i))

pub verdict_is : (form : List Field) (words : List (List ℕ)) → verdict (after form (start words)) ≡ rule_by form words
verdict_is form words = judged form (start words)

-- where a form is right, its words are spelled from their meanings

spelled_number : (least most : ℕ) (word : List ℕ) → is_number least most word ≡ true → decimal (number_in least most word) ≡ word
spelled_number least most word right =
    let b = both (nat_le least (value_from 0 word) && nat_le (value_from 0 word) most) (bytes_eq (decimal (value_from 0 word)) word) right in
    rw b.0 ((bytes_eq-Decides (decimal (value_from 0 word)) word).0 b.1)

pub same_word : (word small : List ℕ) → bytes_eq word small ≡ true → small ≡ word
same_word word small e = sym ((bytes_eq-Decides word small).0 e)

nearest_is : (names : List (List ℕ)) (word : List ℕ) → among names word ≡ true → nearest names word ≡ word
nearest_is [] word f = cc f
nearest_is (small ∷ []) word f = same_word word small f
nearest_is (small ∷ next ∷ rest) word f = chosen (bytes_eq word small) refl f (nearest_is (next ∷ rest) word) where
  chosen : (b : Bool) → bytes_eq word small ≡ b → (b || among (next ∷ rest) word) ≡ true → (among (next ∷ rest) word ≡ true → nearest (next ∷ rest) word ≡ word)
      → (if b then small else nearest (next ∷ rest) word) ≡ word
  chosen true e g later = same_word word small e
  chosen false e g later = later g

spelled_or : (small : List ℕ) (least most : ℕ) (word : List ℕ) (b : Bool) → bytes_eq word small ≡ b → (b || is_number least most word) ≡ true
    → (if b then small else decimal (number_in least most word)) ≡ word
spelled_or small least most word true e n = same_word word small e
spelled_or small least most word false e n = spelled_number least most word n

spelled_field : (field : Field) (word : List ℕ) → fits_field field word ≡ true → number_right field word ≡ true → name_right field word ≡ true → spell_field field word ≡ word
spelled_field (Small small) word f n m = same_word word small (both (bytes_eq word small) (is_word word) f).0
spelled_field (OneOf names) word f n m = nearest_is names word (both (among names word) (is_word word) f).0
spelled_field (Number least most) word f n m = spelled_number least most word n
spelled_field (NumberOr small least most) word f n m = spelled_or small least most word (bytes_eq word small) refl n
spelled_field (Name most) word f n m = rw m refl

no_word : (field : Field) → fits_field field [] ≡ true → ⊥
no_word (Small small) f = cc (both (bytes_eq [] small) false f).1
no_word (OneOf names) f = cc (both (among names []) false f).1
no_word (Number least most) f = cc f
no_word (NumberOr small least most) f = cc f
no_word (Name most) f = cc f

pub spelled : (form : List Field) (words : List (List ℕ)) → fits form words ≡ true → numbers_right form words ≡ true → names_right form words ≡ true → spell form words ≡ words
spelled [] [] f n m = refl
spelled [] (word ∷ words) f n m = cc f
spelled (field ∷ fields) [] f n m = absurd (no_word field (both (fits_field field []) (fits fields []) f).0)
spelled (field ∷ fields) (word ∷ words) f n m =
    let bf = both (fits_field field word) (fits fields words) f in
    let bn = both (number_right field word) (numbers_right fields words) n in
    let bm = both (name_right field word) (names_right fields words) m in
    λ i. spelled_field field word bf.0 bn.0 bm.0 i ∷ spelled fields words bf.1 bn.1 bm.1 i

-- what fits a form has its small words at their places, and as many words

abbrev pub skip : ℕ → List (List ℕ) → List (List ℕ)
skip zero words = words
skip (suc k) words = skip k (later words)

abbrev pub fields_from : ℕ → List Field → List Field
fields_from zero form = form
fields_from (suc k) [] = []
fields_from (suc k) (field ∷ fields) = fields_from k fields

abbrev pub no_fields : List Field → Bool
no_fields [] = true
no_fields (field ∷ fields) = false

pub small_is : (form : List Field) (words : List (List ℕ)) (k : ℕ) (small : List ℕ) → fits form words ≡ true → slice_get form k ≡ Some (Small small)
    → first (skip k words) ≡ small
small_is [] words k small f at = cc at
small_is (field ∷ fields) words zero small f at =
    let same : field ≡ Small small = cc in
    let here : fits_field (Small small) (first words) ≡ true = subst (λ (it : Field). fits_field it (first words) ≡ true) same (both (fits_field field (first words)) (fits fields (later words)) f).0 in
    sym (same_word (first words) small (both (bytes_eq (first words) small) (is_word (first words)) here).0)
small_is (field ∷ fields) words (suc k) small f at = small_is fields (later words) k small (both (fits_field field (first words)) (fits fields (later words)) f).1 at

pub one_is : (form : List Field) (words : List (List ℕ)) (k : ℕ) (names : List (List ℕ)) → fits form words ≡ true → slice_get form k ≡ Some (OneOf names)
    → among names (first (skip k words)) ≡ true
one_is [] words k names f at = cc at
one_is (field ∷ fields) words zero names f at =
    let same : field ≡ OneOf names = cc in
    let here : fits_field (OneOf names) (first words) ≡ true = subst (λ (it : Field). fits_field it (first words) ≡ true) same (both (fits_field field (first words)) (fits fields (later words)) f).0 in
    (both (among names (first words)) (is_word (first words)) here).0
one_is (field ∷ fields) words (suc k) names f at = one_is fields (later words) k names (both (fits_field field (first words)) (fits fields (later words)) f).1 at

none_skipped : (k : ℕ) → none_left (skip k []) ≡ true
none_skipped zero = refl
none_skipped (suc k) = none_skipped k

pub over_at : (form : List Field) (words : List (List ℕ)) (k : ℕ) → fits form words ≡ true → none_left (skip k words) ≡ no_fields (fields_from k form)
over_at [] [] zero f = refl
over_at [] [] (suc k) f = none_skipped k
over_at [] (word ∷ words) k f = cc f
over_at (field ∷ fields) [] k f = absurd (no_word field (both (fits_field field []) (fits fields []) f).0)
over_at (field ∷ fields) (word ∷ words) zero f = refl
over_at (field ∷ fields) (word ∷ words) (suc k) f = over_at fields words k (both (fits_field field word) (fits fields words) f).1

-- what holds of each of some names holds of one among them
abbrev pub EachName : List (List ℕ) → (List ℕ → Type 0) → Type 0
EachName [] P = Unit {0}
EachName (name ∷ rest) P = P name × EachName rest P

pub of_each : (names : List (List ℕ)) (P : List ℕ → Type 0) (word : List ℕ) → EachName names P → among names word ≡ true → P word
of_each [] P word each f = cc f
of_each (small ∷ []) P word each f = subst P (same_word word small f) each.0
of_each (small ∷ next ∷ rest) P word each f = chosen (bytes_eq word small) refl f (of_each (next ∷ rest) P word each.1) where
  chosen : (b : Bool) → bytes_eq word small ≡ b → (b || among (next ∷ rest) word) ≡ true → (among (next ∷ rest) word ≡ true → P word) → P word
  chosen true e g later = subst P (same_word word small e) each.0
  chosen false e g later = later g

-- the first form that fits is the one of its small words

-- each of the forms that fits is this one
abbrev pub EachIs : List (List Field) → List (List ℕ) → List Field → Type 0
EachIs [] words form = Unit {0}
EachIs (f ∷ forms) words form = (fits f words ≡ true → f ≡ form) × EachIs forms words form

-- it is one of them
abbrev pub IsAmong : List (List Field) → List Field → Type 0
IsAmong forms form = (place : ℕ) × (slice_get forms place ≡ Some form)

none_fits : (forms : List (List Field)) (words : List (List ℕ)) (form : List Field) → EachIs forms words form → fits form words ≡ false → rule_among forms words ≡ Some 3
none_fits [] words form each unfit = refl
none_fits (f ∷ forms) words form each unfit = chosen (fits f words) refl (none_fits forms words form each.1 unfit) where
  chosen : (b : Bool) → fits f words ≡ b → rule_among forms words ≡ Some 3 → (if b then rule_by f words else rule_among forms words) ≡ Some 3
  chosen true e later = let no : false ≡ true = sym unfit ∙ ap (λ g. fits g words) (sym (each.0 e)) ∙ e in cc no
  chosen false e later = later

one_fits : (forms : List (List Field)) (words : List (List ℕ)) (form : List Field) (place : ℕ)
    → EachIs forms words form → slice_get forms place ≡ Some form → fits form words ≡ true → rule_among forms words ≡ rule_by form words
one_fits [] words form place each there fit = cc there
one_fits (f ∷ forms) words form zero each there fit = let same : f ≡ form = cc in rw (same, fit) refl
one_fits (f ∷ forms) words form (suc place) each there fit = chosen (fits f words) refl (one_fits forms words form place each.1 there fit) where
  chosen : (b : Bool) → fits f words ≡ b → rule_among forms words ≡ rule_by form words → (if b then rule_by f words else rule_among forms words) ≡ rule_by form words
  chosen true e later = ap (λ g. rule_by g words) (each.0 e)
  chosen false e later = later

pub rule_by_form : (forms : List (List Field)) (words : List (List ℕ)) (form : List Field) → EachIs forms words form → IsAmong forms form → rule_among forms words ≡ rule_by form words
rule_by_form forms words form each is = chosen (fits form words) refl where
  chosen : (b : Bool) → fits form words ≡ b → rule_among forms words ≡ rule_by form words
  chosen true e = one_fits forms words form is.0 each is.1 e
  chosen false e = none_fits forms words form each e ∙ rw e refl

-- one of two, of either kind
pub pick : {A B : Type 0} (P : A → B → Type 0) (c : Bool) (a b : A) (x y : B) → P a x → P b y → P (if c then a else b) (if c then x else y)
pick P true a b x y p q = p
pick P false a b x y p q = q

pub either : {B : Type 0} (P : B → Type 0) (c : Bool) (x y : B) → P x → P y → P (if c then x else y)
either P true x y p q = p
either P false x y p q = q
