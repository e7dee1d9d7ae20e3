-- What the autopsy hands to the tasks.
use Rattle.std.proofs.Common.{◌≡◌, ◌≢◌, ◌∙◌, ℕ, ◌+◌, ◌<◌, ◌≤◌, Bool, true, false, not, ◌||◌, ◌==◌, ◌^◌, List, [], ◌∷◌, Option, None, Some, inl, inr, suc, zero, length, flat_map, fold, slice_set, refl, sym, ap, subst, arith, if◌then◌else◌, bit_or}
use Rattle.std.specs.Prelude.{slice_index_or}
use Rattle.std.specs.List.{range_with_len}
use Rattle.std.proofs.lemmas.Bool.{eqb-true, eq-eqb}
use Rattle.ata_script.specs.declared.port_head.PortHead.{PortHead}
use Rattle.ata_trace.specs.Event.{Event, onto}
use Rattle.ata_trace.specs.declared.act.Act.{Act}
use Rattle.ata_base.specs.declared.link_action.LinkAction.TheVariants.{NoAction, Revalidate, Reset}
use Rattle.ata_base.specs.Kinds.{has, dev, hsm, timeout, ata_bus, system}
use Rattle.eh_autopsy.specs.Actions.{wants_reset, is_slower}
use Rattle.host_tags.specs.Slots.{flight_at, is_owned_queued_at}
use Rattle.host_tags.specs.declared.in_flight.InFlight.{InFlight}
use Rattle.link_model.specs.LinkView.{LinkView}
use Rattle.port_past.specs.Links.{linked_at}
use Rattle.port_past.specs.Slots.{slots}
use Rattle.port_past.specs.Tasks.{actions}
use Rattle.drive_model.specs.declared.log_told.LogTold.{LogTold}
use Rattle.drive_model.specs.declared.log_told.LogTold.TheVariants.{Page, BadPage, NoPage}
use Rattle.eh_autopsy.specs.Blame.{kinds_of_page, blame_of, kinds_of_noted}
use Rattle.port_rules.specs.Autopsy.{all_kinds, has_io_error, speed_action, action_of, autopsy_of, is_examined, examined_acts}
use Rattle.std.specs.Option.{option_map_or}
use Rattle.port_rules.specs.Blame.{is_owned_by, is_hotplugged, link_kinds, final_kinds, judged_from, page_told, log_kinds}
use Rattle.port_rules.specs.AutopsyView.{AutopsyView, autopsy_view}
use Rattle.port_stands.proofs.Autopsies.{actions_told}
use Rattle.port_stands.proofs.Bits.{HasHsm, right_has, reduced_has, has_is, fold_keeps}
use Rattle.ata_trace.proofs.Pasts.{onto_append}
use Rattle.port_stands.proofs.Within.{read_written_at}
use Rattle.port_past.proofs.PlaceSizes.{length_actions}

pub linked_within : (ls : List LinkView) (x d : ℕ) → linked_at ls x ≡ Some d → x < length ls
linked_within [] x d is = absurd (cc)
linked_within (l ∷ ls) zero d is = omega arith
linked_within (l ∷ ls) (suc x) d is = omega (arith, linked_within ls x d is)

-- ---- what is to be done at each place

pub read_back : {A : Type 0} (xs : List A) (x : ℕ) (y d : A) → x < length xs → slice_index_or (slice_set xs x y) x d ≡ y
read_back [] x y d within = absurd (omega arith)
read_back (z ∷ xs) zero y d within = refl
read_back (z ∷ xs) (suc x) y d within = read_back xs x y d (omega arith)

not_same : (a b : ℕ) → (a == b) ≡ false → a ≢ b
not_same a b e same = cc (e, eq-eqb a b same)

module _ (head : PortHead) (past : List Event) where
  one_place : (p : List Event) (k : ℕ) (b : Bool) → is_examined (autopsy_view head past k) ≡ b
      → actions (onto p (examined_acts (autopsy_view head past k))) ≡ (if b then slice_set (actions p) k (Some (action_of (autopsy_view head past k))) else actions p)
  one_place p k true is = ap (λ b. actions (onto p (if b then autopsy_of (autopsy_view head past k) else []))) is ∙ actions_told p (autopsy_view head past k)
  one_place p k false is = ap (λ b. actions (onto p (if b then autopsy_of (autopsy_view head past k) else []))) is

  other_place : (p : List Event) (k x : ℕ) → k ≢ x → slice_index_or (actions (onto p (examined_acts (autopsy_view head past k)))) x None ≡ slice_index_or (actions p) x None
  other_place p k x apart = by (is_examined (autopsy_view head past k)) refl
    where
      by : (b : Bool) → is_examined (autopsy_view head past k) ≡ b → slice_index_or (actions (onto p (examined_acts (autopsy_view head past k)))) x None ≡ slice_index_or (actions p) x None
      by true e = ap (λ r. slice_index_or r x None) (one_place p k true e) ∙ elim (read_written_at (actions p) k x (Some (action_of (autopsy_view head past k))) None) [
        | inl here ↦ absurd (apart (sym here.0))
        | inr there ↦ there.0
      ]
      by false e = ap (λ r. slice_index_or r x None) (one_place p k false e)

  later_places : (p : List Event) (k n x : ℕ) → x < k → slice_index_or (actions (onto p (flat_map (λ place. examined_acts (autopsy_view head past place)) (range_with_len k n)))) x None ≡ slice_index_or (actions p) x None
  later_places p k zero x below = refl
  later_places p k (suc n) x below =
      let acts : List Act = examined_acts (autopsy_view head past k) in
      ap (λ q. slice_index_or (actions q) x None) (onto_append p acts (flat_map (λ place. examined_acts (autopsy_view head past place)) (range_with_len (k + 1) n)))
      ∙ later_places (onto p acts) (k + 1) n x (omega arith) ∙ other_place p k x (λ e. above k x below e)
    where
      above : (k x : ℕ) → x < k → k ≡ x → ⊥
      above k x below e = omega (arith, below, e)

  -- at an examined place the autopsy says what to do
  pub said_at :
      (p : List Event) (k n x : ℕ) → k ≤ x → x < k + n → x < 15 → is_examined (autopsy_view head past x) ≡ true
      → slice_index_or (actions (onto p (flat_map (λ place. examined_acts (autopsy_view head past place)) (range_with_len k n)))) x None ≡ Some (action_of (autopsy_view head past x))
  said_at p k zero x low high few seen = absurd (omega (arith, low, high))
  said_at p k (suc n) x low high few seen =
      ap (λ q. slice_index_or (actions q) x None) (onto_append p (examined_acts (autopsy_view head past k)) (flat_map (λ place. examined_acts (autopsy_view head past place)) (range_with_len (k + 1) n)))
      ∙ by (k == x) refl (λ more. said_at (onto p (examined_acts (autopsy_view head past k))) (k + 1) n x more (omega (arith, high)) few seen)
    where
      differ : (a b : ℕ) → (a == b) ≡ false → a ≤ b → a + 1 ≤ b
      differ a b e low = omega (arith, low, not_same a b e)

      by : (b : Bool) → (k == x) ≡ b
          → (k + 1 ≤ x → slice_index_or (actions (onto (onto p (examined_acts (autopsy_view head past k))) (flat_map (λ place. examined_acts (autopsy_view head past place)) (range_with_len (k + 1) n)))) x None ≡ Some (action_of (autopsy_view head past x)))
          → slice_index_or (actions (onto (onto p (examined_acts (autopsy_view head past k))) (flat_map (λ place. examined_acts (autopsy_view head past place)) (range_with_len (k + 1) n)))) x None ≡ Some (action_of (autopsy_view head past x))
      by true e later =
          let same : k ≡ x = eqb-true k x e in
          later_places (onto p (examined_acts (autopsy_view head past k))) (k + 1) n x (omega (arith, same))
          ∙ ap (λ r. slice_index_or r x None) (one_place p k true (ap (λ y. is_examined (autopsy_view head past y)) same ∙ seen))
          ∙ ap (λ y. slice_index_or (slice_set (actions p) y (Some (action_of (autopsy_view head past y)))) x None) same
          ∙ read_back (actions p) x (Some (action_of (autopsy_view head past x))) None (omega (arith, few, length_actions p))
      by false e later = later (differ k x e low)

-- ---- a place whose log names no issue is reset

or_third : (a b c d : Bool) → c ≡ true → (a || b || c || d) ≡ true
or_third true true true d e = refl
or_third true false true d e = refl
or_third false true true d e = refl
or_third false false true d e = refl
or_third a b false d e = absurd (cc)

or_one : (a b c d : Bool) → a ≡ true → (a || b || c || d) ≡ true
or_one true b c d e = refl
or_one false b c d e = absurd (cc)

first_kinds : (a b c d : Bool) → a ≡ true → (a || b || c || d) ≡ true
first_kinds true b c d e = refl
first_kinds false b c d e = absurd (cc)

-- whether what a log told names an owned queued issue of the place
abbrev pub names_owned : ℕ → List (Option InFlight) → LogTold → Bool
names_owned place flights (Page named regs) = is_owned_queued_at place (flight_at flights named)
names_owned place flights told = false

-- where it doesn't, each issue is blamed with hsm
blames : (s : AutopsyView) (tag : ℕ) (told : LogTold) → names_owned s.place s.slots told ≡ false → s.log ≡ Some told → log_kinds s tag ≡ 2 ^ hsm
blames s tag told other is =
    ap (λ log. option_map_or (λ t. blame_of s.place s.slots tag (page_told t)) log 0) is ∙ by told other
  where
    by : (told : LogTold) → names_owned s.place s.slots told ≡ false → blame_of s.place s.slots tag (page_told told) ≡ 2 ^ hsm
    by (Page named regs) other = ap (λ b. if b then kinds_of_page (named == tag) regs else 2 ^ hsm) other
    by BadPage other = refl
    by NoPage other = refl

mine_kinds :
    (s : AutopsyView) (told : LogTold) (k : ℕ) (slots : List (Option InFlight)) (tag : ℕ) (f : InFlight) (kinds : ℕ) → flight_at slots tag ≡ Some f → is_owned_by s.place f ≡ true
    → s.log ≡ Some told → names_owned s.place s.slots told ≡ false → HasHsm (fold (λ kinds issue. bit_or kinds issue.kinds) kinds (judged_from s k slots))
mine_kinds s told k [] tag f kinds here mine log other = absurd (cc)
mine_kinds s told k (None ∷ slots) zero f kinds here mine log other = absurd (cc)
mine_kinds s told k (None ∷ slots) (suc tag) f kinds here mine log other = mine_kinds s told (k + 1) slots tag f kinds here mine log other
mine_kinds s told k (Some g ∷ slots) zero f kinds here mine log other =
    let same : g ≡ f = cc in
    by (is_owned_by s.place g) (ap (is_owned_by s.place) same ∙ mine)
  where
    blamed : HasHsm (final_kinds s k g)
    blamed =
        let known : ℕ = kinds_of_noted g s.noted in
        let logged : ℕ = log_kinds s k in
        reduced_has (bit_or (bit_or g.kinds.0 (link_kinds s)) (bit_or known logged))
        (right_has (bit_or g.kinds.0 (link_kinds s)) (bit_or known logged)
        (right_has known logged
        (subst HasHsm
        (sym (blames s k told other log))
        (record { bit = refl }))))

    by : (b : Bool) → b ≡ true → HasHsm (fold (λ kinds issue. bit_or kinds issue.kinds) kinds (if b then record { flight = g; kinds = final_kinds s k g } ∷ judged_from s (k + 1) slots else judged_from s (k + 1) slots))
    by true e = fold_keeps (judged_from s (k + 1) slots) (bit_or kinds (final_kinds s k g)) (right_has kinds (final_kinds s k g) blamed)
    by false e = absurd (cc)
mine_kinds s told k (Some g ∷ slots) (suc tag) f kinds here mine log other =
    by (is_owned_by s.place g) (λ more. mine_kinds s told (k + 1) slots tag f more here mine log other)
  where
    by : (b : Bool) → ((more : ℕ) → HasHsm (fold (λ kinds issue. bit_or kinds issue.kinds) more (judged_from s (k + 1) slots)))
        → HasHsm (fold (λ kinds issue. bit_or kinds issue.kinds) kinds (if b then record { flight = g; kinds = final_kinds s k g } ∷ judged_from s (k + 1) slots else judged_from s (k + 1) slots))
    by true later = later (bit_or kinds (final_kinds s k g))
    by false later = later kinds

-- the chosen of a place with an owned issue and a log that names none
pub unread_resets :
    (s : AutopsyView) (told : LogTold) (tag : ℕ) (f : InFlight) → flight_at s.slots tag ≡ Some f → is_owned_by s.place f ≡ true
    → s.log ≡ Some told → names_owned s.place s.slots told ≡ false → action_of s ≡ Reset
unread_resets s told tag f here mine log other =
    ap (λ b. if b then Reset else (if has_io_error s || not (all_kinds s == 0 || all_kinds s == 2 ^ dev) then Revalidate else NoAction))
    (or_third s.frozen (is_hotplugged s) (wants_reset (all_kinds s)) (is_slower (speed_action s))
    (first_kinds (has (all_kinds s) hsm) (has (all_kinds s) timeout) (has (all_kinds s) ata_bus) (has (all_kinds s) system)
    (has_is (all_kinds s) (mine_kinds s told 0 s.slots tag f (link_kinds s) here mine log other))))
