-- The lines of a text, taken one by one.
use Rattle.std.proofs.Common.{arith, ◌≡◌, ℕ, ◌+◌, ◌*◌, ◌≤◌, Bool, true, false, codes, List, ◌∷◌, length, refl, sym, ◌∙◌, ap}
use Rattle.std.specs.Prelude.{Some, None, Result, Ok, Err}
use Rattle.std.specs.Str.{bytes_eq}
use Rattle.ata_trace.specs.Parts.{first, words_of}
use Rattle.ata_trace.specs.Reading.{number_in}
use Rattle.ata_trace.specs.Told.{after_two}
use Rattle.ata_trace.specs.declared.step.Step.{Step}
use Rattle.ata_script.specs.Draft.{DraftView, begun, is_in_order, with_item}
use Rattle.ata_script.specs.Fields.Field.{Small}
use Rattle.ata_script.specs.Forms.{is_head, an_actor, a_port, drive_form, step_form}
use Rattle.ata_script.specs.Grammar.{Line, is_skipped, lines_of, lines_size, first_rule, version_in, fault_of, said_of, later_fault, with_lines}
use Rattle.ata_script.specs.Items.{Item}
use Rattle.ata_script.specs.Items.Item.{Taken}
use Rattle.ata_script.specs.Reader.{Adds, Takes, Gives}
use Rattle.ata_script.specs.Taking.{State, start, taken, after, behind, verdict, is_second, port_form_for, port_item, drive_item, step_form_of, step_for, step_item, form_for, item_for}
use Rattle.ata_script.specs.declared.refusal.Refusal.{Refusal}
use Rattle.ata_script.specs.declared.refusal.Refusal.TheVariants.{Rule, Memory}
use Rattle.ata_script.proofs.Forms.{same_word}
use Rattle.ata_script.proofs.Rules.{verdict_of}
use Rattle.ata_script.proofs.Sizes.{line_room}

-- how far the lines were read: the faults of those left are all faults, and with them the draft says all
pub record SoFar (all : List Line) (begun : DraftView) (left : List Line) (number : ℕ) (said : DraftView) : Type 0 where
  pub faults : later_fault number said left ≡ later_fault 2 begun all
  pub says : with_lines said left ≡ with_lines begun all
  pub place : number + length left ≡ 2 + length all
  pub room : 8 * length said.steps + lines_size left ≤ 8 * length begun.steps + lines_size all

-- one line more was read
pub line_on : {A : Type 0} (all : List Line) (begun : DraftView) (left rest : List Line) (number : ℕ) (said next : DraftView) (line : Line) (done : A)
    → SoFar all begun left number said → left ≡ line ∷ rest → Gives said next line (Ok done) → SoFar all begun rest (number + 1) next
line_on all begun left rest number said next line done far left_is gives = record {
  faults = sym (rw (left_is, gives.0, gives.1) refl) ∙ far.faults;
  says = sym (rw (left_is, gives.1) refl) ∙ far.says;
  place = omega (arith, far.place, ap length left_is);
  room = omega (arith, far.room, ap lines_size left_is, line_room said next line gives.0 gives.1);
}

-- the item of a line that breaks no rule by its words was added, or stands out of order
pub item_taken : {A : Type 0} (before next : DraftView) (words : List (List ℕ)) (item : Item) (result : Result A Refusal)
    → verdict (after (form_for before.version words) (start words)) ≡ None → item ≡ item_for before.version words → Adds before next item result → Takes before next words result
item_taken before next words item (Ok done) right is adds =
    let in_order : is_in_order before (item_for before.version words) ≡ true = ap (is_in_order before) (sym is) ∙ adds.0 in
    (rw (sym (verdict_of before.version words) ∙ right, in_order) refl, adds.1 ∙ ap (with_item before) is)
item_taken before next words item (Err (Rule rule)) right is adds =
    let out : is_in_order before (item_for before.version words) ≡ false = ap (is_in_order before) (sym is) ∙ adds.0 in
    rw (sym (verdict_of before.version words) ∙ right, out, adds.1) refl
item_taken before next words item (Err Memory) right is adds = tt

-- a rule that is broken by the words is told
pub rule_told : (before : DraftView) (words : List (List ℕ)) (rule : ℕ) → verdict (after (form_for before.version words) (start words)) ≡ Some rule
    → Takes {A = Unit {0}} before before words (Err (Rule rule))
rule_told before words rule broken = rw (sym (verdict_of before.version words) ∙ broken) refl

-- the states behind the words of a line, and what they say, by its first word

pub port_after : (version : ℕ) (words : List (List ℕ)) (two : Bool) (begun end : State) → bytes_eq (first words) (codes "port") ≡ true
    → begun ≡ taken (Small (codes "port")) (start words) → two ≡ is_second version
    → end ≡ after (behind (port_form_for two (codes "port" ∷ begun.rest))) begun → end ≡ after (form_for version words) (start words)
port_after version words two begun end port one same is =
    let form : form_for version words ≡ port_form_for (is_second version) words = rw port refl in
    is
    ∙ ap (λ s. after (behind (port_form_for two (codes "port" ∷ s.rest))) s) one
    ∙ ap (λ t. after (port_form_for t words) (start words)) same
    ∙ ap (λ f. after f (start words)) (sym form)

pub port_says : (version : ℕ) (words : List (List ℕ)) (two : Bool) (begun : State) (item : Item) → bytes_eq (first words) (codes "port") ≡ true
    → begun ≡ taken (Small (codes "port")) (start words) → two ≡ is_second version
    → item ≡ port_item two (codes "port" ∷ begun.rest) → item ≡ item_for version words
port_says version words two begun item port one same is =
    let said : item_for version words ≡ port_item (is_second version) words = rw port refl in
    is ∙ ap (λ s. port_item two (codes "port" ∷ s.rest)) one ∙ ap (λ t. port_item t words) same ∙ sym said

pub drive_after : (version : ℕ) (words : List (List ℕ)) (begun end : State) → bytes_eq (first words) (codes "drive") ≡ true
    → begun ≡ taken (Small (codes "drive")) (start words) → end ≡ after (behind drive_form) begun → end ≡ after (form_for version words) (start words)
drive_after version words begun end drive one is =
    let word : first words ≡ codes "drive" = sym (same_word (first words) (codes "drive") drive) in
    let form : form_for version words ≡ drive_form = rw word refl in
    is ∙ ap (after (behind drive_form)) one ∙ ap (λ f. after f (start words)) (sym form)

pub drive_says : (version : ℕ) (words : List (List ℕ)) (begun : State) (item : Item) → bytes_eq (first words) (codes "drive") ≡ true
    → begun ≡ taken (Small (codes "drive")) (start words) → item ≡ drive_item (codes "drive" ∷ begun.rest) → item ≡ item_for version words
drive_says version words begun item drive one is =
    let word : first words ≡ codes "drive" = sym (same_word (first words) (codes "drive") drive) in
    let said : item_for version words ≡ drive_item words = rw word refl in
    is ∙ ap (λ s. drive_item (codes "drive" ∷ s.rest)) one ∙ sym said

pub step_after : (version : ℕ) (words : List (List ℕ)) (begun one two end : State) → is_head (first words) ≡ false
    → begun ≡ start words → one ≡ taken an_actor begun → two ≡ taken a_port one → end ≡ after (step_form_of two.rest) two → end ≡ after (form_for version words) (start words)
step_after version words begun one two end no_head begun_is one_is two_is is =
    let form : form_for version words ≡ step_form (step_form_of (after_two words)) = rw no_head refl in
    is
    ∙ ap (λ s. after (step_form_of s.rest) s) (two_is ∙ ap (taken a_port) (one_is ∙ ap (taken an_actor) begun_is))
    ∙ ap (λ f. after f (start words)) (sym form)

pub step_says : (version : ℕ) (words : List (List ℕ)) (begun one two : State) (actor port : ℕ) (step : Step) → is_head (first words) ≡ false
    → begun ≡ start words → one ≡ taken an_actor begun → two ≡ taken a_port one
    → actor ≡ number_in 0 31 (first begun.rest) → port ≡ number_in 0 7 (first one.rest) → step ≡ step_for two.rest → Taken actor port step ≡ item_for version words
step_says version words begun one two actor port step no_head begun_is one_is two_is actor_is port_is is =
    let said : item_for version words ≡ step_item words = rw no_head refl in
    let a = actor_is ∙ ap (λ s. number_in 0 31 (first s.rest)) begun_is in
    let p = port_is ∙ ap (λ s. number_in 0 7 (first s.rest)) (one_is ∙ ap (taken an_actor) begun_is) in
    let s = is ∙ ap (λ s. step_for s.rest) (two_is ∙ ap (taken a_port) (one_is ∙ ap (taken an_actor) begun_is)) in
    (λ i. Taken (a i) (p i) (s i)) ∙ sym said

-- a text is right, and says this, where its first line and those behind it are right and say it

pub all_right : (bytes : List ℕ) (line : Line) (rest : List Line) (version : ℕ) (said : DraftView) → lines_of bytes ≡ line ∷ rest
    → (first_rule line ≡ None) × (version ≡ version_in line.text) → said ≡ begun version → later_fault 2 said rest ≡ None → fault_of bytes ≡ None
all_right bytes line rest version said lines begins said_is right =
    rw (lines, begins.0) (ap (λ d. later_fault 2 d rest) (sym (said_is ∙ ap begun begins.1)) ∙ right)

pub all_says : (bytes : List ℕ) (line : Line) (rest : List Line) (version : ℕ) (said : DraftView) → lines_of bytes ≡ line ∷ rest
    → (first_rule line ≡ None) × (version ≡ version_in line.text) → said ≡ begun version → with_lines said rest ≡ said_of bytes
all_says bytes line rest version said lines begins said_is =
    rw lines (ap (λ d. with_lines d rest) (said_is ∙ ap begun begins.1))

-- a line that isn't skipped gives what its words give
pub gives_of : {A : Type 0} (before next : DraftView) (line : Line) (result : Result A Refusal) → line.ended ≡ true → is_skipped line.text ≡ false
    → Takes before next (words_of line.text) result → Gives before next line result
gives_of before next line (Ok done) ended kept takes = (rw (ended, kept) takes.0, takes.1 ∙ sym (rw kept refl))
gives_of before next line (Err (Rule rule)) ended kept takes = rw (ended, kept) takes
gives_of before next line (Err Memory) ended kept takes = tt
