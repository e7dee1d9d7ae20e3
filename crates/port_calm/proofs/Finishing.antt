-- A drive ends an issue, well.
use Rattle.std.proofs.Common.{◌≡◌, ◌≢◌, ◌∙◌, ℕ, ◌+◌, ◌==◌, ◌&&◌, Bool, true, false, not, cond, List, [], ◌∷◌, Option, None, Some, suc, zero, length, take, drop, slice_get, option_map, refl, sym, ap, subst, arith, ltb}
use Rattle.std.proofs.lemmas.Bool.{eqb-true, eq-eqb, ltb-true}
use Rattle.std.specs.List.{position_or_len}
use Rattle.std.specs.Prelude.{position}
use Rattle.ata_base.specs.declared.op.Op.TheVariants.{Read, Write, Verify, Flush, Power}
use Rattle.ata_base.specs.declared.op.Op.{Op}
use Rattle.ata_base.specs.declared.regs.Regs.{Regs}
use Rattle.ata_script.specs.declared.port_head.PortHead.{PortHead}
use Rattle.drive_model.specs.Holding.{issue_of, without_issue}
use Rattle.drive_model.specs.Sectors.{written, healed, least_bad}
use Rattle.drive_model.specs.View.{DriveView}
use Rattle.drive_model.specs.Told.{is_good_end, done_with, ended_with, with_done}
use Rattle.drive_model.specs.Work.{cause_from, cause_of_medium, cause_of, ending_at}
use Rattle.drive_model.specs.declared.assigned.Assigned.TheVariants.{Nothing}
use Rattle.drive_model.specs.declared.cause.Cause.TheVariants.{Good}
use Rattle.drive_model.specs.declared.held.Held.{Held}
use Rattle.drive_model.specs.declared.queued_error.QueuedError.{QueuedError}
use Rattle.host_tags.specs.Numbers.{is_issue}
use Rattle.host_tags.specs.Slots.{flight_at}
use Rattle.host_tags.specs.declared.in_flight.InFlight.{InFlight}
use Rattle.port_calm.proofs.Issuing.{holds_keeps}
use Rattle.port_calm.proofs.Lists.Changed.{It, Other}
use Rattle.ata_base.specs.Each.{Each}
use Rattle.ata_base.proofs.EachLemmas.{every_weaker, every_filter, every_kept}
use Rattle.port_past.proofs.EachAt.{every_changed}
use Rattle.port_past.proofs.PlaceSizes.{length_changed}
use Rattle.port_calm.proofs.Lists.{changed_get}
use Rattle.port_calm.proofs.Sight.{Sight, IsCalm, IsSound, HasFlight, end_at, holds}
use Rattle.port_calm.proofs.Slots.{not_same, where_at, find_passes, any_filter}
use Rattle.port_past.proofs.Sizes.{length_where}
use Rattle.port_past.specs.ByTag.{set_where}
use Rattle.port_past.specs.Links.{linked_at}
use Rattle.port_past.specs.Places.{changed_at, changed_at_some}
use Rattle.port_past.specs.declared.completion.Completion.{Completion}

-- ---- no sector is bad

none_bad : (bad : List Bool) → Each (λ b. b ≡ false) bad → position_or_len (λ b. b) bad ≡ length bad
none_bad [] h = refl
none_bad (b ∷ bad) h = rw h.0 (omega (arith, none_bad bad h.1))

each_take : (n : ℕ) (bad : List Bool) → Each (λ b. b ≡ false) bad → Each (λ b. b ≡ false) (take n bad)
each_take zero bad h = tt
each_take (suc n) [] h = tt
each_take (suc n) (b ∷ bad) h = (h.0, each_take n bad h.1)

each_drop : (n : ℕ) (bad : List Bool) → Each (λ b. b ≡ false) bad → Each (λ b. b ≡ false) (drop n bad)
each_drop zero bad h = h
each_drop (suc n) [] h = tt
each_drop (suc n) (b ∷ bad) h = each_drop n bad h.1

each_written : (lba count : ℕ) (bad : List Bool) → Each (λ b. b ≡ false) bad → Each (λ b. b ≡ false) (written lba count false bad)
each_written zero zero [] h = tt
each_written zero zero (b ∷ bad) h = h
each_written zero (suc count) [] h = tt
each_written zero (suc count) (b ∷ bad) h = (refl, each_written zero count bad h.1)
each_written (suc lba) zero [] h = tt
each_written (suc lba) zero (b ∷ bad) h = (h.0, each_written lba zero bad h.1)
each_written (suc lba) (suc count) [] h = tt
each_written (suc lba) (suc count) (b ∷ bad) h = (h.0, each_written lba (suc count) bad h.1)

each_healed : (op : Op) (bad : List Bool) → Each (λ b. b ≡ false) bad → Each (λ b. b ≡ false) (healed op bad)
each_healed (Read lba count) bad h = h
each_healed (Write lba count stamp) bad h = each_written lba count bad h
each_healed (Verify lba count) bad h = h
each_healed Flush bad h = h
each_healed Power bad h = h

not_below : (n : ℕ) → (c : Bool) → (ltb n n) ≡ c → c ≡ false
not_below n true is = absurd (omega (arith, ltb-true n n is))
not_below n false is = refl

no_place : (bad : List Bool) → Each (λ b. b ≡ false) bad → position (λ b. b) bad ≡ None
no_place bad h = rw (none_bad bad h) (rw (not_below (length bad) _ refl) refl)

none_least : (lba count : ℕ) (bad : List Bool) → Each (λ b. b ≡ false) bad → least_bad lba count bad ≡ None
none_least lba count bad h =
    ap (option_map (λ k. lba + k)) (no_place (take count (drop lba bad)) (each_take count (drop lba bad) (each_drop lba bad h)))

good_medium : (op : Op) (bad : List Bool) → Each (λ b. b ≡ false) bad → cause_of_medium op bad ≡ Good
good_medium (Read lba count) bad h = ap ending_at (none_least lba count bad h)
good_medium (Write lba count stamp) bad h = refl
good_medium (Verify lba count) bad h = ap ending_at (none_least lba count bad h)
good_medium Flush bad h = refl
good_medium Power bad h = refl

-- an issue without a fault ends well on good sectors
pub good_cause : (x : Held) (bad : List Bool) → x.assigned ≡ Nothing → Each (λ b. b ≡ false) bad → cause_of x bad ≡ Good
good_cause x bad unhurt h = ap (λ a. cause_from a x.op bad) unhurt ∙ good_medium x.op bad h

not_queued : (b : Bool) (e was : Option QueuedError) → cond (b && false) e was ≡ was
not_queued true e was = refl
not_queued false e was = refl

done_sound : (regs : Regs) (x : Held) (v : DriveView) → IsSound v → IsSound (done_with true regs x v)
done_sound regs x v h = record {
  counts = h.counts;
  going = not_queued x.queued _ v.stopped ∙ h.going;
  good = each_healed x.op v.bad h.good;
  ready = every_filter (λ (y : Held). y.assigned ≡ Nothing) _ v.held h.ready;
}

ended_sound : (regs : Regs) (good : Bool) (o : Option Held) (v : DriveView) → is_good_end regs.status regs.error regs.lba ≡ good → good ≡ true → IsSound v → IsSound (ended_with regs o v)
ended_sound regs good None v is well h = h
ended_sound regs good (Some x) v is well h = subst (λ b. IsSound (done_with b regs x v)) (sym (is ∙ well)) (done_sound regs x v h)

-- a sound drive that ended an issue well is sound
pub with_end_sound : (n : ℕ) (regs : Regs) (v : DriveView) → is_good_end regs.status regs.error regs.lba ≡ true → IsSound v → IsSound (with_done n regs v)
with_end_sound n regs v good h = ended_sound regs true (issue_of n v.held) v good refl h

worked_keeps :
    (m n : ℕ) (regs : Regs) (o : Option Held) (v : DriveView) → ((x : Held) → o ≡ Some x → x.number.n ≡ n) → m ≢ n
    → holds m v.held ≡ true → holds m (ended_with regs o v).held ≡ true
worked_keeps m n regs None v named other is = is
worked_keeps m n regs (Some x) v named other is =
    any_filter (λ (y : Held). y.number.n == m) (λ (y : Held). not (y.number.n == x.number.n)) v.held
    (λ y so. ap not (not_same y.number.n x.number.n (λ e. other (sym (eqb-true y.number.n m so) ∙ e ∙ named x refl)))) is

named_so : (n : ℕ) (v : DriveView) (x : Held) → issue_of n v.held ≡ Some x → x.number.n ≡ n
named_so n v x is = eqb-true x.number.n n (find_passes (λ (y : Held). y.number.n == n) v.held x is)

-- another issue stays held
pub with_end_keeps : (m n : ℕ) (regs : Regs) (v : DriveView) → m ≢ n → holds m v.held ≡ true → holds m (with_done n regs v).held ≡ true
with_end_keeps m n regs v other is = worked_keeps m n regs (issue_of n v.held) v (named_so n v) other is

nobody : (n : ℕ) (held : List Held) → issue_of n held ≡ None → Each (λ (x : Held). x.number.n ≢ n) held
nobody n [] none = tt
nobody n (x ∷ held) none = by (x.number.n == n) refl none (nobody n held) where
  by :
      (b : Bool) → (x.number.n == n) ≡ b → cond b (Some x) (issue_of n held) ≡ None
      → (issue_of n held ≡ None → Each (λ (y : Held). y.number.n ≢ n) held)
      → (x.number.n ≢ n) × Each (λ (y : Held). y.number.n ≢ n) held
  by true is none later = absurd (cc)
  by false is none later = (λ e. let so = eq-eqb x.number.n n e in cc, later none)

both : {A : Type 0} (P Q : A → Type 0) (xs : List A) → Each P xs → Each Q xs → Each (λ x. P x × Q x) xs
both P Q [] h k = tt
both P Q (x ∷ xs) h k = ((h.0, k.0), both P Q xs h.1 k.1)

worked_leaves :
    (P : Held → Type 0) (n : ℕ) (regs : Regs) (o : Option Held) (v : DriveView) → ((x : Held) → o ≡ Some x → x.number.n ≡ n)
    → (o ≡ None → Each (λ (x : Held). x.number.n ≢ n) v.held) → Each P v.held
    → Each (λ (x : Held). P x × (x.number.n ≢ n)) (ended_with regs o v).held
worked_leaves P n regs None v named nobody h = both P (λ (x : Held). x.number.n ≢ n) v.held h (nobody refl)
worked_leaves P n regs (Some x) v named nobody h =
    every_weaker _ (λ (y : Held). P y × (y.number.n ≢ n))
    (λ y w. (w.0, λ e. let so = ap not (eq-eqb y.number.n x.number.n (e ∙ sym (named x refl))) in let kept = w.1 in cc))
    (without_issue x.number.n v.held)
    (every_kept P (λ (y : Held). not (y.number.n == x.number.n)) v.held h)

-- what is left held has other numbers
pub with_end_leaves :
    (P : Held → Type 0) (n : ℕ) (regs : Regs) (v : DriveView) → Each P v.held
    → Each (λ (x : Held). P x × (x.number.n ≢ n)) (with_done n regs v).held
with_end_leaves P n regs v h = worked_leaves P n regs (issue_of n v.held) v (named_so n v) (nobody n v.held) h

-- ---- the whole

abbrev pub finished_in : Sight → ℕ → Completion → Option ℕ → Sight
finished_in s n end l = record s {
  drives = changed_at_some l (with_done n end.regs) s.drives;
  ends = set_where (is_issue n) (Some end) s.slots s.ends;
}

module _ (head : PortHead) (s : Sight) (n : ℕ) (end : Completion) (d : ℕ) (h : IsCalm head s) (p : HasFlight s.still.links s.slots s.ends d n) (good : is_good_end end.regs.status end.regs.error end.regs.lba ≡ true) where
  -- the end under a tag
  end_now :
      (t : ℕ) → end_at (set_where (is_issue n) (Some end) s.slots s.ends) t
      ≡ cond (is_issue n (flight_at s.slots t)) (Some end) (end_at s.ends t)
  end_now t = where_at (is_issue n) (Some end) None s.slots s.ends t (h.long_slots ∙ sym h.long_ends) refl

  undone_before :
      (t : ℕ) (f : InFlight) → flight_at s.slots t ≡ Some f
      → end_at (set_where (is_issue n) (Some end) s.slots s.ends) t ≡ None → (end_at s.ends t ≡ None) × (f.number.n ≢ n)
  undone_before t f is undone =
      by (f.number.n == n) refl (sym (ap (λ slot. cond (is_issue n slot) (Some end) (end_at s.ends t)) is) ∙ sym (end_now t) ∙ undone) where
        by : (b : Bool) → (f.number.n == n) ≡ b → cond b (Some end) (end_at s.ends t) ≡ None → (end_at s.ends t ≡ None) × (f.number.n ≢ n)
        by true so none = absurd (cc)
        by false so none = (none, λ e. let yes = eq-eqb f.number.n n e in cc)

  undone_after :
      (t : ℕ) (f : InFlight) → flight_at s.slots t ≡ Some f → end_at s.ends t ≡ None → f.number.n ≢ n
      → end_at (set_where (is_issue n) (Some end) s.slots s.ends) t ≡ None
  undone_after t f is undone other =
      end_now t ∙ ap (λ slot. cond (is_issue n slot) (Some end) (end_at s.ends t)) is
      ∙ ap (λ b. cond b (Some end) (end_at s.ends t)) (not_same f.number.n n other) ∙ undone

  has_still :
      (e m : ℕ) → HasFlight s.still.links s.slots s.ends e m → m ≢ n
      → HasFlight s.still.links s.slots (set_where (is_issue n) (Some end) s.slots s.ends) e m
  has_still e m w other = record {
    tag = w.tag;
    flight = w.flight;
    here = w.here;
    same = w.same;
    undone = undone_after w.tag w.flight w.here w.undone (λ x. other (sym w.same ∙ x));
    linked = w.linked;
  }

  -- another drive doesn't hold it
  elsewhere : (e m : ℕ) → HasFlight s.still.links s.slots s.ends e m → e ≢ d → m ≢ n
  elsewhere e m w other same =
      let tags : w.tag ≡ p.tag = h.apart w.tag p.tag w.flight p.flight w.here p.here (w.same ∙ same ∙ sym p.same) in
      let there : flight_at s.slots p.tag ≡ Some w.flight = subst (λ t. flight_at s.slots t ≡ Some w.flight) tags w.here in
      let flights : w.flight ≡ p.flight = cc in
      let link : linked_at s.still.links p.flight.place ≡ Some e =
      subst (λ (f : InFlight). linked_at s.still.links f.place ≡ Some e) flights w.linked in
      let one : Some e ≡ Some d = sym link ∙ p.linked in
      other (cc)

  flown_all :
      (e : ℕ) (v : DriveView) → slice_get (changed_at d (with_done n end.regs) s.drives) e ≡ Some v
      → Each (λ (x : Held). HasFlight s.still.links s.slots (set_where (is_issue n) (Some end) s.slots s.ends) e x.number.n) v.held
  flown_all e v is =
      let P : Held → Type 0 = λ x. HasFlight s.still.links s.slots s.ends e x.number.n in
      let Q : Held → Type 0 = λ x. HasFlight s.still.links s.slots (set_where (is_issue n) (Some end) s.slots s.ends) e x.number.n in
      elim (changed_get d (with_done n end.regs) s.drives e v is) [
        | It w here there same ↦
            subst (λ (x : DriveView). Each Q x.held) (sym same)
            (every_weaker (λ x. P x × (x.number.n ≢ n)) Q (λ x k. has_still e x.number.n k.0 k.1) (with_done n end.regs w).held
            (with_end_leaves P n end.regs w (h.flown e w there)))
        | Other other there ↦
            every_weaker P Q (λ x k. has_still e x.number.n k (elsewhere e x.number.n k other)) v.held (h.flown e v there)
      ]

  pub finish_calm : IsCalm head (finished_in s n end (Some d))
  finish_calm = record {
    still = h.still;
    long_queues = h.long_queues;
    long_slots = h.long_slots;
    long_ends = length_where (is_issue n) (Some end) s.slots s.ends ∙ h.long_ends;
    long_drives = length_changed d (with_done n end.regs) s.drives ∙ h.long_drives;
    waits = h.waits;
    flies = h.flies;
    apart = h.apart;
    held = λ t f is undone.
        let before = undone_before t f is undone in
        holds_keeps s.drives (linked_at s.still.links f.place) f.number.n d (with_done n end.regs)
        (λ v. with_end_keeps f.number.n n end.regs v before.1) (h.held t f is before.0);
    sound = every_changed IsSound d (with_done n end.regs) s.drives (λ v. with_end_sound n end.regs v good) h.sound;
    flown = flown_all;
    claimed = h.claimed;
    here = h.here;
    told = h.told;
    few = h.few;
    once = h.once;
    known = h.known;
    least = h.least;
  }

  -- the issue is ended
  pub finish_ended : end_at (set_where (is_issue n) (Some end) s.slots s.ends) p.tag ≡ Some end
  finish_ended =
      end_now p.tag ∙ ap (λ slot. cond (is_issue n slot) (Some end) (end_at s.ends p.tag)) p.here
      ∙ ap (λ b. cond b (Some end) (end_at s.ends p.tag)) (eq-eqb p.flight.number.n n p.same)
