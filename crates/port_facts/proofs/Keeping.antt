-- What a drive keeps, and how each change of a drive leaves it: its stamps, and what it holds.
use Rattle.std.proofs.Common.{◌≡◌, ◌≢◌, ◌∙◌, inl, inr, ℕ, ◌+◌, ◌<◌, ◌≤◌, ◌==◌, ◌&&◌, nat_le, nat_lt, Bool, true, false, not, List, [], Option, Some, length, slice_index, refl, sym, ap, subst, arith, if◌then◌else◌}
use Rattle.std.specs.Option.{option_map_or}
use Rattle.std.proofs.lemmas.Bool.{eq-eqb, ne_eqb, leb-true, leb-false, ltb-true, ltb-false}
use Rattle.ata_base.specs.declared.fault.Fault.{Fault}
use Rattle.ata_base.specs.declared.fault.Fault.TheVariants.{Media}
use Rattle.ata_base.specs.declared.op.Op.{Op}
use Rattle.ata_base.specs.declared.op.Op.TheVariants.{Read, Write, Verify, Flush, Power}
use Rattle.ata_base.specs.declared.regs.Regs.{Regs}
use Rattle.ata_trace.specs.declared.step.Step.{Step}
use Rattle.ata_trace.specs.declared.step.Step.TheVariants.{Inject}
use Rattle.drive_model.specs.Inject.{injected}
use Rattle.drive_model.specs.Sectors.{stored, written}
use Rattle.drive_model.specs.View.{DriveView}
use Rattle.drive_model.specs.declared.held.Held.{Held}
use Rattle.port_past.specs.Drives.{with_fault}
use Rattle.drive_model.specs.Told.{is_good_end, done_with, log_read}
use Rattle.drive_model.specs.declared.log_told.LogTold.{LogTold}
use Rattle.drive_model.specs.declared.log_told.LogTold.TheVariants.{Page, BadPage, NoPage}
use Rattle.port_facts.specs.Stamps.{overwritten}
use Rattle.port_facts.specs.Allowed.{IsTelling}
use Rattle.ata_base.specs.Each.{Each}
use Rattle.ata_base.proofs.EachLemmas.{every_weaker, every_filter}
use Rattle.drive_model.proofs.Picked.{apart_filter}
use Rattle.drive_model.proofs.Stored.{stored_long, written_here, written_there}
use Rattle.drive_model.specs.Single.{AreSingle}

written_by :
    (lba count value : ℕ) (xs : List ℕ) (s : ℕ) (from to : Bool) → s < length xs → nat_le lba s ≡ from → nat_lt s (lba + count) ≡ to
    → slice_index (written lba count value xs) s ≡ (if from && to then value else slice_index xs s)
written_by lba count value xs s true true within from to =
    written_here lba count value xs s (leb-true lba s from) (ltb-true s (lba + count) to) within
written_by lba count value xs s true false within from to =
    written_there lba count value xs s (inr (ltb-false s (lba + count) to))
written_by lba count value xs s false to within from until =
    written_there lba count value xs s (inl (leb-false lba s from))

-- a drive stores what the law says
stored_is :
    (op : Op) (xs : List ℕ) (s : ℕ) → s < length xs → slice_index (stored op xs) s ≡ overwritten s (Some op) (slice_index xs s)
stored_is (Write lba count stamp) xs s within = written_by lba count stamp xs s _ _ within refl refl
stored_is (Read lba count) xs s within = refl
stored_is (Verify lba count) xs s within = refl
stored_is Flush xs s within = refl
stored_is Power xs s within = refl

-- ---- what a drive keeps

-- a held issue is one of those given out, and asks for what its command does
abbrev pub IsHeldFor : ℕ → (ℕ → Option Op) → Held → Type 0
IsHeldFor last op h = (h.number.n ≤ last) × (op h.number.n ≡ Some h.op)

pub record IsKept (long : ℕ) (stamp : ℕ → ℕ) (last : ℕ) (op : ℕ → Option Op) (v : DriveView) : Type 0 where
  pub long_is : length v.stamps ≡ long
  pub same : (s : ℕ) → s < length v.stamps → slice_index v.stamps s ≡ stamp s
  pub holds : Each (IsHeldFor last op) v.held
  pub apart : AreSingle v.held

-- the same stamps, and nothing held
pub emptied_kept :
    (long : ℕ) (stamp : ℕ → ℕ) (last : ℕ) (op : ℕ → Option Op) (v w : DriveView) → w.stamps ≡ v.stamps → w.held ≡ []
    → IsKept long stamp last op v → IsKept long stamp last op w
emptied_kept long stamp last op v w stamps held is = record {
  long_is = ap length stamps ∙ is.long_is;
  same = subst (λ xs. (s : ℕ) → s < length xs → slice_index xs s ≡ stamp s) (sym stamps) is.same;
  holds = subst (Each (IsHeldFor last op)) (sym held) tt;
  apart = subst AreSingle (sym held) tt;
}

-- the same stamps, and the same held
pub alike_kept :
    (long : ℕ) (stamp : ℕ → ℕ) (last : ℕ) (op : ℕ → Option Op) (v w : DriveView) → w.stamps ≡ v.stamps → w.held ≡ v.held
    → IsKept long stamp last op v → IsKept long stamp last op w
alike_kept long stamp last op v w stamps held is = record {
  long_is = ap length stamps ∙ is.long_is;
  same = subst (λ xs. (s : ℕ) → s < length xs → slice_index xs s ≡ stamp s) (sym stamps) is.same;
  holds = subst (Each (IsHeldFor last op)) (sym held) is.holds;
  apart = subst AreSingle (sym held) is.apart;
}

pub log_kept :
    (long : ℕ) (stamp : ℕ → ℕ) (last : ℕ) (op : ℕ → Option Op) (idle : Option ℕ) (told : LogTold) (v : DriveView)
    → IsKept long stamp last op v → IsKept long stamp last op (log_read idle told v)
log_kept long stamp last op idle (Page tag regs) v is = emptied_kept long stamp last op v (log_read idle (Page tag regs) v) refl refl is
log_kept long stamp last op idle BadPage v is = emptied_kept long stamp last op v (log_read idle BadPage v) refl refl is
log_kept long stamp last op idle NoPage v is = alike_kept long stamp last op v (log_read idle NoPage v) refl refl is

injected_kept :
    (long : ℕ) (stamp : ℕ → ℕ) (last : ℕ) (op : ℕ → Option Op) (fault : Fault) (v : DriveView)
    → IsKept long stamp last op v → IsKept long stamp last op (injected fault v)
injected_kept long stamp last op (Media lba) v is = alike_kept long stamp last op v (injected (Media lba) v) refl refl is
injected_kept long stamp last op fault v is = alike_kept long stamp last op v (injected fault v) refl refl is

pub fault_kept :
    (long : ℕ) (stamp : ℕ → ℕ) (last : ℕ) (op : ℕ → Option Op) (step : Step) (v : DriveView)
    → IsKept long stamp last op v → IsKept long stamp last op (with_fault step v)
fault_kept long stamp last op (Inject place fault) v is = injected_kept long stamp last op fault v is
fault_kept long stamp last op step v is = is

-- what issues ask for may be told later
pub later_kept :
    (long : ℕ) (stamp : ℕ → ℕ) (last more : ℕ) (op later : ℕ → Option Op) (v : DriveView) → last ≤ more
    → ((n : ℕ) (o : Op) → n ≤ last → op n ≡ Some o → later n ≡ Some o)
    → IsKept long stamp last op v → IsKept long stamp more later v
later_kept long stamp last more op later v le keeps is = record {
  long_is = is.long_is;
  same = is.same;
  holds = every_weaker (IsHeldFor last op) (IsHeldFor more later)
      (λ h held. (omega (arith, held.0, le), keeps h.number.n h.op held.0 held.1)) v.held is.holds;
  apart = is.apart;
}

pub telling_good :
    (status error lba count : ℕ) (regs : Regs) → IsTelling status error lba count regs
    → is_good_end status error lba ≡ is_good_end regs.status regs.error regs.lba
telling_good status error lba count regs t =
    sym (ap (λ x. is_good_end x regs.error regs.lba) t.status_same ∙ ap (λ x. is_good_end status x regs.lba) t.error_same ∙ ap (λ x. is_good_end status error x) t.lba_same)

-- the stamp of a sector once an issue of a drive has ended
abbrev pub stamp_ended : Bool → Option Op → ℕ → ℕ → ℕ
stamp_ended good op s was = if good then overwritten s op was else was

ended_stamps :
    (good : Bool) (op : Op) (xs : List ℕ) (stamp : ℕ → ℕ) (s : ℕ) → s < length xs → slice_index xs s ≡ stamp s
    → slice_index (if good then stored op xs else xs) s ≡ stamp_ended good (Some op) s (stamp s)
ended_stamps true op xs stamp s within is = stored_is op xs s within ∙ ap (overwritten s (Some op)) is
ended_stamps false op xs stamp s within is = is

ended_long : (good : Bool) (op : Op) (xs : List ℕ) → length (if good then stored op xs else xs) ≡ length xs
ended_long true op xs = stored_long op xs
ended_long false op xs = refl

pub done_kept :
    (long : ℕ) (stamp : ℕ → ℕ) (last : ℕ) (op : ℕ → Option Op) (h : Held) (good : Bool) (regs : Regs) (asks : Option Op) (v : DriveView)
    → asks ≡ Some h.op → IsKept long stamp last op v
    → IsKept long (λ s. stamp_ended good asks s (stamp s)) last op (done_with good regs h v)
done_kept long stamp last op h good regs asks v asked was =
    let longs = ended_long good h.op v.stamps in
    record {
      long_is = longs ∙ was.long_is;
      same = λ s within. subst (λ o. slice_index (if good then stored h.op v.stamps else v.stamps) s ≡ stamp_ended good o s (stamp s)) (sym asked)
          (ended_stamps good h.op v.stamps stamp s (omega (arith, within, longs)) (was.same s (omega (arith, within, longs))));
      holds = every_filter (IsHeldFor last op) (λ g. not (g.number.n == h.number.n)) v.held was.holds;
      apart = apart_filter (λ g. not (g.number.n == h.number.n)) v.held was.apart;
    }

-- the stamps of a drive that doesn't work
pub other_drive : (good : Bool) (w d : ℕ) (o : Option ℕ) (x y : ℕ) → o ≡ Some w → d ≢ w → (if good && option_map_or (λ e. e == d) o false then x else y) ≡ y
other_drive true w d o x y is other =
    rw is (rw (ne_eqb w d (λ e. other (sym e))) refl)
other_drive false w d o x y is other = refl

pub this_drive : (good : Bool) (w : ℕ) (o : Option ℕ) (x y : ℕ) → o ≡ Some w → (if good && option_map_or (λ e. e == w) o false then x else y) ≡ (if good then x else y)
this_drive true w o x y is = rw is (rw (eq-eqb w w refl) refl)
this_drive false w o x y is = refl

pub restamped :
    (long : ℕ) (stamp other : ℕ → ℕ) (last : ℕ) (op : ℕ → Option Op) (v : DriveView) → ((s : ℕ) → other s ≡ stamp s)
    → IsKept long stamp last op v → IsKept long other last op v
restamped long stamp other last op v is was = record {
  long_is = was.long_is;
  same = λ s within. was.same s within ∙ sym (is s);
  holds = was.holds;
  apart = was.apart;
}
