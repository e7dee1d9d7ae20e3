-- A work step.
use Rattle.std.proofs.Common.{◌⊎◌, inl, inr, ◌≡◌, ◌≢◌, ◌∙◌, ℕ, ◌%◌, Bool, true, false, not, cond, filter, if◌then◌else◌, List, [], ◌∷◌, Option, None, Some, length, slice_get, slice_set, option_and_then, refl, sym, ap, subst, arith, mod-lt}
use Rattle.std.specs.Option.{option_map_or}
use Rattle.ata_base.specs.declared.issue_no.IssueNo.{IssueNo}
use Rattle.ata_base.specs.declared.op.Op.TheVariants.{Read, Write, Verify, Flush, Power}
use Rattle.ata_base.specs.declared.op.Op.{Op}
use Rattle.ata_script.specs.declared.port_head.PortHead.{PortHead}
use Rattle.ata_trace.specs.Event.Event.{Entered, Told}
use Rattle.ata_trace.specs.Event.{Event, onto}
use Rattle.ata_trace.specs.declared.act.Act.TheVariants.{Done, Raised}
use Rattle.ata_trace.specs.declared.step.Step.TheVariants.{Work}
use Rattle.ata_trace.specs.declared.who.Who.{Who}
use Rattle.drive_model.specs.Holding.{is_hung, workable, picked_of, picked}
use Rattle.drive_model.specs.View.{DriveView}
use Rattle.drive_model.specs.Work.{act_of, cause_of, registers_of, good_registers, registers}
use Rattle.drive_model.specs.declared.assigned.Assigned.TheVariants.{Nothing}
use Rattle.drive_model.specs.declared.cause.Cause.TheVariants.{Good}
use Rattle.drive_model.specs.declared.cause.Cause.{Cause}
use Rattle.drive_model.specs.declared.held.Held.{Held}
use Rattle.drive_model.specs.declared.queued_error.QueuedError.{QueuedError}
use Rattle.host_tags.specs.Numbers.{is_issue}
use Rattle.host_tags.specs.Slots.{flight_at}
use Rattle.host_tags.specs.declared.in_flight.InFlight.{InFlight}
use Rattle.port_calm.proofs.Finishing.{good_cause, finish_calm, finish_ended}
use Rattle.ata_base.specs.Each.{Each}
use Rattle.ata_base.proofs.EachLemmas.{every_at, get_within}
use Rattle.port_calm.proofs.Sight.{Sight, sight, IsCalm, IsSound, HasFlight, end_at, holds, holds_in}
use Rattle.port_calm.proofs.Standing.{Stands, Goes, same_goes}
use Rattle.port_past.specs.ByTag.{set_where}
use Rattle.port_past.specs.Causes.{tferr}
use Rattle.port_past.specs.Drives.{drives}
use Rattle.drive_model.specs.Told.{is_good_end, with_done}
use Rattle.port_past.specs.Completions.{completions, worker_stamps}
use Rattle.port_past.specs.Line.{is_line_up}
use Rattle.port_past.specs.Links.{links, linked_at}
use Rattle.port_past.specs.Places.{changed_at_some}
use Rattle.port_past.specs.Slots.{slots}
use Rattle.port_past.specs.declared.completion.Completion.{Completion}
use Rattle.eh_autopsy.specs.declared.failed_issue.FailedIssue.{FailedIssue}
use Rattle.port_rules.specs.Told.{raised_acts}
use Rattle.port_rules.specs.Work.{ended_acts, worked_acts, work_acts}
use Rattle.drive_model.proofs.Picked.{picked_each}

-- an issue is completed
pub record DoneAny (slots : List (Option InFlight)) (completions : List (Option Completion)) : Type 0 where
  pub tag : ℕ
  pub flight : InFlight
  pub end : Completion
  pub here : flight_at slots tag ≡ Some flight
  pub done : end_at completions tag ≡ Some end

-- the drive at a place holds an issue
pub record HoldsAny (head : PortHead) (past : List Event) (x : ℕ) : Type 0 where
  pub number : ℕ
  pub is : holds_in (drives head past) (linked_at (links head past) x) number ≡ true

-- what the work at a place leaves
pub record Worked (head : PortHead) (past later : List Event) (y : ℕ) : Type 0 where
  pub goes : Goes head past later
  pub keeps : DoneAny (slots past) (completions head past) → DoneAny (slots later) (completions head later)
  pub hope : (x : ℕ) → HoldsAny head past x → DoneAny (slots later) (completions head later) ⊎ (HoldsAny head later x × (x ≢ y))

-- a sound drive can work on all that it holds
all_workable : (held : List Held) → Each (λ (x : Held). x.assigned ≡ Nothing) held → filter (λ (x : Held). not (is_hung x.assigned)) held ≡ held
all_workable [] h = refl
all_workable (x ∷ held) h =
    ap (λ a. cond (not (is_hung a)) (x ∷ filter (λ (y : Held). not (is_hung y.assigned)) held) (filter (λ (y : Held). not (is_hung y.assigned)) held)) h.0
    ∙ ap (λ xs. x ∷ xs) (all_workable held h.1)

workable_all : (stopped : Option QueuedError) (held : List Held) → stopped ≡ None → Each (λ (x : Held). x.assigned ≡ Nothing) held → workable stopped held ≡ held
workable_all None held going h = all_workable held h
workable_all (Some e) held going h = absurd (cc)

picks : (pick : ℕ) (v : DriveView) → IsSound v → picked pick v ≡ picked_of pick v.held
picks pick v h = ap (picked_of pick) (workable_all v.stopped v.held h.going h.ready)

-- a drive that holds something picks something
picked_some : (pick : ℕ) (held : List Held) (n : ℕ) → holds n held ≡ true → picked_of pick held ≡ None → ⊥
picked_some pick [] n is none = cc
picked_some pick (y ∷ held) n is none =
    let some = get_within (y ∷ held) (pick % length (y ∷ held)) (mod-lt pick {m = length (y ∷ held)} (omega arith)) in
    let there = some.1 in cc

good_end : (op : Op) → is_good_end (good_registers op).status (good_registers op).error (good_registers op).lba ≡ true
good_end (Read lba count) = refl
good_end (Write lba count stamp) = refl
good_end (Verify lba count) = refl
good_end Flush = refl
good_end Power = refl

good_told : (c : Cause) (op : Op) → c ≡ Good → is_good_end (registers_of c op).status (registers_of c op).error (registers_of c op).lba ≡ true
good_told c op is = subst (λ c. is_good_end (registers_of c op).status (registers_of c op).error (registers_of c op).lba ≡ true) (sym is) (good_end op)

-- as the events tell it
abbrev done_as : Sight → Bool → List (Option FailedIssue) → ℕ → Completion → Option ℕ → Sight
done_as s good failed n end l = record s {
  still = record s.still { failures = if good then s.still.failures else failed };
  drives = changed_at_some l (with_done n end.regs) s.drives;
  ends = if good then set_where (is_issue n) (Some end) s.slots s.ends else s.ends;
}

record IsFinished (head : PortHead) (later : Sight) : Type 0 where
  pub calm : IsCalm head later
  pub done : DoneAny later.slots later.ends

module _ (head : PortHead) (past : List Event) (h : Stands head past) (time : ℕ) (who : Who) (seq place pick : ℕ) where
  rests :
      (later : List Event) → sight head later ≡ sight head past → Goes head past later
      → ((x : ℕ) → HoldsAny head past x → x ≢ place) → Worked head past later place
  rests later same goes other = record {
    goes = goes;
    keeps = subst (λ (s : Sight). DoneAny (slots past) (completions head past) → DoneAny s.slots s.ends) (sym same) (λ d. d);
    hope = λ x r. inr (
      record {
        number = r.number;
        is = subst (λ (s : Sight). holds_in s.drives (linked_at s.still.links x) r.number ≡ true) (sym same) r.is;
      },
      other x r,
    );
  }

  ended_by :
      (d : ℕ) (number : IssueNo) (status error lba count : ℕ)
      → HasFlight (links head past) (slots past) (completions head past) d number.n
      → linked_at (links head past) place ≡ Some d → is_good_end status error lba ≡ true
      → Worked head past (onto (Entered time who seq (Work place pick) ∷ past)
      (Done number status error lba count ∷ raised_acts past)) place
  ended_by d number status error lba count p linked good =
      let end : Completion = record { regs = registers status error lba count; stamps = worker_stamps number.n (linked_at (links head past) place) (drives head past) } in
      let failed : List (Option FailedIssue) = slice_set (tferr past) place (Some (record { number = number; regs = registers status error lba count })) in
      let s = sight head past in
      let done : IsFinished head (done_as s true failed number.n end (Some d)) = record {
        calm = finish_calm head s number.n end d h.calm p good;
        done = record {
          tag = p.tag;
          flight = p.flight;
          end = end;
          here = p.here;
          done = finish_ended head s number.n end d h.calm p good;
        };
      } in
      let told : IsFinished head (done_as s (is_good_end status error lba) failed number.n end (linked_at (links head past) place)) =
      subst (λ b. IsFinished head (done_as s b failed number.n end (linked_at (links head past) place))) (sym good)
      (subst (λ l. IsFinished head (done_as s true failed number.n end l)) (sym linked) done) in
      raise _ refl told where
        raise :
            (up : Bool) → is_line_up past ≡ up
            → IsFinished head (done_as (sight head past) (is_good_end status error lba)
            (slice_set (tferr past) place (Some (record { number = number; regs = registers status error lba count }))) number.n
            (record { regs = registers status error lba count; stamps = worker_stamps number.n (linked_at (links head past) place) (drives head past) })
            (linked_at (links head past) place))
            → Worked head past (onto (Told (Done number status error lba count) ∷ Entered time who seq (Work place pick) ∷ past) (if up then [] else Raised ∷ [])) place
        raise true is told = record {
          goes = record {
            stands = record { calm = told.calm; line = λ t f e here done. is; clean = (good, h.clean) };
            same = refl;
            fewer = omega arith;
          };
          keeps = λ k. told.done;
          hope = λ x r. inl told.done;
        }
        raise false is told = record {
          goes = record {
            stands = record { calm = told.calm; line = λ t f e here done. refl; clean = (tt, (good, h.clean)) };
            same = refl;
            fewer = omega arith;
          };
          keeps = λ k. told.done;
          hope = λ x r. inl told.done;
        }

  picked_by :
      (d : ℕ) (v : DriveView) (o : Option Held) → linked_at (links head past) place ≡ Some d → slice_get (drives head past) d ≡ Some v
      → picked pick v ≡ o
      → Worked head past (onto (Entered time who seq (Work place pick) ∷ past) (ended_acts past (act_of o v))) place
  picked_by d v None linked there is =
      let sound = every_at IsSound (drives head past) d v h.calm.sound there in
      rests _ refl (same_goes head past _ h refl refl (tt, h.clean))
      (λ x r same.
      let at = subst (λ y. holds_in (drives head past) (linked_at (links head past) y) r.number ≡ true) same r.is in
      let on = subst (λ l. holds_in (drives head past) l r.number ≡ true) linked at in
      let held = subst (λ o. option_map_or (λ (w : DriveView). holds r.number w.held) o false ≡ true) there on in
      picked_some pick v.held r.number held (sym (picks pick v sound) ∙ is))
  picked_by d v (Some x) linked there is =
      let sound = every_at IsSound (drives head past) d v h.calm.sound there in
      let from = sym (picks pick v sound) ∙ is in
      let p = picked_each (λ (y : Held). HasFlight (links head past) (slots past) (completions head past) d y.number.n) pick v.held x (h.calm.flown d v there) from in
      let unhurt = picked_each (λ (y : Held). y.assigned ≡ Nothing) pick v.held x sound.ready from in
      ended_by d x.number _ _ _ _ p linked (good_told (cause_of x v.bad) x.op (good_cause x v.bad unhurt sound.good))

  drive_by :
      (d : ℕ) (o : Option DriveView) → linked_at (links head past) place ≡ Some d → slice_get (drives head past) d ≡ o
      → Worked head past (onto (Entered time who seq (Work place pick) ∷ past) (worked_acts past pick o)) place
  drive_by d None linked there =
      rests _ refl (same_goes head past _ h refl refl (tt, h.clean))
      (λ x r same.
      let at = subst (λ y. holds_in (drives head past) (linked_at (links head past) y) r.number ≡ true) same r.is in
      let on = subst (λ l. holds_in (drives head past) l r.number ≡ true) linked at in
      let held = subst (λ o. option_map_or (λ (w : DriveView). holds r.number w.held) o false ≡ true) there on in
      cc)
  drive_by d (Some v) linked there = picked_by d v _ linked there refl

  link_by :
      (l : Option ℕ) → linked_at (links head past) place ≡ l
      → Worked head past (onto (Entered time who seq (Work place pick) ∷ past) (worked_acts past pick (option_and_then (slice_get (drives head past)) l))) place
  link_by None linked =
      rests _ refl (same_goes head past _ h refl refl (tt, h.clean))
      (λ x r same.
      let at = subst (λ y. holds_in (drives head past) (linked_at (links head past) y) r.number ≡ true) same r.is in
      let on = subst (λ l. holds_in (drives head past) l r.number ≡ true) linked at in
      cc)
  link_by (Some d) linked = drive_by d _ linked refl

  pub worked : Worked head past (onto (Entered time who seq (Work place pick) ∷ past) (work_acts head past place pick)) place
  worked = link_by _ refl
