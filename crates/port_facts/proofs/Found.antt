-- What is found on a drive: the issue that is picked, and the stamps that a read gives.
use Rattle.std.proofs.Common.{◌≡◌, ◌∙◌, ℕ, ◌+◌, ◌<◌, ◌==◌, nat_lt, Bool, true, false, List, [], Some, length, slice_index, refl, sym, ap, subst, arith, if◌then◌else◌}
use Rattle.std.specs.Option.{option_map_or}
use Rattle.std.proofs.lemmas.Bool.{eqb-true, ltb-true, ltb-false}
use Rattle.ata_base.specs.declared.issue_no.IssueNo.{IssueNo}
use Rattle.ata_base.specs.declared.op.Op.{Op}
use Rattle.ata_base.specs.declared.op.Op.TheVariants.{Read, Write, Verify, Flush, Power}
use Rattle.ata_script.specs.declared.port_head.PortHead.{PortHead}
use Rattle.ata_trace.specs.Event.{Event}
use Rattle.drive_model.specs.Sectors.{found, stamps_read}
use Rattle.drive_model.specs.View.{DriveView}
use Rattle.drive_model.specs.declared.held.Held.{Held}
use Rattle.port_past.specs.Drives.{drives}
use Rattle.port_past.specs.Completions.{worker_stamps, stamps_of}
use Rattle.port_past.specs.Issues.{issue_count}
use Rattle.port_past.specs.Links.{links, worker}
use Rattle.port_past.specs.Steps.{last_step}
use Rattle.port_facts.specs.Stamps.{issue_operation, drive_now, stamp_of, sectors_of, AreFound}
use Rattle.port_facts.specs.Allowed.{IsAllowed, MayEnd}
use Rattle.ata_base.proofs.EachLemmas.{every_found}
use Rattle.port_past.proofs.EachAt.{at_get}
use Rattle.port_facts.proofs.Keeping.{IsHeldFor}
use Rattle.port_facts.proofs.Kept.{KeepsAll, kept_all}
use Rattle.drive_model.proofs.Written.{found_at, found_length, past_any}

-- ---- what a read finds

read_by :
    (long : ℕ) (stamp : ℕ → ℕ) (xs : List ℕ) (s : ℕ) (within : Bool) → nat_lt s long ≡ within → length xs ≡ long
    → ((i : ℕ) → i < length xs → slice_index xs i ≡ stamp i) → slice_index xs s ≡ (if within then stamp s else 0)
read_by long stamp xs s true is longs same = same s (omega (arith, ltb-true s long is, longs))
read_by long stamp xs s false is longs same = past_any xs s (omega (arith, ltb-false s long is, longs))

-- what a drive gives for an operation is what the law finds
pub found_is :
    (head : PortHead) (past : List Event) (d : ℕ) (v : DriveView) → KeepsAll head past d v → (op : Op)
    → AreFound head d op past (stamps_read op v.stamps)
found_is head past d v kept (Read lba count) = (
  found_length lba count v.stamps,
  λ i within.
      found_at lba count i v.stamps within
      ∙ read_by (sectors_of head d) (λ s. stamp_of head d s past) v.stamps (lba + i) (nat_lt (lba + i) (sectors_of head d)) refl kept.long_is kept.same,
)
found_is head past d v kept (Write lba count stamp) = refl
found_is head past d v kept (Verify lba count) = refl
found_is head past d v kept Flush = refl
found_is head past d v kept Power = refl

-- the stamps that are given with an end
abbrev stamps_now : PortHead → ℕ → List Event → List ℕ
stamps_now head n past = worker_stamps n (worker (last_step past) (links head past)) (drives head past)

-- what is found as an issue ends
pub record IsFoundNow (head : PortHead) (n : ℕ) (past : List Event) : Type 0 where
  pub drive : ℕ
  pub op : Op
  pub works : drive_now head past ≡ Some drive
  pub asked : issue_operation n past ≡ Some op
  pub found : AreFound head drive op past (stamps_now head n past)

pub found_now :
    (head : PortHead) (past : List Event) → IsAllowed head past → (number : IssueNo) (status error lba count : ℕ)
    → MayEnd head number status error lba count past → IsFoundNow head number.n past
found_now head past h number status error lba count m =
    let kept = at_get (KeepsAll head past) (drives head past) m.drive m.view (kept_all head past h) m.is_view in
    let held = every_found (IsHeldFor (issue_count past) (λ n. issue_operation n past)) (λ g. g.number.n == number.n) m.view.held m.held kept.holds m.holds in
    let gives : stamps_now head number.n past ≡ stamps_read m.held.op m.view.stamps =
    ap (λ w. worker_stamps number.n w (drives head past)) m.works
    ∙ ap (λ v. option_map_or (stamps_of number.n) v []) m.is_view
    ∙ ap (λ g. option_map_or (λ (x : Held). stamps_read x.op m.view.stamps) g []) m.holds in
    record {
      drive = m.drive;
      op = m.held.op;
      works = m.works;
      asked = subst (λ n. issue_operation n past ≡ Some m.held.op) (eqb-true m.held.number.n number.n held.1) held.0.1;
      found = subst (AreFound head m.drive m.held.op past) (sym gives) (found_is head past m.drive m.view kept m.held.op);
    }
