-- What the drives of a port keep: their stamps are those of the law, and what they hold is what was issued.
use Rattle.std.proofs.Common.{◌≡◌, ◌≢◌, ◌∙◌, ℕ, ◌+◌, ◌<◌, ◌≤◌, ◌==◌, Bool, true, false, List, [], ◌∷◌, ◌++◌, map, Option, None, Some, option_map, option_and_then, option_to_list, suc, zero, length, replicate, slice_get, slice_index, refl, sym, ap, subst, arith, if◌then◌else◌}
use Rattle.std.specs.Option.{option_map_or, option_or}
use Rattle.std.proofs.lemmas.Bool.{eqb-true, eq-eqb, ne_eqb}
use Rattle.std.proofs.lemmas.List.Folds.{find-append}
use Rattle.ata_base.specs.declared.cmd.Cmd.{Cmd}
use Rattle.ata_base.specs.declared.identity.Identity.{Identity}
use Rattle.ata_base.specs.declared.issue_no.IssueNo.{IssueNo}
use Rattle.ata_base.specs.declared.op.Op.{Op}
use Rattle.ata_script.specs.declared.drive_head.DriveHead.{DriveHead}
use Rattle.ata_script.specs.declared.port_head.PortHead.{PortHead}
use Rattle.ata_trace.specs.Event.{Event}
use Rattle.ata_trace.specs.Event.Event.{Told}
use Rattle.ata_trace.specs.declared.act.Act.TheVariants.{Accepted, Issued, Done, Retried, ResetBegun, IdentAsked, Unplugged, Injected, Log, LogFailed, LogBadSum, LogNotQueued}
use Rattle.drive_model.specs.Holding.{issue_of, taken}
use Rattle.drive_model.specs.Log.{after_asking}
use Rattle.drive_model.specs.FreshAndReset.{fresh, emptied, reset_at}
use Rattle.drive_model.specs.View.{DriveView}
use Rattle.drive_model.specs.Work.{registers}
use Rattle.host_tags.specs.Slots.{lowest_free}
use Rattle.port_past.specs.Clock.{clock}
use Rattle.port_past.specs.Commands.{commands, command_of, submitted, counted}
use Rattle.port_past.specs.Attachment.{detachments}
use Rattle.port_past.specs.Drives.{drives, with_issue, with_fault}
use Rattle.drive_model.specs.declared.log_told.LogTold.{LogTold}
use Rattle.drive_model.specs.declared.log_told.LogTold.TheVariants.{Page, BadPage, NoPage}
use Rattle.drive_model.specs.Told.{is_good_end, done_with, ended_with, with_done, log_read}
use Rattle.port_past.specs.Issues.{issue_count}
use Rattle.port_past.specs.Links.{links, linked_at, plugged_at, worker}
use Rattle.port_past.specs.Places.{changed_at_some}
use Rattle.port_past.specs.Slots.{slots, is_queued_frame}
use Rattle.port_past.specs.Steps.{last_step}
use Rattle.port_facts.specs.Stamps.{issuer_of, issue_operation, drive_now, overwritten, stamp_of, sectors_of}
use Rattle.port_facts.specs.Allowed.{IsAllowed, MayEnd}
use Rattle.port_facts.proofs.Known.{command_counted}
use Rattle.ata_base.proofs.EachLemmas.{every_weaker, every_append, every_found}
use Rattle.port_past.proofs.EachAt.{EachAt, at_weaker, at_changed, at_changed_if}
use Rattle.port_facts.proofs.Keeping.{IsHeldFor, IsKept, alike_kept, emptied_kept, fault_kept, done_kept, later_kept, log_kept, other_drive, restamped, stamp_ended, this_drive}
use Rattle.drive_model.proofs.Picked.{apart_joined}

-- ---- what issues ask for

op_first : (found other : Option Cmd) (o : Op) → option_map (λ (c : Cmd). c.op) found ≡ Some o → option_map (λ (c : Cmd). c.op) (option_or found other) ≡ Some o
op_first None other o is = absurd (cc)
op_first (Some c) other o is = is

op_append : (issuer : Option ℕ) (was more : List Cmd) (o : Op)
    → option_and_then (λ id. option_map (λ (c : Cmd). c.op) (command_of id was)) issuer ≡ Some o
    → option_and_then (λ id. option_map (λ (c : Cmd). c.op) (command_of id (was ++ more))) issuer ≡ Some o
op_append None was more o is = absurd (cc)
op_append (Some id) was more o is =
    rw (find-append (λ (c : Cmd). c.id == id) was more) (op_first (command_of id was) (command_of id more) o is)

op_counted : (issuer : Option ℕ) (other : ℕ) (raised : Bool) (was : List Cmd) (o : Op)
    → option_and_then (λ id. option_map (λ (c : Cmd). c.op) (command_of id was)) issuer ≡ Some o
    → option_and_then (λ id. option_map (λ (c : Cmd). c.op) (command_of id (map (λ c. if c.id == other then counted raised c else c) was))) issuer ≡ Some o
op_counted None other raised was o is = absurd (cc)
op_counted (Some id) other raised was o is =
    command_counted (λ (c : Cmd). c.op) raised (λ c. refl) other id was ∙ is

not_new : (b : Bool) (id : ℕ) (was : Option ℕ) → b ≡ false → (if b then Some id else was) ≡ was
not_new true id was is = absurd (cc)
not_new false id was is = refl

-- ---- all drives

abbrev pub KeepsAll : PortHead → List Event → ℕ → DriveView → Type 0
KeepsAll head past d v = IsKept (sectors_of head d) (λ s. stamp_of head d s past) (issue_count past) (λ n. issue_operation n past) v

pub zeros : (n s : ℕ) → slice_index (replicate {A = ℕ} n 0) s ≡ 0
zeros zero s = refl
zeros (suc n) zero = refl
zeros (suc n) (suc s) = zeros n s

pub long_zeros : (n : ℕ) → length {A = ℕ} (replicate n 0) ≡ n
long_zeros zero = refl
long_zeros (suc n) = omega (arith, long_zeros n)

fresh_kept :
    (ds : List DriveHead) (long : ℕ → ℕ) → ((d : ℕ) → option_map_or (λ (h : DriveHead). h.identity.sectors) (slice_get ds d) (long d) ≡ long d)
    → EachAt (λ d v. IsKept (long d) (λ s. 0) 0 (λ n. None) v) (map (λ (h : DriveHead). fresh h.identity h.ready) ds)
fresh_kept [] long is = tt
fresh_kept (h ∷ ds) long is = (
  record {
    long_is = long_zeros h.identity.sectors ∙ is 0;
    same = λ s within. zeros h.identity.sectors s;
    holds = tt;
    apart = tt;
  },
  fresh_kept ds (λ d. long (suc d)) (λ d. is (suc d)),
)

pub sectors_at_boot :
    (found : Option DriveHead)
    → option_map_or (λ (h : DriveHead). h.identity.sectors) found (option_map_or (λ (i : Identity). i.sectors) (option_map (λ (h : DriveHead). h.identity) found) 0)
    ≡ option_map_or (λ (i : Identity). i.sectors) (option_map (λ (h : DriveHead). h.identity) found) 0
sectors_at_boot None = refl
sectors_at_boot (Some h) = refl

ends_issue :
    (head : PortHead) (past : List Event) (number : IssueNo) (status error lba count : ℕ) → MayEnd head number status error lba count past
    → EachAt (KeepsAll head past) (drives head past)
    → EachAt (KeepsAll head (Told (Done number status error lba count) ∷ past)) (changed_at_some (worker (last_step past) (links head past)) (with_done number.n (registers status error lba count)) (drives head past))
ends_issue head past number status error lba count m was =
    let event : Event = Told (Done number status error lba count) in
    let good = is_good_end status error lba in
    subst (λ w. EachAt (KeepsAll head (event ∷ past)) (changed_at_some w (with_done number.n (registers status error lba count)) (drives head past))) (sym m.works)
    (at_changed (KeepsAll head past) (KeepsAll head (event ∷ past)) m.drive (with_done number.n (registers status error lba count)) (drives head past)
    (λ v here kept.
    let same : v ≡ m.view = cc (here, m.is_view) in
    let held : issue_of number.n v.held ≡ Some m.held = subst (λ x. issue_of number.n x.held ≡ Some m.held) (sym same) m.holds in
    let found = every_found (IsHeldFor (issue_count past) (λ n. issue_operation n past)) (λ h. h.number.n == number.n) v.held m.held kept.holds held in
    let asks : issue_operation number.n past ≡ Some m.held.op =
    subst (λ n. issue_operation n past ≡ Some m.held.op) (eqb-true m.held.number.n number.n found.1) found.0.1 in
    subst (IsKept (sectors_of head m.drive) (λ s. stamp_of head m.drive s (event ∷ past)) (issue_count past) (λ n. issue_operation n past))
    (sym (ap (λ o. ended_with (registers status error lba count) o v) held))
    (restamped (sectors_of head m.drive) (λ s. stamp_ended good (issue_operation number.n past) s (stamp_of head m.drive s past))
    (λ s. stamp_of head m.drive s (event ∷ past)) (issue_count past) (λ n. issue_operation n past) (done_with good (registers status error lba count) m.held v)
    (λ s. this_drive good m.drive (drive_now head past) (overwritten s (issue_operation number.n past) (stamp_of head m.drive s past)) (stamp_of head m.drive s past) m.works)
    (done_kept (sectors_of head m.drive) (λ s. stamp_of head m.drive s past) (issue_count past) (λ n. issue_operation n past) m.held good
    (registers status error lba count) (issue_operation number.n past) v asks kept)))
    (λ d v other kept.
    restamped (sectors_of head d) (λ s. stamp_of head d s past) (λ s. stamp_of head d s (event ∷ past)) (issue_count past) (λ n. issue_operation n past) v
    (λ s. other_drive good m.drive d (drive_now head past) (overwritten s (issue_operation number.n past) (stamp_of head d s past)) (stamp_of head d s past) m.works other)
    kept)
    was)

taken_kept :
    (long : ℕ) (stamp : ℕ → ℕ) (last : ℕ) (op later : ℕ → Option Op) (number : IssueNo) (tag : ℕ) (o : Op) (queued : Bool) (v : DriveView)
    → number.n ≡ last + 1 → later number.n ≡ Some o → ((n : ℕ) (x : Op) → n ≤ last → op n ≡ Some x → later n ≡ Some x)
    → IsKept long stamp last op v → IsKept long stamp (last + 1) later (taken number tag o queued v)
taken_kept long stamp last op later number tag o queued v next asks keeps was =
    let kept = later_kept long stamp last (last + 1) op later v (omega arith) keeps was in
    record {
      long_is = was.long_is;
      same = was.same;
      holds = every_append (IsHeldFor (last + 1) later) v.held _ kept.holds ((omega (arith, next), asks), tt);
      apart = apart_joined v.held _ was.apart
          (every_weaker (IsHeldFor last op) (λ g. g.number.n < number.n) (λ g held. omega (arith, held.0, next)) v.held was.holds);
    }

takes_issue :
    (head : PortHead) (past : List Event) (id : ℕ) (number : IssueNo) (tag : ℕ) (fis : List ℕ) (later : ℕ → Option Op) (found : Option Cmd)
    → number.n ≡ issue_count past + 1 → later number.n ≡ option_map (λ (c : Cmd). c.op) found
    → ((n : ℕ) (x : Op) → n ≤ issue_count past → issue_operation n past ≡ Some x → later n ≡ Some x)
    → EachAt (KeepsAll head past) (drives head past)
    → EachAt (λ d v. IsKept (sectors_of head d) (λ s. stamp_of head d s past) (issue_count past + 1) later v)
    (with_issue found number tag fis (links head past) (drives head past))
takes_issue head past id number tag fis later None next asks keeps was =
    at_weaker (KeepsAll head past) _
    (λ d v kept. later_kept (sectors_of head d) (λ s. stamp_of head d s past) (issue_count past) (issue_count past + 1) (λ n. issue_operation n past) later v
    (omega arith) keeps kept) (drives head past) was
takes_issue head past id number tag fis later (Some c) next asks keeps was =
    at_changed_if (KeepsAll head past) (λ d v. IsKept (sectors_of head d) (λ s. stamp_of head d s past) (issue_count past + 1) later v)
    (linked_at (links head past) c.place) (taken number tag c.op (is_queued_frame fis)) (drives head past)
    (λ d v kept. taken_kept (sectors_of head d) (λ s. stamp_of head d s past) (issue_count past) (λ n. issue_operation n past) later number tag c.op
    (is_queued_frame fis) v next asks keeps kept)
    (λ d v kept. later_kept (sectors_of head d) (λ s. stamp_of head d s past) (issue_count past) (issue_count past + 1) (λ n. issue_operation n past) later v
    (omega arith) keeps kept) was

operation_issued :
    (id : ℕ) (number : IssueNo) (past : List Event)
    → option_and_then (λ x. option_map (λ (c : Cmd). c.op) (command_of x (commands past))) (if number.n == number.n then Some id else issuer_of number.n past)
    ≡ option_map (λ (c : Cmd). c.op) (command_of id (commands past))
operation_issued id number past = rw (eq-eqb number.n number.n refl) refl

operation_other :
    (id : ℕ) (number : IssueNo) (n : ℕ) (past : List Event) → n ≢ number.n
    → option_and_then (λ x. option_map (λ (c : Cmd). c.op) (command_of x (commands past))) (if number.n == n then Some id else issuer_of n past)
    ≡ issue_operation n past
operation_other id number n past other = rw (ne_eqb number.n n (λ e. other (sym e))) refl

-- a change of a drive that keeps its stamps, and what it holds or nothing
changes :
    (head : PortHead) (past : List Event) (at : Option ℕ) (change : DriveView → DriveView)
    → ((d : ℕ) (v : DriveView) → KeepsAll head past d v → KeepsAll head past d (change v))
    → EachAt (KeepsAll head past) (drives head past) → EachAt (KeepsAll head past) (changed_at_some at change (drives head past))
changes head past at change keeps was =
    at_changed_if (KeepsAll head past) (KeepsAll head past) at change (drives head past) keeps (λ d v kept. kept) was

logs_kept :
    (head : PortHead) (past : List Event) (place : ℕ) (told : LogTold) → EachAt (KeepsAll head past) (drives head past)
    → EachAt (KeepsAll head past) (changed_at_some (linked_at (links head past) place) (log_read (lowest_free (slots past)) told) (drives head past))
logs_kept head past place told was =
    changes head past (linked_at (links head past) place) (log_read (lowest_free (slots past)) told)
    (λ d v kept. log_kept (sectors_of head d) (λ s. stamp_of head d s past) (issue_count past) (λ n. issue_operation n past) (lowest_free (slots past)) told v kept) was

pub kept_all : (head : PortHead) (past : List Event) → IsAllowed head past → EachAt (KeepsAll head past) (drives head past)
kept_all head [] h =
    fresh_kept head.drives (sectors_of head) (λ d. sectors_at_boot (slice_get head.drives d))
kept_all head (Told (Accepted id) ∷ past) h =
    at_weaker (KeepsAll head past) (KeepsAll head (Told (Accepted id) ∷ past))
    (λ d v kept. later_kept (sectors_of head d) (λ s. stamp_of head d s past) (issue_count past) (issue_count past) (λ n. issue_operation n past)
    (λ n. issue_operation n (Told (Accepted id) ∷ past)) v (omega arith)
    (λ n o le is. op_append (issuer_of n past) (commands past) (option_to_list (submitted id (last_step past) (detachments past))) o is) kept)
    (drives head past) (kept_all head past h.1)
kept_all head (Told (Retried id number raised) ∷ past) h =
    at_weaker (KeepsAll head past) (KeepsAll head (Told (Retried id number raised) ∷ past))
    (λ d v kept. later_kept (sectors_of head d) (λ s. stamp_of head d s past) (issue_count past) (issue_count past) (λ n. issue_operation n past)
    (λ n. issue_operation n (Told (Retried id number raised) ∷ past)) v (omega arith)
    (λ n o le is. op_counted (issuer_of n past) id raised (commands past) o is) kept)
    (drives head past) (kept_all head past h.1)
kept_all head (Told (Issued id number tag deadline fis) ∷ past) h =
    let next : number.n ≡ issue_count past + 1 = h.0.next in
    takes_issue head past id number tag fis (λ n. issue_operation n (Told (Issued id number tag deadline fis) ∷ past)) (command_of id (commands past))
    next (operation_issued id number past)
    (λ n o le is. operation_other id number n past (λ e. absurd (omega (arith, e, le, next))) ∙ is) (kept_all head past h.1)
kept_all head (Told (Done number status error lba count) ∷ past) h =
    ends_issue head past number status error lba count h.0 (kept_all head past h.1)
kept_all head (Told (ResetBegun (Some place) attempt deadline) ∷ past) h =
    changes head past (plugged_at (links head past) place) (reset_at (record { n = clock past }))
    (λ d v kept. emptied_kept (sectors_of head d) (λ s. stamp_of head d s past) (issue_count past) (λ n. issue_operation n past) v (reset_at (record { n = clock past }) v) refl refl kept)
    (kept_all head past h.1)
kept_all head (Told (IdentAsked place attempt deadline) ∷ past) h =
    changes head past (linked_at (links head past) place) after_asking
    (λ d v kept. alike_kept (sectors_of head d) (λ s. stamp_of head d s past) (issue_count past) (λ n. issue_operation n past) v (after_asking v) refl refl kept)
    (kept_all head past h.1)
kept_all head (Told (Unplugged place) ∷ past) h =
    changes head past (plugged_at (links head past) place) emptied
    (λ d v kept. emptied_kept (sectors_of head d) (λ s. stamp_of head d s past) (issue_count past) (λ n. issue_operation n past) v (emptied v) refl refl kept)
    (kept_all head past h.1)
kept_all head (Told (Injected place) ∷ past) h =
    changes head past (plugged_at (links head past) place) (with_fault (last_step past))
    (λ d v kept. fault_kept (sectors_of head d) (λ s. stamp_of head d s past) (issue_count past) (λ n. issue_operation n past) (last_step past) v kept)
    (kept_all head past h.1)
kept_all head (Told (Log place tag status error lba count) ∷ past) h = logs_kept head past place (Page tag (registers status error lba count)) (kept_all head past h.1)
kept_all head (Told (LogFailed place) ∷ past) h = logs_kept head past place NoPage (kept_all head past h.1)
kept_all head (Told (LogBadSum place) ∷ past) h = logs_kept head past place BadPage (kept_all head past h.1)
kept_all head (Told (LogNotQueued place) ∷ past) h = logs_kept head past place BadPage (kept_all head past h.1)
kept_all head (event ∷ past) h = kept_all head past h.1
