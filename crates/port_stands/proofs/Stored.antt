-- What ends is on its drive, and what is answered was stored there, where the drives hold what is on them.
use Rattle.std.proofs.Common.{◌≡◌, ◌∙◌, ℕ, ◌+◌, ◌<◌, Bool, true, false, ◌==◌, List, [], ◌∷◌, ◌++◌, Option, None, Some, refl, sym, ap, subst, arith, if◌then◌else◌}
use Rattle.std.proofs.lemmas.Bool.{eqb-true, leb-true, lt-ltb}
use Rattle.ata_base.proofs.EachLemmas.{every_found}
use Rattle.ata_base.specs.declared.issue_no.IssueNo.{IssueNo}
use Rattle.ata_base.specs.declared.op.Op.{Op}
use Rattle.ata_base.specs.declared.op.Op.TheVariants.{Read, Write, Verify, Flush, Power}
use Rattle.ata_script.specs.declared.port_head.PortHead.{PortHead}
use Rattle.ata_trace.specs.Event.{Event}
use Rattle.ata_trace.specs.Event.Event.{Told}
use Rattle.ata_trace.specs.declared.act.Act.TheVariants.{Issued, Done, AnsweredOk, AnsweredFailed, AnsweredNodev, Retried, Condemned, Expired, ResetBegun}
use Rattle.drive_model.specs.Told.{is_good_end}
use Rattle.drive_model.specs.Work.{registers}
use Rattle.drive_model.specs.declared.held.Held.{Held}
use Rattle.host_tags.specs.Marks.{condemned, expired}
use Rattle.host_tags.specs.declared.in_flight.InFlight.{InFlight}
use Rattle.port_facts.proofs.Found.{IsFoundNow, found_now}
use Rattle.port_facts.proofs.Keeping.{IsHeldFor}
use Rattle.port_facts.proofs.Kept.{KeepsAll, kept_all}
use Rattle.port_facts.specs.Allowed.{IsAllowed, MayEnd, MaySucceed}
use Rattle.port_facts.specs.Moments.{AtEach}
use Rattle.port_facts.specs.Stamps.{issue_operation, drive_now, stamp_of, sectors_of, AreFound}
use Rattle.port_past.proofs.BesideSlots.{EachBeside, beside_at, beside_weaker, beside_each, beside_put, beside_without, beside_marked, beside_kept, beside_told}
use Rattle.port_past.proofs.EachAt.{at_get}
use Rattle.port_past.specs.Commands.{commands, place_of}
use Rattle.port_past.specs.Completions.{completions, worker_stamps, with_completion}
use Rattle.port_past.specs.Drives.{drives}
use Rattle.port_past.specs.Issues.{issue_count}
use Rattle.port_past.specs.Links.{links, worker}
use Rattle.port_past.specs.Slots.{slots, fresh_flight}
use Rattle.port_past.specs.Steps.{last_step}
use Rattle.port_past.specs.declared.completion.Completion.{Completion}
use Rattle.host_tags.specs.EachFlight.{EachFlight}
use Rattle.port_rules.specs.Submit.{is_on_device}
use Rattle.port_stands.proofs.Fitting.{HoldsOwn, HoldOwn, WasOwn}
use Rattle.port_stands.specs.OnDrive.{EndsOnDrive, AreStored, WereStored, AreOnTheirDrive}

-- ---- an end

ends_here :
    (head : PortHead) (past : List Event) (number : IssueNo) (status error lba count : ℕ) → IsAllowed head past → HoldOwn head past
    → MayEnd head number status error lba count past → EndsOnDrive head number.n past
ends_here head past number status error lba count h own m =
    let kept = at_get (KeepsAll head past) (drives head past) m.drive m.view (kept_all head past h) m.is_view in
    let held = every_found (IsHeldFor (issue_count past) (λ n. issue_operation n past)) (λ g. g.number.n == number.n) m.view.held m.held kept.holds m.holds in
    let size : HoldsOwn (sectors_of head m.drive) m.view = at_get (λ d v. HoldsOwn (sectors_of head d) v) (drives head past) m.drive m.view own m.is_view in
    record {
      drive = m.drive;
      op = m.held.op;
      works = m.works;
      asked = subst (λ n. issue_operation n past ≡ Some m.held.op) (eqb-true m.held.number.n number.n held.1) held.0.1;
      on_drive = (every_found (λ (g : Held). is_on_device g.op (sectors_of head m.drive) ≡ true) (λ g. g.number.n == number.n) m.view.held m.held size.held m.holds).0;
    }

-- ---- an answer

stamps_stored :
    (head : PortHead) (drive : ℕ) (op : Op) (past : List Event) (stamps : List ℕ) → is_on_device op (sectors_of head drive) ≡ true
    → AreFound head drive op past stamps → AreStored head drive op past stamps
stamps_stored head drive (Read lba count) past stamps fits found = (
  found.0,
  λ i within.
      let less : lba + i < sectors_of head drive = omega (arith, within, leb-true (lba + count) (sectors_of head drive) fits) in
      (less, found.1 i within ∙ ap (λ b. if b then stamp_of head drive (lba + i) past else 0) (lt-ltb (lba + i) (sectors_of head drive) less)),
)
stamps_stored head drive (Write lba count stamp) past stamps fits found = found
stamps_stored head drive (Verify lba count) past stamps fits found = found
stamps_stored head drive Flush past stamps fits found = found
stamps_stored head drive Power past stamps fits found = found

-- the end of an issue was told in the past, and its stamps were stored
record IsStored (head : PortHead) (number : IssueNo) (end : Completion) (past : List Event) : Type 0 where
  pub since : List Event
  pub done : List Event
  pub status : ℕ
  pub error : ℕ
  pub lba : ℕ
  pub count : ℕ
  pub drive : ℕ
  pub op : Op
  pub ended : past ≡ since ++ Told (Done number status error lba count) ∷ done
  pub well : is_good_end status error lba ≡ true
  pub registers : end.regs ≡ registers status error lba count
  pub works : drive_now head done ≡ Some drive
  pub asked : issue_operation number.n done ≡ Some op
  pub stored : AreStored head drive op done end.stamps

abbrev HasStored : PortHead → List Event → InFlight → Completion → Type 0
HasStored head past f end = f.owned ≡ false → IsStored head f.number end past

stored_later : (head : PortHead) (number : IssueNo) (end : Completion) (event : Event) (past : List Event) → IsStored head number end past → IsStored head number end (event ∷ past)
stored_later head number end event past is = record {
  since = event ∷ is.since;
  done = is.done;
  status = is.status;
  error = is.error;
  lba = is.lba;
  count = is.count;
  drive = is.drive;
  op = is.op;
  ended = ap (λ p. event ∷ p) is.ended;
  well = is.well;
  registers = is.registers;
  works = is.works;
  asked = is.asked;
  stored = is.stored;
}

lifted :
    (head : PortHead) (event : Event) (past : List Event) → EachBeside (HasStored head past) (slots past) (completions head past)
    → EachBeside (HasStored head (event ∷ past)) (slots past) (completions head past)
lifted head event past was =
    beside_weaker (HasStored head past) (HasStored head (event ∷ past)) (λ f end is free. stored_later head f.number end event past (is free)) (slots past) (completions head past) was

-- what is found as an issue ends on its drive was stored there
record IsStoredNow (head : PortHead) (n : ℕ) (past : List Event) : Type 0 where
  pub drive : ℕ
  pub op : Op
  pub works : drive_now head past ≡ Some drive
  pub asked : issue_operation n past ≡ Some op
  pub stored : AreStored head drive op past (worker_stamps n (worker (last_step past) (links head past)) (drives head past))

stored_now : (head : PortHead) (past : List Event) (n : ℕ) → IsFoundNow head n past → EndsOnDrive head n past → IsStoredNow head n past
stored_now head past n found ends =
    let drive : ends.drive ≡ found.drive = cc (ends.works, found.works) in
    let op : ends.op ≡ found.op = cc (ends.asked, found.asked) in
    record {
      drive = found.drive;
      op = found.op;
      works = found.works;
      asked = found.asked;
      stored = stamps_stored head found.drive found.op past _ (subst (λ o. is_on_device o (sectors_of head found.drive) ≡ true) op (subst (λ d. is_on_device ends.op (sectors_of head d) ≡ true) drive ends.on_drive)) found.found;
    }

ends_well :
    (head : PortHead) (past : List Event) (number : IssueNo) (status error lba count : ℕ) (good : Bool)
    → is_good_end status error lba ≡ good → IsStoredNow head number.n past → EachFlight (λ f. Unit {0}) (slots past)
    → EachBeside (HasStored head past) (slots past) (completions head past)
    → EachBeside (HasStored head (Told (Done number status error lba count) ∷ past)) (slots past)
    (with_completion number.n good
    (record { regs = registers status error lba count; stamps = worker_stamps number.n (worker (last_step past) (links head past)) (drives head past) })
    (slots past) (completions head past))
ends_well head past number status error lba count false is now each was = lifted head (Told (Done number status error lba count)) past was
ends_well head past number status error lba count true is now each was =
    let event : Event = Told (Done number status error lba count) in
    let end : Completion = record { regs = registers status error lba count; stamps = worker_stamps number.n (worker (last_step past) (links head past)) (drives head past) } in
    beside_kept (HasStored head past) (λ f. Unit {0}) (HasStored head (event ∷ past)) end number.n (slots past) (completions head past)
    (λ f same one free.
    let alike : number ≡ f.number = ap (λ n. record { n = n }) (sym (eqb-true f.number.n number.n same)) in
    record {
      since = [];
      done = past;
      status = status;
      error = error;
      lba = lba;
      count = count;
      drive = now.drive;
      op = now.op;
      ended = ap (λ x. Told (Done x status error lba count) ∷ past) alike;
      well = is;
      registers = refl;
      works = now.works;
      asked = ap (λ (x : IssueNo). issue_operation x.n past) (sym alike) ∙ now.asked;
      stored = now.stored;
    })
    (λ f y other one free. stored_later head f.number y event past (one free))
    each was

each_any : (slots : List (Option InFlight)) → EachFlight (λ f. Unit {0}) slots
each_any [] = tt
each_any (None ∷ slots) = each_any slots
each_any (Some f ∷ slots) = (tt, each_any slots)

all_stored : (head : PortHead) (past : List Event) → IsAllowed head past → AtEach (WasOwn head) past → EachBeside (HasStored head past) (slots past) (completions head past)
all_stored head [] h own = tt
all_stored head (Told (Done number status error lba count) ∷ past) h own =
    ends_well head past number status error lba count (is_good_end status error lba) refl
    (stored_now head past number.n (found_now head past h.1 number status error lba count h.0) (ends_here head past number status error lba count h.1 own.0 h.0))
    (each_any (slots past)) (all_stored head past h.1 own.1)
all_stored head (Told (Issued id number tag deadline fis) ∷ past) h own =
    let event : Event = Told (Issued id number tag deadline fis) in
    beside_put (HasStored head (event ∷ past)) tag (fresh_flight id number (place_of id (commands past)) deadline fis) (slots past) (completions head past)
    (lifted head event past (all_stored head past h.1 own.1))
all_stored head (Told (AnsweredOk id number status error lba count stamps) ∷ past) h own =
    let event : Event = Told (AnsweredOk id number status error lba count stamps) in
    beside_without (HasStored head (event ∷ past)) number.n (slots past) (completions head past) (lifted head event past (all_stored head past h.1 own.1))
all_stored head (Told (AnsweredFailed id number kinds status error lba count) ∷ past) h own =
    let event : Event = Told (AnsweredFailed id number kinds status error lba count) in
    beside_without (HasStored head (event ∷ past)) number.n (slots past) (completions head past) (lifted head event past (all_stored head past h.1 own.1))
all_stored head (Told (AnsweredNodev id number) ∷ past) h own =
    let event : Event = Told (AnsweredNodev id number) in
    beside_told (HasStored head (event ∷ past)) number.n (slots past) (completions head past) (lifted head event past (all_stored head past h.1 own.1))
all_stored head (Told (Retried id number again) ∷ past) h own =
    let event : Event = Told (Retried id number again) in
    beside_without (HasStored head (event ∷ past)) number.n (slots past) (completions head past) (lifted head event past (all_stored head past h.1 own.1))
all_stored head (Told (Condemned number kinds) ∷ past) h own =
    let event : Event = Told (Condemned number kinds) in
    beside_marked (HasStored head past) (HasStored head (event ∷ past)) (condemned kinds) number.n (slots past) (completions head past)
    (λ f y same is free. absurd (cc))
    (λ f y other is free. stored_later head f.number y event past (is free))
    (all_stored head past h.1 own.1)
all_stored head (Told (Expired id number) ∷ past) h own =
    let event : Event = Told (Expired id number) in
    beside_marked (HasStored head past) (HasStored head (event ∷ past)) expired number.n (slots past) (completions head past)
    (λ f y same is free. stored_later head f.number y event past (is free))
    (λ f y other is free. stored_later head f.number y event past (is free))
    (all_stored head past h.1 own.1)
all_stored head (Told (ResetBegun place attempt deadline) ∷ past) h own =
    beside_each (λ f. f.owned ≡ true) (HasStored head (Told (ResetBegun place attempt deadline) ∷ past)) (λ f y owned free. absurd (cc (owned, free)))
    (slots past) (completions head (Told (ResetBegun place attempt deadline) ∷ past)) h.0.owned
all_stored head (event ∷ past) h own = lifted head event past (all_stored head past h.1 own.1)

answer_stored :
    (head : PortHead) (id : ℕ) (number : IssueNo) (status error lba count : ℕ) (stamps : List ℕ) (past : List Event)
    → IsAllowed head past → AtEach (WasOwn head) past → MaySucceed head id number status error lba count stamps past
    → WereStored head number status error lba count stamps past
answer_stored head id number status error lba count stamps past h own m =
    let f = m.flies.flight in
    let d = beside_at (HasStored head past) (slots past) (completions head past) m.flies.tag f m.end (all_stored head past h own) m.flies.here m.found m.unowned in
    let numbered : f.number ≡ number = m.flies.numbered in
    let status_is : d.status ≡ status = sym (ap (λ r. r.status) d.registers) ∙ m.registers.status_same in
    let error_is : d.error ≡ error = sym (ap (λ r. r.error) d.registers) ∙ m.registers.error_same in
    let lba_is : d.lba ≡ lba = sym (ap (λ r. r.lba) d.registers) ∙ m.registers.lba_same in
    let count_is : d.count ≡ count = sym (ap (λ r. r.count) d.registers) ∙ m.registers.count_same in
    record {
      since = d.since;
      done = d.done;
      drive = d.drive;
      op = d.op;
      ended = d.ended ∙ ap (λ act. d.since ++ Told act ∷ d.done) (cc (numbered, status_is, error_is, lba_is, count_is));
      well = subst (λ x. is_good_end x error lba ≡ true) status_is
          (subst (λ x. is_good_end d.status x lba ≡ true) error_is (subst (λ x. is_good_end d.status d.error x ≡ true) lba_is d.well));
      works = d.works;
      asked = subst (λ (x : IssueNo). issue_operation x.n d.done ≡ Some d.op) numbered d.asked;
      stored = subst (AreStored head d.drive d.op d.done) m.stamps_same d.stored;
    }

-- ---- the law

pub on_drive_of : (head : PortHead) (past : List Event) → IsAllowed head past → AtEach (WasOwn head) past → AtEach (AreOnTheirDrive head) past
on_drive_of head [] h own = tt
on_drive_of head (Told (Done number status error lba count) ∷ past) h own =
    (ends_here head past number status error lba count h.1 own.0 h.0, on_drive_of head past h.1 own.1)
on_drive_of head (Told (AnsweredOk id number status error lba count stamps) ∷ past) h own =
    (answer_stored head id number status error lba count stamps past h.1 own.1 h.0, on_drive_of head past h.1 own.1)
on_drive_of head (event ∷ past) h own = (tt, on_drive_of head past h.1 own.1)
