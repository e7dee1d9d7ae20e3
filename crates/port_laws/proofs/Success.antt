-- Success is done well: what stands behind each issue in flight, and behind each good end.
use Rattle.std.proofs.Common.{◌≡◌, ◌∙◌, ℕ, ◌==◌, Bool, true, false, List, [], ◌∷◌, ◌++◌, refl, sym, ap, subst, arith, Some, ◌≢◌, ◌+◌, option_map, option_and_then, Option, if◌then◌else◌}
use Rattle.std.proofs.lemmas.Bool.{eqb-true, eq-eqb, ne_eqb}
use Rattle.ata_base.specs.declared.issue_no.IssueNo.{IssueNo}
use Rattle.ata_base.specs.declared.ms.Ms.{Ms}
use Rattle.ata_script.specs.declared.port_head.PortHead.{PortHead}
use Rattle.ata_trace.specs.Entries.{EntryView, past_of}
use Rattle.ata_trace.specs.Event.{Event}
use Rattle.ata_trace.specs.Event.Event.{Told}
use Rattle.ata_trace.specs.declared.act.Act.TheVariants.{Issued, Done, AnsweredOk, AnsweredFailed, AnsweredNodev, Retried, Condemned, Expired, ResetBegun}
use Rattle.drive_model.specs.Work.{registers as ended_with}
use Rattle.host_tags.specs.Marks.{condemned, expired}
use Rattle.host_tags.specs.declared.in_flight.InFlight.{InFlight}
use Rattle.port_past.specs.Commands.{commands, place_of, command_of}
use Rattle.port_past.specs.Drives.{drives}
use Rattle.drive_model.specs.Told.{is_good_end}
use Rattle.port_past.specs.Completions.{completions, worker_stamps, with_completion}
use Rattle.port_past.specs.Links.{links, worker}
use Rattle.port_past.specs.Slots.{slots, fresh_flight}
use Rattle.port_past.specs.Steps.{last_step}
use Rattle.port_past.specs.declared.completion.Completion.{Completion}
use Rattle.port_rules.specs.Legal.{IsLegal}
use Rattle.port_facts.specs.Moments.{AtEach}
use Rattle.port_laws.specs.Success.{spoils, are_spoilt, WasDoneWell, IsDoneWell}
use Rattle.port_facts.specs.Allowed.{IsAllowed, MaySucceed}
use Rattle.host_tags.proofs.FlightLemmas.{each_put, each_without, each_changed, each_marked, each_weaker, each_both}
use Rattle.port_past.proofs.LeavingSlots.{each_told}
use Rattle.ata_base.specs.declared.op.Op.{Op}
use Rattle.port_facts.specs.Stamps.{drive_now, issue_operation, AreFound, issuer_of}
use Rattle.port_facts.proofs.Found.{IsFoundNow, found_now}
use Rattle.port_facts.proofs.Legal.{journal_allowed}
use Rattle.ata_base.specs.declared.cmd.Cmd.{Cmd}
use Rattle.port_past.specs.Issues.{issue_count}
use Rattle.port_facts.proofs.Numbered.{IsNumber, are_numbered}
use Rattle.port_past.proofs.BesideSlots.{EachBeside, beside_at, beside_weaker, beside_each, beside_put, beside_without, beside_marked, beside_kept, beside_told}
use Rattle.host_tags.specs.EachFlight.{EachFlight}
use Rattle.ata_base.proofs.Truth.{equal_either_way}

-- ---- behind each issue that isn't owned stands that it was issued, and nothing since has spoilt it

record IsBehind (id : ℕ) (number : IssueNo) (place : ℕ) (past : List Event) : Type 0 where
  pub between : List Event
  pub before : List Event
  pub tag : ℕ
  pub deadline : Ms
  pub fis : List ℕ
  pub issued : past ≡ between ++ Told (Issued id number tag deadline fis) ∷ before
  pub placed : place_of id (commands before) ≡ place
  pub sound : are_spoilt number.n place between ≡ false

abbrev HasBehind : List Event → InFlight → Type 0
HasBehind past f = f.owned ≡ false → IsBehind f.id f.number f.place past

-- whether an event spoils nothing
abbrev IsHarmless : Event → Type 0
IsHarmless event = (n place : ℕ) → spoils n place event ≡ false

behind_later :
    (id : ℕ) (number : IssueNo) (place : ℕ) (event : Event) (past : List Event) → spoils number.n place event ≡ false
    → IsBehind id number place past → IsBehind id number place (event ∷ past)
behind_later id number place event past harmless is = record {
  between = event ∷ is.between;
  before = is.before;
  tag = is.tag;
  deadline = is.deadline;
  fis = is.fis;
  issued = ap (λ p. event ∷ p) is.issued;
  placed = is.placed;
  sound = rw harmless is.sound;
}

lifted :
    (event : Event) (past : List Event) → IsHarmless event → EachFlight (HasBehind past) (slots past)
    → EachFlight (HasBehind (event ∷ past)) (slots past)
lifted event past harmless was =
    each_weaker (HasBehind past) (HasBehind (event ∷ past))
    (λ f is free. behind_later f.id f.number f.place event past (harmless f.number.n f.place) (is free)) (slots past) was

all_behind : (head : PortHead) (past : List Event) → IsAllowed head past → EachFlight (HasBehind past) (slots past)
all_behind head [] h = tt
all_behind head (Told (Issued id number tag deadline fis) ∷ past) h =
    let event : Event = Told (Issued id number tag deadline fis) in
    each_put (HasBehind (event ∷ past)) tag (fresh_flight id number (place_of id (commands past)) deadline fis) (slots past)
    (lifted event past (λ n place. refl) (all_behind head past h.1))
    (λ free. record {
      between = [];
      before = past;
      tag = tag;
      deadline = deadline;
      fis = fis;
      issued = refl;
      placed = refl;
      sound = refl;
    })
all_behind head (Told (AnsweredOk id number status error lba count stamps) ∷ past) h =
    each_without (HasBehind (Told (AnsweredOk id number status error lba count stamps) ∷ past)) number.n (slots past)
    (lifted (Told (AnsweredOk id number status error lba count stamps)) past (λ n place. refl) (all_behind head past h.1))
all_behind head (Told (AnsweredFailed id number kinds status error lba count) ∷ past) h =
    each_without (HasBehind (Told (AnsweredFailed id number kinds status error lba count) ∷ past)) number.n (slots past)
    (lifted (Told (AnsweredFailed id number kinds status error lba count)) past (λ n place. refl) (all_behind head past h.1))
all_behind head (Told (AnsweredNodev id number) ∷ past) h =
    each_told (HasBehind (Told (AnsweredNodev id number) ∷ past)) number.n (slots past)
    (lifted (Told (AnsweredNodev id number)) past (λ n place. refl) (all_behind head past h.1))
all_behind head (Told (Retried id number raised) ∷ past) h =
    each_without (HasBehind (Told (Retried id number raised) ∷ past)) number.n (slots past)
    (lifted (Told (Retried id number raised)) past (λ n place. refl) (all_behind head past h.1))
all_behind head (Told (Condemned number kinds) ∷ past) h =
    let event : Event = Told (Condemned number kinds) in
    each_marked (HasBehind past) (HasBehind (event ∷ past)) (condemned kinds) number.n (slots past)
    (λ f same is free. absurd (cc))
    (λ f other is free. behind_later f.id f.number f.place event past (equal_either_way number.n f.number.n ∙ other) (is free))
    (all_behind head past h.1)
all_behind head (Told (Expired id number) ∷ past) h =
    let event : Event = Told (Expired id number) in
    each_changed (HasBehind (event ∷ past)) expired number.n (slots past) (λ f is. is)
    (lifted event past (λ n place. refl) (all_behind head past h.1))
all_behind head (Told (ResetBegun place attempt deadline) ∷ past) h =
    each_weaker (λ f. f.owned ≡ true) (HasBehind (Told (ResetBegun place attempt deadline) ∷ past))
    (λ f owned free. absurd (cc (owned, free))) (slots past) h.0.owned
all_behind head (event ∷ past) h = lifted event past (λ n place. refl) (all_behind head past h.1)

-- ---- the issue of a number is of its flight's command

abbrev IsIssuedFor : List Event → InFlight → Type 0
IsIssuedFor past f = issuer_of f.number.n past ≡ Some f.id

new_issuer : (n id : ℕ) (was : Option ℕ) → (if n == n then Some id else was) ≡ Some id
new_issuer n id was = rw (eq-eqb n n refl) refl

old_issuer : (n m id : ℕ) (was : Option ℕ) → m ≢ n → (if n == m then Some id else was) ≡ was
old_issuer n m id was other = rw (ne_eqb n m (λ e. other (sym e))) refl

all_issued : (head : PortHead) (past : List Event) → IsAllowed head past → EachFlight (IsIssuedFor past) (slots past)
all_issued head [] h = tt
all_issued head (Told (Issued id number tag deadline fis) ∷ past) h =
    let event : Event = Told (Issued id number tag deadline fis) in
    let next : number.n ≡ issue_count past + 1 = h.0.next in
    each_put (IsIssuedFor (event ∷ past)) tag (fresh_flight id number (place_of id (commands past)) deadline fis) (slots past)
    (each_both (IsNumber (issue_count past)) (IsIssuedFor past) (IsIssuedFor (event ∷ past))
    (λ f numbered is. old_issuer number.n f.number.n id (issuer_of f.number.n past) (λ e. omega (arith, e, numbered.1, next)) ∙ is)
    (slots past) (are_numbered head past h.1).numbers (all_issued head past h.1))
    (new_issuer number.n id (issuer_of number.n past))
all_issued head (Told (AnsweredOk id number status error lba count stamps) ∷ past) h = each_without (IsIssuedFor past) number.n (slots past) (all_issued head past h.1)
all_issued head (Told (AnsweredFailed id number kinds status error lba count) ∷ past) h = each_without (IsIssuedFor past) number.n (slots past) (all_issued head past h.1)
all_issued head (Told (AnsweredNodev id number) ∷ past) h = each_told (IsIssuedFor past) number.n (slots past) (all_issued head past h.1)
all_issued head (Told (Retried id number raised) ∷ past) h = each_without (IsIssuedFor past) number.n (slots past) (all_issued head past h.1)
all_issued head (Told (Condemned number kinds) ∷ past) h = each_changed (IsIssuedFor past) (condemned kinds) number.n (slots past) (λ f is. is) (all_issued head past h.1)
all_issued head (Told (Expired id number) ∷ past) h = each_changed (IsIssuedFor past) expired number.n (slots past) (λ f is. is) (all_issued head past h.1)
all_issued head (event ∷ past) h = all_issued head past h.1

-- what an issue asks for is what its command does
asks :
    (past : List Event) (n id : ℕ) (op : Op) → issuer_of n past ≡ Some id → issue_operation n past ≡ Some op
    → option_map (λ (c : Cmd). c.op) (command_of id (commands past)) ≡ Some op
asks past n id op issuer is =
    sym (ap (λ i. option_and_then (λ x. option_map (λ (c : Cmd). c.op) (command_of x (commands past))) i) issuer) ∙ is

-- ---- behind each good end of such an issue stands that it was done well

record IsDone (head : PortHead) (id : ℕ) (number : IssueNo) (place : ℕ) (end : Completion) (past : List Event) : Type 0 where
  pub since : List Event
  pub done : List Event
  pub status : ℕ
  pub error : ℕ
  pub lba : ℕ
  pub count : ℕ
  pub behind : IsBehind id number place done
  pub ended : past ≡ since ++ Told (Done number status error lba count) ∷ done
  pub well : is_good_end status error lba ≡ true
  pub sound : are_spoilt number.n place since ≡ false
  pub registers : end.regs ≡ ended_with status error lba count
  pub drive : ℕ
  pub op : Op
  pub works : drive_now head done ≡ Some drive
  pub asked : option_map (λ c. c.op) (command_of id (commands done)) ≡ Some op
  pub found : AreFound head drive op done end.stamps

abbrev HasEnded : PortHead → List Event → InFlight → Completion → Type 0
HasEnded head past f end = f.owned ≡ false → IsDone head f.id f.number f.place end past

done_later :
    (head : PortHead) (id : ℕ) (number : IssueNo) (place : ℕ) (end : Completion) (event : Event) (past : List Event)
    → spoils number.n place event ≡ false → IsDone head id number place end past → IsDone head id number place end (event ∷ past)
done_later head id number place end event past harmless is = record {
  since = event ∷ is.since;
  done = is.done;
  status = is.status;
  error = is.error;
  lba = is.lba;
  count = is.count;
  behind = is.behind;
  ended = ap (λ p. event ∷ p) is.ended;
  well = is.well;
  sound = rw harmless is.sound;
  registers = is.registers;
  drive = is.drive;
  op = is.op;
  works = is.works;
  asked = is.asked;
  found = is.found;
}

raised :
    (head : PortHead) (event : Event) (past : List Event) → IsHarmless event
    → EachBeside (HasEnded head past) (slots past) (completions head past)
    → EachBeside (HasEnded head (event ∷ past)) (slots past) (completions head past)
raised head event past harmless was =
    beside_weaker (HasEnded head past) (HasEnded head (event ∷ past))
    (λ f end is free. done_later head f.id f.number f.place end event past (harmless f.number.n f.place) (is free))
    (slots past) (completions head past) was

-- an issue that ends well is done
ends_well :
    (head : PortHead) (past : List Event) (number : IssueNo) (status error lba count : ℕ) (good : Bool)
    → is_good_end status error lba ≡ good → IsFoundNow head number.n past → EachFlight (IsIssuedFor past) (slots past) → EachFlight (HasBehind past) (slots past)
    → EachBeside (HasEnded head past) (slots past) (completions head past)
    → EachBeside (HasEnded head (Told (Done number status error lba count) ∷ past)) (slots past)
    (with_completion number.n good
    (record { regs = ended_with status error lba count; stamps = worker_stamps number.n (worker (last_step past) (links head past)) (drives head past) })
    (slots past) (completions head past))
ends_well head past number status error lba count false is now_found issued behind was =
    raised head (Told (Done number status error lba count)) past (λ n place. refl) was
ends_well head past number status error lba count true is now_found issued behind was =
    let event : Event = Told (Done number status error lba count) in
    let end : Completion = record { regs = ended_with status error lba count; stamps = worker_stamps number.n (worker (last_step past) (links head past)) (drives head past) } in
    beside_kept (HasEnded head past) (λ f. IsIssuedFor past f × HasBehind past f) (HasEnded head (event ∷ past)) end number.n (slots past) (completions head past)
    (λ f same both free.
    let alike : number ≡ f.number = ap (λ n. record { n = n }) (sym (eqb-true f.number.n number.n same)) in
    record {
      since = [];
      done = past;
      status = status;
      error = error;
      lba = lba;
      count = count;
      behind = both.1 free;
      ended = ap (λ x. Told (Done x status error lba count) ∷ past) alike;
      well = is;
      sound = refl;
      registers = refl;
      drive = now_found.drive;
      op = now_found.op;
      works = now_found.works;
      asked = asks past f.number.n f.id now_found.op both.0 (ap (λ x. issue_operation x.n past) (sym alike) ∙ now_found.asked);
      found = now_found.found;
    })
    (λ f y other one free. done_later head f.id f.number f.place y event past refl (one free))
    (each_both (IsIssuedFor past) (HasBehind past) (λ f. IsIssuedFor past f × HasBehind past f) (λ f one other. (one, other)) (slots past) issued behind) was

all_done : (head : PortHead) (past : List Event) → IsAllowed head past → EachBeside (HasEnded head past) (slots past) (completions head past)
all_done head [] h = tt
all_done head (Told (Done number status error lba count) ∷ past) h =
    ends_well head past number status error lba count (is_good_end status error lba) refl
    (found_now head past h.1 number status error lba count h.0) (all_issued head past h.1) (all_behind head past h.1) (all_done head past h.1)
all_done head (Told (Issued id number tag deadline fis) ∷ past) h =
    let event : Event = Told (Issued id number tag deadline fis) in
    beside_put (HasEnded head (event ∷ past)) tag (fresh_flight id number (place_of id (commands past)) deadline fis) (slots past) (completions head past)
    (raised head event past (λ n place. refl) (all_done head past h.1))
all_done head (Told (AnsweredOk id number status error lba count stamps) ∷ past) h =
    let event : Event = Told (AnsweredOk id number status error lba count stamps) in
    beside_without (HasEnded head (event ∷ past)) number.n (slots past) (completions head past) (raised head event past (λ n place. refl) (all_done head past h.1))
all_done head (Told (AnsweredFailed id number kinds status error lba count) ∷ past) h =
    let event : Event = Told (AnsweredFailed id number kinds status error lba count) in
    beside_without (HasEnded head (event ∷ past)) number.n (slots past) (completions head past) (raised head event past (λ n place. refl) (all_done head past h.1))
all_done head (Told (AnsweredNodev id number) ∷ past) h =
    let event : Event = Told (AnsweredNodev id number) in
    beside_told (HasEnded head (event ∷ past)) number.n (slots past) (completions head past) (raised head event past (λ n place. refl) (all_done head past h.1))
all_done head (Told (Retried id number again) ∷ past) h =
    let event : Event = Told (Retried id number again) in
    beside_without (HasEnded head (event ∷ past)) number.n (slots past) (completions head past) (raised head event past (λ n place. refl) (all_done head past h.1))
all_done head (Told (Condemned number kinds) ∷ past) h =
    let event : Event = Told (Condemned number kinds) in
    beside_marked (HasEnded head past) (HasEnded head (event ∷ past)) (condemned kinds) number.n (slots past) (completions head past)
    (λ f y same is free. absurd (cc))
    (λ f y other is free. done_later head f.id f.number f.place y event past (equal_either_way number.n f.number.n ∙ other) (is free))
    (all_done head past h.1)
all_done head (Told (Expired id number) ∷ past) h =
    let event : Event = Told (Expired id number) in
    beside_marked (HasEnded head past) (HasEnded head (event ∷ past)) expired number.n (slots past) (completions head past)
    (λ f y same is free. done_later head f.id f.number f.place y event past refl (is free))
    (λ f y other is free. done_later head f.id f.number f.place y event past refl (is free))
    (all_done head past h.1)
all_done head (Told (ResetBegun place attempt deadline) ∷ past) h =
    beside_each (λ f. f.owned ≡ true) (HasEnded head (Told (ResetBegun place attempt deadline) ∷ past)) (λ f y owned free. absurd (cc (owned, free)))
    (slots past) (completions head (Told (ResetBegun place attempt deadline) ∷ past)) h.0.owned
all_done head (event ∷ past) h = raised head event past (λ n place. refl) (all_done head past h.1)

-- ---- the law

-- an answered issue was done well
answer_done :
    (head : PortHead) (id : ℕ) (number : IssueNo) (status error lba count : ℕ) (stamps : List ℕ) (past : List Event)
    → IsAllowed head past → MaySucceed head id number status error lba count stamps past
    → WasDoneWell head id number status error lba count stamps past
answer_done head id number status error lba count stamps past h m =
    let f = m.flies.flight in
    let d = beside_at (HasEnded head past) (slots past) (completions head past) m.flies.tag f m.end (all_done head past h) m.flies.here m.found m.unowned in
    let b = d.behind in
    let same : f.id ≡ id = m.flies.same in
    let numbered : f.number ≡ number = m.flies.numbered in
    let status_is : d.status ≡ status = sym (ap (λ r. r.status) d.registers) ∙ m.registers.status_same in
    let error_is : d.error ≡ error = sym (ap (λ r. r.error) d.registers) ∙ m.registers.error_same in
    let lba_is : d.lba ≡ lba = sym (ap (λ r. r.lba) d.registers) ∙ m.registers.lba_same in
    let count_is : d.count ≡ count = sym (ap (λ r. r.count) d.registers) ∙ m.registers.count_same in
    let placed : place_of id (commands b.before) ≡ f.place = subst (λ c. place_of c (commands b.before) ≡ f.place) same b.placed in
    record {
      since = d.since;
      between = b.between;
      before = b.before;
      done = d.done;
      tag = b.tag;
      deadline = b.deadline;
      fis = b.fis;
      ended = d.ended ∙ ap (λ act. d.since ++ Told act ∷ d.done) (cc (numbered, status_is, error_is, lba_is, count_is));
      issued = b.issued ∙ ap (λ act. b.between ++ Told act ∷ b.before) (cc (same, numbered));
      well = subst (λ x. is_good_end x error lba ≡ true) status_is
          (subst (λ x. is_good_end d.status x lba ≡ true) error_is (subst (λ x. is_good_end d.status d.error x ≡ true) lba_is d.well));
      sound_since = subst (λ x. are_spoilt number.n x d.since ≡ false) (sym placed)
          (subst (λ x. are_spoilt x.n f.place d.since ≡ false) numbered d.sound);
      sound_between = subst (λ x. are_spoilt number.n x b.between ≡ false) (sym placed)
          (subst (λ x. are_spoilt x.n f.place b.between ≡ false) numbered b.sound);
      drive = d.drive;
      op = d.op;
      works = d.works;
      asked = subst (λ c. option_map (λ (x : Cmd). x.op) (command_of c (commands d.done)) ≡ Some d.op) same d.asked;
      found = subst (AreFound head d.drive d.op d.done) m.stamps_same d.found;
    }

done_of_allowed : (head : PortHead) (past : List Event) → IsAllowed head past → AtEach (IsDoneWell head) past
done_of_allowed head [] h = tt
done_of_allowed head (Told (AnsweredOk id number status error lba count stamps) ∷ past) h =
    (answer_done head id number status error lba count stamps past h.1 h.0, done_of_allowed head past h.1)
done_of_allowed head (event ∷ past) h = (tt, done_of_allowed head past h.1)

-- each success of a legal journal was done well
pub successes_are_done_well :
    (head : PortHead) (journal : List EntryView) → IsLegal head journal → AtEach (IsDoneWell head) (past_of journal)
successes_are_done_well head journal legal =
    done_of_allowed head (past_of journal) (journal_allowed head journal legal)
