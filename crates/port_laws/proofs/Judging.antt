-- What is kept of the autopsy beside an issue is what it told of it.
use Rattle.std.proofs.Common.{◌≡◌, ◌∙◌, ℕ, ◌==◌, true, false, List, [], ◌∷◌, Option, None, Some, get_or, refl, sym, ap, if◌then◌else◌}
use Rattle.std.proofs.lemmas.Bool.{eq-eqb, ne_eqb}
use Rattle.std.proofs.lemmas.List.Quantifiers.{position-Some}
use Rattle.std.proofs.lemmas.Option.{unwrap_or-slice_get}
use Rattle.ata_base.specs.declared.err_mask.ErrMask.{ErrMask}
use Rattle.ata_base.specs.declared.issue_no.IssueNo.{IssueNo}
use Rattle.ata_script.specs.declared.port_head.PortHead.{PortHead}
use Rattle.ata_trace.specs.Event.{Event}
use Rattle.ata_trace.specs.Event.Event.{Told}
use Rattle.ata_trace.specs.declared.act.Act.TheVariants.{Issued, AnsweredOk, AnsweredFailed, AnsweredNodev, Retried, Condemned, Expired, Begun, Ended, Judged}
use Rattle.host_tags.proofs.NumberLemmas.{flight_of_here}
use Rattle.host_tags.specs.Marks.{condemned, expired}
use Rattle.host_tags.specs.Numbers.{is_issue, flight_of, tag_of, AreApart}
use Rattle.host_tags.specs.declared.in_flight.InFlight.{InFlight}
use Rattle.port_past.specs.PortState.{is_asked, is_running}
use Rattle.port_past.specs.Judged.{judged, with_judgement, analysed}
use Rattle.port_past.specs.Logs.{logs}
use Rattle.port_past.specs.Noted.{tferr_noted}
use Rattle.port_past.specs.Slots.{slots}
use Rattle.port_past.specs.declared.judgement.Judgement.{Judgement}
use Rattle.ata_base.specs.declared.regs.Regs.{Regs}
use Rattle.eh_autopsy.specs.declared.failed_issue.FailedIssue.{FailedIssue}
use Rattle.drive_model.specs.declared.log_told.LogTold.{LogTold}
use Rattle.port_laws.specs.Statuses.{kinds_judged, registers_seen, registers_judged}
use Rattle.port_facts.specs.Allowed.{IsAllowed}
use Rattle.port_facts.proofs.Numbered.{are_numbered}
use Rattle.port_facts.proofs.Owned.{recovers_not}
use Rattle.port_past.proofs.BesideSlots.{EachBeside, beside_left, beside_told_left, beside_marked, beside_nothing, beside_other, beside_set}
use Rattle.host_tags.specs.EachFlight.{kept_at}
use Rattle.host_tags.proofs.Found.{fresh_unfound, named}

-- what is kept of an issue is what was told and analysed of it
abbrev pub IsJudged : List Event → InFlight → Judgement → Type 0
IsJudged past f j = (kinds_judged f.number.n past ≡ Some j.kinds) × (registers_judged f.number.n past ≡ j.regs)

new_verdict : (n : ℕ) (number : IssueNo) (kinds : ErrMask) (was : Option ErrMask) → n ≡ number.n → (if number.n == n then Some kinds else was) ≡ Some kinds
new_verdict n number kinds was is = rw (eq-eqb number.n n (sym is)) refl

old_verdict : (n : ℕ) (number : IssueNo) (kinds : ErrMask) (was : Option ErrMask) → (n == number.n) ≡ false → (if number.n == n then Some kinds else was) ≡ was
old_verdict n number kinds was is =
    let other : (number.n == n) ≡ false = ne_eqb number.n n (λ e. absurd (cc (eq-eqb n number.n (sym e), is))) in rw other refl

new_registers :
    (n : ℕ) (number : IssueNo) (slots : List (Option InFlight)) (noted : List (Option FailedIssue)) (readings : List (Option LogTold)) (was : Option Regs)
    (tag : ℕ) (g : InFlight) → tag_of number.n slots ≡ Some tag → flight_of number.n slots ≡ Some g → n ≡ number.n
    → (if number.n == n then registers_seen (tag_of number.n slots) (flight_of number.n slots) noted readings else was) ≡ analysed noted readings tag g
new_registers n number slots noted readings was tag g tag_is found_is is =
    ap (λ b. if b then registers_seen (tag_of number.n slots) (flight_of number.n slots) noted readings else was) (eq-eqb number.n n (sym is))
    ∙ ap (λ t. registers_seen t (flight_of number.n slots) noted readings) tag_is
    ∙ ap (λ f. registers_seen (Some tag) f noted readings) found_is

old_registers : (n : ℕ) (number : IssueNo) (seen was : Option Regs) → (n == number.n) ≡ false → (if number.n == n then seen else was) ≡ was
old_registers n number seen was is =
    let other : (number.n == n) ≡ false = ne_eqb number.n n (λ e. absurd (cc (eq-eqb n number.n (sym e), is))) in rw other refl

-- of an issue of another number both stay
others_judged :
    (past : List Event) (number : IssueNo) (kinds : ErrMask) (f : InFlight) (j : Judgement) → (f.number.n == number.n) ≡ false
    → IsJudged past f j → IsJudged (Told (Judged number kinds) ∷ past) f j
others_judged past number kinds f j other one = (
  old_verdict f.number.n number kinds (kinds_judged f.number.n past) other ∙ one.0,
  old_registers f.number.n number (registers_seen (tag_of number.n (slots past)) (flight_of number.n (slots past)) (tferr_noted past) (logs past))
      (registers_judged f.number.n past) other ∙ one.1,
)

judges_by :
    (past : List Event) (number : IssueNo) (kinds : ErrMask) (tag : Option ℕ) (found : Option InFlight) → AreApart (slots past)
    → tag_of number.n (slots past) ≡ tag → flight_of number.n (slots past) ≡ found
    → EachBeside (IsJudged past) (slots past) (judged past)
    → EachBeside (IsJudged (Told (Judged number kinds) ∷ past)) (slots past) (with_judgement kinds (tferr_noted past) (logs past) tag found (judged past))
judges_by past number kinds None found apart tag_is found_is was =
    beside_other (IsJudged past) (IsJudged (Told (Judged number kinds) ∷ past)) number.n (slots past) (judged past)
    (fresh_unfound number.n (slots past) tag_is)
    (λ f j other one. others_judged past number kinds f j other one) was
judges_by past number kinds (Some tag) None apart tag_is found_is was =
    let at = position-Some (is_issue number.n) (slots past) tag None tag_is in
    let f = named number.n (get_or (slots past) tag None) at.1 in
    let here : kept_at (slots past) tag ≡ Some f.0 = unwrap_or-slice_get (slots past) tag None ∙ f.1.0 in
    absurd (cc (flight_of_here tag f.0 (slots past) apart here, f.1.1, found_is))
judges_by past number kinds (Some tag) (Some g) apart tag_is found_is was =
    let at = position-Some (is_issue number.n) (slots past) tag None tag_is in
    let f = named number.n (get_or (slots past) tag None) at.1 in
    let here : kept_at (slots past) tag ≡ Some f.0 = unwrap_or-slice_get (slots past) tag None ∙ f.1.0 in
    beside_set (IsJudged past) (IsJudged (Told (Judged number kinds) ∷ past)) _ number.n tag (slots past) (judged past) f.0 apart here f.1.1
    (λ h same. (
      new_verdict h.number.n number kinds (kinds_judged h.number.n past) same,
      new_registers h.number.n number (slots past) (tferr_noted past) (logs past) (registers_judged h.number.n past) tag g tag_is found_is same,
    ))
    (λ h j other one. others_judged past number kinds h j other one) was

-- while recovery runs
pub all_judged :
    (head : PortHead) (past : List Event) → IsAllowed head past → is_running past ≡ true
    → EachBeside (IsJudged past) (slots past) (judged past)
all_judged head [] h runs = absurd (cc)
all_judged head (Told Begun ∷ past) h runs = beside_nothing (IsJudged (Told Begun ∷ past)) 32 (slots past)
all_judged head (Told Ended ∷ past) h runs = absurd (cc)
all_judged head (Told (Issued id number tag deadline fis) ∷ past) h runs =
    absurd (recovers_not (is_asked past) (is_running past) h.0.open_gate.settled runs)
all_judged head (Told (Judged number kinds) ∷ past) h runs =
    judges_by past number kinds _ _ (are_numbered head past h.1).apart refl refl (all_judged head past h.1 runs)
all_judged head (Told (AnsweredOk id number status error lba count stamps) ∷ past) h runs =
    beside_left (IsJudged past) number.n (slots past) (judged past) (all_judged head past h.1 runs)
all_judged head (Told (AnsweredFailed id number kinds status error lba count) ∷ past) h runs =
    beside_left (IsJudged past) number.n (slots past) (judged past) (all_judged head past h.1 runs)
all_judged head (Told (AnsweredNodev id number) ∷ past) h runs =
    beside_told_left (IsJudged past) number.n (slots past) (judged past) (all_judged head past h.1 runs)
all_judged head (Told (Retried id number raised) ∷ past) h runs =
    beside_left (IsJudged past) number.n (slots past) (judged past) (all_judged head past h.1 runs)
all_judged head (Told (Condemned number kinds) ∷ past) h runs =
    beside_marked (IsJudged past) (IsJudged past) (condemned kinds) number.n (slots past) (judged past) (λ f j same one. one) (λ f j other one. one)
    (all_judged head past h.1 runs)
all_judged head (Told (Expired id number) ∷ past) h runs =
    beside_marked (IsJudged past) (IsJudged past) expired number.n (slots past) (judged past) (λ f j same one. one) (λ f j other one. one)
    (all_judged head past h.1 runs)
all_judged head (event ∷ past) h runs = all_judged head past h.1 runs
