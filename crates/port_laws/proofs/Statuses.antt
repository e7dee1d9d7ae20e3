-- Statuses other than `ok`, and retries, go by the autopsy, the allowance and the counts.
use Rattle.std.proofs.Common.{◌≡◌, ◌∙◌, ◌⊎◌, inl, inr, ℕ, ◌+◌, ◌≤◌, ◌==◌, ◌||◌, ◌&&◌, not, nat_le, Bool, true, false, List, [], ◌∷◌, Some, refl, sym, ap, subst, arith, if◌then◌else◌}
use Rattle.std.proofs.lemmas.Bool.{leb-true, leb-false}
use Rattle.ata_base.specs.Operations.{is_io}
use Rattle.ata_base.specs.declared.cmd.Cmd.{Cmd}
use Rattle.ata_base.specs.declared.err_mask.ErrMask.{ErrMask}
use Rattle.ata_base.specs.declared.issue_no.IssueNo.{IssueNo}
use Rattle.ata_script.specs.declared.port_head.PortHead.{PortHead}
use Rattle.ata_trace.specs.Entries.{EntryView, past_of}
use Rattle.ata_trace.specs.Event.{Event}
use Rattle.ata_trace.specs.Event.Event.{Told}
use Rattle.ata_trace.specs.declared.act.Act.TheVariants.{AnsweredFailed, AnsweredNodev, Retried}
use Rattle.eh_autopsy.specs.Actions.{is_worth_retry}
use Rattle.port_past.specs.Judged.{judged}
use Rattle.port_past.specs.Slots.{slots}
use Rattle.port_past.specs.declared.judgement.Judgement.{Judgement}
use Rattle.port_rules.specs.Legal.{IsLegal}
use Rattle.port_facts.specs.Moments.{AtEach}
use Rattle.port_facts.specs.Once.{one_if}
use Rattle.port_rules.specs.Finish.{registers_told}
use Rattle.port_laws.specs.Statuses.{registers_judged, kinds_judged, costs, FailsRightly, RetriesRightly, IsRightStatus}
use Rattle.port_facts.specs.Allowed.{IsAllowed, MayFinish, MayFail, MayRetry}
use Rattle.port_laws.proofs.Fair.{fair}
use Rattle.port_laws.proofs.Judging.{IsJudged, all_judged}
use Rattle.port_facts.proofs.Legal.{journal_allowed}
use Rattle.port_past.proofs.BesideSlots.{beside_at}

-- why a command isn't tried again
over_by :
    (e w : Bool) (r a : ℕ) → r ≤ a → ((e || w) && nat_le (r + 1) (if e then a + 1 else a)) ≡ false
    → (e ≡ false) × ((w ≡ false) ⊎ (r ≡ a))
over_by true w r a within is = absurd (omega (arith, within, leb-false (r + 1) (a + 1) is))
over_by false false r a within is = (refl, inl refl)
over_by false true r a within is = (refl, inr (omega (arith, within, leb-false (r + 1) a is)))

-- why it is
again_by :
    (e w : Bool) (r a : ℕ) → r ≤ a → ((e || w) && nat_le (r + 1) (if e then a + 1 else a)) ≡ true
    → ((e || w) ≡ true) × (r + one_if (not e) ≤ a)
again_by true w r a within is = (refl, omega (arith, within))
again_by false true r a within is = (refl, omega (arith, leb-true (r + 1) a is))
again_by false false r a within is = absurd (cc)

spent_too : {w : Bool} {r s a : ℕ} → r ≡ s → (w ≡ false) ⊎ (r ≡ a) → (w ≡ false) ⊎ (s ≡ a)
spent_too paid (inl unworthy) = inl unworthy
spent_too paid (inr all) = inr (sym paid ∙ all)

-- what the finish goes by is what the autopsy told
told_verdict :
    (head : PortHead) (past : List Event) → IsAllowed head past → (id : ℕ) (number : IssueNo) (c : Cmd) (j : Judgement)
    → MayFinish id number c j past → (kinds_judged number.n past ≡ Some j.kinds) × (registers_judged number.n past ≡ j.regs)
told_verdict head past h id number c j m =
    let f = m.flies in
    subst (λ x. (kinds_judged x.n past ≡ Some j.kinds) × (registers_judged x.n past ≡ j.regs)) f.numbered
    (beside_at (IsJudged past) (slots past) (judged past) f.tag f.flight j (all_judged head past h m.running) f.here m.found)

fails :
    (head : PortHead) (past : List Event) → IsAllowed head past
    → (id : ℕ) (number : IssueNo) (kinds : ErrMask) (status error lba count : ℕ) → MayFail id number kinds status error lba count past
    → FailsRightly id number kinds status error lba count past
fails head past h id number kinds status error lba count m =
    let j = m.judgement in
    let is_fair = fair head past h id m.command m.finish.known in
    let told = told_verdict head past h id number m.command j m.finish in
    let over : ((j.kinds.0 == 0) ≡ false) × ((is_worth_retry (is_io m.command.op) j.kinds.0 ≡ false) ⊎ (m.command.retries ≡ m.command.allow)) =
    over_by (j.kinds.0 == 0) (is_worth_retry (is_io m.command.op) j.kinds.0) m.command.retries m.command.allow is_fair.within m.over in
    record {
      command = m.command;
      known = m.finish.known;
      some = subst (λ k. (k.0 == 0) ≡ false) m.kinds_same over.0;
      final = told.0 ∙ ap Some m.kinds_same;
      stays = is_fair.gone ∙ m.stays;
      over = subst (λ k. (is_worth_retry (is_io m.command.op) k.0 ≡ false) ⊎ (costs id past ≡ m.command.allow)) m.kinds_same
          (spent_too is_fair.paid over.1);
      registers = record {
        status_same = ap (λ r. (registers_told r).status) told.1 ∙ m.registers.status_same;
        error_same = ap (λ r. (registers_told r).error) told.1 ∙ m.registers.error_same;
        lba_same = ap (λ r. (registers_told r).lba) told.1 ∙ m.registers.lba_same;
        count_same = ap (λ r. (registers_told r).count) told.1 ∙ m.registers.count_same;
      };
    }

retries :
    (head : PortHead) (past : List Event) → IsAllowed head past → (id : ℕ) (number : IssueNo) (raised : Bool)
    → MayRetry id number raised past → RetriesRightly id number raised past
retries head past h id number raised m =
    let j = m.judgement in
    let is_fair = fair head past h id m.command m.finish.known in
    let again = again_by (j.kinds.0 == 0) (is_worth_retry (is_io m.command.op) j.kinds.0) m.command.retries m.command.allow is_fair.within m.again in
    record {
      command = m.command;
      known = m.finish.known;
      kinds = j.kinds;
      final = (told_verdict head past h id number m.command j m.finish).0;
      raises = sym m.raises;
      stays = is_fair.gone ∙ m.stays;
      worth = again.0;
      within = subst (λ n. n + one_if (not raised) ≤ m.command.allow) is_fair.paid
          (subst (λ b. m.command.retries + one_if (not b) ≤ m.command.allow) m.raises again.1);
    }

right_of_allowed : (head : PortHead) (past : List Event) → IsAllowed head past → AtEach IsRightStatus past
right_of_allowed head [] h = tt
right_of_allowed head (Told (AnsweredFailed id number kinds status error lba count) ∷ past) h =
    (fails head past h.1 id number kinds status error lba count h.0, right_of_allowed head past h.1)
right_of_allowed head (Told (AnsweredNodev id number) ∷ past) h =
    ((fair head past h.1 id h.0.command h.0.known).gone ∙ h.0.gone, right_of_allowed head past h.1)
right_of_allowed head (Told (Retried id number raised) ∷ past) h =
    (retries head past h.1 id number raised h.0, right_of_allowed head past h.1)
right_of_allowed head (event ∷ past) h = (tt, right_of_allowed head past h.1)

-- each status of a legal journal is right
pub statuses_are_right :
    (head : PortHead) (journal : List EntryView) → IsLegal head journal → AtEach IsRightStatus (past_of journal)
statuses_are_right head journal legal =
    right_of_allowed head (past_of journal) (journal_allowed head journal legal)
