-- Calm ports and scripts settle well.
use Rattle.std.proofs.Common.{◌≡◌, ◌∙◌, ℕ, ◌+◌, ◌≤◌, ◌==◌, Bool, true, false, List, [], ◌∷◌, ◌++◌, length, refl, sym, ap, subst, if◌then◌else◌}
use Rattle.std.proofs.lemmas.List.Elements.{All-nil, All-cons, All-head, All-tail}
use Rattle.ata_script.specs.declared.port_head.PortHead.{PortHead}
use Rattle.ata_trace.proofs.Pasts.{past_from_append}
use Rattle.ata_trace.specs.Entries.{EntryView, grown, past_from, past_of}
use Rattle.ata_trace.specs.Event.{Event}
use Rattle.ata_trace.specs.declared.step.Step.{Step}
use Rattle.ata_trace.specs.declared.who.Who.TheVariants.{Actor}
use Rattle.host_core.specs.Calm.{AreCalmPorts, AreCalmSteps, AreWellEnded, HasAtMost, HaveAtMost, IsCalmPort, IsCalmTaken, IsWellEnded}
use Rattle.port_calm.proofs.Settling.{settling_ends_well_at_last, settling_stays_calm}
use Rattle.port_calm.specs.Calm.{AreCalm, IsCalmJournal, is_among, well_answered}
use Rattle.port_core.proofs.Weaves.{script_runs_are_legal}
use Rattle.port_core.specs.Hosts.{heads_in, journals_in}
use Rattle.port_core.specs.PortView.{PortView}
use Rattle.port_core.specs.Weave.{AreScriptSteps, asked_at, count_of, in_turn, journals_from, runs_from, steps_at}
use Rattle.port_past.specs.Commands.{commands, is_accepted}
use Rattle.port_past.specs.Live.{live}
use Rattle.port_rules.specs.Boot.{boot_entry}
use Rattle.port_rules.specs.Legal.{entry_after, IsLegal}
use Rattle.port_rules.specs.Run.{run, run_from}
use Rattle.port_rules.specs.Settle.{settled_journal, settling}

calm_more : (entries more : List EntryView) → AreCalm entries → AreCalm more → AreCalm (entries ++ more)
calm_more [] more calm after = after
calm_more (entry ∷ rest) more calm after = (calm.0, calm_more rest more calm.1 after)

calm_both : (head : PortHead) (journal more : List EntryView) → IsLegal head journal → IsCalmJournal journal → AreCalm more → IsCalmJournal (journal ++ more)
calm_both head [] more legal calm after = absurd legal.acts
calm_both head (boot ∷ rest) more legal calm after = calm_more rest more calm after

-- a legal journal that nothing has disturbed settles well, where it has no more accepted commands than rounds
pub settles_well :
    (head : PortHead) (rounds : ℕ) (before after : List EntryView) → IsLegal head before
    → after ≡ before ++ settling head rounds (past_of before) → IsCalmJournal before → HasAtMost rounds after → IsWellEnded after
settles_well head rounds before after legal made calm few =
    let more : List EntryView = settling head rounds (past_of before) in
    let past : past_of after ≡ past_from (past_of before) more = ap past_of made ∙ past_from_append [] before more in
    let stays = settling_stays_calm head before legal calm rounds in
    let same : commands (past_of after) ≡ commands (past_of before) = ap commands past ∙ stays.same in
    let enough : length (commands (past_of before)) ≤ rounds = subst (λ cs. length cs ≤ rounds) same few in
    let ends = settling_ends_well_at_last head before legal calm rounds enough in
    record {
      calm = subst IsCalmJournal (sym made) (calm_both head before more legal calm stays.calm);
      none_live = ap live past ∙ ends.none_live;
      answered =
          λ id is.
          subst (λ p. is_among id (well_answered p) ≡ true) (sym past)
          (ends.answered id (subst (λ cs. is_accepted id cs ≡ true) same is));
    }

-- the steps of a script at a port, none of which disturbs it
calm_turns :
    (head : PortHead) (port : ℕ) (past : List Event) (before : List (ℕ × Step)) (steps : List (ℕ × ℕ × Step)) → AreCalmSteps steps
    → AreCalm (run_from head past (in_turn before (steps_at port steps)))
calm_turns head port past before [] calm = tt
calm_turns head port past before (taken ∷ rest) calm =
    chosen (taken.1 == port) (λ later behind. calm_turns head port later behind rest (All-tail IsCalmTaken taken rest calm)) where
      here : ℕ × Step
      here = (taken.0, taken.2)

      chosen :
          (b : Bool) → ((later : List Event) (behind : List (ℕ × Step)) → AreCalm (run_from head later (in_turn behind (steps_at port rest))))
          → AreCalm (run_from head past (in_turn before (if b then here ∷ steps_at port rest else steps_at port rest)))
      chosen true goes = (
        All-head IsCalmTaken taken rest calm,
        goes (grown past (entry_after head past (Actor taken.0) (count_of taken.0 before) taken.2)) (before ++ here ∷ []),
      )
      chosen false goes = goes past before

calm_run : (head : PortHead) (number : ℕ) (steps : List (ℕ × ℕ × Step)) → AreCalmSteps steps → IsCalmJournal (run head (asked_at number steps))
calm_run head number steps calm = calm_turns head number (grown [] (boot_entry head)) [] steps calm

calm_played :
    (number : ℕ) (ports : List PortView) (steps : List (ℕ × ℕ × Step)) → AreCalmSteps steps
    → journals_in ports ≡ runs_from number (heads_in ports) steps → AreCalmPorts ports
calm_played number [] steps calm are = All-nil IsCalmPort
calm_played number (port ∷ rest) steps calm are =
    let made : port.entries ≡ run port.head (asked_at number steps) = cc are in
    let others : journals_in rest ≡ runs_from (number + 1) (heads_in rest) steps = cc are in
    All-cons IsCalmPort port rest (subst IsCalmJournal (sym made) (calm_run port.head number steps calm))
    (calm_played (number + 1) rest steps calm others)

-- ports that took calm steps alone are calm
pub calm_ports :
    (heads : List PortHead) (steps : List (ℕ × ℕ × Step)) (ports : List PortView) → AreCalmSteps steps → heads_in ports ≡ heads
    → journals_in ports ≡ runs_from 0 heads steps → AreCalmPorts ports
calm_ports heads steps ports calm same made = calm_played 0 ports steps calm (made ∙ ap (λ heads. runs_from 0 heads steps) (sym same))

-- the journals of calm steps end well
pub journals_end_well :
    (rounds number : ℕ) (heads : List PortHead) (steps : List (ℕ × ℕ × Step)) → AreScriptSteps steps → AreCalmSteps steps
    → HaveAtMost rounds (journals_from rounds number heads steps) → AreWellEnded (journals_from rounds number heads steps)
journals_end_well rounds number [] steps each calm few = All-nil IsWellEnded
journals_end_well rounds number (head ∷ rest) steps each calm few =
    let made : List EntryView = run head (asked_at number steps) in
    let whole : List EntryView = settled_journal rounds head (asked_at number steps) in
    let others : List (List EntryView) = journals_from rounds (number + 1) rest steps in
    All-cons IsWellEnded whole others
    (settles_well head rounds made whole (script_runs_are_legal head number steps each) refl (calm_run head number steps calm)
    (All-head (HasAtMost rounds) whole others few))
    (journals_end_well rounds (number + 1) rest steps each calm (All-tail (HasAtMost rounds) whole others few))
