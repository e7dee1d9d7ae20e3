-- All that stands of every port, over each entry and of each legal journal.
use Rattle.std.proofs.Common.{◌≡◌, ◌∙◌, ℕ, false, not, List, [], ◌∷◌, Option, Some, option_map, flat_map, inr, refl, sym, ap, subst}
use Rattle.std.specs.Prelude.{slice_index}
use Rattle.std.specs.Option.{option_map_or}
use Rattle.std.proofs.lemmas.Bool.{eq-eqb}
use Rattle.ata_base.specs.declared.cmd.Cmd.{Cmd}
use Rattle.host_tags.specs.declared.in_flight.InFlight.{InFlight}
use Rattle.port_past.specs.Attachment.{detachments}
use Rattle.port_past.specs.Commands.{is_gone}
use Rattle.ata_script.specs.declared.port_head.PortHead.{PortHead}
use Rattle.ata_trace.specs.Entries.{EntryView, grown, past_from, past_of}
use Rattle.ata_trace.specs.Event.{Event}
use Rattle.ata_trace.specs.Event.Event.{Entered}
use Rattle.ata_trace.specs.declared.act.Act.{Act}
use Rattle.ata_trace.specs.declared.step.Step.{Step}
use Rattle.ata_trace.specs.declared.step.Step.TheVariants.{Boot}
use Rattle.ata_trace.specs.declared.who.Who.{Who}
use Rattle.ata_trace.specs.declared.who.Who.TheVariants.{Boot as ByBoot}
use Rattle.port_past.specs.Heads.{places_of}
use Rattle.port_rules.specs.Boot.{found_at, boot_acts, boot_entry}
use Rattle.port_rules.specs.Legal.{entry_after, AreLegal, HasLegalActs, IsLegal}
use Rattle.port_stands.proofs.Dated.{is_no_accept, dated_onto}
use Rattle.port_stands.proofs.Devices.{devices_after}
use Rattle.port_stands.proofs.Lists.{all_or_nothing}
use Rattle.port_stands.proofs.Numbers.{flew}
use Rattle.port_stands.proofs.Standing.{all_booted, none_flying}
use Rattle.port_stands.proofs.WholeBoot.{boot_whole}
use Rattle.port_stands.proofs.WholeDirect.{hands_over}
use Rattle.port_stands.proofs.WholeRecover.{whole_after}
use Rattle.port_stands.specs.All.{AllStands}
use Rattle.port_stands.specs.Dated.{AreCurrent}
use Rattle.port_stands.proofs.Heads.{HasOnePlace}
use Rattle.port_stands.specs.Words.{is_no_issue}

-- all stands after the entry of each step
pub all_after :
    (head : PortHead) → HasOnePlace head → (past : List Event) (who : Who) (seq : ℕ) (step : Step) → AllStands head past
    → AllStands head (grown past (entry_after head past who seq step))
all_after head fits past who seq step was =
    let devices = devices_after head past who seq was step in
    record {
      whole = whole_after head past who seq was.whole fits step (hands_over head past who seq fits was.whole (inr was.there));
      dated = devices.0;
      there = devices.1;
    }

module _ (head : PortHead) where
  abbrev found : List Act
  found = flat_map (found_at head) (places_of head)

  -- all stands after the boot
  pub boot_all : AllStands head (grown [] (boot_entry head))
  boot_all =
      let start : List Event = Entered 0 ByBoot 0 Boot ∷ [] in
      record {
        whole = boot_whole head;
        dated = dated_onto start (boot_acts head) (all_or_nothing is_no_accept found refl (all_booted is_no_accept head (λ p i. refl) (λ p w. refl) (λ p o. refl))) (record { dated = tt });
        there = record {
          there = λ early tag f here.
              let a = flew start (boot_acts head) (all_or_nothing is_no_issue found refl (all_booted is_no_issue head (λ p i. refl) (λ p w. refl) (λ p o. refl))) tag f here in
              absurd (none_flying 32 tag a.0 a.1.0);
          current = λ early tag f here.
              let a = flew start (boot_acts head) (all_or_nothing is_no_issue found refl (all_booted is_no_issue head (λ p i. refl) (λ p w. refl) (λ p o. refl))) tag f here in
              absurd (none_flying 32 tag a.0 a.1.0);
        };
      }

  entries_all : HasOnePlace head → (past : List Event) (entries : List EntryView) → AllStands head past → AreLegal head past entries → AllStands head (past_from past entries)
  entries_all fits past [] was legal = was
  entries_all fits past (r ∷ rest) was legal =
      entries_all fits (grown past r) rest
      (subst (λ x. AllStands head (grown past x)) (sym legal.0) (all_after head fits past r.who r.seq r.step was)) legal.1

  -- all stands of every legal journal
  acts_all : HasOnePlace head → (journal : List EntryView) → HasLegalActs head journal → AllStands head (past_of journal)
  acts_all fits [] legal = absurd legal
  acts_all fits (first ∷ rest) legal =
      entries_all fits (grown [] first) rest
      (subst (λ x. AllStands head (grown [] x)) (sym legal.0) boot_all) legal.1

  pub journal_all : HasOnePlace head → (journal : List EntryView) → IsLegal head journal → AllStands head (past_of journal)
  journal_all fits journal legal = acts_all fits journal legal.acts

gone_not :
    (counts : List ℕ) (f : InFlight) (c : Cmd)
    → ◌≡◌ {A = Option (ℕ × ℕ)} (Some (c.place, c.attachment)) (Some (f.place, slice_index counts f.place)) → is_gone c counts ≡ false
gone_not counts f c is =
    let at : c.place ≡ f.place = ap (λ (o : Option (ℕ × ℕ)). option_map_or (λ s. s.0) o 0) is in
    let device : c.attachment ≡ slice_index counts f.place = ap (λ (o : Option (ℕ × ℕ)). option_map_or (λ s. s.1) o 0) is in
    ap not (eq-eqb (slice_index counts c.place) c.attachment (ap (slice_index counts) at ∙ sym device))

-- until the autopsy no command with an issue in flight is gone
pub journal_current : (head : PortHead) → HasOnePlace head → (journal : List EntryView) → IsLegal head journal → AreCurrent (past_of journal)
journal_current head fits journal legal early tag f here c known =
    gone_not (detachments (past_of journal)) f c
    (sym (ap (option_map (λ (x : Cmd). (x.place, x.attachment))) known) ∙ (journal_all head fits journal legal).there.current early tag f here)
