-- All stands after the boot, and of every legal journal of a direct port.
use Rattle.std.proofs.Common.{◌≡◌, ◌∙◌, ℕ, ◌+◌, Bool, true, false, ◌==◌, List, [], ◌∷◌, Option, None, Some, ◌⊎◌, inl, inr, suc, zero, map, flat_map, get_or, slice_get, refl, sym, ap, subst, arith, ◌&&◌}
use Rattle.std.specs.Prelude.{slice_index_or}
use Rattle.std.specs.List.{range_with_len}
use Rattle.std.specs.Option.{option_map_or}
use Rattle.std.proofs.lemmas.Bool.{eqb-true}
use Rattle.std.proofs.lemmas.List.Quantifiers.{position-Some}
use Rattle.ata_script.specs.declared.drive_head.DriveHead.{DriveHead}
use Rattle.ata_script.specs.declared.port_head.PortHead.{PortHead}
use Rattle.ata_trace.specs.Entries.{EntryView, grown, past_from, past_of}
use Rattle.ata_trace.specs.Event.{Event, onto}
use Rattle.ata_trace.specs.Event.Event.{Entered}
use Rattle.ata_trace.specs.declared.act.Act.{Act}
use Rattle.ata_trace.specs.declared.step.Step.{Step}
use Rattle.ata_trace.specs.declared.step.Step.TheVariants.{Boot}
use Rattle.ata_trace.specs.declared.who.Who.{Who}
use Rattle.ata_trace.specs.declared.who.Who.TheVariants.{Boot as ByBoot}
use Rattle.drive_model.specs.FreshAndReset.{fresh}
use Rattle.drive_model.specs.View.{DriveView}
use Rattle.host_tags.specs.Slots.{flight_at}
use Rattle.link_model.specs.LinkView.{LinkView, empty_link}
use Rattle.port_past.specs.Heads.{stands_at, drive_at_boot, places_of}
use Rattle.port_past.specs.Links.{link_at, plugged_at, link_at_boot}
use Rattle.eh_autopsy.specs.declared.failed_issue.FailedIssue.{FailedIssue}
use Rattle.port_rules.specs.Boot.{found_at, boot_acts, boot_entry}
use Rattle.port_rules.specs.Legal.{entry_after, AreLegal, HasLegalActs, IsLegal}
use Rattle.port_rules.specs.Told.{or_nothing}
use Rattle.port_stands.proofs.Blocks.{left_alone}
use Rattle.port_stands.proofs.DrivenEntries.{is_free, free_onto, driven_began}
use Rattle.port_stands.proofs.GuardFrames.{Frame, frame, frame_step, is_gate_row}
use Rattle.port_stands.proofs.Handled.{handled_ended}
use Rattle.port_stands.proofs.Lists.{all_or_nothing}
use Rattle.port_stands.proofs.Standing.{all_booted, none_flying, boot_stands}
use Rattle.port_stands.proofs.WholeDirect.{hands_over}
use Rattle.port_stands.proofs.WholeRecover.{whole_after}
use Rattle.port_stands.proofs.WholeRows.{Plant, plant, plant_left, is_idle_row}
use Rattle.port_stands.proofs.Wholes.{unmixed_onto}
use Rattle.port_stands.proofs.Within.{read_same}
use Rattle.port_stands.specs.Dated.{AreThere}
use Rattle.drive_model.specs.Single.{AreSingle}
use Rattle.port_stands.specs.Driven.{IsHeld, AreDriven}
use Rattle.ata_base.specs.Each.{Each}
use Rattle.port_stands.specs.Handled.{AreSingleTasks, IsIdle, handling, AreHandled}
use Rattle.port_stands.proofs.Heads.{HasOnePlace}
use Rattle.port_past.specs.PortState.{is_frozen}
use Rattle.port_stands.specs.Whole.{IsWhole}
use Rattle.port_stands.specs.Words.{is_no_issue}

-- what stands at a position of a row of numbers that is mapped
read_range : (f : ℕ → LinkView) (k n i : ℕ) → (link_at (map f (range_with_len k n)) i ≡ f (k + i)) ⊎ (link_at (map f (range_with_len k n)) i ≡ empty_link)
read_range f k zero i = inr refl
read_range f k (suc n) zero = inl (ap f (plus k))
  where
    plus : (k : ℕ) → k ≡ k + 0
    plus k = omega arith
read_range f k (suc n) (suc i) =
    elim (read_range f (k + 1) n i) [
      | inl e ↦ inl (e ∙ ap f (plus k i))
      | inr e ↦ inr e
    ]
  where
    plus : (k i : ℕ) → k + 1 + i ≡ k + suc i
    plus k i = omega arith

plugged_boot : (ds : List DriveHead) (x d : ℕ) → plugged_at (map (link_at_boot ds) (range_with_len 0 15)) x ≡ Some d → drive_at_boot ds x ≡ Some d
plugged_boot ds x d is =
    elim (read_range (link_at_boot ds) 0 15 x) [
      | inl e ↦ ap (drive_at_boot ds) (plus x) ∙ sym (ap (λ (l : LinkView). l.plugged) e) ∙ is
      | inr e ↦ absurd (cc (ap (λ (l : LinkView). l.plugged) e, is))
    ]
  where
    plus : (x : ℕ) → x ≡ 0 + x
    plus x = omega arith

place_of_head : (o : Option ℕ) (x : ℕ) → option_map_or (λ at. at == x) o false ≡ true → o ≡ Some x
place_of_head None x is = absurd (cc)
place_of_head (Some p) x is = ap Some (eqb-true p x is)

one_place_boot : (ds : List DriveHead) (x y d : ℕ) → drive_at_boot ds x ≡ Some d → drive_at_boot ds y ≡ Some d → x ≡ y
one_place_boot [] x y d a b = absurd (cc)
one_place_boot (h ∷ ds) x y d a b =
    let p = position-Some (stands_at x) (h ∷ ds) d h a in
    let q = position-Some (stands_at y) (h ∷ ds) d h b in
    some_one x y (sym (place_of_head (get_or (h ∷ ds) d h).place x p.1) ∙ place_of_head (get_or (h ∷ ds) d h).place y q.1)
  where
    some_one : (x y : ℕ) → Some x ≡ Some y → x ≡ y
    some_one x y e = cc

fresh_idle : (ds : List DriveHead) (d : ℕ) (v : DriveView) → slice_get (map (λ (h : DriveHead). fresh h.identity h.ready) ds) d ≡ Some v → IsIdle v
fresh_idle [] d v is = absurd (cc)
fresh_idle (h ∷ ds) zero v is = subst IsIdle (some_view (fresh h.identity h.ready) v is) (record { holds = refl; stopped = refl })
  where
    some_view : (a b : DriveView) → Some a ≡ Some b → a ≡ b
    some_view a b e = cc
fresh_idle (h ∷ ds) (suc d) v is = fresh_idle ds d v is

module _ (head : PortHead) where
  nothing_driven : AreDriven head []
  nothing_driven = record {
    plugged = λ x y d at_x at_y. one_place_boot head.drives x y d (plugged_boot head.drives x d at_x) (plugged_boot head.drives y d at_y);
    single = λ d v at. subst AreSingle (sym (fresh_idle head.drives d v at).holds) tt;
    held = λ d v at. subst (λ hs. Each (IsHeld head [] d) hs) (sym (fresh_idle head.drives d v at).holds) tt;
    stopped = λ d v e at by. absurd (cc ((fresh_idle head.drives d v at).stopped, by));
    struck = λ x failure is. absurd (cc (is, read_same {A = Option FailedIssue} 15 x None));
  }

  abbrev found : List Act
  found = flat_map (found_at head) (places_of head)

  nothing_sight : (p : List Event) (acts : List Act) → handling head (onto p (or_nothing acts)) ≡ handling head (onto p acts)
  nothing_sight p [] = refl
  nothing_sight p (act ∷ rest) = refl

  pub boot_whole : IsWhole head (grown [] (boot_entry head))
  boot_whole =
      let s : List Event = Entered 0 ByBoot 0 Boot ∷ [] in
      let same : frame head (onto s found) ≡ frame head [] = left_alone is_gate_row (frame head) (frame_step head) s found (all_booted is_gate_row head (λ p i. refl) (λ p w. refl) (λ p o. refl)) in
      let still : plant head (onto s found) ≡ plant head [] = plant_left head s found (all_booted is_idle_row head (λ p i. refl) (λ p w. refl) (λ p o. refl)) in
      record {
        stands = boot_stands head;
        unmixed = unmixed_onto s (boot_acts head) (all_or_nothing is_no_issue found refl (all_booted is_no_issue head (λ p i. refl) (λ p w. refl) (λ p o. refl)))
            (λ t u f g at_t at_u place apart. absurd (none_flying 32 t f at_t));
        driven = free_onto head s (boot_acts head) (all_or_nothing is_free found refl (all_booted is_free head (λ p i. refl) (λ p w. refl) (λ p o. refl)))
            (driven_began head [] 0 ByBoot 0 Boot nothing_driven);
        handled = subst AreHandled (sym (nothing_sight s found))
            (handled_ended (handling head (onto s found)) (ap (λ (f : Frame). f.running) same)
            (λ tag f here. none_flying 32 tag f (ap (λ (x : Frame). flight_at x.slots tag) (sym same) ∙ here))
            (λ x. ap (λ (p : Plant). slice_index_or p.failures x None) still ∙ read_same {A = Option FailedIssue} 15 x None)
            (subst AreSingleTasks (sym (ap (λ (f : Frame). f.tasks) same)) tt));
      }

  entries_whole :
      HasOnePlace head → head.pmp ≡ false → (past : List Event) (entries : List EntryView) → IsWhole head past → AreLegal head past entries → IsWhole head (past_from past entries)
  entries_whole fits direct past [] was legal = was
  entries_whole fits direct past (r ∷ rest) was legal =
      entries_whole fits direct (grown past r) rest
      (subst (λ x. IsWhole head (grown past x)) (sym legal.0)
      (whole_after head past r.who r.seq was fits r.step (hands_over head past r.who r.seq fits was (inl (ap (λ b. b && is_frozen past) direct))))) legal.1

  -- all stands of every legal journal of a direct port
  acts_whole : HasOnePlace head → head.pmp ≡ false → (journal : List EntryView) → HasLegalActs head journal → IsWhole head (past_of journal)
  acts_whole fits direct [] legal = absurd legal
  acts_whole fits direct (first ∷ rest) legal =
      entries_whole fits direct (grown [] first) rest
      (subst (λ x. IsWhole head (grown [] x)) (sym legal.0) boot_whole) legal.1

  pub journal_whole : HasOnePlace head → head.pmp ≡ false → (journal : List EntryView) → IsLegal head journal → IsWhole head (past_of journal)
  journal_whole fits direct journal legal = acts_whole fits direct journal legal.acts

-- all stands after each entry, where at a frozen multiplier the devices of what flies are there until the autopsy
pub whole_stays :
    (head : PortHead) (past : List Event) (who : Who) (seq : ℕ) → HasOnePlace head → (step : Step)
    → ((head.pmp && is_frozen past) ≡ true → AreThere past) → IsWhole head past
    → IsWhole head (grown past (entry_after head past who seq step))
whole_stays head past who seq fits step there was = by (head.pmp && is_frozen past) refl
  where
    by : (b : Bool) → (head.pmp && is_frozen past) ≡ b → IsWhole head (grown past (entry_after head past who seq step))
    by true e = whole_after head past who seq was fits step (hands_over head past who seq fits was (inr (there e)))
    by false e = whole_after head past who seq was fits step (hands_over head past who seq fits was (inl e))
