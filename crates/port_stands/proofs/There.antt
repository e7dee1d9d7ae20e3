-- Until the autopsy the place of each issue in flight has a device, where an entry changes neither.
use Rattle.std.proofs.Common.{◌≡◌, ◌∙◌, ℕ, Bool, true, false, not, ◌&&◌, ◌==◌, List, [], ◌∷◌, Some, option_map, inl, inr, refl, sym, ap, subst}
use Rattle.std.specs.Prelude.{slice_index_or, slice_index}
use Rattle.std.specs.List.{list_all}
use Rattle.std.proofs.lemmas.Bool.{eqb-true}
use Rattle.ata_base.specs.declared.cmd.Cmd.{Cmd}
use Rattle.ata_script.specs.declared.port_head.PortHead.{PortHead}
use Rattle.ata_trace.specs.Event.{Event, onto}
use Rattle.ata_trace.specs.Event.Event.{Entered, Told}
use Rattle.ata_trace.specs.declared.act.Act.{Act}
use Rattle.ata_trace.specs.declared.act.Act.TheVariants.{Issued, Attached, Detached, Disabled, Begun, Autopsied, Ended}
use Rattle.ata_trace.specs.declared.step.Step.{Step}
use Rattle.ata_trace.specs.declared.who.Who.{Who}
use Rattle.host_queue.specs.Waiting.{waiting_at}
use Rattle.host_tags.specs.declared.in_flight.InFlight.{InFlight}
use Rattle.port_facts.proofs.Known.{standing_later}
use Rattle.port_facts.specs.Device.{device_of}
use Rattle.port_past.specs.Commands.{commands, place_of}
use Rattle.port_past.specs.Attachment.{attached, detachments}
use Rattle.port_past.specs.PortState.{is_running, is_autopsied}
use Rattle.port_past.specs.Queues.{queues}
use Rattle.port_past.specs.Slots.{slots}
use Rattle.std.specs.Option.{option_map_or}
use Rattle.port_stands.proofs.Blocks.{left_alone, all_wider}
use Rattle.port_stands.proofs.Judgements.{each_found}
use Rattle.port_stands.proofs.Kicks.{IsIssue}
use Rattle.ata_base.proofs.EachLemmas.{every_front}
use Rattle.port_stands.proofs.Numbers.{flew, read_written, some_same}
use Rattle.port_stands.specs.Dated.{IsDated, AreDated, AreThere}
use Rattle.port_stands.specs.Known.{IsWaiting, AreKnown}
use Rattle.port_stands.specs.Words.{is_no_issue}

-- an act that issues nothing and changes neither devices nor where recovery stands
abbrev pub is_steady : Act → Bool
is_steady (Issued id number tag deadline fis) = false
is_steady (Attached place) = false
is_steady (Detached place) = false
is_steady (Disabled place) = false
is_steady Begun = false
is_steady Autopsied = false
is_steady Ended = false
is_steady act = true

-- devices, and whether recovery runs after its autopsy
pub record Yard : Type 0 where
  pub attached : List Bool
  pub running : Bool
  pub autopsied : Bool
  pub detachments : List ℕ

abbrev pub yard : List Event → Yard
yard past = record { attached = attached past; running = is_running past; autopsied = is_autopsied past; detachments = detachments past }

yard_step : (past : List Event) (act : Act) → is_steady act ≡ true → yard (Told act ∷ past) ≡ yard past
yard_step past (Issued id number tag deadline fis) is = absurd (cc)
yard_step past (Attached place) is = absurd (cc)
yard_step past (Detached place) is = absurd (cc)
yard_step past (Disabled place) is = absurd (cc)
yard_step past Begun is = absurd (cc)
yard_step past Autopsied is = absurd (cc)
yard_step past Ended is = absurd (cc)
yard_step past act is = refl

steady_issues : (act : Act) → is_steady act ≡ true → is_no_issue act ≡ true
steady_issues (Issued id number tag deadline fis) is = absurd (cc)
steady_issues act is = refl

-- what stands of a command's device stands later too
pub device_onto :
    (past : List Event) (acts : List Act) (id : ℕ) (s : ℕ × ℕ) → device_of id (commands past) ≡ Some s
    → device_of id (commands (onto past acts)) ≡ Some s
device_onto past [] id s is = is
device_onto past (act ∷ rest) id s is = device_onto (Told act ∷ past) rest id s (standing_later (Told act) past id s is)

-- and of an issue that was only marked
pub same_device :
    (known : List Cmd) (counts : List ℕ) (f g : InFlight) → f.id ≡ g.id → f.place ≡ g.place
    → device_of g.id known ≡ Some (g.place, slice_index counts g.place) → device_of f.id known ≡ Some (f.place, slice_index counts f.place)
same_device known counts f g id place is =
    ap (λ i. device_of i known) id ∙ is ∙ ap (λ p. Some (p, slice_index counts p)) (sym place)

-- an entry of steady acts
pub there_entry :
    (past : List Event) (time : ℕ) (who : Who) (seq : ℕ) (step : Step) (acts : List Act) → list_all is_steady acts ≡ true → AreThere past
    → AreThere (onto (Entered time who seq step ∷ past) acts)
there_entry past time who seq step acts all was =
    let start : List Event = Entered time who seq step ∷ past in
    let same : yard (onto start acts) ≡ yard past = left_alone is_steady yard yard_step start acts all in
    record {
      there = λ early tag f here.
          let a = flew start acts (all_wider is_steady is_no_issue steady_issues acts all) tag f here in
          ap (λ (y : Yard). slice_index_or y.attached f.place false) same
          ∙ ap (λ p. slice_index_or (attached past) p false) a.1.1.place
          ∙ was.there (ap (λ (y : Yard). y.running && y.autopsied) (sym same) ∙ early) tag a.0 a.1.0;
      current = λ early tag f here.
          let a = flew start acts (all_wider is_steady is_no_issue steady_issues acts all) tag f here in
          device_onto start acts f.id (f.place, slice_index (detachments past) f.place)
          (same_device (commands past) (detachments past) f a.0 a.1.1.cmd a.1.1.place
          (was.current (ap (λ (y : Yard). y.running && y.autopsied) (sym same) ∙ early) tag a.0 a.1.0))
          ∙ ap (λ (y : Yard). Some (f.place, slice_index y.detachments f.place)) (sym same);
    }

not_gone : (b : Bool) → not b ≡ false → b ≡ true
not_gone true e = refl
not_gone false e = absurd (cc)

-- an issue of a command whose device is there
pub there_issued :
    (head : PortHead) (past : List Event) (time : ℕ) (who : Who) (seq : ℕ) (step : Step) (place : ℕ) (acts : List Act)
    → IsIssue head past place acts → AreKnown past → AreDated past → AreThere past → is_running past ≡ false
    → AreThere (onto (Entered time who seq step ∷ past) acts)
there_issued head past time who seq step place acts issue known dated was idle =
    let id : ℕ = issue.cmd.id in
    let front : IsWaiting (commands past) place issue.cmd =
    every_front (IsWaiting (commands past) place) (waiting_at (queues past) place) issue.cmd issue.waiting (known.waiting place) in
    let k : Cmd = front.known.cmd in
    let at : place_of id (commands past) ≡ k.place = ap (λ o. option_map_or (λ c. c.place) o 0) front.known.found in
    let d : IsDated (attached past) (detachments past) k = each_found (IsDated (attached past) (detachments past)) id (commands past) k front.known.found dated.dated in
    let same : slice_index (detachments past) k.place ≡ k.attachment =
    ap (slice_index (detachments past)) front.known.there
    ∙ eqb-true (slice_index (detachments past) issue.cmd.place) issue.cmd.attachment (not_gone (slice_index (detachments past) issue.cmd.place == issue.cmd.attachment) issue.present)
    ∙ sym front.attachment in
    subst (λ a. AreThere (onto (Entered time who seq step ∷ past) a)) (sym issue.told)
    (record {
      there = λ early tag f here. elim (read_written (slots past) issue.tag tag _ f here) [
        | inl new ↦ ap (λ (x : InFlight). slice_index_or (attached past) x.place false) (sym (some_same _ f new.1))
            ∙ ap (λ p. slice_index_or (attached past) p false) at ∙ d.present same
        | inr old ↦ was.there early tag f old.1
      ];
      current = λ early tag f here. elim (read_written (slots past) issue.tag tag _ f here) [
        | inl new ↦
            subst (λ (x : InFlight). device_of x.id (commands past) ≡ Some (x.place, slice_index (detachments past) x.place)) (some_same _ f new.1)
            (ap (option_map (λ (c : Cmd). (c.place, c.attachment))) front.known.found
            ∙ ap (λ (a : ℕ). Some (k.place, a)) (sym same)
            ∙ ap (λ (p : ℕ). Some (p, slice_index (detachments past) p)) (sym at))
        | inr old ↦ was.current early tag f old.1
      ];
    })
