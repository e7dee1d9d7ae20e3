-- A command whose device didn't part since is of an attached device.
use Rattle.std.proofs.Common.{◌≡◌, ◌∙◌, ℕ, ◌+◌, ◌≤◌, Bool, true, false, ◌==◌, List, [], ◌∷◌, Option, None, Some, inl, inr, suc, zero, length, map, slice_set, refl, sym, arith, if◌then◌else◌}
use Rattle.std.specs.Prelude.{slice_index_or, slice_index}
use Rattle.std.specs.List.{list_all}
use Rattle.ata_base.specs.declared.cmd.Cmd.{Cmd}
use Rattle.ata_base.specs.declared.op.Op.{Op}
use Rattle.ata_script.specs.declared.port_head.PortHead.{PortHead}
use Rattle.ata_trace.specs.Event.{Event, onto}
use Rattle.ata_trace.specs.Event.Event.{Entered, Told}
use Rattle.ata_trace.specs.declared.act.Act.{Act}
use Rattle.ata_trace.specs.declared.act.Act.TheVariants.{Accepted, Retried, Attached, Detached, Disabled}
use Rattle.ata_trace.specs.declared.refusal.Refusal.{Refusal}
use Rattle.ata_trace.specs.declared.step.Step.TheVariants.{Submit}
use Rattle.ata_trace.specs.declared.who.Who.{Who}
use Rattle.port_past.specs.Commands.{commands, counted}
use Rattle.port_past.specs.Attachment.{attached, detachments}
use Rattle.port_past.specs.Places.{changed_at}
use Rattle.port_rules.specs.Submit.{refusal_of, refused_or_accepted, submit_acts}
use Rattle.ata_base.proofs.Truth.{both}
use Rattle.ata_base.proofs.EachLemmas.{every_weaker, every_append}
use Rattle.port_stands.proofs.Known.{accepted_fits}
use Rattle.port_stands.proofs.Within.{read_written_at}
use Rattle.port_stands.specs.Dated.{IsDated, AreDated}
use Rattle.ata_base.specs.Each.{Each}
use Rattle.port_past.proofs.PlaceSizes.{length_detachments}
use Rattle.port_past.proofs.Sizes.{length_attached}

length_same : (p : List Event) → length (detachments p) ≡ length (attached p)
length_same p = length_detachments p ∙ sym (length_attached p)

-- a parting at a place, where both lists have it, or neither
parted_by :
    (ns : List ℕ) (bs : List Bool) (place x device : ℕ) → length ns ≡ length bs → device ≤ slice_index ns x → (slice_index ns x ≡ device → slice_index_or bs x false ≡ true)
    → (device ≤ slice_index (changed_at place (λ n. n + 1) ns) x)
    × (slice_index (changed_at place (λ n. n + 1) ns) x ≡ device → slice_index_or (slice_set bs place false) x false ≡ true)
parted_by [] [] place x device same low is = (low, is)
parted_by [] (b ∷ bs) place x device same low is = absurd (omega (arith, same))
parted_by (n ∷ ns) [] place x device same low is = absurd (omega (arith, same))
parted_by (n ∷ ns) (b ∷ bs) zero zero device same low is = (omega (arith, low), λ e. absurd (omega (arith, low, e)))
parted_by (n ∷ ns) (b ∷ bs) zero (suc x) device same low is = (low, is)
parted_by (n ∷ ns) (b ∷ bs) (suc place) zero device same low is = (low, is)
parted_by (n ∷ ns) (b ∷ bs) (suc place) (suc x) device same low is = parted_by ns bs place x device (omega (arith, same)) low is

joined_by : (bs : List Bool) (place x : ℕ) → slice_index_or bs x false ≡ true → slice_index_or (slice_set bs place true) x false ≡ true
joined_by bs place x is = elim (read_written_at bs place x true false) [
  | inl here ↦ here.1
  | inr there ↦ there.0 ∙ is
]

-- an act by which no command is accepted
abbrev pub is_no_accept : Act → Bool
is_no_accept (Accepted id) = false
is_no_accept act = true

each_counted : (past : List Event) (id : ℕ) (raised : Bool) (was : List Cmd) → Each (IsDated (attached past) (detachments past)) was → Each (IsDated (attached past) (detachments past)) (map (λ c. if c.id == id then counted raised c else c) was)
each_counted past id raised [] each = tt
each_counted past id raised (c ∷ was) each = (by (c.id == id), each_counted past id raised was each.1)
  where
    by : (b : Bool) → IsDated (attached past) (detachments past) (if b then counted raised c else c)
    by true = record { early = each.0.early; present = each.0.present }
    by false = each.0

dated_step : (past : List Event) (act : Act) → is_no_accept act ≡ true → AreDated past → AreDated (Told act ∷ past)
dated_step past (Accepted id) none was = absurd (cc)
dated_step past (Attached place) none was = record {
  dated = every_weaker (IsDated (attached past) (detachments past)) (IsDated (slice_set (attached past) place true) (detachments past))
      (λ c d. record { early = d.early; present = λ e. joined_by (attached past) place c.place (d.present e) }) (commands past) was.dated;
}
dated_step past (Detached place) none was = record {
  dated = every_weaker (IsDated (attached past) (detachments past)) (IsDated (slice_set (attached past) place false) (changed_at place (λ n. n + 1) (detachments past)))
      (λ c d. let r = parted_by (detachments past) (attached past) place c.place c.attachment (length_same past) d.early d.present in record { early = r.0; present = r.1 }) (commands past) was.dated;
}
dated_step past (Disabled place) none was = record {
  dated = every_weaker (IsDated (attached past) (detachments past)) (IsDated (slice_set (attached past) place false) (changed_at place (λ n. n + 1) (detachments past)))
      (λ c d. let r = parted_by (detachments past) (attached past) place c.place c.attachment (length_same past) d.early d.present in record { early = r.0; present = r.1 }) (commands past) was.dated;
}
dated_step past (Retried id number raised) none was = record { dated = each_counted past id raised (commands past) was.dated }
dated_step past act none was = record { dated = was.dated }

pub dated_onto : (past : List Event) (acts : List Act) → list_all is_no_accept acts ≡ true → AreDated past → AreDated (onto past acts)
dated_onto past [] all was = was
dated_onto past (act ∷ rest) all was =
    let parts = both (is_no_accept act) (list_all is_no_accept rest) all in
    dated_onto (Told act ∷ past) rest parts.1 (dated_step past act parts.0 was)

module _ (head : PortHead) (past : List Event) (time : ℕ) (who : Who) (seq : ℕ) where
  accepted_dated :
      (id place : ℕ) (op : Op) (allow wait : ℕ) (why : Option Refusal) → refusal_of past id place op ≡ why → AreDated past
      → AreDated (onto (Entered time who seq (Submit id place op allow wait) ∷ past) (refused_or_accepted id why))
  accepted_dated id place op allow wait (Some why) is was = record { dated = was.dated }
  accepted_dated id place op allow wait None is was = record {
    dated = every_append (IsDated (attached past) (detachments past)) (commands past) _ was.dated
        (record { early = omega arith; present = λ e. (accepted_fits head past id place op is).1 }, tt);
  }

  pub submit_dated :
      (id place : ℕ) (op : Op) (allow wait : ℕ) → AreDated past
      → AreDated (onto (Entered time who seq (Submit id place op allow wait) ∷ past) (submit_acts past id place op))
  submit_dated id place op allow wait was = accepted_dated id place op allow wait (refusal_of past id place op) refl was
