-- What a drive holds is on it, and it keeps its size.
use Rattle.std.proofs.Common.{◌≡◌, ◌∙◌, ℕ, ◌==◌, Bool, true, not, List, [], ◌∷◌, Option, None, Some, map, slice_get, suc, refl, sym, ap, subst}
use Rattle.std.specs.List.{list_all}
use Rattle.std.specs.Option.{option_map_or}
use Rattle.ata_base.proofs.EachLemmas.{every_append, every_filter}
use Rattle.ata_base.proofs.Truth.{both}
use Rattle.ata_base.specs.Each.{Each}
use Rattle.ata_base.specs.declared.fault.Fault.{Fault}
use Rattle.ata_base.specs.declared.fault.Fault.TheVariants.{Media}
use Rattle.ata_base.specs.declared.identity.Identity.{Identity}
use Rattle.ata_base.specs.declared.issue_no.IssueNo.{IssueNo}
use Rattle.ata_base.specs.declared.op.Op.{Op}
use Rattle.ata_base.specs.declared.regs.Regs.{Regs}
use Rattle.ata_script.specs.declared.drive_head.DriveHead.{DriveHead}
use Rattle.ata_script.specs.declared.port_head.PortHead.{PortHead}
use Rattle.ata_trace.specs.Event.{Event, onto}
use Rattle.ata_trace.specs.Event.Event.{Told}
use Rattle.ata_trace.specs.declared.act.Act.{Act}
use Rattle.ata_trace.specs.declared.act.Act.TheVariants.{Issued, Done, ResetBegun, IdentAsked, Unplugged, Injected, Log, LogFailed, LogBadSum, LogNotQueued}
use Rattle.ata_trace.specs.declared.step.Step.{Step}
use Rattle.ata_trace.specs.declared.step.Step.TheVariants.{Inject}
use Rattle.drive_model.specs.FreshAndReset.{fresh, emptied, reset_at}
use Rattle.drive_model.specs.Holding.{issue_of, taken}
use Rattle.drive_model.specs.Inject.{injected}
use Rattle.drive_model.specs.Log.{after_asking}
use Rattle.drive_model.specs.Told.{ended_with, with_done, log_read}
use Rattle.drive_model.specs.View.{DriveView}
use Rattle.drive_model.specs.Work.{registers}
use Rattle.drive_model.specs.declared.held.Held.{Held}
use Rattle.drive_model.specs.declared.log_told.LogTold.{LogTold}
use Rattle.drive_model.specs.declared.log_told.LogTold.TheVariants.{Page, BadPage, NoPage}
use Rattle.host_tags.specs.Slots.{lowest_free}
use Rattle.port_facts.proofs.Kept.{sectors_at_boot}
use Rattle.port_facts.specs.Stamps.{sectors_of}
use Rattle.port_past.proofs.EachAt.{EachAt, at_changed_if}
use Rattle.port_past.specs.Clock.{clock}
use Rattle.port_past.specs.Drives.{drives, with_fault}
use Rattle.port_past.specs.Links.{links, linked_at, plugged_at, worker}
use Rattle.port_past.specs.Places.{changed_at_some}
use Rattle.port_past.specs.Slots.{slots}
use Rattle.port_past.specs.Steps.{last_step}
use Rattle.port_rules.specs.Submit.{is_on_device}
use Rattle.port_stands.proofs.Fitting.{HoldsOwn, HoldOwn}
use Rattle.port_stands.specs.Words.{is_no_issue}

-- ---- one drive

emptied_own : (sectors : ℕ) (v w : DriveView) → w.identity ≡ v.identity → w.held ≡ [] → HoldsOwn sectors v → HoldsOwn sectors w
emptied_own sectors v w identity held was = record {
  size = ap (λ (i : Identity). i.sectors) identity ∙ was.size;
  held = subst (Each (λ (h : Held). is_on_device h.op sectors ≡ true)) (sym held) tt;
}

alike_own : (sectors : ℕ) (v w : DriveView) → w.identity ≡ v.identity → w.held ≡ v.held → HoldsOwn sectors v → HoldsOwn sectors w
alike_own sectors v w identity held was = record {
  size = ap (λ (i : Identity). i.sectors) identity ∙ was.size;
  held = subst (Each (λ (h : Held). is_on_device h.op sectors ≡ true)) (sym held) was.held;
}

log_own : (sectors : ℕ) (idle : Option ℕ) (told : LogTold) (v : DriveView) → HoldsOwn sectors v → HoldsOwn sectors (log_read idle told v)
log_own sectors idle (Page tag regs) v was = emptied_own sectors v (log_read idle (Page tag regs) v) refl refl was
log_own sectors idle BadPage v was = emptied_own sectors v (log_read idle BadPage v) refl refl was
log_own sectors idle NoPage v was = alike_own sectors v (log_read idle NoPage v) refl refl was

injected_own : (sectors : ℕ) (fault : Fault) (v : DriveView) → HoldsOwn sectors v → HoldsOwn sectors (injected fault v)
injected_own sectors (Media lba) v was = alike_own sectors v (injected (Media lba) v) refl refl was
injected_own sectors fault v was = alike_own sectors v (injected fault v) refl refl was

fault_own : (sectors : ℕ) (step : Step) (v : DriveView) → HoldsOwn sectors v → HoldsOwn sectors (with_fault step v)
fault_own sectors (Inject place fault) v was = injected_own sectors fault v was
fault_own sectors step v was = was

done_own : (sectors number : ℕ) (regs : Regs) (v : DriveView) (found : Option Held) → HoldsOwn sectors v → HoldsOwn sectors (ended_with regs found v)
done_own sectors number regs v None was = was
done_own sectors number regs v (Some h) was = record {
  size = was.size;
  held = every_filter (λ (g : Held). is_on_device g.op sectors ≡ true) (λ g. not (g.number.n == h.number.n)) v.held was.held;
}

pub taken_own :
    (sectors : ℕ) (number : IssueNo) (tag : ℕ) (op : Op) (queued : Bool) (v : DriveView) → is_on_device op sectors ≡ true → HoldsOwn sectors v
    → HoldsOwn sectors (taken number tag op queued v)
taken_own sectors number tag op queued v fits was = record {
  size = was.size;
  held = every_append (λ (g : Held). is_on_device g.op sectors ≡ true) v.held _ was.held (fits, tt);
}

-- ---- all drives

-- before any entry
fresh_own :
    (ds : List DriveHead) (long : ℕ → ℕ) → ((d : ℕ) → option_map_or (λ (h : DriveHead). h.identity.sectors) (slice_get ds d) (long d) ≡ long d)
    → EachAt (λ d v. HoldsOwn (long d) v) (map (λ (h : DriveHead). fresh h.identity h.ready) ds)
fresh_own [] long is = tt
fresh_own (h ∷ ds) long is = (record { size = is 0; held = tt }, fresh_own ds (λ d. long (suc d)) (λ d. is (suc d)))

module _ (head : PortHead) where
  pub own_first : HoldOwn head []
  own_first = fresh_own head.drives (sectors_of head) (λ d. sectors_at_boot (slice_get head.drives d))

  changes :
      (past : List Event) (at : Option ℕ) (change : DriveView → DriveView) → ((sectors : ℕ) (v : DriveView) → HoldsOwn sectors v → HoldsOwn sectors (change v))
      → HoldOwn head past → EachAt (λ d v. HoldsOwn (sectors_of head d) v) (changed_at_some at change (drives head past))
  changes past at change keeps was =
      at_changed_if (λ d v. HoldsOwn (sectors_of head d) v) (λ d v. HoldsOwn (sectors_of head d) v) at change (drives head past) (λ d v. keeps (sectors_of head d) v) (λ d v kept. kept) was

  logs_own :
      (past : List Event) (place : ℕ) (told : LogTold) → HoldOwn head past
      → EachAt (λ d v. HoldsOwn (sectors_of head d) v) (changed_at_some (linked_at (links head past) place) (log_read (lowest_free (slots past)) told) (drives head past))
  logs_own past place told was =
      changes past (linked_at (links head past) place) (log_read (lowest_free (slots past)) told) (λ sectors v. log_own sectors (lowest_free (slots past)) told v) was

  -- an act that issues nothing
  pub own_step : (past : List Event) (act : Act) → is_no_issue act ≡ true → HoldOwn head past → HoldOwn head (Told act ∷ past)
  own_step past (Issued id number tag deadline fis) is was = absurd (cc)
  own_step past (Done number status error lba count) is was =
      changes past (worker (last_step past) (links head past)) (with_done number.n (registers status error lba count))
      (λ sectors v. done_own sectors number.n (registers status error lba count) v (issue_of number.n v.held)) was
  own_step past (ResetBegun (Some place) attempt deadline) is was =
      changes past (plugged_at (links head past) place) (reset_at (record { n = clock past })) (λ sectors v. emptied_own sectors v (reset_at (record { n = clock past }) v) refl refl) was
  own_step past (IdentAsked place attempt deadline) is was =
      changes past (linked_at (links head past) place) after_asking (λ sectors v. alike_own sectors v (after_asking v) refl refl) was
  own_step past (Unplugged place) is was = changes past (plugged_at (links head past) place) emptied (λ sectors v. emptied_own sectors v (emptied v) refl refl) was
  own_step past (Injected place) is was = changes past (plugged_at (links head past) place) (with_fault (last_step past)) (λ sectors v. fault_own sectors (last_step past) v) was
  own_step past (Log place tag status error lba count) is was = logs_own past place (Page tag (registers status error lba count)) was
  own_step past (LogFailed place) is was = logs_own past place NoPage was
  own_step past (LogBadSum place) is was = logs_own past place BadPage was
  own_step past (LogNotQueued place) is was = logs_own past place BadPage was
  own_step past act is was = was

  pub own_onto : (past : List Event) (acts : List Act) → list_all is_no_issue acts ≡ true → HoldOwn head past → HoldOwn head (onto past acts)
  own_onto past [] all was = was
  own_onto past (act ∷ rest) all was =
      let parts = both (is_no_issue act) (list_all is_no_issue rest) all in
      own_onto (Told act ∷ past) rest parts.1 (own_step past act parts.0 was)
