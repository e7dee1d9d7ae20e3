use Rattle.std.proofs.Common.{arith, ℕ, List, subst}
use Rattle.std.specs.Prelude.{slice_set}
use Rattle.ata_script.specs.Drafts.{AddsAt}
use Rattle.ata_script.specs.declared.port_head.PortHead.{PortHead}
use Rattle.ata_script.proofs.DrivesAdded.{added_at, there}
use Rattle.ata_script.proofs.head.Head.add_drive.Goals as goal

pub returns : goal.returns
returns c =
    let items = c.self.inside.list.items in
    let at = c.get-at.result in
    let next = c.add_drive.new.port in
    let is = there items at c.index_mut.result.now (omega (arith, c.if-at-len.false, c.len.ensures)) c.index_mut.ensures.value in
    subst (λ (now : List PortHead). AddsAt now (slice_set items at next) c.args.port c.args.number c.args.drive c.add_drive.result) c.self.view_is
    (subst (λ (place : ℕ). AddsAt items (slice_set items at next) place c.args.number c.args.drive c.add_drive.result) c.get-at.ensures.value
    (added_at items at c.index_mut.result.now next c.args.number c.args.drive c.add_drive.result is c.add_drive.ensures))
