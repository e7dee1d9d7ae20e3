use Rattle.std.proofs.Common.{◌≡◌, ◌∙◌, ◌+◌, ◌<◌, Bool, false, List, Some, length, get_or, sym, ap, arith}
use Rattle.drive_model.specs.Sectors.{SectorsView}
use Rattle.drive_model.proofs.Marked.{none_bad, first_bad}
use Rattle.drive_model.proofs.sectors.Sectors.least_bad.Goals as goal

abbrev bad_of : SectorsView → List Bool
bad_of s = s.bad

pub returns-then-get-clause-value : goal.returns-then-get-clause-value
returns-then-get-clause-value c =
    let same : c.self.inside.bad ≡ c.args.self.now.bad = ap bad_of c.self.view_is in
    let at : c.saturating_add-at.result ≡ c.args.lba + c.loop-step.step = omega (arith, c.saturating_add-at.ensures, c.from.ensures, c.if-at-len.true, c.len.type_inv) in
    let within : c.args.lba + c.loop-step.step < length c.args.self.now.bad =
    rw (← same) (omega (arith, at, c.if-at-len.true, c.len.ensures, c.self.invariant)) in
    ap Some at
    ∙ first_bad c.args.lba c.args.count c.loop-step.step c.args.self.now.bad within c.loop-step-test.true c.loop-step.invariant
    (ap (λ l. get_or l (c.args.lba + c.loop-step.step) false) (sym same)
    ∙ ap (λ i. get_or c.self.inside.bad i false) (sym at)
    ∙ sym c.get.ensures
    ∙ c.if-get.true)

pub returns-clause-value : goal.returns-clause-value
returns-clause-value c =
    none_bad c.args.lba c.args.count c.args.self.now.bad
    (λ k below. c.loop-step.invariant k (omega (arith, below, c.loop-step-test.false)))
