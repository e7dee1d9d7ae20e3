use Rattle.std.proofs.Common.{◌<◌, arith, bit_and}
use Rattle.std.specs.Int.{bit_not, w32}
use Rattle.std.proofs.lemmas.Nat.{and_le_r}
use Rattle.host_issue.specs.Finding.{is_answerable}
use Rattle.host_issue.proofs.FindingLemmas.{bit_answerable, least_found, none_found}
use Rattle.host_issue.proofs.finding.next_done.Goals as goal

pub returns-then-answerable-eq0 : goal.returns-then-answerable-eq0
returns-then-answerable-eq0 c =
    none_found (is_answerable c.args.slots.now c.args.hba.now.tags) _
    (λ t below. bit_answerable c.args.slots.now c.args.hba.now.tags c.busy.result c.owned.result c.done.result t c.busy.ensures.value c.owned.ensures.value c.done.ensures.value c.owned.type_inv below)
    c.if-answerable-eq0.true

pub returns-else-answerable-eq0 : goal.returns-else-answerable-eq0
returns-else-answerable-eq0 c =
    let answerable = bit_and (bit_and c.busy.result (bit_not w32 c.owned.result)) c.done.result in
    let some : 0 < answerable = omega (arith, c.if-answerable-eq0.false) in
    let fits : answerable < 4294967296 = omega (arith, c.done.type_inv, and_le_r (bit_and c.busy.result (bit_not w32 c.owned.result)) c.done.result) in
    least_found (is_answerable c.args.slots.now c.args.hba.now.tags) answerable c.at.result
    (λ t below. bit_answerable c.args.slots.now c.args.hba.now.tags c.busy.result c.owned.result c.done.result t c.busy.ensures.value c.owned.ensures.value c.done.ensures.value c.owned.type_inv below)
    some fits c.at.ensures
