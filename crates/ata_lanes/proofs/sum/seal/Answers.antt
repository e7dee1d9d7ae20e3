use Rattle.std.proofs.Common.{◌≡◌, ◌∙◌, ◌+◌, ◌-◌, ◌%◌, ◌++◌, ◌∷◌, [], get_or, take, ap, arith}
use Rattle.ata_lanes.specs.Sum.{byte_sum}
use Rattle.ata_lanes.proofs.Sealing.{byte_sum-sealed, set_last, sum_last}
use Rattle.ata_lanes.proofs.sum.seal.Goals as goal

page_is : goal.returns-clause-page
page_is c =
    let page = c.args.page.now in
    let whole = sum_last page c.told-page in
    let last : (get_or page 511 0 + (256 - c.sum512.result)) % 256 ≡ (256 - byte_sum (take 511 page)) % 256 =
    omega (arith, whole, c.sum512.ensures) in
    set_last page 511 ((get_or page 511 0 + (256 - c.sum512.result)) % 256) c.told-page
    ∙ ap (λ b. take 511 page ++ b ∷ []) last

pub returns-clause-page : goal.returns-clause-page
returns-clause-page c = page_is c

pub returns-clause-sum : goal.returns-clause-sum
returns-clause-sum c = ap byte_sum (page_is c) ∙ byte_sum-sealed (take 511 c.args.page.now)
