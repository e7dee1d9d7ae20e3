use Rattle.std.proofs.Common.{◌≡◌, ℕ, ◌++◌, take, replicate, ap, refl, ◌∙◌}
use Rattle.ata_base.specs.declared.regs.Regs.{Regs}
use Rattle.ata_lanes.specs.Sum.{sealed}
use Rattle.ata_log.specs.Page.{head_bytes, blank_bytes}
use Rattle.ata_log.specs.Read.{reading_of}
use Rattle.ata_log.proofs.ReadBack.{reading_of-log_page}
use Rattle.ata_log.proofs.page.build.Goals as goal

-- what stands before the last byte
unsealed : (tag : ℕ) (r : Regs) → take 511 (head_bytes tag r ++ replicate 498 0) ≡ head_bytes tag r ++ blank_bytes
unfolding blank_bytes
unsealed tag r = refl

page_is : goal.returns-clause-page
page_is c =
    c.seal.ensures.page
    ∙ ap (λ front. sealed (take 511 (front ++ replicate 498 0))) (c.copy_from_slice.ensures.after ∙ c.head-front.ensures.value)
    ∙ ap sealed (unsealed c.args.tag c.args.r.now)

pub returns-clause-page : goal.returns-clause-page
returns-clause-page c = page_is c

pub returns-clause-read_back : goal.returns-clause-read_back
returns-clause-read_back c =
    ap reading_of (page_is c)
    ∙ reading_of-log_page c.args.tag c.args.r.now c.head-front.ensures.tag c.requires c.head-front.ensures.count
