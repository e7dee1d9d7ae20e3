use Rattle.std.proofs.Common.{◌≡◌, ◌∙◌, ℕ, ◌+◌, List, ◌++◌, take, set, refl, ap}
use Rattle.ata_base.specs.declared.regs.Regs.{Regs}
use Rattle.ata_lanes.specs.Sum.{sealed}
use Rattle.ata_log.specs.Page.{head_bytes, blank_bytes, log_page}
use Rattle.drive_model.proofs.log_page.not_queued.Goals as goal

-- a page with NQ set, without its last byte
marked : (tag : ℕ) (r : Regs) → take 511 (set (log_page tag r) 0 (tag + 128)) ≡ head_bytes (tag + 128) r ++ blank_bytes
unfolding blank_bytes
marked tag r = refl

marked_page : (tag b : ℕ) (r : Regs) (page : List ℕ) → page ≡ log_page tag r → b ≡ tag
    → sealed (take 511 (set page 0 (b + 128))) ≡ log_page (tag + 128) r
marked_page tag b r page is same =
    ap (λ xs. sealed (take 511 (set xs 0 (b + 128)))) is
    ∙ ap (λ n. sealed (take 511 (set (log_page tag r) 0 (n + 128)))) same
    ∙ ap sealed (marked tag r)

pub returns : goal.returns
returns c =
    c.seal.ensures.page
    ∙ marked_page c.args.e.now.tag c.get.result c.args.e.now.regs c.build-page.result c.build-page.ensures.page c.get.ensures.value
