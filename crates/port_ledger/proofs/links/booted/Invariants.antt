use Rattle.std.proofs.Common.{◌≡◌, ℕ, ◌<◌, length, get_or}
use Rattle.link_model.specs.LinkView.{empty_link}
use Rattle.port_past.specs.Links.{link_at_boot}
use Rattle.port_ledger.proofs.links.booted.Given as goal

abbrev pub invariant-loop-at : goal.invariant-loop-at
invariant-loop-at l =
    (length l.links ≡ 15) × ((k : ℕ) → k < l.at → get_or l.links k empty_link ≡ link_at_boot l.drives k)
