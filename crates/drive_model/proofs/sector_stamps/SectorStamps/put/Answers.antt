use Rattle.std.proofs.Common.{◌∙◌, ◌<◌, ◌≤◌, ◌++◌, [], ◌∷◌, length, set, ap, arith}
use Rattle.drive_model.specs.Sectors.{stamps_of}
use Rattle.drive_model.proofs.Kept.{length_stamps_of, put_past}
use Rattle.drive_model.proofs.sector_stamps.SectorStamps.put.Goals as goal

pub returns-else-at-len : goal.returns-else-at-len
returns-else-at-len c =
    let kept = c.self.inside.kept.items in
    let past : length kept ≤ c.args.at = omega (arith, c.if-at-len.false, c.len.ensures, c.self.inside.kept.ok.0) in
    let within : c.args.at < c.self.inside.count = omega (arith, c.requires, ap length c.self.view_is, length_stamps_of kept c.self.inside.count c.self.invariant.0) in
    ap (λ items. stamps_of items c.self.inside.count) (c.push_reserved.ensures.items ∙ ap (λ items. items ++ c.args.stamp ∷ []) c.reach.ensures.items)
    ∙ put_past kept c.self.inside.count c.args.at c.args.stamp past within
    ∙ ap (λ stamps. set stamps c.args.at c.args.stamp) c.self.view_is
