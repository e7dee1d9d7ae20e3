use Rattle.std.proofs.Common.{◌∙◌, length, sym, ap}
use Rattle.drive_model.proofs.Kept.{length_stamps_of}
use Rattle.drive_model.proofs.sector_stamps.SectorStamps.len.Goals as goal

pub returns : goal.returns
returns c = sym (length_stamps_of c.self.inside.kept.items c.self.inside.count c.self.invariant.0) ∙ ap length c.self.view_is
