use Rattle.std.proofs.Common.{◌∙◌, length, sym, ap}
use Rattle.drive_model.proofs.Marked.{length_marks_of}
use Rattle.drive_model.proofs.marks.Marks.len.Goals as goal

pub returns : goal.returns
returns c = sym (length_marks_of c.self.inside.words.items c.self.inside.count) ∙ ap length c.self.view_is
