use Rattle.std.proofs.Common.{rules, ◌≡◌, ◌∙◌, ◌≤◌, ◌*◌, replicate, ap, arith}
use Rattle.std.specs.Int.{div_ceil}
use Rattle.drive_model.specs.Marks.{marks_of}
use Rattle.drive_model.proofs.Marked.{marks_of_zero}
use Rattle.drive_model.proofs.marks.Marks.new.Goals as goal

pub returns : goal.returns
returns c =
    let words : c.in_ok-words.words.items ≡ replicate (div_ceil c.args.count 64) 0 = search rules in
    let room : c.args.count ≤ 64 * div_ceil c.args.count 64 = omega arith in
    ap (λ ws. marks_of ws c.args.count) words ∙ marks_of_zero (div_ceil c.args.count 64) c.args.count room
