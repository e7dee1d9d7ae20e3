use Rattle.std.proofs.Common.{◌∙◌, ◌*◌, ◌/◌, ◌%◌, ◌<◌, ◌≤◌, ◌^◌, nat_eq, false, length, get_or, sym, ap, arith, bit_and}
use Rattle.std.proofs.lemmas.Nat.Bits.{shr_and_one}
use Rattle.std.proofs.lemmas.List.{get_or_default}
use Rattle.drive_model.proofs.Marked.{length_marks_of, get_or_marks_of}
use Rattle.drive_model.proofs.marks.Marks.get.Goals as goal

pub index-requires : goal.index-requires
index-requires c =
    let within : c.args.at < c.self.inside.count = rw (← length_marks_of c.self.inside.words.items c.self.inside.count, c.self.view_is) c.requires in
    let room : c.self.inside.count ≤ 64 * length c.self.inside.words.items = c.self.invariant in
    rw (c.self.inside.words.ok.0) (omega (arith, within, room))

pub returns : goal.returns
returns c =
    let within : c.args.at < c.self.inside.count = rw (← length_marks_of c.self.inside.words.items c.self.inside.count, c.self.view_is) c.requires in
    let room : c.self.inside.count ≤ 64 * length c.self.inside.words.items = c.self.invariant in
    let word = c.index.ensures ∙ get_or_default c.self.inside.words.items (c.args.at / 64) c.index.result.now 0 (omega (arith, within, room)) in
    ap (λ v. nat_eq (bit_and (v / 2 ^ (c.args.at % 64)) 1) 1) word
    ∙ ap (λ v. nat_eq v 1) (shr_and_one (get_or c.self.inside.words.items (c.args.at / 64) 0) (c.args.at % 64))
    ∙ sym (get_or_marks_of c.self.inside.words.items c.self.inside.count c.args.at within)
    ∙ ap (λ l. get_or l c.args.at false) c.self.view_is
