use Rattle.std.proofs.Common.{◌∙◌, ◌*◌, ◌/◌, ◌%◌, ◌<◌, ◌≤◌, ◌^◌, true, false, length, set, sym, ap, arith, bit_and, bit_or}
use Rattle.std.specs.Int.{bit_not, w64}
use Rattle.drive_model.specs.Marks.{marks_of}
use Rattle.std.proofs.lemmas.List.{get_or_default}
use Rattle.drive_model.proofs.Marked.{length_marks_of, marks_of_set, marks_of_clear}
use Rattle.drive_model.proofs.marks.Marks.put.Goals as goal

pub index_mut-requires : goal.index_mut-requires
index_mut-requires c =
    let within : c.args.at < c.self.inside.count = rw (← length_marks_of c.self.inside.words.items c.self.inside.count, c.self.view_is) c.requires in
    let room : c.self.inside.count ≤ 64 * length c.self.inside.words.items = c.self.invariant in
    rw (c.self.inside.words.ok.0) (omega (arith, within, room))

pub index_mut-requires-else-marked : goal.index_mut-requires-else-marked
index_mut-requires-else-marked c =
    let within : c.args.at < c.self.inside.count = rw (← length_marks_of c.self.inside.words.items c.self.inside.count, c.self.view_is) c.requires in
    let room : c.self.inside.count ≤ 64 * length c.self.inside.words.items = c.self.invariant in
    rw (c.self.inside.words.ok.0) (omega (arith, within, room))

pub returns-then-marked : goal.returns-then-marked
returns-then-marked c =
    let within : c.args.at < c.self.inside.count = rw (← length_marks_of c.self.inside.words.items c.self.inside.count, c.self.view_is) c.requires in
    let room : c.self.inside.count ≤ 64 * length c.self.inside.words.items = c.self.invariant in
    let word = c.index_mut.ensures.value ∙ get_or_default c.self.inside.words.items (c.args.at / 64) c.index_mut.result.now 0 (omega (arith, within, room)) in
    ap (λ v. marks_of (set c.self.inside.words.items (c.args.at / 64) (bit_or v (1 * 2 ^ (c.args.at % 64) % 2 ^ 64))) c.self.inside.count) word
    ∙ marks_of_set c.self.inside.words.items c.self.inside.count c.args.at within room
    ∙ ap (λ l. set l c.args.at true) c.self.view_is
    ∙ ap (λ b. set c.args.self.now c.args.at b) (sym c.if-marked.true)

pub returns-else-marked : goal.returns-else-marked
returns-else-marked c =
    let within : c.args.at < c.self.inside.count = rw (← length_marks_of c.self.inside.words.items c.self.inside.count, c.self.view_is) c.requires in
    let room : c.self.inside.count ≤ 64 * length c.self.inside.words.items = c.self.invariant in
    let word = c.index_mut-else-marked.ensures.value ∙ get_or_default c.self.inside.words.items (c.args.at / 64) c.index_mut-else-marked.result.now 0 (omega (arith, within, room)) in
    ap (λ v. marks_of (set c.self.inside.words.items (c.args.at / 64) (bit_and v (bit_not w64 (1 * 2 ^ (c.args.at % 64) % 2 ^ 64)))) c.self.inside.count) word
    ∙ marks_of_clear c.self.inside.words.items c.self.inside.count c.args.at within room
    ∙ ap (λ l. set l c.args.at false) c.self.view_is
    ∙ ap (λ b. set c.args.self.now c.args.at b) (sym c.if-marked.false)
