use Rattle.std.proofs.Common.{◌≡◌, ◌+◌, ◌<◌, true, false, take, map, arith, ap, ◌∙◌, length-take}
use Rattle.std.specs.Prelude.{All, slice_range}
use Rattle.std.proofs.lemmas.List.Elements.{All-take}
use Rattle.ata_ident.specs.Text.{pairs_swapped, readable, without_padding, text_in}
use Rattle.ata_ident.proofs.Texts.{AllAscii-map-readable}
use Rattle.ata_ident.proofs.text.name_at.Goals as goal

pub unreachable-requires : goal.unreachable-requires
unreachable-requires g c =
    let text = c.make_readable.new.bytes in
    let len = c.len_without_padding-len.result in
    let ascii : All (λ b. b < 128) (take len text) =
    All-take (λ b. b < 128) len text (rw c.make_readable.ensures (AllAscii-map-readable c.swap_pairs.new.bytes)) in
    let no : false ≡ true = c.in-None.ensures.found.1 (omega (arith, length-take len text), ascii) in
    absurd (cc)

pub returns : goal.returns
unfolding text_in
returns g c =
    let field = slice_range c.args.page.now c.args.at (c.args.at + g.row.N) in
    let read : c.make_readable.new.bytes ≡ map readable (pairs_swapped field) =
    c.make_readable.ensures ∙ ap (λ xs. map readable xs) (c.swap_pairs.ensures ∙ ap pairs_swapped c.copy_from_slice.ensures.after) in
    c.in-Some.ensures.value ∙ ap (λ n. take n c.make_readable.new.bytes) c.len_without_padding-len.ensures.value ∙ ap without_padding read
