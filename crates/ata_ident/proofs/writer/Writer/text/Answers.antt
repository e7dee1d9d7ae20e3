use Rattle.std.proofs.Common.{◌≡◌, ◌++◌, length, replicate, drop, ap, ◌∙◌}
use Rattle.std.proofs.lemmas.List.{drop-replicate}
use Rattle.ata_ident.specs.Text.{pairs_swapped, padded_to, text_bytes}
use Rattle.ata_ident.proofs.writer.Writer.text.Goals as goal

pub returns-clause-value : goal.returns-clause-value
unfolding text_bytes
returns-clause-value g c =
    let text = c.args.text.now in
    let copied : c.copy_from_slice.new.self ≡ text = c.copy_from_slice.ensures.after ∙ c.bytes-bytes.ensures.value in
    let field : c.copy_from_slice.new.self ++ drop (length c.bytes-bytes.result.now) (replicate g.row.N 32) ≡ padded_to g.row.N text =
    rw (copied, c.bytes-bytes.ensures.value) (ap (λ spaces. text ++ spaces) (drop-replicate (length text) g.row.N 32)) in
    c.put.ensures.value ∙ ap (λ bytes. c.args.self.now ++ bytes) (c.swap_pairs.ensures ∙ ap pairs_swapped field)
