use Rattle.std.proofs.Common.{◌≡◌, ◌∙◌, ℕ, ◌+◌, List, [], ◌∷◌, ◌++◌, length, take, set, ap, sym, append_assoc}
use Rattle.std.proofs.lemmas.List.{set_at, take_at, length_push}
use Rattle.ata_lanes.specs.Sum.{sealed}
use Rattle.ata_ident.proofs.writer.Writer.finish.Goals as goal

-- the words and the first byte of the integrity word
signed : (words : List ℕ) → length words ≡ 510 → take 511 (set (words ++ 0 ∷ 0 ∷ []) 510 165) ≡ words ++ 165 ∷ []
signed words size =
    let whole : set (words ++ 0 ∷ 0 ∷ []) 510 165 ≡ (words ++ 165 ∷ []) ++ 0 ∷ [] =
    set_at words 0 (0 ∷ []) 165 510 size ∙ sym (append_assoc words (165 ∷ []) (0 ∷ [])) in
    ap (take 511) whole ∙ take_at (words ++ 165 ∷ []) (0 ∷ []) 511 (length_push words 165 ∙ ap (λ n. n + 1) size)

pub returns : goal.returns
returns c =
    c.seal.ensures.page
    ∙ ap (λ words. sealed (take 511 (set (words ++ 0 ∷ 0 ∷ []) 510 165))) (c.copy_from_slice.ensures.after ∙ c.as_slice.ensures.value ∙ c.self.view_is)
    ∙ ap sealed (signed c.args.self c.requires)
