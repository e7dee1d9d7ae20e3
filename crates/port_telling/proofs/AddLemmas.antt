-- Acts told one part after the other.
use Rattle.std.proofs.Common.{◌≡◌, ◌∙◌, ℕ, ◌+◌, List, [], ◌∷◌, ◌++◌, length, map, refl, sym, ap, subst, arith, length-append}
use Rattle.std.proofs.lemmas.List.{flat_map_more}
use Rattle.std.proofs.lemmas.List.Folds.{flat_map-map}
use Rattle.std.proofs.lemmas.List.FromFn.{map-range_with_len_more}
use Rattle.std.specs.List.{flat_map, range_with_len}
use Rattle.ata_trace.specs.Entries.{past_of}
use Rattle.ata_trace.specs.Event.{onto}
use Rattle.ata_trace.specs.Event.Event.{Told}
use Rattle.ata_trace.specs.declared.act.Act.{Act}
use Rattle.ata_trace.specs.declared.act.Act.TheVariants.{Nothing}
use Rattle.ata_trace.proofs.Pasts.{onto_append}
use Rattle.port_ledger.specs.LedgerView.{LedgerView, Goes, past}
use Rattle.port_rules.specs.Told.{or_nothing}
use Rattle.port_telling.specs.Adds.{Adds}

-- two parts
pub adds_more :
    {before mid after : LedgerView} {acts more : List Act} → Adds before mid acts → Adds mid after more
    → Adds before after (acts ++ more)
adds_more {before = before} {acts = acts} {more = more} first second = record {
  past = second.past ∙ ap (λ p. onto p more) first.past ∙ sym (onto_append (past_of before.entries) acts more);
  head = second.head ∙ first.head;
  room = omega (arith, first.room, second.room, length-append acts more);
}

-- the acts said in another way
pub adds_same :
    {before after : LedgerView} {acts others : List Act} → acts ≡ others → Adds before after acts
    → Adds before after others
adds_same {before = before} {after = after} same adds = subst (λ told. Adds before after told) same adds

-- one act
pub adds_act :
    {before after : LedgerView} {act : Act} → Goes before after 0 1 (Told act ∷ past before)
    → Adds before after (act ∷ [])
adds_act goes = record { past = goes.past; head = goes.head; room = goes.room }

-- ---- an entry has at least one act

-- none was told where no room was taken
none_told : (before after : ℕ) (acts : List Act) → before ≡ after + length acts → before ≡ after → acts ≡ []
none_told before after [] room same = refl
none_told before after (act ∷ rest) room same = absurd (omega arith)

pub or_nothing_some :
    {before after : LedgerView} {acts : List Act} → Adds before after acts → (before.room ≡ after.room → ⊥)
    → Adds before after (or_nothing acts)
or_nothing_some {acts = []} adds other = absurd (other (omega (arith, adds.room)))
or_nothing_some {acts = act ∷ rest} adds other = adds

pub or_nothing_none :
    {before mid after : LedgerView} {acts : List Act} → Adds before mid acts → before.room ≡ mid.room
    → Adds mid after (Nothing ∷ []) → Adds before after (or_nothing acts)
or_nothing_none {before = before} {mid = mid} {acts = acts} adds same nothing =
    let none : acts ≡ [] = none_told before.room mid.room acts adds.room same in
    rw none (adds_more (rw none at adds) nothing)

-- ---- a list told of one number after the other

-- what is told of the first numbers, and of one more
pub one_more : {A : Type 0} (f : ℕ → List A) (n : ℕ) → flat_map f (range_with_len 0 n) ++ f n ≡ flat_map f (range_with_len 0 (n + 1))
one_more f n =
    let these : flat_map f (map (λ x. x) (range_with_len 0 n)) ≡ flat_map f (range_with_len 0 n) = flat_map-map f (λ x. x) (range_with_len 0 n) in
    let more : flat_map f (map (λ x. x) (range_with_len 0 (n + 1))) ≡ flat_map f (range_with_len 0 (n + 1)) =
    flat_map-map f (λ x. x) (range_with_len 0 (n + 1)) in
    ap (λ told. told ++ f n) (sym these)
    ∙ flat_map_more f [] (map (λ x. x) (range_with_len 0 n)) n
    ∙ ap (flat_map f) (sym (map-range_with_len_more (λ x. x) 0 n n (omega arith)))
    ∙ more
