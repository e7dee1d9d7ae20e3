-- The last of the entries, with more acts.
use Rattle.std.proofs.Common.{◌≡◌, ◌∙◌, List, [], ◌∷◌, ◌++◌, refl, sym, ap, append-nil, append_assoc}
use Rattle.ata_trace.specs.Entries.{EntryView, with_act}
use Rattle.ata_trace.specs.OpenEntries.{last_acts, with_acts}
use Rattle.ata_trace.specs.declared.act.Act.{Act}

-- the acts of the entry that was appended
pub last_pushed : (entries : List EntryView) (entry : EntryView) → last_acts (entries ++ entry ∷ []) ≡ entry.acts
last_pushed [] entry = refl
last_pushed (first ∷ []) entry = refl
last_pushed (first ∷ next ∷ rest) entry = last_pushed (next ∷ rest) entry

-- one act more in it
pub with_act_last :
    (before : List EntryView) (r : EntryView) (act : Act)
    → with_act (before ++ r ∷ []) act ≡ before ++ record r { acts = r.acts ++ act ∷ [] } ∷ []
with_act_last [] r act = refl
with_act_last (first ∷ []) r act = refl
with_act_last (first ∷ second ∷ rest) r act = ap (λ more. first ∷ more) (with_act_last (second ∷ rest) r act)

-- and one more behind others
pub with_acts_more : (entries : List EntryView) (acts : List Act) (act : Act) → with_acts entries (acts ++ act ∷ []) ≡ with_act (with_acts entries acts) act
with_acts_more entries [] act = refl
with_acts_more entries (first ∷ rest) act = with_acts_more (with_act entries first) rest act

-- all its acts
pub with_acts_last :
    (before : List EntryView) (r : EntryView) (acts : List Act)
    → with_acts (before ++ r ∷ []) acts ≡ before ++ record r { acts = r.acts ++ acts } ∷ []
with_acts_last before r [] = ap (λ acts. before ++ record r { acts = acts } ∷ []) (sym (append-nil r.acts))
with_acts_last before r (act ∷ rest) =
    ap (λ entries. with_acts entries rest) (with_act_last before r act)
    ∙ with_acts_last before (record r { acts = r.acts ++ act ∷ [] }) rest
    ∙ ap (λ acts. before ++ record r { acts = acts } ∷ []) (append_assoc r.acts (act ∷ []) rest)

-- the last one, or this one where there is none
abbrev final : EntryView → List EntryView → EntryView
final r [] = r
final r (next ∷ rest) = final next rest

final_pushed : (r : EntryView) (entries : List EntryView) (entry : EntryView) → final r (entries ++ entry ∷ []) ≡ entry
final_pushed r [] entry = refl
final_pushed r (next ∷ rest) entry = final_pushed next rest entry

-- the last of equal entries is the same
pub last_same :
    (before others : List EntryView) (r entry : EntryView) → before ++ r ∷ [] ≡ others ++ entry ∷ [] → r ≡ entry
last_same before others r entry same =
    sym (final_pushed r before r) ∙ ap (final r) same ∙ final_pushed r others entry
