-- What a replay promises where nothing fails.
use Rattle.std.proofs.Common.{◌≡◌, ℕ, ◌+◌, ◌<◌, ◌≤◌, ◌-◌, ◌^◌, List, [], ◌∷◌, Option, Some, None, length, refl, sym, subst, ◌∙◌, arith}
use Rattle.std.specs.Prelude.{IfSome}
use Rattle.std.proofs.lemmas.List.Elements.{All-head, All-tail}
use Rattle.std.proofs.lemmas.List.Sums.{sum_by-cons}
use Rattle.ata_io.specs.Faults.{one_more}
use Rattle.ata_script.specs.Grammar.{fault_of}
use Rattle.ata_trace.specs.Entries.{EntryView, past_of}
use Rattle.atahost.specs.Completeness.{EndsCalmly, HasCalmScript, HasScript, IsNotLeft, IsWhole, Stays}
use Rattle.atahost.specs.Headline.{IsRefused, IsTooLong, Replayed, Replays, Tells, most_bytes}
use Rattle.atahost.specs.Journals.{AreJournalsOf}
use Rattle.atahost.specs.declared.status.Status.{Status}
use Rattle.atahost.specs.declared.status.Status.TheVariants.{Done, Usage, Left, BadScript, TooLong, ReadFault, WriteFault, OutOfMemory}
use Rattle.host_core.specs.Calm.{AreWellEnded, IsWellEnded}
use Rattle.port_core.specs.Hosts.{lives_in, lives_of}
use Rattle.port_core.specs.Weave.{journals_of}
use Rattle.port_past.specs.Live.{live}

-- a count that stays below its last value isn't one more
pub not_more : (before after : ℕ) → Stays before after → after ≡ one_more before → ⊥
not_more before after stays more = let below : before < 2 ^ 64 - 1 = stays.below in let same : after ≡ before = stays.same in omega arith

-- a script breaks no rule
not_refused : (left : Option (List ℕ)) (line rule : ℕ) → HasScript left → IfSome left (IsRefused line rule) → ⊥
not_refused left line rule script refused =
    let here : IsRefused line rule script.bytes = subst (λ (l : Option (List ℕ)). IfSome l (IsRefused line rule)) script.told refused in
    let right : fault_of script.bytes ≡ None = script.text.right in
    let fault : fault_of script.bytes ≡ Some (line, rule) = here.fault in
    cc

-- nor is it too long
not_too_long : (left : Option (List ℕ)) → HasScript left → IfSome left IsTooLong → ⊥
not_too_long left script long =
    let here : most_bytes < length script.bytes = subst (λ (l : Option (List ℕ)). IfSome l IsTooLong) script.told long in
    let within : length script.bytes ≤ most_bytes = script.within in
    omega arith

-- where the bytes are a script and no count rises, all is printed or memory is wanted
pub complete : {S K : Type 0} (AreOf : List ℕ → List (List EntryView) → Type 0) (left : S → Option (List ℕ)) (reads : S → ℕ) (written : K → Option (List ℕ)) (writes : K → ℕ) (source rest : S) (sink after : K) (status : Status) → Replays AreOf left reads written writes source rest sink after status → (status ≡ Usage → ⊥) → HasScript (left source) → Stays (reads source) (reads rest) → Stays (writes sink) (writes after) → IsWhole status
complete AreOf left reads written writes source rest sink after Done p named script r w = tt
complete AreOf left reads written writes source rest sink after (Left k) p named script r w = tt
complete AreOf left reads written writes source rest sink after OutOfMemory p named script r w = tt
complete AreOf left reads written writes source rest sink after Usage p named script r w = absurd (named refl)
complete AreOf left reads written writes source rest sink after (BadScript line rule) p named script r w = absurd (not_refused (left source) line rule script p.told.0)
complete AreOf left reads written writes source rest sink after TooLong p named script r w = absurd (not_too_long (left source) script p.told)
complete AreOf left reads written writes source rest sink after ReadFault p named script r w = absurd (not_more (reads source) (reads rest) r p.read)
complete AreOf left reads written writes source rest sink after WriteFault p named script r w = absurd (not_more (writes sink) (writes after) w p.write)

no_sum : (a b : ℕ) → a ≡ 0 → b ≡ 0 → a + b ≡ 0
no_sum a b p q = omega arith

-- where each journal ends well, no command is live
none_live : (journals : List (List EntryView)) → AreWellEnded journals → lives_of journals ≡ 0
none_live [] ended = refl
none_live (entries ∷ rest) ended =
    let here : live (past_of entries) ≡ [] = (All-head IsWellEnded entries rest ended).none_live in
    let few : lives_in entries ≡ 0 = rw here refl in
    sum_by-cons lives_in entries rest
    ∙ no_sum (lives_in entries) (lives_of rest) few (none_live rest (All-tail IsWellEnded entries rest ended))

-- where the journals of a calm script end well, no status tells of a live command
none_left :
    ((rounds : ℕ) → (bytes : List ℕ) → (these those : List (List EntryView)) → AreJournalsOf rounds bytes these
    → AreJournalsOf rounds bytes those → these ≡ those)
    → (rounds : ℕ) → (left rest before after : Option (List ℕ)) → (status : Status) → Tells (AreJournalsOf rounds) left rest before after status
    → (calm : HasCalmScript rounds left) → AreWellEnded (journals_of rounds calm.script.head calm.script.steps)
    → IsNotLeft status
none_left once rounds left rest before after (Left k) told calm ended =
    let some : 0 < k = told.0 in
    let played : Replayed (AreJournalsOf rounds) left before after k = told.1 in
    let mine : List (List EntryView) = journals_of rounds calm.script.head calm.script.steps in
    let bytes : calm.bytes ≡ played.bytes =
    subst (λ (l : Option (List ℕ)). IfSome l (λ all. all ≡ played.bytes)) calm.told played.read in
    let made : AreJournalsOf rounds calm.bytes mine = record { script = calm.script; read = calm.text; made = refl } in
    let same : played.journals ≡ mine =
    once rounds played.bytes played.journals mine played.made (subst (λ (b : List ℕ). AreJournalsOf rounds b mine) bytes made) in
    let none : lives_of mine ≡ 0 = none_live mine ended in
    let live : k ≡ lives_of played.journals = played.live in
    let zero_left : k ≡ 0 = live ∙ subst (λ (js : List (List EntryView)). lives_of js ≡ 0) (sym same) none in
    absurd (omega arith)
none_left once rounds left rest before after Done told calm ended = tt
none_left once rounds left rest before after Usage told calm ended = tt
none_left once rounds left rest before after (BadScript line rule) told calm ended = tt
none_left once rounds left rest before after TooLong told calm ended = tt
none_left once rounds left rest before after ReadFault told calm ended = tt
none_left once rounds left rest before after WriteFault told calm ended = tt
none_left once rounds left rest before after OutOfMemory told calm ended = tt

-- a calm script ends well
pub ends_calmly :
    ((rounds : ℕ) → (bytes : List ℕ) → (these those : List (List EntryView)) → AreJournalsOf rounds bytes these
    → AreJournalsOf rounds bytes those → these ≡ those)
    → (rounds : ℕ) → (left rest before after : Option (List ℕ)) → (status : Status) → Tells (AreJournalsOf rounds) left rest before after status
    → (calm : HasCalmScript rounds left) → AreWellEnded (journals_of rounds calm.script.head calm.script.steps)
    → EndsCalmly calm status
ends_calmly once rounds left rest before after status told calm ended = record {
  none_left = none_left once rounds left rest before after status told calm ended;
  answered = ended;
}

-- what is said with some rounds is said with the same rounds
pub of_same_rounds :
    (left : Option (List ℕ)) (status : Status) (n rounds : ℕ) → ((calm : HasCalmScript n left) → EndsCalmly calm status) → n ≡ rounds
    → (calm : HasCalmScript rounds left) → EndsCalmly calm status
of_same_rounds left status n rounds said same =
    subst (λ (r : ℕ). (calm : HasCalmScript r left) → EndsCalmly calm status) same said
