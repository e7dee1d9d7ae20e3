-- The ports of a host, settled one after the other.
use Rattle.std.proofs.Common.{◌≡◌, ◌∙◌, ℕ, zero, suc, ◌+◌, ◌<◌, ◌≤◌, inl, inr, List, [], ◌∷◌, ◌++◌, length, drop, set, take, get_or, refl, sym, ap, subst, arith, append-nil}
use Rattle.std.proofs.lemmas.List.{drop_all, take_all}
use Rattle.std.proofs.lemmas.List.Elements.{All-nil, All-cons, All-head, All-tail}
use Rattle.ata_script.specs.declared.port_head.PortHead.{PortHead}
use Rattle.ata_trace.specs.Entries.{EntryView, past_of}
use Rattle.ata_trace.specs.declared.step.Step.{Step}
use Rattle.host_core.specs.Calm.{AreCalmPorts, AreWellEnded, HasAtMost, HaveAtMost, IsCalmPort, IsWellEnded}
use Rattle.host_core.specs.Hosting.{IsHostOf, IsPlayed}
use Rattle.host_core.specs.Settled.{AreCutShort, AreSamePorts, IsSettledInPart}
use Rattle.port_core.specs.Hosts.{AreNumbered, AreOfHost, heads_in, journals_in, settled_in, settled_of}
use Rattle.port_core.specs.PortView.{PortView}
use Rattle.port_core.specs.Weave.{asked_at, journals_from, runs_from}
use Rattle.port_rules.specs.Run.{run}
use Rattle.port_rules.specs.Settle.{settled_journal, settling}

-- ---- ports that keep their numbers and heads

pub same_ports : (ports : List PortView) → AreSamePorts ports ports
same_ports [] = tt
same_ports (port ∷ rest) = (refl, refl, same_ports rest)

-- one of them is replaced by one with its number and head
pub same_set :
    (place : ℕ) (before now : List PortView) (at next : PortView) → AreSamePorts before now → at ≡ get_or now place at
    → next.number ≡ at.number → next.head ≡ at.head → AreSamePorts before (set now place next)
same_set place [] [] at next same here number head = tt
same_set place [] (second ∷ later) at next same here number head = absurd same
same_set place (first ∷ rest) [] at next same here number head = absurd same
same_set zero (first ∷ rest) (second ∷ later) at next same here number head =
    (number ∙ ap (λ (p : PortView). p.number) here ∙ same.0, head ∙ ap (λ (p : PortView). p.head) here ∙ same.1, same.2)
same_set (suc place) (first ∷ rest) (second ∷ later) at next same here number head =
    (same.0, same.1, same_set place rest later at next same.2 here number head)

pub same_heads : (before now : List PortView) → AreSamePorts before now → heads_in now ≡ heads_in before
same_heads [] [] same = refl
same_heads [] (second ∷ later) same = absurd same
same_heads (first ∷ rest) [] same = absurd same
same_heads (first ∷ rest) (second ∷ later) same =
    ap (λ head. head ∷ heads_in later) same.1 ∙ ap (λ heads. first.head ∷ heads) (same_heads rest later same.2)

pub same_length : (before now : List PortView) → AreSamePorts before now → length now ≡ length before
same_length [] [] same = refl
same_length [] (second ∷ later) same = absurd same
same_length (first ∷ rest) [] same = absurd same
same_length (first ∷ rest) (second ∷ later) same = ap (λ n. suc n) (same_length rest later same.2)

same_numbers : (number : ℕ) (before now : List PortView) → AreSamePorts before now → AreNumbered number before → AreNumbered number now
same_numbers number [] [] same are = tt
same_numbers number [] (second ∷ later) same are = absurd same
same_numbers number (first ∷ rest) [] same are = absurd same
same_numbers number (first ∷ rest) (second ∷ later) same are =
    (same.0 ∙ are.0, same_numbers (number + 1) rest later same.2 are.1)

-- they are those of a host where the ports before are
pub same_host : (before now : List PortView) → AreSamePorts before now → AreOfHost before → AreOfHost now
same_host before now same are = record {
  numbered = same_numbers 0 before now same are.numbered;
  few = let long = same_length before now same in omega (arith, long, are.few);
}

-- ports that were taken out of a list are given back to it
ports_back :
    (items lent now : List PortView) (len : ℕ) → lent ≡ items → len ≡ length items → AreSamePorts lent now
    → take len (now ++ drop (length now) items) ≡ now
ports_back items lent now len is full same =
    let long : length now ≡ length items = same_length lent now same ∙ ap length is in
    ap (λ rest. take len (now ++ rest)) (drop_all (length now) items (omega (arith, long)))
    ∙ ap (take len) (append-nil now)
    ∙ take_all len now (omega (arith, long, full))

pub host_back :
    (before items lent now : List PortView) (len : ℕ) → items ≡ before → lent ≡ items → len ≡ length items → AreSamePorts lent now
    → AreOfHost before → AreOfHost (take len (now ++ drop (length now) items))
host_back before items lent now len taken is full same are =
    subst AreOfHost (sym (ports_back items lent now len is full same)) (same_host lent now same (subst AreOfHost (sym (is ∙ taken)) are))

pub heads_back :
    (before items lent now : List PortView) (len : ℕ) → items ≡ before → lent ≡ items → len ≡ length items → AreSamePorts lent now
    → heads_in (take len (now ++ drop (length now) items)) ≡ heads_in before
heads_back before items lent now len taken is full same =
    ap heads_in (ports_back items lent now len is full same) ∙ same_heads lent now same ∙ ap heads_in (is ∙ taken)

-- ---- the first of them are settled

pub record IsSettledPort (rounds : ℕ) (before after : PortView) : Type 0 where
  pub entries : after.entries ≡ settled_of rounds before
  pub calm : IsCalmPort before → HasAtMost rounds after.entries → IsWellEnded after.entries

abbrev pub IsSettledTo : ℕ → ℕ → List PortView → List PortView → Type 0
IsSettledTo rounds zero before now = now ≡ before
IsSettledTo rounds (suc n) (first ∷ rest) (second ∷ later) = IsSettledPort rounds first second × IsSettledTo rounds n rest later
IsSettledTo rounds (suc n) _ _ = ⊥

one_settled :
    (rounds : ℕ) (now : List PortView) (at next : PortView) → 0 < length now → at ≡ get_or now 0 at → IsSettledPort rounds at next
    → IsSettledTo rounds (suc 0) now (set now 0 next)
one_settled rounds [] at next within here settled = absurd (omega (arith, within))
one_settled rounds (first ∷ rest) at next within here settled = (subst (λ p. IsSettledPort rounds p next) here settled, refl)

settled_more :
    (rounds n : ℕ) (before now : List PortView) (at next : PortView) → IsSettledTo rounds n before now → n < length now
    → at ≡ get_or now n at → IsSettledPort rounds at next → IsSettledTo rounds (suc n) before (set now n next)
settled_more rounds zero before now at next so within here settled =
    subst (λ ports. IsSettledTo rounds (suc 0) ports (set now 0 next)) so (one_settled rounds now at next within here settled)
settled_more rounds (suc n) [] now at next so within here settled = absurd so
settled_more rounds (suc n) (first ∷ rest) [] at next so within here settled = absurd so
settled_more rounds (suc n) (first ∷ rest) (second ∷ later) at next so within here settled =
    (so.0, settled_more rounds n rest later at next so.1 (omega (arith, within)) here settled)

one_cut :
    (rounds : ℕ) (now : List PortView) (at next : PortView) → 0 < length now → at ≡ get_or now 0 at
    → IsSettledInPart at.head rounds at.entries next.entries → AreCutShort rounds now (set now 0 next)
one_cut rounds [] at next within here part = absurd (omega (arith, within))
one_cut rounds (first ∷ rest) at next within here part =
    inr (subst (λ (p : PortView). IsSettledInPart p.head rounds p.entries next.entries) here part, refl)

-- the next of them is cut short
pub settled_cut :
    (rounds n : ℕ) (before now : List PortView) (at next : PortView) → IsSettledTo rounds n before now → n < length now
    → at ≡ get_or now n at → IsSettledInPart at.head rounds at.entries next.entries → AreCutShort rounds before (set now n next)
settled_cut rounds zero before now at next so within here part =
    subst (λ ports. AreCutShort rounds ports (set now 0 next)) so (one_cut rounds now at next within here part)
settled_cut rounds (suc n) [] now at next so within here part = absurd so
settled_cut rounds (suc n) (first ∷ rest) [] at next so within here part = absurd so
settled_cut rounds (suc n) (first ∷ rest) (second ∷ later) at next so within here part =
    inl (so.0.entries, settled_cut rounds n rest later at next so.1 (omega (arith, within)) here part)

none_left : (now : List PortView) → length now ≤ 0 → now ≡ []
none_left [] none = refl
none_left (first ∷ rest) none = absurd (omega (arith, none))

all_settled :
    (rounds n : ℕ) (before now : List PortView) → IsSettledTo rounds n before now → length now ≤ n
    → journals_in now ≡ settled_in rounds before
all_settled rounds zero before now so all =
    let none : now ≡ [] = none_left now all in
    ap journals_in none ∙ ap (settled_in rounds) (sym none ∙ so)
all_settled rounds (suc n) [] now so all = absurd so
all_settled rounds (suc n) (first ∷ rest) [] so all = absurd so
all_settled rounds (suc n) (first ∷ rest) (second ∷ later) so all =
    ap (λ entries. entries ∷ journals_in later) so.0.entries
    ∙ ap (λ journals. settled_of rounds first ∷ journals) (all_settled rounds n rest later so.1 (omega (arith, all)))

all_calm :
    (rounds n : ℕ) (before now : List PortView) → IsSettledTo rounds n before now → length now ≤ n → AreCalmPorts before
    → HaveAtMost rounds (journals_in now) → AreWellEnded (journals_in now)
all_calm rounds zero before now so all calm few = subst (λ ports. AreWellEnded (journals_in ports)) (sym (none_left now all)) (All-nil IsWellEnded)
all_calm rounds (suc n) [] now so all calm few = absurd so
all_calm rounds (suc n) (first ∷ rest) [] so all calm few = absurd so
all_calm rounds (suc n) (first ∷ rest) (second ∷ later) so all calm few =
    All-cons IsWellEnded second.entries (journals_in later)
    (so.0.calm (All-head IsCalmPort first rest calm) (All-head (HasAtMost rounds) second.entries (journals_in later) few))
    (all_calm rounds n rest later so.1 (omega (arith, all)) (All-tail IsCalmPort first rest calm) (All-tail (HasAtMost rounds) second.entries (journals_in later) few))

-- the ports, of which so many are settled
pub record AreSettling (rounds n : ℕ) (before now : List PortView) : Type 0 where
  pub same : AreSamePorts before now
  pub done : IsSettledTo rounds n before now

pub ports_begin : (rounds : ℕ) (ports : List PortView) → AreSettling rounds 0 ports ports
ports_begin rounds ports = record { same = same_ports ports; done = refl }

pub ports_go :
    (rounds n : ℕ) (before now : List PortView) (at lent next : PortView) → AreSettling rounds n before now → n < length before
    → at ≡ get_or now n at → lent ≡ at → next.number ≡ lent.number → next.head ≡ lent.head → next.entries ≡ settled_of rounds lent
    → (IsCalmPort lent → HasAtMost rounds next.entries → IsWellEnded next.entries) → AreSettling rounds (n + 1) before (set now n next)
ports_go rounds n before now at lent next so within here is number head entries calm =
    let one : suc n ≡ n + 1 = omega arith in
    let long = same_length before now so.same in
    let settled : IsSettledPort rounds at next = subst (λ p. IsSettledPort rounds p next) is (record { entries = entries; calm = calm }) in
    record {
      same = same_set n before now at next so.same here (number ∙ ap (λ (p : PortView). p.number) is) (head ∙ ap (λ (p : PortView). p.head) is);
      done =
          subst (λ m. IsSettledTo rounds m before (set now n next)) one
          (settled_more rounds n before now at next so.done (omega (arith, within, long)) here settled);
    }

-- where the next is cut short they keep their numbers and heads
pub same_cut :
    (rounds n : ℕ) (before now : List PortView) (at lent next : PortView) → AreSettling rounds n before now
    → at ≡ get_or now n at → lent ≡ at → next.number ≡ lent.number → next.head ≡ lent.head → AreSamePorts before (set now n next)
same_cut rounds n before now at lent next so here is number head =
    same_set n before now at next so.same here (number ∙ ap (λ (p : PortView). p.number) is) (head ∙ ap (λ (p : PortView). p.head) is)

pub ports_settled :
    (rounds n : ℕ) (before now : List PortView) → AreSettling rounds n before now → length before ≤ n → journals_in now ≡ settled_in rounds before
ports_settled rounds n before now so all =
    let long = same_length before now so.same in
    all_settled rounds n before now so.done (omega (arith, all, long))

pub ports_calm :
    (rounds n : ℕ) (before now : List PortView) → AreSettling rounds n before now → length before ≤ n → AreCalmPorts before
    → HaveAtMost rounds (journals_in now) → AreWellEnded (journals_in now)
ports_calm rounds n before now so all =
    let long = same_length before now so.same in
    all_calm rounds n before now so.done (omega (arith, all, long))

pub ports_cut :
    (rounds n : ℕ) (before now : List PortView) (at lent next : PortView) → AreSettling rounds n before now → n < length before
    → at ≡ get_or now n at → lent ≡ at → IsSettledInPart lent.head rounds lent.entries next.entries → AreCutShort rounds before (set now n next)
ports_cut rounds n before now at lent next so within here is part =
    let long = same_length before now so.same in
    settled_cut rounds n before now at next so.done (omega (arith, within, long)) here
    (subst (λ (p : PortView). IsSettledInPart p.head rounds p.entries next.entries) is part)

-- ---- hosts after the steps of a script

settled_runs :
    (rounds number : ℕ) (ports : List PortView) (steps : List (ℕ × ℕ × Step)) → journals_in ports ≡ runs_from number (heads_in ports) steps
    → settled_in rounds ports ≡ journals_from rounds number (heads_in ports) steps
settled_runs rounds number [] steps are = refl
settled_runs rounds number (port ∷ rest) steps are =
    let made : port.entries ≡ run port.head (asked_at number steps) = cc are in
    let others : journals_in rest ≡ runs_from (number + 1) (heads_in rest) steps = cc are in
    ap (λ (entries : List EntryView). (entries ++ settling port.head rounds (past_of entries)) ∷ settled_in rounds rest) made
    ∙ ap (λ journals. settled_journal rounds port.head (asked_at number steps) ∷ journals) (settled_runs rounds (number + 1) rest steps others)

-- the ports of a script that took its steps, settled
pub host_settled :
    (rounds : ℕ) (heads : List PortHead) (steps : List (ℕ × ℕ × Step)) (before after : List PortView) → IsPlayed heads steps before
    → heads_in after ≡ heads_in before → journals_in after ≡ settled_in rounds before → IsHostOf rounds heads steps after
host_settled rounds heads steps before after played same settled = record {
  same = same ∙ played.same;
  journals =
      settled
      ∙ settled_runs rounds 0 before steps (played.journals ∙ ap (λ heads. runs_from 0 heads steps) (sym played.same))
      ∙ ap (λ heads. journals_from rounds 0 heads steps) played.same;
}

none_settled : (ports : List PortView) → journals_in ports ≡ settled_in 0 ports
none_settled [] = refl
none_settled (port ∷ rest) =
    ap (λ entries. entries ∷ journals_in rest) (sym (append-nil port.entries)) ∙ ap (λ journals. settled_of 0 port ∷ journals) (none_settled rest)

-- with no rounds the ports are settled as they are
pub host_unsettled : (heads : List PortHead) (steps : List (ℕ × ℕ × Step)) (ports : List PortView) → IsPlayed heads steps ports → IsHostOf 0 heads steps ports
host_unsettled heads steps ports played = host_settled 0 heads steps ports ports played refl (none_settled ports)
