-- A port of a script that takes its own steps alone, and the journals of such ports.
use Rattle.std.proofs.Common.{◌≡◌, ◌≢◌, ℕ, ◌+◌, ◌*◌, ◌<◌, ◌≤◌, List, [], ◌∷◌, ◌++◌, length, take, slice_index, slice_set, get_or, replicate, sym, ap, subst, ◌∙◌, arith}
use Rattle.std.proofs.lemmas.List.{take_all, take_more, map-append, length-take-le}
use Rattle.ata_script.specs.declared.port_head.PortHead.{PortHead}
use Rattle.ata_trace.specs.Entries.{past_of}
use Rattle.ata_trace.specs.declared.step.Step.{Step}
use Rattle.ata_trace.specs.declared.who.Who.TheVariants.{Actor}
use Rattle.port_core.specs.PortView.{PortView}
use Rattle.port_core.specs.Weave.{asked_at, in_turn, journals_from, journals_of}
use Rattle.port_rules.specs.Boot.{boot_entry}
use Rattle.port_rules.specs.Legal.{entry_after}
use Rattle.port_rules.specs.Run.{run}
use Rattle.port_rules.specs.Settle.{settled_journal}
use Rattle.host_core.proofs.TakenSteps.{counted_more, counted_none, entries_here, steps_elsewhere}
use Rattle.host_core.specs.Hosting.{AreCounted, IsHostOf}

-- a port that took those of the first n steps that are at its number, and how many steps each actor took at each port
pub record IsPlayedAlone
    (number : ℕ) (head : PortHead) (steps : List (ℕ × ℕ × Step)) (n : ℕ) (port : PortView) (turns : List ℕ) : Type 0 where
  pub named : port.number ≡ number
  pub headed : port.head ≡ head
  pub ran : port.entries ≡ run head (asked_at number (take n steps))
  pub counts : AreCounted turns (take n steps)

-- one that has booted took none
pub alone_none :
    (number : ℕ) (head : PortHead) (steps : List (ℕ × ℕ × Step)) (port : PortView) (turns : List ℕ)
    → port.number ≡ number → port.head ≡ head → port.entries ≡ boot_entry head ∷ [] → turns ≡ replicate 256 0
    → IsPlayedAlone number head steps 0 port turns
alone_none number head steps port turns named headed booted none = record {
  named = named;
  headed = headed;
  ran = booted;
  counts = subst (λ (turns : List ℕ). AreCounted turns []) (sym none) counted_none;
}

-- the steps that were counted, with one more
counts_go :
    (steps : List (ℕ × ℕ × Step)) (n : ℕ) (turns more : List ℕ) (taken : ℕ × ℕ × Step)
    → AreCounted turns (take n steps) → take (n + 1) steps ≡ take n steps ++ taken ∷ [] → taken.1 < 8 → taken.0 < 32
    → more ≡ slice_set turns (32 * taken.1 + taken.0) (slice_index turns (32 * taken.1 + taken.0) + 1)
    → AreCounted more (take (n + 1) steps)
counts_go steps n turns more taken are grown there actor counted =
    subst (λ (steps : List (ℕ × ℕ × Step)). AreCounted more steps) (sym grown)
    (subst (λ (turns : List ℕ). AreCounted turns (take n steps ++ taken ∷ [])) (sym counted) (counted_more turns (take n steps) taken there actor are))

-- the next step is at the port
pub alone_here :
    (number : ℕ) (head : PortHead) (steps : List (ℕ × ℕ × Step)) (n : ℕ) (port next : PortView) (turns more : List ℕ)
    (taken : ℕ × ℕ × Step) (seq : ℕ)
    → IsPlayedAlone number head steps n port turns → n < length steps → taken ≡ get_or steps n taken → taken.1 < 8 → taken.0 < 32
    → seq ≡ slice_index turns (32 * taken.1 + taken.0)
    → more ≡ slice_set turns (32 * taken.1 + taken.0) (slice_index turns (32 * taken.1 + taken.0) + 1)
    → taken.1 ≡ number → next.number ≡ port.number → next.head ≡ port.head
    → next.entries ≡ port.entries ++ entry_after port.head (past_of port.entries) (Actor taken.0) seq taken.2 ∷ []
    → IsPlayedAlone number head steps (n + 1) next more
alone_here number head steps n port next turns more taken seq alone within here there actor turn counted at named headed made =
    let grown : take (n + 1) steps ≡ take n steps ++ taken ∷ [] = take_more steps n taken within ∙ ap (λ t. take n steps ++ t ∷ []) (sym here) in
    let ran : port.entries ≡ run port.head (asked_at number (take n steps)) =
    alone.ran ∙ ap (λ h. run h (asked_at number (take n steps))) (sym alone.headed) in
    record {
      named = named ∙ alone.named;
      headed = headed ∙ alone.headed;
      ran =
          made ∙ entries_here number port (take n steps) taken seq at (turn ∙ alone.counts.each taken.1 taken.0 there actor) ran
          ∙ ap (λ h. run h (asked_at number (take n steps ++ taken ∷ []))) alone.headed
          ∙ ap (λ steps. run head (asked_at number steps)) (sym grown);
      counts = counts_go steps n turns more taken alone.counts grown there actor counted;
    }

-- it is elsewhere
pub alone_elsewhere :
    (number : ℕ) (head : PortHead) (steps : List (ℕ × ℕ × Step)) (n : ℕ) (port : PortView) (turns more : List ℕ)
    (taken : ℕ × ℕ × Step)
    → IsPlayedAlone number head steps n port turns → n < length steps → taken ≡ get_or steps n taken → taken.1 < 8 → taken.0 < 32
    → more ≡ slice_set turns (32 * taken.1 + taken.0) (slice_index turns (32 * taken.1 + taken.0) + 1)
    → taken.1 ≢ number
    → IsPlayedAlone number head steps (n + 1) port more
alone_elsewhere number head steps n port turns more taken alone within here there actor counted away =
    let grown : take (n + 1) steps ≡ take n steps ++ taken ∷ [] = take_more steps n taken within ∙ ap (λ t. take n steps ++ t ∷ []) (sym here) in
    record {
      named = alone.named;
      headed = alone.headed;
      ran =
          alone.ran
          ∙ ap (λ asked. run head (in_turn [] asked)) (sym (steps_elsewhere number (take n steps) taken away))
          ∙ ap (λ steps. run head (asked_at number steps)) (sym grown);
      counts = counts_go steps n turns more taken alone.counts grown there actor counted;
    }

-- all steps were gone over
pub alone_all :
    (number : ℕ) (head : PortHead) (steps : List (ℕ × ℕ × Step)) (n : ℕ) (port : PortView) (turns : List ℕ)
    → IsPlayedAlone number head steps n port turns → length steps ≤ n → port.entries ≡ run head (asked_at number steps)
alone_all number head steps n port turns alone all =
    alone.ran ∙ ap (λ steps. run head (asked_at number steps)) (take_all n steps all)

-- ---- the journal of the next port

pub settled_push :
    (rounds number : ℕ) (heads : List PortHead) (head : PortHead) (steps : List (ℕ × ℕ × Step))
    → journals_from rounds number (heads ++ head ∷ []) steps
    ≡ journals_from rounds number heads steps ++ settled_journal rounds head (asked_at (number + length heads) steps) ∷ []
settled_push rounds number [] head steps = ap (λ n. settled_journal rounds head (asked_at n steps) ∷ []) (omega arith)
settled_push rounds number (first ∷ rest) head steps =
    ap (λ journals. settled_journal rounds first (asked_at number steps) ∷ journals)
    (settled_push rounds (number + 1) rest head steps
    ∙ ap (λ n. journals_from rounds (number + 1) rest steps ++ settled_journal rounds head (asked_at n steps) ∷ []) (omega arith))
