-- Ports in the order of their numbers.
use Rattle.std.proofs.Common.{◌≡◌, ℕ, zero, suc, ◌+◌, ◌<◌, ◌≤◌, List, [], ◌∷◌, ◌++◌, Option, Some, None, Result, Ok, Err, OnOk, OnErr, Bor, length, slice_get, take, set, get_or, refl, sym, ap, ◌∙◌, arith}
use Rattle.std.proofs.lemmas.List.Sums.{sum_by_push}
use Rattle.std.proofs.lemmas.List.{take_more, map-append, length-set, set-get_or}
use Rattle.std.specs.List.{flat_map}
use Rattle.std.specs.Option.{option_copied}
use Rattle.std.specs.Prelude.{IfSome}
use Rattle.port_core.specs.Text.{port_text, text_of, texts_from, texts_of}
use Rattle.ata_trace.specs.Entries.{past_of}
use Rattle.ata_trace.specs.declared.step.Step.{Step}
use Rattle.ata_trace.specs.declared.who.Who.{Who}
use Rattle.port_rules.specs.Legal.{entry_after}
use Rattle.port_core.specs.Hosts.{AreNumbered, AreOfHost, at_port, journals_in, lives_in, lives_of, stepped, with_room}
use Rattle.port_core.specs.PortView.{PortView}

numbered_from_push : (number : ℕ) (ports : List PortView) (port : PortView) → AreNumbered number ports → port.number ≡ number + length ports
    → AreNumbered number (ports ++ port ∷ [])
numbered_from_push number [] port are next = (omega (arith, next), tt)
numbered_from_push number (first ∷ rest) port are next = (are.0, numbered_from_push (number + 1) rest port are.1 (omega (arith, next)))

-- the next port is numbered on
pub numbered_push : (ports : List PortView) (port : PortView) → AreNumbered 0 ports → port.number ≡ length ports → AreNumbered 0 (ports ++ port ∷ [])
numbered_push ports port are next = numbered_from_push 0 ports port are (omega (arith, next))

numbered_from_at : (number : ℕ) (ports : List PortView) (i : ℕ) (port : PortView) → AreNumbered number ports → slice_get ports i ≡ Some port → port.number ≡ number + i
numbered_from_at number [] i port are is = absurd (cc)
numbered_from_at number (first ∷ rest) zero port are is =
    let same : first ≡ port = cc in
    omega (arith, ap (λ p. p.number) same, are.0)
numbered_from_at number (first ∷ rest) (suc i) port are is = omega (arith, numbered_from_at (number + 1) rest i port are.1 is)

-- the port at a place has that number
pub numbered_at : (ports : List PortView) (i : ℕ) (port : PortView) → AreNumbered 0 ports → slice_get ports i ≡ Some port → port.number ≡ i
numbered_at ports i port are is = omega (arith, numbered_from_at 0 ports i port are is)

-- what is found at a place has that number
pub numbered_found : (ports : List PortView) (i : ℕ) (found : Option (Bor PortView)) → AreNumbered 0 ports → option_copied found ≡ slice_get ports i
    → IfSome found (λ p. p.now.number ≡ i)
numbered_found ports i None are is = tt
numbered_found ports i (Some port) are is = numbered_at ports i port.now are (sym is)

-- the commands that are live at one port more
pub lives_more : (ports : List PortView) (i : ℕ) (port : PortView) → i < length ports → port ≡ get_or ports i port
    → lives_of (journals_in (take (i + 1) ports)) ≡ lives_of (journals_in (take i ports)) + lives_in port.entries
lives_more ports i port within here =
    ap (λ ports. lives_of (journals_in ports)) (take_more ports i port within ∙ ap (λ p. take i ports ++ p ∷ []) (sym here))
    ∙ ap lives_of (map-append (λ port. port.entries) (take i ports) (port ∷ []))
    ∙ sum_by_push lives_in (journals_in (take i ports)) port.entries

-- the texts of numbered ports are those of their journals
texts_numbered : (number : ℕ) (ports : List PortView) → AreNumbered number ports → flat_map text_of ports ≡ texts_from number (journals_in ports)
texts_numbered number [] are = refl
texts_numbered number (port ∷ rest) are =
    ap (λ n. port_text n port.entries ++ flat_map text_of rest) are.0
    ∙ ap (λ text. port_text number port.entries ++ text) (texts_numbered (number + 1) rest are.1)

pub texts_by_number : (ports : List PortView) → AreNumbered 0 ports → flat_map text_of ports ≡ texts_of (journals_in ports)
texts_by_number ports are = texts_numbered 0 ports are

-- a port that is changed is replaced at its place
pub changed_at : (place : ℕ) (change : PortView → PortView) (ports : List PortView) (port : PortView) → place < length ports → port ≡ get_or ports place port
    → at_port place change ports ≡ set ports place (change port)
changed_at place change [] port within here = absurd (omega (arith, within))
changed_at zero change (first ∷ rest) port within here = ap (λ p. change p ∷ rest) (sym here)
changed_at (suc place) change (first ∷ rest) port within here = ap (λ ports. first ∷ ports) (changed_at place change rest port (omega (arith, within)) here)

-- past the last port nothing changes
pub changed_past : (place : ℕ) (change : PortView → PortView) (ports : List PortView) → length ports ≤ place → at_port place change ports ≡ ports
changed_past zero change [] past = refl
changed_past (suc place) change [] past = refl
changed_past zero change (first ∷ rest) past = absurd (omega (arith, past))
changed_past (suc place) change (first ∷ rest) past = ap (λ ports. first ∷ ports) (changed_past place change rest (omega (arith, past)))

numbered_from_set : (number place : ℕ) (ports : List PortView) (old next : PortView) → old ≡ get_or ports place old → next.number ≡ old.number
    → AreNumbered number ports → AreNumbered number (set ports place next)
numbered_from_set number place [] old next here same are = tt
numbered_from_set number zero (first ∷ rest) old next here same are = (same ∙ ap (λ p. p.number) here ∙ are.0, are.1)
numbered_from_set number (suc place) (first ∷ rest) old next here same are = (are.0, numbered_from_set (number + 1) place rest old next here same are.1)

-- a port in place of another with its number
pub of_host_set : (place : ℕ) (ports : List PortView) (old next : PortView) → old ≡ get_or ports place old → next.number ≡ old.number
    → AreOfHost ports → AreOfHost (set ports place next)
of_host_set place ports old next here same are = record {
  numbered = numbered_from_set 0 place ports old next here same are.numbered;
  few = omega (arith, length-set ports place next, are.few);
}

-- room that is made, or not, leaves the number
pub same_number : {A E : Type 0} (said : Result A E) (port next : PortView) → OnOk said (next ≡ with_room port) → OnErr said (next ≡ port) → next.number ≡ port.number
same_number (Ok done) port next ok err = ap (λ p. p.number) ok
same_number (Err fault) port next ok err = ap (λ p. p.number) err

-- a port is what is seen of it
pub same_port : (port next : PortView) → next.number ≡ port.number → next.head ≡ port.head → next.entries ≡ port.entries → next.spare ≡ port.spare → next ≡ port
same_port port next number head entries spare =
    ap (λ n. record { number = n; head = next.head; entries = next.entries; spare = next.spare }) number
    ∙ ap (λ h. record { number = port.number; head = h; entries = next.entries; spare = next.spare }) head
    ∙ ap (λ e. record { number = port.number; head = port.head; entries = e; spare = next.spare }) entries
    ∙ ap (λ s. record { number = port.number; head = port.head; entries = port.entries; spare = s }) spare

-- where a port is replaced by what a change makes of it
pub port_changed : (place : ℕ) (change : PortView → PortView) (ports : List PortView) (port next : PortView) → place < length ports → port ≡ get_or ports place port
    → next ≡ change port → set ports place next ≡ at_port place change ports
port_changed place change ports port next within here made = ap (set ports place) made ∙ sym (changed_at place change ports port within here)

-- where it is replaced by itself after a step
pub port_stepped : (place : ℕ) (ports : List PortView) (port next : PortView) (who : Who) (seq : ℕ) (step : Step) → place < length ports → port ≡ get_or ports place port
    → next.number ≡ port.number → next.head ≡ port.head
    → next.entries ≡ port.entries ++ entry_after port.head (past_of port.entries) who seq step ∷ [] → next.spare ≡ 0
    → set ports place next ≡ at_port place (stepped who seq step) ports
port_stepped place ports port next who seq step within here number head entries spare =
    port_changed place (stepped who seq step) ports port next within here (same_port (stepped who seq step port) next number head entries spare)

-- where it is replaced by itself
pub port_stays : (place : ℕ) (ports : List PortView) (port next : PortView) → port ≡ get_or ports place port → next ≡ port → set ports place next ≡ ports
port_stays place ports port next here same = ap (set ports place) (same ∙ here) ∙ set-get_or ports place port
