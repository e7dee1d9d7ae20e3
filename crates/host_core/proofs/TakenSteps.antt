-- What a step more makes at a host, and what a port more.
use Rattle.std.proofs.Common.{◌≡◌, ◌≢◌, ℕ, zero, suc, ◌+◌, ◌*◌, ◌<◌, ◌≤◌, ◌^◌, ◌==◌, Bool, true, false, List, [], ◌∷◌, ◌++◌, length, take, slice_get, slice_index, slice_set, get_or, replicate, refl, sym, ap, subst, ◌∙◌, arith}
use Rattle.std.specs.Prelude.{IfSome, if◌then◌else◌}
use Rattle.std.proofs.lemmas.Bool.{eq-eqb, eqb-false, eqb-true}
use Rattle.std.proofs.lemmas.List.{append-nil, take_all, take_more, map-append, length-map, length-replicate, length-take-le, length-set, get_or-set_same, get_or-set_other, get_or-replicate}
use Rattle.ata_base.proofs.Truth.{not_true}
use Rattle.ata_script.specs.declared.port_head.PortHead.{PortHead}
use Rattle.ata_trace.specs.Entries.{past_of}
use Rattle.ata_trace.specs.declared.step.Step.{Step}
use Rattle.ata_trace.specs.declared.who.Who.TheVariants.{Actor}
use Rattle.port_rules.specs.Legal.{entry_after}
use Rattle.port_rules.specs.Run.{run}
use Rattle.port_core.proofs.Weaves.{count_push, in_turn_push, run_push, steps_at_push}
use Rattle.port_core.specs.Hosts.{at_port, heads_in, journals_in, stepped, with_room}
use Rattle.port_core.specs.PortView.{PortView}
use Rattle.port_core.specs.Weave.{asked_at, count_of, in_turn, runs_from, runs_of, steps_at}
use Rattle.host_core.specs.Hosting.{AreCounted, IsPlayed}

-- the steps at a port, with one more that is there, or elsewhere
steps_here : (number : ℕ) (steps : List (ℕ × ℕ × Step)) (taken : ℕ × ℕ × Step) → taken.1 ≡ number
    → steps_at number (steps ++ taken ∷ []) ≡ steps_at number steps ++ (taken.0, taken.2) ∷ []
steps_here number steps taken at =
    steps_at_push number steps taken ∙ ap (λ b. steps_at number steps ++ (if b then (taken.0, taken.2) ∷ [] else [])) (eq-eqb taken.1 number at)

pub steps_elsewhere : (number : ℕ) (steps : List (ℕ × ℕ × Step)) (taken : ℕ × ℕ × Step) → taken.1 ≢ number
    → steps_at number (steps ++ taken ∷ []) ≡ steps_at number steps
steps_elsewhere number steps taken away =
    steps_at_push number steps taken
    ∙ ap (λ b. steps_at number steps ++ (if b then (taken.0, taken.2) ∷ [] else [])) (not_true (taken.1 == number) (λ e. away (eqb-true taken.1 number e)))
    ∙ append-nil (steps_at number steps)

-- the run of the steps at a port, with one more
pub run_more : (head : PortHead) (steps : List (ℕ × Step)) (taken : ℕ × Step)
    → run head (in_turn [] (steps ++ taken ∷ []))
    ≡ run head (in_turn [] steps) ++ entry_after head (past_of (run head (in_turn [] steps))) (Actor taken.0) (count_of taken.0 steps) taken.1 ∷ []
run_more head steps taken = ap (run head) (in_turn_push [] steps taken) ∙ run_push head (in_turn [] steps) _

-- an actor has no more steps than there are
pub count_few : (actor : ℕ) (steps : List (ℕ × Step)) → count_of actor steps ≤ length steps
count_few actor [] = omega arith
count_few actor (taken ∷ rest) = chosen (taken.0 == actor) (count_few actor rest) where
  chosen : (b : Bool) → count_of actor rest ≤ length rest → (if b then count_of actor rest + 1 else count_of actor rest) ≤ length (taken ∷ rest)
  chosen true h = omega (arith, h)
  chosen false h = omega (arith, h)

pub at_few : (number : ℕ) (steps : List (ℕ × ℕ × Step)) → length (steps_at number steps) ≤ length steps
at_few number [] = omega arith
at_few number (taken ∷ rest) = chosen (taken.1 == number) (at_few number rest) where
  chosen : (b : Bool) → length (steps_at number rest) ≤ length rest → length (if b then (taken.0, taken.2) ∷ steps_at number rest else steps_at number rest) ≤ length (taken ∷ rest)
  chosen true h = omega (arith, h)
  chosen false h = omega (arith, h)

-- no step was taken yet
pub counted_none : AreCounted (replicate 256 0) []
counted_none = record {
  all = length-replicate {A = ℕ} 256 0;
  each = λ port actor there within. get_or-replicate 256 (32 * port + actor) 0 0 (omega (arith, there, within));
}

-- how many steps an actor has at a port, with one more
count_more : (port actor : ℕ) (steps : List (ℕ × ℕ × Step)) (taken : ℕ × ℕ × Step) (b : Bool) → (taken.1 == port) ≡ b
    → count_of actor (steps_at port (steps ++ taken ∷ []))
    ≡ (if b then (if taken.0 == actor then count_of actor (steps_at port steps) + 1 else count_of actor (steps_at port steps)) else count_of actor (steps_at port steps))
count_more port actor steps taken true e =
    ap (count_of actor) (steps_here port steps taken (eqb-true taken.1 port e)) ∙ count_push actor (steps_at port steps) (taken.0, taken.2)
count_more port actor steps taken false e =
    ap (count_of actor) (steps_elsewhere port steps taken (λ same. cc (sym e ∙ eq-eqb taken.1 port same)))

-- one more was taken
pub counted_more : (counts : List ℕ) (steps : List (ℕ × ℕ × Step)) (taken : ℕ × ℕ × Step) → taken.1 < 8 → taken.0 < 32 → AreCounted counts steps
    → AreCounted (slice_set counts (32 * taken.1 + taken.0) (slice_index counts (32 * taken.1 + taken.0) + 1)) (steps ++ taken ∷ [])
counted_more counts steps taken there within are = record {
  all = length-set counts place next ∙ are.all;
  each = λ port actor few small. chosen port actor few small (taken.1 == port) (taken.0 == actor) refl refl (count_more port actor steps taken (taken.1 == port) refl);
} where
  place : ℕ
  place = 32 * taken.1 + taken.0

  next : ℕ
  next = slice_index counts place + 1

  other : (port actor : ℕ) → port < 8 → actor < 32 → (32 * port + actor ≢ place) → slice_index (slice_set counts place next) (32 * port + actor) ≡ count_of actor (steps_at port steps)
  other port actor few small away = get_or-set_other counts place (32 * port + actor) next 0 away ∙ are.each port actor few small

  chosen : (port actor : ℕ) → port < 8 → actor < 32 → (b d : Bool) → (taken.1 == port) ≡ b → (taken.0 == actor) ≡ d
      → count_of actor (steps_at port (steps ++ taken ∷ []))
      ≡ (if b then (if d then count_of actor (steps_at port steps) + 1 else count_of actor (steps_at port steps)) else count_of actor (steps_at port steps))
      → slice_index (slice_set counts place next) (32 * port + actor) ≡ count_of actor (steps_at port (steps ++ taken ∷ []))
  chosen port actor few small true true e f c =
      let here : 32 * port + actor ≡ place = omega (arith, eqb-true taken.1 port e, eqb-true taken.0 actor f) in
      ap (slice_index (slice_set counts place next)) here
      ∙ get_or-set_same counts place next 0 (omega (arith, there, within, are.all))
      ∙ ap (λ at. slice_index counts at + 1) (sym here)
      ∙ ap (λ n. n + 1) (are.each port actor few small)
      ∙ sym c
  chosen port actor few small true false e f c =
      other port actor few small (λ same. eqb-false taken.0 actor f (omega (arith, same, eqb-true taken.1 port e))) ∙ sym c
  chosen port actor few small false d e f c =
      other port actor few small (λ same. eqb-false taken.1 port e (omega (arith, same, within, small))) ∙ sym c

-- a change that leaves the heads, the journals
heads_at : (place : ℕ) (change : PortView → PortView) (ports : List PortView) → ((port : PortView) → (change port).head ≡ port.head)
    → heads_in (at_port place change ports) ≡ heads_in ports
heads_at zero change [] same = refl
heads_at (suc place) change [] same = refl
heads_at zero change (first ∷ rest) same = ap (λ head. head ∷ heads_in rest) (same first)
heads_at (suc place) change (first ∷ rest) same = ap (λ heads. first.head ∷ heads) (heads_at place change rest same)

journals_room : (place : ℕ) (ports : List PortView) → journals_in (at_port place with_room ports) ≡ journals_in ports
journals_room zero [] = refl
journals_room (suc place) [] = refl
journals_room zero (first ∷ rest) = refl
journals_room (suc place) (first ∷ rest) = ap (λ journals. first.entries ∷ journals) (journals_room place rest)

-- where room was made, there is some
pub room_made : (place : ℕ) (ports : List PortView) → IfSome (slice_get (at_port place with_room ports) place) (λ port. port.spare ≡ 1)
room_made zero [] = tt
room_made (suc place) [] = tt
room_made zero (first ∷ rest) = refl
room_made (suc place) (first ∷ rest) = room_made place rest

-- the journal of a port, with one more step at it
pub entries_here : (number : ℕ) (port : PortView) (steps : List (ℕ × ℕ × Step)) (taken : ℕ × ℕ × Step) (seq : ℕ)
    → taken.1 ≡ number → seq ≡ count_of taken.0 (steps_at taken.1 steps) → port.entries ≡ run port.head (asked_at number steps)
    → (stepped (Actor taken.0) seq taken.2 port).entries ≡ run port.head (asked_at number (steps ++ taken ∷ []))
entries_here number port steps taken seq at turn made =
    let before = steps_at number steps in
    ap (λ entries. entries ++ entry_after port.head (past_of entries) (Actor taken.0) seq taken.2 ∷ []) made
    ∙ ap (λ s. run port.head (in_turn [] before) ++ entry_after port.head (past_of (run port.head (in_turn [] before))) (Actor taken.0) s taken.2 ∷ [])
    (turn ∙ ap (λ n. count_of taken.0 (steps_at n steps)) at)
    ∙ sym (run_more port.head before (taken.0, taken.2))
    ∙ ap (λ asked. run port.head (in_turn [] asked)) (sym (steps_here number steps taken at))

-- it changes no journal of a later port
later_stay : (number : ℕ) (heads : List PortHead) (steps : List (ℕ × ℕ × Step)) (taken : ℕ × ℕ × Step) → taken.1 < number
    → runs_from number heads (steps ++ taken ∷ []) ≡ runs_from number heads steps
later_stay number [] steps taken before = refl
later_stay number (head ∷ rest) steps taken before =
    ap (λ asked. run head (in_turn [] asked) ∷ runs_from (number + 1) rest (steps ++ taken ∷ []))
    (steps_elsewhere number steps taken (λ same. omega (arith, same, before)))
    ∙ ap (λ journals. run head (asked_at number steps) ∷ journals) (later_stay (number + 1) rest steps taken (omega (arith, before)))

-- it changes the journal of its port, and no other
journals_more : (number place : ℕ) (ports : List PortView) (steps : List (ℕ × ℕ × Step)) (taken : ℕ × ℕ × Step) (seq : ℕ)
    → taken.1 ≡ number + place → seq ≡ count_of taken.0 (steps_at taken.1 steps) → journals_in ports ≡ runs_from number (heads_in ports) steps
    → journals_in (at_port place (stepped (Actor taken.0) seq taken.2) ports) ≡ runs_from number (heads_in ports) (steps ++ taken ∷ [])
journals_more number zero [] steps taken seq at turn are = refl
journals_more number (suc place) [] steps taken seq at turn are = refl
journals_more number zero (port ∷ rest) steps taken seq at turn are =
    let made : port.entries ≡ run port.head (asked_at number steps) = cc in
    let others : journals_in rest ≡ runs_from (number + 1) (heads_in rest) steps = cc in
    ap (λ entries. entries ∷ journals_in rest) (entries_here number port steps taken seq (omega (arith, at)) turn made)
    ∙ ap (λ journals. run port.head (asked_at number (steps ++ taken ∷ [])) ∷ journals)
    (others ∙ sym (later_stay (number + 1) (heads_in rest) steps taken (omega (arith, at))))
journals_more number (suc place) (port ∷ rest) steps taken seq at turn are =
    let made : port.entries ≡ run port.head (asked_at number steps) = cc in
    let others : journals_in rest ≡ runs_from (number + 1) (heads_in rest) steps = cc in
    ap (λ entries. entries ∷ journals_in (at_port place (stepped (Actor taken.0) seq taken.2) rest))
    (made ∙ ap (λ asked. run port.head (in_turn [] asked)) (sym (steps_elsewhere number steps taken (λ same. omega (arith, same, at)))))
    ∙ ap (λ journals. run port.head (asked_at number (steps ++ taken ∷ [])) ∷ journals) (journals_more (number + 1) place rest steps taken seq (omega (arith, at)) turn others)

-- a host that took one step more
host_step : (heads : List PortHead) (steps : List (ℕ × ℕ × Step)) (ports : List PortView) (taken : ℕ × ℕ × Step) (seq : ℕ)
    → IsPlayed heads steps ports → seq ≡ count_of taken.0 (steps_at taken.1 steps)
    → IsPlayed heads (steps ++ taken ∷ []) (at_port taken.1 (stepped (Actor taken.0) seq taken.2) (at_port taken.1 with_room ports))
host_step heads steps ports taken seq host turn =
    let roomy = at_port taken.1 with_room ports in
    let same : heads_in roomy ≡ heads = heads_at taken.1 with_room ports (λ port. refl) ∙ host.same in
    let journals : journals_in roomy ≡ runs_from 0 (heads_in roomy) steps = journals_room taken.1 ports ∙ host.journals ∙ ap (λ heads. runs_of heads steps) (sym same) in
    record {
      same = heads_at taken.1 (stepped (Actor taken.0) seq taken.2) roomy (λ port. refl) ∙ same;
      journals = journals_more 0 taken.1 roomy steps taken seq (omega arith) turn journals ∙ ap (λ heads. runs_of heads (steps ++ taken ∷ [])) same;
    }

-- a host that took the first n steps
pub record IsReplayed (heads : List PortHead) (steps : List (ℕ × ℕ × Step)) (n : ℕ) (ports : List PortView) (turns : List ℕ) : Type 0 where
  pub host : IsPlayed heads (take n steps) ports
  pub counts : AreCounted turns (take n steps)

-- one that has booted took none
pub replayed_none : (heads : List PortHead) (steps : List (ℕ × ℕ × Step)) (ports : List PortView) (turns : List ℕ)
    → IsPlayed heads [] ports → turns ≡ replicate 256 0 → IsReplayed heads steps 0 ports turns
replayed_none heads steps ports turns booted none = record {
  host = booted;
  counts = subst (λ (turns : List ℕ). AreCounted turns []) (sym none) counted_none;
}

-- it takes the next step
pub replayed_more : (heads : List PortHead) (steps : List (ℕ × ℕ × Step)) (n : ℕ) (ports next : List PortView) (turns more : List ℕ) (taken : ℕ × ℕ × Step) (seq : ℕ)
    → IsReplayed heads steps n ports turns → n < length steps → taken ≡ get_or steps n taken → taken.1 < 8 → taken.0 < 32
    → seq ≡ slice_index turns (32 * taken.1 + taken.0)
    → more ≡ slice_set turns (32 * taken.1 + taken.0) (slice_index turns (32 * taken.1 + taken.0) + 1)
    → next ≡ at_port taken.1 (stepped (Actor taken.0) seq taken.2) (at_port taken.1 with_room ports)
    → IsReplayed heads steps (n + 1) next more
replayed_more heads steps n ports next turns more taken seq replayed within here there actor turn counted made =
    let grown : take (n + 1) steps ≡ take n steps ++ taken ∷ [] = take_more steps n taken within ∙ ap (λ t. take n steps ++ t ∷ []) (sym here) in
    record {
      host =
          subst (λ (steps : List (ℕ × ℕ × Step)). IsPlayed heads steps next) (sym grown)
          (subst (IsPlayed heads (take n steps ++ taken ∷ [])) (sym made)
          (host_step heads (take n steps) ports taken seq replayed.host (turn ∙ replayed.counts.each taken.1 taken.0 there actor)));
      counts =
          subst (λ (steps : List (ℕ × ℕ × Step)). AreCounted more steps) (sym grown)
          (subst (λ (turns : List ℕ). AreCounted turns (take n steps ++ taken ∷ [])) (sym counted) (counted_more turns (take n steps) taken there actor replayed.counts));
    }

-- all steps were taken
pub replayed_all : (heads : List PortHead) (steps : List (ℕ × ℕ × Step)) (n : ℕ) (ports : List PortView) (turns : List ℕ)
    → IsReplayed heads steps n ports turns → length steps ≤ n → IsPlayed heads steps ports
replayed_all heads steps n ports turns replayed all = subst (λ (steps : List (ℕ × ℕ × Step)). IsPlayed heads steps ports) (take_all n steps all) replayed.host

-- an actor's count is small
pub turn_small : (steps : List (ℕ × ℕ × Step)) (n : ℕ) (turns : List ℕ) (port actor : ℕ)
    → AreCounted turns (take n steps) → n < length steps → length steps < 2 ^ 64 → port < 8 → actor < 32 → slice_index turns (32 * port + actor) + 1 < 2 ^ 64
turn_small steps n turns port actor are within all there small =
    omega (
      arith,
      are.each port actor there small,
      count_few actor (steps_at port (take n steps)),
      at_few port (take n steps),
      length-take-le n steps (omega (arith, within)),
    )

journals_push : (number : ℕ) (heads : List PortHead) (head : PortHead) (steps : List (ℕ × ℕ × Step))
    → runs_from number (heads ++ head ∷ []) steps ≡ runs_from number heads steps ++ run head (asked_at (number + length heads) steps) ∷ []
journals_push number [] head steps = ap (λ n. run head (asked_at n steps) ∷ []) (omega arith)
journals_push number (first ∷ rest) head steps =
    ap (λ journals. run first (asked_at number steps) ∷ journals)
    (journals_push (number + 1) rest head steps ∙ ap (λ n. runs_from (number + 1) rest steps ++ run head (asked_at n steps) ∷ []) (omega arith))

-- a host has a port for each head
pub host_count : (heads : List PortHead) (n : ℕ) (steps : List (ℕ × ℕ × Step)) (ports : List PortView) → n ≤ length heads → IsPlayed (take n heads) steps ports → length ports ≡ n
host_count heads n steps ports within host = sym (length-map ports (λ port. port.head)) ∙ ap length host.same ∙ length-take-le n heads within

-- a host with the next port
pub host_more : (heads : List PortHead) (n : ℕ) (head : PortHead) (steps : List (ℕ × ℕ × Step)) (ports : List PortView) (port : PortView)
    → n < length heads → head ≡ get_or heads n head
    → IsPlayed (take n heads) steps ports → port.head ≡ head → port.entries ≡ run head (asked_at n steps)
    → IsPlayed (take (n + 1) heads) steps (ports ++ port ∷ [])
host_more heads n head steps ports port within here host same made =
    let more : take (n + 1) heads ≡ take n heads ++ head ∷ [] = take_more heads n head within ∙ ap (λ h. take n heads ++ h ∷ []) (sym here) in
    let count : length (take n heads) ≡ n = length-take-le n heads (omega (arith, within)) in
    let place : n ≡ 0 + length (take n heads) = omega (arith, count) in
    record {
      same = map-append (λ port. port.head) ports (port ∷ []) ∙ ap (λ heads. heads ++ port.head ∷ []) host.same ∙ ap (λ h. take n heads ++ h ∷ []) same ∙ sym more;
      journals =
          map-append (λ port. port.entries) ports (port ∷ [])
          ∙ ap (λ journals. journals ++ port.entries ∷ []) host.journals
          ∙ ap (λ entries. runs_of (take n heads) steps ++ entries ∷ []) (made ∙ ap (λ n. run head (asked_at n steps)) place)
          ∙ sym (journals_push 0 (take n heads) head steps)
          ∙ ap (λ heads. runs_of heads steps) (sym more);
    }
