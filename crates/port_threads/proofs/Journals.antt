-- Journals of desks, and what is woven in them.
use Rattle.std.proofs.Common.{◌≡◌, ℕ, ◌+◌, ◌==◌, Bool, true, false, cond, List, [], ◌∷◌, ◌++◌, map, drop, refl, sym, ap, ◌∙◌, subst}
use Rattle.std.specs.Prelude.{All}
use Rattle.std.proofs.lemmas.List.{map-append}
use Rattle.std.proofs.lemmas.List.Elements.{All-nil, All-head, All-tail, All-push}
use Rattle.ata_script.specs.declared.port_head.PortHead.{PortHead}
use Rattle.ata_trace.specs.Entries.{EntryView}
use Rattle.ata_trace.specs.declared.step.Step.{Step}
use Rattle.ata_trace.specs.declared.who.Who.TheVariants.{Actor}
use Rattle.port_core.specs.PortView.{PortView}
use Rattle.port_core.specs.Weave.{asked_by, asked_in}
use Rattle.port_rules.specs.Legal.{IsLegal}
use Rattle.port_rules.specs.Run.{StepCall, numbered}
use Rattle.port_threads.specs.Desks.{IsOfDesk}
use Rattle.port_threads.specs.Moves.{actor_of, AreOfActors, IsOfActor, move_of, moves_in}
use Rattle.port_threads.specs.Walks.{steps_by}
use Rattle.port_threads.specs.Weave.{IsWeave}
use Rattle.turnstile.specs.Weaves.{IsWoven, of_actor}
use Rattle.turnstile.specs.Weaves.{numbered as moves_from}
use Rattle.turnstile.specs.declared.entry.Entry.{Entry}

actors_more : (entries : List EntryView) (entry : EntryView) (actor : ℕ) → AreOfActors entries → entry.who ≡ Actor actor → AreOfActors (entries ++ entry ∷ [])
actors_more [] entry actor are is = All-nil IsOfActor
actors_more (boot ∷ rest) entry actor are is = All-push IsOfActor rest entry are (actor, is)

-- its moves after a step of an actor
pub moves_more : (head : PortHead) (entries more : List EntryView) (entry : EntryView) (actor given : ℕ) → IsLegal head entries → more ≡ entries ++ entry ∷ [] → entry.who ≡ Actor given → given ≡ actor
    → moves_in more ≡ moves_in entries ++ record { actor = actor; seq = entry.seq; step = entry.step } ∷ []
moves_more head [] more entry actor given legal grown is same = absurd legal.acts
moves_more head (boot ∷ rest) more entry actor given legal grown is same =
    ap moves_in grown ∙ map-append move_of rest (entry ∷ [])
    ∙ ap (λ a. map move_of rest ++ record { actor = a; seq = entry.seq; step = entry.step } ∷ []) (ap actor_of is ∙ same)

-- a desk after a step of an actor
pub of_desk_more : (port next : PortView) (entry : EntryView) (actor : ℕ) → IsOfDesk port → IsLegal next.head next.entries → next.entries ≡ port.entries ++ entry ∷ [] → entry.who ≡ Actor actor → IsOfDesk next
of_desk_more port next entry actor desk legal grown is = record {
  legal = legal;
  actors = subst AreOfActors (sym grown) (actors_more port.entries entry actor desk.actors is);
}

-- a move as a step that a port is asked for
abbrev call_of : Entry Step → StepCall
call_of move = record { who = Actor move.actor; seq = move.seq; step = move.step }

calls_in : (entries : List EntryView) → All IsOfActor entries → asked_in entries ≡ map call_of (map move_of entries)
calls_in [] all = refl
calls_in (entry ∷ rest) all =
    let is = All-head IsOfActor entry rest all in
    let who : entry.who ≡ Actor (actor_of entry.who) = is.1 ∙ ap (λ w. Actor (actor_of w)) (sym is.1) in
    ap (λ w. record { who = w; seq = entry.seq; step = entry.step } ∷ asked_in rest) who
    ∙ ap (λ calls. call_of (move_of entry) ∷ calls) (calls_in rest (All-tail IsOfActor entry rest all))

calls_after_boot : (entries : List EntryView) → AreOfActors entries → asked_in (drop 1 entries) ≡ map call_of (moves_in entries)
calls_after_boot [] all = refl
calls_after_boot (boot ∷ rest) all = calls_in rest all

calls_by : (actor : ℕ) (moves : List (Entry Step)) → asked_by actor (map call_of moves) ≡ map call_of (of_actor actor moves)
calls_by actor [] = refl
calls_by actor (move ∷ rest) = chosen (move.actor == actor) (calls_by actor rest) where
  chosen : (b : Bool) → asked_by actor (map call_of rest) ≡ map call_of (of_actor actor rest)
      → cond b (call_of move ∷ asked_by actor (map call_of rest)) (asked_by actor (map call_of rest)) ≡ map call_of (cond b (move ∷ of_actor actor rest) (of_actor actor rest))
  chosen true later = ap (λ calls. call_of move ∷ calls) later
  chosen false later = later

calls_numbered : (actor n : ℕ) (steps : List Step) → map call_of (moves_from actor n steps) ≡ numbered (Actor actor) n steps
calls_numbered actor n [] = refl
calls_numbered actor n (step ∷ rest) = ap (λ calls. record { who = Actor actor; seq = n; step = step } ∷ calls) (calls_numbered actor (n + 1) rest)

-- a journal whose moves are woven of the steps at the port
pub is_weave : (head : PortHead) (number : ℕ) (lines : List (ℕ × ℕ × Step)) (entries : List EntryView)
    → IsLegal head entries → AreOfActors entries → IsWoven (steps_by number lines) (moves_in entries) → IsWeave head number lines entries
is_weave head number lines entries legal actors woven = record {
  legal = legal;
  actors = actors;
  each = λ actor.
      ap (asked_by actor) (calls_after_boot entries actors) ∙ calls_by actor (moves_in entries) ∙ ap (map call_of) (woven actor)
      ∙ calls_numbered actor 0 (steps_by number lines actor);
}
