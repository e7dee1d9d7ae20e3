-- After an interrupt a port that isn't recovering owns no issue: what condemns also asks.
use Rattle.std.proofs.Common.{◌≡◌, ℕ, ◌&&◌, ◌||◌, ◌⊎◌, inl, inr, not, Bool, true, false, List, [], ◌∷◌, ◌++◌, Option, None, Some, is_some, suc, zero, refl, sym, ap, subst, if◌then◌else◌}
use Rattle.std.specs.List.{list_any, slice_index_or}
use Rattle.ata_base.specs.declared.err_mask.ErrMask.{ErrMask}
use Rattle.ata_script.specs.declared.port_head.PortHead.{PortHead}
use Rattle.ata_trace.specs.Event.{Event, onto}
use Rattle.ata_trace.specs.declared.act.Act.{Act}
use Rattle.ata_trace.specs.declared.act.Act.TheVariants.{Condemned, Frozen, Requested, Nothing}
use Rattle.host_tags.specs.declared.in_flight.InFlight.{InFlight}
use Rattle.port_past.specs.Causes.{tferr, has_notify}
use Rattle.port_past.specs.Completions.{completions}
use Rattle.port_past.specs.PortState.{is_asked}
use Rattle.port_past.specs.Line.{is_irq_served}
use Rattle.port_past.specs.Slots.{slots}
use Rattle.port_past.specs.declared.completion.Completion.{Completion}
use Rattle.eh_autopsy.specs.declared.failed_issue.FailedIssue.{FailedIssue}
use Rattle.port_rules.specs.Sorting.{ok_answers, condemnations}
use Rattle.port_rules.specs.Interrupt.{no_kinds, has_failed, must_freeze, must_request, served_acts, irq_acts}
use Rattle.port_rules.specs.Told.{or_nothing, told_if}
use Rattle.ata_base.proofs.Truth.{either_left, either_right, either_true}
use Rattle.ata_base.proofs.EachLemmas.{every_append}
use Rattle.port_facts.proofs.Owned.{IsMild, AreMild, AreSteady, append_steady, steady_mild, frees_onto, asks_onto, if_steady}
use Rattle.port_facts.specs.Reached.{IdleFree}
use Rattle.ata_trace.proofs.Pasts.{onto_append}

pub answers_steady : (slots : List (Option InFlight)) (completions : List (Option Completion)) → AreSteady (ok_answers slots completions)
answers_steady [] completions = tt
answers_steady (None ∷ slots) [] = tt
answers_steady (Some f ∷ slots) [] = tt
answers_steady (None ∷ slots) (e ∷ completions) = answers_steady slots completions
answers_steady (Some f ∷ slots) (None ∷ completions) = answers_steady slots completions
answers_steady (Some f ∷ slots) (Some e ∷ completions) =
    if_steady f.owned _ _ (answers_steady slots completions) (tt, answers_steady slots completions)

mild_by : (b : Bool) (f : InFlight) (kinds : ErrMask) (more : List Act) → AreMild more → AreMild (if b then Condemned f.number kinds ∷ more else more)
mild_by true f kinds more mild = (tt, mild)
mild_by false f kinds more mild = mild

blames_mild : (test : InFlight → Bool) (kinds : ErrMask) (slots : List (Option InFlight)) (completions : List (Option Completion)) → AreMild (condemnations test kinds slots completions)
blames_mild test kinds [] completions = tt
blames_mild test kinds (None ∷ slots) [] = tt
blames_mild test kinds (Some f ∷ slots) [] = tt
blames_mild test kinds (None ∷ slots) (e ∷ completions) = blames_mild test kinds slots completions
blames_mild test kinds (Some f ∷ slots) (Some e ∷ completions) = blames_mild test kinds slots completions
blames_mild test kinds (Some f ∷ slots) (None ∷ completions) =
    mild_by (not f.owned && test f) f kinds (condemnations test kinds slots completions) (blames_mild test kinds slots completions)

blame_by :
    (test : InFlight → Bool) (kinds : ErrMask) (f : InFlight) (owned tested : Bool) (more : List Act) → test f ≡ tested
    → (more ≡ []) ⊎ ((g : InFlight) × (test g ≡ true))
    → ((if not owned && tested then Condemned f.number kinds ∷ more else more) ≡ []) ⊎ ((g : InFlight) × (test g ≡ true))
blame_by test kinds f true tested more is rest = rest
blame_by test kinds f false true more is rest = inr (f, is)
blame_by test kinds f false false more is rest = rest

-- nothing is condemned, or something passes the test
blames_some :
    (test : InFlight → Bool) (kinds : ErrMask) (slots : List (Option InFlight)) (completions : List (Option Completion))
    → (condemnations test kinds slots completions ≡ []) ⊎ ((g : InFlight) × (test g ≡ true))
blames_some test kinds [] completions = inl refl
blames_some test kinds (None ∷ slots) [] = inl refl
blames_some test kinds (Some f ∷ slots) [] = inl refl
blames_some test kinds (None ∷ slots) (e ∷ completions) = blames_some test kinds slots completions
blames_some test kinds (Some f ∷ slots) (Some e ∷ completions) = blames_some test kinds slots completions
blames_some test kinds (Some f ∷ slots) (None ∷ completions) =
    blame_by test kinds f f.owned (test f) (condemnations test kinds slots completions) refl (blames_some test kinds slots completions)

any_told : (xs : List (Option FailedIssue)) (x : ℕ) → is_some (slice_index_or xs x None) ≡ true → list_any is_some xs ≡ true
any_told [] x is = absurd (cc)
any_told (y ∷ xs) zero is = either_left (is_some y) _ is
any_told (y ∷ xs) (suc x) is = either_right (is_some y) _ (any_told xs x is)

-- what condemns also asks
must_by :
    (head : PortHead) (past : List Event) (f : InFlight) → (must_freeze head past || has_failed (tferr past) f) ≡ true
    → must_request head past ≡ true
must_by head past f is =
    elim (either_true (must_freeze head past) (has_failed (tferr past) f) is) [
      | inl freezes ↦ either_left _ (has_notify head past) (either_right (list_any is_some (tferr past)) (must_freeze head past) freezes)
      | inr failed ↦ either_left _ (has_notify head past) (either_left (list_any is_some (tferr past)) (must_freeze head past) (any_told (tferr past) f.place failed))
    ]

asked_not : (asked runs : Bool) → (asked || runs) ≡ false → asked ≡ true → ⊥
asked_not true runs idle is = absurd (cc)
asked_not false runs idle is = absurd (cc)

asked_last : (p : List Event) (acts : List Act) → is_asked (onto p (acts ++ Requested ∷ [])) ≡ true
asked_last p acts = ap is_asked (onto_append p acts (Requested ∷ []))

served_free :
    (head : PortHead) (p : List Event) (told blamed frozen : List Act) (must asked : Bool) → AreSteady told → AreMild blamed → AreSteady frozen
    → (blamed ≡ []) ⊎ (must ≡ true) → is_asked p ≡ asked → IdleFree p
    → IdleFree (onto p (told ++ blamed ++ frozen ++ told_if (must && not asked) Requested))
served_free head p told blamed frozen must asked steady mild calm (inl none) is free =
    frees_onto head p (told ++ blamed ++ frozen ++ told_if (must && not asked) Requested)
    (append_steady _ _ (append_steady _ _ (append_steady told blamed steady (subst AreSteady (sym none) tt)) calm)
    (if_steady (must && not asked) (Requested ∷ []) [] (tt, tt) tt)) free
served_free head p told blamed frozen must true steady mild calm (inr so) is free =
    λ idle. absurd (asked_not (is_asked (onto p (told ++ blamed ++ frozen ++ told_if (must && not true) Requested))) _ idle
    (asks_onto p (told ++ blamed ++ frozen ++ told_if (must && not true) Requested)
    (every_append IsMild _ _ (every_append IsMild _ _ (every_append IsMild told blamed (steady_mild told steady) mild) (steady_mild frozen calm))
    (steady_mild _ (if_steady (must && not true) (Requested ∷ []) [] (tt, tt) tt))) is))
served_free head p told blamed frozen true false steady mild calm (inr so) is free =
    λ idle. absurd (asked_not (is_asked (onto p (told ++ blamed ++ frozen ++ Requested ∷ []))) _ idle (asked_last p (told ++ blamed ++ frozen)))
served_free head p told blamed frozen false false steady mild calm (inr so) is free = absurd (cc)

nothing_free : (head : PortHead) (p : List Event) (acts : List Act) → IdleFree p → IdleFree (onto p acts) → IdleFree (onto p (or_nothing acts))
nothing_free head p [] free after = frees_onto head p (Nothing ∷ []) (tt, tt) free
nothing_free head p (act ∷ rest) free after = after

nothing_mild : (acts : List Act) → AreMild acts → AreMild (or_nothing acts)
nothing_mild [] mild = (tt, tt)
nothing_mild (act ∷ rest) mild = mild

irq_free_by :
    (head : PortHead) (past p : List Event) (served : Bool) → IdleFree p → IdleFree (onto p (served_acts head past))
    → IdleFree (onto p (if served then or_nothing (served_acts head past) else Nothing ∷ []))
irq_free_by head past p true free after = nothing_free head p (served_acts head past) free after
irq_free_by head past p false free after = frees_onto head p (Nothing ∷ []) (tt, tt) free

pub irq_free :
    (head : PortHead) (past p : List Event) → is_asked p ≡ is_asked past → IdleFree p → IdleFree (onto p (irq_acts head past))
irq_free head past p asked free =
    let test : InFlight → Bool = λ f. must_freeze head past || has_failed (tferr past) f in
    let blamed = condemnations test no_kinds (slots past) (completions head past) in
    let either : (blamed ≡ []) ⊎ (must_request head past ≡ true) =
    elim (blames_some test no_kinds (slots past) (completions head past)) [
      | inl none ↦ inl none
      | inr some ↦ inr (must_by head past some.0 some.1)
    ] in
    irq_free_by head past p (is_irq_served past) free
    (served_free head p (ok_answers (slots past) (completions head past)) blamed (told_if (must_freeze head past) Frozen) (must_request head past) (is_asked past)
    (answers_steady (slots past) (completions head past)) (blames_mild test no_kinds (slots past) (completions head past))
    (if_steady (must_freeze head past) (Frozen ∷ []) [] (tt, tt) tt) either asked free)

irq_mild_by : (served : Bool) (acts : List Act) → AreMild acts → AreMild (if served then or_nothing acts else Nothing ∷ [])
irq_mild_by true acts mild = nothing_mild acts mild
irq_mild_by false acts mild = (tt, tt)

pub irq_mild : (head : PortHead) (past : List Event) → AreMild (irq_acts head past)
irq_mild head past =
    let test : InFlight → Bool = λ f. must_freeze head past || has_failed (tferr past) f in
    irq_mild_by (is_irq_served past) (served_acts head past)
    (every_append IsMild _ _ (every_append IsMild _ _ (every_append IsMild (ok_answers (slots past) (completions head past)) _
    (steady_mild _ (answers_steady (slots past) (completions head past))) (blames_mild test no_kinds (slots past) (completions head past)))
    (steady_mild _ (if_steady (must_freeze head past) (Frozen ∷ []) [] (tt, tt) tt)))
    (steady_mild _ (if_steady (must_request head past && not (is_asked past)) (Requested ∷ []) [] (tt, tt) tt)))
