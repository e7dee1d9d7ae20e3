use Rattle.std.proofs.Common.{◌≡◌, ℕ, Bool, true, false, not, ◌&&◌, List, [], ◌∷◌, ◌++◌, Option, Some, None, option_map, option_to_list, if◌then◌else◌, refl, ap}
use Rattle.ata_base.specs.declared.cmd.Cmd.{Cmd}
use Rattle.ata_base.specs.declared.err_mask.ErrMask.{ErrMask}
use Rattle.ata_trace.specs.declared.act.Act.{Act}
use Rattle.ata_trace.specs.declared.act.Act.TheVariants.{Condemned}
use Rattle.host_tags.specs.declared.in_flight.InFlight.{InFlight}
use Rattle.port_past.specs.declared.completion.Completion.{Completion}
use Rattle.port_past.specs.declared.judgement.Judgement.{Judgement}
use Rattle.port_past.specs.Commands.{command_of, is_gone}
use Rattle.port_rules.specs.Finish.{finishes, finish_act, issue_finish}
use Rattle.port_rules.specs.Sorting.{ok_answers, condemnations, ok_act}
use Rattle.port_rules.specs.TagByTag.{each_told, answer_of, condemnation_of, finish_of}

-- an act where something holds, before others
told_first : (holds : Bool) (act : Act) (rest others : List Act) → rest ≡ others
    → (if holds then act ∷ rest else rest) ≡ option_to_list (if holds then Some act else None) ++ others
told_first true act rest others same = ap (λ acts. act ∷ acts) same
told_first false act rest others same = same

-- an act unless something holds, before others
told_unless : (holds : Bool) (act : Act) (rest others : List Act) → rest ≡ others
    → (if holds then rest else act ∷ rest) ≡ option_to_list (if holds then None else Some act) ++ others
told_unless true act rest others same = same
told_unless false act rest others same = ap (λ acts. act ∷ acts) same

-- the answers are told tag by tag
pub answers_told : (flights : List (Option InFlight)) (done : List (Option Completion))
    → ok_answers flights done ≡ each_told answer_of flights done
answers_told [] done = refl
answers_told (None ∷ flights) [] = refl
answers_told (Some f ∷ flights) [] = refl
answers_told (None ∷ flights) (None ∷ done) = answers_told flights done
answers_told (None ∷ flights) (Some it ∷ done) = answers_told flights done
answers_told (Some f ∷ flights) (None ∷ done) = answers_told flights done
answers_told (Some f ∷ flights) (Some it ∷ done) =
    told_unless f.owned (ok_act f it) (ok_answers flights done) (each_told answer_of flights done) (answers_told flights done)

-- the condemnations are told tag by tag
pub condemnations_told : (test : InFlight → Bool) (kinds : ErrMask) (flights : List (Option InFlight)) (done : List (Option Completion))
    → condemnations test kinds flights done ≡ each_told (condemnation_of test kinds) flights done
condemnations_told test kinds [] done = refl
condemnations_told test kinds (None ∷ flights) [] = refl
condemnations_told test kinds (Some f ∷ flights) [] = refl
condemnations_told test kinds (None ∷ flights) (None ∷ done) = condemnations_told test kinds flights done
condemnations_told test kinds (None ∷ flights) (Some it ∷ done) = condemnations_told test kinds flights done
condemnations_told test kinds (Some f ∷ flights) (Some it ∷ done) = condemnations_told test kinds flights done
condemnations_told test kinds (Some f ∷ flights) (None ∷ done) = told_first
    (not f.owned && test f)
    (Condemned f.number kinds)
    (condemnations test kinds flights done)
    (each_told (condemnation_of test kinds) flights done)
    (condemnations_told test kinds flights done)

-- the finish of one issue, before others
finish_told : (counts : List ℕ) (f : InFlight) (j : Judgement) (owned : Bool) (c : Option Cmd) (rest others : List Act) → rest ≡ others
    → (if owned then issue_finish counts f.number j c else []) ++ rest
    ≡ option_to_list (if owned then option_map (λ c. finish_act c f.number j (is_gone c counts)) c else None) ++ others
finish_told counts f j false c rest others same = same
finish_told counts f j true None rest others same = same
finish_told counts f j true (Some c) rest others same = ap (λ acts. finish_act c f.number j (is_gone c counts) ∷ acts) same

-- the finish is told tag by tag
pub finishes_told : (accepted : List Cmd) (counts : List ℕ) (flights : List (Option InFlight)) (judgements : List (Option Judgement))
    → finishes accepted counts flights judgements ≡ each_told (finish_of accepted counts) flights judgements
finishes_told accepted counts [] judgements = refl
finishes_told accepted counts (None ∷ flights) [] = refl
finishes_told accepted counts (Some f ∷ flights) [] = refl
finishes_told accepted counts (None ∷ flights) (None ∷ judgements) = finishes_told accepted counts flights judgements
finishes_told accepted counts (None ∷ flights) (Some j ∷ judgements) = finishes_told accepted counts flights judgements
finishes_told accepted counts (Some f ∷ flights) (None ∷ judgements) = finishes_told accepted counts flights judgements
finishes_told accepted counts (Some f ∷ flights) (Some j ∷ judgements) = finish_told
    counts
    f
    j
    f.owned
    (command_of f.id accepted)
    (finishes accepted counts flights judgements)
    (each_told (finish_of accepted counts) flights judgements)
    (finishes_told accepted counts flights judgements)
