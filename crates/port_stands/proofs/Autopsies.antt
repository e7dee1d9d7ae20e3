-- Which acts an autopsy has, and what its actions are.
use Rattle.std.proofs.Common.{◌≡◌, ◌∙◌, ℕ, ◌+◌, Bool, true, false, not, ◌&&◌, ◌<◌, ◌≤◌, suc, zero, arith, List, [], ◌∷◌, ◌++◌, Some, map, flat_map, slice_set, refl, ap}
use Rattle.std.specs.List.{list_all, range_with_len}
use Rattle.ata_base.specs.declared.err_mask.ErrMask.{ErrMask}
use Rattle.ata_base.specs.declared.issue_no.IssueNo.{IssueNo}
use Rattle.ata_script.specs.declared.port_head.PortHead.{PortHead}
use Rattle.ata_trace.specs.Event.{Event, onto}
use Rattle.ata_trace.specs.Event.Event.{Told}
use Rattle.ata_trace.specs.declared.act.Act.{Act}
use Rattle.ata_trace.specs.declared.act.Act.TheVariants.{Judged, Recorded, Cleared, Hot, Action}
use Rattle.ata_base.specs.declared.link_action.LinkAction.{LinkAction}
use Rattle.ata_base.specs.declared.speed_action.SpeedAction.{SpeedAction}
use Rattle.eh_reval.specs.Probes.{probe_limit_of}
use Rattle.port_past.specs.Tasks.{actions}
use Rattle.port_rules.specs.Autopsy.{all_kinds, has_io, is_recorded, verdict_at, speed_action, has_effect, recording_acts, recorded_acts, action_of, autopsy_of, is_examined, examined_acts}
use Rattle.port_rules.specs.Blame.{JudgedIssue, is_hotplugged, judged_here}
use Rattle.port_past.specs.Heads.{places_of}
use Rattle.port_rules.specs.AutopsyView.{AutopsyView, autopsy_view}
use Rattle.port_rules.specs.Told.{told_if}
use Rattle.port_stands.proofs.Blocks.{all_append, left_alone}
use Rattle.ata_trace.proofs.Pasts.{onto_append}
use Rattle.port_stands.proofs.Lists.{all_if, all_more, all_told}
use Rattle.port_stands.proofs.Steps.{all_map}

-- a kind of which each act of a place's autopsy is
pub record HasAutopsy (kind : Act → Bool) (place : ℕ) : Type 0 where
  pub judged : (number : IssueNo) (kinds : ErrMask) → kind (Judged number kinds) ≡ true
  pub recorded : (io dubious : Bool) (kinds : ErrMask) (ncq_off speed_down pio keep : Bool) (action : SpeedAction)
      → kind (Recorded place io dubious kinds ncq_off speed_down pio keep action) ≡ true
  pub cleared : kind (Cleared place) ≡ true
  pub hot : (generation : ℕ) → kind (Hot place generation) ≡ true

-- the judgements of a place's autopsy
abbrev pub judged_acts : AutopsyView → List Act
judged_acts s = map (λ (issue : JudgedIssue). Judged issue.flight.number (record { 0 = issue.kinds })) (judged_here s)

abbrev pub hot_acts : AutopsyView → List Act
hot_acts s = told_if (is_hotplugged s) (Hot s.place (probe_limit_of s.probes s.clock))

-- the last act of a place's autopsy
abbrev pub action_act : AutopsyView → Act
action_act s = Action s.place (record { 0 = all_kinds s }) (action_of s)

-- the acts of a place's autopsy, but the last
abbrev pub before_action : AutopsyView → List Act
before_action s = judged_acts s ++ recorded_acts s ++ hot_acts s

module _ (kind : Act → Bool) where
  recorded_all : (s : AutopsyView) → HasAutopsy kind s.place → list_all kind (recorded_acts s) ≡ true
  recorded_all s has =
      all_if kind (is_recorded s) (recording_acts s (verdict_at s) (speed_action s)) []
      (all_more kind _ _ (has.recorded (has_io s) s.dubious (record { 0 = all_kinds s }) (verdict_at s).ncq_off (verdict_at s).speed_down (verdict_at s).pio (verdict_at s).keep (speed_action s))
      (all_told kind (has_effect (speed_action s) && not (verdict_at s).keep) _ has.cleared))
      refl

  pub all_before_action : (s : AutopsyView) → HasAutopsy kind s.place → list_all kind (before_action s) ≡ true
  all_before_action s has =
      all_append kind (map (λ issue. Judged issue.flight.number (record { 0 = issue.kinds })) (judged_here s) ++ recorded_acts s) _
      (all_append kind (map (λ issue. Judged issue.flight.number (record { 0 = issue.kinds })) (judged_here s)) (recorded_acts s)
      (all_map kind (λ (issue : JudgedIssue). Judged issue.flight.number (record { 0 = issue.kinds })) (λ issue. has.judged issue.flight.number (record { 0 = issue.kinds })) (judged_here s))
      (recorded_all s has))
      (all_told kind (is_hotplugged s) _ (has.hot (probe_limit_of s.probes s.clock)))

  pub all_examined :
      (s : AutopsyView) → HasAutopsy kind s.place → ((kinds : ErrMask) (chosen : LinkAction) → kind (Action s.place kinds chosen) ≡ true)
      → list_all kind (examined_acts s) ≡ true
  all_examined s has action =
      all_if kind (is_examined s) (autopsy_of s) []
      (all_append kind (before_action s) (Action s.place (record { 0 = all_kinds s }) (action_of s) ∷ []) (all_before_action s has)
      (all_more kind _ [] (action (record { 0 = all_kinds s }) (action_of s)) refl))
      refl

  pub flat_range :
      (f : ℕ → List Act) (from n : ℕ) → ((x : ℕ) → from ≤ x → x < from + n → list_all kind (f x) ≡ true)
      → list_all kind (flat_map f (range_with_len from n)) ≡ true
  flat_range f from zero each = refl
  flat_range f from (suc n) each =
      all_append kind (f from) (flat_map f (range_with_len (from + 1) n)) (each from (omega arith) (omega arith))
      (flat_range f (from + 1) n (λ x low high. each x (omega (arith, low)) (omega (arith, high))))

  -- the acts of all places
  pub all_places :
      (head : PortHead) (past : List Event)
      → ((place : ℕ) → place < head.places → HasAutopsy kind place)
      → ((place : ℕ) (kinds : ErrMask) (chosen : LinkAction) → place < head.places → kind (Action place kinds chosen) ≡ true)
      → list_all kind (flat_map (λ place. examined_acts (autopsy_view head past place)) (places_of head)) ≡ true
  all_places head past has action =
      flat_range (λ place. examined_acts (autopsy_view head past place)) 0 head.places
      (λ x low high. all_examined (autopsy_view head past x) (has x (omega (arith, high))) (λ k r. action x k r (omega (arith, high))))

-- an act that says nothing of what to do
abbrev pub is_no_action : Act → Bool
is_no_action (Judged number kinds) = true
is_no_action (Recorded place io dubious kinds ncq_off speed_down pio keep action) = true
is_no_action (Cleared place) = true
is_no_action (Hot place generation) = true
is_no_action act = false

actions_step : (past : List Event) (act : Act) → is_no_action act ≡ true → actions (Told act ∷ past) ≡ actions past
actions_step past (Judged number kinds) is = refl
actions_step past (Recorded place io dubious kinds ncq_off speed_down pio keep action) is = refl
actions_step past (Cleared place) is = refl
actions_step past (Hot place generation) is = refl
actions_step past act is = absurd (cc)

-- a place's autopsy says what to do there
pub actions_told :
    (past : List Event) (s : AutopsyView)
    → actions (onto past (autopsy_of s)) ≡ slice_set (actions past) s.place (Some (action_of s))
actions_told past s =
    ap actions (onto_append past (before_action s) (Action s.place (record { 0 = all_kinds s }) (action_of s) ∷ []))
    ∙ ap (λ r. slice_set r s.place (Some (action_of s)))
    (left_alone is_no_action actions actions_step past (before_action s)
    (all_before_action is_no_action s (record { judged = λ n k. refl; recorded = λ i d k n s o e a. refl; cleared = refl; hot = λ g. refl })))
