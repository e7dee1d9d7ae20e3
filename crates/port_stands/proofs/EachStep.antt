-- Of which kinds the acts of each step are, by one fact a constructor.
use Rattle.std.proofs.Common.{◌≡◌, ℕ, Bool, true, List, [], ◌∷◌, ◌⊎◌, inl, inr, refl, sym, subst}
use Rattle.std.specs.List.{list_all}
use Rattle.ata_base.specs.declared.issue_no.IssueNo.{IssueNo}
use Rattle.ata_base.specs.declared.ms.Ms.{Ms}
use Rattle.ata_script.specs.declared.port_head.PortHead.{PortHead}
use Rattle.ata_trace.specs.Event.{Event}
use Rattle.ata_trace.specs.declared.act.Act.{Act}
use Rattle.ata_trace.specs.declared.act.Act.TheVariants.{Accepted, Refused, Deferred, Exclusive, Issued, Done, Raised, Lost, Now, Plugged, Unplugged, Injected, AnsweredNodev, Condemned, Frozen, Requested, Expired, Drained, Nothing}
use Rattle.ata_base.specs.declared.deferral.Deferral.{Deferral}
use Rattle.ata_trace.specs.declared.refusal.Refusal.{Refusal}
use Rattle.ata_trace.specs.declared.step.Step.{Step}
use Rattle.ata_trace.specs.declared.step.Step.TheVariants.{Submit, Kick, Work, Irq, Drop, Stray, Tick, Expire, Recover, Plug, Unplug, Inject, Boot}
use Rattle.host_tags.specs.declared.in_flight.InFlight.{InFlight}
use Rattle.port_past.specs.declared.completion.Completion.{Completion}
use Rattle.port_rules.specs.Sorting.{ok_act}
use Rattle.port_rules.specs.Interrupt.{no_kinds}
use Rattle.port_rules.specs.Kick.{kick_acts}
use Rattle.port_rules.specs.Legal.{legal_acts}
use Rattle.port_stands.proofs.Blocks.{all_wider}
use Rattle.port_stands.proofs.Kicks.{is_wait, kick_does}
use Rattle.port_stands.proofs.Kicks.KickDoes.{Waits, Gone, Issues}
use Rattle.port_stands.proofs.StandingKinds.{all_irq, all_expire}
use Rattle.port_stands.proofs.Steps.{all_submit, all_work, all_drop, all_stray, all_tick, all_plug, all_unplug, all_inject}

-- a kind of which each act of a kick is
pub record HasKick (kind : Act → Bool) : Type 0 where
  pub nothing : kind Nothing ≡ true
  pub deferred : (id : ℕ) (why : Deferral) → kind (Deferred id why) ≡ true
  pub exclusive : (place : ℕ) → kind (Exclusive place) ≡ true
  pub gone : (id : ℕ) → kind (AnsweredNodev id (record { n = 0 })) ≡ true
  pub issued : (id : ℕ) (number : IssueNo) (tag : ℕ) (deadline : Ms) (fis : List ℕ) → kind (Issued id number tag deadline fis) ≡ true

-- a kind of which each act of a step is, but for kicks and recovery
pub record HasSteps (kind : Act → Bool) : Type 0 where
  pub nothing : kind Nothing ≡ true
  pub accepted : (id : ℕ) → kind (Accepted id) ≡ true
  pub refused : (id : ℕ) (why : Refusal) → kind (Refused id why) ≡ true
  pub done : (number : IssueNo) (status error lba count : ℕ) → kind (Done number status error lba count) ≡ true
  pub raised : kind Raised ≡ true
  pub lost : kind Lost ≡ true
  pub now : (at : Ms) → kind (Now at) ≡ true
  pub plugged : (place drive : ℕ) → kind (Plugged place drive) ≡ true
  pub unplugged : (place : ℕ) → kind (Unplugged place) ≡ true
  pub injected : (place : ℕ) → kind (Injected place) ≡ true
  pub answered : (f : InFlight) (end : Completion) → kind (ok_act f end) ≡ true
  pub condemned : (f : InFlight) → kind (Condemned f.number no_kinds) ≡ true
  pub frozen : kind Frozen ≡ true
  pub requested : kind Requested ≡ true
  pub expired : (f : InFlight) → kind (Expired f.id f.number) ≡ true
  pub drained : kind Drained ≡ true

wait_of : (kind : Act → Bool) → HasKick kind → (act : Act) → is_wait act ≡ true → kind act ≡ true
wait_of kind has Nothing is = has.nothing
wait_of kind has (Deferred id why) is = has.deferred id why
wait_of kind has (Exclusive place) is = has.exclusive place
wait_of kind has act is = absurd (cc)

one_of : (kind : Act → Bool) (act : Act) → kind act ≡ true → list_all kind (act ∷ []) ≡ true
one_of kind act is = rw is

-- the acts of a kick
pub all_kick : (kind : Act → Bool) → HasKick kind → (head : PortHead) (past : List Event) (place : ℕ) → list_all kind (kick_acts head past place) ≡ true
all_kick kind has head past place = elim (kick_does head past place) [
  | Waits all ↦ all_wider is_wait kind (wait_of kind has) (kick_acts head past place) all
  | Gone answer ↦ subst (λ a. list_all kind a ≡ true) (sym answer.told) (one_of kind (AnsweredNodev answer.cmd.id (record { n = 0 })) (has.gone answer.cmd.id))
  | Issues issue ↦ subst (λ a. list_all kind a ≡ true) (sym issue.told) (one_of kind _ (has.issued issue.cmd.id _ issue.tag _ _))
]

-- a step recovers, or its acts are of the kind
pub all_step :
    (kind : Act → Bool) → HasSteps kind → HasKick kind → (head : PortHead) (past : List Event) (step : Step)
    → (step ≡ Recover) ⊎ (list_all kind (legal_acts head past step) ≡ true)
all_step kind has kick head past (Submit id place op allow wait) = inr (all_submit kind head past id place op (has.accepted id) (λ r. has.refused id r))
all_step kind has kick head past (Kick place) = inr (all_kick kind kick head past place)
all_step kind has kick head past (Work place pick) = inr (all_work kind head past place pick has.nothing has.raised (λ n s e l c. has.done n s e l c))
all_step kind has kick head past Irq = inr (all_irq kind head past has.answered has.condemned has.frozen has.requested has.nothing)
all_step kind has kick head past Drop = inr (all_drop kind past has.nothing has.lost)
all_step kind has kick head past (Stray tag) = inr (all_stray kind past has.nothing has.raised)
all_step kind has kick head past (Tick ms) = inr (all_tick kind past ms has.nothing has.now)
all_step kind has kick head past Expire = inr (all_expire kind head past has.expired has.drained has.requested has.nothing)
all_step kind has kick head past Recover = inl refl
all_step kind has kick head past (Plug place drive) = inr (all_plug kind head past place drive has.nothing has.raised (has.plugged place drive))
all_step kind has kick head past (Unplug place) = inr (all_unplug kind head past place has.nothing has.raised (has.unplugged place))
all_step kind has kick head past (Inject place fault) = inr (all_inject kind head past place fault has.nothing has.raised (has.injected place))
all_step kind has kick head past Boot = inr (one_of kind Nothing has.nothing)
