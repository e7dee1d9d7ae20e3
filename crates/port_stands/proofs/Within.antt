-- What is told of a place is told of one that the port has.
use Rattle.std.proofs.Common.{◌≡◌, ◌∙◌, ℕ, ◌+◌, ◌<◌, Bool, true, false, ◌&&◌, ◌||◌, nat_lt, List, [], ◌∷◌, Option, None, Some, ◌⊎◌, inl, inr, suc, zero, replicate, slice_set, refl, sym, ap, subst, arith, if◌then◌else◌}
use Rattle.std.specs.Prelude.{slice_index_or}
use Rattle.std.specs.List.{list_all}
use Rattle.std.proofs.lemmas.Bool.{ltb-true}
use Rattle.ata_base.specs.declared.cmd.Cmd.{Cmd}
use Rattle.ata_base.specs.declared.op.Op.{Op}
use Rattle.ata_script.specs.declared.port_head.PortHead.{PortHead}
use Rattle.ata_trace.specs.Event.{Event, onto}
use Rattle.ata_trace.specs.Event.Event.{Entered, Told}
use Rattle.ata_trace.specs.declared.act.Act.{Act}
use Rattle.ata_trace.specs.declared.act.Act.TheVariants.{Accepted, Refused, Retried, Attached, Detached, Disabled, Hot, Action, Begun, Autopsied}
use Rattle.ata_trace.specs.declared.refusal.Refusal.{Refusal}
use Rattle.ata_base.specs.declared.link_action.LinkAction.{LinkAction}
use Rattle.ata_base.specs.declared.link_action.LinkAction.TheVariants.{NoAction, Revalidate, Reset}
use Rattle.ata_trace.specs.declared.step.Step.{Step}
use Rattle.ata_trace.specs.declared.step.Step.TheVariants.{Submit}
use Rattle.ata_trace.specs.declared.who.Who.{Who}
use Rattle.port_past.specs.Commands.{commands}
use Rattle.port_past.specs.Attachment.{attached}
use Rattle.port_past.specs.PortState.{is_frozen}
use Rattle.port_past.specs.Hot.{was_hot}
use Rattle.port_past.specs.Tasks.{actions, with_action, action_tasks, reset_tasks, tasks_made}
use Rattle.port_past.specs.declared.task.Task.TheVariants.{Reset as ResetOf}
use Rattle.port_rules.specs.Submit.{refusal_of, refused_or_accepted, submit_acts}
use Rattle.ata_base.proofs.Truth.{both}
use Rattle.port_stands.proofs.Known.{accepted_fits}
use Rattle.ata_base.proofs.EachLemmas.{every_append}
use Rattle.ata_base.specs.Each.{Each}
use Rattle.port_stands.specs.Within.{IsTaskOf, IsWithin}
use Rattle.port_past.proofs.KnownCommands.{places_counted}

-- what is read of a list in which one was written: that one there, or what was
pub read_put :
    {A : Type 0} (xs : List A) (i j : ℕ) (x d : A)
    → ((j ≡ i) × (slice_index_or (slice_set xs i x) j d ≡ x)) ⊎ (slice_index_or (slice_set xs i x) j d ≡ slice_index_or xs j d)
read_put [] i j x d = inr refl
read_put (y ∷ xs) zero zero x d = inl (refl, refl)
read_put (y ∷ xs) zero (suc j) x d = inr refl
read_put (y ∷ xs) (suc i) zero x d = inr refl
read_put (y ∷ xs) (suc i) (suc j) x d =
    elim (read_put xs i j x d) [
      | inl here ↦ inl (ap suc here.0, here.1)
      | inr there ↦ inr there
    ]

-- the same, and that the default stood at a position that the list doesn't have
pub read_written_at :
    {A : Type 0} (xs : List A) (i j : ℕ) (x d : A)
    → ((j ≡ i) × (slice_index_or (slice_set xs i x) j d ≡ x))
    ⊎ ((slice_index_or (slice_set xs i x) j d ≡ slice_index_or xs j d) × (j ≡ i → slice_index_or xs j d ≡ d))
read_written_at [] i j x d = inr (refl, λ e. refl)
read_written_at (y ∷ xs) zero zero x d = inl (refl, refl)
read_written_at (y ∷ xs) zero (suc j) x d = inr (refl, λ e. absurd (cc))
read_written_at (y ∷ xs) (suc i) zero x d = inr (refl, λ e. absurd (cc))
read_written_at (y ∷ xs) (suc i) (suc j) x d =
    elim (read_written_at xs i j x d) [
      | inl here ↦ inl (ap suc here.0, here.1)
      | inr there ↦ inr (there.0, λ e. there.1 (omega (arith, e)))
    ]

pub read_same : {A : Type 0} (n i : ℕ) (x : A) → slice_index_or (replicate n x) i x ≡ x
read_same zero i x = refl
read_same (suc n) zero x = refl
read_same (suc n) (suc i) x = read_same n i x

reset_within :
    (n k : ℕ) (attached was_hot : List Bool)
    → ((p : ℕ) → slice_index_or attached p false ≡ true → k + p < n) → ((p : ℕ) → slice_index_or was_hot p false ≡ true → k + p < n)
    → Each (IsTaskOf n) (reset_tasks k attached was_hot)
reset_within n k [] was_hot a h = tt
reset_within n k (x ∷ attached) [] a h = tt
reset_within n k (x ∷ attached) (y ∷ was_hot) a h =
    here_by x y (a 0) (h 0)
    (reset_within n (k + 1) attached was_hot (λ p is. omega (arith, a (suc p) is)) (λ p is. omega (arith, h (suc p) is)))
  where
    here_by : (b c : Bool) → (b ≡ true → k + 0 < n) → (c ≡ true → k + 0 < n) → Each (IsTaskOf n) (reset_tasks (k + 1) attached was_hot)
        → Each (IsTaskOf n) (if b || c then ResetOf k ∷ reset_tasks (k + 1) attached was_hot else reset_tasks (k + 1) attached was_hot)
    here_by true c a h rest = (omega (arith, a refl), rest)
    here_by false true a h rest = (omega (arith, h refl), rest)
    here_by false false a h rest = rest

chosen_within :
    (n k : ℕ) (said : List (Option LinkAction)) → ((p : ℕ) (r : LinkAction) → slice_index_or said p None ≡ Some r → k + p < n)
    → Each (IsTaskOf n) (action_tasks k said)
chosen_within n k [] s = tt
chosen_within n k (x ∷ said) s = here_by x (s 0) (chosen_within n (k + 1) said (λ p r is. omega (arith, s (suc p) r is)))
  where
    here_by : (x : Option LinkAction) → ((r : LinkAction) → x ≡ Some r → k + 0 < n) → Each (IsTaskOf n) (action_tasks (k + 1) said)
        → Each (IsTaskOf n) (with_action k x (action_tasks (k + 1) said))
    here_by None s rest = rest
    here_by (Some NoAction) s rest = rest
    here_by (Some Revalidate) s rest = (omega (arith, s Revalidate refl), rest)
    here_by (Some Reset) s rest = (omega (arith, s Reset refl), rest)

made_within :
    (n : ℕ) (whole : Bool) (attached was_hot : List Bool) (said : List (Option LinkAction))
    → ((p : ℕ) → slice_index_or attached p false ≡ true → p < n) → ((p : ℕ) → slice_index_or was_hot p false ≡ true → p < n)
    → ((p : ℕ) (r : LinkAction) → slice_index_or said p None ≡ Some r → p < n)
    → Each (IsTaskOf n) (tasks_made whole attached was_hot said)
made_within n true attached was_hot said a h s = (tt, reset_within n 0 attached was_hot (λ p is. omega (arith, a p is)) (λ p is. omega (arith, h p is)))
made_within n false attached was_hot said a h s = chosen_within n 0 said (λ p r is. omega (arith, s p r is))

-- an act that tells something of no place but those of the port
abbrev pub is_fit : ℕ → Act → Bool
is_fit places (Attached place) = nat_lt place places
is_fit places (Hot place generation) = nat_lt place places
is_fit places (Action place kinds chosen) = nat_lt place places
is_fit places (Accepted id) = false
is_fit places act = true

module _ (head : PortHead) (past : List Event) (was : IsWithin head past) where
  set_true :
      (xs : List Bool) (at : ℕ) (x : Bool) → (x ≡ true → at < head.places)
      → ((p : ℕ) → slice_index_or xs p false ≡ true → p < head.places)
      → (p : ℕ) → slice_index_or (slice_set xs at x) p false ≡ true → p < head.places
  set_true xs at x new old p is =
      elim (read_put xs at p x false) [
        | inl here ↦ subst (λ i. i < head.places) (sym here.0) (new (sym here.1 ∙ is))
        | inr there ↦ old p (sym there ∙ is)
      ]

  set_told :
      (xs : List (Option LinkAction)) (at : ℕ) (r : LinkAction) → at < head.places
      → ((p : ℕ) (s : LinkAction) → slice_index_or xs p None ≡ Some s → p < head.places)
      → (p : ℕ) (s : LinkAction) → slice_index_or (slice_set xs at (Some r)) p None ≡ Some s → p < head.places
  set_told xs at r new old p s is =
      elim (read_put xs at p (Some r) None) [
        | inl here ↦ subst (λ i. i < head.places) (sym here.0) new
        | inr there ↦ old p s (sym there ∙ is)
      ]

  pub within_step : (act : Act) → is_fit head.places act ≡ true → IsWithin head (Told act ∷ past)
  within_step (Accepted id) fit = absurd (cc)
  within_step (Attached place) fit = record {
    attached = set_true (attached past) place true (λ e. ltb-true place head.places fit) was.attached;
    hot = was.hot;
    actions = was.actions;
    tasks = was.tasks;
    commands = was.commands;
  }
  within_step (Detached place) fit = record {
    attached = set_true (attached past) place false (λ e. absurd (cc)) was.attached;
    hot = was.hot;
    actions = was.actions;
    tasks = was.tasks;
    commands = was.commands;
  }
  within_step (Disabled place) fit = record {
    attached = set_true (attached past) place false (λ e. absurd (cc)) was.attached;
    hot = was.hot;
    actions = was.actions;
    tasks = was.tasks;
    commands = was.commands;
  }
  within_step (Hot place generation) fit = record {
    attached = was.attached;
    hot = set_true (was_hot past) place true (λ e. ltb-true place head.places fit) was.hot;
    actions = was.actions;
    tasks = was.tasks;
    commands = was.commands;
  }
  within_step (Action place kinds chosen) fit = record {
    attached = was.attached;
    hot = was.hot;
    actions = set_told (actions past) place chosen (ltb-true place head.places fit) was.actions;
    tasks = was.tasks;
    commands = was.commands;
  }
  within_step Begun fit = record {
    attached = was.attached;
    hot = λ p is. absurd (cc (is, read_same 15 p false));
    actions = λ p r is. absurd (cc (is, read_same {A = Option LinkAction} 15 p None));
    tasks = tt;
    commands = was.commands;
  }
  within_step Autopsied fit = record {
    attached = was.attached;
    hot = was.hot;
    actions = was.actions;
    tasks = made_within head.places (head.pmp && is_frozen past) (attached past) (was_hot past) (actions past) was.attached was.hot was.actions;
    commands = was.commands;
  }
  within_step (Retried id number raised) fit = record {
    attached = was.attached;
    hot = was.hot;
    actions = was.actions;
    tasks = was.tasks;
    commands = places_counted head.places id raised (commands past) was.commands;
  }
  within_step act fit = record { attached = was.attached; hot = was.hot; actions = was.actions; tasks = was.tasks; commands = was.commands }

  pub within_begun : (time : ℕ) (who : Who) (seq : ℕ) (step : Step) → IsWithin head (Entered time who seq step ∷ past)
  within_begun time who seq step = record { attached = was.attached; hot = was.hot; actions = was.actions; tasks = was.tasks; commands = was.commands }

pub within_onto : (head : PortHead) (past : List Event) (acts : List Act) → list_all (is_fit head.places) acts ≡ true → IsWithin head past → IsWithin head (onto past acts)
within_onto head past [] all was = was
within_onto head past (act ∷ rest) all was =
    let parts = both (is_fit head.places act) (list_all (is_fit head.places) rest) all in
    within_onto head (Told act ∷ past) rest parts.1 (within_step head past was act parts.0)

module _ (head : PortHead) (past : List Event) (time : ℕ) (who : Who) (seq : ℕ) where
  pub within_entry :
      (step : Step) (acts : List Act) → list_all (is_fit head.places) acts ≡ true → IsWithin head past
      → IsWithin head (onto (Entered time who seq step ∷ past) acts)
  within_entry step acts all was =
      within_onto head (Entered time who seq step ∷ past) acts all (within_begun head past was time who seq step)

  accepted_within :
      (id place : ℕ) (op : Op) (allow wait : ℕ) (why : Option Refusal) → refusal_of past id place op ≡ why → IsWithin head past
      → IsWithin head (onto (Entered time who seq (Submit id place op allow wait) ∷ past) (refused_or_accepted id why))
  accepted_within id place op allow wait (Some why) is was = within_entry (Submit id place op allow wait) (Refused id why ∷ []) refl was
  accepted_within id place op allow wait None is was = record {
    attached = was.attached;
    hot = was.hot;
    actions = was.actions;
    tasks = was.tasks;
    commands = every_append (λ (c : Cmd). c.place < head.places) (commands past) _ was.commands
        (was.attached place (accepted_fits head past id place op is).1, tt);
  }

  pub submit_within :
      (id place : ℕ) (op : Op) (allow wait : ℕ) → IsWithin head past
      → IsWithin head (onto (Entered time who seq (Submit id place op allow wait) ∷ past) (submit_acts past id place op))
  submit_within id place op allow wait was = accepted_within id place op allow wait (refusal_of past id place op) refl was
