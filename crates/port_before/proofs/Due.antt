-- Where a port never gave up waiting, an issue is due by its deadline.
use Rattle.std.proofs.Common.{◌≡◌, ◌∙◌, ℕ, ◌+◌, Bool, true, false, not, ◌&&◌, ◌||◌, nat_le, nat_lt, min, List, [], ◌∷◌, ◌++◌, Option, None, Some, filter, filter_map, position, length, cond, refl, ap, append-nil, if◌then◌else◌}
use Rattle.std.specs.List.{list_any, reduce, cons_option, position_or_len}
use Rattle.ata_base.proofs.Truth.{or_none}
use Rattle.ata_script.specs.declared.port_head.PortHead.{PortHead}
use Rattle.ata_trace.specs.Event.{Event}
use Rattle.ata_trace.specs.declared.act.Act.TheVariants.{Drained, Expired}
use Rattle.eh_flow.specs.Table.{recovery_row}
use Rattle.host_tags.specs.Slots.{is_unowned}
use Rattle.host_tags.specs.declared.in_flight.InFlight.{InFlight}
use Rattle.host_timer.specs.Coming.{deadline_in, waited_times}
use Rattle.host_timer.specs.Due.{drain_time}
use Rattle.port_before.specs.BeforeDrain.{coming_before_drain, expire_acts_before_drain, is_ahead, overdue_act, overdue_acts, recover_acts_before_drain}
use Rattle.port_past.specs.Clock.{clock}
use Rattle.port_past.specs.Drain.{drained_since, is_drained, quiet_since}
use Rattle.port_past.specs.PortState.{is_asked}
use Rattle.port_past.specs.Slots.{slots}
use Rattle.port_rules.specs.Begin.{is_awaited}
use Rattle.port_rules.specs.Coming.{coming, phase_times}
use Rattle.port_rules.specs.Observing.{observed}
use Rattle.port_rules.specs.Phase.{phase}
use Rattle.port_rules.specs.Recover.{recover_acts, some_row_acts}
use Rattle.port_rules.specs.Time.{expire_acts, expiries, has_drain_come, waits_for_drain, with_request}
use Rattle.port_rules.specs.Told.{or_nothing, told_if}

-- ---- one issue and all of them

overdue_same : (now : ℕ) (flights : List (Option InFlight)) → expiries now false flights ≡ overdue_acts now flights
overdue_same now [] = refl
overdue_same now (None ∷ flights) = overdue_same now flights
overdue_same now (Some f ∷ flights) =
    ap (λ late. cons_option (if (not f.owned && late) && not f.expired then Some (Expired f.id f.number) else None) (expiries now false flights))
    (or_none (nat_le f.deadline.n now))
    ∙ ap (cons_option (overdue_act now (Some f))) (overdue_same now flights)

ahead_by : (owned late : Bool) → (not owned && not (not owned && (late || false))) ≡ (not owned && not late)
ahead_by true late = refl
ahead_by false late = ap not (or_none late)

ahead_same : (now : ℕ) (slot : Option InFlight) → is_awaited now false slot ≡ is_ahead now slot
ahead_same now None = refl
ahead_same now (Some f) = ahead_by f.owned (nat_le f.deadline.n now)

-- tests that agree stop at the same place
first_same :
    {A : Type 0} (test other : A → Bool) → ((x : A) → test x ≡ other x) → (xs : List A)
    → position_or_len test xs ≡ position_or_len other xs
first_same test other agree [] = refl
first_same test other agree (x ∷ xs) =
    ap (λ b. cond (not b) (1 + position_or_len test xs) 0) (agree x)
    ∙ ap (λ n. cond (not (other x)) (1 + n) 0) (first_same test other agree xs)

position_same :
    {A : Type 0} (test other : A → Bool) → ((x : A) → test x ≡ other x) → (xs : List A) → position test xs ≡ position other xs
position_same test other agree xs =
    ap (λ n. cond (nat_lt n (length xs)) (Some n) None) (first_same test other agree xs)

-- ---- the timer, recovery and the coming time

module _ (head : PortHead) (drain : head.drain ≡ false) (past : List Event) where
  never_waits : waits_for_drain head past ≡ false
  never_waits = ap (λ b. b && is_asked past && list_any is_unowned (slots past) && not (drained_since past)) drain

  never_comes : has_drain_come head past ≡ false
  never_comes = ap (λ b. b && nat_le (drain_time (quiet_since past)) (clock past)) never_waits

  pub expire_same : is_drained past ≡ false → expire_acts head past ≡ expire_acts_before_drain past
  expire_same never =
      ap (λ b. or_nothing (told_if b Drained ++ with_request (is_asked past) (expiries (clock past) (b || is_drained past) (slots past)))) never_comes
      ∙ ap (λ b. or_nothing (with_request (is_asked past) (expiries (clock past) b (slots past)))) never
      ∙ ap (λ acts. or_nothing (with_request (is_asked past) acts)) (overdue_same (clock past) (slots past))

  pub coming_same : coming head past ≡ coming_before_drain head past
  coming_same =
      ap (λ (b : Bool). reduce min (filter (nat_lt (clock past))
      (waited_times (if b then Some (quiet_since past) else None) (slots past) ++ phase_times head past (phase head past)))) never_waits
      ∙ ap (λ times. reduce min (filter (nat_lt (clock past)) (times ++ phase_times head past (phase head past)))) (append-nil (filter_map deadline_in (slots past)))

module _ (head : PortHead) (past : List Event) where
  pub recover_same : is_drained past ≡ false → recover_acts head past ≡ recover_acts_before_drain head past
  recover_same never =
      ap (λ (first : Option ℕ). some_row_acts head past (recovery_row (phase head past) (record (observed head past (phase head past)) { waiting = first })))
      (ap (λ b. position (is_awaited (clock past) b) (slots past)) never
      ∙ position_same (is_awaited (clock past) false) (is_ahead (clock past)) (ahead_same (clock past)) (slots past))
