-- A round of the settling.
use Rattle.std.proofs.Common.{◌⊎◌, inl, inr, ◌≡◌, ◌∙◌, ℕ, ◌+◌, ◌<◌, ◌≤◌, ◌==◌, ◌&&◌, Bool, true, false, not, List, [], ◌∷◌, ◌++◌, map, Option, None, Some, suc, zero, slice_get, refl, sym, ap, subst, arith, append_assoc}
use Rattle.std.proofs.lemmas.Bool.{eq-eqb}
use Rattle.std.specs.List.{list_any, list_all, range_with_len}
use Rattle.ata_base.specs.declared.cmd.Cmd.{Cmd}
use Rattle.ata_script.specs.declared.port_head.PortHead.{PortHead}
use Rattle.ata_trace.specs.Entries.{EntryView, grown, past_from}
use Rattle.ata_trace.specs.Event.{Event}
use Rattle.ata_trace.specs.declared.step.Step.TheVariants.{Kick, Work, Irq, Expire, Recover}
use Rattle.ata_trace.specs.declared.step.Step.{Step}
use Rattle.ata_trace.specs.declared.who.Who.TheVariants.{Settle}
use Rattle.host_defer.specs.Obstacles.{is_taken}
use Rattle.host_queue.specs.Waiting.{waiting_at}
use Rattle.host_tags.specs.Slots.{flight_at}
use Rattle.host_tags.specs.declared.in_flight.InFlight.{InFlight}
use Rattle.port_calm.proofs.Kicking.{Ready, Kicked, kicked}
use Rattle.ata_base.proofs.EachLemmas.{every_at}
use Rattle.port_calm.proofs.Resting.{expire_goes, recover_goes}
use Rattle.port_calm.proofs.Serving.{served}
use Rattle.port_calm.proofs.Sight.{IsWaiting, FliesAny, WaitsAt, Waits, Flies, end_at}
use Rattle.port_calm.proofs.Slots.{same_or_not}
use Rattle.port_calm.proofs.Standing.{Stands, Goes, total}
use Rattle.port_calm.proofs.Working.{DoneAny, HoldsAny, Worked, worked}
use Rattle.port_calm.specs.Calm.{is_calm_step, AreCalm, is_among}
use Rattle.port_past.specs.Clock.{clock}
use Rattle.port_past.specs.Commands.{commands}
use Rattle.port_past.specs.Attachment.{attached, detachments}
use Rattle.port_past.specs.Completions.{completions}
use Rattle.port_past.specs.Exclusive.{exclusive}
use Rattle.port_past.specs.Live.{live}
use Rattle.port_past.specs.Queues.{queues}
use Rattle.port_past.specs.Slots.{slots}
use Rattle.port_past.specs.declared.completion.Completion.{Completion}
use Rattle.port_past.specs.Heads.{places_of}
use Rattle.port_rules.specs.Legal.{entry_after}
use Rattle.port_rules.specs.Run.{run_from}
use Rattle.port_rules.specs.Settle.{round_steps, calls_from, is_idle_act, are_idle}

-- a round: the port stands, a command less is open, something was done, and nothing disturbs
pub record Round (head : PortHead) (past : List Event) (entries : List EntryView) : Type 0 where
  pub stands : Stands head (past_from past entries)
  pub same : commands (past_from past entries) ≡ commands past
  pub less : total (past_from past entries) + 1 ≤ total past
  pub busy : are_idle entries ≡ false
  pub calm : AreCalm entries

-- a place is one of these
abbrev IsIn : ℕ → List ℕ → Type 0
IsIn x [] = ⊥
IsIn x (p ∷ places) = (x ≡ p) ⊎ IsIn x places

in_range : (a n x : ℕ) → a ≤ x → x < a + n → IsIn x (range_with_len a n)
in_range a zero x from to = absurd (omega arith)
in_range a (suc n) x from to =
    elim (same_or_not x a) [
      | inl same ↦ inl same
      | inr other ↦ inr (in_range (a + 1) n x (omega (arith, other)) (omega arith))
    ]

idle_later : (b c : Bool) → c ≡ false → (b && c) ≡ false
idle_later true c is = is
idle_later false c is = refl

-- an entry before a round's rest
before :
    (head : PortHead) (past : List Event) (e : EntryView) (entries : List EntryView) → is_calm_step e.step ≡ true
    → Goes head past (grown past e) → Round head (grown past e) entries → Round head past (e ∷ entries)
before head past e entries calm g r = record {
  stands = r.stands;
  same = r.same ∙ g.same;
  less = omega (arith, r.less, g.fewer);
  busy = idle_later (list_all is_idle_act e.acts) (are_idle entries) r.busy;
  calm = (calm, r.calm);
}

module _ (head : PortHead) where
  -- the entry that a step of the settling makes
  abbrev entry : List Event → ℕ → Step → EntryView
  entry past seq step = entry_after head past Settle seq step

  serving :
      (past : List Event) (seq : ℕ) → Stands head past → DoneAny (slots past) (completions head past)
      → Round head past (run_from head past (calls_from seq (Irq ∷ Expire ∷ Recover ∷ [])))
  serving past seq h d =
      let one = served head past h (clock past) Settle seq in
      let after_irq = grown past (entry past seq Irq) in
      let two = expire_goes head after_irq one.goes.stands (clock after_irq) Settle (seq + 1) in
      let after_expire = grown after_irq (entry after_irq (seq + 1) Expire) in
      let three = recover_goes head after_expire two.stands (clock after_expire) Settle (seq + 1 + 1) in
      record {
        stands = three.stands;
        same = three.same ∙ two.same ∙ one.goes.same;
        less = omega (arith, one.less d, two.fewer, three.fewer);
        busy = busy_by _ _ (one.busy d);
        calm = (refl, (refl, (refl, tt)));
      } where
        busy_by : (b c : Bool) → b ≡ false → (b && c) ≡ false
        busy_by true c is = absurd (cc)
        busy_by false c is = refl

  working :
      (places : List ℕ) (past : List Event) (seq : ℕ) → Stands head past
      → (DoneAny (slots past) (completions head past) ⊎ ((x : ℕ) × (HoldsAny head past x × IsIn x places)))
      → Round head past (run_from head past (calls_from seq (map (λ (place : ℕ). Work place 0) places ++ Irq ∷ Expire ∷ Recover ∷ [])))
  working [] past seq h (inl d) = serving past seq h d
  working [] past seq h (inr some) = absurd some.1.1
  working (p ∷ places) past seq h some =
      let w = worked head past h (clock past) Settle seq p 0 in
      let after = grown past (entry past seq (Work p 0)) in
      before head past (entry past seq (Work p 0)) _ refl w.goes
      (working places after (seq + 1) w.goes.stands (on w some)) where
        on :
            Worked head past (grown past (entry past seq (Work p 0))) p
            → (DoneAny (slots past) (completions head past) ⊎ ((x : ℕ) × (HoldsAny head past x × IsIn x (p ∷ places))))
            → DoneAny (slots (grown past (entry past seq (Work p 0)))) (completions head (grown past (entry past seq (Work p 0))))
            ⊎ ((x : ℕ) × (HoldsAny head (grown past (entry past seq (Work p 0))) x × IsIn x places))
        on w (inl d) = inl (w.keeps d)
        on w (inr one) = elim (w.hope one.0 one.1.0) [
          | inl d ↦ inl d
          | inr k ↦ elim one.1.1 [
            | inl same ↦ absurd (k.1 same)
            | inr later ↦ inr (one.0, (k.0, later))
          ]
        ]

  -- an issue in flight is completed, or held by its drive
  flying :
      (past : List Event) → Stands head past → FliesAny (slots past)
      → DoneAny (slots past) (completions head past) ⊎ ((x : ℕ) × (HoldsAny head past x × IsIn x (places_of head)))
  flying past h f = by (end_at (completions head past) f.tag) refl where
    by :
        (end : Option Completion) → end_at (completions head past) f.tag ≡ end
        → DoneAny (slots past) (completions head past) ⊎ ((x : ℕ) × (HoldsAny head past x × IsIn x (places_of head)))
    by (Some e) done = inl (record { tag = f.tag; flight = f.flight; end = e; here = f.here; done = done })
    by None undone =
        let home = h.calm.still.homes f.flight.place (h.calm.flies f.tag f.flight f.here).home in
        inr (
          f.flight.place,
          (
            record { number = f.flight.number.n; is = h.calm.held f.tag f.flight f.here undone },
            in_range 0 head.places f.flight.place (omega arith) (omega (arith, home.place)),
          ),
        )

  kicking :
      (places : List ℕ) (past : List Event) (seq : ℕ) → Stands head past
      → (FliesAny (slots past) ⊎ ((x : ℕ) × (Ready head (queues past) (exclusive past) (slots past) x × IsIn x places)))
      → Round head past
      (run_from head past (calls_from seq
      (map (λ (place : ℕ). Kick place) places ++ (map (λ (place : ℕ). Work place 0) (places_of head) ++ Irq ∷ Expire ∷ Recover ∷ []))))
  kicking [] past seq h (inl f) = working (places_of head) past seq h (flying past h f)
  kicking [] past seq h (inr some) = absurd some.1.1
  kicking (p ∷ places) past seq h some =
      let k = kicked head past h (clock past) Settle seq p in
      let after = grown past (entry past seq (Kick p)) in
      before head past (entry past seq (Kick p)) _ refl k.goes
      (kicking places after (seq + 1) k.goes.stands (on k some)) where
        on :
            Kicked head past (grown past (entry past seq (Kick p))) p
            → (FliesAny (slots past) ⊎ ((x : ℕ) × (Ready head (queues past) (exclusive past) (slots past) x × IsIn x (p ∷ places))))
            → FliesAny (slots (grown past (entry past seq (Kick p))))
            ⊎ ((x : ℕ) × (Ready head (queues (grown past (entry past seq (Kick p)))) (exclusive (grown past (entry past seq (Kick p)))) (slots (grown past (entry past seq (Kick p)))) x × IsIn x places))
        on k (inl f) = inl (k.keeps f)
        on k (inr one) = elim (k.hope one.0 one.1.0) [
          | inl f ↦ inl f
          | inr r ↦ elim one.1.1 [
            | inl same ↦ absurd (r.1 same)
            | inr later ↦ inr (one.0, (r.0, later))
          ]
        ]

  any_or_none :
      (slots : List (Option InFlight)) → FliesAny slots ⊎ ((t : ℕ) (f : InFlight) → flight_at slots t ≡ Some f → ⊥)
  any_or_none [] = inr (λ t f is. cc)
  any_or_none (Some g ∷ slots) = inl (record { tag = 0; flight = g; here = refl })
  any_or_none (None ∷ slots) = later (any_or_none slots) where
    later :
        (FliesAny slots ⊎ ((t : ℕ) (f : InFlight) → flight_at slots t ≡ Some f → ⊥))
        → FliesAny (None ∷ slots) ⊎ ((t : ℕ) (f : InFlight) → flight_at (None ∷ slots) t ≡ Some f → ⊥)
    later (inl f) = inl (record { tag = suc f.tag; flight = f.flight; here = f.here })
    later (inr none) = inr each where
      each : (t : ℕ) (f : InFlight) → flight_at (None ∷ slots) t ≡ Some f → ⊥
      each zero f is = cc
      each (suc t) f is = none t f is

  front_any : (test : Cmd → Bool) (queue : List Cmd) → list_any test queue ≡ true → (c : Cmd) × (slice_get queue 0 ≡ Some c)
  front_any test [] is = absurd (cc)
  front_any test (c ∷ queue) is = (c, refl)

  not_taken : (a b c : Bool) → c ≡ false → (a && b && c) ≡ false
  not_taken true true c is = is
  not_taken true false c is = refl
  not_taken false b c is = refl

  -- where a command is live, one is in flight or ready
  starts :
      (past : List Event) (id : ℕ) → Stands head past → is_among id (live past) ≡ true
      → FliesAny (slots past) ⊎ ((x : ℕ) × (Ready head (queues past) (exclusive past) (slots past) x × IsIn x (places_of head)))
  starts past id h is = by (h.calm.here id is) (any_or_none (slots past)) (exclusive past) refl where
    ready :
        (x : ℕ) → WaitsAt (queues past) x → is_taken (exclusive past) x ≡ false
        → ((t : ℕ) (f : InFlight) → flight_at (slots past) t ≡ Some f → ⊥)
        → (y : ℕ) × (Ready head (queues past) (exclusive past) (slots past) y × IsIn y (places_of head))
    ready x w free none =
        let c = every_at (IsWaiting (attached past) (detachments past) (commands past) x) (waiting_at (queues past) x) 0 w.front (h.calm.waits x) w.is in
        let home = h.calm.still.homes x c.home in (
          x,
          (
            record { waits = w; free = not_taken head.pmp (not head.fbs) _ free; empty = none },
            in_range 0 head.places x (omega arith) (omega (arith, home.place)),
          ),
        )

    by :
        (Waits (queues past) id ⊎ Flies (slots past) id)
        → (FliesAny (slots past) ⊎ ((t : ℕ) (f : InFlight) → flight_at (slots past) t ≡ Some f → ⊥))
        → (e : Option ℕ) → exclusive past ≡ e
        → FliesAny (slots past) ⊎ ((x : ℕ) × (Ready head (queues past) (exclusive past) (slots past) x × IsIn x (places_of head)))
    by here (inl f) e own = inl f
    by (inr f) (inr none) e own = inl (record { tag = f.tag; flight = f.flight; here = f.here })
    by (inl w) (inr none) None own =
        let front = front_any (λ (c : Cmd). c.id == id) (waiting_at (queues past) w.place) w.among in
        inr (ready w.place (record { front = front.0; is = front.1 }) (ap (λ e. is_taken e w.place) own) none)
    by (inl w) (inr none) (Some x) own = elim (h.calm.claimed x own) [
      | inl f ↦ absurd (none f.tag f.flight f.here)
      | inr at ↦ inr (ready x at (ap (λ e. is_taken e x) own ∙ ap not (eq-eqb x x refl)) none)
    ]

  -- a round where a command is live
  pub round :
      (past : List Event) (seq id : ℕ) → Stands head past → is_among id (live past) ≡ true
      → Round head past (run_from head past (calls_from seq (round_steps head)))
  round past seq id h is =
      subst (λ steps. Round head past (run_from head past (calls_from seq steps)))
      (sym (append_assoc (map (λ (place : ℕ). Kick place) (places_of head)) (map (λ (place : ℕ). Work place 0) (places_of head)) (Irq ∷ Expire ∷ Recover ∷ [])))
      (kicking (places_of head) past seq h (starts past id h is))
