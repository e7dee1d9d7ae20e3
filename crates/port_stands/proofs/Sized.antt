-- Each accepted command whose device didn't part since asks for sectors of the device that is identified at its place.
use Rattle.std.proofs.Common.{◌≡◌, ◌∙◌, ℕ, ◌+◌, ◌<◌, Bool, true, false, not, ◌&&◌, ◌==◌, List, [], ◌∷◌, ◌++◌, Option, None, Some, inl, inr, suc, zero, length, map, slice_set, refl, sym, ap, subst, arith, if◌then◌else◌}
use Rattle.std.specs.Prelude.{slice_index_or, slice_index, bytes_eq}
use Rattle.std.specs.List.{list_all}
use Rattle.std.specs.Option.{option_map_or}
use Rattle.std.proofs.lemmas.Bool.{eqb-true}
use Rattle.ata_base.proofs.EachLemmas.{every_both, every_weaker, every_append}
use Rattle.ata_base.proofs.Truth.{both, and_second}
use Rattle.ata_base.specs.Each.{Each}
use Rattle.ata_base.specs.Reasons.{first_reason}
use Rattle.ata_base.specs.declared.cmd.Cmd.{Cmd}
use Rattle.ata_base.specs.declared.identity.Identity.{Identity}
use Rattle.ata_base.specs.declared.op.Op.{Op}
use Rattle.ata_trace.specs.Event.{Event, onto}
use Rattle.ata_trace.specs.Event.Event.{Entered, Told}
use Rattle.ata_trace.specs.declared.act.Act.{Act}
use Rattle.ata_trace.specs.declared.act.Act.TheVariants.{Accepted, Retried, Identified, Same, Attached, Detached, Disabled}
use Rattle.ata_trace.specs.declared.refusal.Refusal.{Refusal}
use Rattle.ata_trace.specs.declared.refusal.Refusal.TheVariants.{SameId, NoDevice, BadCount, BadRange}
use Rattle.ata_trace.specs.declared.step.Step.{Step}
use Rattle.ata_trace.specs.declared.step.Step.TheVariants.{Submit}
use Rattle.ata_trace.specs.declared.who.Who.{Who}
use Rattle.port_past.proofs.PlaceSizes.{length_detachments}
use Rattle.port_past.proofs.Sizes.{attached_within}
use Rattle.port_past.specs.Attachment.{attached, detachments}
use Rattle.port_past.specs.Commands.{commands, counted, is_accepted}
use Rattle.port_past.specs.Identities.{identities, identity_at, sectors_at}
use Rattle.port_past.specs.Places.{changed_at}
use Rattle.port_past.specs.declared.identity_told.IdentityTold.{IdentityTold}
use Rattle.port_rules.specs.Identities.{is_same_drive, is_attached_drive, mode_act, udma_of, ncq_of, identity_acts}
use Rattle.port_rules.specs.Submit.{has_count, is_on_device, refusal_of, refused_or_accepted, submit_acts}
use Rattle.port_stands.proofs.Driven.{read_change}
use Rattle.port_stands.proofs.Fitting.{sectors_told, IsSized, AreSized}
use Rattle.port_stands.proofs.Within.{read_put}
use Rattle.port_stands.specs.Dated.{IsDated, AreDated}

-- an act by which no command is accepted and no identity is told
abbrev pub leaves_sizes : Act → Bool
leaves_sizes (Accepted id) = false
leaves_sizes (Identified place model serial sectors depth) = false
leaves_sizes act = true

-- the counts of detachments grow at a place
parted_sized : (told : List (Option IdentityTold)) (counts : List ℕ) (place : ℕ) (c : Cmd) → IsSized told counts c → IsSized told (changed_at place (λ n. n + 1) counts) c
parted_sized told counts place c was = elim (read_change counts place c.place (λ n. n + 1) 0) [
  | inl here ↦ record {
    early = omega (arith, was.early, here.1);
    fits = λ e. absurd (omega (arith, was.early, here.1, e));
  }
  | inr other ↦ record {
    early = omega (arith, was.early, other.0);
    fits = λ e. was.fits (sym other.0 ∙ e);
  }
]

each_counted : (told : List (Option IdentityTold)) (counts : List ℕ) (id : ℕ) (raised : Bool) (was : List Cmd) → Each (IsSized told counts) was → Each (IsSized told counts) (map (λ c. if c.id == id then counted raised c else c) was)
each_counted told counts id raised [] each = tt
each_counted told counts id raised (c ∷ was) each = (by (c.id == id), each_counted told counts id raised was each.1)
  where
    by : (b : Bool) → IsSized told counts (if b then counted raised c else c)
    by true = record { early = each.0.early; fits = each.0.fits }
    by false = each.0

sized_step : (past : List Event) (act : Act) → leaves_sizes act ≡ true → AreSized past → AreSized (Told act ∷ past)
sized_step past (Accepted id) is was = absurd (cc)
sized_step past (Identified place model serial sectors depth) is was = absurd (cc)
sized_step past (Detached place) is was =
    every_weaker (IsSized (identities past) (detachments past)) (IsSized (identities past) (changed_at place (λ n. n + 1) (detachments past)))
    (parted_sized (identities past) (detachments past) place) (commands past) was
sized_step past (Disabled place) is was =
    every_weaker (IsSized (identities past) (detachments past)) (IsSized (identities past) (changed_at place (λ n. n + 1) (detachments past)))
    (parted_sized (identities past) (detachments past) place) (commands past) was
sized_step past (Retried id number raised) is was = each_counted (identities past) (detachments past) id raised (commands past) was
sized_step past act is was = was

pub sized_onto : (past : List Event) (acts : List Act) → list_all leaves_sizes acts ≡ true → AreSized past → AreSized (onto past acts)
sized_onto past [] all was = was
sized_onto past (act ∷ rest) all was =
    let parts = both (leaves_sizes act) (list_all leaves_sizes rest) all in
    sized_onto (Told act ∷ past) rest parts.1 (sized_step past act parts.0 was)

-- ---- a command is accepted

not_false : (b : Bool) → not b ≡ false → b ≡ true
not_false true e = refl
not_false false e = absurd (cc)

in_range :
    (same none bad_count bad_range : Bool) → first_reason ((SameId, same) ∷ (NoDevice, none) ∷ (BadCount, bad_count) ∷ (BadRange, bad_range) ∷ []) ≡ None → bad_range ≡ false
in_range true none bad_count bad_range is = absurd (cc)
in_range false true bad_count bad_range is = absurd (cc)
in_range false false true bad_range is = absurd (cc)
in_range false false false true is = absurd (cc)
in_range false false false false is = refl

module _ (past : List Event) (time : ℕ) (who : Who) (seq : ℕ) where
  accepted_sized :
      (id place : ℕ) (op : Op) (allow wait : ℕ) (why : Option Refusal) → refusal_of past id place op ≡ why → AreSized past
      → AreSized (onto (Entered time who seq (Submit id place op allow wait) ∷ past) (refused_or_accepted id why))
  accepted_sized id place op allow wait (Some why) is was = was
  accepted_sized id place op allow wait None is was =
      let fits : is_on_device op (sectors_at past place) ≡ true =
      not_false _ (in_range (is_accepted id (commands past)) (not (slice_index_or (attached past) place false)) (not (has_count op)) (not (is_on_device op (sectors_at past place))) is) in
      every_append (IsSized (identities past) (detachments past)) (commands past) _ was (record { early = omega arith; fits = λ e. fits }, tt)

  pub submit_sized :
      (id place : ℕ) (op : Op) (allow wait : ℕ) → AreSized past
      → AreSized (onto (Entered time who seq (Submit id place op allow wait) ∷ past) (submit_acts past id place op))
  submit_sized id place op allow wait was = accepted_sized id place op allow wait (refusal_of past id place op) refl was

-- ---- an identity is read

-- where the size that was identified stays, or no command of the place is of the attached device
told_sized :
    (told : List (Option IdentityTold)) (counts : List ℕ) (place : ℕ) (i : IdentityTold) (c : Cmd)
    → (c.place ≡ place → slice_index counts c.place ≡ c.attachment → sectors_told told place ≡ i.sectors)
    → IsSized told counts c → IsSized (slice_set told place (Some i)) counts c
told_sized told counts place i c same was = elim (read_put told place c.place (Some i) None) [
  | inl here ↦ record {
    early = was.early;
    fits = λ e.
        subst (λ n. is_on_device c.op n ≡ true)
        (ap (sectors_told told) here.0 ∙ same here.0 e ∙ sym (ap (λ o. option_map_or (λ (k : IdentityTold). k.sectors) o 0) here.1)) (was.fits e);
  }
  | inr other ↦ record {
    early = was.early;
    fits = λ e. subst (λ n. is_on_device c.op n ≡ true) (sym (ap (λ o. option_map_or (λ (k : IdentityTold). k.sectors) o 0) other)) (was.fits e);
  }
]

-- one more detachment
counted_up : (counts : List ℕ) (place : ℕ) → place < length counts → slice_index (changed_at place (λ n. n + 1) counts) place ≡ slice_index counts place + 1
counted_up [] place few = absurd (omega (arith, few))
counted_up (n ∷ counts) zero few = refl
counted_up (n ∷ counts) (suc place) few = counted_up counts place (omega (arith, few))

same_size : (found : Identity) (known : Option IdentityTold) → option_map_or (is_same_drive found) known false ≡ true → option_map_or (λ (k : IdentityTold). k.sectors) known 0 ≡ found.sectors
same_size found None is = absurd (cc)
same_size found (Some k) is =
    sym (eqb-true found.sectors k.sectors
    (and_second (bytes_eq found.model k.model && bytes_eq found.serial k.serial) (found.sectors == k.sectors) is))

module _ (past : List Event) (time : ℕ) (who : Who) (seq : ℕ) (step : Step) (dated : AreDated past) (was : AreSized past) (place : ℕ) (i : Identity) where
  abbrev told : IdentityTold
  told = record { model = i.model; serial = i.serial; sectors = i.sectors; depth = i.depth }

  abbrev start : List Event
  start = Told (Identified place i.model i.serial i.sectors i.depth) ∷ Entered time who seq step ∷ past

  -- the attached device
  same_sized : sectors_told (identities past) place ≡ i.sectors → AreSized start
  same_sized same =
      every_weaker (IsSized (identities past) (detachments past)) (IsSized (identities start) (detachments past))
      (λ c one. told_sized (identities past) (detachments past) place told c (λ at e. same) one) (commands past) was

  -- a device where none was attached
  new_sized : slice_index_or (attached past) place false ≡ false → AreSized start
  new_sized none =
      every_both (IsDated (attached past) (detachments past)) (IsSized (identities past) (detachments past)) (IsSized (identities start) (detachments past))
      (λ c d one. told_sized (identities past) (detachments past) place told c (λ at e. absurd (cc (none, ap (λ x. slice_index_or (attached past) x false) (sym at) ∙ d.present e))) one)
      (commands past) dated.dated was

  -- another device, once the one that was attached has parted
  other_sized : slice_index_or (attached past) place false ≡ true → AreSized (Told (Detached place) ∷ start)
  other_sized there =
      let few : place < length (detachments past) = omega (arith, attached_within past place there, length_detachments past) in
      every_weaker (IsSized (identities past) (detachments past)) (IsSized (identities start) (changed_at place (λ n. n + 1) (detachments past)))
      (λ c one. told_sized (identities past) (changed_at place (λ n. n + 1) (detachments past)) place told c
      (λ at e.
      let up : slice_index (changed_at place (λ n. n + 1) (detachments past)) c.place ≡ slice_index (detachments past) c.place + 1 =
      ap (slice_index (changed_at place (λ n. n + 1) (detachments past))) at ∙ counted_up (detachments past) place few ∙ ap (λ x. slice_index (detachments past) x + 1) (sym at) in
      absurd (omega (arith, one.early, up, e)))
      (parted_sized (identities past) (detachments past) place c one)) (commands past) was

  read_sized :
      (same there : Bool) (mode : Act) → is_attached_drive past place i ≡ same → slice_index_or (attached past) place false ≡ there → leaves_sizes mode ≡ true
      → AreSized (onto start ((if same then Same place ∷ [] else if there then Detached place ∷ Attached place ∷ [] else Attached place ∷ []) ++ mode ∷ []))
  read_sized true there mode is at rest =
      sized_onto start (Same place ∷ mode ∷ []) (rw rest refl)
      (same_sized (same_size i (identity_at past place) (and_second (slice_index_or (attached past) place false) (option_map_or (is_same_drive i) (identity_at past place) false) is)))
  read_sized false true mode is at rest = sized_onto (Told (Detached place) ∷ start) (Attached place ∷ mode ∷ []) (rw rest refl) (other_sized at)
  read_sized false false mode is at rest = sized_onto start (Attached place ∷ mode ∷ []) (rw rest refl) (new_sized at)

  pub identity_sized : AreSized (onto (Entered time who seq step ∷ past) (identity_acts past place i))
  identity_sized =
      let same : Bool = is_attached_drive past place i in
      read_sized same (slice_index_or (attached past) place false) (mode_act past place same (udma_of past place same) (ncq_of past place same i)) refl refl refl
