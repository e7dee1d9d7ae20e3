-- The boot.
use Rattle.std.proofs.Common.{inl, inr, ◌≡◌, ◌∙◌, ℕ, ◌+◌, ◌<◌, ◌≤◌, ◌==◌, Bool, true, false, not, List, [], ◌∷◌, ◌++◌, map, replicate, Option, None, Some, suc, zero, length, flat_map, option_and_then, slice_get, slice_set, slice_index_or, unwrap_or, get_or, refl, sym, ap, subst, arith, get_or-set_other, get_or-set_same, length-set}
use Rattle.std.proofs.lemmas.List.{length-map}
use Rattle.std.specs.List.{range_with_len}
use Rattle.std.specs.Option.{option_map_or}
use Rattle.ata_base.specs.declared.identity.Identity.{Identity}
use Rattle.ata_script.specs.declared.drive_head.DriveHead.{DriveHead}
use Rattle.ata_script.specs.declared.port_head.PortHead.{PortHead}
use Rattle.ata_trace.specs.Entries.{grown}
use Rattle.ata_trace.specs.Event.Event.{Entered, Told}
use Rattle.ata_trace.specs.Event.{Event, onto}
use Rattle.ata_trace.specs.declared.act.Act.{Act}
use Rattle.ata_trace.specs.declared.step.Step.TheVariants.{Boot}
use Rattle.ata_trace.specs.declared.who.Who.TheVariants.{Boot as ByBoot}
use Rattle.drive_model.specs.FreshAndReset.{fresh}
use Rattle.drive_model.specs.View.{DriveView}
use Rattle.host_queue.specs.Waiting.{waiting_at, no_lists}
use Rattle.host_tags.specs.Slots.{flight_at}
use Rattle.host_tags.specs.declared.in_flight.InFlight.{InFlight}
use Rattle.link_model.specs.LinkView.{linked_drive, after_reset, empty_link}
use Rattle.ata_base.specs.Each.{Each}
use Rattle.ata_base.proofs.EachLemmas.{every_at}
use Rattle.port_calm.proofs.Sight.{Sight, Still, sight, IsCalm, IsStill, IsHome, IsSound, depth_of}
use Rattle.port_calm.proofs.Slots.{same_or_not}
use Rattle.port_calm.proofs.Standing.{Stands}
use Rattle.port_calm.specs.Calm.{HasCalmActs}
use Rattle.port_past.specs.Attachment.{attached}
use Rattle.port_past.specs.Drives.{drives}
use Rattle.port_past.specs.Heads.{drive_at_boot, identity_of, places_of}
use Rattle.port_past.specs.Identities.{identities}
use Rattle.port_past.specs.declared.identity_told.IdentityTold.{IdentityTold}
use Rattle.port_past.specs.Links.{links, link_at_boot, linked_at}
use Rattle.port_past.specs.Modes.{ncq_on}
use Rattle.port_past.specs.Places.{all_places}
use Rattle.port_past.specs.Slots.{slots}
use Rattle.port_rules.specs.Boot.{found_acts, boot_entry}
use Rattle.port_rules.specs.Told.{or_nothing}

-- ---- before any entry

no_queue : (n x : ℕ) → waiting_at (no_lists n) x ≡ []
no_queue zero x = refl
no_queue (suc n) zero = refl
no_queue (suc n) (suc x) = no_queue n x

abbrev nothing : {A : Type 0} → ℕ → List (Option A)
nothing n = replicate n None

no_slot : {A : Type 0} (n t : ℕ) → unwrap_or (slice_get (nothing {A = A} n) t) None ≡ None
no_slot zero t = refl
no_slot (suc n) zero = refl
no_slot (suc n) (suc t) = no_slot n t

none_attached : (n x : ℕ) → get_or (replicate n false) x false ≡ false
none_attached zero x = refl
none_attached (suc n) zero = refl
none_attached (suc n) (suc x) = none_attached n x

all_good : (n : ℕ) → Each (λ b. b ≡ false) (replicate n false)
all_good zero = tt
all_good (suc n) = (refl, all_good n)

all_sound : (heads : List DriveHead) → Each IsSound (map (λ (d : DriveHead). fresh d.identity d.ready) heads)
all_sound [] = tt
all_sound (d ∷ heads) = (
  record { counts = refl; going = refl; good = all_good d.identity.sectors; ready = tt },
  all_sound heads,
)

none_held : (heads : List DriveHead) → Each (λ (v : DriveView). v.held ≡ []) (map (λ (d : DriveHead). fresh d.identity d.ready) heads)
none_held [] = tt
none_held (d ∷ heads) = (refl, none_held heads)

module _ (head : PortHead) where
  abbrev first : Still → Sight
  first st = record (sight head []) { still = st }

  no_flight : (t : ℕ) (f : InFlight) → flight_at (slots []) t ≡ Some f → ⊥
  no_flight t f is = let none : flight_at (slots []) t ≡ None = no_slot 32 t in cc

  -- nothing is submitted yet
  first_calm : (st : Still) → IsStill head st → IsCalm head (first st)
  first_calm st still = record {
    still = still;
    long_queues = refl;
    long_slots = refl;
    long_ends = refl;
    long_drives = length-map head.drives _;
    waits = λ x. subst (Each _) (sym (no_queue 15 x)) tt;
    flies = λ t f is. absurd (no_flight t f is);
    apart = λ t u f g is also e. absurd (no_flight t f is);
    held = λ t f is undone. absurd (no_flight t f is);
    sound = all_sound head.drives;
    flown = λ d v is.
        subst (Each _) (sym (every_at (λ (w : DriveView). w.held ≡ []) (drives head []) d v (none_held head.drives) is)) tt;
    claimed = λ x is. absurd (cc);
    here = λ id is. absurd (cc);
    told = λ id is. absurd (cc);
    few = omega arith;
    once = λ id. omega arith;
    known = λ id is. absurd (cc);
    least = omega arith;
  }

-- ---- the links at boot

get_places :
    {A : Type 0} (f : ℕ → A) (a n i : ℕ) (d : A) → i < n → get_or (map f (range_with_len a n)) i d ≡ f (a + i)
get_places f a zero i d within = absurd (omega arith)
get_places f a (suc n) zero d within = let e : a ≡ a + 0 = omega arith in ap f e
get_places f a (suc n) (suc i) d within =
    let e : a + 1 + i ≡ a + suc i = omega arith in get_places f (a + 1) n i d (omega arith) ∙ ap f e

linked_at_boot :
    (heads : List DriveHead) (p d : ℕ) → p < 15 → drive_at_boot heads p ≡ Some d
    → linked_at (map (link_at_boot heads) all_places) p ≡ Some d
linked_at_boot heads p d few there =
    let at = get_places (link_at_boot heads) 0 15 p empty_link few in
    let e : 0 + p ≡ p = omega arith in
    ap linked_drive (at ∙ ap (link_at_boot heads) e)
    ∙ ap (λ (o : Option ℕ). linked_drive (after_reset (record empty_link { plugged = o }))) there

within_of : (xs : List Bool) (x : ℕ) → get_or xs x false ≡ true → x < length xs
within_of [] x is = absurd (cc)
within_of (b ∷ xs) zero is = omega arith
within_of (b ∷ xs) (suc x) is = omega (arith, within_of xs x is)

named_within : (heads : List DriveHead) (d : ℕ) (i : Identity) → identity_of heads d ≡ Some i → d < length heads
named_within [] d i who = absurd (cc)
named_within (x ∷ heads) zero i who = omega arith
named_within (x ∷ heads) (suc d) i who = omega (arith, named_within heads d i who)

some_depth : (n : ℕ) → not (n == 0) ≡ true → 0 < n
some_depth zero is = absurd (cc)
some_depth (suc n) is = omega arith

-- ---- place after place

record Booted (head : PortHead) (past : List Event) : Type 0 where
  pub still : IsStill head (sight head past).still
  pub same : sight head past ≡ record (sight head []) { still = (sight head past).still }
  pub linked : links head past ≡ map (link_at_boot head.drives) all_places
  pub long_attached : length (attached past) ≡ 15
  pub long_known : length (identities past) ≡ 15
  pub long_ncq : length (ncq_on past) ≡ 15
  pub clean : HasCalmActs past

module _ (head : PortHead) (past : List Event) (h : Booted head past) (p : ℕ) (within : p < head.places) where
  -- what is told of an identity
  abbrev told_of : Identity → Option IdentityTold
  told_of i = Some (record { model = i.model; serial = i.serial; sectors = i.sectors; depth = i.depth })

  homes :
      (d : ℕ) (i : Identity) (x : ℕ) → drive_at_boot head.drives p ≡ Some d → identity_of head.drives d ≡ Some i
      → slice_index_or (slice_set (attached past) p true) x false ≡ true
      → IsHome head (links head past) (slice_set (identities past) p (told_of i))
      (slice_set (ncq_on past) p (not (i.depth == 0))) x
  homes d i x there who is =
      elim (same_or_not x p) [
        | inl same ↦
            let few : x < 15 = omega (arith, within_of (slice_set (attached past) p true) x is, length-set (attached past) p true, h.long_attached) in
            let linked : linked_at (links head past) p ≡ Some d =
            ap (λ ls. linked_at ls p) h.linked ∙ linked_at_boot head.drives p d (omega (arith, few, same)) there in
            record {
              place = omega (arith, same, within);
              few = few;
              drive = d;
              linked = ap (linked_at (links head past)) same ∙ linked;
              within = named_within head.drives d i who;
              tagged = λ on.
                  let ncq_on : not (i.depth == 0) ≡ true =
                  sym (get_or-set_same (ncq_on past) p (not (i.depth == 0)) false (omega (arith, few, same, h.long_ncq)))
                  ∙ subst (λ y. slice_index_or (slice_set (ncq_on past) p (not (i.depth == 0))) y false ≡ true) same on in
                  let depth : depth_of (slice_set (identities past) p (told_of i)) x ≡ i.depth =
                  ap (λ y. depth_of (slice_set (identities past) p (told_of i)) y) same
                  ∙ ap (λ o. option_map_or (λ (j : IdentityTold). j.depth) o 0)
                  (get_or-set_same (identities past) p (told_of i) None (omega (arith, few, same, h.long_known))) in
                  omega (arith, depth, some_depth i.depth ncq_on);
            }
        | inr other ↦
            let was = h.still.homes x (sym (get_or-set_other (attached past) p x true false other) ∙ is) in
            record {
              place = was.place;
              few = was.few;
              drive = was.drive;
              linked = was.linked;
              within = was.within;
              tagged = λ on.
                  let some = was.tagged (sym (get_or-set_other (ncq_on past) p x (not (i.depth == 0)) false other) ∙ on) in
                  subst (λ o. 0 < option_map_or (λ (j : IdentityTold). j.depth) o 0)
                  (sym (get_or-set_other (identities past) p x (told_of i) None other)) some;
            }
      ]

  found_at :
      (o : Option ℕ) → drive_at_boot head.drives p ≡ o
      → Booted head (onto past (found_acts p (option_and_then (identity_of head.drives) o)))
  found_at None there = h
  found_at (Some d) there = by (identity_of head.drives d) refl where
    by : (i : Option Identity) → identity_of head.drives d ≡ i → Booted head (onto past (found_acts p i))
    by None who = h
    by (Some i) who = record {
      still = record {
        early = h.still.early;
        thawed = h.still.thawed;
        unasked = h.still.unasked;
        resting = h.still.resting;
        unfailed = h.still.unfailed;
        no_iferr = h.still.no_iferr;
        no_connect = h.still.no_connect;
        no_notify = h.still.no_notify;
        homes = λ x is. homes d i x there who is;
      };
      same = ap (λ (s : Sight). record s { still = (sight head (onto past (found_acts p (Some i)))).still }) h.same;
      linked = h.linked;
      long_attached = length-set (attached past) p true ∙ h.long_attached;
      long_known = length-set (identities past) p (told_of i) ∙ h.long_known;
      long_ncq = length-set (ncq_on past) p (not (i.depth == 0)) ∙ h.long_ncq;
      clean = (tt, (tt, (tt, h.clean)));
    }

  place_booted : Booted head (onto past (found_acts p (option_and_then (identity_of head.drives) (drive_at_boot head.drives p))))
  place_booted = found_at _ refl

onto_both : (past : List Event) (acts more : List Act) → onto past (acts ++ more) ≡ onto (onto past acts) more
onto_both past [] more = refl
onto_both past (act ∷ acts) more = onto_both (Told act ∷ past) acts more

module _ (head : PortHead) where
  abbrev found : ℕ → List Act
  found p = found_acts p (option_and_then (identity_of head.drives) (drive_at_boot head.drives p))

  all_booted :
      (past : List Event) (a n : ℕ) → a + n ≤ head.places → Booted head past
      → Booted head (onto past (flat_map found (range_with_len a n)))
  all_booted past a zero to h = h
  all_booted past a (suc n) to h =
      subst (Booted head) (sym (onto_both past (found a) (flat_map found (range_with_len (a + 1) n))))
      (all_booted (onto past (found a)) (a + 1) n (omega arith) (place_booted head past h a (omega arith)))

  begins : Booted head (Entered 0 ByBoot 0 Boot ∷ [])
  begins = record {
    still = record {
      early = refl;
      thawed = refl;
      unasked = refl;
      resting = refl;
      unfailed = refl;
      no_iferr = refl;
      no_connect = refl;
      no_notify = refl;
      homes = λ x is. let none = none_attached 15 x in absurd (cc);
    };
    same = refl;
    linked = refl;
    long_attached = refl;
    long_known = refl;
    long_ncq = refl;
    clean = tt;
  }

  or_booted : (past : List Event) (acts : List Act) → Booted head past → Booted head (onto past acts) → Booted head (onto past (or_nothing acts))
  or_booted past [] first last = record {
    still = first.still;
    same = first.same;
    linked = first.linked;
    long_attached = first.long_attached;
    long_known = first.long_known;
    long_ncq = first.long_ncq;
    clean = (tt, first.clean);
  }
  or_booted past (act ∷ acts) first last = last

  stands_so : (past : List Event) → Booted head past → Stands head past
  stands_so past b = record {
    calm = subst (IsCalm head) (sym b.same) (first_calm head (sight head past).still b.still);
    line = λ t f e is done. absurd (no_flight head t f (subst (λ (s : Sight). flight_at s.slots t ≡ Some f) b.same is));
    clean = b.clean;
  }

  -- a port stands after its boot
  pub boot_stands_at : Stands head (grown [] (boot_entry head))
  boot_stands_at =
      stands_so _ (or_booted (Entered 0 ByBoot 0 Boot ∷ []) (flat_map found (places_of head)) begins
      (all_booted (Entered 0 ByBoot 0 Boot ∷ []) 0 head.places (omega arith) begins))
