-- Each command that waits, flies or is given back is one of the accepted.
use Rattle.std.proofs.Common.{◌≡◌, ◌∙◌, ℕ, ◌<◌, ◌==◌, ◌||◌, Bool, true, false, cond, List, [], ◌∷◌, ◌++◌, map, find, Option, None, Some, option_map, option_to_list, slice_index, drop, refl, sym, ap, subst, if◌then◌else◌}
use Rattle.std.specs.Option.{option_map_or, option_or}
use Rattle.std.proofs.lemmas.Bool.{eq-eqb}
use Rattle.std.proofs.lemmas.List.Folds.{find-append}
use Rattle.ata_base.specs.declared.cmd.Cmd.{Cmd}
use Rattle.ata_script.specs.declared.port_head.PortHead.{PortHead}
use Rattle.ata_trace.specs.Event.{Event}
use Rattle.ata_trace.specs.Event.Event.{Told}
use Rattle.ata_trace.specs.declared.act.Act.TheVariants.{Accepted, Issued, AnsweredOk, AnsweredFailed, AnsweredNodev, Retried, Condemned, Expired, Ended}
use Rattle.host_queue.specs.Waiting.{waiting_at, front_of, without_front}
use Rattle.host_tags.specs.Marks.{condemned, expired}
use Rattle.host_tags.specs.declared.in_flight.InFlight.{InFlight}
use Rattle.port_past.specs.Commands.{commands, command_of, place_of, is_accepted, submitted, counted}
use Rattle.port_past.specs.Attachment.{detachments}
use Rattle.port_past.specs.Queues.{queues, retried, with_submitted, with_retried}
use Rattle.port_past.specs.Slots.{slots, fresh_flight}
use Rattle.port_past.specs.Steps.{last_step}
use Rattle.port_facts.specs.Device.{device_of}
use Rattle.port_facts.specs.Allowed.{IsAllowed, MayAccept}
use Rattle.host_tags.proofs.FlightLemmas.{each_put, each_without, each_changed, each_weaker}
use Rattle.port_past.proofs.LeavingSlots.{each_told}
use Rattle.ata_base.specs.Each.{Each}
use Rattle.ata_base.proofs.EachLemmas.{every_weaker, every_append, every_at, every_rest}
use Rattle.host_queue.proofs.EachQueue.{EachQueue, queue_at, queue_set, queue_weaker}
use Rattle.host_tags.specs.EachFlight.{EachFlight}
use Rattle.port_past.proofs.KnownCommands.{found_id, not_found, places_counted}

-- ---- how commands stand

found_first :
    {A B : Type 0} (g : A → B) (found other : Option A) (x : B) → option_map g found ≡ Some x
    → option_map g (option_or found other) ≡ Some x
found_first g None other x is = absurd (cc)
found_first g (Some a) other x is = is

-- a later command changes nothing of an earlier one
standing_append :
    (id : ℕ) (was more : List Cmd) (s : ℕ × ℕ) → device_of id was ≡ Some s → device_of id (was ++ more) ≡ Some s
standing_append id was more s is =
    rw (find-append (λ c. c.id == id) was more)
    (found_first (λ (c : Cmd). (c.place, c.attachment)) (find (λ c. c.id == id) was) (find (λ c. c.id == id) more) s is)

unknown_or : (here : Bool) (c : Cmd) (found : Option Cmd) (any : Bool) → (here || any) ≡ false → (any ≡ false → found ≡ None)
    → cond here (Some c) found ≡ None
unknown_or true c found any is none = absurd (cc)
unknown_or false c found any is none = none is

found_here : (id : ℕ) (c : Cmd) → c.id ≡ id → cond (c.id == id) (Some c) None ≡ Some c
found_here id c same = rw (eq-eqb c.id id same) refl

-- a new command stands where it was submitted
pub command_new :
    (id : ℕ) (was : List Cmd) (c : Cmd) → is_accepted id was ≡ false → c.id ≡ id
    → command_of id (was ++ c ∷ []) ≡ Some c
command_new id was c fresh same =
    find-append (λ x. x.id == id) was (c ∷ [])
    ∙ ap (λ found. option_or found (cond (c.id == id) (Some c) None)) (not_found id was fresh)
    ∙ found_here id c same

one_of :
    {B : Type 0} (g : Cmd → B) (here : Bool) (c d : Cmd) (found other : Option Cmd) → g d ≡ g c
    → option_map g other ≡ option_map g found
    → option_map g (cond here (Some d) other) ≡ option_map g (cond here (Some c) found)
one_of g true c d found other same rest = ap Some same
one_of g false c d found other same rest = rest

counted_here :
    {B : Type 0} (g : Cmd → B) (raised : Bool) → ((c : Cmd) → g (counted raised c) ≡ g c) → (id : ℕ) (b : Bool) (c : Cmd) (rest was : List Cmd)
    → option_map g (command_of id rest) ≡ option_map g (command_of id was)
    → option_map g (command_of id ((if b then counted raised c else c) ∷ rest)) ≡ option_map g (command_of id (c ∷ was))
counted_here g raised keeps id true c rest was same = one_of g (c.id == id) c (counted raised c) (command_of id was) (command_of id rest) (keeps c) same
counted_here g raised keeps id false c rest was same = one_of g (c.id == id) c c (command_of id was) (command_of id rest) refl same

-- a retry changes nothing of a command that doesn't count
pub command_counted :
    {B : Type 0} (g : Cmd → B) (raised : Bool) → ((c : Cmd) → g (counted raised c) ≡ g c) → (other id : ℕ) (was : List Cmd)
    → option_map g (command_of id (map (λ c. if c.id == other then counted raised c else c) was)) ≡ option_map g (command_of id was)
command_counted g raised keeps other id [] = refl
command_counted g raised keeps other id (c ∷ was) =
    counted_here g raised keeps id (c.id == other) c (map (λ x. if x.id == other then counted raised x else x) was) was
    (command_counted g raised keeps other id was)

pub standing_counted :
    (other id : ℕ) (raised : Bool) (was : List Cmd)
    → device_of id (map (λ c. if c.id == other then counted raised c else c) was) ≡ device_of id was
standing_counted other id raised was = command_counted (λ (c : Cmd). (c.place, c.attachment)) raised (λ c. refl) other id was

-- what stands of a command stands later too
pub standing_later :
    (event : Event) (past : List Event) (id : ℕ) (s : ℕ × ℕ) → device_of id (commands past) ≡ Some s
    → device_of id (commands (event ∷ past)) ≡ Some s
standing_later (Told (Accepted c)) past id s is =
    standing_append id (commands past) (option_to_list (submitted c (last_step past) (detachments past))) s is
standing_later (Told (Retried c number raised)) past id s is = standing_counted c id raised (commands past) ∙ is
standing_later event past id s is = is

place_found : (found : Option Cmd) (s : ℕ × ℕ) → option_map (λ (c : Cmd). (c.place, c.attachment)) found ≡ Some s → option_map_or (λ (c : Cmd). c.place) found 0 ≡ s.0
place_found None s is = absurd (cc)
place_found (Some c) s is = let same : (c.place, c.attachment) ≡ s = cc in ap (λ p. p.0) same

pub place_of_device : (id : ℕ) (was : List Cmd) (s : ℕ × ℕ) → device_of id was ≡ Some s → place_of id was ≡ s.0
place_of_device id was s is = place_found (command_of id was) s is

-- ---- all that is known

-- a command of this number at this place was accepted
pub record IsKnown (commands : List Cmd) (id place : ℕ) : Type 0 where
  pub device : ℕ
  pub stands : device_of id commands ≡ Some (place, device)

-- a command is an accepted one, with its place and device
abbrev pub IsCopy : List Cmd → Cmd → Type 0
IsCopy commands c = device_of c.id commands ≡ Some (c.place, c.attachment)

-- one that waits at this place
abbrev pub IsWaiting : List Cmd → ℕ → Cmd → Type 0
IsWaiting commands x c = (c.place ≡ x) × IsCopy commands c

abbrev pub IsFlown : List Cmd → InFlight → Type 0
IsFlown commands f = IsKnown commands f.id f.place

-- this stands of these commands, slots, queues and returned ones
pub record AreOf (known : List Cmd) (slots : List (Option InFlight)) (queues : List (List Cmd)) (back : List Cmd) : Type 0 where
  pub places : Each (λ c. c.place < 15) known
  pub flights : EachFlight (IsFlown known) slots
  pub waiting : EachQueue (IsWaiting known) queues
  pub returned : Each (IsCopy known) back

abbrev pub AreKnown : List Event → Type 0
AreKnown past = AreOf (commands past) (slots past) (queues past) (retried past)

pub places_submitted :
    (places : ℕ) (past : List Event) (id : ℕ) → (m : MayAccept id past) → m.place < places → Each (λ c. c.place < places) (commands past)
    → Each (λ c. c.place < places) (commands past ++ option_to_list (submitted id (last_step past) (detachments past)))
places_submitted places past id m within was =
    let new : Cmd = record { id = id; place = m.place; op = m.op; allow = m.allow; retries = 0; wait = record { n = m.wait }; attachment = slice_index (detachments past) m.place } in
    let is : submitted id (last_step past) (detachments past) ≡ Some new = ap (λ s. submitted id s (detachments past)) m.asked in
    every_append (λ c. c.place < places) (commands past) _ was (subst (λ c. Each (λ c. c.place < places) (option_to_list c)) (sym is) (within, tt))

-- after an event all that was known is so still
lifted :
    (event : Event) (past : List Event) → Each (λ c. c.place < 15) (commands (event ∷ past)) → AreKnown past
    → AreOf (commands (event ∷ past)) (slots past) (queues past) (retried past)
lifted event past places was = record {
  places = places;
  flights = each_weaker (IsFlown (commands past)) (IsFlown (commands (event ∷ past)))
      (λ f is. record { device = is.device; stands = standing_later event past f.id (f.place, is.device) is.stands }) (slots past) was.flights;
  waiting = queue_weaker (IsWaiting (commands past)) (IsWaiting (commands (event ∷ past)))
      (λ x c is. (is.0, standing_later event past c.id (c.place, c.attachment) is.1)) (queues past) was.waiting;
  returned = every_weaker (IsCopy (commands past)) (IsCopy (commands (event ∷ past)))
      (λ c is. standing_later event past c.id (c.place, c.attachment) is) (retried past) was.returned;
}

joined_known :
    (known : List Cmd) (c : Cmd) (queues : List (List Cmd)) → IsCopy known c → EachQueue (IsWaiting known) queues
    → EachQueue (IsWaiting known) (with_submitted (Some c) queues)
joined_known known c queues copy was =
    queue_set (IsWaiting known) queues c.place (waiting_at queues c.place ++ c ∷ []) was
    (every_append (IsWaiting known c.place) (waiting_at queues c.place) (c ∷ []) (queue_at (IsWaiting known) queues c.place was) ((refl, copy), tt))

served_known :
    (known : List Cmd) (x : ℕ) (queues : List (List Cmd)) → EachQueue (IsWaiting known) queues → EachQueue (IsWaiting known) (without_front x queues)
served_known known x queues was =
    queue_set (IsWaiting known) queues x (drop 1 (waiting_at queues x)) was
    (every_rest (IsWaiting known x) (waiting_at queues x) (queue_at (IsWaiting known) queues x was))

served_if :
    (known : List Cmd) (b : Bool) (x : ℕ) (queues : List (List Cmd)) → EachQueue (IsWaiting known) queues
    → EachQueue (IsWaiting known) (if b then without_front x queues else queues)
served_if known true x queues was = served_known known x queues was
served_if known false x queues was = was

back_known :
    (known back : List Cmd) (queues : List (List Cmd)) → Each (IsCopy known) back → EachQueue (IsWaiting known) queues
    → EachQueue (IsWaiting known) (with_retried back queues)
back_known known [] queues copies was = was
back_known known (c ∷ back) queues copies was =
    let rest = back_known known back queues copies.1 was in
    queue_set (IsWaiting known) (with_retried back queues) c.place (c ∷ waiting_at (with_retried back queues) c.place) rest
    ((refl, copies.0), queue_at (IsWaiting known) (with_retried back queues) c.place rest)

copy_of : (id : ℕ) (was known : List Cmd) (raised : Bool) (found : Option Cmd) → command_of id was ≡ found
    → device_of id known ≡ device_of id was → Each (IsCopy known) (option_to_list (option_map (counted raised) found))
copy_of id was known raised None is same = tt
copy_of id was known raised (Some c) is same =
    (subst (λ n. device_of n known ≡ Some (c.place, c.attachment)) (sym (found_id id was c is)) (same ∙ ap (option_map (λ (x : Cmd). (x.place, x.attachment))) is), tt)

pub are_known : (head : PortHead) (past : List Event) → IsAllowed head past → AreKnown past
are_known head [] h = record { places = tt; flights = tt; waiting = (tt, (tt, (tt, (tt, (tt, (tt, (tt, (tt, (tt, (tt, (tt, (tt, (tt, (tt, (tt, tt))))))))))))))); returned = tt }
are_known head (Told (Accepted id) ∷ past) h =
    let m = h.0 in
    let was = are_known head past h.1 in
    let new : Cmd = record { id = id; place = m.place; op = m.op; allow = m.allow; retries = 0; wait = record { n = m.wait }; attachment = slice_index (detachments past) m.place } in
    let is : submitted id (last_step past) (detachments past) ≡ Some new = ap (λ s. submitted id s (detachments past)) m.asked in
    let known : commands (Told (Accepted id) ∷ past) ≡ commands past ++ new ∷ [] = ap (λ c. commands past ++ option_to_list c) is in
    let copy : IsCopy (commands (Told (Accepted id) ∷ past)) new =
    subst (λ k. device_of id k ≡ Some (m.place, slice_index (detachments past) m.place)) (sym known)
    (ap (option_map (λ (x : Cmd). (x.place, x.attachment))) (command_new id (commands past) new m.fresh refl)) in
    let later = lifted (Told (Accepted id)) past (places_submitted 15 past id m m.within was.places) was in
    record {
      places = later.places;
      flights = later.flights;
      returned = later.returned;
      waiting = subst (λ c. EachQueue (IsWaiting (commands (Told (Accepted id) ∷ past))) (with_submitted c (queues past))) (sym is)
          (joined_known (commands (Told (Accepted id) ∷ past)) new (queues past) copy later.waiting);
    }
are_known head (Told (Issued id number tag deadline fis) ∷ past) h =
    let was = are_known head past h.1 in
    let front = h.0.is_front in
    let flown : IsFlown (commands past) (fresh_flight id number (place_of id (commands past)) deadline fis) =
    record {
      device = front.front.attachment;
      stands = subst (λ x. device_of id (commands past) ≡ Some (x, front.front.attachment))
          (sym (place_of_device id (commands past) _ front.stands)) front.stands;
    } in
    record {
      places = was.places;
      returned = was.returned;
      flights = each_put (IsFlown (commands past)) tag _ (slots past) was.flights flown;
      waiting = served_known (commands past) (place_of id (commands past)) (queues past) was.waiting;
    }
are_known head (Told (AnsweredOk id number status error lba count stamps) ∷ past) h =
    let was = are_known head past h.1 in
    record { places = was.places; waiting = was.waiting; returned = was.returned; flights = each_without (IsFlown (commands past)) number.n (slots past) was.flights }
are_known head (Told (AnsweredFailed id number kinds status error lba count) ∷ past) h =
    let was = are_known head past h.1 in
    record { places = was.places; waiting = was.waiting; returned = was.returned; flights = each_without (IsFlown (commands past)) number.n (slots past) was.flights }
are_known head (Told (AnsweredNodev id number) ∷ past) h =
    let was = are_known head past h.1 in
    record {
      places = was.places;
      returned = was.returned;
      flights = each_told (IsFlown (commands past)) number.n (slots past) was.flights;
      waiting = served_if (commands past) (number.n == 0) (place_of id (commands past)) (queues past) was.waiting;
    }
are_known head (Told (Retried id number raised) ∷ past) h =
    let was = are_known head past h.1 in
    let later = lifted (Told (Retried id number raised)) past (places_counted 15 id raised (commands past) was.places) was in
    let known = commands (Told (Retried id number raised) ∷ past) in
    record {
      places = later.places;
      waiting = later.waiting;
      flights = each_without (IsFlown known) number.n (slots past) later.flights;
      returned = every_append (IsCopy known) (retried past) _ later.returned
          (copy_of id (commands past) known raised _ refl (standing_counted id id raised (commands past)));
    }
are_known head (Told (Condemned number kinds) ∷ past) h =
    let was = are_known head past h.1 in
    record {
      places = was.places;
      waiting = was.waiting;
      returned = was.returned;
      flights = each_changed (IsFlown (commands past)) (condemned kinds) number.n (slots past)
          (λ f is. record { device = is.device; stands = is.stands }) was.flights;
    }
are_known head (Told (Expired id number) ∷ past) h =
    let was = are_known head past h.1 in
    record {
      places = was.places;
      waiting = was.waiting;
      returned = was.returned;
      flights = each_changed (IsFlown (commands past)) expired number.n (slots past)
          (λ f is. record { device = is.device; stands = is.stands }) was.flights;
    }
are_known head (Told Ended ∷ past) h =
    let was = are_known head past h.1 in
    record { places = was.places; flights = was.flights; waiting = back_known (commands past) (retried past) (queues past) was.returned was.waiting; returned = tt }
are_known head (event ∷ past) h = are_known head past h.1

-- the front of a queue is an accepted command of its place
pub front_known :
    (head : PortHead) (past : List Event) → IsAllowed head past → (x : ℕ) (front : Cmd) → front_of (queues past) x ≡ Some front
    → IsWaiting (commands past) x front
front_known head past h x front is =
    every_at (IsWaiting (commands past) x) (waiting_at (queues past) x) 0 front
    (queue_at (IsWaiting (commands past)) (queues past) x (are_known head past h).waiting) is

abbrev stand : Cmd → ℕ × ℕ
stand c = (c.place, c.attachment)

within_by :
    (places : ℕ) (here : Bool) (b : Cmd) (rest : Option Cmd) (s : ℕ × ℕ) → option_map stand (cond here (Some b) rest) ≡ Some s
    → b.place < places → (option_map stand rest ≡ Some s → s.0 < places) → s.0 < places
within_by places true b rest s is one other = let same : stand b ≡ s = cc in subst (λ p. p.0 < places) same one
within_by places false b rest s is one other = other is

-- the place of an accepted command is one
pub standing_within :
    (places : ℕ) (known : List Cmd) → Each (λ c. c.place < places) known → (id x d : ℕ) → device_of id known ≡ Some (x, d) → x < places
standing_within places [] on id x d is = absurd (cc)
standing_within places (b ∷ known) on id x d is =
    within_by places (b.id == id) b (command_of id known) (x, d) is on.0 (standing_within places known on.1 id x d)
