-- What a calm port is seen as, and what holds of it.
use Rattle.std.proofs.Common.{◌⊎◌, ◌≡◌, ℕ, ◌+◌, ◌<◌, ◌≤◌, Bool, true, false, ◌==◌, cond, List, [], ◌∷◌, length, suc, Option, None, Some, slice_get, slice_index_or, unwrap_or}
use Rattle.std.specs.List.{list_any}
use Rattle.std.specs.Option.{option_map_or}
use Rattle.ata_base.specs.declared.cmd.Cmd.{Cmd}
use Rattle.ata_script.specs.declared.port_head.PortHead.{PortHead}
use Rattle.ata_trace.specs.Event.{Event}
use Rattle.drive_model.specs.FreshAndReset.{no_faults}
use Rattle.drive_model.specs.View.{DriveView}
use Rattle.drive_model.specs.declared.assigned.Assigned.TheVariants.{Nothing}
use Rattle.drive_model.specs.declared.held.Held.{Held}
use Rattle.host_queue.specs.Waiting.{waiting_at, front_of}
use Rattle.host_tags.specs.Slots.{flight_at}
use Rattle.host_tags.specs.declared.in_flight.InFlight.{InFlight}
use Rattle.link_model.specs.LinkView.{LinkView}
use Rattle.ata_base.specs.Each.{Each}
use Rattle.port_calm.specs.Calm.{well_answered, is_among}
use Rattle.port_past.specs.Causes.{tferr, has_iferr, has_connect, has_notify}
use Rattle.port_past.specs.Clock.{clock}
use Rattle.port_past.specs.Commands.{commands, command_of, is_accepted, is_gone}
use Rattle.port_past.specs.Attachment.{attached, detachments}
use Rattle.port_past.specs.Drives.{drives}
use Rattle.port_past.specs.Completions.{completions}
use Rattle.port_past.specs.Exclusive.{exclusive}
use Rattle.port_past.specs.PortState.{is_frozen, is_asked, is_running}
use Rattle.port_past.specs.Issues.{issue_count}
use Rattle.port_past.specs.Identities.{identities}
use Rattle.port_past.specs.declared.identity_told.IdentityTold.{IdentityTold}
use Rattle.port_past.specs.Links.{links, linked_at}
use Rattle.port_past.specs.Live.{live}
use Rattle.port_past.specs.Places.{nowhere}
use Rattle.port_past.specs.Modes.{ncq_on}
use Rattle.port_past.specs.Queues.{queues}
use Rattle.port_past.specs.Slots.{slots}
use Rattle.port_past.specs.declared.completion.Completion.{Completion}
use Rattle.eh_autopsy.specs.declared.failed_issue.FailedIssue.{FailedIssue}

-- what a calm port leaves as it was
pub record Still : Type 0 where
  pub clock : ℕ
  pub frozen : Bool
  pub asked : Bool
  pub running : Bool
  pub failures : List (Option FailedIssue)
  pub iferr : Bool
  pub connect : Bool
  pub notify : Bool
  pub attached : List Bool
  pub partings : List ℕ
  pub known : List (Option IdentityTold)
  pub ncq : List Bool
  pub links : List LinkView

-- the readings that count
pub record Sight : Type 0 where
  pub still : Still
  pub drives : List DriveView
  pub commands : List Cmd
  pub queues : List (List Cmd)
  pub slots : List (Option InFlight)
  pub ends : List (Option Completion)
  pub exclusive : Option ℕ
  pub issues : ℕ
  pub live : List ℕ
  pub answered : List ℕ

abbrev pub sight : PortHead → List Event → Sight
sight head past = record {
  still = record {
    clock = clock past;
    frozen = is_frozen past;
    asked = is_asked past;
    running = is_running past;
    failures = tferr past;
    iferr = has_iferr head past;
    connect = has_connect head past;
    notify = has_notify head past;
    attached = attached past;
    partings = detachments past;
    known = identities past;
    ncq = ncq_on past;
    links = links head past;
  };
  drives = drives head past;
  commands = commands past;
  queues = queues past;
  slots = slots past;
  ends = completions head past;
  exclusive = exclusive past;
  issues = issue_count past;
  live = live past;
  answered = well_answered past;
}

-- the depth of the device at a place
abbrev pub depth_of : List (Option IdentityTold) → ℕ → ℕ
depth_of known x = option_map_or (λ i. i.depth) (slice_index_or known x None) 0

-- a place with a device has its drive linked, and a tag for a queued command where NCQ is on
pub record IsHome (head : PortHead) (links : List LinkView) (known : List (Option IdentityTold)) (ncq_on : List Bool) (x : ℕ) : Type 0 where
  pub place : x < head.places
  pub few : x < 15
  pub drive : ℕ
  pub linked : linked_at links x ≡ Some drive
  pub within : drive < length head.drives
  pub tagged : slice_index_or ncq_on x false ≡ true → 0 < depth_of known x

-- nothing disturbed the port
pub record IsStill (head : PortHead) (s : Still) : Type 0 where
  pub early : s.clock ≡ 0
  pub thawed : s.frozen ≡ false
  pub unasked : s.asked ≡ false
  pub resting : s.running ≡ false
  pub unfailed : s.failures ≡ nowhere
  pub no_iferr : s.iferr ≡ false
  pub no_connect : s.connect ≡ false
  pub no_notify : s.notify ≡ false
  pub homes : (x : ℕ) → slice_index_or s.attached x false ≡ true → IsHome head s.links s.known s.ncq x

-- a command that waits at a place
pub record IsWaiting (attached : List Bool) (detachments : List ℕ) (commands : List Cmd) (x : ℕ) (c : Cmd) : Type 0 where
  pub place : c.place ≡ x
  pub current : is_gone c detachments ≡ false
  pub wait : 0 < c.wait.n
  pub known : command_of c.id commands ≡ Some c
  pub home : slice_index_or attached x false ≡ true

-- an issue in flight
pub record IsFlight (attached : List Bool) (commands : List Cmd) (issue_count : ℕ) (f : InFlight) : Type 0 where
  pub unowned : f.owned ≡ false
  pub later : 0 < f.deadline.n
  pub some : 1 ≤ f.number.n
  pub numbered : f.number.n ≤ issue_count
  pub cmd : Cmd
  pub known : command_of f.id commands ≡ Some cmd
  pub place : cmd.place ≡ f.place
  pub home : slice_index_or attached f.place false ≡ true

-- the good end of the issue under a tag
abbrev pub end_at : List (Option Completion) → ℕ → Option Completion
end_at completions t = unwrap_or (slice_get completions t) None

-- whether an issue of this number is held
abbrev pub holds : ℕ → List Held → Bool
holds n held = list_any (λ (h : Held). h.number.n == n) held

-- whether the drive of this number holds it
abbrev pub holds_in : List DriveView → Option ℕ → ℕ → Bool
holds_in drives None n = false
holds_in drives (Some d) n = option_map_or (λ v. holds n v.held) (slice_get drives d) false

-- a drive without faults
pub record IsSound (v : DriveView) : Type 0 where
  pub counts : v.counts ≡ no_faults
  pub going : v.stopped ≡ None
  pub good : Each (λ b. b ≡ false) v.bad
  pub ready : Each (λ (h : Held). h.assigned ≡ Nothing) v.held

-- a held issue is in flight at a place of its drive, and not completed
pub record HasFlight (links : List LinkView) (slots : List (Option InFlight)) (completions : List (Option Completion)) (d n : ℕ) : Type 0 where
  pub tag : ℕ
  pub flight : InFlight
  pub here : flight_at slots tag ≡ Some flight
  pub same : flight.number.n ≡ n
  pub undone : end_at completions tag ≡ None
  pub linked : linked_at links flight.place ≡ Some d

-- an issue is in flight
pub record FliesAny (slots : List (Option InFlight)) : Type 0 where
  pub tag : ℕ
  pub flight : InFlight
  pub here : flight_at slots tag ≡ Some flight

-- an issue is in flight at a place
pub record FliesAt (slots : List (Option InFlight)) (x : ℕ) : Type 0 where
  pub tag : ℕ
  pub flight : InFlight
  pub here : flight_at slots tag ≡ Some flight
  pub place : flight.place ≡ x

-- a command waits at a place
pub record WaitsAt (queues : List (List Cmd)) (x : ℕ) : Type 0 where
  pub front : Cmd
  pub is : front_of queues x ≡ Some front

-- an issue of a command is in flight
pub record Flies (slots : List (Option InFlight)) (id : ℕ) : Type 0 where
  pub tag : ℕ
  pub flight : InFlight
  pub here : flight_at slots tag ≡ Some flight
  pub same : flight.id ≡ id

-- a command waits
pub record Waits (queues : List (List Cmd)) (id : ℕ) : Type 0 where
  pub place : ℕ
  pub among : list_any (λ (c : Cmd). c.id == id) (waiting_at queues place) ≡ true

-- how many commands wait
abbrev pub waits_total : List (List Cmd) → ℕ
waits_total [] = 0
waits_total (q ∷ rest) = length q + waits_total rest

-- how many issues are in flight
abbrev pub flights_total : List (Option InFlight) → ℕ
flights_total [] = 0
flights_total (None ∷ rest) = flights_total rest
flights_total (Some f ∷ rest) = suc (flights_total rest)

-- how often a number is among these
abbrev pub times : ℕ → List ℕ → ℕ
times id [] = 0
times id (n ∷ numbers) = cond (n == id) (suc (times id numbers)) (times id numbers)

-- what holds of a calm port after each act
pub record IsCalm (head : PortHead) (s : Sight) : Type 0 where
  pub still : IsStill head s.still
  pub long_queues : length s.queues ≡ 15
  pub long_slots : length s.slots ≡ 32
  pub long_ends : length s.ends ≡ 32
  pub long_drives : length s.drives ≡ length head.drives
  pub waits : (x : ℕ) → Each (IsWaiting s.still.attached s.still.partings s.commands x) (waiting_at s.queues x)
  pub flies : (t : ℕ) (f : InFlight) → flight_at s.slots t ≡ Some f → IsFlight s.still.attached s.commands s.issues f
  pub apart :
      (t u : ℕ) (f g : InFlight) → flight_at s.slots t ≡ Some f → flight_at s.slots u ≡ Some g → f.number.n ≡ g.number.n → t ≡ u
  pub held :
      (t : ℕ) (f : InFlight) → flight_at s.slots t ≡ Some f → end_at s.ends t ≡ None
      → holds_in s.drives (linked_at s.still.links f.place) f.number.n ≡ true
  pub sound : Each IsSound s.drives
  pub flown :
      (d : ℕ) (v : DriveView) → slice_get s.drives d ≡ Some v
      → Each (λ (h : Held). HasFlight s.still.links s.slots s.ends d h.number.n) v.held
  pub claimed : (x : ℕ) → s.exclusive ≡ Some x → FliesAt s.slots x ⊎ WaitsAt s.queues x
  pub here : (id : ℕ) → is_among id s.live ≡ true → Waits s.queues id ⊎ Flies s.slots id
  pub told :
      (id : ℕ) → is_accepted id s.commands ≡ true
      → (is_among id s.live ≡ true) ⊎ (is_among id s.answered ≡ true)
  pub few : waits_total s.queues + flights_total s.slots ≤ length s.live
  pub once : (id : ℕ) → times id s.live ≤ 1
  pub known : (id : ℕ) → is_among id s.live ≡ true → is_accepted id s.commands ≡ true
  pub least : length s.live ≤ length s.commands
