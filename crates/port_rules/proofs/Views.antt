-- What is told of a place in an autopsy leaves what the autopsy sees at another place, and what is told of issues leaves
-- what it sees at each.
use Rattle.std.proofs.Common.{◌≡◌, ◌≢◌, ◌∙◌, ℕ, ◌+◌, ◌≤◌, ◌&&◌, min, not, Bool, true, false, List, [], ◌∷◌, ◌++◌, map, None, suc, zero, get_or, slice_index, refl, ap, if◌then◌else◌}
use Rattle.std.specs.List.{slice_index_or}
use Rattle.ata_base.specs.declared.err_mask.ErrMask.{ErrMask}
use Rattle.ata_base.specs.declared.speed_action.SpeedAction.{SpeedAction}
use Rattle.ata_base.specs.declared.speed_action.SpeedAction.TheVariants.{NoChange, NcqOff, Speed, Mode}
use Rattle.ata_script.specs.declared.port_head.PortHead.{PortHead}
use Rattle.ata_trace.specs.Event.{Event, onto}
use Rattle.ata_trace.specs.Event.Event.{Told}
use Rattle.ata_trace.specs.declared.act.Act.{Act}
use Rattle.ata_trace.specs.declared.act.Act.TheVariants.{Judged, Recorded, Cleared, Hot, Action}
use Rattle.eh_reval.specs.Probes.{no_probes, probe_limit_of, with_probe}
use Rattle.eh_reval.specs.declared.probe_times.ProbeTimes.{ProbeTimes}
use Rattle.eh_ring.specs.Marks.{old_entry, with_entry}
use Rattle.eh_ring.specs.declared.entry.RingEntry.{RingEntry}
use Rattle.link_model.specs.LinkView.{LinkView, empty_link}
use Rattle.port_past.specs.Attachment.{attached}
use Rattle.port_past.specs.Clock.{clock}
use Rattle.port_past.specs.Commands.{commands}
use Rattle.port_past.specs.Doubt.{dubious}
use Rattle.port_past.specs.Hot.{probes}
use Rattle.port_past.specs.Identified.{generation_at}
use Rattle.port_past.specs.Links.{links, link_at, limited}
use Rattle.port_past.specs.Logs.{logs}
use Rattle.port_past.specs.Lowerings.{lowerings}
use Rattle.port_past.specs.Modes.{ncq_on}
use Rattle.port_past.specs.Noted.{tferr_noted}
use Rattle.port_past.specs.Places.{changed_at}
use Rattle.port_past.specs.PortState.{is_frozen}
use Rattle.port_past.specs.Rings.{rings, no_entries}
use Rattle.port_past.specs.Slots.{slots}
use Rattle.port_rules.specs.Autopsy.{autopsy_of, examined_acts, has_effect, is_examined, is_recorded, recorded_acts, speed_action, verdict_at}
use Rattle.port_rules.specs.AutopsyView.{AutopsyView, autopsy_view}
use Rattle.port_rules.specs.Blame.{JudgedIssue, is_hotplugged, judged_here}
use Rattle.port_rules.specs.Told.{told_if}

-- a view by what is told of its place
abbrev view_by : PortHead → List Event → ℕ → LinkView → List RingEntry → ℕ → ProbeTimes → AutopsyView
view_by head p x link ring lowered times = record {
  place = x;
  pmp = head.pmp;
  frozen = is_frozen p;
  attached = slice_index_or (attached p) x false;
  serror = link.serror;
  slots = slots p;
  commands = commands p;
  noted = slice_index_or (tferr_noted p) x None;
  log = slice_index_or (logs p) x None;
  dubious = slice_index_or (dubious p) x false;
  ring = ring;
  ncq_on = slice_index_or (ncq_on p) x false;
  speed = min link.limit (generation_at head p x);
  lowerings = lowered;
  probes = times;
  clock = clock p;
}

other_at :
    {A : Type 0} (y x : ℕ) (change : A → A) (xs : List A) (d : A) → x ≢ y
    → get_or (changed_at y change xs) x d ≡ get_or xs x d
other_at y x change [] d other = refl
other_at zero zero change (z ∷ xs) d other = absurd (other refl)
other_at zero (suc x) change (z ∷ xs) d other = refl
other_at (suc y) zero change (z ∷ xs) d other = refl
other_at (suc y) (suc x) change (z ∷ xs) d other = other_at y x change xs d (λ e. other (ap suc e))

-- an act of the autopsy that is told of an issue, or of another place than this
abbrev pub IsOff : ℕ → Act → Type 0
IsOff x (Judged number kinds) = Unit {0}
IsOff x (Recorded place io doubt kinds ncq_off speed_down pio keep action) = x ≢ place
IsOff x (Cleared place) = x ≢ place
IsOff x (Hot place generation) = x ≢ place
IsOff x (Action place kinds chosen) = x ≢ place
IsOff x _ = ⊥

abbrev pub AreOff : ℕ → List Act → Type 0
AreOff x [] = Unit {0}
AreOff x (act ∷ rest) = IsOff x act × AreOff x rest

off_append : (x : ℕ) (acts more : List Act) → AreOff x acts → AreOff x more → AreOff x (acts ++ more)
off_append x [] more first later = later
off_append x (act ∷ rest) more first later = (first.0, off_append x rest more first.1 later)

-- the entry of an error
abbrev entry_told : List Event → Bool → Bool → ErrMask → RingEntry
entry_told p io doubt kinds = record { io = io; dubious = doubt; stale = false; kinds = kinds; at = record { n = clock p } }

off_recorded :
    (head : PortHead) (p : List Event) (y x : ℕ) (io doubt : Bool) (kinds : ErrMask)
    (ncq_off speed_down pio keep : Bool) (action : SpeedAction) → x ≢ y
    → autopsy_view head (Told (Recorded y io doubt kinds ncq_off speed_down pio keep action) ∷ p) x ≡ autopsy_view head p x
off_recorded head p y x io doubt kinds ncq_off speed_down pio keep NoChange other =
    ap (λ ring. view_by head p x (link_at (links head p) x) ring (slice_index (lowerings p) x) (slice_index_or (probes p) x no_probes))
    (other_at y x (with_entry (entry_told p io doubt kinds)) (rings p) no_entries other)
off_recorded head p y x io doubt kinds ncq_off speed_down pio keep NcqOff other =
    ap (λ ring. view_by head p x (link_at (links head p) x) ring (slice_index (lowerings p) x) (slice_index_or (probes p) x no_probes))
    (other_at y x (with_entry (entry_told p io doubt kinds)) (rings p) no_entries other)
off_recorded head p y x io doubt kinds ncq_off speed_down pio keep (Speed g) other =
    let act = Recorded y io doubt kinds ncq_off speed_down pio keep (Speed g) in
    ap
    (λ ring. view_by head p x (link_at (links head (Told act ∷ p)) x) ring (slice_index (lowerings p) x) (slice_index_or (probes p) x no_probes))
    (other_at y x (with_entry (entry_told p io doubt kinds)) (rings p) no_entries other)
    ∙ ap
    (λ link. view_by head p x link (slice_index_or (rings p) x no_entries) (slice_index (lowerings p) x) (slice_index_or (probes p) x no_probes))
    (other_at y x (limited g) (links head p) empty_link other)
off_recorded head p y x io doubt kinds ncq_off speed_down pio keep (Mode udma) other =
    let act = Recorded y io doubt kinds ncq_off speed_down pio keep (Mode udma) in
    ap
    (λ ring. view_by head p x (link_at (links head p) x) ring (slice_index (lowerings (Told act ∷ p)) x) (slice_index_or (probes p) x no_probes))
    (other_at y x (with_entry (entry_told p io doubt kinds)) (rings p) no_entries other)
    ∙ ap
    (λ n. view_by head p x (link_at (links head p) x) (slice_index_or (rings p) x no_entries) n (slice_index_or (probes p) x no_probes))
    (other_at y x (λ n. n + 1) (lowerings p) 0 other)

pub off_view :
    (head : PortHead) (p : List Event) (x : ℕ) (act : Act) → IsOff x act
    → autopsy_view head (Told act ∷ p) x ≡ autopsy_view head p x
off_view head p x (Judged number kinds) off = refl
off_view head p x (Recorded place io doubt kinds ncq_off speed_down pio keep action) off =
    off_recorded head p place x io doubt kinds ncq_off speed_down pio keep action off
off_view head p x (Cleared place) off =
    ap (λ ring. view_by head p x (link_at (links head p) x) ring (slice_index (lowerings p) x) (slice_index_or (probes p) x no_probes))
    (other_at place x (map old_entry) (rings p) no_entries off)
off_view head p x (Hot place generation) off =
    ap
    (λ link. view_by head p x link (slice_index_or (rings p) x no_entries) (slice_index (lowerings p) x) (slice_index_or (probes (Told (Hot place generation) ∷ p)) x no_probes))
    (other_at place x (limited generation) (links head p) empty_link off)
    ∙ ap
    (λ times. view_by head p x (link_at (links head p) x) (slice_index_or (rings p) x no_entries) (slice_index (lowerings p) x) times)
    (other_at place x (with_probe (record { n = clock p })) (probes p) no_probes off)
off_view head p x (Action place kinds chosen) off = refl
off_view head p x act off = absurd off

-- acts that are off a place leave its view
pub off_views :
    (head : PortHead) (p : List Event) (x : ℕ) (acts : List Act) → AreOff x acts
    → autopsy_view head (onto p acts) x ≡ autopsy_view head p x
off_views head p x [] off = refl
off_views head p x (act ∷ rest) off = off_views head (Told act ∷ p) x rest off.1 ∙ off_view head p x act off.0

-- what is told of issues leaves each view
pub judged_off :
    (x : ℕ) (issues : List JudgedIssue)
    → AreOff x (map (λ (issue : JudgedIssue). Judged issue.flight.number (record { 0 = issue.kinds })) issues)
judged_off x [] = tt
judged_off x (issue ∷ issues) = (tt, judged_off x issues)

off_either : (b : Bool) (x : ℕ) (acts : List Act) → AreOff x acts → AreOff x (if b then acts else [])
off_either true x acts off = off
off_either false x acts off = tt

off_if : (b : Bool) (x : ℕ) (act : Act) → IsOff x act → AreOff x (told_if b act)
off_if true x act off = (off, tt)
off_if false x act off = tt

-- the acts of a place leave the view of another
pub examined_off : (x : ℕ) (s : AutopsyView) → x ≢ s.place → AreOff x (examined_acts s)
examined_off x s other =
    off_either (is_examined s) x (autopsy_of s)
    (off_append x _ _
    (off_append x _ _
    (off_append x _ _ (judged_off x (judged_here s))
    (off_either (is_recorded s) x _ (other, off_if (has_effect (speed_action s) && not (verdict_at s).keep) x (Cleared s.place) other)))
    (off_if (is_hotplugged s) x (Hot s.place (probe_limit_of s.probes s.clock)) other))
    (other, tt))
