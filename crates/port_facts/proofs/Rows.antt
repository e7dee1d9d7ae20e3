-- The acts of all other steps and rows are plain.
use Rattle.port_rules.proofs.RecoverByPhase.{look_acts, unanswered_acts}
use Rattle.std.proofs.Common.{◌≡◌, ℕ, ◌&&◌, ◌||◌, ◌+◌, ◌^◌, ◌==◌, nat_le, nat_lt, Bool, true, false, not, List, [], ◌∷◌, map, filter, Option, None, Some, is_some, refl, if◌then◌else◌}
use Rattle.std.specs.List.{filter_map, range_with_len, slice_index_or}
use Rattle.ata_base.specs.declared.fault.Fault.{Fault}
use Rattle.ata_script.specs.declared.port_head.PortHead.{PortHead}
use Rattle.ata_trace.specs.Event.{Event}
use Rattle.ata_trace.specs.declared.act.Act.{Act}
use Rattle.host_tags.specs.declared.in_flight.InFlight.{InFlight}
use Rattle.port_past.specs.PortState.{is_asked}
use Rattle.port_past.specs.Slots.{slots}
use Rattle.port_rules.specs.Time.{tick_acts, expiry, with_request, expire_acts, has_drain_come}
use Rattle.port_rules.specs.Told.{told_if, raised_acts}
use Rattle.port_past.specs.Drives.{drive_at, plugged_drive}
use Rattle.port_rules.specs.Line.{drop_acts, stray_acts}
use Rattle.port_rules.specs.Plug.{can_plug, plug_acts, unplug_acts, fault_acts, inject_acts}
use Rattle.ata_base.specs.declared.fault.Fault.TheVariants.{Serr}
use Rattle.ata_trace.specs.declared.act.Act.TheVariants.{Aborted, Detached, Disabled, Drained, Expired, Requested, Thawed}
use Rattle.drive_model.specs.Inject.{can_inject}
use Rattle.drive_model.specs.Log.{log_fault_of}
use Rattle.drive_model.specs.View.{DriveView}
use Rattle.drive_model.specs.declared.held.Held.{Held}
use Rattle.drive_model.specs.declared.log_fault.LogFault.{LogFault}
use Rattle.drive_model.specs.declared.log_fault.LogFault.TheVariants.{Fail, NotQueued, Sum, Idle as OtherTag}
use Rattle.drive_model.specs.declared.queued_error.QueuedError.{QueuedError}
use Rattle.eh_reset.specs.declared.look.ResetLook.{ResetLook}
use Rattle.eh_reset.specs.declared.look.ResetLook.TheVariants.{Gone, Late, Open_, Ready}
use Rattle.host_tags.specs.Slots.{lowest_free}
use Rattle.host_timer.specs.Due.{has_due}
use Rattle.port_past.specs.Clock.{clock}
use Rattle.port_past.specs.Attachment.{attached}
use Rattle.port_past.specs.Drain.{is_drained}
use Rattle.port_past.specs.Line.{is_line_up}
use Rattle.port_past.specs.Links.{links, plugged_at}
use Rattle.port_rules.specs.Logs.{aborted_acts, drive_log_acts, log_acts, log_read_acts, stopped_acts}
use Rattle.port_rules.specs.Resets.{if_attached, thaw_acts}
use Rattle.port_facts.proofs.Plain.{IsPlain, ArePlain, append_plain, told_if_plain, or_nothing_plain, either_plain, raised_plain, map_plain, flat_map_plain}

-- ---- the line and the time

pub drop_plain : (past : List Event) → ArePlain (drop_acts past)
drop_plain past = either_plain (is_line_up past) _ _ (tt, tt) (tt, tt)

pub stray_plain : (past : List Event) → ArePlain (stray_acts past)
stray_plain past = or_nothing_plain (raised_acts past) (raised_plain past)

-- an act that may be told
abbrev IsPlainIf : Option Act → Type 0
IsPlainIf None = Unit {0}
IsPlainIf (Some act) = IsPlain act

filter_step : {A : Type 0} (told : A → Option Act) (act : Option Act) (x : A) (xs : List A) → told x ≡ act → IsPlainIf act
    → ArePlain (filter_map told xs) → ArePlain (filter_map told (x ∷ xs))
filter_step told None x xs is plain rest = rw is rest
filter_step told (Some act) x xs is plain rest = rw is (plain, rest)

filter_plain : {A : Type 0} (told : A → Option Act) → ((x : A) → IsPlainIf (told x)) → (xs : List A) → ArePlain (filter_map told xs)
filter_plain told each [] = tt
filter_plain told each (x ∷ xs) = filter_step told (told x) x xs refl (each x) (filter_plain told each xs)

expiry_by : (b : Bool) (f : InFlight) → IsPlainIf (if b then Some (Expired f.id f.number) else None)
expiry_by true f = tt
expiry_by false f = tt

expiry_plain : (clock : ℕ) (drained : Bool) (slot : Option InFlight) → IsPlainIf (expiry clock drained slot)
expiry_plain clock drained None = tt
expiry_plain clock drained (Some f) = expiry_by (has_due clock drained (Some f) && not f.expired) f

request_plain : (asked : Bool) (acts : List Act) → ArePlain acts → ArePlain (with_request asked acts)
request_plain asked [] plain = tt
request_plain asked (act ∷ rest) plain = (plain.0, append_plain rest _ plain.1 (told_if_plain (not asked) Requested tt))

pub expire_plain : (head : PortHead) (past : List Event) → ArePlain (expire_acts head past)
expire_plain head past =
    or_nothing_plain _
    (append_plain (told_if (has_drain_come head past) Drained) _ (told_if_plain (has_drain_come head past) Drained tt)
    (request_plain (is_asked past) _
    (filter_plain (expiry (clock past) (has_drain_come head past || is_drained past)) (expiry_plain (clock past) (has_drain_come head past || is_drained past)) (slots past))))

-- ---- hotplug and faults

pub plug_plain : (head : PortHead) (past : List Event) (place drive : ℕ) → ArePlain (plug_acts head past place drive)
plug_plain head past place drive =
    either_plain (can_plug head (links head past) place drive) _ _ (tt, raised_plain past) (tt, tt)

pub unplug_plain : (head : PortHead) (past : List Event) (place : ℕ) → ArePlain (unplug_acts head past place)
unplug_plain head past place =
    either_plain (is_some (plugged_at (links head past) place)) _ _ (tt, raised_plain past) (tt, tt)

fault_plain : (past : List Event) (place : ℕ) (fault : Fault) (v : Option DriveView) → ArePlain (fault_acts past place fault v)
fault_plain past place (Serr bit) v = (tt, raised_plain past)
fault_plain past place fault None = (tt, tt)
fault_plain past place fault (Some v) = either_plain (can_inject fault v) _ _ (tt, tt) (tt, tt)

pub inject_plain : (head : PortHead) (past : List Event) (place : ℕ) (fault : Fault) → ArePlain (inject_acts head past place fault)
inject_plain head past place fault =
    either_plain (nat_lt place head.places) _ _ (fault_plain past place fault (plugged_drive head past place)) (tt, tt)

-- ---- logs

aborted_plain : (holds : List Held) → ArePlain (aborted_acts holds)
aborted_plain holds =
    flat_map_plain (λ tag. map (λ (h : Held). Aborted h.number) (filter (λ h. h.tag == tag) holds))
    (λ tag. map_plain (λ (h : Held). Aborted h.number) (λ h. tt) (filter (λ h. h.tag == tag) holds)) (range_with_len 0 32)

read_plain : (place : ℕ) (holds : List Held) (e : QueuedError) (fault : Option LogFault) → ArePlain (log_read_acts place holds e fault)
read_plain place holds e None = (tt, aborted_plain holds)
read_plain place holds e (Some Fail) = (tt, tt)
read_plain place holds e (Some Sum) = (tt, aborted_plain holds)
read_plain place holds e (Some NotQueued) = (tt, aborted_plain holds)
read_plain place holds e (Some (OtherTag tag)) = (tt, aborted_plain holds)

stopped_plain : (place : ℕ) (idle : Option ℕ) (v : DriveView) (e : Option QueuedError) → ArePlain (stopped_acts place idle v e)
stopped_plain place idle v None = (tt, tt)
stopped_plain place idle v (Some e) = read_plain place v.held e (log_fault_of v.counts idle)

drive_log_plain : (place : ℕ) (idle : Option ℕ) (v : Option DriveView) → ArePlain (drive_log_acts place idle v)
drive_log_plain place idle None = (tt, tt)
drive_log_plain place idle (Some v) = stopped_plain place idle v v.stopped

pub log_plain : (head : PortHead) (past : List Event) (place : ℕ) → ArePlain (log_acts head past place)
log_plain head past place = drive_log_plain place (lowest_free (slots past)) (drive_at head past place)

-- ---- resets and identities

thaw_plain : (head : PortHead) → ArePlain (thaw_acts head)
thaw_plain head = told_if_plain (not head.pmp) Thawed tt

attached_plain : (past : List Event) (place : ℕ) (act : Act) → IsPlain act → ArePlain (if_attached past place act)
attached_plain past place act plain = told_if_plain (slice_index_or (attached past) place false) act plain

pub look_plain : (head : PortHead) (past : List Event) (place attempt : ℕ) (v : Option DriveView) (look : ResetLook) → ArePlain (look_acts head past place attempt v look)
look_plain head past place attempt v Gone =
    (tt, append_plain (thaw_acts head) _ (thaw_plain head) (attached_plain past place (Detached place) tt))
look_plain head past place attempt v Ready = (tt, thaw_plain head)
look_plain head past place attempt v Late =
    (tt, either_plain (nat_lt attempt 4) _ _ tt (tt, attached_plain past place (Disabled place) tt))
look_plain head past place attempt v Open_ = (tt, tt)

pub unheard_plain : (past : List Event) (place attempt deadline : ℕ) → ArePlain (unanswered_acts past place attempt deadline)
unheard_plain past place attempt deadline =
    either_plain (nat_le deadline (clock past)) _ _
    (tt, either_plain (nat_lt attempt 3) _ _ tt (attached_plain past place (Disabled place) tt)) (tt, tt)
