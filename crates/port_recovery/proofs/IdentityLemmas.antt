-- The identity of a drive, as recovery reads it.
use Rattle.std.proofs.Common.{◌≡◌, ◌∙◌, ℕ, Bool, false, not, ◌||◌, List, [], ◌∷◌, Option, Some, None, slice_get, refl, sym, ap, subst, arith}
use Rattle.std.specs.List.{slice_index_or}
use Rattle.std.specs.Option.{option_map_or}
use Rattle.std.specs.Prelude.{option_map, option_and_then}
use Rattle.ata_base.specs.declared.identity.Identity.{Identity}
use Rattle.ata_script.specs.declared.drive_head.DriveHead.{DriveHead}
use Rattle.ata_script.specs.declared.port_head.PortHead.{PortHead}
use Rattle.ata_trace.specs.Event.{Event}
use Rattle.ata_trace.specs.Event.Event.{Told}
use Rattle.ata_trace.specs.declared.act.Act.{Act}
use Rattle.ata_trace.specs.declared.act.Act.TheVariants.{Identified, Mode}
use Rattle.drive_model.specs.View.{DriveView}
use Rattle.port_ledger.specs.LedgerView.{LedgerView, Goes, past}
use Rattle.port_past.specs.Doubt.{dubious}
use Rattle.port_past.specs.Drives.{drive_at}
use Rattle.port_past.specs.Heads.{identity_of}
use Rattle.port_past.specs.Links.{links, linked_at}
use Rattle.port_recovery.proofs.DriveIdentities.{identity_linked}
use Rattle.port_rules.specs.Identities.{attach_acts, ident_read_acts, identity_acts, identity_read_acts, is_attached_drive, is_other_mode, mode_act, ncq_of, udma_of}
use Rattle.port_telling.proofs.AddLemmas.{adds_more, adds_same, adds_act}
use Rattle.port_telling.specs.Adds.{Adds}

-- the acts by who the drive is
abbrev pub read_acts : List Event → ℕ → Option Identity → List Act
read_acts past place found = option_map_or (identity_acts past place) found []

read_of :
    (past : List Event) (place : ℕ) (v : Option DriveView)
    → ident_read_acts past place v ≡ read_acts past place (option_map (λ (d : DriveView). d.identity) v)
read_of past place None = refl
read_of past place (Some v) = refl

read_is :
    (head : PortHead) (past : List Event) (place : ℕ) (number : Option ℕ)
    → option_and_then (identity_of head.drives) number
    ≡ option_and_then (identity_of head.drives) (linked_at (links head past) place)
    → read_acts past place (option_and_then (identity_of head.drives) number)
    ≡ ident_read_acts past place (drive_at head past place)
read_is head past place number is =
    ap (read_acts past place) (is ∙ sym (identity_linked head past place))
    ∙ sym (read_of past place (drive_at head past place))

-- what a place tells is what its head says of the drive that is linked there
pub linked_told :
    {first last : LedgerView} (place : ℕ) (number : Option ℕ)
    → option_and_then (identity_of first.head.drives) number
    ≡ option_and_then (identity_of first.head.drives) (linked_at (links first.head (past first)) place)
    → Adds first last (read_acts (past first) place (option_and_then (identity_of first.head.drives) number))
    → Adds first last (ident_read_acts (past first) place (drive_at first.head (past first) place))
linked_told {first} {last} place number is told = adds_same (read_is first.head (past first) place number is) told

-- what is told of the drive of a number
pub found_told :
    {first last : LedgerView} (place number : ℕ) (heads : List DriveHead) (d : DriveHead)
    → slice_get heads number ≡ Some d → heads ≡ first.head.drives
    → Adds first last (identity_acts (past first) place d.identity)
    → Adds first last (read_acts (past first) place (identity_of first.head.drives number))
found_told {first} {last} place number heads d is same told =
    subst (λ hs. Adds first last (read_acts (past first) place (identity_of hs number))) same (rw is told)

-- nothing is told
pub adds_none : (ledger : LedgerView) → Adds ledger ledger []
adds_none ledger = record { past = refl; head = refl; room = omega arith }

-- the mode is computed from the past before the identity
mode_is :
    (past : List Event) (place udma : ℕ) (same ncq doubt : Bool) (found : Identity)
    → udma ≡ udma_of past place same → ncq ≡ ncq_of past place same found
    → doubt ≡ (not same || slice_index_or (dubious past) place false || is_other_mode past place udma ncq)
    → Mode place udma ncq doubt ≡ mode_act past place same (udma_of past place same) (ncq_of past place same found)
mode_is past place udma same ncq doubt found fast on in_doubt = rw (in_doubt, fast, on) refl

-- an identity is told, then what becomes of the device, then its mode
pub identity_told :
    {first noted mid last : LedgerView} (place udma : ℕ) (same ncq doubt : Bool) (found : Identity)
    → Goes first noted 0 1 (Told (Identified place found.model found.serial found.sectors found.depth) ∷ past first)
    → Adds noted mid (attach_acts (past noted) place same)
    → Goes mid last 0 1 (Told (Mode place udma ncq doubt) ∷ past mid)
    → same ≡ is_attached_drive (past first) place found
    → udma ≡ udma_of (past first) place same → ncq ≡ ncq_of (past first) place same found
    → doubt
    ≡ (not same || slice_index_or (dubious (past first)) place false || is_other_mode (past first) place udma ncq)
    → Adds first last (identity_acts (past first) place found)
identity_told {first} {noted} {mid} {last} place udma same ncq doubt found goes attach told is fast on in_doubt =
    let attached : attach_acts (past noted) place same ≡ attach_acts (past first) place same =
    ap (λ p. attach_acts p place same) goes.past in
    let mode = mode_is (past first) place udma same ncq doubt found fast on in_doubt in
    subst (λ it. Adds first last (identity_read_acts (past first) place found it)) is
    (adds_more (adds_act goes)
    (adds_more (adds_same attached attach) (adds_same (ap (λ (act : Act). act ∷ []) mode) (adds_act told))))
