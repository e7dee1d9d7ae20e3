-- A script as far as it was said, and what a line adds to it.
use Rattle.std.specs.Prelude.{ℕ, zero, suc, Bool, true, false, ◌&&◌, nat_eq, nat_lt, List, [], ◌∷◌, ◌++◌, length, map, codes, Option, Some, None, slice_get}
use Rattle.ata_base.specs.declared.identity.Identity.{Identity}
use Rattle.ata_script.specs.Heads.{DriveSaid, PortSaid}
use Rattle.ata_script.specs.Items.{Item}
use Rattle.ata_script.specs.Items.Item.{Port, Drive, Taken}
use Rattle.ata_script.specs.Places.{is_within, is_free}
use Rattle.ata_trace.specs.declared.step.Step.{Step}

-- the version, the ports, and the steps with their actors and ports
pub record DraftView : Type 0 where
  pub version : ℕ
  pub ports : List PortSaid
  pub steps : List (ℕ × ℕ × Step)

-- a script of a version, before its second line
abbrev pub begun : ℕ → DraftView
begun version = record { version = version; ports = []; steps = [] }

-- whether no step was said
abbrev pub no_steps : List (ℕ × ℕ × Step) → Bool
no_steps [] = true
no_steps (step ∷ rest) = false

-- the places of drives
abbrev pub places_of : List DriveSaid → List (Option ℕ)
places_of drives = map (λ drive. drive.place) drives

-- whether a drive is the next one of a port that was declared, at one of its places, which isn't taken
abbrev pub is_next_drive : Option PortSaid → ℕ → Option ℕ → Bool
is_next_drive None number place = false
is_next_drive (Some port) number place =
    nat_eq number (length port.drives) && (is_within port.places place && is_free (places_of port.drives) place)

-- whether an item stands in order: a head line before any step line, a port line with the next number, a
-- drive line as above, and a step line at a port that was declared
abbrev pub is_in_order : DraftView → Item → Bool
is_in_order said (Port number places pmp fbs drain) = no_steps said.steps && nat_eq number (length said.ports)
is_in_order said (Drive port number place model serial sectors depth generation ready) =
    no_steps said.steps && is_next_drive (slice_get said.ports port) number place
is_in_order said (Taken actor port step) = nat_lt port (length said.ports)

-- the identity of a drive that a script declares
abbrev pub identity_said : List ℕ → List ℕ → ℕ → ℕ → ℕ → Identity
identity_said model serial sectors depth generation = record {
  model = model;
  serial = serial;
  firmware = codes "ATAHOST1";
  sectors = sectors;
  depth = depth;
  gen_no = generation;
  udma = 127;
}

-- ports with one drive more at that of this number
abbrev pub with_drive : ℕ → DriveSaid → List PortSaid → List PortSaid
with_drive number drive [] = []
with_drive zero drive (port ∷ rest) = record port { drives = port.drives ++ drive ∷ [] } ∷ rest
with_drive (suc number) drive (port ∷ rest) = port ∷ with_drive number drive rest

-- what was said with an item more
abbrev pub with_item : DraftView → Item → DraftView
with_item said (Port number places pmp fbs drain) =
    record said { ports = said.ports ++ (record { places = places; pmp = pmp; fbs = fbs; drain = drain; drives = [] }) ∷ [] }
with_item said (Drive port number place model serial sectors depth generation ready) =
    record said { ports = with_drive port (record { place = place; identity = identity_said model serial sectors depth generation; ready = ready }) said.ports }
with_item said (Taken actor port step) = record said { steps = said.steps ++ (actor, port, step) ∷ [] }
