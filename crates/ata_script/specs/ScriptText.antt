-- The text of a script, without comments and empty lines.
use Rattle.std.specs.Prelude.{ℕ, ◌+◌, ◌==◌, List, [], ◌∷◌, ◌++◌, codes, if◌then◌else◌}
use Rattle.ata_trace.specs.Text.{joined}
use Rattle.ata_trace.specs.declared.step.Step.{Step}
use Rattle.ata_script.specs.Draft.{DraftView}
use Rattle.ata_script.specs.Heads.{DriveSaid, PortSaid}
use Rattle.ata_script.specs.Items.{Item, item_words}
use Rattle.ata_script.specs.Items.Item.{Port, Drive, Taken}
use Rattle.ata_script.specs.Scripts.{script_said}
use Rattle.ata_script.specs.declared.script.Script.{Script}

-- words, with one space between two of them
abbrev pub spaced : List (List ℕ) → List ℕ
spaced [] = []
spaced (word ∷ rest) = joined word rest

-- the line of an item, without its line feed
abbrev pub item_text : Item → List ℕ
item_text item = spaced (item_words item)

-- the lines of items, each with its line feed
abbrev pub items_text : List Item → List ℕ
items_text [] = []
items_text (item ∷ rest) = item_text item ++ 10 ∷ items_text rest

-- the item of a drive of a port
abbrev pub drive_item_of : ℕ → ℕ → DriveSaid → Item
drive_item_of port number drive =
    Drive port number drive.place drive.identity.model drive.identity.serial drive.identity.sectors drive.identity.depth drive.identity.gen_no drive.ready

-- the drives of a port, of which the first has this number
abbrev pub drive_items : ℕ → ℕ → List DriveSaid → List Item
drive_items port number [] = []
drive_items port number (drive ∷ rest) = drive_item_of port number drive ∷ drive_items port (number + 1) rest

-- the item of a port
abbrev pub port_item_of : ℕ → PortSaid → Item
port_item_of number port = Port number port.places port.pmp port.fbs port.drain

-- ports, of which the first has this number, each with its drives behind it
abbrev pub port_items : ℕ → List PortSaid → List Item
port_items number [] = []
port_items number (port ∷ rest) = port_item_of number port ∷ (drive_items number 0 port.drives ++ port_items (number + 1) rest)

-- steps
abbrev pub step_items : List (ℕ × ℕ × Step) → List Item
step_items [] = []
step_items (step ∷ rest) = Taken step.0 step.1 step.2 ∷ step_items rest

-- line 1, without its line feed
abbrev pub version_line : ℕ → List ℕ
version_line version = if version == 2 then codes "atahost 2" else codes "atahost 1"

-- what a script says, as a text: line 1, each port with its drives, the steps
abbrev pub said_text : DraftView → List ℕ
said_text said = version_line said.version ++ 10 ∷ (items_text (port_items 0 said.ports) ++ items_text (step_items said.steps))

-- the text of a script
abbrev pub script_text : Script → List ℕ
script_text script = said_text (script_said script)
