-- What a text says, written, is read again.
use Rattle.std.proofs.Common.{arith, ◌≡◌, ℕ, ◌+◌, Bool, true, false, ◌==◌, List, [], ◌∷◌, ◌++◌, length, refl, sym, ◌∙◌, ap, subst, append_assoc, append-nil, length-append, codes}
use Rattle.std.specs.Prelude.{Some, None, nat_eq, slice_get, if◌then◌else◌}
use Rattle.std.proofs.Props.{props}
use Rattle.std.proofs.lemmas.Bool.Decides.{nat_tests}
use Rattle.ata_base.specs.declared.identity.Identity.{Identity}
use Rattle.ata_trace.specs.Parts.{words_of}
use Rattle.ata_trace.specs.declared.step.Step.{Step}
use Rattle.ata_script.specs.Draft.{DraftView, begun, is_next_drive, is_in_order, identity_said, with_drive, with_item}
use Rattle.ata_script.specs.Grammar.{Line, lines_of, is_skipped, first_rule, later_fault, with_lines}
use Rattle.ata_script.specs.Heads.{DriveSaid, PortSaid}
use Rattle.ata_script.specs.Items.{Item}
use Rattle.ata_script.specs.Items.Item.{Taken}
use Rattle.ata_script.specs.OfText.{Says}
use Rattle.ata_script.specs.ScriptText.{item_text, items_text, drive_item_of, drive_items, port_item_of, port_items, step_items, version_line, said_text}
use Rattle.ata_script.specs.Taking.{item_for}
use Rattle.ata_script.proofs.DraftsGood.{GoodDrives, GoodPorts, GoodSteps, Good, text_good}
use Rattle.ata_script.proofs.LinesWritten.{Written, is_one_line, line_before, items_on}

-- the lines of items
abbrev lines_for : List Item → List Line
lines_for [] = []
lines_for (item ∷ rest) = record { text = item_text item; ended = true } ∷ lines_for rest

-- the lines of these items lead from one draft to another, without a fault
record Reads (said : DraftView) (items : List Item) (next : DraftView) : Type 0 where
  right : (number : ℕ) → later_fault number said (lines_for items) ≡ None
  says : with_lines said (lines_for items) ≡ next
  text : lines_of (items_text items) ≡ lines_for items

reads_one : (said : DraftView) (item : Item) (rest : List Item) (mid next : DraftView) → Written said.version item → is_in_order said item ≡ true → with_item said item ≡ mid
    → Reads mid rest next → Reads said (item ∷ rest) next
reads_one said item rest mid next line order is reads =
    let one : (if is_skipped (item_text item) then said else with_item said (item_for said.version (words_of (item_text item)))) ≡ mid = rw (line.kept, line.is) is in
    record {
      right = λ number. rw (line.kept, line.right, line.is, order, is) (reads.right (number + 1));
      says = ap (λ (draft : DraftView). with_lines draft (lines_for rest)) one ∙ reads.says;
      text = line_before (item_text item) (items_text rest) line.one ∙ ap (λ lines. record { text = item_text item; ended = true } ∷ lines) reads.text;
    }

-- the drives of the last port

-- a port with these drives
abbrev having : PortSaid → List DriveSaid → PortSaid
having port drives = record port { drives = drives }

-- ports, and no steps
abbrev heads : ℕ → List PortSaid → DraftView
heads version ports = record { version = version; ports = ports; steps = [] }

last_is : (done : List PortSaid) (port : PortSaid) → slice_get (done ++ port ∷ []) (length done) ≡ Some port
last_is [] port = refl
last_is (first ∷ done) port = last_is done port

last_with : (done : List PortSaid) (port : PortSaid) (drive : DriveSaid) → with_drive (length done) drive (done ++ port ∷ []) ≡ done ++ having port (port.drives ++ drive ∷ []) ∷ []
last_with [] port drive = refl
last_with (first ∷ done) port drive = ap (λ rest. first ∷ rest) (last_with done port drive)

one_count : (ports : List PortSaid) (port : PortSaid) → length (ports ++ port ∷ []) ≡ length ports + 1
one_count ports port = omega (arith, length-append ports (port ∷ []))

same_eq : (n : ℕ) → nat_eq n n ≡ true
same_eq n = grind (arith, nat_tests)

reads_drives : (version : ℕ) (done : List PortSaid) (port : PortSaid) (before drives : List DriveSaid) (rest : List Item) (next : DraftView)
    → GoodDrives version (length done) port.places before drives → Reads (heads version (done ++ having port (before ++ drives) ∷ [])) rest next
    → Reads (heads version (done ++ having port before ∷ [])) (drive_items (length done) (length before) drives ++ rest) next
reads_drives version done port before [] rest next good reads =
    subst (λ (drives : List DriveSaid). Reads (heads version (done ++ having port drives ∷ [])) rest next) (append-nil before) reads
reads_drives version done port before (drive ∷ drives) rest next good reads =
    let at = having port before in
    let behind = before ++ drive ∷ [] in
    let count : length behind ≡ length before + 1 = omega (arith, length-append before (drive ∷ [])) in
    let order : is_next_drive (slice_get (done ++ at ∷ []) (length done)) (length before) drive.place ≡ true = rw (last_is done at, same_eq (length before)) good.0.stands in
    let more : Reads (heads version (done ++ having port (behind ++ drives) ∷ [])) rest next =
    subst (λ (all : List DriveSaid). Reads (heads version (done ++ having port all ∷ [])) rest next) (sym (append_assoc before (drive ∷ []) drives)) reads in
    let later : Reads (heads version (done ++ having port behind ∷ [])) (drive_items (length done) (length before + 1) drives ++ rest) next =
    subst (λ (n : ℕ). Reads (heads version (done ++ having port behind ∷ [])) (drive_items (length done) n drives ++ rest) next) count
    (reads_drives version done port behind drives rest next good.1 more) in
    let put : with_drive (length done) (record { place = drive.place; identity = identity_said drive.identity.model drive.identity.serial drive.identity.sectors drive.identity.depth drive.identity.gen_no; ready = drive.ready }) (done ++ at ∷ []) ≡ done ++ having port behind ∷ [] =
    ap (λ (identity : Identity). with_drive (length done) (record { place = drive.place; identity = identity; ready = drive.ready }) (done ++ at ∷ [])) (sym good.0.identity) ∙ last_with done at drive in
    reads_one (heads version (done ++ at ∷ [])) (drive_item_of (length done) (length before) drive) (drive_items (length done) (length before + 1) drives ++ rest)
    (heads version (done ++ having port behind ∷ [])) next good.0.line order
    (ap (heads version) put) later

reads_ports : (version : ℕ) (done ports : List PortSaid) (more : List Item) (next : DraftView) → GoodPorts version (length done) ports
    → Reads (heads version (done ++ ports)) more next → Reads (heads version done) (port_items (length done) ports ++ more) next
reads_ports version done [] more next good reads = subst (λ (all : List PortSaid). Reads (heads version all) more next) (append-nil done) reads
reads_ports version done (port ∷ ports) more next good reads =
    let count : length (done ++ port ∷ []) ≡ length done + 1 = one_count done port in
    let behind : Reads (heads version ((done ++ port ∷ []) ++ ports)) more next =
    subst (λ (all : List PortSaid). Reads (heads version all) more next) (sym (append_assoc done (port ∷ []) ports)) reads in
    let other : GoodPorts version (length (done ++ port ∷ [])) ports = subst (λ (n : ℕ). GoodPorts version n ports) (sym count) good.2 in
    let later : Reads (heads version (done ++ port ∷ [])) (port_items (length done + 1) ports ++ more) next =
    subst (λ (n : ℕ). Reads (heads version (done ++ port ∷ [])) (port_items n ports ++ more) next) count (reads_ports version (done ++ port ∷ []) ports more next other behind) in
    let items : (drive_items (length done) 0 port.drives ++ port_items (length done + 1) ports) ++ more ≡ drive_items (length done) 0 port.drives ++ (port_items (length done + 1) ports ++ more) =
    append_assoc (drive_items (length done) 0 port.drives) (port_items (length done + 1) ports) more in
    subst (λ (all : List Item). Reads (heads version done) (port_item_of (length done) port ∷ all) next) (sym items)
    (reads_one (heads version done) (port_item_of (length done) port) (drive_items (length done) 0 port.drives ++ (port_items (length done + 1) ports ++ more))
    (heads version (done ++ having port [] ∷ [])) next good.0 (same_eq (length done)) refl
    (reads_drives version done port [] port.drives (port_items (length done + 1) ports ++ more) next good.1 later))

-- with these steps
abbrev taking : ℕ → List PortSaid → List (ℕ × ℕ × Step) → DraftView
taking version ports steps = record { version = version; ports = ports; steps = steps }

reads_steps : (version : ℕ) (ports : List PortSaid) (before steps : List (ℕ × ℕ × Step)) → GoodSteps version (length ports) steps
    → Reads (taking version ports before) (step_items steps) (taking version ports (before ++ steps))
reads_steps version ports before [] good = record { right = λ number. refl; says = ap (taking version ports) (sym (append-nil before)); text = refl }
reads_steps version ports before (step ∷ steps) good =
    reads_one (taking version ports before) (Taken step.0 step.1 step.2) (step_items steps) (taking version ports (before ++ step ∷ [])) (taking version ports (before ++ step ∷ steps)) good.0 good.1 refl
    (subst (λ (all : List (ℕ × ℕ × Step)). Reads (taking version ports (before ++ step ∷ [])) (step_items steps) (taking version ports all)) (append_assoc before (step ∷ []) steps)
    (reads_steps version ports (before ++ step ∷ []) steps good.2))

-- the items of all
abbrev items_of : DraftView → List Item
items_of said = port_items 0 said.ports ++ step_items said.steps

reads_all : (said : DraftView) → Good said → Reads (begun said.version) (items_of said) said
reads_all said good = reads_ports said.version [] said.ports (step_items said.steps) said good.ports (reads_steps said.version said.ports [] said.steps good.steps)

-- line 1

first_right : (second : Bool) → first_rule (record { text = if second then codes "atahost 2" else codes "atahost 1"; ended = true }) ≡ None
first_right true = refl
first_right false = refl

first_one : (second : Bool) → is_one_line (if second then codes "atahost 2" else codes "atahost 1") ≡ true
first_one true = refl
first_one false = refl

said_lines : (said : DraftView) → Good said → lines_of (said_text said) ≡ record { text = version_line said.version; ended = true } ∷ lines_for (items_of said)
said_lines said good =
    line_before (version_line said.version) (items_text (port_items 0 said.ports) ++ items_text (step_items said.steps)) (first_one (said.version == 2))
    ∙ ap (λ lines. record { text = version_line said.version; ended = true } ∷ lines)
    (ap lines_of (sym (items_on (port_items 0 said.ports) (step_items said.steps))) ∙ (reads_all said good).text)

-- what stands in order, each item as its line says it, is what its text says
pub says_again : (said : DraftView) → Good said → Says (said_text said) said
says_again said good =
    let reads = reads_all said good in
    record {
      right = rw (said_lines said good, first_right (said.version == 2), good.version) (reads.right 2);
      is = sym (rw (said_lines said good, good.version) reads.says);
    }

-- what a text without a fault says, written, says it again
pub text_says : (bytes : List ℕ) (said : DraftView) → Says bytes said → Says (said_text said) said
text_says bytes said says = says_again said (subst Good (sym says.is) (text_good bytes says.right))

-- that a text says this is one fact
pub says_once : (bytes : List ℕ) (said : DraftView) → IsProp (Says bytes said)
says_once bytes said = hlevel props
