-- The lines of a port and its drives were appended.
use Rattle.std.proofs.Common.{◌≡◌, ℕ, ◌+◌, ◌<◌, List, ◌∷◌, ◌++◌, length, drop, get_or, sym, ◌∙◌, ap, append_assoc, codes}
use Rattle.std.specs.Prelude.{map}
use Rattle.std.proofs.lemmas.List.{drop_more}
use Rattle.ata_script.specs.Heads.{drive_said, port_said}
use Rattle.ata_script.specs.ScriptText.{item_text, items_text, drive_items, port_item_of, port_items}
use Rattle.ata_script.specs.declared.drive_head.DriveHead.{DriveHead}
use Rattle.ata_script.specs.declared.port_head.PortHead.{PortHead}
use Rattle.ata_script.proofs.LinesWritten.{items_on}

pub port_put : (old mid new line all : List ℕ) (number : ℕ) (ports : List PortHead) (at : ℕ) (port : PortHead) (lent : List DriveHead) → at < length ports → port ≡ get_or ports at port
    → line ≡ item_text (port_item_of number (port_said port)) ++ codes "\n" → mid ≡ old ++ line
    → lent ≡ port.drives → new ≡ mid ++ items_text (drive_items number 0 (map drive_said lent))
    → old ++ items_text (port_items number (map port_said (drop at ports))) ≡ all
    → new ++ items_text (port_items (number + 1) (map port_said (drop (at + 1) ports))) ≡ all
port_put old mid new line all number ports at port lent within is line_is mid_is lent_is new_is so_far =
    let rest = port_items (number + 1) (map port_said (drop (at + 1) ports)) in
    let drives = drive_items number 0 (map drive_said port.drives) in
    let first = item_text (port_item_of number (port_said port)) in
    let here : drop at ports ≡ port ∷ drop (at + 1) ports = drop_more ports at port within ∙ ap (λ p. p ∷ drop (at + 1) ports) (sym is) in
    let split : items_text (port_items number (map port_said (drop at ports))) ≡ first ++ 10 ∷ (items_text drives ++ items_text rest) =
    ap (λ (ps : List PortHead). items_text (port_items number (map port_said ps))) here ∙ ap (λ more. first ++ 10 ∷ more) (items_on drives rest) in
    let put : new ≡ (old ++ (first ++ codes "\n")) ++ items_text drives =
    new_is ∙ ap (λ (ds : List DriveHead). mid ++ items_text (drive_items number 0 (map drive_said ds))) lent_is ∙ ap (λ m. m ++ items_text drives) (mid_is ∙ ap (λ l. old ++ l) line_is) in
    let joined : ((old ++ (first ++ codes "\n")) ++ items_text drives) ++ items_text rest ≡ old ++ (first ++ 10 ∷ (items_text drives ++ items_text rest)) =
    append_assoc (old ++ (first ++ codes "\n")) (items_text drives) (items_text rest)
    ∙ append_assoc old (first ++ codes "\n") (items_text drives ++ items_text rest)
    ∙ ap (λ t. old ++ t) (append_assoc first (codes "\n") (items_text drives ++ items_text rest)) in
    ap (λ t. t ++ items_text rest) put ∙ joined ∙ ap (λ t. old ++ t) (sym split) ∙ so_far
