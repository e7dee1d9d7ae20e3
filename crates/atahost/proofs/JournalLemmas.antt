-- Heads that say the same are the same, so journals follow from what is said.
use Rattle.std.proofs.Common.{◌≡◌, ◌≤◌, ℕ, true, not, ◌||◌, ◌==◌, List, [], ◌∷◌, codes, length, map, refl, sym, ap, ◌∙◌}
use Rattle.std.proofs.Math.Path.{PathP, to_path_p}
use Rattle.std.proofs.Props.{props}
use Rattle.ata_base.specs.Limits.{most_drive_sectors}
use Rattle.ata_script.specs.DrivePlaces.{drive_places}
use Rattle.ata_script.specs.Draft.{DraftView}
use Rattle.ata_script.specs.Heads.{PortSaid, drive_said, port_said}
use Rattle.ata_script.specs.Places.{are_within, are_apart}
use Rattle.ata_script.specs.Scripts.{IsScript, script_said}
use Rattle.ata_script.specs.declared.drive_head.DriveHead.{DriveHead}
use Rattle.ata_script.specs.declared.port_head.PortHead.{PortHead}
use Rattle.ata_script.specs.declared.script.Script.{Script}
use Rattle.ata_trace.specs.Entries.{EntryView}
use Rattle.ata_trace.specs.Names.{IsDriveName}
use Rattle.atahost.specs.Journals.{AreJournalsOf}
use Rattle.port_core.specs.Weave.{journals_of}

-- two proofs of a fact are joined along its way, where it has one proof at the end
joined : (B : 𝕀 → Type 0) → IsProp (B 1) → (a : B 0) (b : B 1) → PathP B a b
joined B once a b = to_path_p B (once _ b)

-- two drives of which the same is said are one: each of their promises has one proof
same_drive : (a b : DriveHead) → drive_said a ≡ drive_said b → a ≡ b
same_drive a b p = λ i. record {
  place = (p i).place;
  identity = (p i).identity;
  ready = record { n = (p i).ready };
  model = joined (λ i. ∥ IsDriveName (p i).identity.model ∥₁) (hlevel props) a.model b.model i;
  serial = joined (λ i. ∥ IsDriveName (p i).identity.serial ∥₁) (hlevel props) a.serial b.serial i;
  firmware = joined (λ i. (p i).identity.firmware ≡ codes "ATAHOST1") (hlevel props) a.firmware b.firmware i;
  some_sectors = joined (λ i. 1 ≤ (p i).identity.sectors) (hlevel props) a.some_sectors b.some_sectors i;
  most_sectors = joined (λ i. (p i).identity.sectors ≤ most_drive_sectors) (hlevel props) a.most_sectors b.most_sectors i;
  depth = joined (λ i. (p i).identity.depth ≤ 32) (hlevel props) a.depth b.depth i;
  first_generation = joined (λ i. 1 ≤ (p i).identity.gen_no) (hlevel props) a.first_generation b.first_generation i;
  last_generation = joined (λ i. (p i).identity.gen_no ≤ 3) (hlevel props) a.last_generation b.last_generation i;
  udma = joined (λ i. (p i).identity.udma ≡ 127) (hlevel props) a.udma b.udma i;
  wait = joined (λ i. (p i).ready ≤ 60000) (hlevel props) a.wait b.wait i;
}

-- lists of which the same is said are one, where that holds of each
same_list :
    {A B : Type 0} (said : A → B) → ((a b : A) → said a ≡ said b → a ≡ b) → (xs ys : List A) → map said xs ≡ map said ys
    → xs ≡ ys
same_list said one [] [] p = refl
same_list said one [] (y ∷ ys) p = absurd (cc p)
same_list said one (x ∷ xs) [] p = absurd (cc p)
same_list said one (x ∷ xs) (y ∷ ys) p =
    let first : said x ≡ said y = cc p in
    let rest : map said xs ≡ map said ys = cc p in
    λ i. one x y first i ∷ same_list said one xs ys rest i

-- two ports of which the same is said are one
same_port : (a b : PortHead) → port_said a ≡ port_said b → a ≡ b
same_port a b p =
    let q : a.drives ≡ b.drives =
    same_list drive_said same_drive a.drives b.drives (ap (λ (s : PortSaid). s.drives) p) in
    λ i. record {
      places = (p i).places;
      pmp = (p i).pmp;
      fbs = (p i).fbs;
      drain = (p i).drain;
      drives = q i;
      some_places = joined (λ i. 1 ≤ (p i).places) (hlevel props) a.some_places b.some_places i;
      most_places = joined (λ i. (p i).places ≤ 15) (hlevel props) a.most_places b.most_places i;
      direct = joined (λ i. ((p i).pmp || (p i).places == 1) ≡ true) (hlevel props) a.direct b.direct i;
      switched = joined (λ i. ((p i).pmp || not (p i).fbs) ≡ true) (hlevel props) a.switched b.switched i;
      few_drives = joined (λ i. length (q i) ≤ 32) (hlevel props) a.few_drives b.few_drives i;
      standing = joined (λ i. are_within (p i).places (drive_places (q i)) ≡ true) (hlevel props) a.standing b.standing i;
      apart = joined (λ i. are_apart (drive_places (q i)) ≡ true) (hlevel props) a.apart b.apart i;
    }

-- bytes that are one script have one list of journals
pub one_list :
    ((bytes : List ℕ) → (a b : Script) → IsScript bytes a → IsScript bytes b → script_said a ≡ script_said b)
    → (rounds : ℕ) → (bytes : List ℕ) → (these those : List (List EntryView)) → AreJournalsOf rounds bytes these
    → AreJournalsOf rounds bytes those → these ≡ those
one_list once rounds bytes these those p q =
    let said : script_said p.script ≡ script_said q.script = once bytes p.script q.script p.read q.read in
    let heads : p.script.head ≡ q.script.head =
    same_list port_said same_port p.script.head q.script.head (ap (λ (d : DraftView). d.ports) said) in
    p.made ∙ (λ i. journals_of rounds (heads i) (said i).steps) ∙ sym q.made
