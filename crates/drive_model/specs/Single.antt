-- No issue is held twice.
use Rattle.std.specs.Prelude.{◌≢◌, List, [], ◌∷◌}
use Rattle.drive_model.specs.declared.held.Held.{Held}
use Rattle.ata_base.specs.Each.{Each}

-- no two held issues have one number
abbrev pub AreSingle : List Held → Type 0
AreSingle [] = Unit {0}
AreSingle (h ∷ holds) = Each (λ g. g.number.n ≢ h.number.n) holds × AreSingle holds
