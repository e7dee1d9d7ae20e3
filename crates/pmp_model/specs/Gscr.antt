use Rattle.std.specs.Prelude.{ℕ, ◌≤◌, ◌==◌, Bool, not, List, Option, None, Some, if◌then◌else◌}
use Rattle.ata_base.specs.Limits.{most_places}
use Rattle.ata_base.specs.Masks.{mask_of, passes_at}
use Rattle.link_model.specs.LinkView.{LinkView}

-- The general status and control registers of a port multiplier (Serial ATA 3.x, Port Multiplier, General
-- Status and Control Registers).

-- a port multiplier has 1 to 15 device ports
abbrev pub IsPortCount : ℕ → Type 0
IsPortCount n = (1 ≤ n) × (n ≤ most_places)

-- GSCR[0], product and vendor
abbrev pub product_and_vendor : ℕ
product_and_vendor = 65537

-- whether SError tells of anything at a link
abbrev pub has_error : LinkView → Bool
has_error link = not (link.serror == 0)

-- whether SError tells of anything at a place; a place that isn't there has no error
abbrev pub has_error_at : List LinkView → ℕ → Bool
has_error_at links place = passes_at has_error links place

-- GSCR[32], error information by port: bit i stands for place i
abbrev pub error_information : List LinkView → ℕ
error_information links = mask_of has_error links

-- a general register by its number, None where there is none of that number: 0 is product and vendor, 2 the
-- port count in bits 3:0, 32 the error information
abbrev pub gscr : ℕ → List LinkView → ℕ → Option ℕ
gscr places links reg =
    if reg == 0 then Some product_and_vendor
    else if reg == 2 then Some places
    else if reg == 32 then Some (error_information links)
    else None
