use Rattle.std.specs.Prelude.{◌≡◌, ℕ, zero, suc, ◌==◌, ◌≤◌, Bool, false, not, List, [], ◌∷◌, All, length, slice_index, if◌then◌else◌}
use Rattle.std.specs.List.{count_by}
use Rattle.ata_base.specs.Limits.{most_sectors}
use Rattle.ata_base.specs.declared.cmd.Cmd.{Cmd}
use Rattle.ata_base.specs.declared.op.Op.{Op}
use Rattle.ata_base.specs.declared.op.Op.TheVariants.{Read, Write, Verify}
use Rattle.ata_trace.specs.ScriptRanges.{IsScriptOp}
use Rattle.port_past.specs.Commands.{is_accepted}

-- the accepted commands in the order of acceptance, and for how many more there is room
pub record CommandTableView : Type 0 where
  pub list : List Cmd
  pub room : ℕ

-- a read, a write or a verify asks for at most 16 sectors
abbrev pub AsksForFew : Op → Type 0
AsksForFew (Read lba count) = count ≤ most_sectors
AsksForFew (Write lba count stamp) = count ≤ most_sectors
AsksForFew (Verify lba count) = count ≤ most_sectors
AsksForFew _ = Unit {0}

-- a command that fits a frame, and whose wait is in its range
pub record CanServe (c : Cmd) : Type 0 where
  pub few : AsksForFew c.op
  pub low : IsScriptOp c.op
  pub wait : c.wait.n ≤ 1000000

-- the place of a number in a table counts from 1
abbrev pub one_more : ℕ → ℕ
one_more zero = zero
one_more (suc n) = suc (suc n)

-- where the command of a number stands in a list, counted from 1; 0 where there is none
abbrev pub index_of : ℕ → List Cmd → ℕ
index_of id [] = 0
index_of id (c ∷ rest) = if c.id == id then 1 else one_more (index_of id rest)

-- no two commands have the same number
abbrev pub AreApart : List Cmd → Type 0
AreApart [] = Unit {0}
AreApart (c ∷ rest) = (is_accepted c.id rest ≡ false) × AreApart rest

-- a number in a table says where a command stands
abbrev pub says_place : ℕ → Bool
says_place at = not (at == 0)

-- a table that says of each number where its command stands; the commands have numbers of their own, and can be served
pub record IsIndex (table : List ℕ) (list : List Cmd) : Type 0 where
  pub few : length table ≤ 65536
  pub stands : (id : ℕ) → slice_index table id ≡ index_of id list
  pub counted : count_by says_place table ≡ length list
  pub apart : AreApart list
  pub served : All CanServe list
