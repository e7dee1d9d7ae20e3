use Rattle.std.specs.Prelude.{ℕ, Bool, true, false, List, Option, None, Some, replicate, unwrap_or, slice_get, slice_set}
use Rattle.ata_base.specs.Limits.{most_places, tag_count}
use Rattle.ata_base.specs.declared.regs.Regs.{Regs}
use Rattle.hba_model.specs.TagView.{TagView, never_issued}

-- a controller: its 32 tags; the causes that stand, TFERR for each of the 15 places; for each place the tag
-- and registers of what failed there last; and whether the interrupt line is up
pub record HbaView : Type 0 where
  pub tags : List TagView
  pub done : Bool
  pub tferr : List Bool
  pub iferr : Bool
  pub connect : Bool
  pub notify : Bool
  pub failed : List (Option (ℕ × Regs))
  pub line : Bool

-- a controller on which nothing was issued yet
abbrev pub quiet : HbaView
quiet = record {
  tags = replicate tag_count never_issued;
  done = false;
  tferr = replicate most_places false;
  iferr = false;
  connect = false;
  notify = false;
  failed = replicate most_places None;
  line = false;
}

-- the tag and registers of what failed at a place, None where nothing did since it was cleared
abbrev pub failed_at : List (Option (ℕ × Regs)) → ℕ → Option (ℕ × Regs)
failed_at failed place = unwrap_or (slice_get failed place) None

-- a command under a tag failed at a place with these registers: TFERR of the place stands, they are what failed
-- there last, and all else stays, the tag's own state too
abbrev pub with_failure : ℕ → ℕ → Regs → HbaView → HbaView
with_failure t place regs hba =
    record hba { tferr = slice_set hba.tferr place true; failed = slice_set hba.failed place (Some (t, regs)) }
