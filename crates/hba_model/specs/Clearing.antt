use Rattle.std.specs.Prelude.{ℕ, false, Option, None, Some, map, replicate, slice_set}
use Rattle.ata_base.specs.Limits.{most_places}
use Rattle.hba_model.specs.HbaView.{HbaView}
use Rattle.hba_model.specs.Tags.{cleared_by}

-- a place's link is cleared, or with None the links of all places: the active and done bits of what was issued
-- there go, and with them TFERR and what failed there; that of one place clears IFERR too
abbrev pub with_clear_link : Option ℕ → HbaView → HbaView
with_clear_link (Some place) hba = record hba {
  tags = map (cleared_by (Some place)) hba.tags;
  tferr = slice_set hba.tferr place false;
  iferr = false;
  failed = slice_set hba.failed place None;
}
with_clear_link None hba = record hba {
  tags = map (cleared_by None) hba.tags;
  tferr = replicate most_places false;
  failed = replicate most_places None;
}
