use Rattle.std.specs.Prelude.{ℕ, Bool, true, false, List, replicate, unwrap_or, slice_get, slice_set}
use Rattle.std.specs.Simd.Lanes.{mask_l}
use Rattle.ata_base.specs.Limits.{most_places}
use Rattle.hba_model.specs.HbaView.{HbaView}
use Rattle.hba_model.specs.declared.causes.Cause.{Cause}
use Rattle.hba_model.specs.declared.causes.Cause.TheVariants.{Done, Tferr, Iferr, Connect, Notify}
use Rattle.hba_model.specs.declared.causes.Causes.{Causes}

-- The causes that stand at a controller.

-- whether TFERR of a place stands
abbrev pub has_tferr : List Bool → ℕ → Bool
has_tferr tferr place = unwrap_or (slice_get tferr place) false

-- the causes that stand, TFERR as a mask whose bit p stands for place p
abbrev pub causes_of : HbaView → Causes
causes_of hba = record {
  done = hba.done;
  tferr = mask_l hba.tferr;
  iferr = hba.iferr;
  connect = hba.connect;
  notify = hba.notify;
}

-- a cause stands from now on, and all else stays
abbrev pub with_cause : Cause → HbaView → HbaView
with_cause Done hba = record hba { done = true }
with_cause (Tferr place) hba = record hba { tferr = slice_set hba.tferr place true }
with_cause Iferr hba = record hba { iferr = true }
with_cause Connect hba = record hba { connect = true }
with_cause Notify hba = record hba { notify = true }

-- no cause stands any more, and all else stays
abbrev pub without_causes : HbaView → HbaView
without_causes hba =
    record hba { done = false; tferr = replicate most_places false; iferr = false; connect = false; notify = false }
