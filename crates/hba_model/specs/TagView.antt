use Rattle.std.specs.Prelude.{ℕ, Option, None}

-- how far the command under a tag has come: it is neither active nor done, it is active, or its done bit stands
pub data Stage : Type 0 where
  Idle : Stage
  Active : Stage
  Done : Stage

-- a tag: the place at which it was issued last, None where it never was, and how far its command has come
pub record TagView : Type 0 where
  pub place : Option ℕ
  pub stage : Stage

-- a tag before its first issue
abbrev pub never_issued : TagView
never_issued = record { place = None; stage = Idle }
