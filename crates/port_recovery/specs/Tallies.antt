use Rattle.std.specs.Prelude.{◌≡◌, ℕ, ◌==◌, Bool, not, ◌&&◌, List, fold}
use Rattle.std.specs.Int.RustNames.{bit_or}
use Rattle.std.specs.List.{list_any}
use Rattle.port_rules.specs.Autopsy.{is_io_issue}
use Rattle.port_rules.specs.AutopsyView.{AutopsyView}
use Rattle.port_rules.specs.Blame.{JudgedIssue, link_kinds}
use Rattle.port_recovery.specs.declared.tallying.Tally.{Tally}

-- the kinds of a place and of some of its owned issues
abbrev pub kinds_of_all : AutopsyView → List JudgedIssue → ℕ
kinds_of_all s issues = fold (λ kinds issue. bit_or kinds issue.kinds) (link_kinds s) issues

-- whether one of these is of a read, a write or a flush
abbrev pub has_io_among : AutopsyView → List JudgedIssue → Bool
has_io_among s issues = list_any (λ issue. is_io_issue s issue.flight) issues

-- whether one of these is, and has final kinds
abbrev pub has_io_error_among : AutopsyView → List JudgedIssue → Bool
has_io_error_among s issues = list_any (λ issue. is_io_issue s issue.flight && not (issue.kinds == 0)) issues

-- what some owned issues of a place come to
pub record IsTally (s : AutopsyView) (issues : List JudgedIssue) (tally : Tally) : Type 0 where
  pub kinds : tally.kinds.0 ≡ kinds_of_all s issues
  pub io : tally.io ≡ has_io_among s issues
  pub io_error : tally.io_error ≡ has_io_error_among s issues
