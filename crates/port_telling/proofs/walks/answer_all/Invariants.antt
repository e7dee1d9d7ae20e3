use Rattle.std.proofs.Common.{◌≡◌, Bool}
use Rattle.ata_base.specs.declared.err_mask.ErrMask.{ErrMask}
use Rattle.host_tags.specs.declared.in_flight.InFlight.{InFlight}
use Rattle.port_rules.specs.Sorting.{condemnations}
use Rattle.port_rules.specs.TagByTag.{answer_of}
use Rattle.port_telling.specs.Walks.{ToldUpTo, slots_in, completions_in}
use Rattle.port_telling.proofs.walks.answer_all.Given as goal

abbrev pub invariant-loop-tag : goal.invariant-loop-tag
invariant-loop-tag l = record {
  told : ToldUpTo answer_of completions_in l.tag l.initial.ledger l.ledger;
  left :
      (test : InFlight → Bool) (kinds : ErrMask)
      → condemnations test kinds (slots_in l.ledger) (completions_in l.ledger)
      ≡ condemnations test kinds (slots_in l.initial.ledger) (completions_in l.initial.ledger);
}
