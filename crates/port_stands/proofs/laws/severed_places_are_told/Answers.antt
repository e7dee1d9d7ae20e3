use Rattle.port_stands.proofs.Severed.{journal_tied}
use Rattle.port_stands.proofs.Heads.{one_place}
use Rattle.port_stands.proofs.laws.severed_places_are_told.Goals as goal

pub returns : goal.returns
returns c = λ head. journal_tied head (one_place head)
