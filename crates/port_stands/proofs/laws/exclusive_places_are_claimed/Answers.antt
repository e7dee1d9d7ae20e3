use Rattle.port_stands.proofs.Claims.{journal_claimed}
use Rattle.port_stands.proofs.Heads.{one_place}
use Rattle.port_stands.proofs.laws.exclusive_places_are_claimed.Goals as goal

pub returns : goal.returns
returns c = λ head. journal_claimed head (one_place head)
