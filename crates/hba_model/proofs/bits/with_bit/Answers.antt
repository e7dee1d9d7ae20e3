use Rattle.hba_model.proofs.BitLemmas.{bits_set, room_set}
use Rattle.hba_model.proofs.bits.with_bit.Goals as goal

pub returns-clause-bits : goal.returns-clause-bits
returns-clause-bits c = λ count within few. bits_set count c.args.mask c.args.at within few

pub returns-clause-room : goal.returns-clause-room
returns-clause-room c = λ count within room. room_set count c.args.mask c.args.at within c.requires room
