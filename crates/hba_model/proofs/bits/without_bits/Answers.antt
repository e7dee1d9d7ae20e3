use Rattle.hba_model.proofs.BitLemmas.{bits_without}
use Rattle.hba_model.proofs.bits.without_bits.Goals as goal

pub returns : goal.returns
returns c = bits_without c.args.mask c.args.others c.ranges.others.fits
