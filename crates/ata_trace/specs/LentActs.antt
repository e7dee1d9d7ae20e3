use Rattle.ata_trace.specs.declared.act.Act.{Act}
use Rattle.ata_trace.specs.declared.acts.Lent.{Lent}
use Rattle.ata_trace.specs.declared.acts.Lent.TheVariants.{Made, Whole}

-- the act that is lent
abbrev pub act_lent : Lent → Act
act_lent (Made act) = act
act_lent (Whole act) = act.now
