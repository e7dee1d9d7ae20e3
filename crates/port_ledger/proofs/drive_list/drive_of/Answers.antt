use Rattle.std.proofs.Common.{subst, sym}
use Rattle.ata_ident.specs.Build.{FitsPage}
use Rattle.port_ledger.proofs.HeadLemmas.{fits_page}
use Rattle.port_ledger.proofs.drive_list.drive_of.Goals as goal

pub new-requires : goal.new-requires
new-requires c = subst FitsPage (sym c.copy.ensures) (fits_page c.args.head.now)
