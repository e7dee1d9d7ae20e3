use Rattle.std.proofs.Common.{None, Some}
use Rattle.port_recovery.proofs.IdentityLemmas.{adds_none, linked_told}
use Rattle.port_recovery.proofs.identities.read_identity.Goals as goal

pub returns-in-Some : goal.returns-in-Some
returns-in-Some c = linked_told c.args.place (Some c.in-Some.number) c.in-Some.ensures.value c.identify.ensures

pub returns-in_default : goal.returns-in_default
returns-in_default c = linked_told c.args.place None c.in_default.ensures.value (adds_none c.args.ledger.now)
