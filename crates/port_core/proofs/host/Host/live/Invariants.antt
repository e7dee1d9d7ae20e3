use Rattle.std.proofs.Common.{◌≡◌, ◌≤◌, ◌*◌, take}
use Rattle.port_core.specs.Hosts.{journals_in, lives_of}
use Rattle.port_core.proofs.host.Host.live.Given as goal

abbrev pub invariant-loop-port : goal.invariant-loop-port
invariant-loop-port l = (l.sum ≡ lives_of (journals_in (take l.port-index l.self))) × (l.sum ≤ 65536 * l.port-index)
