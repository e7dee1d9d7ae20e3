use Rattle.host_core.proofs.SettledPorts.{AreSettling}
use Rattle.host_core.proofs.settling.settle_ports.Given as goal

abbrev pub invariant-loop-place : goal.invariant-loop-place
invariant-loop-place l = AreSettling l.rounds l.place l.initial.ports l.ports
