use Rattle.std.proofs.Common.{◌∙◌, ap}
use Rattle.host_core.proofs.SettledPorts.{heads_back, host_back}
use Rattle.port_core.specs.Hosts.{heads_in}
use Rattle.host_core.proofs.settling.settle_all.Goals as goal

pub give_ports-requires : goal.give_ports-requires
give_ports-requires c =
    host_back c.args.host.now c.take_ports-ports.result.items c.deref_mut.result.now c.settle_ports-settled.new.ports c.take_ports-ports.result.len
    c.take_ports-ports.ensures.ports c.deref_mut.ensures.value c.take_ports-ports.result.ok.0 c.settle_ports-settled.ensures.same
    c.take_ports-ports.ensures.of_host

pub returns-in_err-settled-clause-heads : goal.returns-in_err-settled-clause-heads
returns-in_err-settled-clause-heads c =
    ap heads_in c.give_ports.ensures
    ∙ heads_back c.args.host.now c.take_ports-ports.result.items c.deref_mut.result.now c.settle_ports-settled.new.ports c.take_ports-ports.result.len
    c.take_ports-ports.ensures.ports c.deref_mut.ensures.value c.take_ports-ports.result.ok.0 c.settle_ports-settled.ensures.same

pub returns-clause-heads : goal.returns-clause-heads
returns-clause-heads c =
    ap heads_in c.give_ports.ensures
    ∙ heads_back c.args.host.now c.take_ports-ports.result.items c.deref_mut.result.now c.settle_ports-settled.new.ports c.take_ports-ports.result.len
    c.take_ports-ports.ensures.ports c.deref_mut.ensures.value c.take_ports-ports.result.ok.0 c.settle_ports-settled.ensures.same
