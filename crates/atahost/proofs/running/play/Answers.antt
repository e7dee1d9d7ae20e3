use Rattle.port_core.specs.Hosts.{journals_in}
use Rattle.atahost.proofs.HeadlineLemmas.{printed, refused}
use Rattle.atahost.proofs.running.play.Goals as goal

pub returns-in-Ok-settled-clause-replays : goal.returns-in-Ok-settled-clause-replays
returns-in-Ok-settled-clause-replays g c =
    printed _ g.S.Source.left g.S.Source.fault_count g.K.Sink.written g.K.Sink.fault_count _ _ _ _ _
    c.in-Ok.script (journals_in c.in-Ok-settled.host)
    (record {
      read = c.in-Ok.ensures.script;
      made = record { script = c.in-Ok.script; read = c.in-Ok.ensures.script.text; run = c.in-Ok-settled.ensures };
      ranges = c.print.ensures.ranges;
    })
    c.in-Ok.ensures.all_read c.in-Ok.ensures.faultless c.print.ensures.printed c.print.ensures.faults

pub returns-in-Err-clause-replays : goal.returns-in-Err-clause-replays
returns-in-Err-clause-replays g c =
    refused _ g.S.Source.left g.S.Source.fault_count g.K.Sink.written g.K.Sink.fault_count _ _ _ _
    c.in-Err.ensures.refused c.in-Err.ensures.faults
