-- Where a task file error stands, the issue that failed is in flight.
use Rattle.std.proofs.Common.{List}
use Rattle.ata_script.specs.declared.port_head.PortHead.{PortHead}
use Rattle.ata_trace.specs.Entries.{EntryView, past_of}
use Rattle.ata_trace.specs.Event.{Event}
use Rattle.port_rules.specs.Legal.{IsLegal}
use Rattle.port_stands.proofs.All.{journal_all}
use Rattle.port_stands.specs.Driven.{AreDriven}
use Rattle.port_stands.specs.Failing.{FailedFly}
use Rattle.port_stands.proofs.Heads.{HasOnePlace}

failed_fly : (head : PortHead) (past : List Event) → AreDriven head past → FailedFly past
failed_fly head past driven = λ place failure is.
    let s = driven.struck place failure is in
    record { tag = s.tag; flight = s.flight; here = s.here; numbered = s.number; there = s.there }

pub journal_failed : (head : PortHead) → HasOnePlace head → (journal : List EntryView) → IsLegal head journal → FailedFly (past_of journal)
journal_failed head fits journal legal = failed_fly head (past_of journal) (journal_all head fits journal legal).whole.driven
