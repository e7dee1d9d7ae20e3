use Rattle.std.proofs.Common.{◌∙◌, ap}
use Rattle.drive_model.specs.declared.asked.Asked.{Asked}
use Rattle.drive_model.specs.Holding.{taken}
use Rattle.drive_model.proofs.drive.Drive.take.Goals as goal

pub returns-clause-drive : goal.returns-clause-drive
returns-clause-drive c = λ op queued given.
    c.hold.ensures.drive
    ∙ ap (λ (asked : Asked). taken c.args.n c.args.tag asked.op asked.queued c.args.self.now.drive) (c.read-asked.ensures.value op queued given)
