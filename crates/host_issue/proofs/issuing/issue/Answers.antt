use Rattle.host_issue.proofs.AlwaysLemmas.{if_some, if_none}
use Rattle.host_issue.proofs.issuing.issue.Goals as goal

pub returns-in-Some-clause-drive : goal.returns-in-Some-clause-drive
returns-in-Some-clause-drive c = rw c.in-Some.is c.issue_to.ensures.drive

pub returns-in-Some-clause-no_drive : goal.returns-in-Some-clause-no_drive
returns-in-Some-clause-no_drive c = rw c.in-Some.is c.issue_to.ensures.no_drive

pub returns-in-None-clause-drive : goal.returns-in-None-clause-drive
returns-in-None-clause-drive c = rw c.in-None.is (if_some _)

pub returns-in-None-clause-no_drive : goal.returns-in-None-clause-no_drive
returns-in-None-clause-no_drive c = rw c.in-None.is (if_none _)
