use Rattle.port_threads.proofs.Rows.{put_view, put_stays, lent_view, grew_by, grew_none, grew_put}
use Rattle.port_threads.proofs.passes.Passes.enter_at.Goals as goal

pub returns-in-Ok-clause-others : goal.returns-in-Ok-clause-others
returns-in-Ok-clause-others g c = put_stays _ _ _ _ c.requires.port (put_view _ _ _ _ _ _ c.self.view_is c.lend-pass.ensures.rest c.put_back.ensures)

pub returns-in-Err-clause-others : goal.returns-in-Err-clause-others
returns-in-Err-clause-others g c = put_stays _ _ _ _ c.requires.port (put_view _ _ _ _ _ _ c.self.view_is c.lend-pass.ensures.rest c.put_back-in-Err.ensures)

pub returns-in-Ok-clause-grew : goal.returns-in-Ok-clause-grew
returns-in-Ok-clause-grew g c =
    let e = c.in-Ok.ensures in
    grew_put _ _ _ _ _ _ c.requires.port
    (lent_view _ _ _ _ c.requires.port c.self.view_is c.lend-pass.ensures.pass)
    (put_view _ _ _ _ _ _ c.self.view_is c.lend-pass.ensures.rest c.put_back.ensures)
    (grew_by c.lend-pass.result c.in-Ok.pass _ _ e.made e.share e.seen e.own)

pub returns-in-Err-clause-grew : goal.returns-in-Err-clause-grew
returns-in-Err-clause-grew g c =
    let e = c.in-Err.ensures in
    grew_put _ _ _ _ _ _ c.requires.port
    (lent_view _ _ _ _ c.requires.port c.self.view_is c.lend-pass.ensures.pass)
    (put_view _ _ _ _ _ _ c.self.view_is c.lend-pass.ensures.rest c.put_back-in-Err.ensures)
    (grew_none c.lend-pass.result c.in-Err.field-0.pass e.made e.share e.seen e.kept)
