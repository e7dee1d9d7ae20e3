use Rattle.port_core.proofs.Pieces.{wrote, writes_then, writes_cut}
use Rattle.port_core.proofs.text.put_text.Goals as goal

pub returns-in-Ok : goal.returns-in-Ok
returns-in-Ok g c = writes_then _ _ _ _ _ _ _ _ (wrote _ _ _ _ _ _ c.in-Ok.ensures) c.put_rest.ensures

pub returns-in-Err : goal.returns-in-Err
returns-in-Err g c = writes_cut _ _ _ _ _ _ _ _ c.in-Err.ensures
