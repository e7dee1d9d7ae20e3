use Rattle.std.proofs.Common.{◌≡◌, ◌++◌, ◌∷◌, [], ◌∙◌, refl}
use Rattle.circular_buffer.specs.Buffer.{keep_last}
use Rattle.eh_ring.specs.Marks.{clean_entry}
use Rattle.eh_ring.proofs.Top.{clean_top, clean_none}
use Rattle.eh_ring.proofs.ring.Ring.verify_top.Goals as goal

pub returns-in-Some : goal.returns-in-Some
returns-in-Some c =
    let pushed : c.push_back.new.self.items ≡ keep_last c.pop_back.new.self.capacity (c.pop_back.new.self.items ++ clean_entry c.in-Some.entry ∷ []) =
    rw c.push_back.ensures.items refl in
    pushed ∙ rw (← c.self.view_is)
    (clean_top c.self.inside.entries.items c.pop_back.new.self.items c.in-Some.entry c.pop_back.new.self.capacity
    c.in-Some.ensures.value (rw c.pop_back.ensures.items refl) (rw c.pop_back.ensures.items c.self.invariant.0) c.self.invariant.1)

pub returns-in_default : goal.returns-in_default
returns-in_default c =
    rw (← c.self.view_is)
    (clean_none c.self.inside.entries.items c.pop_back.new.self.items c.in_default.ensures.value (rw c.pop_back.ensures.items refl))
