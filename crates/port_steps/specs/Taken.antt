use Rattle.std.specs.Prelude.{Bool, ◌||◌, is_some}
use Rattle.std.specs.List.{list_any}
use Rattle.port_steps.specs.declared.taken.Taken.{Taken}

-- whether a cause was taken, which asks for recovery
abbrev pub asks : Taken → Bool
asks taken = list_any is_some taken.failing || taken.freeze || taken.notify
