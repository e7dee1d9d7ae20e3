-- How long the tries of a reset and of an identity may wait.
use Rattle.std.proofs.Common.{◌≡◌, ℕ, ◌+◌, ◌-◌, ◌≤◌, ◌==◌, Bool, true, false, Option, None, option_map, slice_get, suc, zero, arith, if◌then◌else◌}
use Rattle.std.specs.Option.{option_map_or}
use Rattle.ata_base.specs.declared.ms.Ms.{Ms}
use Rattle.eh_flow.specs.Table.{deadline_of}
use Rattle.eh_reset.specs.ResetWaits.{reset_waits, reset_wait_of}
use Rattle.eh_reval.specs.IdentWaits.{ident_waits, ident_wait_of}
use Rattle.port_facts.specs.Allowed.{longest_try}

-- the wait of a try, none where there is no such try
reset_within :
    (none : Bool) (i : ℕ)
    → option_map_or (λ (w : Ms). w.n) (if none then None else option_map (λ wait. record { n = wait }) (slice_get reset_waits i)) 0 ≤ longest_try
reset_within true i = omega arith
reset_within false zero = omega arith
reset_within false (suc zero) = omega arith
reset_within false (suc (suc zero)) = omega arith
reset_within false (suc (suc (suc zero))) = omega arith
reset_within false (suc (suc (suc (suc i)))) = omega arith

ident_within :
    (none : Bool) (i : ℕ)
    → option_map_or (λ (w : Ms). w.n) (if none then None else option_map (λ wait. record { n = wait }) (slice_get ident_waits i)) 0 ≤ longest_try
ident_within true i = omega arith
ident_within false zero = omega arith
ident_within false (suc zero) = omega arith
ident_within false (suc (suc zero)) = omega arith
ident_within false (suc (suc (suc i))) = omega arith

-- a reset that begins now is late within the longest try
pub reset_near : (now attempt : ℕ) → (deadline_of now (reset_wait_of attempt)).n ≤ now + longest_try
reset_near now attempt =
    let within : option_map_or (λ (w : Ms). w.n) (reset_wait_of attempt) 0 ≤ longest_try = reset_within (attempt == 0) (attempt - 1) in
    omega (arith, within)

-- so is an identity that is asked for now
pub ident_near : (now attempt : ℕ) → (deadline_of now (ident_wait_of attempt)).n ≤ now + longest_try
ident_near now attempt =
    let within : option_map_or (λ (w : Ms). w.n) (ident_wait_of attempt) 0 ≤ longest_try = ident_within (attempt == 0) (attempt - 1) in
    omega (arith, within)
