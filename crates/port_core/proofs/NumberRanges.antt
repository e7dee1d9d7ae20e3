-- Numbers in their ranges, and acts by their groups.
use Rattle.std.proofs.Common.{◌≡◌, ℕ, ◌<◌, ◌≤◌, ◌^◌, refl, arith}
use Rattle.ata_trace.specs.Ranges.{IsAct, IsIn}
use Rattle.ata_trace.specs.declared.act.Act.{Act}
use Rattle.port_core.specs.ActGroups.{ActGroup, group_of}
use Rattle.port_core.specs.ActGroups.ActGroup.{Waiting, OfDrive, Answers, Judgements, Logs, Rings, Resets, Devices, Times, Plain}

-- a number between two others, of which the greater has 64 bits
pub is_in : (least most n : ℕ) → least ≤ n → n ≤ most → most < 2 ^ 64 → IsIn least most n
is_in least most n low high small = record { low = low; high = high; small = omega (arith, high, small) }

-- an act is in range where it is whatever its group
pub of_groups :
    (act : Act) → (group_of act ≡ Waiting → IsAct act) → (group_of act ≡ OfDrive → IsAct act)
    → (group_of act ≡ Answers → IsAct act) → (group_of act ≡ Judgements → IsAct act) → (group_of act ≡ Logs → IsAct act)
    → (group_of act ≡ Rings → IsAct act) → (group_of act ≡ Resets → IsAct act) → (group_of act ≡ Devices → IsAct act)
    → (group_of act ≡ Times → IsAct act) → (group_of act ≡ Plain → IsAct act) → IsAct act
of_groups act a b c d e f g h i j = chosen (group_of act) refl where
  chosen : (group : ActGroup) → group_of act ≡ group → IsAct act
  chosen Waiting is = a is
  chosen OfDrive is = b is
  chosen Answers is = c is
  chosen Judgements is = d is
  chosen Logs is = e is
  chosen Rings is = f is
  chosen Resets is = g is
  chosen Devices is = h is
  chosen Times is = i is
  chosen Plain is = j is
