-- The script of a number is that of a text: its ports, and each of its steps, stand in order, as their lines say them.
use Rattle.std.proofs.Common.{arith, ◌≡◌, ℕ, zero, suc, ◌≤◌, ◌+◌, ◌*◌, ◌/◌, ◌%◌, Bool, true, false, List, [], ◌∷◌, ◌++◌, length, map, refl, sym, ap, subst, length-append}
use Rattle.std.specs.Prelude.{◌==◌, nat_lt, if◌then◌else◌}
use Rattle.std.specs.List.{flat_map, range_with_len}
use Rattle.std.proofs.lemmas.Bool.Decides.{nat_tests}
use Rattle.ata_base.specs.declared.fault.Fault.TheVariants.{Icrc, Media}
use Rattle.ata_base.specs.declared.op.Op.TheVariants.{Read, Write, Flush}
use Rattle.ata_trace.specs.Ranges.{IsIn, IsTag}
use Rattle.ata_trace.specs.declared.step.Step.{Step}
use Rattle.ata_trace.specs.declared.step.Step.TheVariants.{Submit, Kick, Work, Irq, Drop, Recover, Inject}
use Rattle.ata_script.proofs.DraftsGood.{Good, GoodSteps}
use Rattle.ata_script.proofs.LinesWritten.{Written}
use Rattle.ata_script.proofs.TextsRead.{says_again}
use Rattle.ata_script.specs.Heads.{port_said}
use Rattle.ata_script.specs.Items.Item.{Taken}
use Rattle.ata_script.specs.OfText.{IsOfText, Says, all_said}
use Rattle.ata_script.specs.ScriptText.{said_text}
use Rattle.ata_script.specs.declared.port_head.PortHead.{PortHead}
use Rattle.ata_gen.proofs.HeadsRight.{good_ports, is_in}
use Rattle.ata_gen.proofs.StepsRight.{IsDrawn, step_written}
use Rattle.ata_gen.specs.Generated.{count_drawn, drawn, faults_drawn, interrupt_at, lines_at, lines_drawn, op_drawn, place_drawn, port_drawn, ports_made, script_made, sector_drawn, served_drawn, step_each, steps_made}

-- ---- what is drawn is in its range

port_in : (v : ℕ) → IsIn 0 7 (port_drawn v)
port_in v = is_in (omega arith) (omega arith) (omega arith)

port_two : (v : ℕ) → nat_lt (port_drawn v) 2 ≡ true
port_two v = grind (arith, nat_tests)

place_in : (v : ℕ) → IsIn 0 14 (place_drawn v)
place_in v = place (v % 2 == 0) where
  place : (b : Bool) → IsIn 0 14 (if b then 0 else v / 2 % 3)
  place true = is_in (omega arith) (omega arith) (omega arith)
  place false = is_in (omega arith) (omega arith) (omega arith)

sector_in : (v : ℕ) → IsIn 0 281474976710655 (sector_drawn v)
sector_in v = is_in (omega arith) (omega arith) (omega arith)

count_in : (v : ℕ) → IsIn 0 65535 (count_drawn v)
count_in v = is_in (omega arith) (omega arith) (omega arith)

actor_in : (actor : ℕ) → actor ≤ 31 → IsTag actor
actor_in actor few = is_in (omega arith) few (omega (arith, few))

-- a submitted command
submit_in : (v i : ℕ) → 1 ≤ i → i ≤ 20000 → IsDrawn (Submit i (place_drawn v) (op_drawn v i) 5 30000)
submit_in v i some few = op (nat_lt (v / 8 % 8) 4) (nat_lt (v / 8 % 8) 7) where
  id : IsIn 1 65535 i
  id = is_in some (omega (arith, few)) (omega (arith, few))

  stamp : IsIn 0 18446744073709551615 i
  stamp = is_in (omega arith) (omega (arith, few)) (omega (arith, few))

  five : IsIn 0 100 5
  five = is_in (omega arith) (omega arith) (omega arith)

  wait : IsIn 1 1000000 30000
  wait = is_in (omega arith) (omega arith) (omega arith)

  op : (read write : Bool) → IsDrawn (Submit i (place_drawn v)
      (if read then Read (sector_drawn v) (count_drawn v) else if write then Write (sector_drawn v) (count_drawn v) i else Flush) 5 30000)
  op true write = (id, place_in v, (sector_in v, count_in v), five, wait)
  op false true = (id, place_in v, (sector_in v, count_in v, stamp), five, wait)
  op false false = (id, place_in v, tt, five, wait)

interrupt_in : (i : ℕ) → IsDrawn (interrupt_at i)
interrupt_in i = interrupt (i % 100 == 0) where
  interrupt : (b : Bool) → IsDrawn (if b then Drop else Irq)
  interrupt true = tt
  interrupt false = tt

-- ---- the steps

-- steps of one of two ports, one after the other
good_on : (first rest : List (ℕ × ℕ × Step)) → GoodSteps 1 2 first → GoodSteps 1 2 rest → GoodSteps 1 2 (first ++ rest)
good_on [] rest f g = g
good_on (step ∷ first) rest f g = (f.0, f.1, good_on first rest f.2 g)

-- a step that is drawn
drawn_step : (actor v : ℕ) (step : Step) → actor ≤ 31 → IsDrawn step → Written 1 (Taken actor (port_drawn v) step)
drawn_step actor v step few f = step_written 1 step (actor_in actor few) (port_in v) f

good_each : (every i actor v : ℕ) (step : Step) → actor ≤ 31 → IsDrawn step → GoodSteps 1 2 (step_each every i (actor, port_drawn v, step))
good_each every i actor v step few f = each (i % every == 0) where
  each : (b : Bool) → GoodSteps 1 2 (if b then (actor, port_drawn v, step) ∷ [] else [])
  each true = (drawn_step actor v step few f, port_two v, tt)
  each false = tt

good_lines : (v i : ℕ) → 1 ≤ i → i ≤ 20000 → GoodSteps 1 2 (lines_drawn v i)
good_lines v i some few =
    let once : IsIn 1 100 1 = is_in (omega arith) (omega arith) (omega arith) in
    let first : IsIn 0 31 0 = is_in (omega arith) (omega arith) (omega arith) in
    good_on (faults_drawn v i) (served_drawn v i)
    (good_on (step_each 50 i (1, port_drawn v, Inject (place_drawn v) (Icrc 1))) (step_each 70 i (1, port_drawn v, Inject (place_drawn v) (Media (sector_drawn v))))
    (good_each 50 i 1 v (Inject (place_drawn v) (Icrc 1)) (omega arith) (place_in v, once))
    (good_each 70 i 1 v (Inject (place_drawn v) (Media (sector_drawn v))) (omega arith) (place_in v, sector_in v))) (
      drawn_step 0 v (Submit i (place_drawn v) (op_drawn v i) 5 30000) (omega arith) (submit_in v i some few),
      port_two v,
      (
        drawn_step 0 v (Kick (place_drawn v)) (omega arith) (place_in v),
        port_two v,
        (
          drawn_step 0 v (Work (place_drawn v) 0) (omega arith) (place_in v, first),
          port_two v,
          (
            drawn_step 2 v (interrupt_at i) (omega arith) (interrupt_in i),
            port_two v,
            (drawn_step 3 v Recover (omega arith) tt, port_two v, tt),
          ),
        ),
      ),
    )

good_from : (n at count : ℕ) → 1 ≤ at → at + count ≤ 20001 → GoodSteps 1 2 (flat_map (lines_at n) (range_with_len at count))
good_from n at zero some few = tt
good_from n at (suc count) some few =
    good_on (lines_at n at) (flat_map (lines_at n) (range_with_len (at + 1) count)) (good_lines (drawn n at) at some (omega (arith, few)))
    (good_from n (at + 1) count (omega (arith, some)) (omega (arith, few)))

-- ---- all of it

good : (n : ℕ) → n ≤ 20000 → Good (script_made n)
good n few = record { version = refl; ports = good_ports; steps = good_from n 1 n (omega arith) (omega (arith, few)) }

-- ---- and it isn't too long

each_count : (every i : ℕ) (taken : ℕ × ℕ × Step) → length (step_each every i taken) ≤ 1
each_count every i taken = each (i % every == 0) where
  each : (b : Bool) → length (if b then taken ∷ [] else []) ≤ 1
  each true = omega arith
  each false = omega arith

lines_count : (v i : ℕ) → length (lines_drawn v i) ≤ 7
lines_count v i =
    let icrc : List (ℕ × ℕ × Step) = step_each 50 i (1, port_drawn v, Inject (place_drawn v) (Icrc 1)) in
    let media : List (ℕ × ℕ × Step) = step_each 70 i (1, port_drawn v, Inject (place_drawn v) (Media (sector_drawn v))) in
    omega (
      arith,
      length-append (icrc ++ media) (served_drawn v i),
      length-append icrc media,
      each_count 50 i (1, port_drawn v, Inject (place_drawn v) (Icrc 1)),
      each_count 70 i (1, port_drawn v, Inject (place_drawn v) (Media (sector_drawn v))),
    )

steps_count : (n at count : ℕ) → length (flat_map (lines_at n) (range_with_len at count)) ≤ 7 * count
steps_count n at zero = omega arith
steps_count n at (suc count) =
    omega (arith, length-append (lines_at n at) (flat_map (lines_at n) (range_with_len (at + 1) count)), lines_count (drawn n at) at, steps_count n (at + 1) count)

-- so there is a text of it
pub is_of_text :
    (n : ℕ) (head : List PortHead) (steps : List (ℕ × ℕ × Step)) → n ≤ 20000 → map port_said head ≡ ports_made → steps ≡ steps_made n
    → IsOfText 1 head steps
is_of_text n head steps few ports made =
    let said : all_said 1 head steps ≡ script_made n = (λ i. record { version = 1; ports = ports i; steps = made i }) in
    record {
      bytes = said_text (script_made n);
      says = subst (Says (said_text (script_made n))) (sym said) (says_again (script_made n) (good n few));
      few = omega (arith, ap length made, steps_count n 1 n, few);
    }
