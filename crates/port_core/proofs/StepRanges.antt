-- Each step that a text says is one that a script can have: what is read of a word is a number of its range.
use Rattle.std.proofs.Common.{◌≡◌, ℕ, ◌<◌, ◌≤◌, ◌^◌, Bool, true, false, ◌&&◌, List, [], ◌∷◌, codes, refl, sym, subst, arith}
use Rattle.std.specs.Prelude.{nat_le, if◌then◌else◌}
use Rattle.std.specs.Str.{bytes_eq}
use Rattle.std.proofs.lemmas.Bool.{leb-true}
use Rattle.std.proofs.lemmas.List.Elements.{All-nil, All-push}
use Rattle.ata_base.specs.declared.fault.Fault.{Fault}
use Rattle.ata_base.specs.declared.fault.Fault.TheVariants.{Media, Hang, Icrc, Abort, Df, BadStat, Idnf, LogFail, LogSum, LogNq, LogIdle, IdentFail, Serr}
use Rattle.ata_base.specs.declared.op.Op.{Op}
use Rattle.ata_base.specs.declared.op.Op.TheVariants.{Read, Write, Verify, Flush, Power}
use Rattle.ata_trace.specs.Parts.{first, words_of}
use Rattle.ata_trace.specs.Ranges.{IsFault, IsIn, IsOp}
use Rattle.ata_trace.specs.Reading.{value_from, number_in, serror_in}
use Rattle.ata_trace.specs.ScriptRanges.{AreTimes, IsScriptFault, IsScriptOp}
use Rattle.ata_trace.specs.Told.{second, third, fourth, fifth, sixth, seventh, after_two, after_three}
use Rattle.ata_trace.specs.declared.step.Step.TheVariants.{Irq, Drop, Expire, Recover}
use Rattle.ata_script.proofs.Forms.{both, either}
use Rattle.ata_script.specs.Draft.{DraftView, begun, with_item}
use Rattle.ata_script.specs.Fields.{among}
use Rattle.ata_script.specs.Forms.{flush_names, is_head}
use Rattle.ata_script.specs.Grammar.{Line, is_skipped, lines_of, said_in, version_in, with_lines}
use Rattle.ata_script.specs.Items.{Item}
use Rattle.ata_script.specs.Items.Item.{Port, Drive, Taken}
use Rattle.ata_script.specs.Scripts.{IsScript}
use Rattle.ata_script.specs.Taking.{eighth, ninth, fault_of_name, fault_step, flush_op, flush_step, head_item, inject_step, inject_with, item_for, kick_step, media_step, other_step, plug_step, read_op, read_step, serr_step, step_for, step_item, stray_step, submit_step, submit_with, tick_step, unplug_step, work_step, write_step, sector_in, count_in}
use Rattle.ata_script.specs.declared.script.Script.{Script}
use Rattle.port_rules.specs.Ranges.{IsScriptStep}
use Rattle.port_core.proofs.NumberRanges.{is_in}
use Rattle.port_core.specs.Weave.{AreScriptSteps, IsOfScript}

-- a number that is read is in its range
in_range :
    (least most : ℕ) (word : List ℕ) → least ≤ most → most < 2 ^ 64 → IsIn least most (number_in least most word)
in_range least most word some small = chosen (nat_le least n && nat_le n most) refl where
  n : ℕ
  n = value_from 0 word

  chosen : (b : Bool) → (nat_le least n && nat_le n most) ≡ b → IsIn least most (if b then n else least)
  chosen true e =
      let each = both (nat_le least n) (nat_le n most) e in
      is_in least most n (leb-true least n each.0) (leb-true n most each.1) small
  chosen false e = is_in least most least (omega arith) some small

-- the ranges of an operation
abbrev IsOpInRange : Op → Type 0
IsOpInRange op = IsOp op × IsScriptOp op

-- the ranges of a fault
abbrev IsFaultInRange : Fault → Type 0
IsFaultInRange fault = IsFault fault × IsScriptFault fault

submit_in_range :
    (ws : List (List ℕ)) (op : Op) (allow wait : List ℕ) → IsOpInRange op → IsScriptStep (submit_with ws op allow wait)
submit_in_range ws op allow wait range = (
  (
    in_range 1 65535 (second ws) (omega arith) (omega arith),
    in_range 0 14 (third ws) (omega arith) (omega arith),
    range.0,
    in_range 0 100 allow (omega arith) (omega arith),
    in_range 1 1000000 wait (omega arith) (omega arith),
  ),
  range.1,
)

sector_in_range : (word : List ℕ) → IsIn 0 281474976710655 (sector_in word)
sector_in_range word = in_range 0 281474976710655 word (omega arith) (omega arith)

sector_low : (word : List ℕ) → sector_in word < 2 ^ 48
sector_low word = omega (arith, (sector_in_range word).high)

count_in_range : (word : List ℕ) → IsIn 0 65535 (count_in word)
count_in_range word = in_range 0 65535 word (omega arith) (omega arith)

read_in_range : (ws : List (List ℕ)) → IsOpInRange (read_op ws)
read_in_range ws =
    either IsOpInRange (bytes_eq (first ws) (codes "read"))
    (Read (sector_in (second ws)) (count_in (third ws)))
    (Verify (sector_in (second ws)) (count_in (third ws)))
    ((sector_in_range (second ws), count_in_range (third ws)), sector_low (second ws))
    ((sector_in_range (second ws), count_in_range (third ws)), sector_low (second ws))

flush_in_range : (name : List ℕ) → IsOpInRange (flush_op name)
flush_in_range name = either IsOpInRange (bytes_eq name (codes "flush")) Flush Power (tt, tt) (tt, tt)

submit_step_in_range : (ws : List (List ℕ)) → IsScriptStep (submit_step ws)
submit_step_in_range ws =
    either IsScriptStep (bytes_eq (fourth ws) (codes "write")) (write_step ws) _
    (submit_in_range ws (Write (sector_in (fifth ws)) (count_in (sixth ws)) (number_in 0 18446744073709551615 (seventh ws)))
    (eighth ws) (ninth ws) (
      (
        sector_in_range (fifth ws),
        count_in_range (sixth ws),
        in_range 0 18446744073709551615 (seventh ws) (omega arith) (omega arith),
      ),
      sector_low (fifth ws),
    ))
    (either IsScriptStep (among flush_names (fourth ws)) (flush_step ws) (read_step ws)
    (submit_in_range ws (flush_op (fourth ws)) (fifth ws) (sixth ws) (flush_in_range (fourth ws)))
    (submit_in_range ws (read_op (after_three ws)) (seventh ws) (eighth ws) (read_in_range (after_three ws))))

fault_in_range : (name : List ℕ) (k : ℕ) → IsIn 1 100 k → IsFaultInRange (fault_of_name name k)
fault_in_range name k range =
    let times : IsIn 1 100 k × AreTimes k = (range, (range.low, range.high)) in
    let of = either IsFaultInRange in
    of (bytes_eq name (codes "hang")) (Hang k) _ times
    (of (bytes_eq name (codes "icrc")) (Icrc k) _ times
    (of (bytes_eq name (codes "abort")) (Abort k) _ times
    (of (bytes_eq name (codes "df")) (Df k) _ times
    (of (bytes_eq name (codes "badstat")) (BadStat k) _ times
    (of (bytes_eq name (codes "idnf")) (Idnf k) _ times
    (of (bytes_eq name (codes "logfail")) (LogFail k) _ times
    (of (bytes_eq name (codes "logsum")) (LogSum k) _ times
    (of (bytes_eq name (codes "lognq")) (LogNq k) _ times
    (of (bytes_eq name (codes "logidle")) (LogIdle k) (IdentFail k) times times)))))))))

inject_in_range : (ws : List (List ℕ)) (fault : Fault) → IsFaultInRange fault → IsScriptStep (inject_with ws fault)
inject_in_range ws fault range = ((in_range 0 14 (second ws) (omega arith) (omega arith), range.0), range.1)

inject_step_in_range : (ws : List (List ℕ)) → IsScriptStep (inject_step ws)
inject_step_in_range ws =
    either IsScriptStep (bytes_eq (third ws) (codes "media")) (media_step ws) _
    (inject_in_range ws (Media (sector_in (fourth ws))) (sector_in_range (fourth ws), sector_low (fourth ws)))
    (either IsScriptStep (bytes_eq (third ws) (codes "serr")) (serr_step ws) (fault_step ws)
    (inject_in_range ws (Serr (serror_in (fourth ws))) (tt, tt))
    (inject_in_range ws (fault_of_name (third ws) (number_in 1 100 (fourth ws)))
    (fault_in_range (third ws) (number_in 1 100 (fourth ws)) (in_range 1 100 (fourth ws) (omega arith) (omega arith)))))

other_in_range : (ws : List (List ℕ)) → IsScriptStep (other_step ws)
unfolding other_step
other_in_range ws =
    let of = either IsScriptStep in
    let place = in_range 0 14 (second ws) (omega arith) (omega arith) in
    of (bytes_eq (first ws) (codes "drop")) Drop _ tt
    (of (bytes_eq (first ws) (codes "stray")) (stray_step ws) _ (in_range 0 31 (second ws) (omega arith) (omega arith))
    (of (bytes_eq (first ws) (codes "plug")) (plug_step ws) _ (place, in_range 0 31 (third ws) (omega arith) (omega arith))
    (of (bytes_eq (first ws) (codes "unplug")) (unplug_step ws) _ place (inject_step_in_range ws))))

step_in_range : (ws : List (List ℕ)) → IsScriptStep (step_for ws)
unfolding step_for
step_in_range ws =
    let of = either IsScriptStep in
    let place = in_range 0 14 (second ws) (omega arith) (omega arith) in
    of (bytes_eq (first ws) (codes "submit")) (submit_step ws) _ (submit_step_in_range ws)
    (of (bytes_eq (first ws) (codes "kick")) (kick_step ws) _ place
    (of (bytes_eq (first ws) (codes "work")) (work_step ws) _ (place, in_range 0 31 (third ws) (omega arith) (omega arith))
    (of (bytes_eq (first ws) (codes "irq")) Irq _ tt
    (of (bytes_eq (first ws) (codes "tick")) (tick_step ws) _ (in_range 0 1000000 (second ws) (omega arith) (omega arith))
    (of (bytes_eq (first ws) (codes "expire")) Expire _ tt
    (of (bytes_eq (first ws) (codes "recover")) Recover _ tt (other_in_range ws)))))))

-- the step of an item, where it has one, is one that a script can have
abbrev IsItemInRange : Item → Type 0
IsItemInRange (Port number places pmp fbs drain) = Unit {0}
IsItemInRange (Drive port number place model serial sectors depth generation ready) = Unit {0}
IsItemInRange (Taken actor port step) = IsScriptStep step

item_in_range : (version : ℕ) (words : List (List ℕ)) → IsItemInRange (item_for version words)
item_in_range version words =
    either IsItemInRange (is_head (first words)) (head_item version words) (step_item words)
    (head_in_range version words) (step_in_range (after_two words)) where
      head_in_range : (version : ℕ) (words : List (List ℕ)) → IsItemInRange (head_item version words)
      head_in_range version words =
          either IsItemInRange (bytes_eq (first words) (codes "port")) _ _
          (either IsItemInRange (bytes_eq (third words) (codes "direct")) _ _ tt tt) tt

with_item_in_range :
    (said : DraftView) (item : Item) → IsItemInRange item → AreScriptSteps said.steps
    → AreScriptSteps (with_item said item).steps
with_item_in_range said (Port number places pmp fbs drain) range each = each
with_item_in_range said (Drive port number place model serial sectors depth generation ready) range each = each
with_item_in_range said (Taken actor port step) range each =
    All-push IsOfScript said.steps (actor, port, step) each range

lines_in_range :
    (said : DraftView) (lines : List Line) → AreScriptSteps said.steps → AreScriptSteps (with_lines said lines).steps
lines_in_range said [] each = each
lines_in_range said (line ∷ rest) each =
    let item = item_for said.version (words_of line.text) in
    lines_in_range (if is_skipped line.text then said else with_item said item) rest
    (either (λ (d : DraftView). AreScriptSteps d.steps) (is_skipped line.text) said (with_item said item) each
    (with_item_in_range said item (item_in_range said.version (words_of line.text)) each))

said_in_range : (lines : List Line) → AreScriptSteps (said_in lines).steps
said_in_range [] = All-nil IsOfScript
said_in_range (line ∷ rest) = lines_in_range (begun (version_in line.text)) rest (All-nil IsOfScript)

-- each step of a script is one that a script can have
pub script_in_range : (bytes : List ℕ) (script : Script) → IsScript bytes script → AreScriptSteps script.steps
script_in_range bytes script is =
    subst (λ (d : DraftView). AreScriptSteps d.steps) (sym is.is) (said_in_range (lines_of bytes))
