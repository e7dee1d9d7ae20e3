-- A line, taken word by word: the words left, which of the rules 3, 4 and 5 were broken, and what the words say.
use Rattle.std.specs.Prelude.{ℕ, Bool, true, false, ◌&&◌, ◌||◌, not, ◌==◌, List, [], ◌∷◌, codes, Option, Some, None, if◌then◌else◌}
use Rattle.std.specs.Str.{bytes_eq}
use Rattle.ata_base.specs.Limits.{most_drive_sectors}
use Rattle.ata_base.specs.declared.fault.Fault.{Fault}
use Rattle.ata_base.specs.declared.fault.Fault.TheVariants.{Media, Hang, Icrc, Abort, Df, BadStat, Idnf, LogFail, LogSum, LogNq, LogIdle, IdentFail, Serr}
use Rattle.ata_base.specs.declared.op.Op.{Op}
use Rattle.ata_base.specs.declared.op.Op.TheVariants.{Read, Write, Verify, Flush, Power}
use Rattle.ata_trace.specs.Parts.{first, later, none_left}
use Rattle.ata_trace.specs.Reading.{number_in, name_in, serror_in}
use Rattle.ata_trace.specs.Told.{second, third, fourth, fifth, sixth, seventh, after_two, after_three}
use Rattle.ata_trace.specs.declared.step.Step.{Step}
use Rattle.ata_trace.specs.declared.step.Step.TheVariants.{Submit, Kick, Work, Irq, Drop, Stray, Tick, Expire, Recover, Plug, Unplug, Inject}
use Rattle.ata_script.specs.Fields.{Field, fits_field, number_right, name_right, no_words, least_broken, among, is_word}
use Rattle.ata_script.specs.Fields.Field.{Small, Number}
use Rattle.ata_script.specs.Forms.{a_port, drive_form, submit_form, read_fields, write_fields, flush_fields, kick_form, work_form, irq_form, drop_form, stray_form, tick_form, expire_form, recover_form, flush_names, plug_form, unplug_form, inject_form, media_fields, fault_fields, serr_fields, step_form, is_head}
use Rattle.ata_script.specs.Items.{Item}
use Rattle.ata_script.specs.Items.Item.{Port, Drive, Taken}

pub record State : Type 0 where
  pub rest : List (List ℕ)
  pub form : Bool
  pub numbers : Bool
  pub names : Bool

-- at the start of a line all is right
abbrev pub start : List (List ℕ) → State
start words = record { rest = words; form = true; numbers = true; names = true }

-- a word of a field is taken
abbrev pub taken : Field → State → State
taken field s = record {
  rest = later s.rest;
  form = s.form && fits_field field (first s.rest);
  numbers = s.numbers && number_right field (first s.rest);
  names = s.names && name_right field (first s.rest);
}

abbrev pub after : List Field → State → State
after [] s = s
after (field ∷ fields) s = after fields (taken field s)

-- a word of a choice is taken, of which this tells whether it is one
abbrev pub with_choice : Bool → State → State
with_choice found s = record {
  rest = later s.rest;
  form = s.form && (found && is_word (first s.rest));
  numbers = s.numbers && true;
  names = s.names && true;
}

-- the fields behind the first
abbrev pub behind : List Field → List Field
behind [] = []
behind (field ∷ fields) = fields

-- the least rule that was broken, at the end of a line
abbrev pub verdict : State → Option ℕ
verdict s = least_broken (s.form && no_words s.rest) s.numbers s.names

-- the words behind the seventh
abbrev pub eighth : List (List ℕ) → List ℕ
eighth ws = seventh (later ws)

abbrev pub ninth : List (List ℕ) → List ℕ
ninth ws = eighth (later ws)

abbrev pub tenth : List (List ℕ) → List ℕ
tenth ws = ninth (later ws)

-- in version 2, behind the words of the line of a port: which more there may be

abbrev pub drain_for : List (List ℕ) → List Field
drain_for ws = if none_left ws then [] else Small (codes "drain") ∷ []

-- at the end of a direct port's line
abbrev pub last_for : Bool → List (List ℕ) → List Field
last_for two ws = if two then drain_for ws else []

-- at the end of a multiplier's line
abbrev pub tail_for : Bool → List (List ℕ) → List Field
tail_for two ws =
    if not two || none_left ws then [] else if bytes_eq (first ws) (codes "fbs") then Small (codes "fbs") ∷ drain_for (later ws)
    else Small (codes "drain") ∷ []

-- whether the words `fbs` and `drain` stand there
abbrev pub options_in : Bool → List (List ℕ) → Bool × Bool
options_in two ws =
    if not two || none_left ws then (false, false) else if bytes_eq (first ws) (codes "fbs") then (true, not (none_left (later ws)))
    else (false, true)

-- the words of a multiplier, from `pmp` on
abbrev pub pmp_fields : Bool → List (List ℕ) → List Field
pmp_fields two ws = Small (codes "pmp") ∷ Number 1 15 ∷ tail_for two (after_two ws)

abbrev pub pmp_line : ℕ → Bool → List (List ℕ) → Item
pmp_line number two ws = Port number (number_in 1 15 (second ws)) true (options_in two (after_two ws)).0 (options_in two (after_two ws)).1

-- the line of a port: its form, and what it says

abbrev pub port_form_for : Bool → List (List ℕ) → List Field
port_form_for two ws =
    Small (codes "port") ∷ a_port
    ∷ (if bytes_eq (third ws) (codes "direct") then Small (codes "direct") ∷ last_for two (after_three ws) else pmp_fields two (after_two ws))

abbrev pub port_item : Bool → List (List ℕ) → Item
port_item two ws =
    if bytes_eq (third ws) (codes "direct") then Port (number_in 0 7 (second ws)) 1 false false (two && not (none_left (after_three ws)))
    else pmp_line (number_in 0 7 (second ws)) two (after_two ws)

-- what the line of a drive says
abbrev pub place_in : List ℕ → Option ℕ
place_in word = if bytes_eq word (codes "-") then None else Some (number_in 0 14 word)

abbrev pub drive_item : List (List ℕ) → Item
drive_item ws =
    Drive (number_in 0 7 (second ws)) (number_in 0 31 (third ws)) (place_in (fourth ws)) (name_in 40 (fifth ws)) (name_in 20 (sixth ws))
    (number_in 1 most_drive_sectors (seventh ws)) (number_in 0 32 (eighth ws)) (number_in 1 3 (ninth ws)) (number_in 0 60000 (tenth ws))

-- what the words of a step say, from its name on

abbrev pub sector_in : List ℕ → ℕ
sector_in word = number_in 0 281474976710655 word

abbrev pub count_in : List ℕ → ℕ
count_in word = number_in 0 65535 word

abbrev pub submit_with : List (List ℕ) → Op → List ℕ → List ℕ → Step
submit_with ws op allow wait = Submit (number_in 1 65535 (second ws)) (number_in 0 14 (third ws)) op (number_in 0 100 allow) (number_in 1 1000000 wait)

abbrev pub op_of_name : List ℕ → ℕ → ℕ → Op
op_of_name name lba count = if bytes_eq name (codes "read") then Read lba count else Verify lba count

abbrev pub read_op : List (List ℕ) → Op
read_op ws = op_of_name (first ws) (sector_in (second ws)) (count_in (third ws))

abbrev pub flush_op : List ℕ → Op
flush_op name = if bytes_eq name (codes "flush") then Flush else Power

abbrev pub read_step : List (List ℕ) → Step
read_step ws = submit_with ws (read_op (after_three ws)) (seventh ws) (eighth ws)

abbrev pub write_step : List (List ℕ) → Step
write_step ws =
    submit_with ws (Write (sector_in (fifth ws)) (count_in (sixth ws)) (number_in 0 18446744073709551615 (seventh ws))) (eighth ws) (ninth ws)

abbrev pub flush_step : List (List ℕ) → Step
flush_step ws = submit_with ws (flush_op (fourth ws)) (fifth ws) (sixth ws)

abbrev pub kick_step : List (List ℕ) → Step
kick_step ws = Kick (number_in 0 14 (second ws))

abbrev pub work_step : List (List ℕ) → Step
work_step ws = Work (number_in 0 14 (second ws)) (number_in 0 31 (third ws))

abbrev pub stray_step : List (List ℕ) → Step
stray_step ws = Stray (number_in 0 31 (second ws))

abbrev pub tick_step : List (List ℕ) → Step
tick_step ws = Tick (number_in 0 1000000 (second ws))

abbrev pub plug_step : List (List ℕ) → Step
plug_step ws = Plug (number_in 0 14 (second ws)) (number_in 0 31 (third ws))

abbrev pub unplug_step : List (List ℕ) → Step
unplug_step ws = Unplug (number_in 0 14 (second ws))

abbrev pub inject_with : List (List ℕ) → Fault → Step
inject_with ws fault = Inject (number_in 0 14 (second ws)) fault

-- a fault that comes k times, by its name
abbrev pub fault_of_name : List ℕ → ℕ → Fault
fault_of_name name k =
    if bytes_eq name (codes "hang") then Hang k else if bytes_eq name (codes "icrc") then Icrc k
    else if bytes_eq name (codes "abort") then Abort k else if bytes_eq name (codes "df") then Df k
    else if bytes_eq name (codes "badstat") then BadStat k else if bytes_eq name (codes "idnf") then Idnf k
    else if bytes_eq name (codes "logfail") then LogFail k else if bytes_eq name (codes "logsum") then LogSum k
    else if bytes_eq name (codes "lognq") then LogNq k else if bytes_eq name (codes "logidle") then LogIdle k else IdentFail k

abbrev pub media_step : List (List ℕ) → Step
media_step ws = inject_with ws (Media (sector_in (fourth ws)))

abbrev pub fault_step : List (List ℕ) → Step
fault_step ws = inject_with ws (fault_of_name (third ws) (number_in 1 100 (fourth ws)))

abbrev pub serr_step : List (List ℕ) → Step
serr_step ws = inject_with ws (Serr (serror_in (fourth ws)))

-- by the name of an operation, of a fault, of a step: its form, and the step

abbrev pub submit_fields_for : List ℕ → List Field
submit_fields_for op = if bytes_eq op (codes "write") then write_fields else if among flush_names op then flush_fields else read_fields

abbrev pub submit_form_for : List ℕ → List Field
submit_form_for op = submit_form (submit_fields_for op)

abbrev pub submit_step : List (List ℕ) → Step
submit_step ws =
    if bytes_eq (fourth ws) (codes "write") then write_step ws
    else if among flush_names (fourth ws) then flush_step ws else read_step ws

abbrev pub inject_fields_for : List ℕ → List Field
inject_fields_for fault =
    if bytes_eq fault (codes "media") then media_fields else if bytes_eq fault (codes "serr") then serr_fields else fault_fields

abbrev pub inject_form_for : List ℕ → List Field
inject_form_for fault = inject_form (inject_fields_for fault)

abbrev pub inject_step : List (List ℕ) → Step
inject_step ws =
    if bytes_eq (third ws) (codes "media") then media_step ws else if bytes_eq (third ws) (codes "serr") then serr_step ws else fault_step ws

unfoldable pub other_form_for : List ℕ → List ℕ → List Field
other_form_for name third =
    if bytes_eq name (codes "drop") then drop_form else if bytes_eq name (codes "stray") then stray_form
    else if bytes_eq name (codes "plug") then plug_form else if bytes_eq name (codes "unplug") then unplug_form
    else inject_form_for third

unfoldable pub other_step : List (List ℕ) → Step
other_step ws =
    if bytes_eq (first ws) (codes "drop") then Drop else if bytes_eq (first ws) (codes "stray") then stray_step ws
    else if bytes_eq (first ws) (codes "plug") then plug_step ws else if bytes_eq (first ws) (codes "unplug") then unplug_step ws
    else inject_step ws

unfoldable pub step_form_for : List ℕ → List ℕ → List ℕ → List Field
step_form_for name third fourth =
    if bytes_eq name (codes "submit") then submit_form_for fourth else if bytes_eq name (codes "kick") then kick_form
    else if bytes_eq name (codes "work") then work_form else if bytes_eq name (codes "irq") then irq_form
    else if bytes_eq name (codes "tick") then tick_form else if bytes_eq name (codes "expire") then expire_form
    else if bytes_eq name (codes "recover") then recover_form else other_form_for name third

unfoldable pub step_for : List (List ℕ) → Step
step_for ws =
    if bytes_eq (first ws) (codes "submit") then submit_step ws else if bytes_eq (first ws) (codes "kick") then kick_step ws
    else if bytes_eq (first ws) (codes "work") then work_step ws else if bytes_eq (first ws) (codes "irq") then Irq
    else if bytes_eq (first ws) (codes "tick") then tick_step ws else if bytes_eq (first ws) (codes "expire") then Expire
    else if bytes_eq (first ws) (codes "recover") then Recover else other_step ws

-- the form of a step, by its words from the name on
abbrev pub step_form_of : List (List ℕ) → List Field
step_form_of ws = step_form_for (first ws) (third ws) (fourth ws)

-- a line of a step
abbrev pub step_item : List (List ℕ) → Item
step_item ws = Taken (number_in 0 31 (first ws)) (number_in 0 7 (second ws)) (step_for (after_two ws))

-- whether the version is 2
abbrev pub is_second : ℕ → Bool
is_second version = version == 2

-- a head line
abbrev pub head_form_for : ℕ → List (List ℕ) → List Field
head_form_for version ws = if bytes_eq (first ws) (codes "port") then port_form_for (is_second version) ws else drive_form

abbrev pub head_item : ℕ → List (List ℕ) → Item
head_item version ws = if bytes_eq (first ws) (codes "port") then port_item (is_second version) ws else drive_item ws

-- a line: its form, and the item
abbrev pub form_for : ℕ → List (List ℕ) → List Field
form_for version ws = if is_head (first ws) then head_form_for version ws else step_form (step_form_of (after_two ws))

abbrev pub item_for : ℕ → List (List ℕ) → Item
item_for version ws = if is_head (first ws) then head_item version ws else step_item ws
