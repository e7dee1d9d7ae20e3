-- The forms of lines.
use Rattle.std.specs.Prelude.{ℕ, Bool, ◌||◌, ◌==◌, List, [], ◌∷◌, codes, Option, Some, if◌then◌else◌}
use Rattle.std.specs.Str.{bytes_eq}
use Rattle.ata_base.specs.Limits.{most_drive_sectors}
use Rattle.ata_trace.specs.Parts.{first}
use Rattle.ata_script.specs.Fields.{Field, fits, rule_by}
use Rattle.ata_script.specs.Fields.Field.{Small, OneOf, Number, NumberOr, Name}

-- the numbers and words that several forms have

-- the number of an actor
abbrev pub an_actor : Field
an_actor = Number 0 31

-- the number of a port
abbrev pub a_port : Field
a_port = Number 0 7

-- a place
abbrev pub a_place : Field
a_place = Number 0 14

-- the number of a drive
abbrev pub a_drive : Field
a_drive = Number 0 31

-- the number of a command
abbrev pub an_id : Field
an_id = Number 1 65535

-- an allowance, and a wait in ms
abbrev pub an_allowance : Field
an_allowance = Number 0 100

abbrev pub a_wait : Field
a_wait = Number 1 1000000

-- the first sector, below 2^48, and how many
abbrev pub a_sector : Field
a_sector = Number 0 281474976710655

abbrev pub a_count : Field
a_count = Number 0 65535

-- `port P direct`
abbrev pub direct_form : List Field
direct_form = Small (codes "port") ∷ a_port ∷ Small (codes "direct") ∷ []

-- `port P pmp N`
abbrev pub pmp_form : List Field
pmp_form = Small (codes "port") ∷ a_port ∷ Small (codes "pmp") ∷ Number 1 15 ∷ []

-- `port P direct drain`
abbrev pub direct_drain_form : List Field
direct_drain_form = Small (codes "port") ∷ a_port ∷ Small (codes "direct") ∷ Small (codes "drain") ∷ []

-- `port P pmp N fbs`
abbrev pub fbs_form : List Field
fbs_form = Small (codes "port") ∷ a_port ∷ Small (codes "pmp") ∷ Number 1 15 ∷ Small (codes "fbs") ∷ []

-- `port P pmp N drain`
abbrev pub drain_form : List Field
drain_form = Small (codes "port") ∷ a_port ∷ Small (codes "pmp") ∷ Number 1 15 ∷ Small (codes "drain") ∷ []

-- `port P pmp N fbs drain`
abbrev pub fbs_drain_form : List Field
fbs_drain_form = Small (codes "port") ∷ a_port ∷ Small (codes "pmp") ∷ Number 1 15 ∷ Small (codes "fbs") ∷ Small (codes "drain") ∷ []

-- `drive P D X MODEL SERIAL SECTORS DEPTH GEN READY`, with `-` for X where it is a spare
abbrev pub drive_form : List Field
drive_form =
    Small (codes "drive") ∷ a_port ∷ a_drive ∷ NumberOr (codes "-") 0 14 ∷ Name 40 ∷ Name 20
    ∷ Number 1 most_drive_sectors ∷ Number 0 32 ∷ Number 1 3 ∷ Number 0 60000 ∷ []

-- `submit C X`, and what follows
abbrev pub submit_form : List Field → List Field
submit_form fields = Small (codes "submit") ∷ an_id ∷ a_place ∷ fields

-- `submit C X read L K A W`, also `verify`
abbrev pub read_names : List (List ℕ)
read_names = codes "read" ∷ codes "verify" ∷ []

abbrev pub read_fields : List Field
read_fields = OneOf read_names ∷ a_sector ∷ a_count ∷ an_allowance ∷ a_wait ∷ []

abbrev pub read_form : List Field
read_form = submit_form read_fields

-- `submit C X write L K V A W`
abbrev pub write_fields : List Field
write_fields = Small (codes "write") ∷ a_sector ∷ a_count ∷ Number 0 18446744073709551615 ∷ an_allowance ∷ a_wait ∷ []

abbrev pub write_form : List Field
write_form = submit_form write_fields

-- `submit C X flush A W`, also `power`
abbrev pub flush_names : List (List ℕ)
flush_names = codes "flush" ∷ codes "power" ∷ []

abbrev pub flush_fields : List Field
flush_fields = OneOf flush_names ∷ an_allowance ∷ a_wait ∷ []

abbrev pub flush_form : List Field
flush_form = submit_form flush_fields

-- `kick X`
abbrev pub kick_form : List Field
kick_form = Small (codes "kick") ∷ a_place ∷ []

-- `work X I`
abbrev pub work_form : List Field
work_form = Small (codes "work") ∷ a_place ∷ Number 0 31 ∷ []

-- `irq`
abbrev pub irq_form : List Field
irq_form = Small (codes "irq") ∷ []

-- `drop`
abbrev pub drop_form : List Field
drop_form = Small (codes "drop") ∷ []

-- `stray T`
abbrev pub stray_form : List Field
stray_form = Small (codes "stray") ∷ Number 0 31 ∷ []

-- `tick MS`
abbrev pub tick_form : List Field
tick_form = Small (codes "tick") ∷ Number 0 1000000 ∷ []

-- `expire`
abbrev pub expire_form : List Field
expire_form = Small (codes "expire") ∷ []

-- `recover`
abbrev pub recover_form : List Field
recover_form = Small (codes "recover") ∷ []

-- `plug X D`
abbrev pub plug_form : List Field
plug_form = Small (codes "plug") ∷ a_place ∷ a_drive ∷ []

-- `unplug X`
abbrev pub unplug_form : List Field
unplug_form = Small (codes "unplug") ∷ a_place ∷ []

-- `inject X`, and what follows
abbrev pub inject_form : List Field → List Field
inject_form fields = Small (codes "inject") ∷ a_place ∷ fields

-- `inject X media L`
abbrev pub media_fields : List Field
media_fields = Small (codes "media") ∷ a_sector ∷ []

abbrev pub media_form : List Field
media_form = inject_form media_fields

-- the faults that come a number of times
abbrev pub fault_names : List (List ℕ)
fault_names =
    codes "hang" ∷ codes "icrc" ∷ codes "abort" ∷ codes "df" ∷ codes "badstat" ∷ codes "idnf" ∷ codes "logfail"
    ∷ codes "logsum" ∷ codes "lognq" ∷ codes "logidle" ∷ codes "identfail" ∷ []

-- `inject X hang K`, and so on
abbrev pub fault_fields : List Field
fault_fields = OneOf fault_names ∷ Number 1 100 ∷ []

abbrev pub fault_form : List Field
fault_form = inject_form fault_fields

-- the bits of SError
abbrev pub serr_names : List (List ℕ)
serr_names = codes "data" ∷ codes "persist" ∷ codes "proto" ∷ codes "internal" ∷ codes "phy" ∷ codes "exch" ∷ []

-- `inject X serr B`
abbrev pub serr_fields : List Field
serr_fields = Small (codes "serr") ∷ OneOf serr_names ∷ []

abbrev pub serr_form : List Field
serr_form = inject_form serr_fields

-- `A P STEP`
abbrev pub step_form : List Field → List Field
step_form fields = an_actor ∷ a_port ∷ fields

-- the forms of head lines in version 1, and those that version 2 has besides
abbrev pub first_head_forms : List (List Field)
first_head_forms = direct_form ∷ pmp_form ∷ drive_form ∷ []

abbrev pub second_head_forms : List (List Field)
second_head_forms = direct_form ∷ pmp_form ∷ drive_form ∷ direct_drain_form ∷ fbs_form ∷ drain_form ∷ fbs_drain_form ∷ []

abbrev pub head_forms : ℕ → List (List Field)
head_forms version = if version == 2 then second_head_forms else first_head_forms

-- the forms of step lines
abbrev pub step_forms : List (List Field)
step_forms =
    step_form read_form ∷ step_form write_form ∷ step_form flush_form ∷ step_form kick_form ∷ step_form work_form ∷ step_form irq_form
    ∷ step_form tick_form ∷ step_form expire_form ∷ step_form recover_form ∷ step_form drop_form ∷ step_form stray_form
    ∷ step_form plug_form ∷ step_form unplug_form ∷ step_form media_form ∷ step_form fault_form ∷ step_form serr_form ∷ []

-- whether a word begins a head line
abbrev pub is_head : List ℕ → Bool
is_head word = bytes_eq word (codes "port") || bytes_eq word (codes "drive")

-- a line whose first word is `port` or `drive` is held against the head forms alone
abbrev pub forms_for : ℕ → List (List ℕ) → List (List Field)
forms_for version words = if is_head (first words) then head_forms version else step_forms

-- the least rule that words break: by the first form that they fit, and 3 where they fit none
abbrev pub rule_among : List (List Field) → List (List ℕ) → Option ℕ
rule_among [] words = Some 3
rule_among (form ∷ forms) words = if fits form words then rule_by form words else rule_among forms words

-- the least of the rules 3, 4 and 5 that the words of a line break in a script of this version
abbrev pub rule_of : ℕ → List (List ℕ) → Option ℕ
rule_of version words = rule_among (forms_for version words) words
