use Rattle.std.specs.Prelude.{ℕ, Bool, true, false, Option, Some, None, List, [], ◌∷◌, ◌++◌, codes, decimal, if◌then◌else◌}
use Rattle.hex.specs.Hex.{encode_lower}
use Rattle.ata_base.specs.Kinds.{has, dev, hsm, timeout, media, ata_bus, host_bus, system, invalid, other, nodev, ncq}
use Rattle.ata_base.specs.declared.fault.Fault.{Fault}
use Rattle.ata_base.specs.declared.fault.Fault.TheVariants.{Media, Hang, Icrc, Abort, Df, BadStat, Idnf, LogFail, LogSum, LogNq, LogIdle, IdentFail, Serr}
use Rattle.ata_base.specs.declared.fault.SerrorBit.{SerrorBit}
use Rattle.ata_base.specs.declared.fault.SerrorBit.TheVariants.{Data, Persist, Proto, Internal, Phy, Exch}
use Rattle.ata_base.specs.declared.op.Op.{Op}
use Rattle.ata_base.specs.declared.op.Op.TheVariants.{Read, Write, Verify, Flush, Power}
use Rattle.ata_base.specs.declared.deferral.Deferral.{Deferral}
use Rattle.ata_base.specs.declared.deferral.Deferral.TheVariants.{Frozen, Recovering, LinkBusy, PortBusy, NoTag}
use Rattle.ata_trace.specs.declared.refusal.Refusal.{Refusal}
use Rattle.ata_trace.specs.declared.refusal.Refusal.TheVariants.{SameId, NoDevice, BadCount, BadRange}
use Rattle.ata_base.specs.declared.link_action.LinkAction.{LinkAction}
use Rattle.ata_base.specs.declared.link_action.LinkAction.TheVariants.{NoAction, Revalidate, Reset}
use Rattle.ata_base.specs.declared.speed_action.SpeedAction.{SpeedAction}
use Rattle.ata_base.specs.declared.speed_action.SpeedAction.TheVariants.{NoChange, NcqOff, Speed, Mode}
use Rattle.ata_trace.specs.declared.who.Who.{Who}
use Rattle.ata_trace.specs.declared.who.Who.TheVariants.{Actor, Settle, Boot}

-- a byte in two lower-case hexadecimal digits
abbrev pub byte_word : ℕ → List ℕ
byte_word byte = encode_lower (byte ∷ [])

-- a choice between two words
abbrev pub either_word : List ℕ → List ℕ → Bool → List ℕ
either_word one other b = if b then one else other

-- a place, or `host` where there is none
abbrev pub where_word : Option ℕ → List ℕ
where_word None = codes "host"
where_word (Some place) = decimal place

-- a text with one name more, behind a `+` unless it is the first; the text as it was where not b
abbrev pub plus_if : Bool → List ℕ → List ℕ → List ℕ
plus_if false name text = text
plus_if true name [] = name
plus_if true name (c ∷ text) = c ∷ text ++ 43 ∷ name

-- a text and the names that are chosen
abbrev pub plus_names : List ℕ → List (Bool × List ℕ) → List ℕ
plus_names text [] = text
plus_names text ((b, name) ∷ rest) = plus_names (plus_if b name text) rest

-- a text, or `none` where it is empty
abbrev pub or_none : List ℕ → List ℕ
or_none [] = codes "none"
or_none (c ∷ text) = c ∷ text

-- the kinds of error of a set, in the order of their bits
abbrev pub kinds_word : ℕ → List ℕ
kinds_word mask =
    or_none (plus_names []
    ((has mask dev, codes "dev") ∷ (has mask hsm, codes "hsm") ∷ (has mask timeout, codes "timeout")
    ∷ (has mask media, codes "media") ∷ (has mask ata_bus, codes "ata-bus") ∷ (has mask host_bus, codes "host-bus")
    ∷ (has mask system, codes "system") ∷ (has mask invalid, codes "invalid") ∷ (has mask other, codes "other")
    ∷ (has mask nodev, codes "nodev") ∷ (has mask ncq, codes "ncq") ∷ []))

-- what a ring says: no queuing, less speed, PIO, and to keep the entries
abbrev pub verdict_word : Bool → Bool → Bool → Bool → List ℕ
verdict_word ncq_off speed_down pio keep =
    or_none (plus_names [] ((ncq_off, codes "ncq-off") ∷ (speed_down, codes "speed-down") ∷ (pio, codes "pio") ∷ (keep, codes "keep") ∷ []))

-- who: the number of an actor, `boot` or `settle`
abbrev pub who_word : Who → List ℕ
who_word (Actor actor) = decimal actor
who_word Boot = codes "boot"
who_word Settle = codes "settle"

-- why a command was refused
abbrev pub refusal_word : Refusal → List ℕ
refusal_word SameId = codes "same-id"
refusal_word NoDevice = codes "no-device"
refusal_word BadCount = codes "bad-count"
refusal_word BadRange = codes "bad-range"

-- why a command wasn't issued
abbrev pub deferral_word : Deferral → List ℕ
deferral_word Frozen = codes "frozen"
deferral_word Recovering = codes "recovering"
deferral_word LinkBusy = codes "link-busy"
deferral_word PortBusy = codes "port-busy"
deferral_word NoTag = codes "no-tag"

-- what recovery does at a place
abbrev pub action_word : LinkAction → List ℕ
action_word NoAction = codes "none"
action_word Revalidate = codes "revalidate"
action_word Reset = codes "reset"

-- what is done about the speed
abbrev pub speed_words : SpeedAction → List (List ℕ)
speed_words NoChange = codes "none" ∷ []
speed_words NcqOff = codes "ncq-off" ∷ []
speed_words (Speed generation) = codes "speed" ∷ decimal generation ∷ []
speed_words (Mode udma) = codes "mode" ∷ decimal udma ∷ []

-- the words of an operation: the first sector, the number of sectors, and the stamp of a write
abbrev pub op_words : Op → List (List ℕ)
op_words (Read lba count) = codes "read" ∷ decimal lba ∷ decimal count ∷ []
op_words (Write lba count stamp) = codes "write" ∷ decimal lba ∷ decimal count ∷ decimal stamp ∷ []
op_words (Verify lba count) = codes "verify" ∷ decimal lba ∷ decimal count ∷ []
op_words Flush = codes "flush" ∷ []
op_words Power = codes "power" ∷ []

-- a bit of the SError register
abbrev pub serror_word : SerrorBit → List ℕ
serror_word Data = codes "data"
serror_word Persist = codes "persist"
serror_word Proto = codes "proto"
serror_word Internal = codes "internal"
serror_word Phy = codes "phy"
serror_word Exch = codes "exch"

-- the words of a fault
abbrev pub fault_words : Fault → List (List ℕ)
fault_words (Media lba) = codes "media" ∷ decimal lba ∷ []
fault_words (Hang k) = codes "hang" ∷ decimal k ∷ []
fault_words (Icrc k) = codes "icrc" ∷ decimal k ∷ []
fault_words (Abort k) = codes "abort" ∷ decimal k ∷ []
fault_words (Df k) = codes "df" ∷ decimal k ∷ []
fault_words (BadStat k) = codes "badstat" ∷ decimal k ∷ []
fault_words (Idnf k) = codes "idnf" ∷ decimal k ∷ []
fault_words (LogFail k) = codes "logfail" ∷ decimal k ∷ []
fault_words (LogSum k) = codes "logsum" ∷ decimal k ∷ []
fault_words (LogNq k) = codes "lognq" ∷ decimal k ∷ []
fault_words (LogIdle k) = codes "logidle" ∷ decimal k ∷ []
fault_words (IdentFail k) = codes "identfail" ∷ decimal k ∷ []
fault_words (Serr bit) = codes "serr" ∷ serror_word bit ∷ []
