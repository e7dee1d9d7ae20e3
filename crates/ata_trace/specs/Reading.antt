-- What a word may tell: its meaning, where it is the word of one, and any other value where it isn't.
-- No promise leans on these but that of what is told of a line that was written.
use Rattle.std.specs.Prelude.{ℕ, zero, suc, ◌+◌, ◌*◌, ◌%◌, ◌^◌, Bool, true, false, ◌&&◌, ◌||◌, nat_le, ◌==◌, Option, Some, None, Result, Ok, Err, List, [], ◌∷◌, length, codes, if◌then◌else◌}
use Rattle.std.specs.Str.{bytes_eq}
use Rattle.std.specs.Int.RustNames.{bit_or}
use Rattle.hex.specs.Hex.{decode_sized}
use Rattle.hex.specs.declared.error.FromHexError.{FromHexError}
use Rattle.ata_base.specs.declared.fault.Fault.{Fault}
use Rattle.ata_base.specs.declared.fault.Fault.TheVariants.{Media, Hang, Icrc, Abort, Df, BadStat, Idnf, LogFail, LogSum, LogNq, LogIdle, IdentFail, Serr}
use Rattle.ata_base.specs.declared.fault.SerrorBit.{SerrorBit}
use Rattle.ata_base.specs.declared.fault.SerrorBit.TheVariants.{Data, Persist, Proto, Internal, Phy, Exch}
use Rattle.ata_base.specs.declared.op.Op.{Op}
use Rattle.ata_base.specs.declared.op.Op.TheVariants.{Read, Write, Verify, Flush, Power}
use Rattle.ata_trace.specs.Parts.{parts_of, first, later}
use Rattle.ata_base.specs.declared.deferral.Deferral.{Deferral}
use Rattle.ata_base.specs.declared.deferral.Deferral.TheVariants.{Frozen, Recovering, LinkBusy, PortBusy, NoTag}
use Rattle.ata_trace.specs.declared.refusal.Refusal.{Refusal}
use Rattle.ata_trace.specs.declared.refusal.Refusal.TheVariants.{SameId, NoDevice, BadCount, BadRange}
use Rattle.ata_base.specs.declared.link_action.LinkAction.{LinkAction}
use Rattle.ata_base.specs.declared.link_action.LinkAction.TheVariants.{NoAction, Revalidate, Reset}
use Rattle.ata_base.specs.declared.speed_action.SpeedAction.{SpeedAction}
use Rattle.ata_base.specs.declared.speed_action.SpeedAction.TheVariants.{NoChange, NcqOff, Speed, Mode}
use Rattle.ata_trace.specs.declared.who.Who.{Who}
use Rattle.ata_trace.specs.declared.who.Who.TheVariants.{Actor, Settle, Boot}

-- a number with one digit more, of 64 bits
abbrev pub with_digit : ℕ → ℕ → ℕ
with_digit n digit = (n * 10 % 2 ^ 64 + digit % 16) % 2 ^ 64

-- a number with these digits more
unfoldable pub value_from : ℕ → List ℕ → ℕ
value_from n [] = n
value_from n (digit ∷ rest) = value_from (with_digit n digit) rest

-- the number, where it is in the range, and else the least of it
abbrev pub within : ℕ → ℕ → ℕ → ℕ
within least most n = if nat_le least n && nat_le n most then n else least

-- a number of a range
abbrev pub number_in : ℕ → ℕ → List ℕ → ℕ
number_in least most word = within least most (value_from 0 word)

-- any number of 64 bits
abbrev pub any_in : List ℕ → ℕ
any_in word = number_in 0 18446744073709551615 word

-- a sector that 48 bits can name
abbrev pub lba_in : List ℕ → ℕ
lba_in word = number_in 0 281474976710655 word

-- how often a fault may come
abbrev pub times_in : List ℕ → ℕ
times_in word = number_in 1 100 word

-- a place, or none
abbrev pub where_in : List ℕ → Option ℕ
where_in word = if bytes_eq word (codes "host") then None else Some (number_in 0 14 word)

-- what was decoded, or else this
abbrev pub decoded_or : List ℕ → Result (List ℕ) FromHexError → List ℕ
decoded_or other (Ok bytes) = bytes
decoded_or other (Err e) = other

-- the one byte of a list
abbrev pub one_of : List ℕ → ℕ
one_of [] = 0
one_of (byte ∷ rest) = byte

-- a byte
abbrev pub byte_in : List ℕ → ℕ
byte_in word = one_of (decoded_or (0 ∷ []) (decode_sized word 1))

-- a frame of 20 bytes
abbrev pub frame_in : List ℕ → List ℕ
frame_in word = decoded_or (0 ∷ 0 ∷ 0 ∷ 0 ∷ 0 ∷ 0 ∷ 0 ∷ 0 ∷ 0 ∷ 0 ∷ 0 ∷ 0 ∷ 0 ∷ 0 ∷ 0 ∷ 0 ∷ 0 ∷ 0 ∷ 0 ∷ 0 ∷ []) (decode_sized word 20)

-- whether a character may stand in the name of a drive
abbrev pub in_name : ℕ → Bool
in_name c = (nat_le 65 c && nat_le c 90) || (nat_le 97 c && nat_le c 122) || (nat_le 48 c && nat_le c 57) || (c == 45)

abbrev pub all_in_name : List ℕ → Bool
all_in_name [] = true
all_in_name (c ∷ rest) = in_name c && all_in_name rest

-- whether a word is the name of a drive
abbrev pub is_name : List ℕ → Bool
is_name [] = false
is_name (c ∷ rest) = all_in_name (c ∷ rest)

-- a name of at most so many characters
abbrev pub name_in : ℕ → List ℕ → List ℕ
name_in most word = if is_name word && nat_le (length word) most then word else codes "-"

-- these kinds, where the next of the names is this one
abbrev pub kind_if : List (List ℕ) → List ℕ → ℕ → ℕ
kind_if parts name kind = if bytes_eq (first parts) name then kind else 0

-- the names behind that one
abbrev pub after_name : List (List ℕ) → List ℕ → List (List ℕ)
after_name parts name = if bytes_eq (first parts) name then later parts else parts

-- the kinds of error, of which each is looked for in its turn
abbrev pub kinds_from : List (List ℕ) → List (List ℕ × ℕ) → ℕ → ℕ
kinds_from parts [] kinds = kinds
kinds_from parts ((name, kind) ∷ rest) kinds = kinds_from (after_name parts name) rest (bit_or kinds (kind_if parts name kind))

unfoldable pub kinds_in : List ℕ → ℕ
kinds_in word =
    kinds_from (parts_of 43 word)
    ((codes "dev", 1) ∷ (codes "hsm", 2) ∷ (codes "timeout", 4) ∷ (codes "media", 8) ∷ (codes "ata-bus", 16) ∷ (codes "host-bus", 32)
    ∷ (codes "system", 64) ∷ (codes "invalid", 128) ∷ (codes "other", 256) ∷ (codes "nodev", 512) ∷ (codes "ncq", 1024) ∷ []) 0

abbrev pub who_in : List ℕ → Who
who_in word = if bytes_eq word (codes "boot") then Boot else if bytes_eq word (codes "settle") then Settle else Actor (number_in 0 31 word)

abbrev pub refusal_in : List ℕ → Refusal
refusal_in word =
    if bytes_eq word (codes "same-id") then SameId else if bytes_eq word (codes "no-device") then NoDevice
    else if bytes_eq word (codes "bad-count") then BadCount else BadRange

abbrev pub deferral_in : List ℕ → Deferral
deferral_in word =
    if bytes_eq word (codes "frozen") then Frozen else if bytes_eq word (codes "recovering") then Recovering
    else if bytes_eq word (codes "link-busy") then LinkBusy else if bytes_eq word (codes "port-busy") then PortBusy else NoTag

abbrev pub action_in : List ℕ → LinkAction
action_in word = if bytes_eq word (codes "none") then NoAction else if bytes_eq word (codes "revalidate") then Revalidate else Reset

abbrev pub speed_in : List (List ℕ) → SpeedAction
speed_in ws =
    if bytes_eq (first ws) (codes "none") then NoChange else if bytes_eq (first ws) (codes "ncq-off") then NcqOff
    else if bytes_eq (first ws) (codes "speed") then Speed (number_in 0 255 (first (later ws))) else Mode (number_in 0 255 (first (later ws)))

-- the stamps of these words, of so many at most
abbrev pub stamps_in : ℕ → List (List ℕ) → List ℕ
stamps_in zero ws = []
stamps_in (suc most) [] = []
stamps_in (suc most) (word ∷ rest) = value_from 0 word ∷ stamps_in most rest

-- an operation, by its name and the words behind it
abbrev pub op_in : List ℕ → List (List ℕ) → Op
op_in name ws =
    if bytes_eq name (codes "read") then Read (lba_in (first ws)) (number_in 0 65535 (first (later ws)))
    else if bytes_eq name (codes "write") then Write (lba_in (first ws)) (number_in 0 65535 (first (later ws))) (any_in (first (later (later ws))))
    else if bytes_eq name (codes "verify") then Verify (lba_in (first ws)) (number_in 0 65535 (first (later ws)))
    else if bytes_eq name (codes "flush") then Flush else Power

-- the words behind it
abbrev pub after_op : List ℕ → List (List ℕ) → List (List ℕ)
after_op name ws =
    if bytes_eq name (codes "read") then later (later ws) else if bytes_eq name (codes "write") then later (later (later ws))
    else if bytes_eq name (codes "verify") then later (later ws) else ws

-- a bit of the SError register
abbrev pub serror_in : List ℕ → SerrorBit
serror_in word =
    if bytes_eq word (codes "data") then Data else if bytes_eq word (codes "persist") then Persist else if bytes_eq word (codes "proto") then Proto
    else if bytes_eq word (codes "internal") then Internal else if bytes_eq word (codes "phy") then Phy else Exch

-- a fault, by its name and the word behind it
abbrev pub fault_in : List ℕ → List ℕ → Fault
fault_in name word =
    if bytes_eq name (codes "media") then Media (lba_in word) else if bytes_eq name (codes "hang") then Hang (times_in word)
    else if bytes_eq name (codes "icrc") then Icrc (times_in word) else if bytes_eq name (codes "abort") then Abort (times_in word)
    else if bytes_eq name (codes "df") then Df (times_in word) else if bytes_eq name (codes "badstat") then BadStat (times_in word)
    else if bytes_eq name (codes "idnf") then Idnf (times_in word) else if bytes_eq name (codes "logfail") then LogFail (times_in word)
    else if bytes_eq name (codes "logsum") then LogSum (times_in word) else if bytes_eq name (codes "lognq") then LogNq (times_in word)
    else if bytes_eq name (codes "logidle") then LogIdle (times_in word)
    else if bytes_eq name (codes "identfail") then IdentFail (times_in word) else Serr (serror_in word)
