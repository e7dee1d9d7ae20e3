-- Each kind of word: read, it tells what was written, and no space is in it.
use Rattle.std.proofs.Common.{arith, ◌≡◌, ℕ, suc, zero, ◌<◌, ◌≤◌, ◌/◌, ◌%◌, Bool, true, false, ◌&&◌, List, [], ◌∷◌, length, refl, ap, decimal, codes}
use Rattle.std.specs.Prelude.{Option, Some, None, map, slice_index, nat_eq, nat_lt}
use Rattle.std.specs.Str.{bytes_eq}
use Rattle.std.proofs.lemmas.Bool.Decides.{nat_tests}
use Rattle.hex.specs.Hex.{encode_lower, encode_with, lower_digits, IsBytes}
use Rattle.hex.proofs.HexLemmas.{decode_sized-encode_lower}
use Rattle.ata_trace.specs.Ranges.{IsPlace, IsSmall, IsWhere, IsFrame, IsName, IsKinds, AreLong, AreStamps, IsSpeed}
use Rattle.ata_trace.specs.Reading.{where_in, byte_in, frame_in, all_in_name, in_name, is_name, name_in, kinds_in, refusal_in, deferral_in, action_in, speed_in, stamps_in}
use Rattle.ata_trace.specs.Told.{ncq_off_in, speed_down_in, pio_in, keep_in}
use Rattle.ata_trace.specs.Words.{byte_word, either_word, where_word, kinds_word, verdict_word, refusal_word, deferral_word, action_word, speed_words}
use Rattle.ata_base.specs.declared.deferral.Deferral.{Deferral}
use Rattle.ata_base.specs.declared.deferral.Deferral.TheVariants.{Frozen, Recovering, LinkBusy, PortBusy, NoTag}
use Rattle.ata_trace.specs.declared.refusal.Refusal.{Refusal}
use Rattle.ata_trace.specs.declared.refusal.Refusal.TheVariants.{SameId, NoDevice, BadCount, BadRange}
use Rattle.ata_base.specs.declared.link_action.LinkAction.{LinkAction}
use Rattle.ata_base.specs.declared.link_action.LinkAction.TheVariants.{NoAction, Revalidate, Reset}
use Rattle.ata_base.specs.declared.speed_action.SpeedAction.{SpeedAction}
use Rattle.ata_base.specs.declared.speed_action.SpeedAction.TheVariants.{NoChange, NcqOff, Speed, Mode}
use Rattle.ata_trace.proofs.Digits.{plain, value_decimal, n_in, n_plain, no_letters}
use Rattle.ata_trace.proofs.NameLemmas.{both, name_is, name_some}

-- what holds of each number below a bound, by trying each
abbrev pub all_below : ℕ → (ℕ → Bool) → Bool
all_below zero f = true
all_below (suc n) f = f n && all_below n f

pub tried : (bound : ℕ) (f : ℕ → Bool) → all_below bound f ≡ true → (n : ℕ) → n < bound → f n ≡ true
tried zero f all n l = absurd (omega (arith, l))
tried (suc bound) f all n l =
    let here = both (f bound) (all_below bound f) all in
    last (nat_eq n bound) refl here.0 (λ below. tried bound f here.1 n below) where
      last : (b : Bool) → nat_eq n bound ≡ b → f bound ≡ true → (n < bound → f n ≡ true) → f n ≡ true
      last true e here before = let same : n ≡ bound = grind (arith, nat_tests, e) in rw same here
      last false e here before = before (grind (arith, nat_tests, e, l))

-- kinds of error: all 2,048 sets are tried
unfoldable kinds_right : ℕ → Bool
kinds_right mask = plain (kinds_word mask) && nat_eq (kinds_in (kinds_word mask)) mask

all_kinds_right : all_below 2048 kinds_right ≡ true
unfolding kinds_right kinds_in
all_kinds_right = refl

kinds_right_at : (mask : ℕ) → IsKinds mask → (plain (kinds_word mask) ≡ true) × (nat_eq (kinds_in (kinds_word mask)) mask ≡ true)
unfolding kinds_right
kinds_right_at mask h = both (plain (kinds_word mask)) (nat_eq (kinds_in (kinds_word mask)) mask) (tried 2048 kinds_right all_kinds_right mask (omega (arith, h.high)))

pub k_in : {mask : ℕ} → IsKinds mask → kinds_in (kinds_word mask) ≡ mask
k_in {mask} h = grind (arith, nat_tests, (kinds_right_at mask h).1)

pub k_plain : {mask : ℕ} → IsKinds mask → plain (kinds_word mask) ≡ true
k_plain {mask} h = (kinds_right_at mask h).0

-- a place or the host
pub not_host : {place : ℕ} → IsPlace place → bytes_eq (decimal place) (codes "host") ≡ false
not_host {place} h = no_letters place 104 (codes "ost") h.small (omega arith)

pub w_in : (place : Option ℕ) → IsWhere place → where_in (where_word place) ≡ place
w_in None h = refl
w_in (Some place) h = rw (not_host h) (ap Some (n_in h))

pub w_plain : (place : Option ℕ) → IsWhere place → plain (where_word place) ≡ true
w_plain None h = refl
w_plain (Some place) h = n_plain h

-- hexadecimal digits
no_space : (i : ℕ) → i < 16 → nat_lt 32 (slice_index lower_digits i) ≡ true
no_space i l = tried 16 (λ i. nat_lt 32 (slice_index lower_digits i)) refl i l

hex_plain : (bytes : List ℕ) → IsBytes bytes → plain (encode_lower bytes) ≡ true
unfolding encode_with
hex_plain [] h = refl
hex_plain (b ∷ bytes) h =
    rw (no_space (b / 16) (omega (arith, h 0)), no_space (b % 16) (omega arith)) (hex_plain bytes (λ i. h (suc i)))

one_byte : (b : ℕ) → IsSmall b → IsBytes (b ∷ [])
one_byte b h zero = omega (arith, h.high)
one_byte b h (suc i) = omega arith

pub b_in : {b : ℕ} → IsSmall b → byte_in (byte_word b) ≡ b
b_in {b} h = rw (decode_sized-encode_lower (b ∷ []) 1 refl (one_byte b h)) refl

pub b_plain : {b : ℕ} → IsSmall b → plain (byte_word b) ≡ true
b_plain {b} h = hex_plain (b ∷ []) (one_byte b h)

pub f_in : {bytes : List ℕ} → IsFrame bytes → frame_in (encode_lower bytes) ≡ bytes
f_in {bytes} h = rw (decode_sized-encode_lower bytes 20 h.size h.each) refl

pub f_plain : {bytes : List ℕ} → IsFrame bytes → plain (encode_lower bytes) ≡ true
f_plain {bytes} h = hex_plain bytes h.each

-- names
name_plain : (w : List ℕ) → all_in_name w ≡ true → plain w ≡ true
name_plain [] h = refl
name_plain (c ∷ w) h = let b = both (in_name c) (all_in_name w) h in rw (name_plain w b.1) (grind (arith, nat_tests, b.0))

plain_name : (w : List ℕ) → is_name w ≡ true → plain w ≡ true
plain_name [] h = refl
plain_name (c ∷ w) h = name_plain (c ∷ w) h

pub d_in : {most : ℕ} {w : List ℕ} → IsName most w → name_in most w ≡ w
d_in {most} {w} h = name_some most w h.short h.allowed

pub d_plain : {most : ℕ} {w : List ℕ} → IsName most w → plain w ≡ true
d_plain {most} {w} h = plain_name w (name_is w h.allowed)

-- stamps
abbrev pub all_plain : List (List ℕ) → Bool
all_plain [] = true
all_plain (word ∷ rest) = plain word && all_plain rest

stamps_back : (most : ℕ) (stamps : List ℕ) → length stamps ≤ most → AreLong stamps → stamps_in most (map decimal stamps) ≡ stamps
stamps_back zero [] few h = refl
stamps_back zero (s ∷ stamps) few h = absurd (omega (arith, few))
stamps_back (suc most) [] few h = refl
stamps_back (suc most) (s ∷ stamps) few h = rw (value_decimal s h.0.small, stamps_back most stamps (omega (arith, few)) h.1) refl

long_plain : (stamps : List ℕ) → AreLong stamps → all_plain (map decimal stamps) ≡ true
long_plain [] h = refl
long_plain (s ∷ stamps) h = rw (n_plain h.0, long_plain stamps h.1) refl

pub s_in : {stamps : List ℕ} → AreStamps stamps → stamps_in 16 (map decimal stamps) ≡ stamps
s_in {stamps} h = stamps_back 16 stamps h.few h.each

pub s_plain : {stamps : List ℕ} → AreStamps stamps → all_plain (map decimal stamps) ≡ true
s_plain {stamps} h = long_plain stamps h.each

-- the words of enumerations
pub refusal_back : (why : Refusal) → (refusal_in (refusal_word why) ≡ why) × (plain (refusal_word why) ≡ true)
refusal_back SameId = (refl, refl)
refusal_back NoDevice = (refl, refl)
refusal_back BadCount = (refl, refl)
refusal_back BadRange = (refl, refl)

pub deferral_back : (why : Deferral) → (deferral_in (deferral_word why) ≡ why) × (plain (deferral_word why) ≡ true)
deferral_back Frozen = (refl, refl)
deferral_back Recovering = (refl, refl)
deferral_back LinkBusy = (refl, refl)
deferral_back PortBusy = (refl, refl)
deferral_back NoTag = (refl, refl)

pub action_back : (action : LinkAction) → (action_in (action_word action) ≡ action) × (plain (action_word action) ≡ true)
action_back NoAction = (refl, refl)
action_back Revalidate = (refl, refl)
action_back Reset = (refl, refl)

pub speed_back : (action : SpeedAction) → IsSpeed action → (speed_in (speed_words action) ≡ action) × (all_plain (speed_words action) ≡ true)
speed_back NoChange h = (refl, refl)
speed_back NcqOff h = (refl, refl)
speed_back (Speed generation) h = (rw (n_in h) refl, rw (n_plain h) refl)
speed_back (Mode udma) h = (rw (n_in h) refl, rw (n_plain h) refl)

-- a choice of two words
pub e_in : (one other : List ℕ) (b : Bool) → bytes_eq one one ≡ true → bytes_eq other one ≡ false → bytes_eq (either_word one other b) one ≡ b
e_in one other true p q = p
e_in one other false p q = q

pub e_plain : (one other : List ℕ) (b : Bool) → plain one ≡ true → plain other ≡ true → plain (either_word one other b) ≡ true
e_plain one other true p q = p
e_plain one other false p q = q

-- what a ring says
pub record SaysAgain (word : List ℕ) (a b c d : Bool) : Type 0 where
  pub ncq_off : ncq_off_in word ≡ a
  pub speed_down : speed_down_in word ≡ b
  pub pio : pio_in word ≡ c
  pub keep : keep_in word ≡ d
  pub one_word : plain word ≡ true

pub verdict_back : (a b c d : Bool) → SaysAgain (verdict_word a b c d) a b c d
verdict_back true true true true = record { ncq_off = refl; speed_down = refl; pio = refl; keep = refl; one_word = refl }
verdict_back true true true false = record { ncq_off = refl; speed_down = refl; pio = refl; keep = refl; one_word = refl }
verdict_back true true false true = record { ncq_off = refl; speed_down = refl; pio = refl; keep = refl; one_word = refl }
verdict_back true true false false = record { ncq_off = refl; speed_down = refl; pio = refl; keep = refl; one_word = refl }
verdict_back true false true true = record { ncq_off = refl; speed_down = refl; pio = refl; keep = refl; one_word = refl }
verdict_back true false true false = record { ncq_off = refl; speed_down = refl; pio = refl; keep = refl; one_word = refl }
verdict_back true false false true = record { ncq_off = refl; speed_down = refl; pio = refl; keep = refl; one_word = refl }
verdict_back true false false false = record { ncq_off = refl; speed_down = refl; pio = refl; keep = refl; one_word = refl }
verdict_back false true true true = record { ncq_off = refl; speed_down = refl; pio = refl; keep = refl; one_word = refl }
verdict_back false true true false = record { ncq_off = refl; speed_down = refl; pio = refl; keep = refl; one_word = refl }
verdict_back false true false true = record { ncq_off = refl; speed_down = refl; pio = refl; keep = refl; one_word = refl }
verdict_back false true false false = record { ncq_off = refl; speed_down = refl; pio = refl; keep = refl; one_word = refl }
verdict_back false false true true = record { ncq_off = refl; speed_down = refl; pio = refl; keep = refl; one_word = refl }
verdict_back false false true false = record { ncq_off = refl; speed_down = refl; pio = refl; keep = refl; one_word = refl }
verdict_back false false false true = record { ncq_off = refl; speed_down = refl; pio = refl; keep = refl; one_word = refl }
verdict_back false false false false = record { ncq_off = refl; speed_down = refl; pio = refl; keep = refl; one_word = refl }
