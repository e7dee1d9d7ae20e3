-- The acts of which nothing is asked, and the lists that have only such acts.
use Rattle.std.specs.Prelude.{Bool, true, false, List, [], ◌∷◌, ◌++◌, map, if◌then◌else◌}
use Rattle.std.specs.List.{flat_map}
use Rattle.ata_script.specs.declared.port_head.PortHead.{PortHead}
use Rattle.ata_trace.specs.Event.{Event}
use Rattle.ata_trace.specs.Event.Event.{Told}
use Rattle.ata_trace.specs.declared.act.Act.{Act}
use Rattle.ata_trace.specs.declared.act.Act.TheVariants.{Done, Accepted, Issued, AnsweredOk, AnsweredFailed, AnsweredNodev, Retried, Begun, ResetBegun, IdentAsked, Now, Judged, Recorded, Cleared, Attached, Hot, Action, Autopsied, Ended, Condemned}
use Rattle.port_past.specs.PortState.{is_frozen}
use Rattle.port_past.specs.Line.{is_line_up}
use Rattle.port_rules.specs.Told.{or_nothing, told_if, raised_acts, frozen_acts}
use Rattle.port_facts.specs.Allowed.{Allowed, AreAllowed}

-- an act of which nothing is asked, and that begins no recovery
abbrev pub IsPlain : Act → Type 0
IsPlain (Accepted id) = ⊥
IsPlain (Issued id number tag deadline fis) = ⊥
IsPlain (Done number status error lba count) = ⊥
IsPlain (AnsweredOk id number status error lba count stamps) = ⊥
IsPlain (AnsweredFailed id number kinds status error lba count) = ⊥
IsPlain (AnsweredNodev id number) = ⊥
IsPlain (Retried id number raised) = ⊥
IsPlain (Judged number kinds) = ⊥
IsPlain (Recorded place io dubious kinds ncq_off speed_down pio keep action) = ⊥
IsPlain (Cleared place) = ⊥
IsPlain (Attached place) = ⊥
IsPlain (Hot place generation) = ⊥
IsPlain (Action place kinds chosen) = ⊥
IsPlain Autopsied = ⊥
IsPlain Ended = ⊥
IsPlain (Condemned number kinds) = ⊥
IsPlain Begun = ⊥
IsPlain (ResetBegun place attempt deadline) = ⊥
IsPlain (IdentAsked place attempt deadline) = ⊥
IsPlain (Now time) = ⊥
IsPlain _ = Unit {0}

abbrev pub ArePlain : List Act → Type 0
ArePlain [] = Unit {0}
ArePlain (act ∷ rest) = IsPlain act × ArePlain rest

plain_act : (head : PortHead) (past : List Event) (act : Act) → IsPlain act → Allowed head (Told act) past
plain_act head past (Accepted id) plain = absurd plain
plain_act head past (Issued id number tag deadline fis) plain = absurd plain
plain_act head past (Done number status error lba count) plain = absurd plain
plain_act head past (AnsweredOk id number status error lba count stamps) plain = absurd plain
plain_act head past (AnsweredFailed id number kinds status error lba count) plain = absurd plain
plain_act head past (AnsweredNodev id number) plain = absurd plain
plain_act head past (Retried id number raised) plain = absurd plain
plain_act head past (Judged number kinds) plain = absurd plain
plain_act head past (Recorded place io dubious kinds ncq_off speed_down pio keep action) plain = absurd plain
plain_act head past (Cleared place) plain = absurd plain
plain_act head past (Attached place) plain = absurd plain
plain_act head past (Hot place generation) plain = absurd plain
plain_act head past (Action place kinds chosen) plain = absurd plain
plain_act head past Autopsied plain = absurd plain
plain_act head past Ended plain = absurd plain
plain_act head past (Condemned number kinds) plain = absurd plain
plain_act head past Begun plain = absurd plain
plain_act head past (ResetBegun place attempt deadline) plain = absurd plain
plain_act head past (IdentAsked place attempt deadline) plain = absurd plain
plain_act head past (Now time) plain = absurd plain
plain_act head past act plain = tt

-- they are allowed after any past
pub plain_allowed : (head : PortHead) (past : List Event) (acts : List Act) → ArePlain acts → AreAllowed head past acts
plain_allowed head past [] plain = tt
plain_allowed head past (act ∷ rest) plain = (plain_act head past act plain.0, plain_allowed head (Told act ∷ past) rest plain.1)

pub append_plain : (acts more : List Act) → ArePlain acts → ArePlain more → ArePlain (acts ++ more)
append_plain [] more first later = later
append_plain (act ∷ rest) more first later = (first.0, append_plain rest more first.1 later)

pub told_if_plain : (b : Bool) (act : Act) → IsPlain act → ArePlain (told_if b act)
told_if_plain true act plain = (plain, tt)
told_if_plain false act plain = tt

pub or_nothing_plain : (acts : List Act) → ArePlain acts → ArePlain (or_nothing acts)
or_nothing_plain [] plain = (tt, tt)
or_nothing_plain (act ∷ rest) plain = plain

pub either_plain : (b : Bool) (acts more : List Act) → ArePlain acts → ArePlain more → ArePlain (if b then acts else more)
either_plain true acts more first other = first
either_plain false acts more first other = other

pub raised_plain : (past : List Event) → ArePlain (raised_acts past)
raised_plain past = either_plain (is_line_up past) _ _ tt (tt, tt)

pub frozen_plain : (past : List Event) → ArePlain (frozen_acts past)
frozen_plain past = either_plain (is_frozen past) _ _ tt (tt, tt)

pub map_plain : {A : Type 0} (told : A → Act) → ((x : A) → IsPlain (told x)) → (xs : List A) → ArePlain (map told xs)
map_plain told each [] = tt
map_plain told each (x ∷ xs) = (each x, map_plain told each xs)

pub flat_map_plain : {A : Type 0} (told : A → List Act) → ((x : A) → ArePlain (told x)) → (xs : List A) → ArePlain (flat_map told xs)
flat_map_plain told each [] = tt
flat_map_plain told each (x ∷ xs) = append_plain (told x) (flat_map told xs) (each x) (flat_map_plain told each xs)
