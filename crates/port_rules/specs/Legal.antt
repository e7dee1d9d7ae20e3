use Rattle.std.specs.Prelude.{◌≡◌, ℕ, List, [], ◌∷◌, All}
use Rattle.ata_script.specs.declared.port_head.PortHead.{PortHead}
use Rattle.ata_trace.specs.Entries.{EntryView, grown}
use Rattle.ata_trace.specs.Event.{Event}
use Rattle.ata_trace.specs.declared.act.Act.{Act}
use Rattle.ata_trace.specs.declared.act.Act.TheVariants.{Nothing}
use Rattle.ata_trace.specs.declared.step.Step.{Step}
use Rattle.ata_trace.specs.declared.step.Step.TheVariants.{Submit, Kick, Work, Irq, Drop, Stray, Tick, Expire, Recover, Plug, Unplug, Inject, Boot}
use Rattle.ata_trace.specs.declared.who.Who.{Who}
use Rattle.port_past.specs.Clock.{clock}
use Rattle.port_rules.specs.Boot.{boot_entry}
use Rattle.port_rules.specs.Interrupt.{irq_acts}
use Rattle.port_rules.specs.Kick.{kick_acts}
use Rattle.port_rules.specs.Line.{drop_acts, stray_acts}
use Rattle.port_rules.specs.Plug.{plug_acts, unplug_acts, inject_acts}
use Rattle.port_rules.specs.Ranges.{IsScriptStep}
use Rattle.port_rules.specs.Recover.{recover_acts}
use Rattle.port_rules.specs.Submit.{submit_acts}
use Rattle.port_rules.specs.Time.{tick_acts, expire_acts}
use Rattle.port_rules.specs.Work.{work_acts}

-- the legal acts of a step at a port with this head, after this past
abbrev pub legal_acts : PortHead → List Event → Step → List Act
legal_acts head past (Submit id place op allow wait) = submit_acts past id place op
legal_acts head past (Kick place) = kick_acts head past place
legal_acts head past (Work place pick) = work_acts head past place pick
legal_acts head past Irq = irq_acts head past
legal_acts head past Drop = drop_acts past
legal_acts head past (Stray tag) = stray_acts past
legal_acts head past (Tick ms) = tick_acts past ms
legal_acts head past Expire = expire_acts head past
legal_acts head past Recover = recover_acts head past
legal_acts head past (Plug place drive) = plug_acts head past place drive
legal_acts head past (Unplug place) = unplug_acts head past place
legal_acts head past (Inject place fault) = inject_acts head past place fault
legal_acts head past Boot = Nothing ∷ []

-- the entry that a step makes: it begins at the time by the clock, and has exactly the legal acts
abbrev pub entry_after : PortHead → List Event → Who → ℕ → Step → EntryView
entry_after head past who seq step =
    record { at = clock past; who = who; seq = seq; step = step; acts = legal_acts head past step }

-- each of these entries is the one that its account, number and step make after the past
abbrev pub AreLegal : PortHead → List Event → List EntryView → Type 0
AreLegal head past [] = Unit {0}
AreLegal head past (entry ∷ rest) =
    (entry ≡ entry_after head past entry.who entry.seq entry.step) × AreLegal head (grown past entry) rest

-- a journal's first entry is the boot entry of a head, and each later one is the one that its account, number and step
-- make after the entries before it
abbrev pub HasLegalActs : PortHead → List EntryView → Type 0
HasLegalActs head [] = ⊥
HasLegalActs head (first ∷ rest) = (first ≡ boot_entry head) × AreLegal head (grown [] first) rest

-- a journal is legal for a head where its entries have exactly the legal acts, and each step is one that a script can
-- have
pub record IsLegal (head : PortHead) (entries : List EntryView) : Type 0 where
  pub acts : HasLegalActs head entries
  pub ranges : All (λ (entry : EntryView). IsScriptStep entry.step) entries
