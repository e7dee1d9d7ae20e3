-- The speed of a place: what is done about it, and the limit that a hotplug gives.
use Rattle.std.proofs.Common.{◌≡◌, ◌∙◌, ℕ, ◌+◌, ◌-◌, ◌<◌, ◌≤◌, Bool, true, false, ◌&&◌, nat_lt, if◌then◌else◌, min, refl, ap, arith}
use Rattle.std.proofs.lemmas.Bool.{ltb-false, ltb-true}
use Rattle.eh_reval.specs.Probes.{probe_limit_of, is_recent}
use Rattle.eh_reval.specs.declared.probe_times.ProbeTimes.{ProbeTimes}
use Rattle.ata_base.specs.declared.speed_action.SpeedAction.{SpeedAction}
use Rattle.ata_base.specs.declared.speed_action.SpeedAction.TheVariants.{NoChange, NcqOff, Speed, Mode}
use Rattle.eh_verdict.specs.Action.{speed_action_of}
use Rattle.eh_verdict.specs.declared.error_verdict.Verdict.{Verdict}
use Rattle.link_model.specs.LinkView.{IsGeneration}
use Rattle.port_ledger.specs.Sound.{IsSpeed}

limit_by : (recent : Bool) → IsGeneration (if recent then 1 else 3)
limit_by true = (omega arith, omega arith)
limit_by false = (omega arith, omega arith)

-- a hotplug limits to a generation
pub limit_ranges : (probes : ProbeTimes) (clock : ℕ) → IsGeneration (probe_limit_of probes clock)
limit_ranges probes clock = limit_by (is_recent clock probes.last && is_recent clock probes.before)

speed_by :
    (ncq down above : Bool) (current lowerings : ℕ) (low : Bool) → (above ≡ true → 1 < current) → current ≤ 3
    → IsSpeed
    (if ncq then NcqOff else if down && above then Speed (current - 1) else if down && low then Mode (6 - (lowerings + 1)) else NoChange)
speed_by true down above current lowerings low more most = tt
speed_by false true true current lowerings low more most =
    let one = more refl in
    (omega (arith, one, most), omega (arith, one, most))
speed_by false true false current lowerings true more most = tt
speed_by false true false current lowerings false more most = tt
speed_by false false above current lowerings low more most = tt

-- the speed is lowered to a generation
pub speed_ranges :
    (v : Verdict) (has_queue : Bool) (current lowerings : ℕ) → current ≤ 3
    → IsSpeed (speed_action_of v has_queue current lowerings)
speed_ranges v has_queue current lowerings most =
    speed_by (v.ncq_off && has_queue) v.speed_down (nat_lt 1 current) current lowerings (nat_lt lowerings 2) (ltb-true 1 current) most

not_lower :
    (ncq down above low last : Bool) (slower one other : SpeedAction) → low ≡ false → last ≡ false
    → (if ncq then NcqOff else if down && above then slower else if down && low then one else NoChange)
    ≡ (if ncq then NcqOff else if down && above then slower else if down && last then other else NoChange)
not_lower true down above low last slower one other is_low is_last = refl
not_lower false true true low last slower one other is_low is_last = refl
not_lower false true false low last slower one other is_low is_last = rw (is_low, is_last) refl
not_lower false false above low last slower one other is_low is_last = refl

few_by :
    (v : Verdict) (has_queue : Bool) (current lowerings : ℕ) (low : Bool) → nat_lt lowerings 2 ≡ low
    → speed_action_of v has_queue current (min lowerings 2) ≡ speed_action_of v has_queue current lowerings
few_by v has_queue current lowerings true is =
    let below : lowerings < 2 = ltb-true lowerings 2 is in
    let same : min lowerings 2 ≡ lowerings = omega (arith, below) in
    ap (speed_action_of v has_queue current) same
few_by v has_queue current lowerings false is =
    let above : 2 ≤ lowerings = ltb-false lowerings 2 is in
    let same : min lowerings 2 ≡ 2 = omega (arith, above) in
    ap (speed_action_of v has_queue current) same
    ∙ not_lower (v.ncq_off && has_queue) v.speed_down (nat_lt 1 current) (nat_lt 2 2) (nat_lt lowerings 2)
    (Speed (current - 1)) (Mode (6 - (2 + 1))) (Mode (6 - (lowerings + 1))) refl is

-- more than two lowerings are as two
pub few_lowerings :
    (v : Verdict) (has_queue : Bool) (current lowerings : ℕ)
    → speed_action_of v has_queue current (min lowerings 2) ≡ speed_action_of v has_queue current lowerings
few_lowerings v has_queue current lowerings = few_by v has_queue current lowerings (nat_lt lowerings 2) refl
