-- Each act: its words, read, tell it, and no space is in them.
use Rattle.std.proofs.Common.{◌≡◌, true, refl, codes}
use Rattle.ata_trace.specs.Parts.{first, later}
use Rattle.ata_trace.specs.Ranges.{IsAct}
use Rattle.ata_trace.specs.Text.{act_words}
use Rattle.ata_trace.specs.Told.{command_told, answer_told, answered_told, recovery_told, ring_told, log_told, recorded_told, reset_told, device_told, reset_ended_told, other_told, waiting_told}
use Rattle.ata_trace.specs.declared.act.Act.{Act}
use Rattle.ata_trace.specs.declared.act.Act.TheVariants.{Accepted, Refused, Issued, Deferred, Exclusive, Done, Aborted, AnsweredOk, AnsweredFailed, AnsweredNodev, Expired, Condemned, Log, LogFailed, LogBadSum, LogNotQueued, Judged, Recorded, Cleared, Hot, Action, ResetBegun, ResetLate, ResetFailed, ResetEndedGen, ResetEndedNone, IdentAsked, IdentLate, Identified, Same, Attached, Detached, Disabled, Mode, Retried, WaitingTag, WaitingReset, WaitingIdent, Now, Plugged, Unplugged, Injected}
use Rattle.ata_trace.proofs.Digits.{n_in, n_plain}
use Rattle.ata_trace.proofs.WordsBack.{all_plain, b_in, b_plain, f_in, f_plain, d_in, d_plain, k_in, k_plain, s_in, s_plain, w_in, w_plain, refusal_back, deferral_back, action_back, speed_back, not_host, e_in, e_plain, verdict_back}

-- the act that the words of an act tell
abbrev pub told_again : Act → Act
told_again act = command_told (first (act_words act)) (later (act_words act))

pub act_back : (act : Act) → IsAct act → told_again act ≡ act
unfolding command_told answer_told answered_told recovery_told ring_told reset_told log_told recorded_told device_told reset_ended_told other_told waiting_told
act_back (Accepted id) f = rw (n_in f) refl
act_back (Refused id why) f = rw (n_in f, (refusal_back why).0) refl
act_back (Issued id number tag deadline fis) f = rw (n_in f.0, n_in f.1, n_in f.2, n_in f.3, f_in f.4) refl
act_back (Deferred id why) f = rw (n_in f, (deferral_back why).0) refl
act_back (Exclusive place) f = rw (n_in f) refl
act_back (Done number status error lba count) f = rw (n_in f.0, b_in f.1, b_in f.2, n_in f.3, n_in f.4) refl
act_back (Aborted number) f = rw (n_in f) refl
act_back (AnsweredOk id number status error lba count stamps) f = rw (n_in f.0, n_in f.1, b_in f.2, b_in f.3, n_in f.4, n_in f.5, s_in f.6) refl
act_back (AnsweredFailed id number kinds status error lba count) f = rw (n_in f.0, n_in f.1, k_in f.2, b_in f.3, b_in f.4, n_in f.5, n_in f.6) refl
act_back (AnsweredNodev id number) f = rw (n_in f.0, n_in f.1) refl
act_back (Expired id number) f = rw (n_in f.0, n_in f.1) refl
act_back (Condemned number kinds) f = rw (n_in f.0, k_in f.1) refl
act_back (Log place tag status error lba count) f = rw (n_in f.0, n_in f.1, b_in f.2, b_in f.3, n_in f.4, n_in f.5) refl
act_back (LogFailed place) f = rw (n_in f) refl
act_back (LogBadSum place) f = rw (n_in f) refl
act_back (LogNotQueued place) f = rw (n_in f) refl
act_back (Judged number kinds) f = rw (n_in f.0, k_in f.1) refl
act_back (Recorded place io dubious kinds ncq_off speed_down pio keep action) f = rw (n_in f.0, e_in (codes "io") (codes "other") io refl refl, e_in (codes "dubious") (codes "clean") dubious refl refl, k_in f.1, (verdict_back ncq_off speed_down pio keep).keep, (verdict_back ncq_off speed_down pio keep).pio, (verdict_back ncq_off speed_down pio keep).speed_down, (verdict_back ncq_off speed_down pio keep).ncq_off, (speed_back action f.2).0) refl
act_back (Cleared place) f = rw (n_in f) refl
act_back (Hot place generation) f = rw (n_in f.0, n_in f.1) refl
act_back (Action place kinds remedy) f = rw (n_in f.0, k_in f.1, (action_back remedy).0) refl
act_back (ResetBegun place attempt deadline) f = rw (w_in place f.0, n_in f.1, n_in f.2) refl
act_back (ResetLate place) f = rw (w_in place f) refl
act_back (ResetFailed place) f = rw (w_in place f) refl
act_back (ResetEndedGen place generation) f = rw (not_host f.0, n_in f.0, n_in f.1) refl
act_back (ResetEndedNone place) f = rw (not_host f, n_in f) refl
act_back (IdentAsked place attempt deadline) f = rw (n_in f.0, n_in f.1, n_in f.2) refl
act_back (IdentLate place) f = rw (n_in f) refl
act_back (Identified place model serial sectors depth) f = rw (n_in f.0, d_in f.1, d_in f.2, n_in f.3, n_in f.4) refl
act_back (Same place) f = rw (n_in f) refl
act_back (Attached place) f = rw (n_in f) refl
act_back (Detached place) f = rw (n_in f) refl
act_back (Disabled place) f = rw (n_in f) refl
act_back (Mode place udma ncq dubious) f = rw (n_in f.0, n_in f.1, e_in (codes "on") (codes "off") ncq refl refl, e_in (codes "dubious") (codes "clean") dubious refl refl) refl
act_back (Retried id number allowance_raised) f = rw (n_in f.0, n_in f.1, e_in (codes "yes") (codes "no") allowance_raised refl refl) refl
act_back (WaitingTag tag) f = rw (n_in f) refl
act_back (WaitingReset place) f = rw (n_in f) refl
act_back (WaitingIdent place) f = rw (n_in f) refl
act_back (Now at) f = rw (n_in f) refl
act_back (Plugged place drive) f = rw (n_in f.0, n_in f.1) refl
act_back (Unplugged place) f = rw (n_in f) refl
act_back (Injected place) f = rw (n_in f) refl
act_back act f = refl

pub act_plain : (act : Act) → IsAct act → all_plain (act_words act) ≡ true
act_plain (Accepted id) f = rw (n_plain f) refl
act_plain (Refused id why) f = rw (n_plain f, (refusal_back why).1) refl
act_plain (Issued id number tag deadline fis) f = rw (n_plain f.0, n_plain f.1, n_plain f.2, n_plain f.3, f_plain f.4) refl
act_plain (Deferred id why) f = rw (n_plain f, (deferral_back why).1) refl
act_plain (Exclusive place) f = rw (n_plain f) refl
act_plain (Done number status error lba count) f = rw (n_plain f.0, b_plain f.1, b_plain f.2, n_plain f.3, n_plain f.4) refl
act_plain (Aborted number) f = rw (n_plain f) refl
act_plain (AnsweredOk id number status error lba count stamps) f = rw (n_plain f.0, n_plain f.1, b_plain f.2, b_plain f.3, n_plain f.4, n_plain f.5, s_plain f.6) refl
act_plain (AnsweredFailed id number kinds status error lba count) f = rw (n_plain f.0, n_plain f.1, k_plain f.2, b_plain f.3, b_plain f.4, n_plain f.5, n_plain f.6) refl
act_plain (AnsweredNodev id number) f = rw (n_plain f.0, n_plain f.1) refl
act_plain (Expired id number) f = rw (n_plain f.0, n_plain f.1) refl
act_plain (Condemned number kinds) f = rw (n_plain f.0, k_plain f.1) refl
act_plain (Log place tag status error lba count) f = rw (n_plain f.0, n_plain f.1, b_plain f.2, b_plain f.3, n_plain f.4, n_plain f.5) refl
act_plain (LogFailed place) f = rw (n_plain f) refl
act_plain (LogBadSum place) f = rw (n_plain f) refl
act_plain (LogNotQueued place) f = rw (n_plain f) refl
act_plain (Judged number kinds) f = rw (n_plain f.0, k_plain f.1) refl
act_plain (Recorded place io dubious kinds ncq_off speed_down pio keep action) f = rw (n_plain f.0, e_plain (codes "io") (codes "other") io refl refl, e_plain (codes "dubious") (codes "clean") dubious refl refl, k_plain f.1, (verdict_back ncq_off speed_down pio keep).one_word, (speed_back action f.2).1) refl
act_plain (Cleared place) f = rw (n_plain f) refl
act_plain (Hot place generation) f = rw (n_plain f.0, n_plain f.1) refl
act_plain (Action place kinds remedy) f = rw (n_plain f.0, k_plain f.1, (action_back remedy).1) refl
act_plain (ResetBegun place attempt deadline) f = rw (w_plain place f.0, n_plain f.1, n_plain f.2) refl
act_plain (ResetLate place) f = rw (w_plain place f) refl
act_plain (ResetFailed place) f = rw (w_plain place f) refl
act_plain (ResetEndedGen place generation) f = rw (n_plain f.0, n_plain f.1) refl
act_plain (ResetEndedNone place) f = rw (n_plain f) refl
act_plain (IdentAsked place attempt deadline) f = rw (n_plain f.0, n_plain f.1, n_plain f.2) refl
act_plain (IdentLate place) f = rw (n_plain f) refl
act_plain (Identified place model serial sectors depth) f = rw (n_plain f.0, d_plain f.1, d_plain f.2, n_plain f.3, n_plain f.4) refl
act_plain (Same place) f = rw (n_plain f) refl
act_plain (Attached place) f = rw (n_plain f) refl
act_plain (Detached place) f = rw (n_plain f) refl
act_plain (Disabled place) f = rw (n_plain f) refl
act_plain (Mode place udma ncq dubious) f = rw (n_plain f.0, n_plain f.1, e_plain (codes "on") (codes "off") ncq refl refl, e_plain (codes "dubious") (codes "clean") dubious refl refl) refl
act_plain (Retried id number allowance_raised) f = rw (n_plain f.0, n_plain f.1, e_plain (codes "yes") (codes "no") allowance_raised refl refl) refl
act_plain (WaitingTag tag) f = rw (n_plain f) refl
act_plain (WaitingReset place) f = rw (n_plain f) refl
act_plain (WaitingIdent place) f = rw (n_plain f) refl
act_plain (Now at) f = rw (n_plain f) refl
act_plain (Plugged place drive) f = rw (n_plain f.0, n_plain f.1) refl
act_plain (Unplugged place) f = rw (n_plain f) refl
act_plain (Injected place) f = rw (n_plain f) refl
act_plain act f = refl
