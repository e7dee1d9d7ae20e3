-- The forms of steps; a line for each form.
use Rattle.std.proofs.Common.{◌≡◌, ℕ, List, [], ◌∷◌, ◌++◌, refl, sym, ◌∙◌, ap, codes, decimal}
use Rattle.std.specs.Str.{bytes_eq}
use Rattle.ata_base.specs.declared.fault.Fault.TheVariants.{Hang, Icrc, Abort, Df, BadStat, Idnf, LogFail, LogSum, LogNq, LogIdle, IdentFail}
use Rattle.ata_base.specs.declared.fault.SerrorBit.TheVariants.{Data, Persist, Proto, Internal, Phy, Exch}
use Rattle.ata_base.specs.declared.op.Op.TheVariants.{Read, Verify, Flush, Power}
use Rattle.ata_trace.specs.Parts.{first}
use Rattle.ata_trace.specs.Reading.{number_in, serror_in}
use Rattle.ata_trace.specs.Text.{step_words}
use Rattle.ata_trace.specs.Told.{second, third, fourth, fifth, sixth, after_two}
use Rattle.ata_trace.specs.Words.{op_words, serror_word, fault_words}
use Rattle.ata_trace.specs.declared.step.Step.TheVariants.{Irq, Drop, Expire, Recover}
use Rattle.ata_script.specs.Fields.{Field, among, nearest, spell}
use Rattle.ata_script.specs.Forms.{read_names, flush_names, fault_names, serr_names, submit_form, read_form, read_fields, write_form, write_fields, flush_form, flush_fields, kick_form, work_form, irq_form, drop_form, stray_form, tick_form, expire_form, recover_form, plug_form, unplug_form, inject_form, media_form, media_fields, fault_form, fault_fields, serr_form, serr_fields, step_form, step_forms}
use Rattle.ata_script.specs.Taking.{step_form_of, step_form_for, other_form_for, inject_form_for, submit_form_for, step_for, other_step, inject_step, submit_step, read_step, write_step, flush_step, kick_step, work_step, stray_step, tick_step, plug_step, unplug_step, media_step, fault_step, serr_step, op_of_name, flush_op, fault_of_name, sector_in, count_in}
use Rattle.ata_script.proofs.Forms.{EachIs, IsAmong, small_is, one_is, of_each, pick, either}

-- a step's form that fits is the one by its names
pub step_each : (words : List (List ℕ)) → EachIs step_forms words (step_form (step_form_of (after_two words)))
unfolding step_form_for other_form_for
step_each words =
    let by : List ℕ → List ℕ → List ℕ → List Field = λ name third fourth. step_form (step_form_for name third fourth) in
    let name = third words in
    let fault = fifth words in
    let op = sixth words in
    let named = λ (small : List ℕ) (is : name ≡ small). ap (λ n. by n fault op) (sym is) in
    let submit = λ (form : List Field) (is : name ≡ codes "submit") (same : form ≡ submit_form_for op). ap step_form same ∙ named (codes "submit") is in
    let inject = λ (form : List Field) (is : name ≡ codes "inject") (same : form ≡ inject_form_for fault). ap step_form same ∙ named (codes "inject") is in (
      λ f. submit read_form (small_is (step_form read_form) words 2 (codes "submit") f refl)
          (of_each read_names (λ w. read_form ≡ submit_form_for w) op (refl, (refl, tt)) (one_is (step_form read_form) words 5 read_names f refl)),
      (
        λ f. submit write_form (small_is (step_form write_form) words 2 (codes "submit") f refl)
            (ap submit_form_for (sym (small_is (step_form write_form) words 5 (codes "write") f refl))),
        (
          λ f. submit flush_form (small_is (step_form flush_form) words 2 (codes "submit") f refl)
              (of_each flush_names (λ w. flush_form ≡ submit_form_for w) op (refl, (refl, tt)) (one_is (step_form flush_form) words 5 flush_names f refl)),
          (
            λ f. named (codes "kick") (small_is (step_form kick_form) words 2 (codes "kick") f refl),
            (
              λ f. named (codes "work") (small_is (step_form work_form) words 2 (codes "work") f refl),
              (
                λ f. named (codes "irq") (small_is (step_form irq_form) words 2 (codes "irq") f refl),
                (
                  λ f. named (codes "tick") (small_is (step_form tick_form) words 2 (codes "tick") f refl),
                  (
                    λ f. named (codes "expire") (small_is (step_form expire_form) words 2 (codes "expire") f refl),
                    (
                      λ f. named (codes "recover") (small_is (step_form recover_form) words 2 (codes "recover") f refl),
                      (
                        λ f. named (codes "drop") (small_is (step_form drop_form) words 2 (codes "drop") f refl),
                        (
                          λ f. named (codes "stray") (small_is (step_form stray_form) words 2 (codes "stray") f refl),
                          (
                            λ f. named (codes "plug") (small_is (step_form plug_form) words 2 (codes "plug") f refl),
                            (
                              λ f. named (codes "unplug") (small_is (step_form unplug_form) words 2 (codes "unplug") f refl),
                              (
                                λ f. inject media_form (small_is (step_form media_form) words 2 (codes "inject") f refl)
                                    (ap inject_form_for (sym (small_is (step_form media_form) words 4 (codes "media") f refl))),
                                (
                                  λ f. inject fault_form (small_is (step_form fault_form) words 2 (codes "inject") f refl)
                                      (of_each fault_names (λ w. fault_form ≡ inject_form_for w) fault (refl, (refl, (refl, (refl, (refl, (refl, (refl, (refl, (refl, (refl, (refl, tt)))))))))))
                                      (one_is (step_form fault_form) words 4 fault_names f refl)),
                                  (
                                    λ f. inject serr_form (small_is (step_form serr_form) words 2 (codes "inject") f refl)
                                        (ap inject_form_for (sym (small_is (step_form serr_form) words 4 (codes "serr") f refl))),
                                    tt,
                                  ),
                                ),
                              ),
                            ),
                          ),
                        ),
                      ),
                    ),
                  ),
                ),
              ),
            ),
          ),
        ),
      ),
    )

pub step_among : (name third fourth : List ℕ) → IsAmong step_forms (step_form (step_form_for name third fourth))
unfolding step_form_for other_form_for
step_among name third fourth =
    let of = either (λ form. IsAmong step_forms (step_form form)) in
    let submit = either (λ fields. IsAmong step_forms (step_form (submit_form fields))) in
    let inject = either (λ fields. IsAmong step_forms (step_form (inject_form fields))) in
    of (bytes_eq name (codes "submit")) _ _
    (submit (bytes_eq fourth (codes "write")) _ _ (1, refl) (submit (among flush_names fourth) _ _ (2, refl) (0, refl)))
    (of (bytes_eq name (codes "kick")) _ _ (3, refl)
    (of (bytes_eq name (codes "work")) _ _ (4, refl)
    (of (bytes_eq name (codes "irq")) _ _ (5, refl)
    (of (bytes_eq name (codes "tick")) _ _ (6, refl)
    (of (bytes_eq name (codes "expire")) _ _ (7, refl)
    (of (bytes_eq name (codes "recover")) _ _ (8, refl)
    (of (bytes_eq name (codes "drop")) _ _ (9, refl)
    (of (bytes_eq name (codes "stray")) _ _ (10, refl)
    (of (bytes_eq name (codes "plug")) _ _ (11, refl)
    (of (bytes_eq name (codes "unplug")) _ _ (12, refl)
    (inject (bytes_eq third (codes "media")) _ _ (13, refl)
    (inject (bytes_eq third (codes "serr")) _ _ (15, refl) (14, refl)))))))))))))

-- the names of operations and faults

read_spelt : (name : List ℕ) (lba count : ℕ) (rest : List (List ℕ)) → op_words (op_of_name name lba count) ++ rest ≡ nearest read_names name ∷ decimal lba ∷ decimal count ∷ rest
read_spelt name lba count rest =
    pick (λ op word. op_words op ++ rest ≡ word ∷ decimal lba ∷ decimal count ∷ rest) (bytes_eq name (codes "read")) (Read lba count) (Verify lba count) (codes "read") (codes "verify") refl refl

flush_spelt : (name : List ℕ) (rest : List (List ℕ)) → op_words (flush_op name) ++ rest ≡ nearest flush_names name ∷ rest
flush_spelt name rest = pick (λ op word. op_words op ++ rest ≡ word ∷ rest) (bytes_eq name (codes "flush")) Flush Power (codes "flush") (codes "power") refl refl

fault_spelt : (name : List ℕ) (k : ℕ) → fault_words (fault_of_name name k) ≡ nearest fault_names name ∷ decimal k ∷ []
fault_spelt name k =
    let of = pick (λ fault word. fault_words fault ≡ word ∷ decimal k ∷ []) in
    of (bytes_eq name (codes "hang")) (Hang k) _ (codes "hang") _ refl
    (of (bytes_eq name (codes "icrc")) (Icrc k) _ (codes "icrc") _ refl
    (of (bytes_eq name (codes "abort")) (Abort k) _ (codes "abort") _ refl
    (of (bytes_eq name (codes "df")) (Df k) _ (codes "df") _ refl
    (of (bytes_eq name (codes "badstat")) (BadStat k) _ (codes "badstat") _ refl
    (of (bytes_eq name (codes "idnf")) (Idnf k) _ (codes "idnf") _ refl
    (of (bytes_eq name (codes "logfail")) (LogFail k) _ (codes "logfail") _ refl
    (of (bytes_eq name (codes "logsum")) (LogSum k) _ (codes "logsum") _ refl
    (of (bytes_eq name (codes "lognq")) (LogNq k) _ (codes "lognq") _ refl
    (of (bytes_eq name (codes "logidle")) (LogIdle k) (IdentFail k) (codes "logidle") (codes "identfail") refl refl)))))))))

serr_spelt : (name : List ℕ) → serror_word (serror_in name) ≡ nearest serr_names name
serr_spelt name =
    let of = pick (λ bit word. serror_word bit ≡ word) in
    of (bytes_eq name (codes "data")) Data _ (codes "data") _ refl
    (of (bytes_eq name (codes "persist")) Persist _ (codes "persist") _ refl
    (of (bytes_eq name (codes "proto")) Proto _ (codes "proto") _ refl
    (of (bytes_eq name (codes "internal")) Internal _ (codes "internal") _ refl
    (of (bytes_eq name (codes "phy")) Phy Exch (codes "phy") (codes "exch") refl refl))))

-- what is read of a step is spelled as its form is

submit_spelt : (ws : List (List ℕ)) → step_words (submit_step ws) ≡ spell (submit_form_for (fourth ws)) ws
submit_spelt ws =
    let of = pick (λ step fields. step_words step ≡ spell (submit_form fields) ws) in
    let front = λ (rest : List (List ℕ)). codes "submit" ∷ decimal (number_in 1 65535 (second ws)) ∷ decimal (number_in 0 14 (third ws)) ∷ rest in
    of (bytes_eq (fourth ws) (codes "write")) (write_step ws) _ write_fields _ refl
    (of (among flush_names (fourth ws)) (flush_step ws) (read_step ws) flush_fields read_fields
    (ap front (flush_spelt (fourth ws) _)) (ap front (read_spelt (fourth ws) (sector_in (fifth ws)) (count_in (sixth ws)) _)))

inject_spelt : (ws : List (List ℕ)) → step_words (inject_step ws) ≡ spell (inject_form_for (third ws)) ws
inject_spelt ws =
    let of = pick (λ step fields. step_words step ≡ spell (inject_form fields) ws) in
    let front = λ (rest : List (List ℕ)). codes "inject" ∷ decimal (number_in 0 14 (second ws)) ∷ rest in
    of (bytes_eq (third ws) (codes "media")) (media_step ws) _ media_fields _ refl
    (of (bytes_eq (third ws) (codes "serr")) (serr_step ws) (fault_step ws) serr_fields fault_fields
    (ap (λ word. front (codes "serr" ∷ word ∷ [])) (serr_spelt (fourth ws))) (ap front (fault_spelt (third ws) (number_in 1 100 (fourth ws)))))

other_spelt : (ws : List (List ℕ)) → step_words (other_step ws) ≡ spell (other_form_for (first ws) (third ws)) ws
unfolding other_step other_form_for
other_spelt ws =
    let of = pick (λ step form. step_words step ≡ spell form ws) in
    of (bytes_eq (first ws) (codes "drop")) Drop _ drop_form _ refl
    (of (bytes_eq (first ws) (codes "stray")) (stray_step ws) _ stray_form _ refl
    (of (bytes_eq (first ws) (codes "plug")) (plug_step ws) _ plug_form _ refl
    (of (bytes_eq (first ws) (codes "unplug")) (unplug_step ws) _ unplug_form _ refl (inject_spelt ws))))

pub step_spelt : (ws : List (List ℕ)) → step_words (step_for ws) ≡ spell (step_form_of ws) ws
unfolding step_for step_form_for
step_spelt ws =
    let of = pick (λ step form. step_words step ≡ spell form ws) in
    of (bytes_eq (first ws) (codes "submit")) (submit_step ws) _ (submit_form_for (fourth ws)) _ (submit_spelt ws)
    (of (bytes_eq (first ws) (codes "kick")) (kick_step ws) _ kick_form _ refl
    (of (bytes_eq (first ws) (codes "work")) (work_step ws) _ work_form _ refl
    (of (bytes_eq (first ws) (codes "irq")) Irq _ irq_form _ refl
    (of (bytes_eq (first ws) (codes "tick")) (tick_step ws) _ tick_form _ refl
    (of (bytes_eq (first ws) (codes "expire")) Expire _ expire_form _ refl
    (of (bytes_eq (first ws) (codes "recover")) Recover _ recover_form _ refl (other_spelt ws)))))))
