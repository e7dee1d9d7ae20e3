use Rattle.std.proofs.Common.{◌∙◌, refl, rules, arith, sym, Some}
use Rattle.std.proofs.lemmas.Slice.Eq.{text_from_reads}
use Rattle.ata_tf.proofs.ByteLemmas.{four_bytes}
use Rattle.ata_tf.proofs.FrameLemmas.{sdb_frame-injective}
use Rattle.ata_tf.proofs.set_device_bits.from_sdb.Goals as goal

-- each byte is that of the frame
pub returns-clause-value : goal.returns-clause-value
returns-clause-value c =
    let h = c.fits-b in
    let s = four_bytes _ _ _ _ _ (h 4) (h 5) (h 6) (h 7) c.from_le_bytes.ensures in
    sym (text_from_reads c.args.b.now _ c.told-b
    (search rules, (omega arith, (refl, (refl, (s.0, (s.1, (s.2, (s.3, tt))))))))
    )

pub returns-clause-back : goal.returns-clause-back
returns-clause-back c = λ status error port sactive fits same.
    let e = sdb_frame-injective _ status _ error _ port _ sactive (search rules) fits (returns-clause-value c ∙ sym same) in
    λ i. Some (e.0 i, e.1 i, e.2 i, e.3 i)
