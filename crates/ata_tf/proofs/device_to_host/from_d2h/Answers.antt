use Rattle.std.proofs.Common.{◌∙◌, refl, rules, arith, sym, Some}
use Rattle.std.proofs.lemmas.Slice.Eq.{text_from_reads}
use Rattle.ata_tf.proofs.ByteLemmas.{two_bytes, six_bytes}
use Rattle.ata_tf.proofs.FrameLemmas.{d2h_frame-injective}
use Rattle.ata_tf.proofs.device_to_host.from_d2h.Goals as goal

-- each byte is that of the frame
pub returns-clause-value : goal.returns-clause-value
returns-clause-value c =
    let h = c.fits-b in
    let l = six_bytes _ _ _ _ _ _ _ (h 4) (h 5) (h 6) (h 8) (h 9) (h 10) c.from_le_bytes.ensures in
    let n = two_bytes _ _ _ (h 12) (h 13) c.from_le_bytes-2.ensures in
    sym (text_from_reads c.args.b.now _ c.told-b (
      search rules,
      (
        omega arith,
        (
          refl,
          (
            refl,
            (
              l.0,
              (
                l.1,
                (
                  l.2,
                  (
                    refl,
                    (
                      l.3,
                      (
                        l.4,
                        (
                          l.5,
                          (
                            search rules,
                            (
                              n.0,
                              (
                                n.1,
                                (search rules, (search rules, (search rules, (search rules, (search rules, (search rules, tt)))))),
                              ),
                            ),
                          ),
                        ),
                      ),
                    ),
                  ),
                ),
              ),
            ),
          ),
        ),
      ),
    )
    )

pub returns-clause-back : goal.returns-clause-back
returns-clause-back c = λ r port fits same.
    let e = d2h_frame-injective _ r _ port (search rules) fits (returns-clause-value c ∙ sym same) in
    λ i. Some (e.0 i, e.1 i)
