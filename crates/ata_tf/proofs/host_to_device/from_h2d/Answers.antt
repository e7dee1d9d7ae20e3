use Rattle.std.proofs.Common.{◌∙◌, refl, rules, arith, sym, Some}
use Rattle.std.proofs.lemmas.Slice.Eq.{text_from_reads}
use Rattle.ata_tf.proofs.ByteLemmas.{two_bytes, six_bytes}
use Rattle.ata_tf.proofs.FrameLemmas.{h2d_frame-injective}
use Rattle.ata_tf.proofs.host_to_device.from_h2d.Goals as goal

-- each byte is that of the frame
pub returns-clause-value : goal.returns-clause-value
returns-clause-value c =
    let h = c.fits-b in
    let f = two_bytes _ _ _ (h 3) (h 11) c.from_le_bytes.ensures in
    let l = six_bytes _ _ _ _ _ _ _ (h 4) (h 5) (h 6) (h 8) (h 9) (h 10) c.from_le_bytes-2.ensures in
    let n = two_bytes _ _ _ (h 12) (h 13) c.from_le_bytes-3.ensures in
    sym (text_from_reads c.args.b.now _ c.told-b (
      search rules,
      (
        omega arith,
        (
          refl,
          (
            f.0,
            (
              l.0,
              (
                l.1,
                (
                  l.2,
                  (
                    refl,
                    (
                      l.3,
                      (
                        l.4,
                        (
                          l.5,
                          (
                            f.1,
                            (
                              n.0,
                              (
                                n.1,
                                (search rules, (search rules, (search rules, (search rules, (search rules, (search rules, tt)))))),
                              ),
                            ),
                          ),
                        ),
                      ),
                    ),
                  ),
                ),
              ),
            ),
          ),
        ),
      ),
    )
    )

pub returns-clause-back : goal.returns-clause-back
returns-clause-back c = λ t port fits same.
    let e = h2d_frame-injective _ t _ port (search rules) fits (returns-clause-value c ∙ sym same) in
    λ i. Some (e.0 i, e.1 i)
