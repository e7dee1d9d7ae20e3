-- The twelve lines of a summary, appended one after the other.
use Rattle.std.proofs.Common.{◌≡◌, ℕ, List, [], ◌++◌, refl, append_assoc, append-nil, codes}
use Rattle.host_summary.specs.Summary.{count_line, summary_text}
use Rattle.host_summary.specs.declared.summary.Summary.{Summary}

-- twelve texts, each one behind what stands already, are all of them in order
in_order :
    (a b c d e f g h i j k l : List ℕ)
    → a ++ b ++ c ++ d ++ e ++ f ++ g ++ h ++ i ++ j ++ k ++ l ≡ a ++ (b ++ (c ++ (d ++ (e ++ (f ++ (g ++ (h ++ (i ++ (j ++ (k ++ (l ++ [])))))))))))
in_order a b c d e f g h i j k l = simp append_assoc (simp append-nil refl)

pub twelve_lines :
    (s : Summary)
    → ((((((((((([] ++ count_line (codes "commands", s.commands)) ++ count_line (codes "accepted", s.accepted)) ++ count_line (codes "refused", s.refused)) ++ count_line (codes "issued", s.issued)) ++ count_line (codes "ok", s.ok)) ++ count_line (codes "failed", s.failed)) ++ count_line (codes "nodev", s.nodev)) ++ count_line (codes "retried", s.retried)) ++ count_line (codes "runs", s.runs)) ++ count_line (codes "recorded", s.recorded)) ++ count_line (codes "entries", s.entries)) ++ count_line (codes "live", s.live) ≡ summary_text s
twelve_lines s =
    in_order (count_line (codes "commands", s.commands)) (count_line (codes "accepted", s.accepted)) (count_line (codes "refused", s.refused)) (count_line (codes "issued", s.issued)) (count_line (codes "ok", s.ok)) (count_line (codes "failed", s.failed)) (count_line (codes "nodev", s.nodev)) (count_line (codes "retried", s.retried)) (count_line (codes "runs", s.runs)) (count_line (codes "recorded", s.recorded)) (count_line (codes "entries", s.entries)) (count_line (codes "live", s.live))
