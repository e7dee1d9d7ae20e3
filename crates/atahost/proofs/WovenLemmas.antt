-- The ports of a run, settled.
use Rattle.std.proofs.Common.{◌≡◌, ℕ, ◌+◌, List, [], ◌∷◌, sym, subst}
use Rattle.ata_script.specs.declared.port_head.PortHead.{PortHead}
use Rattle.ata_trace.specs.declared.step.Step.{Step}
use Rattle.atahost.specs.Woven.{IsSettledRun}
use Rattle.host_core.specs.Calm.{AreCalmPorts, AreWellEnded, HaveAtMost}
use Rattle.port_core.specs.Hosts.{heads_in, journals_in, settled_in}
use Rattle.port_core.specs.PortView.{PortView}
use Rattle.port_core.specs.Weave.{AreLegalFor}
use Rattle.port_rules.specs.Legal.{IsLegal}
use Rattle.port_stands.proofs.Settled.{settling_is_legal}
use Rattle.port_threads.proofs.CalmRuns.{run_calm}
use Rattle.port_threads.specs.Weave.{AreWeaves, IsRunOf}

-- the journals of settled ports are legal for the heads of these ports
own_legal :
    (rounds number : ℕ) (heads : List PortHead) (lines : List (ℕ × ℕ × Step)) (ports : List PortView) → heads_in ports ≡ heads
    → AreWeaves number heads lines (journals_in ports) → AreLegalFor (heads_in ports) (settled_in rounds ports)
own_legal rounds number heads lines [] same woven = tt
own_legal rounds number [] lines (port ∷ ports) same woven = absurd woven
own_legal rounds number (head ∷ heads) lines (port ∷ ports) same woven =
    let mine : port.head ≡ head = cc same in
    let legal : IsLegal port.head port.entries = subst (λ h. IsLegal h port.entries) (sym mine) woven.0.legal in
    let others : heads_in ports ≡ heads = cc same in
    (settling_is_legal port.head port.entries legal rounds, own_legal rounds (number + 1) heads lines ports others woven.1)

pub run_settled :
    (rounds : ℕ) (heads : List PortHead) (lines : List (ℕ × ℕ × Step)) (ports after : List PortView) → IsRunOf heads lines ports
    → journals_in after ≡ settled_in rounds ports
    → (AreCalmPorts ports → HaveAtMost rounds (journals_in after) → AreWellEnded (journals_in after))
    → IsSettledRun rounds heads lines (journals_in after)
run_settled rounds heads lines ports after run made calm = record {
  ports = ports;
  run = run;
  made = made;
  legal =
      subst (AreLegalFor heads) (sym made)
      (subst (λ hs. AreLegalFor hs (settled_in rounds ports)) run.same (own_legal rounds 0 heads lines ports run.same run.woven));
  calm = λ steps. calm (run_calm heads lines ports steps run);
}
