use Rattle.std.proofs.Common.{◌≡◌, true, false, ◌∙◌, sym, ap, codes}
use Rattle.std.specs.Str.{bytes_eq}
use Rattle.ata_trace.specs.Parts.{first, later}
use Rattle.ata_script.specs.Taking.{State}
use Rattle.ata_script.proofs.PortWords.{direct_port, multiplier_port}
use Rattle.ata_script.proofs.SmallWords.{rest_taken, rest_left}
use Rattle.ata_script.proofs.head_words.port.Goals as goal

pub returns-then-take-clause-value : goal.returns-then-take-clause-value
returns-then-take-clause-value c =
    let rest = c.args.fields.now.rest in
    let at : c.port_no-number.new.fields.rest ≡ later rest = ap (λ (s : State). s.rest) c.port_no-number.ensures.state in
    let found = sym c.take.ensures.value ∙ c.if-take.true in
    let here : bytes_eq (first (later rest)) (codes "direct") ≡ true = ap (λ r. bytes_eq (first r) (codes "direct")) (sym at) ∙ found in
    let left : c.take.new.self.rest ≡ later (later rest) = rest_taken c.port_no-number.new.fields c.take.new.self (codes "direct") c.take.ensures.state found ∙ ap later at in
    c.direct.ensures.value c.port_no-number.result ∙ direct_port c.args.two rest c.take.new.self.rest c.port_no-number.result here c.port_no-number.ensures.value left

pub returns-else-take-clause-value : goal.returns-else-take-clause-value
returns-else-take-clause-value c =
    let rest = c.args.fields.now.rest in
    let at : c.port_no-number.new.fields.rest ≡ later rest = ap (λ (s : State). s.rest) c.port_no-number.ensures.state in
    let missed = sym c.take.ensures.value ∙ c.if-take.false in
    let here : bytes_eq (first (later rest)) (codes "direct") ≡ false = ap (λ r. bytes_eq (first r) (codes "direct")) (sym at) ∙ missed in
    let left : c.take.new.self.rest ≡ later rest = rest_left c.port_no-number.new.fields c.take.new.self (codes "direct") c.take.ensures.state missed ∙ at in
    c.multiplier.ensures.value c.port_no-number.result ∙ multiplier_port c.args.two rest c.take.new.self.rest c.port_no-number.result here c.port_no-number.ensures.value left
