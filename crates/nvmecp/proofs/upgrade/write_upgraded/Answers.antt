use Rattle.std.proofs.Common.{◌≡◌, ℕ, List, None, ap, sym, subst, ◌∙◌}
use Rattle.script_line.specs.Sized.{AreSized}
use Rattle.script_cmds.specs.Fault.{first_fault}
use Rattle.script_cmds.specs.Queues.{AreExact}
use Rattle.script_cmds.specs.Text.{lines_of, script_text}
use Rattle.script_cmds.specs.declared.script.Script.{Script}
use Rattle.script_upgrade.specs.Upgraded.{upgraded}
use Rattle.nvmecp.specs.Step.{IsTextOf}
use Rattle.nvmecp.proofs.Endings.{answered}
use Rattle.nvmecp.proofs.upgrade.write_upgraded.Goals as goal

pub returns-in-Ok-clause-ends : goal.returns-in-Ok-clause-ends
returns-in-Ok-clause-ends g c =
    let script : Script = c.args.script in
    let text : List ℕ = c.as_slice.result.now in
    let up : c.upgrade-upgraded.result ≡ upgraded script = c.upgrade-upgraded.ensures.value in
    let printed : script_text c.upgrade-upgraded.result ≡ text = sym c.in-Ok.ensures.text ∙ sym c.as_slice.ensures in
    let sized : AreSized (lines_of (upgraded script)) = subst (λ (s : Script). AreSized (lines_of s)) up c.in-Ok.ensures.sized in
    let queues : AreExact (upgraded script).form (upgraded script).config.depth =
    subst (λ (s : Script). AreExact s.form s.config.depth) up (c.upgrade-upgraded.ensures.queues c.requires.queues) in
    let read : script_text (upgraded script) ≡ text = ap script_text (sym up) ∙ printed in
    let none : first_fault text ≡ None =
    subst (λ (t : List ℕ). first_fault t ≡ None) printed (c.in-Ok.ensures.accepted (c.upgrade-upgraded.ensures.kept c.requires.queues c.requires.kept)) in
    answered (λ answer. answer ≡ text) (λ answer. IsTextOf (upgraded script) answer × (first_fault answer ≡ None)) (λ told. ⊥) g.K.Sink.held g.K.Sink.faults c.args.sink.now
    c.answer_lines.new.sink c.answer_lines.result
    (λ answer same. subst (λ (t : List ℕ). IsTextOf (upgraded script) t × (first_fault t ≡ None)) (sym same) (record { sized = sized; queues = queues; read = read }, none))
    c.answer_lines.ensures.ends
