use Rattle.std.proofs.Common.{ℕ, Err, refl, ap, ◌∙◌}
use Rattle.nvmecp.specs.Asm.{IsAssembly, TellsAssembly}
use Rattle.nvmecp.proofs.Endings.{refused}
use Rattle.nvmecp.proofs.asm.answer.Goals as goal

pub returns-in-Err-Fault-clause-ends : goal.returns-in-Err-Fault-clause-ends
returns-in-Err-Fault-clause-ends g c =
    let input = c.args.input.now.items in
    let line : ℕ = c.in-Err-Fault.line in
    refused (IsAssembly input) (TellsAssembly input) _ g.K.Sink.held g.K.Sink.faults c.args.sink.now c.refuse_line.new.sink c.refuse_line.result
    (record { line = line; faulty = c.assemble.ensures.fault line (c.in-Err-Fault.is ∙ ap Err c.in-Err-Fault.field-0-is); told = refl }) c.refuse_line.ensures

pub returns-in-Err-Fault-clause-accepted : goal.returns-in-Err-Fault-clause-accepted
returns-in-Err-Fault-clause-accepted g c = λ has refused.
    has c.in-Err-Fault.line (c.assemble.ensures.fault c.in-Err-Fault.line (c.in-Err-Fault.is ∙ ap Err c.in-Err-Fault.field-0-is))
