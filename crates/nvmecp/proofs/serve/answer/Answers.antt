use Rattle.std.proofs.Common.{ℕ, List, subst}
use Rattle.nvmecp.specs.Ends.{EndsBy}
use Rattle.nvmecp.specs.Serve.{IsPrintOfHosts, IsServed}
use Rattle.nvmecp.specs.Step.{TellsScript}
use Rattle.nvmecp.proofs.Endings.{answered, weaker}
use Rattle.nvmecp.proofs.serve.answer.Goals as goal

pub returns-in-Ok-clause-ends : goal.returns-in-Ok-clause-ends
returns-in-Ok-clause-ends g c =
    let input = c.args.input.now.items in
    let read = c.in-Ok.ensures in
    answered (IsPrintOfHosts c.in-Ok.script) (IsServed input) (TellsScript input) g.K.Sink.held g.K.Sink.faults c.args.sink.now c.carry_out.new.sink c.carry_out.result
    (λ text print. record { faultless = read.faultless; script = c.in-Ok.script; read = read.text; print = print })
    (subst (λ sink. EndsBy (IsPrintOfHosts c.in-Ok.script) (λ told. ⊥) g.K.Sink.held g.K.Sink.faults sink c.carry_out.new.sink c.carry_out.result) read.unwritten c.carry_out.ensures.ends)

pub returns-in-Err-clause-ends : goal.returns-in-Err-clause-ends
returns-in-Err-clause-ends g c =
    let input = c.args.input.now.items in
    weaker (λ (answer : List ℕ). ⊥) (IsServed input) (TellsScript input) (TellsScript input) g.K.Sink.held g.K.Sink.faults
    c.args.sink.now c.planned_script.new.sink c.in-Err.ending (λ text none. absurd none) (λ text told. told) c.in-Err.ensures.ends
