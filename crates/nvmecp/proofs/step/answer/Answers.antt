use Rattle.std.proofs.Common.{ℕ, List, subst}
use Rattle.nvmecp.specs.Ends.{EndsBy}
use Rattle.nvmecp.specs.Step.{IsHistory, IsPrintOf, TellsScript}
use Rattle.nvmecp.proofs.Endings.{answered, weaker}
use Rattle.nvmecp.proofs.step.answer.Goals as goal

pub returns-in-Ok-clause-ends : goal.returns-in-Ok-clause-ends
returns-in-Ok-clause-ends g c =
    let input = c.args.input.now.items in
    let read = c.in-Ok.ensures in
    let Answers : List ℕ → Type 0 = IsHistory c.args.workers c.args.choices input in
    answered (IsPrintOf c.in-Ok.script c.args.workers c.args.choices) Answers (TellsScript input) g.K.Sink.held g.K.Sink.faults c.args.sink.now c.carry_out.new.sink c.carry_out.result
    (λ text print. record { faultless = read.faultless; script = c.in-Ok.script; read = read.text; print = print })
    (subst (λ sink. EndsBy (IsPrintOf c.in-Ok.script c.args.workers c.args.choices) (λ told. ⊥) g.K.Sink.held g.K.Sink.faults sink c.carry_out.new.sink c.carry_out.result) read.unwritten c.carry_out.ensures.ends)

pub returns-in-Err-clause-ends : goal.returns-in-Err-clause-ends
returns-in-Err-clause-ends g c =
    let input = c.args.input.now.items in
    weaker (λ (answer : List ℕ). ⊥) (IsHistory c.args.workers c.args.choices input) (TellsScript input) (TellsScript input) g.K.Sink.held g.K.Sink.faults
    c.args.sink.now c.planned_script.new.sink c.in-Err.ending (λ text none. absurd none) (λ text told. told) c.in-Err.ensures.ends
