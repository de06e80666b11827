use Rattle.std.proofs.Common.{◌≡◌, ℤ, pos, ◌+◌, ◌+ℤ◌, sym, ap, ◌∙◌, arith, to_z, of_z, w64}
use Rattle.std.proofs.lemmas.Int.{ints}
use Rattle.bpf_model.specs.Machine.{Machine}
use Rattle.bpf_model.specs.Step.{Program, Goes, settled}
use Rattle.bpf_exec.specs.Seen.{machine_of}
use Rattle.bpf_exec.specs.Setting.{decoded_program}
use Rattle.bpf_exec.proofs.Steps.{stepped}
use Rattle.bpf_exec.proofs.runs.advance.Goals as goal

pub returns-in-Behind-clause-step : goal.returns-in-Behind-clause-step
returns-in-Behind-clause-step c =
    let m : Machine = machine_of c.args.processor.now c.args.view.now in
    let program : Program = decoded_program c.args.code.now in
    let there : pos (c.execute.new.processor.place + 1) ≡ to_z w64 (of_z w64 (to_z w64 (of_z w64 c.from-behind.result) +ℤ pos 1)) = omega (arith, ints, c.in-Behind.ensures.place, c.args.processor.now.early) in
    stepped program m c.args.insn.now c.requires.current _ c.in-Behind.ensures.effect
    ∙ (ap (λ (z : ℤ). settled program m (Goes (machine_of c.execute.new.processor c.execute.new.view) z)) there
    ∙ c.moved.ensures.step m c.execute.new.view (sym c.in-Behind.ensures.place))

pub returns-in-By-clause-step : goal.returns-in-By-clause-step
returns-in-By-clause-step c =
    let m : Machine = machine_of c.args.processor.now c.args.view.now in
    let program : Program = decoded_program c.args.code.now in
    let there : pos (c.execute.new.processor.place + 1) +ℤ c.in-By.distance ≡ to_z w64 (of_z w64 (to_z w64 (of_z w64 (to_z w64 (of_z w64 c.from-behind.result) +ℤ pos 1)) +ℤ to_z w64 (of_z w64 c.from.result))) =
    omega (arith, ints, c.in-By.ensures.place, c.args.processor.now.early) in
    stepped program m c.args.insn.now c.requires.current _ c.in-By.ensures.effect
    ∙ (ap (λ (z : ℤ). settled program m (Goes (machine_of c.execute.new.processor c.execute.new.view) z)) there
    ∙ c.moved-in-By.ensures.step m c.execute.new.view (sym c.in-By.ensures.place))

pub returns-in-At-clause-step : goal.returns-in-At-clause-step
returns-in-At-clause-step c =
    let m : Machine = machine_of c.args.processor.now c.args.view.now in
    let program : Program = decoded_program c.args.code.now in
    let there : pos c.in-At.place ≡ to_z w64 (of_z w64 c.from-in-At.result) = omega (arith, ints, c.in-At.ensures.place) in
    stepped program m c.args.insn.now c.requires.current _ c.in-At.ensures.effect
    ∙ (ap (λ (z : ℤ). settled program m (Goes (machine_of c.execute.new.processor c.execute.new.view) z)) there
    ∙ c.moved-in-At.ensures.step m c.execute.new.view (sym c.in-At.ensures.place))
