use Rattle.std.proofs.Common.{ℕ, ap, ◌∙◌, sym, set, slice_index}
use Rattle.bpf_model.specs.Machine.{Machine}
use Rattle.bpf_model.specs.Step.{next}
use Rattle.bpf_exec.proofs.Windows.{helper_seen}
use Rattle.bpf_exec.specs.Seen.{machine_of}
use Rattle.bpf_exec.proofs.processor.Processor.call_helper.Goals as goal

pub returns-clause-effect : goal.returns-clause-effect
returns-clause-effect c =
    let m : Machine = machine_of c.args.self.now c.args.view.now in
    ap (λ (n : ℕ). next (record m { registers = set m.registers 0 n }))
    (sym (c.range_len.ensures ∙ helper_seen c.args.self.now c.args.view.now (slice_index c.args.self.now.registers 1)))
