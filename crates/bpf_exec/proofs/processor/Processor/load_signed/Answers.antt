use Rattle.std.proofs.Common.{ℕ, ◌*◌, ◌∙◌, ap}
use Rattle.bpf_isa.specs.Size.{byte_count}
use Rattle.bpf_model.specs.Machine.{with_register}
use Rattle.bpf_model.specs.Value.{sign_extended}
use Rattle.bpf_exec.proofs.Windows.{load_done}
use Rattle.bpf_exec.specs.Seen.{machine_of}
use Rattle.bpf_exec.proofs.processor.Processor.load_signed.Goals as goal

pub returns-clause-effect : goal.returns-clause-effect
returns-clause-effect c =
    load_done c.args.self.now c.set.new.self c.args.view.now c.args.address c.args.size c.args.dst (λ n. sign_extended (8 * byte_count c.args.size) 64 n) c.in-Some.number
    c.in-Some.ensures.number
    (c.set.ensures.machine c.args.view.now ∙ ap (λ (n : ℕ). with_register (machine_of c.args.self.now c.args.view.now) c.args.dst n) c.extended.ensures)
