use Rattle.bpf_exec.proofs.Windows.{load_done}
use Rattle.bpf_exec.proofs.processor.Processor.load.Goals as goal

pub returns-clause-effect : goal.returns-clause-effect
returns-clause-effect c =
    load_done c.args.self.now c.set.new.self c.args.view.now c.args.address c.args.size c.args.dst (λ n. n) c.in-Some.number c.in-Some.ensures.number (c.set.ensures.machine c.args.view.now)
