use Rattle.std.proofs.Common.{sym, ◌∙◌, arith}
use Rattle.bpf_exec.specs.Seen.{machine_of}
use Rattle.bpf_exec.specs.Setting.{decoded_program}
use Rattle.bpf_exec.proofs.Steps.{run_goes}
use Rattle.bpf_exec.proofs.runs.run_from.Goals as goal

pub loop-left-preserved : goal.loop-left-preserved
loop-left-preserved c = record {
  same =
      sym (run_goes (decoded_program c.args.code.now) (machine_of c.loop-left.processor c.loop-left.view) c.loop-left.left (machine_of c.advance.new.processor c.advance.new.view)
      (omega arith) c.in-Ok.ensures.step) ∙ c.loop-left.invariant.same;
  current = c.in-Ok.ensures.next;
  allowed = c.in-Ok.ensures.next_allowed;
  windows = (c.in-Ok.ensures.windows.0 ∙ c.loop-left.invariant.windows.0, c.in-Ok.ensures.windows.1 ∙ c.loop-left.invariant.windows.1);
}
