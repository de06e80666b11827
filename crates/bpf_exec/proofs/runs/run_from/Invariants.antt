use Rattle.std.proofs.Common.{◌≡◌, pos, Some}
use Rattle.bpf_model.specs.Encoding.{IsAllowed}
use Rattle.bpf_model.specs.Outcome.{outcome_from}
use Rattle.bpf_decode.specs.Slots.{insn_at}
use Rattle.bpf_exec.specs.Seen.{machine_of, KeepsWindows}
use Rattle.bpf_exec.specs.Setting.{decoded_program}
use Rattle.bpf_exec.proofs.runs.run_from.Given as goal

abbrev pub invariant-loop-left : goal.invariant-loop-left
invariant-loop-left l = record {
  same : outcome_from (decoded_program l.code) l.left (machine_of l.processor l.view) ≡ outcome_from (decoded_program l.code) l.budget (machine_of l.fn.processor l.fn.view);
  current : insn_at l.code (pos l.processor.place) ≡ Some l.insn;
  allowed : IsAllowed l.insn;
  windows : KeepsWindows l.fn.view l.view;
}

abbrev pub decreases-loop-left : goal.decreases-loop-left
decreases-loop-left l = l.left
