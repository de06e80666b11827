use Rattle.std.proofs.Common.{◌≡◌, ◌-◌, ◌++◌}
use Rattle.std.specs.List.{flat_map, range_with_len}
use Rattle.bpf_model.specs.Walk.{instruction_at}
use Rattle.bpf_asm.specs.Text.{line_at, text_of_code}
use Rattle.bpf_asm.proofs.disassembler.disassemble.Given as goal

abbrev pub invariant-loop-place : goal.invariant-loop-place
invariant-loop-place l =
    l.text.items ++ flat_map (λ place. line_at (instruction_at l.code.items place)) (range_with_len l.place (l.place-end - l.place)) ≡ text_of_code l.code.items
