use Rattle.std.proofs.Common.{◌≡◌, ℕ, pos, List, Option, length, map, refl, ap, ◌∙◌, rules}
use Rattle.cp_base.specs.Contents.{Contents}
use Rattle.cp_base.specs.declared.lists.MemRange.{MemRange}
use Rattle.bpf_isa.specs.declared.insn.Insn.{Insn}
use Rattle.bpf_model.specs.Memory.{Memory, lengths_of, windows_of}
use Rattle.bpf_model.specs.Outcome.{outcome}
use Rattle.bpf_model.specs.Step.{Program}
use Rattle.bpf_model.specs.Walk.{instruction_at}
use Rattle.bpf_decode.specs.Slots.{insn_at}
use Rattle.bpf_exec.specs.Setting.{Describes, decoded_program}
use Rattle.confined_view.specs.Touched.{Touched, window_bytes}
use Rattle.device_model.specs.Execution.{Loaded, memory_of}
use Rattle.seq_device.specs.Ranges.{AreAtHand, with_windows}
use Rattle.seq_device.proofs.Windows.{apart, windows_left, windows_lengths}
use Rattle.seq_device.proofs.loaded.run_loaded.Goals as goal

-- what the view shows of the program, the ranges and the memory
described : (slots : List (Option Insn)) (contents : Contents) (ranges : List MemRange) (view : Touched) (program : Program) → AreAtHand contents ranges
    → windows_of (memory_of contents) ranges ≡ view.windows → Rattle.bpf_model.specs.Memory.read_write_of ranges ≡ view.writable
    → ((place : ℕ) → insn_at slots (pos place) ≡ program place) → Describes program ranges (memory_of contents) slots view
described slots contents ranges view program at_hand windows writable code =
    record { code = code; apart = apart ranges at_hand.apart; bytes = windows; access = writable }

pub put_windows-requires-clause-lengths : goal.put_windows-requires-clause-lengths
put_windows-requires-clause-lengths c =
    let contents : Contents = c.args.flat.now in
    let ranges : List MemRange = c.args.ranges.now in
    let slots : List (Option Insn) = c.args.program.now in
    let program : Program = decoded_program slots in
    let given = described slots contents ranges c.in_ok-view.view program c.requires.at_hand c.in_ok-view.ensures.windows c.in_ok-view.ensures.writable (λ place. refl) in
    let shown : window_bytes c.deref.result.now ≡ c.run-end.new.view.windows = search rules in
    ap (λ (windows : List (List ℕ)). map (length {A = ℕ}) windows) (shown ∙ c.run-end.ensures.windows program ranges (memory_of contents) given)
    ∙ windows_lengths (outcome program ranges (memory_of contents) c.args.p1 c.args.p2 c.args.budget).memory ranges

pub returns-clause-ending : goal.returns-clause-ending
returns-clause-ending c = λ code same.
    c.run-end.ensures.ending (instruction_at code) c.args.ranges.now (memory_of c.args.flat.now)
    (described c.args.program.now c.args.flat.now c.args.ranges.now c.in_ok-view.view (instruction_at code) c.requires.at_hand
    c.in_ok-view.ensures.windows c.in_ok-view.ensures.writable same)

pub returns-clause-left : goal.returns-clause-left
returns-clause-left c = λ code same.
    let contents : Contents = c.args.flat.now in
    let ranges : List MemRange = c.args.ranges.now in
    let given = described c.args.program.now contents ranges c.in_ok-view.view (instruction_at code) c.requires.at_hand
    c.in_ok-view.ensures.windows c.in_ok-view.ensures.writable same in
    let shown : window_bytes c.deref.result.now ≡ c.run-end.new.view.windows = search rules in
    c.put_windows.ensures
    ∙ (ap (λ (windows : List (List ℕ)). with_windows contents ranges windows) (shown ∙ c.run-end.ensures.windows (instruction_at code) ranges (memory_of contents) given)
    ∙ windows_left (Loaded code) contents ranges c.args.p1 c.args.p2 c.args.budget c.requires.at_hand.each)
