use Rattle.std.proofs.Common.{◌≡◌, ℕ, pos, sym, ap, ◌∙◌}
use Rattle.bpf_model.specs.Machine.{Machine}
use Rattle.bpf_model.specs.Outcome.{RunOutcome, outcome, outcome_from}
use Rattle.bpf_decode.specs.Slots.{insn_at}
use Rattle.bpf_exec.specs.Seen.{window_memory, ranges_of}
use Rattle.bpf_exec.specs.Setting.{decoded_program}
use Rattle.bpf_exec.proofs.Entry.{count_ranges, described-ending, described-windows}
use Rattle.bpf_exec.proofs.runs.run.Goals as goal

pub run_from-requires-clause-current : goal.run_from-requires-clause-current
run_from-requires-clause-current c =
    ap (λ (n : ℕ). insn_at c.args.code.now (pos n)) c.entry-processor.ensures.place ∙ sym c.in-Some.ensures.instruction

-- the run from the entry, on windows
entered : (c : goal.After-run_from) → outcome (decoded_program c.args.code.now) (ranges_of c.args.view.now) (window_memory c.args.view.now.windows) c.args.p1 c.args.p2 c.args.budget
    ≡ record { ending = c.run_from.result; memory = window_memory c.run_from.new.view.windows }
entered c =
    ap (λ (m : Machine). outcome_from (decoded_program c.args.code.now) c.args.budget m)
    (sym (c.entry-processor.ensures.machine c.args.view.now c.requires.stack (count_ranges c.args.view.now ∙ sym c.ranges-2.ensures)))
    ∙ c.run_from.ensures.outcome

pub returns-clause-ending : goal.returns-clause-ending
returns-clause-ending c = λ program ranges memory given.
    described-ending program ranges memory c.args.code.now c.args.view.now given c.args.p1 c.args.p2 c.args.budget
    (record { ending = c.run_from.result; memory = window_memory c.run_from.new.view.windows }) (entered c)

pub returns-clause-windows : goal.returns-clause-windows
returns-clause-windows c = λ program ranges memory given.
    described-windows program ranges memory c.args.code.now c.args.view.now given c.args.p1 c.args.p2 c.args.budget c.run_from.new.view.windows
    (ap (λ (o : RunOutcome). o.memory) (entered c)) c.run_from.ensures.windows.0
