use Rattle.std.proofs.Common.{◌≡◌, ℕ, ◌<◌, ◌≤◌, List, IfOk, OnOk, refl, sym, ap, subst, ◌∙◌}
use Rattle.cp_base.specs.Contents.{Contents}
use Rattle.cp_base.specs.declared.lists.MemRange.{MemRange}
use Rattle.bpf_model.specs.Memory.{windows_of}
use Rattle.bpf_model.specs.Outcome.{RunOutcome}
use Rattle.device_model.specs.Builtin as builtin
use Rattle.device_model.specs.Builtin.{builtin_outcome, common_len, cost_of}
use Rattle.device_model.specs.Execution.{memory_of, with_memory}
use Rattle.seq_device.specs.Programs.{builtin_of}
use Rattle.seq_device.specs.declared.builtins.DeviceProgram.{DeviceProgram}
use Rattle.seq_device.proofs.Programs.{dear_outcome, kept_left, unchanged}
use Rattle.seq_device.proofs.builtins.run_builtin.Goals as goal

-- the same of a program that is another's name
kept_by : (program known : DeviceProgram) (contents : Contents) (ranges : List MemRange) (p1 p2 budget : ℕ) → program ≡ known
    → contents ≡ with_memory contents (builtin_outcome (builtin_of known) ranges (memory_of contents) p1 p2 budget).memory
    → contents ≡ with_memory contents (builtin_outcome (builtin_of program) ranges (memory_of contents) p1 p2 budget).memory
kept_by program known contents ranges p1 p2 budget same kept =
    subst (λ (p : DeviceProgram). contents ≡ with_memory contents (builtin_outcome (builtin_of p) ranges (memory_of contents) p1 p2 budget).memory) (sym same) kept

pub returns-then-cost-budget-clause-left : goal.returns-then-cost-budget-clause-left
returns-then-cost-budget-clause-left c =
    let contents : Contents = c.args.flat.now in
    let dear : c.args.budget < cost_of (builtin_of c.args.program) (windows_of (memory_of contents) c.args.ranges.now) =
    subst (λ (n : ℕ). c.args.budget < n) c.cost.ensures c.if-cost-budget.true in
    sym (ap (λ (o : RunOutcome). with_memory contents o.memory)
    (dear_outcome (builtin_of c.args.program) c.args.ranges.now (memory_of contents) c.args.p1 c.args.p2 c.args.budget dear) ∙ unchanged contents)

pub returns-in-Count-clause-left : goal.returns-in-Count-clause-left
returns-in-Count-clause-left c =
    kept_by c.args.program _ c.args.flat.now c.args.ranges.now c.args.p1 c.args.p2 c.args.budget c.in-Count.is
    (kept_left builtin.Count c.args.flat.now c.args.ranges.now c.args.p1 c.args.p2 c.args.budget refl)

pub returns-in-Sum-clause-left : goal.returns-in-Sum-clause-left
returns-in-Sum-clause-left c =
    kept_by c.args.program _ c.args.flat.now c.args.ranges.now c.args.p1 c.args.p2 c.args.budget c.in-Sum.is
    (kept_left builtin.Sum c.args.flat.now c.args.ranges.now c.args.p1 c.args.p2 c.args.budget refl)

pub returns-in-Compare-clause-left : goal.returns-in-Compare-clause-left
returns-in-Compare-clause-left c =
    kept_by c.args.program _ c.args.flat.now c.args.ranges.now c.args.p1 c.args.p2 c.args.budget c.in-Compare.is
    (kept_left builtin.Compare c.args.flat.now c.args.ranges.now c.args.p1 c.args.p2 c.args.budget refl)

-- the budget is enough for the classes
enough : (program known : DeviceProgram) (windows : List (List ℕ)) (cost budget : ℕ) → program ≡ known → cost ≡ cost_of (builtin_of program) windows → cost ≤ budget
    → cost_of (builtin_of known) windows ≤ budget
enough program known windows cost budget same e less =
    subst (λ (n : ℕ). n ≤ budget) (e ∙ ap (λ (p : DeviceProgram). cost_of (builtin_of p) windows) same) less

pub returns-in-Classes-clause-ending : goal.returns-in-Classes-clause-ending
returns-in-Classes-clause-ending c =
    let contents : Contents = c.args.flat.now in
    subst (λ (p : DeviceProgram). IfOk c.classes.result
    (λ ending. ending ≡ (builtin_outcome (builtin_of p) c.args.ranges.now (memory_of contents) c.args.p1 c.args.p2 c.args.budget).ending)) (sym c.in-Classes.is)
    (c.classes.ensures.ending c.args.budget
    (enough c.args.program _ (windows_of (memory_of contents) c.args.ranges.now) c.cost.result c.args.budget c.in-Classes.is c.cost.ensures c.if-cost-budget.false))

pub returns-in-Classes-clause-left : goal.returns-in-Classes-clause-left
returns-in-Classes-clause-left c =
    let contents : Contents = c.args.flat.now in
    subst (λ (p : DeviceProgram). OnOk c.classes.result
    (c.classes.new.flat ≡ with_memory contents (builtin_outcome (builtin_of p) c.args.ranges.now (memory_of contents) c.args.p1 c.args.p2 c.args.budget).memory)) (sym c.in-Classes.is)
    (c.classes.ensures.left c.args.budget
    (enough c.args.program _ (windows_of (memory_of contents) c.args.ranges.now) c.cost.result c.args.budget c.in-Classes.is c.cost.ensures c.if-cost-budget.false))
