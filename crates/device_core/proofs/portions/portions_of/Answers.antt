use Rattle.std.proofs.Common.{rules, ◌≡◌, ◌∙◌, true, false, ap}
use Rattle.cp_base.specs.Runs.{runs_of}
use Rattle.trail_model.specs.Footprints.{is_execution, reads_of, writes_of}
use Rattle.device_core.specs.Portions.{portion_ranges, run_portions, written_ranges}
use Rattle.device_core.proofs.Carrying.{if-ok, runs-carried, runs-written, set-carried, set-taken}
use Rattle.device_core.proofs.portions.portions_of.Goals as goal

pub returns-then-is_execution-clause-ranges : goal.returns-then-is_execution-clause-ranges
returns-then-is_execution-clause-ranges c =
    let is : is_execution c.args.command.now ≡ true = search rules in
    if-ok _ _ c.of_set.result (λ portions e. ap portion_ranges e ∙ set-carried c.args.config.now c.args.ranges.now c.args.command.now is) c.of_set.ensures

pub returns-then-is_execution-clause-written : goal.returns-then-is_execution-clause-written
returns-then-is_execution-clause-written c =
    let is : is_execution c.args.command.now ≡ true = search rules in
    if-ok _ _ c.of_set.result (λ portions e. ap written_ranges e ∙ set-taken c.args.config.now c.args.ranges.now c.args.command.now is) c.of_set.ensures

pub returns-clause-ranges : goal.returns-clause-ranges
returns-clause-ranges c =
    let is : is_execution c.args.command.now ≡ false = search rules in
    let writes : c.as_slice.result.now ≡ runs_of (writes_of c.args.config.now c.args.ranges.now c.args.command.now) = search rules in
    let reads : c.as_slice-2.result.now ≡ runs_of (reads_of c.args.config.now c.args.ranges.now c.args.command.now) = search rules in
    if-ok _ _ c.of_runs.result
    (λ portions e. ap portion_ranges (e ∙ (λ k. run_portions (writes k) (reads k))) ∙ runs-carried c.args.config.now c.args.ranges.now c.args.command.now is) c.of_runs.ensures

pub returns-clause-written : goal.returns-clause-written
returns-clause-written c =
    let is : is_execution c.args.command.now ≡ false = search rules in
    let writes : c.as_slice.result.now ≡ runs_of (writes_of c.args.config.now c.args.ranges.now c.args.command.now) = search rules in
    let reads : c.as_slice-2.result.now ≡ runs_of (reads_of c.args.config.now c.args.ranges.now c.args.command.now) = search rules in
    if-ok _ _ c.of_runs.result
    (λ portions e. ap written_ranges (e ∙ (λ k. run_portions (writes k) (reads k))) ∙ runs-written c.args.config.now c.args.ranges.now c.args.command.now is) c.of_runs.ensures
