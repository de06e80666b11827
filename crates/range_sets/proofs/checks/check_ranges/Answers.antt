-- Where no test is true the ranges are fit.
use Rattle.std.proofs.Common.{sym, ◌∙◌}
use Rattle.range_sets.proofs.Fitting.{fit_from_tests}
use Rattle.range_sets.proofs.checks.check_ranges.Goals as goal

pub returns-clause-fit : goal.returns-clause-fit
returns-clause-fit c =
    fit_from_tests c.args.config.now c.args.ranges.now (sym c.any_nowhere.ensures ∙ c.if-any_nowhere.false) (sym c.any_without_bytes.ensures ∙ c.if-any_without_bytes.false)
    (sym c.any_outside.ensures ∙ c.if-any_outside.false) (sym c.any_overlap.ensures ∙ c.if-any_overlap.false)
