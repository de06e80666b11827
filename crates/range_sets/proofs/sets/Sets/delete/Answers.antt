-- The sets that stay are fit, and their numbers ascend.
use Rattle.std.proofs.Common.{◌≡◌, List, length, sym, ap, ◌∙◌, subst, arith}
use Rattle.cp_base.specs.Sets.{RangeSet, without_set}
use Rattle.cp_base.specs.declared.limits.TheConstants.{MAX_SETS}
use Rattle.range_sets.specs.Fit.{AllFit}
use Rattle.range_sets.specs.Places.{sets_from}
use Rattle.range_sets.proofs.Fitting.{without_one}
use Rattle.range_sets.proofs.Numbering.{ascends}
use Rattle.range_sets.proofs.sets.Sets.delete.Goals as goal

pub returns-clause-ascending : goal.returns-clause-ascending
returns-clause-ascending c =
    let many : length c.free.new.places.items ≡ MAX_SETS = c.free.ensures.places ∙ c.self.invariant in
    ascends 1 c.free.new.places.items (omega arith)

pub returns-clause-all_fit : goal.returns-clause-all_fit
returns-clause-all_fit c k h =
    let left : sets_from 1 c.free.new.places.items ≡ without_set c.args.self.now c.args.id =
    c.free.ensures.freed ∙ ap (λ (sets : List RangeSet). without_set sets c.args.id) c.self.view_is in
    subst (AllFit k) (sym left) (without_one k c.args.self.now c.args.id h)
