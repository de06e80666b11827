-- What every set keeps holds of the one that is found.
use Rattle.std.proofs.Common.{Bor, IfSome, List, None, Option, Some, arith, subst, rules, ◌≡◌, option_copied}
use Rattle.cp_base.specs.Configuration.{Configuration}
use Rattle.cp_base.specs.Sets.{RangeSet, ranges_under}
use Rattle.cp_base.specs.declared.lists.RangeList.{RangeList}
use Rattle.range_sets.specs.Fit.{AreFit, NumbersAscendFrom}
use Rattle.range_sets.proofs.Numbering.{ascends}
use Rattle.range_sets.proofs.Fitting.{found_ranges}
use Rattle.range_sets.proofs.sets.Sets.get.Goals as goal

-- the same behind a reference
referred : (c : Configuration) (answer : Option (Bor RangeList)) → IfSome (option_copied answer) (AreFit c) → IfSome answer (λ ranges. AreFit c ranges.now)
referred c None h = tt
referred c (Some ranges) h = h

pub returns-clause-ascending : goal.returns-clause-ascending
returns-clause-ascending c =
    subst (λ (sets : List RangeSet). NumbersAscendFrom 1 sets) c.self.view_is (ascends 1 c.self.inside.places.items (omega (arith, c.self.invariant)))

pub returns-clause-fit : goal.returns-clause-fit
returns-clause-fit c k h =
    let same : option_copied c.ranges_of.result ≡ ranges_under c.args.self.now c.args.id = search rules in
    referred k c.ranges_of.result (found_ranges k c.args.self.now c.args.id (option_copied c.ranges_of.result) same h)
