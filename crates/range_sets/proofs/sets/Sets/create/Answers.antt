-- The new set has the number and the ranges, is fit, and the numbers ascend.
use Rattle.std.proofs.Common.{◌≡◌, ℕ, List, sym, ap, ◌∙◌, subst, arith}
use Rattle.cp_base.specs.Sets.{RangeSet, next_number, with_set}
use Rattle.cp_base.specs.declared.lists.MemRange.{MemRange}
use Rattle.range_sets.specs.Fit.{AllFit, NumbersAscendFrom, AreFit}
use Rattle.range_sets.specs.Places.{sets_from}
use Rattle.range_sets.proofs.Fitting.{with_one}
use Rattle.range_sets.proofs.Numbering.{ascends}
use Rattle.range_sets.proofs.sets.Sets.create.Goals as goal

-- the sets with one more, by other names of its number, its ranges and the old sets
renamed : (old sets new : List RangeSet) (m : ℕ) (ranges given : List MemRange) → sets ≡ old → m ≡ next_number sets → ranges ≡ given
    → new ≡ with_set sets (record { number = m; ranges = ranges }) → new ≡ with_set old (record { number = next_number old; ranges = given })
renamed old sets new m ranges given e f g h =
    h ∙ ap (λ (n : ℕ). with_set sets (record { number = n; ranges = ranges })) f
    ∙ ap (λ (r : List MemRange). with_set sets (record { number = next_number sets; ranges = r })) g
    ∙ ap (λ (s : List RangeSet). with_set s (record { number = next_number s; ranges = given })) e

pub returns-in_err-check_ranges-clause-ascending : goal.returns-in_err-check_ranges-clause-ascending
returns-in_err-check_ranges-clause-ascending c =
    subst (λ (sets : List RangeSet). NumbersAscendFrom 1 sets) c.self.view_is (ascends 1 c.self.inside.places.items (omega (arith, c.self.invariant)))

pub returns-in_default-clause-ascending : goal.returns-in_default-clause-ascending
returns-in_default-clause-ascending c = ascends 1 c.put.new.places.items (omega (arith, c.put.ensures.places))

pub returns-clause-ascending : goal.returns-clause-ascending
returns-clause-ascending c = ascends 1 c.put.new.places.items (omega (arith, c.put.ensures.places))

pub returns-clause-number : goal.returns-clause-number
returns-clause-number c = c.in-Some.ensures.number ∙ ap next_number c.self.view_is

pub returns-clause-added : goal.returns-clause-added
returns-clause-added c =
    let given = (rw c.unwrap-kept.ensures at c.new.ensures.value) ∙ c.as_slice-2.ensures.value in
    renamed _ _ _ _ _ _ c.self.view_is c.in-Some.ensures.number given c.in-Some.ensures.added

pub returns-clause-all_fit : goal.returns-clause-all_fit
returns-clause-all_fit c h =
    let given = (rw c.unwrap-kept.ensures at c.new.ensures.value) ∙ c.as_slice-2.ensures.value in
    let added = renamed c.args.self.now _ (sets_from 1 c.put.new.places.items) _ _ c.args.ranges.now c.self.view_is c.in-Some.ensures.number given c.in-Some.ensures.added in
    let fit = subst (AreFit c.args.config.now) c.as_slice.ensures.value c.in_ok-check_ranges.ensures.fit in
    subst (AllFit c.args.config.now) (sym added) (with_one c.args.config.now c.args.self.now (record { number = next_number c.args.self.now; ranges = c.args.ranges.now }) h fit)
