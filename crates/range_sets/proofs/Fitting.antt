-- Sets stay fit where one comes or goes.
use Rattle.std.proofs.Common.{◌≡◌, ℕ, Bool, true, false, cond, eqb, List, [], ◌∷◌, ◌++◌, Option, Some, None, IfSome, sym, subst, ◌∙◌}
use Rattle.std.specs.List.{filter, find, list_any}
use Rattle.std.specs.Prelude.{option_map}
use Rattle.std.proofs.lemmas.Option.{same_Some, none-some}
use Rattle.cp_base.specs.Configuration.{Configuration}
use Rattle.cp_base.specs.Sets.{RangeSet, ranges_under, with_set, without_set}
use Rattle.cp_base.specs.declared.lists.MemRange.{MemRange}
use Rattle.cp_base.specs.Region.{Region}
use Rattle.cp_base.specs.Sharing.{any_overlap, is_nowhere, is_outside, range_region}
use Rattle.range_sets.specs.Fit.{AllFit, AreFit, regions_of}
use Rattle.range_sets.proofs.Mapped.{any_mapped}

-- what is kept of a set and others, in both cases of its test
kept : (c : Configuration) (passes : Bool) (set : RangeSet) (sets : List RangeSet) → AreFit c set.ranges → AllFit c sets → AllFit c (cond passes (set ∷ sets) sets)
kept c true set sets f h = (f, h)
kept c false set sets f h = h

filtered : (c : Configuration) (p : RangeSet → Bool) (sets : List RangeSet) → AllFit c sets → AllFit c (filter p sets)
filtered c p [] h = tt
filtered c p (set ∷ sets) h = kept c (p set) set (filter p sets) h.0 (filtered c p sets h.1)

joined : (c : Configuration) (some more : List RangeSet) → AllFit c some → AllFit c more → AllFit c (some ++ more)
joined c [] more h k = k
joined c (set ∷ some) more h k = (h.0, joined c some more h.1 k)

pub with_one : (c : Configuration) (sets : List RangeSet) (new : RangeSet) → AllFit c sets → AreFit c new.ranges → AllFit c (with_set sets new)
with_one c sets new h f = joined c _ _ (filtered c _ sets h) (f, filtered c _ sets h)

pub without_one : (c : Configuration) (sets : List RangeSet) (n : ℕ) → AllFit c sets → AllFit c (without_set sets n)
without_one c sets n h = filtered c _ sets h

-- the ranges that are found, in both cases of the test of the first set
found_in : (c : Configuration) (same : Bool) (set : RangeSet) (rest : Option RangeSet) (ranges : List MemRange) → AreFit c set.ranges
    → (option_map (λ (s : RangeSet). s.ranges) rest ≡ Some ranges → AreFit c ranges)
    → option_map (λ (s : RangeSet). s.ranges) (cond same (Some set) rest) ≡ Some ranges → AreFit c ranges
found_in c true set rest ranges f more e = subst (AreFit c) (same_Some _ _ e) f
found_in c false set rest ranges f more e = more e

pub found : (c : Configuration) (sets : List RangeSet) (n : ℕ) (ranges : List MemRange) → AllFit c sets → ranges_under sets n ≡ Some ranges → AreFit c ranges
found c [] n ranges h e = absurd (none-some ranges e)
found c (set ∷ sets) n ranges h e =
    found_in c (eqb set.number n) set (find (λ (s : RangeSet). eqb s.number n) sets) ranges h.0 (found c sets n ranges h.1) e

-- the same of the answer to a look-up
pub found_ranges : (c : Configuration) (sets : List RangeSet) (n : ℕ) (answer : Option (List MemRange)) → answer ≡ ranges_under sets n → AllFit c sets → IfSome answer (AreFit c)
found_ranges c sets n None e h = tt
found_ranges c sets n (Some ranges) e h = found c sets n ranges h (sym e)

-- ranges that pass their tests are fit
pub fit_from_tests : (c : Configuration) (ranges : List MemRange) → list_any (λ range. is_nowhere c (range_region range)) ranges ≡ false
    → list_any (λ (range : MemRange). eqb range.len 0) ranges ≡ false → list_any (λ range. is_outside c (range_region range)) ranges ≡ false
    → any_overlap (regions_of ranges) ≡ false → AreFit c ranges
fit_from_tests c ranges somewhere some inside apart = record {
  somewhere = any_mapped (is_nowhere c) range_region ranges ∙ somewhere;
  with_bytes = any_mapped (λ (region : Region). eqb region.len 0) range_region ranges ∙ some;
  inside = any_mapped (is_outside c) range_region ranges ∙ inside;
  apart = apart;
}
