-- Sets under the numbers of their places.
use Rattle.std.proofs.Common.{◌≡◌, ℕ, zero, suc, ◌+◌, ◌<◌, ◌≤◌, Bool, true, false, cond, ltb, not, List, [], ◌∷◌, ◌++◌, Option, Some, None, length, get_or, set, slice_get, is_none, unwrap_or, IsSome, sym, refl, ap, ◌∙◌, subst, ◌⊎◌, ⊎_elim, arith}
use Rattle.std.specs.List.{filter, range_with_len, position, prefix_len}
use Rattle.std.proofs.lemmas.Bool.{cases_lt, eq-eqb, false≢true, le-ltb, lt-ltb, ltb-false, ne_eqb}
use Rattle.std.proofs.lemmas.List.{get_or_past}
use Rattle.std.proofs.lemmas.List.Quantifiers.{position-Some}
use Rattle.cp_base.specs.Sets.{RangeSet, next_number, ranges_under, is_taken, with_set, without_set}
use Rattle.cp_base.specs.declared.lists.MemRange.{MemRange}
use Rattle.cp_base.specs.declared.limits.TheConstants.{MAX_SETS}
use Rattle.range_sets.specs.Fit.{NumbersAscendFrom}
use Rattle.range_sets.specs.Places.{sets_from}

-- the sets of a number below, and above, another
abbrev below : ℕ → List RangeSet → List RangeSet
below m sets = filter (λ (s : RangeSet). ltb s.number m) sets

abbrev above : ℕ → List RangeSet → List RangeSet
above m sets = filter (λ (s : RangeSet). ltb m s.number) sets

below_none : (m n : ℕ) (ps : List (Option (List MemRange))) → m ≤ n → below m (sets_from n ps) ≡ []
below_none m n [] h = refl
below_none m n (None ∷ ps) h = below_none m (n + 1) ps (omega arith)
below_none m n (Some ranges ∷ ps) h = rw (le-ltb n m h) (below_none m (n + 1) ps (omega arith))

above_all : (m n : ℕ) (ps : List (Option (List MemRange))) → m < n → above m (sets_from n ps) ≡ sets_from n ps
above_all m n [] h = refl
above_all m n (None ∷ ps) h = above_all m (n + 1) ps (omega arith)
above_all m n (Some ranges ∷ ps) h =
    rw (lt-ltb m n h) (ap (λ (rest : List RangeSet). record { number = n; ranges = ranges } ∷ rest) (above_all m (n + 1) ps (omega arith)))

-- a set in a free place is one more set
pub with_set_at : (n i m : ℕ) (ps : List (Option (List MemRange))) (ranges : List MemRange) → m ≡ n + i → i < length ps → is_none (get_or ps i None) ≡ true
    → with_set (sets_from n ps) (record { number = m; ranges = ranges }) ≡ sets_from n (set ps i (Some ranges))
with_set_at n i m [] ranges e h free = absurd (omega arith)
with_set_at n zero m (None ∷ ps) ranges e h free =
    let same : n ≡ m = omega arith in
    rw (below_none m (n + 1) ps (omega arith), above_all m (n + 1) ps (omega arith)) (ap (λ (k : ℕ). record { number = k; ranges = ranges } ∷ sets_from (n + 1) ps) (sym same))
with_set_at n zero m (Some other ∷ ps) ranges e h free = absurd (cc)
with_set_at n (suc i) m (None ∷ ps) ranges e h free = with_set_at (n + 1) i m ps ranges (omega arith) (omega arith) free
with_set_at n (suc i) m (Some other ∷ ps) ranges e h free =
    rw (lt-ltb n m (omega arith), le-ltb m n (omega arith))
    (ap (λ (rest : List RangeSet). record { number = n; ranges = other } ∷ rest) (with_set_at (n + 1) i m ps ranges (omega arith) (omega arith) free))

-- the sets of later places have other numbers
kept_all : (m n : ℕ) (ps : List (Option (List MemRange))) → m < n → without_set (sets_from n ps) m ≡ sets_from n ps
kept_all m n [] h = refl
kept_all m n (None ∷ ps) h = kept_all m (n + 1) ps (omega arith)
kept_all m n (Some ranges ∷ ps) h =
    rw (ne_eqb n m (λ e. omega arith)) (ap (λ (rest : List RangeSet). record { number = n; ranges = ranges } ∷ rest) (kept_all m (n + 1) ps (omega arith)))

-- a free place in the stead of a set is the sets without it
pub without_set_at : (n i m : ℕ) (ps : List (Option (List MemRange))) → m ≡ n + i → without_set (sets_from n ps) m ≡ sets_from n (set ps i None)
without_set_at n i m [] e = refl
without_set_at n zero m (None ∷ ps) e = kept_all m (n + 1) ps (omega arith)
without_set_at n zero m (Some ranges ∷ ps) e = rw (eq-eqb n m (omega arith)) (kept_all m (n + 1) ps (omega arith))
without_set_at n (suc i) m (None ∷ ps) e = without_set_at (n + 1) i m ps (omega arith)
without_set_at n (suc i) m (Some ranges ∷ ps) e =
    rw (ne_eqb n m (λ same. omega arith)) (ap (λ (rest : List RangeSet). record { number = n; ranges = ranges } ∷ rest) (without_set_at (n + 1) i m ps (omega arith)))

-- no set of a later place has the number
pub absent : (m n : ℕ) (ps : List (Option (List MemRange))) → m < n → ranges_under (sets_from n ps) m ≡ None
absent m n [] h = refl
absent m n (None ∷ ps) h = absent m (n + 1) ps (omega arith)
absent m n (Some ranges ∷ ps) h = rw (ne_eqb n m (λ e. omega arith)) (absent m (n + 1) ps (omega arith))

-- the ranges under a number are those of its place
pub ranges_at : (n i m : ℕ) (ps : List (Option (List MemRange))) → m ≡ n + i → ranges_under (sets_from n ps) m ≡ get_or ps i None
ranges_at n i m [] e = refl
ranges_at n zero m (None ∷ ps) e = absent m (n + 1) ps (omega arith)
ranges_at n zero m (Some ranges ∷ ps) e = rw (eq-eqb n m (omega arith)) refl
ranges_at n (suc i) m (None ∷ ps) e = ranges_at (n + 1) i m ps (omega arith)
ranges_at n (suc i) m (Some ranges ∷ ps) e = rw (ne_eqb n m (λ same. omega arith)) (ranges_at (n + 1) i m ps (omega arith))

-- no set of a later place takes the number
untaken : (m n : ℕ) (ps : List (Option (List MemRange))) → m < n → is_taken (sets_from n ps) m ≡ false
untaken m n [] h = refl
untaken m n (None ∷ ps) h = untaken m (n + 1) ps (omega arith)
untaken m n (Some ranges ∷ ps) h = rw (ne_eqb n m (λ e. omega arith)) (untaken m (n + 1) ps (omega arith))

-- the least number that passes, where those that pass are the numbers of the free places
pub first_passing : (p : ℕ → Bool) (n i : ℕ) (ps : List (Option (List MemRange))) → i < length ps → is_none (get_or ps i None) ≡ true
    → ((k : ℕ) → k < i → is_none (get_or ps k None) ≡ false) → ((m : ℕ) → n ≤ m → p m ≡ not (is_taken (sets_from n ps) m))
    → slice_get (filter p (range_with_len n (length ps))) 0 ≡ Some (n + i)
first_passing p n i [] h free used same = absurd (omega arith)
first_passing p n zero (None ∷ ps) h free used same =
    rw (same n (omega arith), untaken n (n + 1) ps (omega arith)) (ap Some (omega arith))
first_passing p n zero (Some ranges ∷ ps) h free used same = absurd (cc)
first_passing p n (suc i) (None ∷ ps) h free used same = let taken : is_none (get_or (None ∷ ps) 0 None) ≡ false = used 0 (omega arith) in absurd (cc)
first_passing p n (suc i) (Some ranges ∷ ps) h free used same =
    let more = first_passing p (n + 1) i ps (omega arith) free (λ k below. used (suc k) (omega arith))
    (λ m above. same m (omega arith) ∙ rw (ne_eqb n m (λ e. omega arith)) refl) in
    rw (same n (omega arith), eq-eqb n n refl) (more ∙ ap Some (omega arith))

-- there are no more sets than places
few : (n : ℕ) (ps : List (Option (List MemRange))) → length (sets_from n ps) ≤ length ps
few n [] = omega arith
few n (None ∷ ps) = let h = few (n + 1) ps in omega arith
few n (Some ranges ∷ ps) = let h = few (n + 1) ps in omega arith

-- where a place is free there are fewer sets than places
pub fewer : (n i : ℕ) (ps : List (Option (List MemRange))) → i < length ps → is_none (get_or ps i None) ≡ true → length (sets_from n ps) < length ps
fewer n i [] h free = absurd (omega arith)
fewer n zero (None ∷ ps) h free = let k = few (n + 1) ps in omega arith
fewer n zero (Some ranges ∷ ps) h free = absurd (cc)
fewer n (suc i) (None ∷ ps) h free = let k = few (n + 1) ps in omega arith
fewer n (suc i) (Some ranges ∷ ps) h free = let k = fewer (n + 1) i ps (omega arith) free in omega arith

-- where no place is free there is a set for each
pub full : (n : ℕ) (ps : List (Option (List MemRange))) → length ps ≤ prefix_len (λ place. not (is_none place)) ps → length (sets_from n ps) ≡ length ps
full n [] h = refl
full n (None ∷ ps) h = absurd (omega arith)
full n (Some ranges ∷ ps) h = ap suc (full (n + 1) ps (omega arith))

-- the numbers ascend
ascends_weaker : (m n : ℕ) (sets : List RangeSet) → m ≤ n → NumbersAscendFrom n sets → NumbersAscendFrom m sets
ascends_weaker m n [] h a = tt
ascends_weaker m n (s ∷ sets) h a = (omega (arith, a.0), a.1, a.2)

pub ascends : (n : ℕ) (ps : List (Option (List MemRange))) → n + length ps ≤ MAX_SETS + 1 → NumbersAscendFrom n (sets_from n ps)
ascends n [] h = tt
ascends n (None ∷ ps) h = ascends_weaker n (n + 1) (sets_from (n + 1) ps) (omega arith) (ascends (n + 1) ps (omega arith))
ascends n (Some ranges ∷ ps) h = (omega arith, omega arith, ascends (n + 1) ps (omega arith))

none_before : (n m : ℕ) (b : Bool) → b ≡ ltb n m → cond b (Some n) None ≡ None → m ≤ n
none_before n m true e none = absurd (cc)
none_before n m false e none = ltb-false n m (sym e)

-- where no place is the first free one there are as many sets as places
pub full_table : (ps : List (Option (List MemRange))) → position (λ place. is_none place) ps ≡ None → length ps ≤ length (sets_from 1 ps)
full_table ps none =
    let many : length ps ≤ prefix_len (λ (place : Option (List MemRange)). not (is_none place)) ps =
    none_before (prefix_len (λ (place : Option (List MemRange)). not (is_none place)) ps) (length ps) _ refl none in
    let all = full 1 ps many in
    omega arith

-- the first free place has the least number that no set has
pub least_free : (ps : List (Option (List MemRange))) (i : ℕ) → length ps ≡ MAX_SETS → position (λ place. is_none place) ps ≡ Some i → i + 1 ≡ next_number (sets_from 1 ps)
least_free ps i e some =
    let here = position-Some (λ (place : Option (List MemRange)). is_none place) ps i None some in
    let p : ℕ → Bool = λ m. not (is_taken (sets_from 1 ps) m) in
    let first : slice_get (filter p (range_with_len 1 (length ps))) 0 ≡ Some (1 + i) =
    first_passing p 1 i ps here.0 here.1 here.2 (λ m above. refl) in
    let same : slice_get (filter p (range_with_len 1 MAX_SETS)) 0 ≡ Some (1 + i) =
    subst (λ (n : ℕ). slice_get (filter p (range_with_len 1 n)) 0 ≡ Some (1 + i)) e first in
    let flip : i + 1 ≡ 1 + i = omega arith in
    flip ∙ sym (ap (λ (o : Option ℕ). unwrap_or o 0) same)

-- a number under which ranges stand is that of a place
pub in_range : (m : ℕ) (ps : List (Option (List MemRange))) → IsSome (ranges_under (sets_from 1 ps) m) → (1 ≤ m) × (m ≤ length ps)
in_range zero ps h = absurd (false≢true (subst (λ (o : Option (List MemRange)). IsSome o) (absent 0 1 ps (omega arith)) h))
in_range (suc i) ps h =
    ⊎_elim (λ (past : length ps < suc i). absurd (false≢true (subst (λ (o : Option (List MemRange)). IsSome o) (ranges_at 1 i (suc i) ps (omega arith) ∙ get_or_past ps i None (omega arith)) h)))
    (λ (within : suc i ≤ length ps). (omega arith, within)) (cases_lt (length ps) (suc i))

-- a number that is none of a place has no ranges
pub no_ranges : (m : ℕ) (ps : List (Option (List MemRange))) → (m ≡ 0) ⊎ (length ps < m) → ranges_under (sets_from 1 ps) m ≡ None
no_ranges zero ps h = absent 0 1 ps (omega arith)
no_ranges (suc i) ps h =
    let past : length ps ≤ i = ⊎_elim (λ (none : suc i ≡ 0). absurd (omega arith)) (λ (past : length ps < suc i). omega arith) h in
    ranges_at 1 i (suc i) ps (omega arith) ∙ get_or_past ps i None past

-- a further free place is no set
pub with_free_place : (n : ℕ) (ps : List (Option (List MemRange))) → sets_from n (ps ++ None ∷ []) ≡ sets_from n ps
with_free_place n [] = refl
with_free_place n (None ∷ ps) = with_free_place (n + 1) ps
with_free_place n (Some ranges ∷ ps) = ap (λ (rest : List RangeSet). record { number = n; ranges = ranges } ∷ rest) (with_free_place (n + 1) ps)
