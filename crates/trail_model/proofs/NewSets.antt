-- The table of sets: a new set has a number that no set has, and other look-ups find what they found.
use Rattle.std.proofs.Common.{◌≡◌, ℕ, zero, suc, ◌+◌, ◌<◌, ◌≤◌, ◌==◌, Bool, true, false, not, cond, List, [], ◌∷◌, ◌++◌, length, filter, find, Option, Some, None, option_map, unwrap_or, slice_get, refl, sym, ap, ◌∙◌, ⊎_elim, arith, nat_lt, ◌||◌}
use Rattle.std.specs.List.{AllByRecursion, range_with_len}
use Rattle.std.proofs.lemmas.Bool.{true≢false, cases_lt}
use Rattle.std.proofs.lemmas.Bool.Decides.{nat_tests}
use Rattle.cp_base.specs.Sets.{RangeSet, free_numbers, is_taken, next_number, ranges_under, with_set, without_set}
use Rattle.cp_base.specs.declared.limits.TheConstants.{MAX_SETS}
use Rattle.cp_base.specs.declared.lists.MemRange.{MemRange}
use Rattle.trail_model.proofs.Submits.{eqb-same, none-some, other-eqb}

-- the test of a number
abbrev has_number : ℕ → RangeSet → Bool
has_number n set = set.number == n

-- ---- filters and look-ups

pub each-filter : {A : Type 0} (P : A → Type 0) (test : A → Bool) (xs : List A) → AllByRecursion P xs → AllByRecursion P (filter test xs)
each-filter P test [] all = tt
each-filter P test (x ∷ xs) all = by_test (test x) (each-filter P test xs all.1)
  where
    by_test : (b : Bool) → AllByRecursion P (filter test xs) → AllByRecursion P (cond b (x ∷ filter test xs) (filter test xs))
    by_test true later = (all.0, later)
    by_test false later = later

-- a filter that all sets of a number pass keeps their look-up
find-kept : (test : RangeSet → Bool) (n : ℕ) (sets : List RangeSet) → ((set : RangeSet) → set.number ≡ n → test set ≡ true)
    → find (has_number n) (filter test sets) ≡ find (has_number n) sets
find-kept test n [] pass = refl
find-kept test n (set ∷ sets) pass = by_test (test set) refl (find-kept test n sets pass)
  where
    by_test : (b : Bool) → test set ≡ b → find (has_number n) (filter test sets) ≡ find (has_number n) sets
        → find (has_number n) (cond b (set ∷ filter test sets) (filter test sets)) ≡ find (has_number n) (set ∷ sets)
    by_test true e later = ap (λ (o : Option RangeSet). cond (set.number == n) (Some set) o) later
    by_test false e later =
        let no : (set.number == n) ≡ false = other-eqb set.number n (λ same. true≢false (sym (pass set same) ∙ e)) in
        later ∙ sym (ap (λ (b : Bool). cond b (Some set) (find (has_number n) sets)) no)

-- one that none of them passes finds none
find-lost : (test : RangeSet → Bool) (n : ℕ) (sets : List RangeSet) → ((set : RangeSet) → set.number ≡ n → test set ≡ false)
    → find (has_number n) (filter test sets) ≡ None
find-lost test n [] fail = refl
find-lost test n (set ∷ sets) fail = by_test (test set) refl (find-lost test n sets fail)
  where
    by_test : (b : Bool) → test set ≡ b → find (has_number n) (filter test sets) ≡ None → find (has_number n) (cond b (set ∷ filter test sets) (filter test sets)) ≡ None
    by_test true e later =
        let no : (set.number == n) ≡ false = other-eqb set.number n (λ same. true≢false (sym e ∙ fail set same)) in
        ap (λ (b : Bool). cond b (Some set) (find (has_number n) (filter test sets))) no ∙ later
    by_test false e later = later

find-first : (n : ℕ) (xs ys : List RangeSet) (found : RangeSet) → find (has_number n) xs ≡ Some found → find (has_number n) (xs ++ ys) ≡ Some found
find-first n [] ys found e = absurd (none-some found e)
find-first n (x ∷ xs) ys found e = by_test (x.number == n) e (find-first n xs ys found)
  where
    by_test : (b : Bool) → cond b (Some x) (find (has_number n) xs) ≡ Some found → (find (has_number n) xs ≡ Some found → find (has_number n) (xs ++ ys) ≡ Some found)
        → cond b (Some x) (find (has_number n) (xs ++ ys)) ≡ Some found
    by_test true e later = e
    by_test false e later = later e

find-second : (n : ℕ) (xs ys : List RangeSet) → find (has_number n) xs ≡ None → find (has_number n) (xs ++ ys) ≡ find (has_number n) ys
find-second n [] ys e = refl
find-second n (x ∷ xs) ys e = by_test (x.number == n) e (find-second n xs ys)
  where
    by_test : (b : Bool) → cond b (Some x) (find (has_number n) xs) ≡ None → (find (has_number n) xs ≡ None → find (has_number n) (xs ++ ys) ≡ find (has_number n) ys)
        → cond b (Some x) (find (has_number n) (xs ++ ys)) ≡ find (has_number n) ys
    by_test true e later = absurd (none-some x (sym e))
    by_test false e later = later e

-- the look-up of another number after a set is gone
pub others-stay : (sets : List RangeSet) (gone n : ℕ) → (n ≡ gone → ⊥) → ranges_under (without_set sets gone) n ≡ ranges_under sets n
others-stay sets gone n other =
    ap (λ (o : Option RangeSet). option_map (λ (x : RangeSet). x.ranges) o)
    (find-kept (λ (x : RangeSet). not (x.number == gone)) n sets
    (λ x same. ap not (other-eqb x.number gone (λ e. other (sym same ∙ e)))))

-- the look-up of another number that is there after a new set
pub found-stays : (sets : List RangeSet) (new : RangeSet) (n : ℕ) → (n ≡ new.number → ⊥) → ranges_under (with_set sets new) n ≡ ranges_under sets n
found-stays sets new n other =
    ap (λ (o : Option RangeSet). option_map (λ (x : RangeSet). x.ranges) o)
    (⊎_elim {C = find (has_number n) (with_set sets new) ≡ find (has_number n) sets} below above (cases_lt n new.number))
  where
    low : RangeSet → Bool
    low x = nat_lt x.number new.number

    high : RangeSet → Bool
    high x = nat_lt new.number x.number

    no : (new.number == n) ≡ false
    no = other-eqb new.number n (λ e. other (sym e))

    behind : find (has_number n) (filter low sets) ≡ None → find (has_number n) (with_set sets new) ≡ find (has_number n) (filter high sets)
    behind e = find-second n (filter low sets) (new ∷ filter high sets) e
        ∙ ap (λ (b : Bool). cond b (Some new) (find (has_number n) (filter high sets))) no

    by_found : (o : Option RangeSet) → find (has_number n) sets ≡ o → n < new.number → find (has_number n) (with_set sets new) ≡ o
    by_found None e less =
        behind (find-kept low n sets (λ x same. grind (arith, nat_tests)) ∙ e) ∙ find-lost high n sets (λ x same. grind (arith, nat_tests))
    by_found (Some found) e less =
        find-first n (filter low sets) (new ∷ filter high sets) found (find-kept low n sets (λ x same. grind (arith, nat_tests)) ∙ e)

    below : n < new.number → find (has_number n) (with_set sets new) ≡ find (has_number n) sets
    below less = by_found (find (has_number n) sets) refl less

    above : new.number ≤ n → find (has_number n) (with_set sets new) ≡ find (has_number n) sets
    above le =
        behind (find-lost low n sets (λ x same. grind (arith, nat_tests)))
        ∙ find-kept high n sets (λ x same. let differ : new.number ≡ n → ⊥ = λ e. other (sym e) in grind (arith, nat_tests))

-- ---- the number of a new set

taken-found : (sets : List RangeSet) (n : ℕ) (ranges : List MemRange) → ranges_under sets n ≡ Some ranges → is_taken sets n ≡ true
taken-found [] n ranges e = absurd (none-some ranges e)
taken-found (x ∷ sets) n ranges e = by_test (x.number == n) e (taken-found sets n ranges)
  where
    by_test : (b : Bool) → option_map (λ (y : RangeSet). y.ranges) (cond b (Some x) (find (has_number n) sets)) ≡ Some ranges
        → (ranges_under sets n ≡ Some ranges → is_taken sets n ≡ true) → (b || is_taken sets n) ≡ true
    by_test true e later = refl
    by_test false e later = later e

-- all numbers up to n are taken by at least n sets
taken-others : (sets : List RangeSet) (gone n : ℕ) → (n ≡ gone → ⊥) → is_taken sets n ≡ true → is_taken (without_set sets gone) n ≡ true
taken-others [] gone n other e = e
taken-others (x ∷ sets) gone n other e = by_tests (x.number == gone) (x.number == n) refl refl e (taken-others sets gone n other)
  where
    by_tests : (b b' : Bool) → (x.number == gone) ≡ b → (x.number == n) ≡ b' → (b' || is_taken sets n) ≡ true
        → (is_taken sets n ≡ true → is_taken (without_set sets gone) n ≡ true)
        → is_taken (cond (not b) (x ∷ without_set sets gone) (without_set sets gone)) n ≡ true
    by_tests true true g h e later = absurd (other (sym (eqb-same x.number n h) ∙ eqb-same x.number gone g))
    by_tests true false g h e later = later e
    by_tests false true g h e later = ap (λ (b : Bool). b || is_taken (without_set sets gone) n) h
    by_tests false false g h e later = ap (λ (b : Bool). b || is_taken (without_set sets gone) n) h ∙ later e

gone-le : (sets : List RangeSet) (gone : ℕ) → length (without_set sets gone) ≤ length sets
gone-le [] gone = omega arith
gone-le (x ∷ sets) gone = by_test (not (x.number == gone)) (gone-le sets gone)
  where
    by_test : (b : Bool) → length (without_set sets gone) ≤ length sets → length (cond b (x ∷ without_set sets gone) (without_set sets gone)) ≤ suc (length sets)
    by_test true later = omega arith
    by_test false later = omega arith

gone-fewer : (sets : List RangeSet) (gone : ℕ) → is_taken sets gone ≡ true → length (without_set sets gone) < length sets
gone-fewer [] gone e = absurd (true≢false (sym e))
gone-fewer (x ∷ sets) gone e = by_test (x.number == gone) e (gone-fewer sets gone) (gone-le sets gone)
  where
    by_test : (b : Bool) → (b || is_taken sets gone) ≡ true → (is_taken sets gone ≡ true → length (without_set sets gone) < length sets)
        → length (without_set sets gone) ≤ length sets → length (cond (not b) (x ∷ without_set sets gone) (without_set sets gone)) < suc (length sets)
    by_test true e later le = omega arith
    by_test false e later le = let h = later e in omega arith

taken-many : (n : ℕ) (sets : List RangeSet) → ((m : ℕ) → 1 ≤ m → m ≤ n → is_taken sets m ≡ true) → n ≤ length sets
taken-many zero sets taken = omega arith
taken-many (suc n) sets taken =
    let fewer = gone-fewer sets (suc n) (taken (suc n) (omega arith) (omega arith)) in
    let rest = taken-many n (without_set sets (suc n))
    (λ m low high. taken-others sets (suc n) m (λ e. omega arith) (taken m low (omega arith))) in
    omega arith

-- the numbers of a range that pass a test
none-pass : (test : ℕ → Bool) (a n m : ℕ) → filter test (range_with_len a n) ≡ [] → a ≤ m → m < a + n → test m ≡ false
none-pass test a zero m e low high = absurd (omega arith)
none-pass test a (suc n) m e low high = by_test (test a) refl e (none-pass test (a + 1) n m)
  where
    at_a : a ≡ m → test a ≡ false → test m ≡ false
    at_a same h = ap test (sym same) ∙ h

    by_test : (b : Bool) → test a ≡ b → cond b (a ∷ filter test (range_with_len (a + 1) n)) (filter test (range_with_len (a + 1) n)) ≡ []
        → (filter test (range_with_len (a + 1) n) ≡ [] → a + 1 ≤ m → m < a + 1 + n → test m ≡ false) → test m ≡ false
    by_test true h e later = cc
    by_test false h e later = ⊎_elim {C = test m ≡ false} (λ (less : a < m). later e (omega arith) (omega arith))
        (λ (le : m ≤ a). at_a (omega arith) h) (cases_lt a m)

first-passes : (test : ℕ → Bool) (a n f : ℕ) (fs : List ℕ) → filter test (range_with_len a n) ≡ f ∷ fs → (test f ≡ true) × (a ≤ f)
first-passes test a zero f fs e = cc
first-passes test a (suc n) f fs e = by_test (test a) refl e (first-passes test (a + 1) n f fs)
  where
    by_test : (b : Bool) → test a ≡ b → cond b (a ∷ filter test (range_with_len (a + 1) n)) (filter test (range_with_len (a + 1) n)) ≡ f ∷ fs
        → (filter test (range_with_len (a + 1) n) ≡ f ∷ fs → (test f ≡ true) × (a + 1 ≤ f)) → (test f ≡ true) × (a ≤ f)
    by_test true h e later =
        let same : a ≡ f = cc in
        (ap test (sym same) ∙ h, omega arith)
    by_test false h e later = let p = later e in (p.0, omega arith)

-- where there are fewer sets than there may be, the next number is not 0 and no set has it
pub record IsFresh (sets : List RangeSet) (n : ℕ) : Type 0 where
  pub positive : 0 < n
  pub free : is_taken sets n ≡ false

not-true : (b : Bool) → not b ≡ true → b ≡ false
not-true true e = absurd (true≢false (sym e))
not-true false e = refl

not-false : (b : Bool) → not b ≡ false → b ≡ true
not-false true e = refl
not-false false e = absurd (true≢false e)

fresh-of : (most : ℕ) (sets : List RangeSet) (free : List ℕ) → filter (λ n. not (is_taken sets n)) (range_with_len 1 most) ≡ free → length sets < most
    → IsFresh sets (unwrap_or (slice_get free 0) 0)
fresh-of most sets [] e fewer =
    let many : most ≤ length sets = taken-many most sets
    (λ m low high. not-false (is_taken sets m) (none-pass (λ n. not (is_taken sets n)) 1 most m e low (omega arith))) in
    absurd (omega arith)
fresh-of most sets (f ∷ fs) e fewer =
    let p = first-passes (λ n. not (is_taken sets n)) 1 most f fs e in
    record { positive = omega (arith, p.1); free = not-true (is_taken sets f) p.0 }

pub next-fresh : (sets : List RangeSet) → length sets < MAX_SETS → IsFresh sets (next_number sets)
next-fresh sets fewer = fresh-of MAX_SETS sets (free_numbers sets) refl fewer

-- a new set under the next number changes no look-up that finds a set
pub new-set-stays : (sets : List RangeSet) (ranges : List MemRange) (n : ℕ) (found : List MemRange) → length sets < MAX_SETS → ranges_under sets n ≡ Some found
    → ranges_under (with_set sets (record { number = next_number sets; ranges = ranges })) n ≡ ranges_under sets n
new-set-stays sets ranges n found fewer e =
    let fresh = next-fresh sets fewer in
    found-stays sets (record { number = next_number sets; ranges = ranges }) n
    (λ same. true≢false (sym (taken-found sets n found e) ∙ (ap (λ (m : ℕ). is_taken sets m) same ∙ fresh.free)))
