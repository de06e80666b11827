-- Sums, counts, first differences and marks of a list, by the 64 items from a place on and what is behind them.
use Rattle.std.proofs.Common.{◌≡◌, ℕ, zero, suc, ◌+◌, ◌-◌, ◌*◌, ◌≤◌, ◌<◌, ◌==◌, nat_lt, nat_le, Bool, true, false, not, ◌&&◌, cond, List, [], ◌∷◌, ◌++◌, length, map, take, drop, replicate, count_by, sum, zip, Some, None, refl, sym, ap, ◌∙◌, arith, if◌then◌else◌, w8, get_or, slice_index, Fits, ◌^◌}
use lib.Lanes.{chunk, sum_l, zip2, sel_l}
use Rattle.std.specs.List.{common_prefix_len, position_or_len}
use Rattle.std.proofs.Math.Seq.{take-add}
use Rattle.std.proofs.Math.Facts.{Fits-lt-pow}
use Rattle.std.proofs.lemmas.Bool.Decides.{nat_tests}
use Rattle.std.proofs.lemmas.Grind.{get_or_default_zero}
use Rattle.std.proofs.lemmas.List.{map-append, length-drop, take_all}
use Rattle.std.proofs.lemmas.List.Sums.{sum_by-append, sum_by-cons, sum_by-le}
use Rattle.std.proofs.lemmas.Simd.{chunk-drop, length-chunk}
use Rattle.device_model.specs.Builtin.{first_difference, marks_of}

-- the items from a place on, as a slice has them
pub slice-rest : {A : Type 0} (xs : List A) (i : ℕ) → take (length xs - i) (drop i xs) ≡ drop i xs
slice-rest xs i = take_all (length xs - i) (drop i xs) (omega (arith, length-drop i xs))

-- ---- counts and sums

pub count-chunk : (p : ℕ → Bool) (xs : List ℕ) (i n : ℕ) → count_by p (drop i xs) ≡ count_by p (chunk i n xs) + count_by p (drop (i + n) xs)
count-chunk p xs i n = ap (count_by p) (chunk-drop i n xs) ∙ sum_by-append (λ x. cond (p x) 1 0) (chunk i n xs) (drop (i + n) xs)

pub sum-chunk : (xs : List ℕ) (i n : ℕ) → sum (drop i xs) ≡ sum (chunk i n xs) + sum (drop (i + n) xs)
sum-chunk xs i n = ap sum (chunk-drop i n xs) ∙ sum_by-append (λ x. x) (chunk i n xs) (drop (i + n) xs)

-- both words for the sum of a list
pub sum-lanes : (xs : List ℕ) → sum_l xs ≡ sum xs
sum-lanes [] = refl
sum-lanes (x ∷ xs) = ap (λ (n : ℕ). x + n) (sum-lanes xs) ∙ sym (sum_by-cons (λ y. y) x xs)

-- the sum of as many bytes as may be summed has 32 bits
pub sum-small : (xs : List ℕ) → length xs ≤ 16777216 → ((k : ℕ) → Fits w8 (slice_index xs k)) → sum xs < 2 ^ 32
sum-small xs few small =
    let most : sum xs ≤ length xs * 255 = sum_by-le (λ (x : ℕ). x) 255 xs (λ k d below. below_256 k d below) in
    omega arith
  where
    below_256 : (k d : ℕ) → k < length xs → get_or xs k d ≤ 255
    below_256 k d below =
        let fit : slice_index xs k < 256 = Fits-lt-pow {w = w8} {n = slice_index xs k} (small k) in
        let same : get_or xs k d ≡ slice_index xs k = get_or_default_zero xs k d below in
        omega arith

-- ---- first differences

-- lists that are the same as far as the first parts go on behind them
pub common-append : (xs ys cs bs : List ℕ) → length xs ≡ length ys → common_prefix_len (λ x y. x == y) xs ys ≡ length xs
    → common_prefix_len (λ x y. x == y) (xs ++ cs) (ys ++ bs) ≡ length xs + common_prefix_len (λ x y. x == y) cs bs
common-append [] [] cs bs e all = omega arith
common-append [] (y ∷ ys) cs bs e all = absurd (omega arith)
common-append (x ∷ xs) [] cs bs e all = absurd (omega arith)
common-append (x ∷ xs) (y ∷ ys) cs bs e all = by_test (common-append xs ys cs bs (omega arith)) (x == y) all
  where
    by_test : (common_prefix_len (λ x y. x == y) xs ys ≡ length xs
        → common_prefix_len (λ x y. x == y) (xs ++ cs) (ys ++ bs) ≡ length xs + common_prefix_len (λ x y. x == y) cs bs)
        → (b : Bool) → cond b (1 + common_prefix_len (λ x y. x == y) xs ys) 0 ≡ suc (length xs)
        → cond b (1 + common_prefix_len (λ x y. x == y) (xs ++ cs) (ys ++ bs)) 0 ≡ suc (length xs) + common_prefix_len (λ x y. x == y) cs bs
    by_test next true h = let n = next (omega arith) in omega arith
    by_test next false h = absurd (omega arith)

-- lists that differ in their first parts
pub common-within : (xs ys cs bs : List ℕ) → length xs ≡ length ys → common_prefix_len (λ x y. x == y) xs ys < length xs
    → common_prefix_len (λ x y. x == y) (xs ++ cs) (ys ++ bs) ≡ common_prefix_len (λ x y. x == y) xs ys
common-within [] ys cs bs e less = absurd (omega arith)
common-within (x ∷ xs) [] cs bs e less = absurd (omega arith)
common-within (x ∷ xs) (y ∷ ys) cs bs e less = by_test (common-within xs ys cs bs (omega arith)) (x == y) less
  where
    by_test : (common_prefix_len (λ x y. x == y) xs ys < length xs
        → common_prefix_len (λ x y. x == y) (xs ++ cs) (ys ++ bs) ≡ common_prefix_len (λ x y. x == y) xs ys)
        → (b : Bool) → cond b (1 + common_prefix_len (λ x y. x == y) xs ys) 0 < suc (length xs)
        → cond b (1 + common_prefix_len (λ x y. x == y) (xs ++ cs) (ys ++ bs)) 0 ≡ cond b (1 + common_prefix_len (λ x y. x == y) xs ys) 0
    by_test next true h = let n = next (omega arith) in omega arith
    by_test next false h = refl

-- the same for the items from a place on
pub common-chunk : (a b : List ℕ) (i n : ℕ) → length a ≡ length b → i + n ≤ length a
    → common_prefix_len (λ x y. x == y) (chunk i n a) (chunk i n b) ≡ n
    → common_prefix_len (λ x y. x == y) (drop i a) (drop i b) ≡ n + common_prefix_len (λ x y. x == y) (drop (i + n) a) (drop (i + n) b)
common-chunk a b i n e inside all =
    let la = length-chunk i n a inside in
    let lb = length-chunk i n b (omega arith) in
    (λ k. common_prefix_len (λ x y. x == y) (chunk-drop i n a k) (chunk-drop i n b k))
    ∙ common-append (chunk i n a) (chunk i n b) (drop (i + n) a) (drop (i + n) b) (la ∙ sym lb) (all ∙ sym la)
    ∙ ap (λ (m : ℕ). m + common_prefix_len (λ x y. x == y) (drop (i + n) a) (drop (i + n) b)) la

pub common-chunk-within : (a b : List ℕ) (i n : ℕ) → length a ≡ length b → i + n ≤ length a
    → common_prefix_len (λ x y. x == y) (chunk i n a) (chunk i n b) < n
    → common_prefix_len (λ x y. x == y) (drop i a) (drop i b) ≡ common_prefix_len (λ x y. x == y) (chunk i n a) (chunk i n b)
common-chunk-within a b i n e inside less =
    let la = length-chunk i n a inside in
    let lb = length-chunk i n b (omega arith) in
    (λ k. common_prefix_len (λ x y. x == y) (chunk-drop i n a k) (chunk-drop i n b k))
    ∙ common-within (chunk i n a) (chunk i n b) (drop (i + n) a) (drop (i + n) b) (la ∙ sym lb) (omega arith)

-- where all lanes are compared, the pairs of the lists are
pub compared-pairs : (t : ℕ → ℕ → Bool) (xs ys : List ℕ) → zip2 t xs ys ≡ map (λ (pair : ℕ × ℕ). t pair.0 pair.1) (zip xs ys)
compared-pairs t [] ys = refl
compared-pairs t (x ∷ xs) [] = refl
compared-pairs t (x ∷ xs) (y ∷ ys) = λ i. t x y ∷ compared-pairs t xs ys i

pub first-common : (xs ys : List ℕ) → position_or_len (λ (pair : ℕ × ℕ). not (pair.0 == pair.1)) (zip xs ys) ≡ common_prefix_len (λ x y. x == y) xs ys
first-common [] ys = refl
first-common (x ∷ xs) [] = refl
first-common (x ∷ xs) (y ∷ ys) = by_test (first-common xs ys) (x == y)
  where
    by_test : position_or_len (λ (pair : ℕ × ℕ). not (pair.0 == pair.1)) (zip xs ys) ≡ common_prefix_len (λ x y. x == y) xs ys → (b : Bool)
        → cond (not (not b)) (1 + position_or_len (λ (pair : ℕ × ℕ). not (pair.0 == pair.1)) (zip xs ys)) 0
        ≡ cond b (1 + common_prefix_len (λ x y. x == y) xs ys) 0
    by_test rest true = ap (λ (n : ℕ). 1 + n) rest
    by_test rest false = refl

pub length-pairs : (xs ys : List ℕ) → length xs ≡ length ys → length (zip xs ys) ≡ length xs
length-pairs [] ys e = refl
length-pairs (x ∷ xs) [] e = absurd (omega arith)
length-pairs (x ∷ xs) (y ∷ ys) e = ap suc (length-pairs xs ys (omega arith))

-- the first difference, by how far the lists are the same
pub difference-common : (xs ys : List ℕ) → length xs ≡ length ys
    → first_difference xs ys ≡ cond (nat_lt (common_prefix_len (λ x y. x == y) xs ys) (length xs)) (Some (common_prefix_len (λ x y. x == y) xs ys)) None
difference-common xs ys e = λ i. cond (nat_lt (first-common xs ys i) (length-pairs xs ys e i)) (Some (first-common xs ys i)) None

pub common-equal : (xs ys : List ℕ) → xs ≡ ys → common_prefix_len (λ x y. x == y) xs ys ≡ length xs
common-equal xs ys e = ap (λ (zs : List ℕ). common_prefix_len (λ x y. x == y) xs zs) (sym e) ∙ itself xs
  where
    itself : (zs : List ℕ) → common_prefix_len (λ x y. x == y) zs zs ≡ length zs
    itself [] = refl
    itself (z ∷ zs) =
        let same : (z == z) ≡ true = grind (arith, nat_tests) in
        ap (λ (b : Bool). cond b (1 + common_prefix_len (λ x y. x == y) zs zs) 0) same ∙ omega (arith, itself zs)

pub equal-common : (xs ys : List ℕ) → length xs ≡ length ys → common_prefix_len (λ x y. x == y) xs ys ≡ length xs → xs ≡ ys
equal-common [] [] e all = refl
equal-common [] (y ∷ ys) e all = absurd (omega arith)
equal-common (x ∷ xs) [] e all = absurd (omega arith)
equal-common (x ∷ xs) (y ∷ ys) e all = by_test (equal-common xs ys (omega arith)) (x == y) refl all
  where
    by_test : (common_prefix_len (λ x y. x == y) xs ys ≡ length xs → xs ≡ ys) → (b : Bool) → (x == y) ≡ b → cond b (1 + common_prefix_len (λ x y. x == y) xs ys) 0 ≡ suc (length xs) → x ∷ xs ≡ y ∷ ys
    by_test next true t h = let same : x ≡ y = grind (arith, nat_tests) in let rest = next (omega arith) in λ i. same i ∷ rest i
    by_test next false t h = absurd (omega arith)

-- ---- marks

pub marks-take : (low high : ℕ) (xs : List ℕ) (i n : ℕ) → marks_of low high (take (i + n) xs) ≡ marks_of low high (take i xs) ++ marks_of low high (chunk i n xs)
marks-take low high xs i n = ap (marks_of low high) (take-add i n xs) ∙ map-append _ (take i xs) (chunk i n xs)

pub sum-marks-take : (low high : ℕ) (xs : List ℕ) (i n : ℕ)
    → sum (marks_of low high (take (i + n) xs)) ≡ sum (marks_of low high (take i xs)) + sum (marks_of low high (chunk i n xs))
sum-marks-take low high xs i n = ap sum (marks-take low high xs i n) ∙ sum_by-append (λ x. x) (marks_of low high (take i xs)) (marks_of low high (chunk i n xs))

-- a mark is at most 1, so there are at most as many as bytes
pub sum-marks : (low high : ℕ) (xs : List ℕ) → sum (marks_of low high xs) ≤ length xs
sum-marks low high [] = omega arith
sum-marks low high (x ∷ xs) =
    let first : sum (marks_of low high (x ∷ xs)) ≡ (if nat_le low x && nat_le x high then 1 else 0) + sum (marks_of low high xs) =
    sum_by-cons (λ y. y) (if nat_le low x && nat_le x high then 1 else 0) (marks_of low high xs) in
    by_test (sum-marks low high xs) (nat_le low x && nat_le x high) first
  where
    by_test : sum (marks_of low high xs) ≤ length xs → (b : Bool) → sum (marks_of low high (x ∷ xs)) ≡ (if b then 1 else 0) + sum (marks_of low high xs) → sum (marks_of low high (x ∷ xs)) ≤ suc (length xs)
    by_test rest true h = omega arith
    by_test rest false h = omega arith

-- how many marks are 1 is their sum
pub count-marks : (low high : ℕ) (xs : List ℕ) → count_by (λ mark. mark == 1) (marks_of low high xs) ≡ sum (marks_of low high xs)
count-marks low high [] = refl
count-marks low high (x ∷ xs) =
    sum_by-cons (λ (m : ℕ). cond (m == 1) 1 0) (if nat_le low x && nat_le x high then 1 else 0) (marks_of low high xs)
    ∙ by_test (count-marks low high xs) (nat_le low x && nat_le x high)
    ∙ sym (sum_by-cons (λ y. y) (if nat_le low x && nat_le x high then 1 else 0) (marks_of low high xs))
  where
    by_test : count_by (λ mark. mark == 1) (marks_of low high xs) ≡ sum (marks_of low high xs) → (b : Bool)
        → cond ((if b then 1 else 0) == 1) 1 0 + count_by (λ mark. mark == 1) (marks_of low high xs) ≡ (if b then 1 else 0) + sum (marks_of low high xs)
    by_test rest true = ap (λ (n : ℕ). 1 + n) rest
    by_test rest false = omega (arith, rest)

-- lanes that are chosen by two tests, one after the other, are marks
pub chosen-marks : (low high n : ℕ) (xs : List ℕ) → length xs ≡ n
    → sel_l (map (λ x. nat_le x high) xs) (sel_l (map (λ x. nat_le low x) xs) (replicate n 1) (replicate n 0)) (replicate n 0) ≡ marks_of low high xs
chosen-marks low high zero [] e = refl
chosen-marks low high (suc n) [] e = absurd (omega arith)
chosen-marks low high zero (x ∷ xs) e = absurd (omega arith)
chosen-marks low high (suc n) (x ∷ xs) e = λ i. by_test (nat_le low x) (nat_le x high) i ∷ chosen-marks low high n xs (omega arith) i
  where
    by_test : (l h : Bool) → ◌≡◌ {A = ℕ} (cond h (cond l 1 0) 0) (if l && h then 1 else 0)
    by_test true true = refl
    by_test true false = refl
    by_test false true = refl
    by_test false false = refl
