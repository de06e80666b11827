-- Tests of numbers, and how segments count.
use Rattle.std.proofs.Common.{◌≡◌, ◌==◌, ℕ, ◌+◌, ◌*◌, ◌<◌, ◌≤◌, nat_le, nat_lt, Bool, true, false, ◌&&◌, if◌then◌else◌, List, [], ◌∷◌, ◌++◌, map, arith, refl, sym, ◌∙◌, ap, inl, inr, ◌⊎◌, ⊎_elim}
use Rattle.std.proofs.lemmas.Bool.Decides.{nat_tests}
use Rattle.std.proofs.lemmas.Bool.{cases_lt}
use Rattle.range_claims.specs.Counts.{count_at, held_at}
use Rattle.range_claims.specs.Segments.{Ascend, IsFrom}
use Rattle.range_claims.specs.declared.segments.Segment.{Segment}

-- what holds of both, where the test chooses them, holds of the chosen one
pub chosen : {A : Type 0} (P : A → Type 0) (b : Bool) (x y : A) → (b ≡ true → P x) → (b ≡ false → P y) → P (if b then x else y)
chosen P true x y p q = p refl
chosen P false x y p q = q refl

pub le_true : (a b : ℕ) → nat_le a b ≡ true → a ≤ b
le_true a b h = grind (arith, nat_tests)

pub le_false : (a b : ℕ) → nat_le a b ≡ false → b < a
le_false a b h = grind (arith, nat_tests)

pub lt_true : (a b : ℕ) → nat_lt a b ≡ true → a < b
lt_true a b h = grind (arith, nat_tests)

pub lt_false : (a b : ℕ) → nat_lt a b ≡ false → b ≤ a
lt_false a b h = grind (arith, nat_tests)

pub eq_true : (a b : ℕ) → (a == b) ≡ true → a ≡ b
eq_true a b h = grind (arith, nat_tests)

pub true_le : (a b : ℕ) → a ≤ b → nat_le a b ≡ true
true_le a b h = grind (arith, nat_tests)

pub false_le : (a b : ℕ) → b < a → nat_le a b ≡ false
false_le a b h = grind (arith, nat_tests)

pub true_lt : (a b : ℕ) → a < b → nat_lt a b ≡ true
true_lt a b h = grind (arith, nat_tests)

pub false_lt : (a b : ℕ) → b ≤ a → nat_lt a b ≡ false
false_lt a b h = grind (arith, nat_tests)

pub true_eq : (a b : ℕ) → a ≡ b → (a == b) ≡ true
true_eq a b h = grind (arith, nat_tests)

-- 1 from a place on, 0 before it
pub since : ℕ → ℕ → ℕ
since x place = if nat_le place x then 1 else 0

pub since_one : (x place : ℕ) → place ≤ x → since x place ≡ 1
unfolding since
since_one x place h = ap (λ b. if b then 1 else 0) (true_le place x h)

pub since_zero : (x place : ℕ) → x < place → since x place ≡ 0
unfolding since
since_zero x place h = ap (λ b. if b then 1 else 0) (false_le place x h)

-- a segment counts from its first byte on, and no more from its end on
held_cases : (n : ℕ) (a b : Bool) → (if a && b then n else 0) ≡ (if a then if b then n else 0 else 0)
held_cases n true b = refl
held_cases n false b = refl

pub held_inside : (s : Segment) (x : ℕ) → s.from ≤ x → x < s.to → held_at s x ≡ s.count
held_inside s x g h =
    held_cases s.count (nat_le s.from x) (nat_lt x s.to)
    ∙ ap (λ b. if b then if nat_lt x s.to then s.count else 0 else 0) (true_le s.from x g) ∙ ap (λ b. if b then s.count else 0) (true_lt x s.to h)

pub held_before : (s : Segment) (x : ℕ) → x < s.from → held_at s x ≡ 0
held_before s x h =
    held_cases s.count (nat_le s.from x) (nat_lt x s.to)
    ∙ ap (λ b. if b then if nat_lt x s.to then s.count else 0 else 0) (false_le s.from x h)

pub held_behind : (s : Segment) (x : ℕ) → s.to ≤ x → held_at s x ≡ 0
held_behind s x h =
    held_cases s.count (nat_le s.from x) (nat_lt x s.to)
    ∙ ap (λ b. if nat_le s.from x then if b then s.count else 0 else 0) (false_lt x s.to h) ∙ same (nat_le s.from x)
  where
    same : (b : Bool) → ◌≡◌ {A = ℕ} (if b then 0 else 0) 0
    same true = refl
    same false = refl

pub held_since : (s : Segment) (x : ℕ) → s.from ≤ s.to → held_at s x + s.count * since x s.to ≡ s.count * since x s.from
held_since s x h =
    ⊎_elim (λ (before : x < s.from).
    let a = held_before s x before in let b = since_zero x s.from before in let c = since_zero x s.to (omega arith) in rw (a, b, c) (omega arith))
    (λ (from : s.from ≤ x). ⊎_elim (λ (inside : x < s.to).
    let a = held_inside s x from inside in let b = since_one x s.from from in let c = since_zero x s.to inside in rw (a, b, c) (omega arith))
    (λ (behind : s.to ≤ x).
    let a = held_behind s x behind in let b = since_one x s.from from in let c = since_one x s.to behind in rw (a, b, c) (omega arith))
    (cases_lt x s.to))
    (cases_lt x s.from)

-- segments in order are in order from every lower place on
pub Ascend_lower : (low lower : ℕ) (segments : List Segment) → lower ≤ low → Ascend low segments → Ascend lower segments
Ascend_lower low lower [] h a = tt
Ascend_lower low lower (s ∷ segments) h (here, rest) =
    (record { low = omega (arith, here.low); some = here.some; counted = here.counted; first = here.first; last = here.last }, rest)

-- no byte before them is counted
pub count_before : (low : ℕ) (segments : List Segment) (x : ℕ) → Ascend low segments → x < low → count_at segments x ≡ 0
count_before low [] x a h = refl
count_before low (s ∷ segments) x (here, rest) h =
    let one = held_before s x (omega (arith, here.low)) in
    let others = count_before s.to segments x rest (omega (arith, here.low, here.some)) in
    omega (arith, one, others)

pub count_append : (some others : List Segment) (x : ℕ) → count_at (some ++ others) x ≡ count_at some x + count_at others x
count_append [] others x = omega arith
count_append (s ∷ some) others x = omega (arith, count_append some others x)
