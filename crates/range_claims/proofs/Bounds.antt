-- There are at most two segments for each range.
use Rattle.std.proofs.Common.{◌≡◌, ◌≢◌, ◌==◌, ℕ, ◌+◌, ◌-◌, ◌*◌, ◌<◌, ◌≤◌, true, false, Bool, ◌||◌, if◌then◌else◌, List, [], ◌∷◌, length, arith, refl, sym, ◌∙◌, ap, inl, inr, ◌⊎◌, ⊎_elim}
use Rattle.std.proofs.lemmas.Bool.{cases_lt}
use Rattle.std.proofs.lemmas.Bool.Decides.{nat_tests}
use Rattle.cp_base.specs.declared.region.SpaceId.{SpaceId}
use Rattle.cp_base.specs.declared.region.SpaceId.TheVariants.{Nvm}
use Rattle.range_claims.specs.Counts.{count_at, held_at}
use Rattle.range_claims.specs.Segments.{AreMaximal, Ascend, Differ, IsFrom, MeetsNextAt, Nowhere}
use Rattle.range_claims.specs.declared.segments.Segment.{Segment}
use Rattle.range_claims.proofs.Basics.{chosen, count_before, held_before, held_behind, held_inside}

-- whether a place is the first of a segment or behind the last of one
abbrev pub is_end : List Segment → ℕ → Bool
is_end [] place = false
is_end (y ∷ ys) place = y.from == place || (y.to == place || is_end ys place)

either_false : (a b : Bool) → (a || b) ≡ false → (a ≡ false) × (b ≡ false)
either_false true b h = cc
either_false false b h = (refl, h)

unequal : (a b : ℕ) → (a == b) ≡ false → a ≢ b
unequal a b h = λ e. absurd (grind (arith, nat_tests))

-- a segment counts a byte as the one before it, but where it begins or ends
held_same : (y : Segment) (x p : ℕ) → x ≡ p + 1 → y.from ≢ x → y.to ≢ x → held_at y x ≡ held_at y p
held_same y x p e f t =
    ⊎_elim (λ (a : x < y.from). held_before y x a ∙ sym (held_before y p (omega arith)))
    (λ (b : y.from ≤ x). ⊎_elim (λ (c : x < y.to). held_inside y x b c ∙ sym (held_inside y p (omega arith) (omega arith)))
    (λ (d : y.to ≤ x). held_behind y x d ∙ sym (held_behind y p (omega arith))) (cases_lt x y.to))
    (cases_lt x y.from)

count_same : (ys : List Segment) (x p : ℕ) → x ≡ p + 1 → is_end ys x ≡ false → count_at ys x ≡ count_at ys p
count_same [] x p e h = refl
count_same (y ∷ ys) x p e h =
    let one = either_false (y.from == x) (y.to == x || is_end ys x) h in
    let two = either_false (y.to == x) (is_end ys x) one.1 in
    let first = held_same y x p e (unequal y.from x one.0) (unequal y.to x two.0) in
    let others = count_same ys x p e two.1 in
    omega (arith, first, others)

count_none : (ys : List Segment) (x : ℕ) → x ≡ 0 → is_end ys x ≡ false → count_at ys x ≡ 0
count_none [] x e h = refl
count_none (y ∷ ys) x e h =
    let one = either_false (y.from == x) (y.to == x || is_end ys x) h in
    let two = either_false (y.to == x) (is_end ys x) one.1 in
    let apart = unequal y.from x one.0 in
    let first = held_before y x (omega arith) in
    let others = count_none ys x e two.1 in
    omega (arith, first, others)

-- each segment begins where one of others begins or ends
abbrev pub BeginAtEnds : List Segment → List Segment → Type 0
BeginAtEnds ys [] = Unit {0}
BeginAtEnds ys (s ∷ segments) = (is_end ys s.from ≡ true) × BeginAtEnds ys segments

by_test : (b : Bool) → (b ≡ false → ⊥) → b ≡ true
by_test true h = refl
by_test false h = absurd (h refl)

begin_at_ends : (ys : List Segment) (low : ℕ) (before : Segment) (segments : List Segment) → before.to ≡ low → Ascend low segments → Differ Nowhere segments → MeetsNextAt Nowhere before segments
    → ((x : ℕ) → low ≤ x → count_at segments x ≡ count_at ys x) → ((p : ℕ) → low ≡ p + 1 → count_at ys p ≡ before.count) → BeginAtEnds ys segments
begin_at_ends ys low before [] e a d f same last = tt
begin_at_ends ys low before (s ∷ segments) e (here, rest) (first, others) f same last = (
  by_test (is_end ys s.from) not_an_end,
  begin_at_ends ys s.to s segments refl rest others first
      (λ x h. let one = held_behind s x h in let all = same x (omega (arith, here.low, here.some)) in omega (arith, one, all))
      (λ p g. let one = held_inside s p (omega (arith, here.some)) (omega arith) in let all = same p (omega (arith, here.low, here.some)) in let none = count_before s.to segments p rest (omega arith) in
      omega (arith, one, all, none)),
)
  where
    counted : count_at ys s.from ≡ s.count
    counted =
        let one = held_inside s s.from (omega arith) here.some in let none = count_before s.to segments s.from rest here.some in let all = same s.from here.low in
        omega (arith, one, none, all)

    not_an_end : is_end ys s.from ≡ false → ⊥
    not_an_end n =
        ⊎_elim (λ (positive : 0 < s.from).
        let p : ℕ = s.from - 1 in
        let step : s.from ≡ p + 1 = omega arith in
        let as_before = count_same ys s.from p step n in
        ⊎_elim (λ (gap : low < s.from).
        let none = count_before s.from (s ∷ segments) p (record { low = omega arith; some = here.some; counted = here.counted; first = here.first; last = here.last }, rest) (omega arith) in
        let all = same p (omega arith) in omega (arith, counted, here.counted, none, all))
        (λ (near : s.from ≤ low).
        let touch : s.from ≡ before.to = omega (arith, here.low) in
        f touch (sym counted ∙ as_before ∙ last p (omega (arith, here.low))))
        (cases_lt low s.from))
        (λ (zero : s.from ≤ 0). let none = count_none ys s.from (omega arith) n in omega (arith, counted, here.counted, none))
        (cases_lt 0 s.from)

-- 1 where two numbers are equal
abbrev pub equal_one : ℕ → ℕ → ℕ
equal_one a b = if a == b then 1 else 0

-- how many segments begin at a place
abbrev pub begins : List Segment → ℕ → ℕ
begins [] place = 0
begins (s ∷ segments) place = equal_one place s.from + begins segments place

begins_none : (low : ℕ) (segments : List Segment) (place : ℕ) → Ascend low segments → place < low → begins segments place ≡ 0
begins_none low [] place a h = refl
begins_none low (s ∷ segments) place (here, rest) h =
    let one = other place s.from (omega (arith, here.low)) in
    let none = begins_none s.to segments place rest (omega (arith, here.low, here.some)) in
    omega (arith, one, none)
  where
    other : (a b : ℕ) → a < b → equal_one a b ≡ 0
    other a b h = grind (arith, nat_tests)

one_at_most : (a b : ℕ) → equal_one a b ≤ 1
one_at_most a b = chosen (λ n. n ≤ 1) (a == b) 1 0 (λ _. omega arith) (λ _. omega arith)

begins_few : (low : ℕ) (segments : List Segment) (place : ℕ) → Ascend low segments → begins segments place ≤ 1
begins_few low [] place a = omega arith
begins_few low (s ∷ segments) place (here, rest) =
    ⊎_elim (λ (h : place < s.to). let none = begins_none s.to segments place rest h in let one = one_at_most place s.from in omega (arith, one, none))
    (λ (h : s.to ≤ place). let one = other place s.from (omega (arith, here.some)) in let few = begins_few s.to segments place rest in omega (arith, one, few))
    (cases_lt place s.to)
  where
    other : (a b : ℕ) → b < a → equal_one a b ≡ 0
    other a b h = grind (arith, nat_tests)

-- how many segments begin at the ends of others
abbrev pub begins_at_ends : List Segment → List Segment → ℕ
begins_at_ends segments [] = 0
begins_at_ends segments (y ∷ ys) = begins segments y.from + begins segments y.to + begins_at_ends segments ys

few_at_ends : (low : ℕ) (segments ys : List Segment) → Ascend low segments → begins_at_ends segments ys ≤ 2 * length ys
few_at_ends low segments [] a = omega arith
few_at_ends low segments (y ∷ ys) a = omega (arith, begins_few low segments y.from a, begins_few low segments y.to a, few_at_ends low segments ys a)

at_ends_mono : (s : Segment) (segments ys : List Segment) → begins_at_ends segments ys ≤ begins_at_ends (s ∷ segments) ys
at_ends_mono s segments [] = omega arith
at_ends_mono s segments (y ∷ ys) = omega (arith, at_ends_mono s segments ys)

one_more_at_ends : (s : Segment) (segments ys : List Segment) → is_end ys s.from ≡ true → begins_at_ends segments ys + 1 ≤ begins_at_ends (s ∷ segments) ys
one_more_at_ends s segments [] h = cc
one_more_at_ends s segments (y ∷ ys) h =
    let mono = at_ends_mono s segments ys in
    cases (y.from == s.from) (y.to == s.from) (is_end ys s.from) h (λ e. let one = yes y.from s.from e in omega (arith, one, mono)) (λ e. let one = yes y.to s.from e in omega (arith, one, mono))
    (λ e. omega (arith, one_more_at_ends s segments ys e))
  where
    Want : Type 0
    Want = begins_at_ends segments (y ∷ ys) + 1 ≤ begins_at_ends (s ∷ segments) (y ∷ ys)

    yes : (a b : ℕ) → (a == b) ≡ true → equal_one a b ≡ 1
    yes a b h = grind (arith, nat_tests)

    cases : {W : Type 0} (a b c : Bool) → (a || (b || c)) ≡ true → (a ≡ true → W) → (b ≡ true → W) → (c ≡ true → W) → W
    cases true b c h p q r = p refl
    cases false true c h p q r = q refl
    cases false false c h p q r = r h

as_many_at_ends : (segments ys : List Segment) → BeginAtEnds ys segments → length segments ≤ begins_at_ends segments ys
as_many_at_ends [] ys h = omega arith
as_many_at_ends (s ∷ segments) ys (here, rest) = omega (arith, one_more_at_ends s segments ys here, as_many_at_ends segments ys rest)

-- segments that are as few as can be are at most two for each range that they count
pub at_most_two : (segments ys : List Segment) → AreMaximal segments → ((x : ℕ) → count_at segments x ≡ count_at ys x) → length segments ≤ 2 * length ys
at_most_two segments ys m same =
    let nothing : Segment = record { space = Nvm 0; from = 0; to = 0; count = 0 } in
    let ends = begin_at_ends ys 0 nothing segments refl m.ascend m.differ (first segments m.ascend) (λ x _. same x) (λ p e. absurd (omega arith)) in
    omega (arith, as_many_at_ends segments ys ends, few_at_ends 0 segments ys m.ascend)
  where
    first : (some : List Segment) → Ascend 0 some → MeetsNextAt Nowhere (record { space = Nvm 0; from = 0; to = 0; count = 0 }) some
    first [] a = tt
    first (s ∷ some) (here, rest) = λ touch none. absurd (omega (arith, here.counted))
