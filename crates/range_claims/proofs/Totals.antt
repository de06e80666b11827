-- How often lists of regions have a byte.
use Rattle.std.proofs.Common.{◌≡◌, ℕ, zero, suc, ◌+◌, ◌*◌, ◌<◌, ◌≤◌, nat_le, nat_lt, Bool, ◌&&◌, if◌then◌else◌, List, [], ◌∷◌, ◌++◌, map, length, take, drop, get_or, arith, refl, sym, subst, ap, ◌∙◌}
use Rattle.cp_base.specs.Region.{Region}
use Rattle.range_claims.specs.Counts.{ArePlaced, IsCountOf, IsPlaced, count_at, counted_once, held_at, regions_at}
use Rattle.range_claims.specs.Places.{end_of, start_of}
use Rattle.range_claims.specs.Segments.{AreMaximal}
use Rattle.range_claims.specs.declared.segments.Segment.{Segment}
use Rattle.range_claims.proofs.Basics.{chosen, held_inside}
use Rattle.range_claims.proofs.Bounds.{at_most_two}

pub regions_append : (some others : List Region) (x : ℕ) → regions_at (some ++ others) x ≡ regions_at some x + regions_at others x
regions_append [] others x = omega arith
regions_append (r ∷ some) others x = omega (arith, regions_append some others x)

pub held_once : (r : Region) (x : ℕ) → held_at (counted_once r) x ≤ 1
held_once r x = chosen (λ (n : ℕ). n ≤ 1) (nat_le (start_of r) x && nat_lt x (end_of r)) 1 0 (λ _. omega arith) (λ _. omega arith)

pub regions_few : (regions : List Region) (x : ℕ) → regions_at regions x ≤ length regions
regions_few [] x = omega arith
regions_few (r ∷ regions) x = omega (arith, held_once r x, regions_few regions x)

pub regions_more : (i : ℕ) (regions : List Region) (r : Region) (x : ℕ) → i < length regions → r ≡ get_or regions i r
    → regions_at (take (suc i) regions) x ≡ regions_at (take i regions) x + held_at (counted_once r) x
regions_more i [] r x below e = absurd (omega arith)
regions_more zero (s ∷ regions) r x below e = subst (λ (y : Region). held_at (counted_once s) x + 0 ≡ 0 + held_at (counted_once y) x) (sym e) (omega arith)
regions_more (suc i) (s ∷ regions) r x below e = omega (arith, regions_more i regions r x (omega arith) e)

pub regions_whole : (i : ℕ) (regions : List Region) (x : ℕ) → regions_at regions x ≡ regions_at (take i regions) x + regions_at (drop i regions) x
regions_whole zero regions x = omega arith
regions_whole (suc i) [] x = refl
regions_whole (suc i) (r ∷ regions) x = omega (arith, regions_whole i regions x)

pub regions_left : (i : ℕ) (regions : List Region) (r : Region) (x : ℕ) → i < length regions → r ≡ get_or regions i r
    → regions_at (drop i regions) x ≡ held_at (counted_once r) x + regions_at (drop (suc i) regions) x
regions_left i [] r x below e = absurd (omega arith)
regions_left zero (s ∷ regions) r x below e = subst (λ (y : Region). held_at (counted_once s) x + regions_at regions x ≡ held_at (counted_once y) x + regions_at regions x) (sym e) refl
regions_left (suc i) (s ∷ regions) r x below e = regions_left i regions r x (omega arith) e

pub placed_more : (i : ℕ) (regions : List Region) (r : Region) → i < length regions → r ≡ get_or regions i r → IsPlaced r → ArePlaced (take i regions) → ArePlaced (take (suc i) regions)
placed_more i [] r below e p ps = absurd (omega arith)
placed_more zero (s ∷ regions) r below e p ps = (subst IsPlaced e p, tt)
placed_more (suc i) (s ∷ regions) r below e p (q, ps) = (q, placed_more i regions r (omega arith) e p ps)

pub placed_append : (some others : List Region) → ArePlaced some → ArePlaced others → ArePlaced (some ++ others)
placed_append [] others p q = q
placed_append (r ∷ some) others (first, rest) q = (first, placed_append some others rest q)

map_length : (regions : List Region) → length (map counted_once regions) ≡ length regions
map_length [] = refl
map_length (r ∷ regions) = omega (arith, map_length regions)

-- few segments for few regions
pub few_segments : (segments : List Segment) (regions : List Region) → AreMaximal segments → ((x : ℕ) → count_at segments x ≡ regions_at regions x) → length segments ≤ 2 * length regions
few_segments segments regions m same = omega (arith, at_most_two segments (map counted_once regions) m same, map_length regions)

pub append_length : {X : Type 0} (some others : List X) → length (some ++ others) ≡ length some + length others
append_length [] others = omega arith
append_length (x ∷ some) others = omega (arith, append_length some others)

pub take_few : {X : Type 0} (i : ℕ) (xs : List X) → length (take i xs) ≤ i
take_few zero xs = omega arith
take_few (suc i) [] = omega arith
take_few (suc i) (x ∷ xs) = omega (arith, take_few i xs)

pub drop_few : {X : Type 0} (i : ℕ) (xs : List X) → length (drop i xs) ≤ length xs
drop_few zero xs = omega arith
drop_few (suc i) [] = omega arith
drop_few (suc i) (x ∷ xs) = omega (arith, drop_few i xs)
