-- What a read of a segment tells, and how many reads a search takes.
use Rattle.std.proofs.Common.{◌≡◌, ℕ, zero, suc, ◌+◌, ◌-◌, ◌*◌, ◌/◌, ◌<◌, ◌≤◌, List, [], ◌∷◌, Option, None, Some, option_map, unwrap_or, length, get_or, slice_get, arith, refl, sym, subst, ap, ◌∙◌, inl, inr, ◌⊎◌, ⊎_elim}
use Rattle.std.specs.Int.Digits.{digits_of}
use Rattle.std.proofs.lemmas.Bool.{cases_lt}
use Rattle.std.proofs.lemmas.Int.Digits.{length-digits_of_step}
use Rattle.std.proofs.lemmas.Option.{slice_get-get_or, slice_get_past}
use Rattle.std.proofs.Math.Nat.{mul-le-mul_left, suc-mul}
use Rattle.cp_base.specs.Region.{Region}
use Rattle.cp_base.specs.declared.spans.Footprint.{Footprint}
use Rattle.range_claims.specs.Kept.{all_reads, all_writes}
use Rattle.range_claims.specs.Places.{end_of, start_of}
use Rattle.range_claims.specs.Segments.{Ascend, IsFrom}
use Rattle.range_claims.specs.Steps.{binary_digits, ranges_kept, ranges_touched, segment_region, steps_at_most}
use Rattle.range_claims.specs.declared.claims.Claim.{Claim}
use Rattle.range_claims.specs.declared.segments.Segment.{Segment}
use Rattle.range_claims.proofs.Totals.{append_length}

-- a segment at a place in a list in order has its bytes in its namespace
pub from_at : (low i : ℕ) (segments : List Segment) (d : Segment) → Ascend low segments → i < length segments → IsFrom 0 (get_or segments i d)
from_at low i [] d a below = absurd (omega arith)
from_at low zero (s ∷ segments) d (here, rest) below = record { low = omega arith; some = here.some; counted = here.counted; first = here.first; last = here.last }
from_at low (suc i) (s ∷ segments) d (here, rest) below = from_at s.to i segments d rest (omega arith)

region_end : (s : Segment) → IsFrom 0 s → end_of (segment_region s) ≡ s.to
region_end s f = omega (arith, f.first, f.some)

region_start : (s : Segment) → IsFrom 0 s → start_of (segment_region s) ≡ s.from
region_start s f = omega (arith, f.first)

-- what a read gives at a place in the list
read_some : (segments : List Segment) (i : ℕ) (d : Segment) (r : Region) → Some r ≡ option_map segment_region (slice_get segments i) → i < length segments → r ≡ segment_region (get_or segments i d)
read_some segments i d r e below =
    ap (λ (o : Option Region). unwrap_or o r) (e ∙ ap (option_map segment_region) (slice_get-get_or segments i d below))

pub read_end : (segments : List Segment) (i : ℕ) (d : Segment) (r : Region) → Ascend 0 segments → Some r ≡ option_map segment_region (slice_get segments i) → i < length segments → end_of r ≡ (get_or segments i d).to
read_end segments i d r a e below = ap end_of (read_some segments i d r e below) ∙ region_end (get_or segments i d) (from_at 0 i segments d a below)

pub read_start : (segments : List Segment) (i : ℕ) (d : Segment) (r : Region) → Ascend 0 segments → Some r ≡ option_map segment_region (slice_get segments i) → i < length segments → start_of r ≡ (get_or segments i d).from
read_start segments i d r a e below = ap start_of (read_some segments i d r e below) ∙ region_start (get_or segments i d) (from_at 0 i segments d a below)

some_none : (r : Region) → ◌≡◌ {A = Option Region} (Some r) None → ⊥
some_none r e = cc

pub read_inside : (segments : List Segment) (i : ℕ) (r : Region) → Some r ≡ option_map segment_region (slice_get segments i) → length segments ≤ i → ⊥
read_inside segments i r e past = some_none r (e ∙ ap (option_map segment_region) (slice_get_past segments i past))

pub read_none : (segments : List Segment) (i : ℕ) (d : Segment) → ◌≡◌ {A = Option Region} None (option_map segment_region (slice_get segments i)) → i < length segments → ⊥
read_none segments i d e below = some_none (segment_region (get_or segments i d)) (sym (e ∙ ap (option_map segment_region) (slice_get-get_or segments i d below)))

-- half of a number has a digit less
pub half_digits : (n : ℕ) → 0 < n → binary_digits n ≡ binary_digits (n / 2) + 1
half_digits n some = length-digits_of_step 2 n (omega arith) some

-- a greater number has as many digits or more
digits_to : (k m n : ℕ) → n ≤ k → m ≤ n → binary_digits m ≤ binary_digits n
digits_to zero m n few h = let e : m ≡ n = omega arith in subst (λ (x : ℕ). binary_digits m ≤ binary_digits x) e (omega arith)
digits_to (suc k) m n few h =
    ⊎_elim (λ (some : 0 < m).
    let one = half_digits m some in let two = half_digits n (omega arith) in
    let less = digits_to k (m / 2) (n / 2) (omega arith) (omega arith) in
    omega (arith, one, two, less))
    (λ (none : m ≤ 0). let e : 0 ≡ m = omega arith in subst (λ (x : ℕ). binary_digits x ≤ binary_digits n) e (omega arith))
    (cases_lt 0 m)

pub more_digits : (m n : ℕ) → m ≤ n → binary_digits m ≤ binary_digits n
more_digits m n h = digits_to n m n (omega arith) h

-- the ranges of all claims
pub kept_ranges : (claims : List Claim) → length (all_writes claims) + length (all_reads claims) ≡ ranges_kept claims
kept_ranges [] = refl
kept_ranges (c ∷ claims) =
    omega (arith, kept_ranges claims, append_length c.footprint.writes (all_writes claims), append_length c.footprint.reads (all_reads claims))

-- one more of equal costs
pub one_cost_more : (i cost : ℕ) → i * cost + cost ≡ (i + 1) * cost
one_cost_more i cost = let e : i + 1 ≡ suc i = omega arith in sym (ap (λ (n : ℕ). n * cost) e ∙ suc-mul i cost)

-- fewer segments cost no more
cost_most : (ranges segments kept : ℕ) → segments ≤ 2 * kept → ranges * (binary_digits segments + 1) ≤ ranges * (binary_digits (2 * kept) + 1)
cost_most ranges segments kept few =
    let digits = more_digits segments (2 * kept) few in
    mul-le-mul_left ranges (omega (arith, digits))

-- the cost of searching two lists for some ranges, and one for others
three_costs : (w r cost : ℕ) → w * cost + w * cost + r * cost ≤ 2 * (w + r) * cost
three_costs w r cost = omega arith

-- the three searches of a question cost no more than it may
pub steps_enough : (f : Footprint) (claims : List Claim) (writes reads : ℕ) → writes ≤ 2 * length (all_writes claims) → reads ≤ 2 * length (all_reads claims)
    → length f.writes * (binary_digits writes + 1) + length f.writes * (binary_digits reads + 1) + length f.reads * (binary_digits writes + 1) ≤ steps_at_most f claims
steps_enough f claims writes reads p q =
    let kept = kept_ranges claims in
    let few : writes ≤ 2 * ranges_kept claims = omega (arith, p, kept) in
    let also : reads ≤ 2 * ranges_kept claims = omega (arith, q, kept) in
    let one = cost_most (length f.writes) writes (ranges_kept claims) few in
    let two = cost_most (length f.writes) reads (ranges_kept claims) also in
    let three = cost_most (length f.reads) writes (ranges_kept claims) few in
    let all = three_costs (length f.writes) (length f.reads) (binary_digits (2 * ranges_kept claims) + 1) in
    omega (arith, one, two, three, all)
