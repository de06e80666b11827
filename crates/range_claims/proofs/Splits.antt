-- Lists of segments at the first that ends behind a place.
use Rattle.std.proofs.Common.{◌≡◌, ℕ, zero, suc, ◌+◌, ◌<◌, ◌≤◌, nat_le, nat_lt, true, false, Bool, List, [], ◌∷◌, ◌++◌, length, take, drop, get_or, set, arith, refl, sym, subst, ap, ◌∙◌, cond}
use Rattle.std.specs.List.{insert, prefix_len, remove}
use Rattle.std.specs.List.Sorted.{IsPartitionedBy}
use Rattle.std.proofs.lemmas.Bool.{true≢false}
use Rattle.std.proofs.lemmas.List.{get_or_default}
use Rattle.range_claims.specs.Changes.{cut_at, ended, joined_at, joined_after}
use Rattle.range_claims.specs.Segments.{Ascend, IsFrom}
use Rattle.range_claims.specs.declared.segments.Segment.{Segment}
use Rattle.range_claims.proofs.Basics.{chosen, le_false, le_true, lt_false, lt_true, true_le}

-- later segments end later
pub ends_ascend : (low : ℕ) (segments : List Segment) (i j : ℕ) (d : Segment) → Ascend low segments → i ≤ j → j < length segments → (get_or segments i d).to ≤ (get_or segments j d).to
ends_ascend low [] i j d a h below = absurd (omega arith)
ends_ascend low (s ∷ segments) zero zero d a h below = omega arith
ends_ascend low (s ∷ segments) zero (suc j) d (here, rest) h below = later s.to segments j d rest (omega arith)
  where
    later : (low : ℕ) (some : List Segment) (j : ℕ) (d : Segment) → Ascend low some → j < length some → low ≤ (get_or some j d).to
    later low [] j d a below = absurd (omega arith)
    later low (s ∷ some) zero d (here, rest) below = omega (arith, here.low, here.some)
    later low (s ∷ some) (suc j) d (here, rest) below = let l = later s.to some j d rest (omega arith) in omega (arith, l, here.low, here.some)
ends_ascend low (s ∷ segments) (suc i) zero d a h below = absurd (omega arith)
ends_ascend low (s ∷ segments) (suc i) (suc j) d (here, rest) h below = ends_ascend s.to segments i j d rest (omega arith) (omega arith)

-- what holds of the end of a segment holds of that of each before it, and of that of each behind it
pub ended_to : (place m : ℕ) (segments : List Segment) (d e : Segment) (k : ℕ) → Ascend 0 segments → m < length segments → (get_or segments m e).to ≤ place → k < m + 1 → (get_or segments k d).to ≤ place
ended_to place m segments d e k a below h before =
    let later = ends_ascend 0 segments k m d a (omega arith) below in
    let same : (get_or segments m d).to ≡ (get_or segments m e).to = ap (λ (s : Segment). s.to) (get_or_default segments m d e below) in
    omega arith

pub behind_from : (place m : ℕ) (segments : List Segment) (d e : Segment) (k : ℕ) → Ascend 0 segments → k < length segments → place < (get_or segments m e).to → m ≤ k → place < (get_or segments k d).to
behind_from place m segments d e k a below h behind =
    let later = ends_ascend 0 segments m k d a behind below in
    let same : (get_or segments m d).to ≡ (get_or segments m e).to = ap (λ (s : Segment). s.to) (get_or_default segments m d e (omega arith)) in
    omega arith

-- how many pass a test from the front on
pub prefix_is : {X : Type 0} (p : X → Bool) (xs : List X) (i : ℕ) → i ≤ length xs → ((k : ℕ) (d : X) → k < i → p (get_or xs k d) ≡ true) → ((d : X) → i < length xs → p (get_or xs i d) ≡ false) → i ≡ prefix_len p xs
prefix_is p [] i h pass fail = omega arith
prefix_is p (x ∷ xs) zero h pass fail = let e = fail x (omega arith) in rw e refl
prefix_is p (x ∷ xs) (suc i) h pass fail =
    let e = pass 0 x (omega arith) in
    let r = prefix_is p xs i (omega arith) (λ k d below. pass (suc k) d (omega arith)) (λ d below. fail d (omega arith)) in rw e (omega arith)

pub ended_ascends : (place : ℕ) (segments : List Segment) → Ascend 0 segments → IsPartitionedBy (λ (s : Segment). nat_le s.to place) segments
ended_ascends place segments a = λ i j d h below t.
    let later = ends_ascend 0 segments i j d a h below in true_le _ _ (omega (arith, later, le_true (get_or segments j d).to place t))

-- the parts of how many pass a test
pub none_passes : (b : Bool) (n : ℕ) → 0 ≡ cond b (1 + n) 0 → b ≡ false
none_passes true n h = absurd (omega arith)
none_passes false n h = refl

pub one_passes : (b : Bool) (i n : ℕ) → suc i ≡ cond b (1 + n) 0 → (b ≡ true) × (i ≡ n)
one_passes true i n h = (refl, omega arith)
one_passes false i n h = absurd (omega arith)

-- the cut of the first segment that ends behind the place
pub cut_there : (place i : ℕ) (segments : List Segment) (s : Segment) → i ≡ ended place segments → i < length segments → get_or segments i s ≡ s → s.from < place
    → insert (set segments i (record s { to = place })) (suc i) (record s { from = place }) ≡ cut_at place segments
cut_there place i [] s e below here before = absurd (omega arith)
cut_there place zero (x ∷ segments) s e below here before =
    let behind = none_passes (nat_le x.to place) (ended place segments) e in
    let Whole : Segment → Type 0 = λ (y : Segment). insert (set (x ∷ segments) 0 (record y { to = place })) 1 (record y { from = place }) ≡ cut_at place (x ∷ segments) in
    let from : x.from < place = subst (λ (y : Segment). y.from < place) (sym here) before in
    let Made : List Segment = record x { to = place } ∷ record x { from = place } ∷ segments in
    let P : List Segment → Type 0 = λ made. Made ≡ made in
    let base : Whole x = chosen P (nat_le x.to place) (x ∷ cut_at place segments) _ (λ t. absurd (true≢false (sym t ∙ behind)))
    (λ _. chosen P (nat_lt x.from place) Made (x ∷ segments) (λ _. refl) (λ n. absurd (omega (arith, lt_false x.from place n)))) in
    subst Whole here base
cut_there place (suc i) (x ∷ segments) s e below here before =
    let parts = one_passes (nat_le x.to place) i (ended place segments) e in
    let rest = cut_there place i segments s parts.1 (omega arith) here before in
    let P : List Segment → Type 0 = λ made. x ∷ insert (set segments i (record s { to = place })) (suc i) (record s { from = place }) ≡ made in
    chosen P (nat_le x.to place) (x ∷ cut_at place segments) _ (λ _. ap (λ made. x ∷ made) rest) (λ n. absurd (true≢false (sym parts.0 ∙ n)))

-- no cut where no segment has the place inside
pub cut_nowhere : (place i : ℕ) (segments : List Segment) → i ≡ ended place segments → ((d : Segment) → i < length segments → place ≤ (get_or segments i d).from) → segments ≡ cut_at place segments
cut_nowhere place i [] e h = refl
cut_nowhere place zero (x ∷ segments) e h =
    let behind = none_passes (nat_le x.to place) (ended place segments) e in
    let Made : List Segment = record x { to = place } ∷ record x { from = place } ∷ segments in
    let P : List Segment → Type 0 = λ made. x ∷ segments ≡ made in
    chosen P (nat_le x.to place) (x ∷ cut_at place segments) _ (λ t. absurd (true≢false (sym t ∙ behind)))
    (λ _. chosen P (nat_lt x.from place) Made (x ∷ segments) (λ t. absurd (omega (arith, lt_true x.from place t, h x (omega arith)))) (λ _. refl))
cut_nowhere place (suc i) (x ∷ segments) e h =
    let parts = one_passes (nat_le x.to place) i (ended place segments) e in
    let rest = cut_nowhere place i segments parts.1 (λ d below. h d (omega arith)) in
    let P : List Segment → Type 0 = λ made. x ∷ segments ≡ made in
    chosen P (nat_le x.to place) (x ∷ cut_at place segments) _ (λ _. ap (λ made. x ∷ made) rest) (λ n. absurd (true≢false (sym parts.0 ∙ n)))
