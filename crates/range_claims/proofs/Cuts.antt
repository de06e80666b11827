-- Segments that are cut at a place.
use Rattle.std.proofs.Common.{◌≡◌, ℕ, ◌+◌, ◌*◌, ◌<◌, ◌≤◌, nat_le, nat_lt, true, false, List, [], ◌∷◌, length, arith, refl, sym, ◌∙◌, inl, inr, ◌⊎◌, ⊎_elim}
use Rattle.range_claims.specs.Changes.{cut_at}
use Rattle.range_claims.specs.Counts.{count_at, held_at}
use Rattle.range_claims.specs.Segments.{Ascend, Differ, IsCut, IsFrom, MeetsNextAt}
use Rattle.range_claims.specs.declared.segments.Segment.{Segment}
use Rattle.range_claims.proofs.Basics.{chosen, held_since, le_false, le_true, lt_false, lt_true}

pub cut_count : (low place : ℕ) (segments : List Segment) (x : ℕ) → Ascend low segments → count_at (cut_at place segments) x ≡ count_at segments x
cut_count low place [] x a = refl
cut_count low place (s ∷ segments) x (here, rest) =
    let P : List Segment → Type 0 = λ made. count_at made x ≡ held_at s x + count_at segments x in
    let Cut : List Segment = record s { to = place } ∷ record s { from = place } ∷ segments in
    chosen P (nat_le s.to place) (s ∷ cut_at place segments) _ (λ _. omega (arith, cut_count s.to place segments x rest))
    (λ n. chosen P (nat_lt s.from place) Cut (s ∷ segments)
    (λ t. let low = lt_true s.from place t in let high = le_false s.to place n in
    let one = held_since (record s { to = place }) x (omega arith) in
    let two = held_since (record s { from = place }) x (omega arith) in
    let whole = held_since s x (omega (arith, here.some)) in
    omega (arith, one, two, whole)) (λ _. refl))

pub cut_ascend : (low place : ℕ) (segments : List Segment) → Ascend low segments → Ascend low (cut_at place segments)
cut_ascend low place [] a = tt
cut_ascend low place (s ∷ segments) (here, rest) =
    let Cut : List Segment = record s { to = place } ∷ record s { from = place } ∷ segments in
    chosen (Ascend low) (nat_le s.to place) (s ∷ cut_at place segments) _ (λ _. (here, cut_ascend s.to place segments rest))
    (λ n. chosen (Ascend low) (nat_lt s.from place) Cut (s ∷ segments)
    (λ t. let after = lt_true s.from place t in let before = le_false s.to place n in (
      record { low = here.low; some = after; counted = here.counted; first = here.first; last = omega (arith, here.last) },
      (record { low = omega arith; some = before; counted = here.counted; first = omega (arith, here.first); last = here.last }, rest),
    ))
    (λ _. (here, rest)))

-- what begins behind a place does not have it inside
pub cut_before : (low place : ℕ) (segments : List Segment) → place ≤ low → Ascend low segments → IsCut place segments
cut_before low place [] h a = tt
cut_before low place (s ∷ segments) h (here, rest) =
    (inr (omega (arith, here.low)), cut_before s.to place segments (omega (arith, here.low, here.some)) rest)

pub cut_is_cut : (low place : ℕ) (segments : List Segment) → Ascend low segments → IsCut place (cut_at place segments)
cut_is_cut low place [] a = tt
cut_is_cut low place (s ∷ segments) (here, rest) =
    let Cut : List Segment = record s { to = place } ∷ record s { from = place } ∷ segments in
    let P : List Segment → Type 0 = λ made. IsCut place made in
    chosen P (nat_le s.to place) (s ∷ cut_at place segments) _ (λ t. (inl (le_true s.to place t), cut_is_cut s.to place segments rest))
    (λ n. let before = le_false s.to place n in
    let behind : IsCut place segments = cut_before s.to place segments (omega arith) rest in
    chosen P (nat_lt s.from place) Cut (s ∷ segments)
    (λ t. (inl (omega arith), (inr (omega arith), behind)))
    (λ m. (inr (lt_false s.from place m), behind)))

-- a cut at another place stays
pub cut_stays : (low place other : ℕ) (segments : List Segment) → Ascend low segments → IsCut other segments → IsCut other (cut_at place segments)
cut_stays low place other [] a h = tt
cut_stays low place other (s ∷ segments) (here, rest) (first, others) =
    let Cut : List Segment = record s { to = place } ∷ record s { from = place } ∷ segments in
    let P : List Segment → Type 0 = λ made. IsCut other made in
    chosen P (nat_le s.to place) (s ∷ cut_at place segments) _ (λ _. (first, cut_stays s.to place other segments rest others))
    (λ n. let before = le_false s.to place n in
    chosen P (nat_lt s.from place) Cut (s ∷ segments)
    (λ t. let after = lt_true s.from place t in
    let Both : Type 0 = IsCut other Cut in
    ⊎_elim {C = Both} (λ (p : s.to ≤ other). (inl (omega arith), (inl p, others))) (λ (q : other ≤ s.from). (inr q, (inr (omega arith), others))) first)
    (λ _. (first, others)))

pub cut_length : (place : ℕ) (segments : List Segment) → length (cut_at place segments) ≤ length segments + 1
cut_length place [] = omega arith
cut_length place (s ∷ segments) =
    let Cut : List Segment = record s { to = place } ∷ record s { from = place } ∷ segments in
    let P : List Segment → Type 0 = λ made. length made ≤ length (s ∷ segments) + 1 in
    chosen P (nat_le s.to place) (s ∷ cut_at place segments) _ (λ _. omega (arith, cut_length place segments))
    (λ n. chosen P (nat_lt s.from place) Cut (s ∷ segments) (λ _. omega arith) (λ _. omega arith))

-- what follows a segment still does where the first of those behind it begins and counts as before
pub follows_same : (P : ℕ → Type 0) (s t u : Segment) (some others : List Segment) → u.from ≡ t.from → u.count ≡ t.count
    → MeetsNextAt P s (t ∷ some) → MeetsNextAt P s (u ∷ others)
follows_same P s t u some others e f h = λ touch same. h (sym e ∙ touch) (sym f ∙ same)

-- a segment that ends before the first of those behind it does not touch it
pub follows_gap : (P : ℕ → Type 0) (s : Segment) (low : ℕ) (segments : List Segment) → s.to < low → Ascend low segments → MeetsNextAt P s segments
follows_gap P s low [] h a = tt
follows_gap P s low (t ∷ segments) h (here, rest) = λ touch same. absurd (omega (arith, here.low, touch))

-- neighbours may touch at more places
pub Follows_more : (P Q : ℕ → Type 0) (s : Segment) (segments : List Segment) → ((place : ℕ) → P place → Q place) → MeetsNextAt P s segments → MeetsNextAt Q s segments
Follows_more P Q s [] f h = tt
Follows_more P Q s (t ∷ segments) f h = λ touch same. f s.to (h touch same)

pub Differ_more : (P Q : ℕ → Type 0) (segments : List Segment) → ((place : ℕ) → P place → Q place) → Differ P segments → Differ Q segments
Differ_more P Q [] f h = tt
Differ_more P Q (s ∷ segments) f (first, others) = (Follows_more P Q s segments f first, Differ_more P Q segments f others)

-- the first of the segments after a cut begins and counts as before
follows_cut : (P : ℕ → Type 0) (place : ℕ) (s : Segment) (segments : List Segment) → MeetsNextAt P s segments → MeetsNextAt P s (cut_at place segments)
follows_cut P place s [] h = tt
follows_cut P place s (t ∷ segments) h =
    let Cut : List Segment = record t { to = place } ∷ record t { from = place } ∷ segments in
    chosen (MeetsNextAt P s) (nat_le t.to place) (t ∷ cut_at place segments) _ (λ _. h)
    (λ n. chosen (MeetsNextAt P s) (nat_lt t.from place) Cut (t ∷ segments) (λ _. h) (λ _. h))

pub cut_differ : (P : ℕ → Type 0) (place : ℕ) (segments : List Segment) → P place → Differ P segments → Differ P (cut_at place segments)
cut_differ P place [] there h = tt
cut_differ P place (s ∷ segments) there (first, others) =
    let Cut : List Segment = record s { to = place } ∷ record s { from = place } ∷ segments in
    chosen (Differ P) (nat_le s.to place) (s ∷ cut_at place segments) _ (λ _. (follows_cut P place s segments first, cut_differ P place segments there others))
    (λ n. chosen (Differ P) (nat_lt s.from place) Cut (s ∷ segments) (λ _. ((λ touch same. there), (last s segments first, others))) (λ _. (first, others)))
  where
    last : (s : Segment) (segments : List Segment) → MeetsNextAt P s segments → MeetsNextAt P (record s { from = place }) segments
    last s [] h = tt
    last s (t ∷ segments) h = h
