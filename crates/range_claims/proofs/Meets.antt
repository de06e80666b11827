-- The two segments that touch at a place stand at the first that ends behind it.
use Rattle.std.proofs.Common.{◌≡◌, ℕ, zero, suc, ◌+◌, ◌-◌, ◌<◌, ◌≤◌, nat_le, Bool, true, false, List, [], ◌∷◌, length, get_or, set, arith, refl, sym, subst, ap, ◌∙◌, cond}
use Rattle.std.specs.List.{remove}
use Rattle.std.proofs.lemmas.Bool.{true≢false}
use Rattle.range_claims.specs.Changes.{ended, joined_at, joined_after, joins}
use Rattle.range_claims.specs.Segments.{Ascend, IsFrom}
use Rattle.range_claims.specs.declared.segments.Segment.{Segment}
use Rattle.range_claims.proofs.Basics.{chosen, false_le, le_false, le_true, true_le}
use Rattle.range_claims.proofs.Joins.{joins_parts}

-- a segment at a place in a list in order ends behind the first byte of the list
end_behind : (low : ℕ) (segments : List Segment) (j : ℕ) (d : Segment) → Ascend low segments → j < length segments → low < (get_or segments j d).to
end_behind low [] j d a below = absurd (omega arith)
end_behind low (s ∷ segments) zero d (here, rest) below = omega (arith, here.low, here.some)
end_behind low (s ∷ segments) (suc j) d (here, rest) below = let l = end_behind s.to segments j d rest (omega arith) in omega (arith, l, here.low, here.some)

-- two that touch at a place, joined
join_made : (place j low : ℕ) (s : Segment) (segments : List Segment) (p q : Segment) → IsFrom low s → Ascend s.to segments → j < length segments
    → p ≡ get_or (s ∷ segments) j p → q ≡ get_or segments j q → joins place p q ≡ true
    → remove (set (s ∷ segments) j (record p { to = q.to })) (suc j) ≡ joined_after place s segments
join_made place j low s [] p q here rest below e f both = absurd (omega arith)
join_made place zero low s (t ∷ segments) p q here rest below e f both =
    let P : List Segment → Type 0 = λ made. record p { to = q.to } ∷ segments ≡ made in
    let same : joins place s t ≡ true = subst (λ (x : Segment). joins place x t ≡ true) e (subst (λ (x : Segment). joins place p x ≡ true) f both) in
    chosen P (joins place s t) (record s { to = t.to } ∷ segments) (s ∷ joined_after place t segments)
    (λ _. subst (λ (x : Segment). record p { to = q.to } ∷ segments ≡ record s { to = x.to } ∷ segments) f (subst (λ (x : Segment). record p { to = q.to } ∷ segments ≡ record x { to = q.to } ∷ segments) e refl))
    (λ n. absurd (true≢false (sym same ∙ n)))
join_made place (suc j) low s (t ∷ segments) p q here (next, rest) below e f both =
    let parts = joins_parts place p q both in
    let ends : p.to ≡ place = parts.to in
    let later = end_behind s.to (t ∷ segments) j p (next, rest) (omega arith) in
    let as_p : (get_or (t ∷ segments) j p).to ≡ p.to = ap (λ (x : Segment). x.to) (sym e) in
    let made = join_made place j s.to t segments p q next rest (omega arith) e f both in
    let P : List Segment → Type 0 = λ made. s ∷ remove (set (t ∷ segments) j (record p { to = q.to })) (suc j) ≡ made in
    chosen P (joins place s t) (record s { to = t.to } ∷ segments) (s ∷ joined_after place t segments)
    (λ b. let first = joins_parts place s t b in let early : s.to ≡ place = first.to in absurd (omega arith))
    (λ _. ap (λ (others : List Segment). s ∷ others) made)

first_passes : (b : Bool) (n j : ℕ) → b ≡ true → suc j ≡ n → suc (suc j) ≡ cond b (1 + n) 0
first_passes true n j h e = omega arith
first_passes false n j h e = cc

ended_first : (place : ℕ) (s t : Segment) (segments : List Segment) → s.to ≤ place → place < t.to → ended place (s ∷ t ∷ segments) ≡ 1
ended_first place s t segments h g = let e = true_le s.to place h in let f = false_le t.to place g in rw (e, f) refl

some_end : (place j : ℕ) (t : Segment) (segments : List Segment) → suc j ≡ ended place (t ∷ segments) → t.to ≤ place
some_end place j t segments e = chosen_end (nat_le t.to place) (ended place segments) refl e
  where
    chosen_end : (b : Bool) (n : ℕ) → nat_le t.to place ≡ b → suc j ≡ cond b (1 + n) 0 → t.to ≤ place
    chosen_end true n b e = le_true t.to place b
    chosen_end false n b e = absurd (omega arith)

-- none that touch at a place
join_not_made : (place low : ℕ) (s : Segment) (segments : List Segment) → IsFrom low s → Ascend s.to segments
    → ((j : ℕ) (d : Segment) → suc j ≡ ended place (s ∷ segments) → j < length segments → joins place (get_or (s ∷ segments) j d) (get_or segments j d) ≡ false)
    → s ∷ segments ≡ joined_after place s segments
join_not_made place low s [] here rest h = refl
join_not_made place low s (t ∷ segments) here (next, rest) h =
    let P : List Segment → Type 0 = λ made. s ∷ t ∷ segments ≡ made in
    chosen P (joins place s t) (record s { to = t.to } ∷ segments) (s ∷ joined_after place t segments)
    (λ b. let first = joins_parts place s t b in let ends : s.to ≡ place = first.to in let begins : t.from ≡ place = first.from in
    let none = h 0 s (sym (ended_first place s t segments (omega arith) (omega (arith, next.some)))) (omega arith) in absurd (true≢false (sym b ∙ none)))
    (λ _. ap (λ (others : List Segment). s ∷ others) (join_not_made place s.to t segments next rest
    (λ j d e below. let end = some_end place j t segments e in h (suc j) d (first_passes (nat_le s.to place) (ended place (t ∷ segments)) j (true_le s.to place (omega (arith, end, next.low, next.some))) e) (omega arith))))

-- both at places of the whole list
pub joined_there : (place i : ℕ) (segments : List Segment) (p q : Segment) → Ascend 0 segments → 0 < i → i < length segments
    → p ≡ get_or segments (i - 1) p → q ≡ get_or segments i q → joins place p q ≡ true
    → remove (set segments (i - 1) (record p { to = q.to })) i ≡ joined_at place segments
joined_there place i [] p q a some below e f both = absurd (omega arith)
joined_there place zero (s ∷ segments) p q a some below e f both = absurd (omega arith)
joined_there place (suc j) (s ∷ segments) p q (here, rest) some below e f both =
    let less : suc j - 1 ≡ j = omega arith in
    let e2 : p ≡ get_or (s ∷ segments) j p = subst (λ (k : ℕ). p ≡ get_or (s ∷ segments) k p) less e in
    subst (λ (k : ℕ). remove (set (s ∷ segments) k (record p { to = q.to })) (suc j) ≡ joined_after place s segments) (sym less)
    (join_made place j 0 s segments p q here rest (omega arith) e2 f both)

pub joined_nowhere : (place : ℕ) (segments : List Segment) → Ascend 0 segments
    → ((i : ℕ) (d : Segment) → i ≡ ended place segments → 0 < i → i < length segments → joins place (get_or segments (i - 1) d) (get_or segments i d) ≡ false)
    → segments ≡ joined_at place segments
joined_nowhere place [] a h = refl
joined_nowhere place (s ∷ segments) (here, rest) h =
    join_not_made place 0 s segments here rest
    (λ j d e below. let less : suc j - 1 ≡ j = omega arith in
    subst (λ (k : ℕ). joins place (get_or (s ∷ segments) k d) (get_or segments j d) ≡ false) less (h (suc j) d e (omega arith) (omega arith)))
