-- The first segment that ends behind the place is cut where it has the place inside.
use Rattle.std.proofs.Common.{◌≡◌, ℕ, suc, ◌+◌, ◌<◌, ◌≤◌, List, length, get_or, set, sym, ap, subst, ◌∙◌, arith, add-one}
use Rattle.std.specs.List.{insert}
use Rattle.std.proofs.lemmas.List.{get_or_default}
use Rattle.range_claims.specs.Changes.{cut_at, ended}
use Rattle.range_claims.specs.declared.segments.Segment.{Segment}
use Rattle.range_claims.proofs.Splits.{cut_nowhere, cut_there}
use Rattle.range_claims.proofs.segments.cut.Goals as goal
use Rattle.range_claims.proofs.segments.cut.Goals.{else-i-len-via-then-i-len+else-index-place, else-i-len-via-else-i-len}

-- the cut, where the segment was read three times
cut_made : (place i : ℕ) (segments : List Segment) (s t u : Segment) → i ≡ ended place segments → i < length segments → s ≡ get_or segments i s → t ≡ get_or segments i t → u ≡ get_or segments i u → u.from < place
    → insert (set segments i (record s { to = place })) (i + 1) (record t { from = place }) ≡ cut_at place segments
cut_made place i segments s t u e below s_is t_is u_is before =
    let as_t : t ≡ s = t_is ∙ get_or_default segments i t s below ∙ sym s_is in
    let as_u : u ≡ s = u_is ∙ get_or_default segments i u s below ∙ sym s_is in
    let from : s.from < place = subst (λ (y : Segment). y.from < place) as_u before in
    let Made : ℕ → Segment → Type 0 = λ (n : ℕ) (y : Segment). insert (set segments i (record s { to = place })) n (record y { from = place }) ≡ cut_at place segments in
    let made : Made (suc i) s = cut_there place i segments s e below (sym s_is) from in
    subst (λ (y : Segment). Made (i + 1) y) (sym as_t) (subst (λ (n : ℕ). Made n s) (sym (add-one i)) made)

-- no cut where the place is not behind the segment's first byte
not_made : (place i : ℕ) (segments : List Segment) (u : Segment) → i ≡ ended place segments → u ≡ get_or segments i u → place ≤ u.from → segments ≡ cut_at place segments
not_made place i segments u e is before =
    cut_nowhere place i segments e (λ d below. let same : u.from ≡ (get_or segments i d).from = ap (λ (s : Segment). s.from) (is ∙ get_or_default segments i u d below) in omega arith)

pub returns-then-index-place-clause-cut : goal.returns-then-index-place-clause-cut
returns-then-index-place-clause-cut c =
    let e = rw c.unwrap.ensures at c.insert.ensures.items in
    let first = c.first_behind-i.ensures.value ∙ ap (ended c.args.place) c.as_slice.ensures.value in
    e ∙ cut_made c.args.place c.first_behind-i.result c.args.list.now.items _ _ _ first (omega arith) c.index_mut.ensures.value c.index-then-index-place.ensures c.index.ensures c.if-index-place.true

pub returns-else-i-len-clause-cut : goal.returns-else-i-len-clause-cut
returns-else-i-len-clause-cut c =
    let first = c.first_behind-i.ensures.value ∙ ap (ended c.args.place) c.as_slice.ensures.value in
    elim c.else-i-len.branch [
      | else-i-len-via-then-i-len+else-index-place w ↦ not_made c.args.place c.first_behind-i.result c.args.list.now.items _ first w.index.ensures w.if-index-place.false
      | else-i-len-via-else-i-len w ↦ cut_nowhere c.args.place c.first_behind-i.result c.args.list.now.items first (λ d below. absurd (omega arith))
    ]
