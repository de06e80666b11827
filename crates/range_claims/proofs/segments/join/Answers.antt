-- The two segments that touch at a place stand before and at the first that ends behind it.
use Rattle.std.proofs.Common.{◌≡◌, ℕ, ◌+◌, ◌-◌, ◌<◌, ◌≤◌, Bool, true, false, List, length, get_or, set, sym, ap, subst, ◌∙◌, arith}
use Rattle.std.specs.List.{remove}
use Rattle.std.proofs.lemmas.List.{get_or_default}
use Rattle.range_claims.specs.Changes.{ended, joined_at, joins}
use Rattle.range_claims.specs.Segments.{Ascend}
use Rattle.range_claims.specs.declared.segments.Segment.{Segment}
use Rattle.range_claims.proofs.Meets.{joined_nowhere, joined_there}
use Rattle.range_claims.proofs.segments.join.Goals as goal
use Rattle.range_claims.proofs.segments.join.Goals.{else-i-gt0-via-then-i-gt0+then-i-len+else-joins, else-i-gt0-via-then-i-gt0+else-i-len, else-i-gt0-via-else-i-gt0}

-- the joined ones, where both were read twice
join_read : (place i : ℕ) (segments : List Segment) (p q r t : Segment) → Ascend 0 segments → 0 < i → i < length segments
    → p ≡ get_or segments (i - 1) p → q ≡ get_or segments i q → r ≡ get_or segments (i - 1) r → t ≡ get_or segments i t → joins place r t ≡ true
    → remove (set segments (i - 1) (record p { to = q.to })) i ≡ joined_at place segments
join_read place i segments p q r t a some below e f g h both =
    let as_r : r ≡ p = g ∙ get_or_default segments (i - 1) r p (omega arith) ∙ sym e in
    let as_t : t ≡ q = h ∙ get_or_default segments i t q below ∙ sym f in
    joined_there place i segments p q a some below e f (subst (λ (x : Segment). joins place x q ≡ true) as_r (subst (λ (x : Segment). joins place r x ≡ true) as_t both))

-- none joined, where both were read
none_read : (place i : ℕ) (segments : List Segment) (r t : Segment) → Ascend 0 segments → i ≡ ended place segments
    → r ≡ get_or segments (i - 1) r → t ≡ get_or segments i t → joins place r t ≡ false → segments ≡ joined_at place segments
none_read place i segments r t a e g h none =
    joined_nowhere place segments a (λ k d is some below.
    let as_i : i ≡ k = e ∙ sym is in
    let as_r : r ≡ get_or segments (k - 1) d = subst (λ (n : ℕ). r ≡ get_or segments (n - 1) r) as_i g ∙ get_or_default segments (k - 1) r d (omega arith) in
    let as_t : t ≡ get_or segments k d = subst (λ (n : ℕ). t ≡ get_or segments n t) as_i h ∙ get_or_default segments k t d below in
    subst (λ (x : Segment). joins place x (get_or segments k d) ≡ false) as_r (subst (λ (x : Segment). joins place r x ≡ false) as_t none))

pub returns-then-joins-clause-joined : goal.returns-then-joins-clause-joined
returns-then-joins-clause-joined c =
    c.remove.ensures.items ∙ join_read c.args.place c.first_behind-i.result c.args.list.now.items _ _ _ _ c.requires (omega (arith, c.if-i-gt0.true)) (omega arith)
    c.index_mut.ensures.value c.index-then-joins.ensures c.index.ensures c.index-then-i-len.ensures (sym c.joins.ensures ∙ c.if-joins.true)

pub returns-else-i-gt0-clause-joined : goal.returns-else-i-gt0-clause-joined
returns-else-i-gt0-clause-joined c =
    let first = c.first_behind-i.ensures.value ∙ ap (ended c.args.place) c.as_slice.ensures.value in
    elim c.else-i-gt0.branch [
      | else-i-gt0-via-then-i-gt0+then-i-len+else-joins w ↦ none_read c.args.place c.first_behind-i.result c.args.list.now.items _ _ c.requires first w.index.ensures w.index-then-i-len.ensures (sym w.joins.ensures ∙ w.if-joins.false)
      | else-i-gt0-via-then-i-gt0+else-i-len w ↦ joined_nowhere c.args.place c.args.list.now.items c.requires (λ i d e some below. absurd (omega (arith, first, e, w.if-i-len.false, w.len.ensures)))
      | else-i-gt0-via-else-i-gt0 w ↦ joined_nowhere c.args.place c.args.list.now.items c.requires (λ i d e some below. absurd (omega (arith, first, e, w.if-i-gt0.false)))
    ]
