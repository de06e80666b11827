-- New bytes before the segment, and the segment counted once more.
use Rattle.std.proofs.Common.{◌≡◌, ℕ, suc, ◌+◌, ◌<◌, List, length, get_or, set, drop, sym, ap, subst, ◌∙◌, arith}
use Rattle.std.specs.List.{insert}
use Rattle.std.proofs.lemmas.List.{get_or_default}
use Rattle.cp_base.specs.declared.region.SpaceId.{SpaceId}
use Rattle.range_claims.specs.Changes.{raised_from}
use Rattle.range_claims.specs.Segments.{Ascend}
use Rattle.range_claims.specs.declared.segments.Segment.{Segment}
use Rattle.range_claims.proofs.Raises.{once}
use Rattle.range_claims.proofs.Walks.{ascend_next, raise_gap, raise_gap_rest}
use Rattle.range_claims.proofs.segments.raise_one.Goals as goal

-- where the segment was read more than once
gap_read : (space : SpaceId) (at to i : ℕ) (segments : List Segment) (s t u : Segment) → Ascend at (drop i segments) → i < length segments → s ≡ get_or segments i s → t ≡ get_or segments i t → u ≡ get_or segments i u → at < t.from → s.from < to
    → raised_from space s.to to (suc (suc i)) (insert (set segments i (record u { count = u.count + 1 })) i (once space at t.from)) ≡ raised_from space at to i segments
gap_read space at to i segments s t u a below e f g before within =
    let as_t : t ≡ s = f ∙ get_or_default segments i t s below ∙ sym e in
    let as_u : u ≡ s = g ∙ get_or_default segments i u s below ∙ sym e in
    let parts = ascend_next at i segments s a below e in
    let from : at < s.from = subst (λ (y : Segment). at < y.from) as_t before in
    let made = raise_gap space at to i segments s below e from parts.0.some within in
    let with_u = subst (λ (y : Segment). raised_from space s.to to (suc (suc i)) (insert (set segments i (record y { count = y.count + 1 })) i (once space at s.from)) ≡ raised_from space at to i segments) (sym as_u) made in
    subst (λ (y : Segment). raised_from space s.to to (suc (suc i)) (insert (set segments i (record u { count = u.count + 1 })) i (once space at y.from)) ≡ raised_from space at to i segments) (sym as_t) with_u

pub returns-then-at-segment-clause-raised : goal.returns-then-at-segment-clause-raised
returns-then-at-segment-clause-raised c = λ to s is within.
    let e = rw c.unwrap.ensures at c.insert.ensures.items in
    let made = gap_read c.args.space c.args.at to c.args.i c.args.list.now.items s _ _ c.requires.ready c.requires.within is c.index-segment.ensures c.index_mut.ensures.value c.if-at-segment.true within in
    let two : c.args.i + 2 ≡ suc (suc c.args.i) = omega arith in
    ap (λ (n : ℕ). raised_from c.args.space s.to to n c.insert.new.self.items) two ∙ ap (raised_from c.args.space s.to to (suc (suc c.args.i))) e ∙ made

pub returns-then-at-segment-clause-rest : goal.returns-then-at-segment-clause-rest
returns-then-at-segment-clause-rest c =
    let e = rw c.unwrap.ensures at c.insert.ensures.items in
    let two : c.args.i + 2 ≡ suc (suc c.args.i) = omega arith in
    let one : c.args.i + 1 ≡ suc c.args.i = omega arith in
    ap (λ (n : ℕ). drop n c.insert.new.self.items) two ∙ ap (drop (suc (suc c.args.i))) e ∙ raise_gap_rest c.args.space c.args.at c.args.i c.args.list.now.items _ _ c.requires.within ∙ ap (λ (n : ℕ). drop n c.args.list.now.items) (sym one)
