-- What ends before the range stays, and each segment of the range is counted once less.
use Rattle.std.proofs.Common.{◌≡◌, ◌==◌, ℕ, suc, ◌+◌, ◌-◌, ◌<◌, ◌≤◌, Bool, false, List, length, drop, get_or, set, sym, ap, subst, ◌∙◌, arith, refl}
use Rattle.std.specs.List.{remove}
use Rattle.std.proofs.lemmas.List.{get_or_default}
use Rattle.range_claims.specs.Changes.{ended, lowered, lowered_from}
use Rattle.range_claims.specs.Segments.{Ascend}
use Rattle.range_claims.specs.declared.segments.Segment.{Segment}
use Rattle.range_claims.proofs.Basics.{Ascend_lower}
use Rattle.range_claims.proofs.Walks.{ascend_ended, ascend_next, drop_gone, drop_set, set_length, lower_gone, lower_stays, lowered_begin, unequal_one}
use Rattle.range_claims.proofs.segments.lower.Goals as goal

-- what is behind one more ends behind the place too
ascend_on : (from i : ℕ) (segments : List Segment) (s : Segment) → Ascend from (drop i segments) → i < length segments → s ≡ get_or segments i s → Ascend from (drop (suc i) segments)
ascend_on from i segments s a below e =
    let parts = ascend_next from i segments s a below e in
    let one : i + 1 ≡ suc i = omega arith in
    subst (λ (n : ℕ). Ascend from (drop n segments)) one (Ascend_lower s.to from (drop (i + 1) segments) (omega (arith, parts.0.low, parts.0.some)) parts.1)

-- where the segment was read twice
gone_read : (from to i : ℕ) (segments : List Segment) (s t : Segment) → i < length segments → s ≡ get_or segments i s → t ≡ get_or segments i t → Ascend from (drop i segments) → s.from < to → t.count ≡ 1
    → lowered_from from to i (remove segments i) ≡ lowered_from from to i segments
gone_read from to i segments s t below e f a g one =
    let as_t : t ≡ s = f ∙ get_or_default segments i t s below ∙ sym e in
    lower_gone from to i segments s below e a g (subst (λ (y : Segment). y.count ≡ 1) as_t one)

stays_read : (from to i : ℕ) (segments : List Segment) (s t u : Segment) → i < length segments → s ≡ get_or segments i s → t ≡ get_or segments i t → u ≡ get_or segments i u → Ascend from (drop i segments) → s.from < to → (t.count ≡ 1 → ⊥)
    → lowered_from from to (i + 1) (set segments i (record u { count = u.count - 1 })) ≡ lowered_from from to i segments
stays_read from to i segments s t u below e f g a within more =
    let as_t : t ≡ s = f ∙ get_or_default segments i t s below ∙ sym e in
    let as_u : u ≡ s = g ∙ get_or_default segments i u s below ∙ sym e in
    let one : i + 1 ≡ suc i = omega arith in
    let made = lower_stays from to i segments s below e a within (unequal_one s.count (subst (λ (y : Segment). y.count ≡ 1 → ⊥) as_t more)) in
    ap (λ (n : ℕ). lowered_from from to n (set segments i (record u { count = u.count - 1 }))) one
    ∙ subst (λ (y : Segment). lowered_from from to (suc i) (set segments i (record y { count = y.count - 1 })) ≡ lowered_from from to i segments) (sym as_u) made

pub loop-i-init : goal.loop-i-init
loop-i-init c =
    let first = c.first_behind-i.ensures.value ∙ ap (ended c.args.from) c.as_slice.ensures.value in
    let items = c.args.list.now.items in
    record {
      within = subst (λ (xs : List Segment). c.first_behind-i.result ≤ length xs) c.as_slice.ensures.value c.first_behind-i.ensures.bounded;
      ascend = subst (λ (i : ℕ). Ascend c.args.from (drop i items)) (sym first) (ascend_ended 0 c.args.from items c.requires.ascend c.requires.begin);
      done = ap (λ (i : ℕ). lowered_from c.args.from c.args.to i items) first ∙ lowered_begin c.args.from c.args.to items;
      capacity = refl;
    }

pub loop-i-preserved-then-index-eq1 : goal.loop-i-preserved-then-index-eq1
loop-i-preserved-then-index-eq1 c =
    let items = c.loop-i.list.items in
    let i = c.loop-i.i in
    record {
      within = omega (arith, c.remove.ensures.len, c.loop-i-test.true, c.len.ensures);
      ascend = subst (Ascend c.args.from) (sym (ap (drop i) c.remove.ensures.items ∙ drop_gone i items)) (ascend_on c.args.from i items _ c.loop-i.invariant.ascend (omega (arith, c.loop-i-test.true)) c.index.ensures);
      done = ap (lowered_from c.args.from c.args.to i) c.remove.ensures.items
          ∙ gone_read c.args.from c.args.to i items _ _ (omega (arith, c.loop-i-test.true)) c.index.ensures c.index-in-loop-i.ensures c.loop-i.invariant.ascend c.if-index-to.true c.if-index-eq1.true
          ∙ c.loop-i.invariant.done;
      capacity = c.remove.ensures.capacity ∙ c.loop-i.invariant.capacity;
    }

pub loop-i-preserved : goal.loop-i-preserved
loop-i-preserved c =
    let items = c.loop-i.list.items in
    let i = c.loop-i.i in
    let one : i + 1 ≡ suc i = omega arith in
    record {
      within = omega (arith, set_length i items (record c.index_mut.result.now { count = c.index_mut.result.now.count - 1 }), c.loop-i-test.true);
      ascend = subst (Ascend c.args.from) (sym (ap (λ (n : ℕ). drop n (set items i (record c.index_mut.result.now { count = c.index_mut.result.now.count - 1 }))) one ∙ drop_set i items (record c.index_mut.result.now { count = c.index_mut.result.now.count - 1 }))) (ascend_on c.args.from i items _ c.loop-i.invariant.ascend (omega (arith, c.loop-i-test.true)) c.index.ensures);
      done = stays_read c.args.from c.args.to i items _ _ _ (omega (arith, c.loop-i-test.true)) c.index.ensures c.index-in-loop-i.ensures c.index_mut.ensures.value c.loop-i.invariant.ascend c.if-index-to.true c.if-index-eq1.false
          ∙ c.loop-i.invariant.done;
      capacity = c.loop-i.invariant.capacity;
    }
