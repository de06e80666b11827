-- Whether a byte of a range is counted, at the first segment that ends behind the range's first byte.
use Rattle.std.proofs.Common.{◌≡◌, ℕ, zero, suc, ◌+◌, ◌<◌, ◌≤◌, nat_le, nat_lt, Bool, true, false, ◌&&◌, ◌||◌, List, [], ◌∷◌, length, get_or, arith, refl, sym, subst, ap, ◌∙◌}
use Rattle.range_claims.specs.Changes.{ended}
use Rattle.range_claims.specs.Counts.{any_between}
use Rattle.range_claims.specs.Segments.{Ascend, IsFrom}
use Rattle.range_claims.specs.declared.segments.Segment.{Segment}
use Rattle.range_claims.proofs.Basics.{false_lt, le_false, le_true, lt_false, true_lt}
use Rattle.range_claims.proofs.Splits.{none_passes, one_passes}

both_false : (b r : Bool) → ((b && false) || r) ≡ r
both_false true r = refl
both_false false r = refl

pub none_after : (from to low : ℕ) (segments : List Segment) → Ascend low segments → to ≤ low → any_between segments from to ≡ false
none_after from to low [] a h = refl
none_after from to low (s ∷ segments) (here, rest) h =
    let e = false_lt s.from to (omega (arith, here.low)) in
    rw e (none_after from to s.to segments rest (omega (arith, here.low, here.some)))

pub any_first : (from to i low : ℕ) (segments : List Segment) (s : Segment) → Ascend low segments → i ≡ ended from segments → i < length segments → s ≡ get_or segments i s
    → nat_lt s.from to ≡ any_between segments from to
any_first from to i low [] s a e below is = absurd (omega arith)
any_first from to zero low (x ∷ segments) s (here, rest) e below is =
    let behind = none_passes (nat_le x.to from) (ended from segments) e in
    let t = true_lt from x.to (le_false x.to from behind) in
    subst (λ (y : Segment). nat_lt y.from to ≡ any_between (x ∷ segments) from to) (sym is) (rw t (by (nat_lt x.from to) refl))
  where
    by : (b : Bool) → nat_lt x.from to ≡ b → b ≡ ((b && true) || any_between segments from to)
    by true e = refl
    by false e = sym (none_after from to x.to segments rest (omega (arith, lt_false x.from to e, here.some)))
any_first from to (suc i) low (x ∷ segments) s (here, rest) e below is =
    let parts = one_passes (nat_le x.to from) i (ended from segments) e in
    let f = false_lt from x.to (le_true x.to from parts.0) in
    rw f (any_first from to i x.to segments s rest parts.1 (omega arith) is ∙ sym (both_false (nat_lt x.from to) (any_between segments from to)))

pub any_none : (from to i : ℕ) (segments : List Segment) → i ≡ ended from segments → length segments ≤ i → any_between segments from to ≡ false
any_none from to i [] e h = refl
any_none from to zero (x ∷ segments) e h = absurd (omega arith)
any_none from to (suc i) (x ∷ segments) e h =
    let parts = one_passes (nat_le x.to from) i (ended from segments) e in
    let f = false_lt from x.to (le_true x.to from parts.0) in
    rw f (both_false (nat_lt x.from to) (any_between segments from to) ∙ any_none from to i segments parts.1 (omega arith))
