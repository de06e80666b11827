-- Segments that are raised and lowered one after the other.
use Rattle.std.proofs.Common.{◌≡◌, ℕ, zero, suc, ◌+◌, ◌-◌, ◌^◌, ◌<◌, ◌≤◌, nat_le, nat_lt, ◌==◌, Bool, true, false, if◌then◌else◌, List, [], ◌∷◌, ◌++◌, length, take, drop, get_or, set, arith, refl, sym, subst, ap, ◌∙◌, cond, inl, inr, ◌⊎◌, ⊎_elim}
use Rattle.std.specs.List.{insert, prefix_len, remove}
use Rattle.std.proofs.lemmas.List.{drop_more, get_or_default}
use Rattle.cp_base.specs.declared.region.SpaceId.{SpaceId}
use Rattle.range_claims.specs.Changes.{ended, lowered, lowered_from, new_between, raised, raised_from}
use Rattle.range_claims.specs.Segments.{AreSmall, Ascend, IsCut, IsFrom}
use Rattle.range_claims.specs.declared.segments.Segment.{Segment}
use Rattle.range_claims.proofs.Basics.{Ascend_lower, chosen, eq_true, false_le, false_lt, le_false, le_true, lt_false, lt_true, true_le, true_lt}
use Rattle.range_claims.proofs.Raises.{once}

-- from the first segment that ends behind a place on, which does not have it inside
pub ascend_ended : (low place : ℕ) (segments : List Segment) → Ascend low segments → IsCut place segments → Ascend place (drop (ended place segments) segments)
ascend_ended low place [] a c = tt
ascend_ended low place (s ∷ segments) (here, rest) (first, others) =
    by (nat_le s.to place) (ended place segments) refl (ascend_ended s.to place segments rest others)
  where
    by : (b : Bool) (n : ℕ) → nat_le s.to place ≡ b → Ascend place (drop n segments) → Ascend place (drop (cond b (1 + n) 0) (s ∷ segments))
    by true n e done = let one : 1 + n ≡ suc n = omega arith in subst (λ (m : ℕ). Ascend place (drop m (s ∷ segments))) (sym one) done
    by false n e done = (record { low = ⊎_elim (λ (p : s.to ≤ place). absurd (omega (arith, le_false s.to place e))) (λ (q : place ≤ s.from). q) first; some = here.some; counted = here.counted; first = here.first; last = here.last }, rest)

pub cut_drop : (place i : ℕ) (segments : List Segment) → IsCut place segments → IsCut place (drop i segments)
cut_drop place zero segments c = c
cut_drop place (suc i) [] c = tt
cut_drop place (suc i) (s ∷ segments) (first, others) = cut_drop place i segments others

pub small_drop : (i : ℕ) (segments : List Segment) → AreSmall segments → AreSmall (drop i segments)
small_drop zero segments c = c
small_drop (suc i) [] c = tt
small_drop (suc i) (s ∷ segments) (first, others) = small_drop i segments others

-- what is left behind one more
pub ascend_next : (low i : ℕ) (segments : List Segment) (s : Segment) → Ascend low (drop i segments) → i < length segments → s ≡ get_or segments i s → IsFrom low s × Ascend s.to (drop (i + 1) segments)
ascend_next low i segments s a below e =
    let split : drop i segments ≡ s ∷ drop (i + 1) segments = drop_more segments i s below ∙ ap (λ (x : Segment). x ∷ drop (i + 1) segments) (sym e) in
    subst (Ascend low) split a

pub cut_next : (place i : ℕ) (segments : List Segment) (s : Segment) → IsCut place (drop i segments) → i < length segments → s ≡ get_or segments i s → ((s.to ≤ place) ⊎ (place ≤ s.from)) × IsCut place (drop (i + 1) segments)
cut_next place i segments s a below e =
    let split : drop i segments ≡ s ∷ drop (i + 1) segments = drop_more segments i s below ∙ ap (λ (x : Segment). x ∷ drop (i + 1) segments) (sym e) in
    subst (IsCut place) split a

pub small_next : (i : ℕ) (segments : List Segment) (s : Segment) → AreSmall (drop i segments) → i < length segments → s ≡ get_or segments i s → (s.count + 1 < 2 ^ 64) × AreSmall (drop (i + 1) segments)
small_next i segments s a below e =
    let split : drop i segments ≡ s ∷ drop (i + 1) segments = drop_more segments i s below ∙ ap (λ (x : Segment). x ∷ drop (i + 1) segments) (sym e) in
    subst AreSmall split a

-- segments that end before the range stay
pub raised_begin : (space : SpaceId) (from to : ℕ) (segments : List Segment) → raised_from space from to (ended from segments) segments ≡ raised space from to segments
raised_begin space from to [] = refl
raised_begin space from to (s ∷ segments) =
    by (nat_le s.to from) (ended from segments) refl (ap (λ (others : List Segment). s ∷ others) (raised_begin space from to segments))
  where
    by : (b : Bool) (n : ℕ) → nat_le s.to from ≡ b → s ∷ raised_from space from to n segments ≡ s ∷ raised space from to segments
        → raised_from space from to (cond b (1 + n) 0) (s ∷ segments) ≡ raised space from to (s ∷ segments)
    by true n e done = let one : 1 + n ≡ suc n = omega arith in ap (λ (m : ℕ). raised_from space from to m (s ∷ segments)) one ∙ (rw e done)
    by false n e done = refl

pub lowered_begin : (from to : ℕ) (segments : List Segment) → lowered_from from to (ended from segments) segments ≡ lowered from to segments
lowered_begin from to [] = refl
lowered_begin from to (s ∷ segments) =
    by (nat_le s.to from) (ended from segments) refl (ap (λ (others : List Segment). s ∷ others) (lowered_begin from to segments))
  where
    by : (b : Bool) (n : ℕ) → nat_le s.to from ≡ b → s ∷ lowered_from from to n segments ≡ s ∷ lowered from to segments
        → lowered_from from to (cond b (1 + n) 0) (s ∷ segments) ≡ lowered from to (s ∷ segments)
    by true n e done = let one : 1 + n ≡ suc n = omega arith in ap (λ (m : ℕ). lowered_from from to m (s ∷ segments)) one ∙ (rw e done)
    by false n e done = refl

-- a first segment that the range has
raised_first : (space : SpaceId) (at to : ℕ) (s : Segment) (segments : List Segment) → at < s.to → s.from < to
    → raised space at to (s ∷ segments) ≡ new_between space at s.from ++ record s { count = s.count + 1 } ∷ raised space s.to to segments
raised_first space at to s segments h g = let e = false_le s.to at h in let f = false_le to s.from g in rw (e, f) refl

some_between : (space : SpaceId) (from to : ℕ) → from < to → new_between space from to ≡ once space from to ∷ []
some_between space from to h = let e = true_lt from to h in rw e refl

none_between : (space : SpaceId) (from to : ℕ) → to ≤ from → new_between space from to ≡ []
none_between space from to h = let e = false_lt from to h in rw e refl

-- new bytes before the first segment that the range has
pub raise_gap : (space : SpaceId) (at to i : ℕ) (segments : List Segment) (s : Segment) → i < length segments → s ≡ get_or segments i s → at < s.from → s.from < s.to → s.from < to
    → raised_from space s.to to (suc (suc i)) (insert (set segments i (record s { count = s.count + 1 })) i (once space at s.from)) ≡ raised_from space at to i segments
raise_gap space at to i [] s below e h some g = absurd (omega arith)
raise_gap space at to zero (x ∷ segments) s below e h some g =
    let first = raised_first space at to s segments (omega arith) g in
    let new = some_between space at s.from h in
    let Behind : List Segment = record s { count = s.count + 1 } ∷ raised space s.to to segments in
    sym (ap (λ (y : Segment). raised space at to (y ∷ segments)) (sym e) ∙ first ∙ ap (λ (some : List Segment). some ++ Behind) new)
raise_gap space at to (suc i) (x ∷ segments) s below e h some g = ap (λ (others : List Segment). x ∷ others) (raise_gap space at to i segments s (omega arith) e h some g)

pub raise_gap_rest : (space : SpaceId) (at i : ℕ) (segments : List Segment) (s y : Segment) → i < length segments
    → drop (suc (suc i)) (insert (set segments i s) i y) ≡ drop (suc i) segments
raise_gap_rest space at i [] s y below = absurd (omega arith)
raise_gap_rest space at zero (x ∷ segments) s y below = refl
raise_gap_rest space at (suc i) (x ∷ segments) s y below = raise_gap_rest space at i segments s y (omega arith)

-- new bytes at the end of the range
pub raise_last : (space : SpaceId) (at to i : ℕ) (segments : List Segment) → i ≤ length segments → at < to → Ascend at (drop i segments)
    → ((d : Segment) → i < length segments → to ≤ (get_or segments i d).from) → insert segments i (once space at to) ≡ raised_from space at to i segments
raise_last space at to zero [] below h a behind = sym (some_between space at to h)
raise_last space at to (suc i) [] below h a behind = absurd (omega arith)
raise_last space at to zero (x ∷ segments) below h (here, rest) behind =
    let e = false_le x.to at (omega (arith, here.low, here.some)) in let f = true_le to x.from (behind x (omega arith)) in let g = true_lt at to h in rw (e, f, g) refl
raise_last space at to (suc i) (x ∷ segments) below h a behind =
    ap (λ (others : List Segment). x ∷ others) (raise_last space at to i segments (omega arith) h a (λ d l. behind d (omega arith)))

pub raise_no_more : (space : SpaceId) (at to i : ℕ) (segments : List Segment) → i ≤ length segments → to ≤ at → Ascend at (drop i segments) → segments ≡ raised_from space at to i segments
raise_no_more space at to zero [] below h a = sym (none_between space at to h)
raise_no_more space at to (suc i) [] below h a = absurd (omega arith)
raise_no_more space at to zero (x ∷ segments) below h (here, rest) =
    let e = false_le x.to at (omega (arith, here.low, here.some)) in let f = true_le to x.from (omega (arith, here.low)) in let g = false_lt at to h in rw (e, f, g) refl
raise_no_more space at to (suc i) (x ∷ segments) below h a = ap (λ (others : List Segment). x ∷ others) (raise_no_more space at to i segments (omega arith) h a)

-- what is behind both places is lowered from either
pub lowered_low : (low from other to : ℕ) (segments : List Segment) → Ascend low segments → from ≤ low → other ≤ low → lowered from to segments ≡ lowered other to segments
lowered_low low from other to [] a h g = refl
lowered_low low from other to (s ∷ segments) (here, rest) h g =
    let e = false_le s.to from (omega (arith, here.low, here.some)) in let f = false_le s.to other (omega (arith, here.low, here.some)) in rw (e, f) refl

lowered_one : (from to : ℕ) (s : Segment) (segments : List Segment) → IsFrom from s → Ascend s.to segments → s.from < to → s.count ≡ 1 → lowered from to segments ≡ lowered from to (s ∷ segments)
lowered_one from to s segments here rest g one =
    let e = false_le s.to from (omega (arith, here.low, here.some)) in let f = false_le to s.from g in let k : (s.count == 1) ≡ true = rw one refl in
    let low = lowered_low s.to from s.to to segments rest (omega (arith, here.low, here.some)) (omega arith) in rw (e, f, k) low

pub unequal_one : (n : ℕ) → (n ≡ 1 → ⊥) → (n == 1) ≡ false
unequal_one n h = by (n == 1) refl
  where
    by : (b : Bool) → (n == 1) ≡ b → b ≡ false
    by true e = absurd (h (eq_true n 1 e))
    by false e = refl

lowered_more : (from to : ℕ) (s : Segment) (segments : List Segment) → IsFrom from s → Ascend s.to segments → s.from < to → (s.count == 1) ≡ false
    → record s { count = s.count - 1 } ∷ lowered from to segments ≡ lowered from to (s ∷ segments)
lowered_more from to s segments here rest g k =
    let e = false_le s.to from (omega (arith, here.low, here.some)) in let f = false_le to s.from g in
    let low = lowered_low s.to from s.to to segments rest (omega (arith, here.low, here.some)) (omega arith) in
    rw (e, f, k) (ap (λ (others : List Segment). record s { count = s.count - 1 } ∷ others) low)

-- a segment that is counted once goes
pub lower_gone : (from to i : ℕ) (segments : List Segment) (s : Segment) → i < length segments → s ≡ get_or segments i s → Ascend from (drop i segments) → s.from < to → s.count ≡ 1
    → lowered_from from to i (remove segments i) ≡ lowered_from from to i segments
lower_gone from to i [] s below e a g one = absurd (omega arith)
lower_gone from to zero (x ∷ segments) s below e a g one =
    let parts = ascend_next from 0 (x ∷ segments) s a below e in
    lowered_one from to s segments parts.0 parts.1 g one ∙ ap (λ (y : Segment). lowered from to (y ∷ segments)) e
lower_gone from to (suc i) (x ∷ segments) s below e a g one = ap (λ (others : List Segment). x ∷ others) (lower_gone from to i segments s (omega arith) e a g one)

pub drop_gone : {X : Type 0} (i : ℕ) (xs : List X) → drop i (remove xs i) ≡ drop (suc i) xs
drop_gone zero [] = refl
drop_gone (suc i) [] = refl
drop_gone zero (x ∷ xs) = refl
drop_gone (suc i) (x ∷ xs) = drop_gone i xs

-- one that is counted more often stays
pub lower_stays : (from to i : ℕ) (segments : List Segment) (s : Segment) → i < length segments → s ≡ get_or segments i s → Ascend from (drop i segments) → s.from < to → (s.count == 1) ≡ false
    → lowered_from from to (suc i) (set segments i (record s { count = s.count - 1 })) ≡ lowered_from from to i segments
lower_stays from to i [] s below e a g more = absurd (omega arith)
lower_stays from to zero (x ∷ segments) s below e a g more =
    let parts = ascend_next from 0 (x ∷ segments) s a below e in
    lowered_more from to s segments parts.0 parts.1 g more ∙ ap (λ (y : Segment). lowered from to (y ∷ segments)) e
lower_stays from to (suc i) (x ∷ segments) s below e a g more = ap (λ (others : List Segment). x ∷ others) (lower_stays from to i segments s (omega arith) e a g more)

pub set_length : {X : Type 0} (i : ℕ) (xs : List X) (y : X) → length (set xs i y) ≡ length xs
set_length zero [] y = refl
set_length (suc i) [] y = refl
set_length zero (x ∷ xs) y = refl
set_length (suc i) (x ∷ xs) y = omega (arith, set_length i xs y)

pub drop_set : {X : Type 0} (i : ℕ) (xs : List X) (y : X) → drop (suc i) (set xs i y) ≡ drop (suc i) xs
drop_set zero [] y = refl
drop_set (suc i) [] y = refl
drop_set zero (x ∷ xs) y = refl
drop_set (suc i) (x ∷ xs) y = drop_set i xs y

-- no segment is left that the range has
pub lower_no_more : (from to i : ℕ) (segments : List Segment) → Ascend from (drop i segments) → ((d : Segment) → i < length segments → to ≤ (get_or segments i d).from)
    → segments ≡ lowered_from from to i segments
lower_no_more from to zero [] a h = refl
lower_no_more from to (suc i) [] a h = refl
lower_no_more from to zero (x ∷ segments) (here, rest) h =
    let e = false_le x.to from (omega (arith, here.low, here.some)) in let f = true_le to x.from (h x (omega arith)) in rw (e, f) refl
lower_no_more from to (suc i) (x ∷ segments) a h = ap (λ (others : List Segment). x ∷ others) (lower_no_more from to i segments a (λ d l. h d (omega arith)))
