-- Segments after a range was taken away, and segments that are joined.
use Rattle.std.proofs.Common.{◌≡◌, ◌≢◌, ◌==◌, ℕ, suc, zero, ◌+◌, ◌-◌, ◌*◌, ◌<◌, ◌≤◌, nat_le, nat_lt, true, false, Bool, ◌&&◌, if◌then◌else◌, List, [], ◌∷◌, ◌++◌, length, arith, refl, subst, sym, ◌∙◌, inl, inr, ◌⊎◌, ⊎_elim}
use Rattle.std.proofs.lemmas.Bool.{cases_lt}
use Rattle.std.proofs.lemmas.Bool.Decides.{nat_tests}
use Rattle.cp_base.specs.declared.limits.TheConstants.{MAX_NAMESPACE}
use Rattle.range_claims.specs.Changes.{joined_at, joined_after, lowered}
use Rattle.range_claims.specs.Counts.{AreCounted, count_at, held_at}
use Rattle.range_claims.specs.Places.{base_of}
use Rattle.range_claims.specs.Segments.{Ascend, Differ, IsCut, IsFrom, MeetsNextAt, Nowhere}
use Rattle.range_claims.specs.declared.segments.Segment.{Segment}
use Rattle.range_claims.proofs.Basics.{Ascend_lower, chosen, count_before, eq_true, held_before, held_behind, held_inside, held_since, le_false, le_true, lt_false, lt_true, since, since_one, since_zero}
use Rattle.range_claims.proofs.Cuts.{Differ_more, Follows_more, cut_before, follows_gap, follows_same}

-- a first segment that ends before the range counts none of its bytes
counted_behind : (from to : ℕ) (s : Segment) (segments : List Segment) → s.to ≤ from → AreCounted from to (s ∷ segments) → AreCounted from to segments
counted_behind from to s segments h c = λ x g l. omega (arith, c x g l, held_behind s x (omega arith))

-- a range whose bytes are counted begins where the first segment does that has some of it
counted_first : (from to : ℕ) (s : Segment) (segments : List Segment) → from ≤ s.from → from < to → Ascend s.to segments → s.from < s.to → AreCounted from to (s ∷ segments) → from ≡ s.from
counted_first from to s segments h l a some c =
    ⊎_elim (λ (before : from < s.from).
    let one = held_before s from before in let others = count_before s.to segments from a (omega arith) in absurd (omega (arith, c from (omega arith) l, one, others)))
    (λ (same : s.from ≤ from). omega arith) (cases_lt from s.from)

pub lower_count : (low from to : ℕ) (segments : List Segment) (x : ℕ) → from ≤ to → Ascend low segments → IsCut from segments → IsCut to segments → AreCounted from to segments
    → count_at (lowered from to segments) x + since x from ≡ count_at segments x + since x to
lower_count low from to [] x h a f t c =
    ⊎_elim (λ (l : from < to). absurd (omega (arith, c from (omega arith) l))) (λ (g : to ≤ from). let same : from ≡ to = omega arith in rw same refl) (cases_lt from to)
lower_count low from to (s ∷ segments) x h (here, rest) (f, fs) (t, ts) c =
    let P : List Segment → Type 0 = λ made. count_at made x + since x from ≡ held_at s x + count_at segments x + since x to in
    chosen P (nat_le s.to from) (s ∷ lowered from to segments) _
    (λ b. omega (arith, lower_count s.to from to segments x h rest fs ts (counted_behind from to s segments (le_true s.to from b) c)))
    (λ n. let after = le_false s.to from n in
    let begins : from ≤ s.from = ⊎_elim (λ (p : s.to ≤ from). absurd (omega arith)) (λ (q : from ≤ s.from). q) f in
    chosen P (nat_le to s.from) (s ∷ segments) _
    (λ e. let before = le_true to s.from e in
    ⊎_elim (λ (l : from < to). let same = counted_first from to s segments begins l rest here.some c in absurd (omega arith))
    (λ (g : to ≤ from). let same : from ≡ to = omega arith in rw same refl) (cases_lt from to))
    (λ m. let before = le_false to s.from m in
    let ends : s.to ≤ to = ⊎_elim (λ (p : s.to ≤ to). p) (λ (q : to ≤ s.from). absurd (omega arith)) t in
    let same : from ≡ s.from = counted_first from to s segments begins (omega arith) rest here.some c in
    let behind : AreCounted s.to to segments = λ y g l. omega (arith, c y (omega (arith, here.some)) l, held_behind s y g) in
    let others = lower_count s.to s.to to segments x ends rest (cut_before s.to s.to segments (omega arith) rest) ts behind in
    let old = held_since s x (omega (arith, here.some)) in
    chosen P (s.count == 1) (lowered s.to to segments) (record s { count = s.count - 1 } ∷ lowered s.to to segments)
    (λ k. let one = eq_true s.count 1 k in by_one s x from (count_at (lowered s.to to segments) x) (count_at segments x) (since x to) one same old others)
    (λ _. let new = held_since (record s { count = s.count - 1 }) x (omega (arith, here.some)) in
    by_more s x from (count_at (lowered s.to to segments) x) (count_at segments x) (since x to) here.counted same old new others)))
  where
    times_one : (n k : ℕ) → n ≡ 1 → n * k ≡ k
    times_one n k e = rw e (omega arith)

    times_less : (n m k : ℕ) → n ≡ m + 1 → n * k ≡ m * k + k
    times_less n m k e = rw e (omega arith)

    by_one : (s : Segment) (x from more less end : ℕ) → s.count ≡ 1 → from ≡ s.from → held_at s x + s.count * since x s.to ≡ s.count * since x s.from
        → more + since x s.to ≡ less + end → more + since x from ≡ held_at s x + less + end
    by_one s x from more less end one same old others =
        let left : s.count * since x s.to ≡ since x s.to = times_one s.count (since x s.to) one in
        let right : s.count * since x s.from ≡ since x s.from = times_one s.count (since x s.from) one in
        rw same (omega arith)

    by_more : (s : Segment) (x from more less end : ℕ) → 0 < s.count → from ≡ s.from → held_at s x + s.count * since x s.to ≡ s.count * since x s.from
        → held_at (record s { count = s.count - 1 }) x + (s.count - 1) * since x s.to ≡ (s.count - 1) * since x s.from
        → more + since x s.to ≡ less + end → held_at (record s { count = s.count - 1 }) x + more + since x from ≡ held_at s x + less + end
    by_more s x from more less end some same old new others =
        let count : s.count ≡ (s.count - 1) + 1 = omega arith in
        let k : ℕ = s.count - 1 in
        let left : s.count * since x s.to ≡ k * since x s.to + since x s.to = times_less s.count k (since x s.to) count in
        let right : s.count * since x s.from ≡ k * since x s.from + since x s.from = times_less s.count k (since x s.from) count in
        rw same (omega arith)

pub lower_ascend : (low from to : ℕ) (segments : List Segment) → Ascend low segments → Ascend low (lowered from to segments)
lower_ascend low from to [] a = tt
lower_ascend low from to (s ∷ segments) (here, rest) =
    let Fewer : List Segment = record s { count = s.count - 1 } ∷ lowered s.to to segments in
    chosen (Ascend low) (nat_le s.to from) (s ∷ lowered from to segments) _ (λ _. (here, lower_ascend s.to from to segments rest))
    (λ _. chosen (Ascend low) (nat_le to s.from) (s ∷ segments) _ (λ _. (here, rest))
    (λ _. chosen (Ascend low) (s.count == 1) (lowered s.to to segments) Fewer
    (λ _. Ascend_lower s.to low (lowered s.to to segments) (omega (arith, here.low, here.some)) (lower_ascend s.to s.to to segments rest))
    (λ k. let more : 1 < s.count = above s.count here.counted k in
    (record { low = here.low; some = here.some; counted = omega arith; first = here.first; last = here.last }, lower_ascend s.to s.to to segments rest))))
  where
    above : (n : ℕ) → 0 < n → (n == 1) ≡ false → 1 < n
    above n h k = grind (arith, nat_tests)

-- a segment before the range, and what is behind it now
follows_lowered : (P : ℕ → Type 0) (s : Segment) (from to : ℕ) (segments : List Segment) → P from → s.to ≤ from → IsCut from segments → Ascend s.to segments
    → MeetsNextAt P s segments → MeetsNextAt P s (lowered from to segments)
follows_lowered P s from to [] there h f a old = tt
follows_lowered P s from to (t ∷ segments) there h (f, fs) (here, rest) old =
    let Fewer : List Segment = record t { count = t.count - 1 } ∷ lowered t.to to segments in
    chosen (MeetsNextAt P s) (nat_le t.to from) (t ∷ lowered from to segments) _ (λ _. old)
    (λ n. let after = le_false t.to from n in
    let begins : from ≤ t.from = ⊎_elim (λ (p : t.to ≤ from). absurd (omega arith)) (λ (q : from ≤ t.from). q) f in
    chosen (MeetsNextAt P s) (nat_le to t.from) (t ∷ segments) _ (λ _. old)
    (λ _. chosen (MeetsNextAt P s) (t.count == 1) (lowered t.to to segments) Fewer
    (λ _. follows_gap P s t.to (lowered t.to to segments) (omega (arith, here.some)) (lower_ascend t.to t.to to segments rest))
    (λ _. λ touch same. let place : from ≡ s.to = omega arith in subst P place there)))

-- a lowered segment, and what is behind it now
follows_fewer : (P : ℕ → Type 0) (s : Segment) (to : ℕ) (segments : List Segment) → P to → s.to ≤ to → 1 < s.count → Ascend s.to segments
    → MeetsNextAt P s segments → MeetsNextAt P (record s { count = s.count - 1 }) (lowered s.to to segments)
follows_fewer P s to [] there h c a old = tt
follows_fewer P s to (t ∷ segments) there h c (here, rest) old =
    let S : Segment = record s { count = s.count - 1 } in
    let Fewer : List Segment = record t { count = t.count - 1 } ∷ lowered t.to to segments in
    chosen (MeetsNextAt P S) (nat_le t.to s.to) (t ∷ lowered s.to to segments) _ (λ b. absurd (omega (arith, le_true t.to s.to b, here.low, here.some)))
    (λ n. chosen (MeetsNextAt P S) (nat_le to t.from) (t ∷ segments) _
    (λ e. λ touch same. let place : to ≡ s.to = omega (arith, le_true to t.from e, touch) in subst P place there)
    (λ _. chosen (MeetsNextAt P S) (t.count == 1) (lowered t.to to segments) Fewer
    (λ _. follows_gap P S t.to (lowered t.to to segments) (omega (arith, here.low, here.some)) (lower_ascend t.to t.to to segments rest))
    (λ k. λ touch same. old touch (omega (arith, same, here.counted)))))

-- from the first segment that the range has on
lower_differ_within : (P : ℕ → Type 0) (low to : ℕ) (s : Segment) (segments : List Segment) → P to → IsCut to (s ∷ segments) → IsFrom low s → Ascend s.to segments → Differ P (s ∷ segments)
    → Differ P (lowered s.to to segments)
    → Differ P (if nat_le to s.from then s ∷ segments else if s.count == 1 then lowered s.to to segments else record s { count = s.count - 1 } ∷ lowered s.to to segments)
lower_differ_within P low to s segments there (t, ts) here rest (first, others) done =
    let Fewer : List Segment = record s { count = s.count - 1 } ∷ lowered s.to to segments in
    chosen (Differ P) (nat_le to s.from) (s ∷ segments) _ (λ _. (first, others))
    (λ m. let before = le_false to s.from m in
    let ends : s.to ≤ to = ⊎_elim (λ (p : s.to ≤ to). p) (λ (q : to ≤ s.from). absurd (omega arith)) t in
    chosen (Differ P) (s.count == 1) (lowered s.to to segments) Fewer (λ _. done)
    (λ k. (follows_fewer P s to segments there ends (above s.count here.counted k) rest first, done)))
  where
    above : (n : ℕ) → 0 < n → (n == 1) ≡ false → 1 < n
    above n h k = grind (arith, nat_tests)

lower_differ_behind : (P : ℕ → Type 0) (from to : ℕ) (segments : List Segment) → P to → IsCut to segments → Ascend from segments → Differ P segments → Differ P (lowered from to segments)
lower_differ_behind P from to [] there t a d = tt
lower_differ_behind P from to (s ∷ segments) there (t, ts) (here, rest) (first, others) =
    let done = lower_differ_behind P s.to to segments there ts rest others in
    chosen (Differ P) (nat_le s.to from) (s ∷ lowered from to segments) _ (λ b. absurd (omega (arith, le_true s.to from b, here.low, here.some)))
    (λ n. lower_differ_within P from to s segments there (t, ts) here rest (first, others) done)

-- neighbours that touch and count the same do so where they did, or at the ends of the range
pub lower_differ : (P : ℕ → Type 0) (low from to : ℕ) (segments : List Segment) → P from → P to → IsCut from segments → IsCut to segments → Ascend low segments → Differ P segments
    → Differ P (lowered from to segments)
lower_differ P low from to [] begin there f t a d = tt
lower_differ P low from to (s ∷ segments) begin there (f, fs) (t, ts) (here, rest) (first, others) =
    let done = lower_differ_behind P s.to to segments there ts rest others in
    chosen (Differ P) (nat_le s.to from) (s ∷ lowered from to segments) _
    (λ b. (follows_lowered P s from to segments begin (le_true s.to from b) fs rest first, lower_differ P s.to from to segments begin there fs ts rest others))
    (λ n. lower_differ_within P low to s segments there (t, ts) here rest (first, others) done)
