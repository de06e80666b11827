-- Segments after a range was added.
use Rattle.std.proofs.Common.{◌≡◌, ◌==◌, ℕ, suc, ◌+◌, ◌-◌, ◌*◌, ◌<◌, ◌≤◌, nat_le, nat_lt, true, false, Bool, if◌then◌else◌, List, [], ◌∷◌, ◌++◌, length, arith, refl, subst, sym, ◌∙◌, inl, inr, ◌⊎◌, ⊎_elim, min}
use Rattle.std.proofs.lemmas.Bool.{cases_lt}
use Rattle.cp_base.specs.declared.limits.TheConstants.{MAX_NAMESPACE}
use Rattle.cp_base.specs.declared.region.SpaceId.{SpaceId}
use Rattle.range_claims.specs.Changes.{new_between, raised}
use Rattle.range_claims.specs.Counts.{count_at, held_at}
use Rattle.range_claims.specs.Places.{base_of}
use Rattle.range_claims.specs.Segments.{Ascend, Differ, IsCut, IsFrom, MeetsNextAt}
use Rattle.range_claims.specs.declared.segments.Segment.{Segment}
use Rattle.range_claims.proofs.Basics.{Ascend_lower, chosen, count_append, held_since, le_false, le_true, lt_false, lt_true, since, since_one, since_zero}
use Rattle.range_claims.proofs.Cuts.{cut_before}

-- bytes that are counted once
abbrev pub once : SpaceId → ℕ → ℕ → Segment
once space from to = record { space = space; from = from; to = to; count = 1 }

-- new bytes are counted once
pub new_count : (space : SpaceId) (from to : ℕ) (x : ℕ) → from ≤ to → count_at (new_between space from to) x + since x to ≡ since x from
new_count space from to x h =
    let P : List Segment → Type 0 = λ made. count_at made x + since x to ≡ since x from in
    let One : List Segment = once space from to ∷ [] in
    chosen P (nat_lt from to) One [] (λ t. omega (arith, held_since (once space from to) x h))
    (λ n. let same : from ≡ to = omega (arith, lt_false from to n) in rw same (omega arith))

-- the bytes of the range are counted once more
pub raise_count : (low : ℕ) (space : SpaceId) (from to : ℕ) (segments : List Segment) (x : ℕ) → from ≤ to → Ascend low segments → IsCut from segments → IsCut to segments
    → count_at (raised space from to segments) x + since x to ≡ count_at segments x + since x from
raise_count low space from to [] x h a f t = omega (arith, new_count space from to x h)
raise_count low space from to (s ∷ segments) x h (here, rest) (f, fs) (t, ts) =
    let P : List Segment → Type 0 = λ made. count_at made x + since x to ≡ held_at s x + count_at segments x + since x from in
    let More : List Segment = record s { count = s.count + 1 } ∷ raised space s.to to segments in
    chosen P (nat_le s.to from) (s ∷ raised space from to segments) _ (λ _. omega (arith, raise_count s.to space from to segments x h rest fs ts))
    (λ n. let after = le_false s.to from n in
    chosen P (nat_le to s.from) (new_between space from to ++ s ∷ segments) _
    (λ _. omega (arith, count_append (new_between space from to) (s ∷ segments) x, new_count space from to x h))
    (λ m. let before = le_false to s.from m in
    let begins : from ≤ s.from = ⊎_elim (λ (p : s.to ≤ from). absurd (omega arith)) (λ (q : from ≤ s.from). q) f in
    let ends : s.to ≤ to = ⊎_elim (λ (p : s.to ≤ to). p) (λ (q : to ≤ s.from). absurd (omega arith)) t in
    let others = raise_count s.to space s.to to segments x ends rest (cut_from s.to segments rest) ts in
    let gap = new_count space from s.from x begins in
    let one = held_since (record s { count = s.count + 1 }) x (omega (arith, here.some)) in
    let old = held_since s x (omega (arith, here.some)) in
    omega (arith, others, gap, one, old, count_append (new_between space from s.from) More x)))
  where
    cut_from : (place : ℕ) (some : List Segment) → Ascend place some → IsCut place some
    cut_from place some b = cut_before place place some (omega arith) b

-- new bytes before segments keep their order
new_ascend : (low : ℕ) (space : SpaceId) (from to : ℕ) (segments : List Segment) → low ≤ from → from ≤ to → base_of space ≤ from → to ≤ base_of space + MAX_NAMESPACE
    → Ascend to segments → Ascend low (new_between space from to ++ segments)
new_ascend low space from to segments l h first last a =
    chosen (λ (made : List Segment). Ascend low (made ++ segments)) (nat_lt from to) (once space from to ∷ []) []
    (λ t. (record { low = l; some = lt_true from to t; counted = omega arith; first = first; last = last }, a))
    (λ n. Ascend_lower to low segments (omega arith) a)

pub raise_ascend : (low : ℕ) (space : SpaceId) (from to : ℕ) (segments : List Segment) → low ≤ from → from ≤ to → base_of space ≤ from → to ≤ base_of space + MAX_NAMESPACE
    → Ascend low segments → IsCut from segments → IsCut to segments → Ascend low (raised space from to segments)
raise_ascend low space from to [] l h first last a f t =
    chosen (Ascend low) (nat_lt from to) (once space from to ∷ []) []
    (λ t. (record { low = l; some = lt_true from to t; counted = omega arith; first = first; last = last }, tt)) (λ n. tt)
raise_ascend low space from to (s ∷ segments) l h first last (here, rest) (f, fs) (t, ts) =
    let More : List Segment = record s { count = s.count + 1 } ∷ raised space s.to to segments in
    chosen (Ascend low) (nat_le s.to from) (s ∷ raised space from to segments) _
    (λ b. (here, raise_ascend s.to space from to segments (le_true s.to from b) h first last rest fs ts))
    (λ n. let after = le_false s.to from n in
    chosen (Ascend low) (nat_le to s.from) (new_between space from to ++ s ∷ segments) _
    (λ e. let before = le_true to s.from e in
    new_ascend low space from to (s ∷ segments) l h first last (record { low = before; some = here.some; counted = here.counted; first = here.first; last = here.last }, rest))
    (λ m. let before = le_false to s.from m in
    let begins : from ≤ s.from = ⊎_elim (λ (p : s.to ≤ from). absurd (omega arith)) (λ (q : from ≤ s.from). q) f in
    let ends : s.to ≤ to = ⊎_elim (λ (p : s.to ≤ to). p) (λ (q : to ≤ s.from). absurd (omega arith)) t in
    let others = raise_ascend s.to space s.to to segments (omega arith) ends (omega (arith, here.some)) last rest (cut_before s.to s.to segments (omega arith) rest) ts in
    new_ascend low space from s.from More l begins first (omega (arith, here.some))
    (record { low = omega arith; some = here.some; counted = omega arith; first = here.first; last = here.last }, others)))

-- new bytes before segments that they may touch
new_differ : (P : ℕ → Type 0) (space : SpaceId) (from to : ℕ) (segments : List Segment) → MeetsNextAt P (once space from to) segments → Differ P segments
    → Differ P (new_between space from to ++ segments)
new_differ P space from to segments f h =
    chosen (λ (made : List Segment). Differ P (made ++ segments)) (nat_lt from to) (once space from to ∷ []) [] (λ _. (f, h)) (λ _. h)

-- a segment before the range, and what is behind it now
follows_raised : (P : ℕ → Type 0) (space : SpaceId) (s : Segment) (from to : ℕ) (segments : List Segment) → P from → s.to ≤ from → IsCut from segments
    → MeetsNextAt P s segments → MeetsNextAt P s (raised space from to segments)
follows_raised P space s from to [] there h f old =
    chosen (MeetsNextAt P s) (nat_lt from to) (once space from to ∷ []) [] (λ _. λ touch same. subst P touch there) (λ _. tt)
follows_raised P space s from to (t ∷ segments) there h (f, fs) old =
    let More : List Segment = record t { count = t.count + 1 } ∷ raised space t.to to segments in
    chosen (MeetsNextAt P s) (nat_le t.to from) (t ∷ raised space from to segments) _ (λ _. old)
    (λ n. let after = le_false t.to from n in
    chosen (MeetsNextAt P s) (nat_le to t.from) (new_between space from to ++ t ∷ segments) _
    (λ _. chosen (λ (made : List Segment). MeetsNextAt P s (made ++ t ∷ segments)) (nat_lt from to) (once space from to ∷ []) [] (λ _. λ touch same. subst P touch there) (λ _. old))
    (λ _. chosen (λ (made : List Segment). MeetsNextAt P s (made ++ More)) (nat_lt from t.from) (once space from t.from ∷ []) [] (λ _. λ touch same. subst P touch there)
    (λ m. λ touch same. let here : from ≡ s.to = ⊎_elim (λ (p : t.to ≤ from). absurd (omega arith)) (λ (q : from ≤ t.from). omega (arith, lt_false from t.from m, touch)) f in subst P here there)))

-- a raised segment, and what is behind it now
follows_within : (P : ℕ → Type 0) (space : SpaceId) (s : Segment) (to : ℕ) (segments : List Segment) → P to → s.to ≤ to → 0 < s.count → Ascend s.to segments
    → MeetsNextAt P s segments → MeetsNextAt P (record s { count = s.count + 1 }) (raised space s.to to segments)
follows_within P space s to [] there h c a old =
    chosen (MeetsNextAt P (record s { count = s.count + 1 })) (nat_lt s.to to) (once space s.to to ∷ []) [] (λ _. λ touch same. absurd (omega (arith, same))) (λ _. tt)
follows_within P space s to (t ∷ segments) there h c (here, rest) old =
    let S : Segment = record s { count = s.count + 1 } in
    let More : List Segment = record t { count = t.count + 1 } ∷ raised space t.to to segments in
    chosen (MeetsNextAt P S) (nat_le t.to s.to) (t ∷ raised space s.to to segments) _ (λ b. absurd (omega (arith, le_true t.to s.to b, here.low, here.some)))
    (λ n. chosen (MeetsNextAt P S) (nat_le to t.from) (new_between space s.to to ++ t ∷ segments) _
    (λ _. chosen (λ (made : List Segment). MeetsNextAt P S (made ++ t ∷ segments)) (nat_lt s.to to) (once space s.to to ∷ []) [] (λ _. λ touch same. absurd (omega (arith, same)))
    (λ m. λ touch same. let at_end : to ≡ s.to = omega (arith, lt_false s.to to m) in subst P at_end there))
    (λ _. chosen (λ (made : List Segment). MeetsNextAt P S (made ++ More)) (nat_lt s.to t.from) (once space s.to t.from ∷ []) [] (λ _. λ touch same. absurd (omega (arith, same)))
    (λ _. λ touch same. old touch (omega (arith, same)))))

-- new bytes, and the raised segment behind them
follows_new : (P : ℕ → Type 0) (space : SpaceId) (from : ℕ) (s : Segment) (segments : List Segment) → 0 < s.count → MeetsNextAt P (once space from s.from) (record s { count = s.count + 1 } ∷ segments)
follows_new P space from s segments c = λ touch same. absurd (omega (arith, same))

-- from the first segment that the range has on
raise_differ_within : (P : ℕ → Type 0) (low : ℕ) (space : SpaceId) (from to : ℕ) (s : Segment) (segments : List Segment) → P to → IsCut to (s ∷ segments) → IsFrom low s → Ascend s.to segments → Differ P (s ∷ segments)
    → Differ P (raised space s.to to segments)
    → Differ P (if nat_le to s.from then new_between space from to ++ s ∷ segments else new_between space from s.from ++ record s { count = s.count + 1 } ∷ raised space s.to to segments)
raise_differ_within P low space from to s segments there (t, ts) here rest (first, others) done =
    let More : List Segment = record s { count = s.count + 1 } ∷ raised space s.to to segments in
    chosen (Differ P) (nat_le to s.from) (new_between space from to ++ s ∷ segments) _
    (λ e. new_differ P space from to (s ∷ segments) (λ touch same. there) (first, others))
    (λ m. let before = le_false to s.from m in
    let ends : s.to ≤ to = ⊎_elim (λ (p : s.to ≤ to). p) (λ (q : to ≤ s.from). absurd (omega arith)) t in
    new_differ P space from s.from More (follows_new P space from s (raised space s.to to segments) here.counted)
    (follows_within P space s to segments there ends here.counted rest first, done))

raise_differ_behind : (P : ℕ → Type 0) (space : SpaceId) (from to : ℕ) (segments : List Segment) → P to → IsCut to segments → Ascend from segments → Differ P segments → Differ P (raised space from to segments)
raise_differ_behind P space from to [] there t a d = new_alone P space from to
  where
    new_alone : (P : ℕ → Type 0) (space : SpaceId) (from to : ℕ) → Differ P (new_between space from to)
    new_alone P space from to = chosen (Differ P) (nat_lt from to) (once space from to ∷ []) [] (λ _. (tt, tt)) (λ _. tt)
raise_differ_behind P space from to (s ∷ segments) there (t, ts) (here, rest) (first, others) =
    let done = raise_differ_behind P space s.to to segments there ts rest others in
    chosen (Differ P) (nat_le s.to from) (s ∷ raised space from to segments) _ (λ b. absurd (omega (arith, le_true s.to from b, here.low, here.some)))
    (λ n. raise_differ_within P from space from to s segments there (t, ts) here rest (first, others) done)

-- neighbours that touch and count the same do so where they did, or at the ends of the range
pub raise_differ : (P : ℕ → Type 0) (low : ℕ) (space : SpaceId) (from to : ℕ) (segments : List Segment) → P from → P to → IsCut from segments → IsCut to segments → Ascend low segments → Differ P segments
    → Differ P (raised space from to segments)
raise_differ P low space from to [] begin there f t a d = chosen (Differ P) (nat_lt from to) (once space from to ∷ []) [] (λ _. (tt, tt)) (λ _. tt)
raise_differ P low space from to (s ∷ segments) begin there (f, fs) (t, ts) (here, rest) (first, others) =
    let done = raise_differ_behind P space s.to to segments there ts rest others in
    chosen (Differ P) (nat_le s.to from) (s ∷ raised space from to segments) _
    (λ b. (follows_raised P space s from to segments begin (le_true s.to from b) fs first, raise_differ P s.to space from to segments begin there fs ts rest others))
    (λ n. raise_differ_within P low space from to s segments there (t, ts) here rest (first, others) done)
