-- Segments that are as few as can be, with one range more or less.
use Rattle.std.proofs.Common.{◌≡◌, ◌≢◌, ℕ, ◌+◌, ◌*◌, ◌^◌, ◌<◌, ◌≤◌, List, [], ◌∷◌, length, ap, arith, refl, sym, ◌∙◌, inl, inr, ◌⊎◌, ⊎_elim}
use Rattle.cp_base.specs.declared.limits.TheConstants.{MAX_NAMESPACE}
use Rattle.cp_base.specs.declared.region.SpaceId.{SpaceId}
use Rattle.range_claims.specs.Changes.{added, cut_at, joined_at, lowered, raised, taken_away}
use Rattle.range_claims.specs.Counts.{AreCounted, count_at, held_at}
use Rattle.range_claims.specs.Places.{base_of}
use Rattle.range_claims.specs.Segments.{AreMaximal, AreSmall, Ascend, Differ, IsCut, IsFrom, Nowhere}
use Rattle.range_claims.specs.declared.segments.Segment.{Segment}
use Rattle.range_claims.proofs.Basics.{count_before, held_inside, held_since, since}
use Rattle.range_claims.proofs.Cuts.{Differ_more, cut_ascend, cut_count, cut_differ, cut_is_cut, cut_length, cut_stays}
use Rattle.range_claims.proofs.Joins.{But, join_ascend, join_count, join_differ}
use Rattle.range_claims.proofs.Lowers.{lower_ascend, lower_count, lower_differ}
use Rattle.range_claims.proofs.Raises.{once, raise_ascend, raise_count, raise_differ}

-- segments that are cut at both ends of a range
abbrev pub both_cut : ℕ → ℕ → List Segment → List Segment
both_cut from to segments = cut_at to (cut_at from segments)

-- one of the two ends of a range
abbrev pub Ends : ℕ → ℕ → ℕ → Type 0
Ends from to place = (place ≡ from) ⊎ (place ≡ to)

pub record BothCut (from to : ℕ) (segments made : List Segment) : Type 0 where
  pub ascend : Ascend 0 made
  pub begin : IsCut from made
  pub end : IsCut to made
  pub counts : (x : ℕ) → count_at made x ≡ count_at segments x
  pub length : length made ≤ length segments + 2

pub cut_both : (from to : ℕ) (segments : List Segment) → Ascend 0 segments → BothCut from to segments (both_cut from to segments)
cut_both from to segments a =
    let first = cut_ascend 0 from segments a in
    record {
      ascend = cut_ascend 0 to (cut_at from segments) first;
      begin = cut_stays 0 to from (cut_at from segments) first (cut_is_cut 0 from segments a);
      end = cut_is_cut 0 to (cut_at from segments) first;
      counts = λ x. cut_count 0 to (cut_at from segments) x first ∙ cut_count 0 from segments x a;
      length = omega (arith, cut_length to (cut_at from segments), cut_length from segments);
    }

pub differ_both : (from to : ℕ) (segments : List Segment) → Differ Nowhere segments → Differ (Ends from to) (both_cut from to segments)
differ_both from to segments d =
    cut_differ (Ends from to) to (cut_at from segments) (inr refl)
    (cut_differ (Ends from to) from segments (inl refl) (Differ_more Nowhere (Ends from to) segments (λ place none. absurd none) d))

-- joined at both ends, neighbours that touch differ
pub joined_maximal : (from to : ℕ) (segments : List Segment) → Ascend 0 segments → Differ (Ends from to) segments → AreMaximal (joined_at to (joined_at from segments))
joined_maximal from to segments a d =
    let first = join_ascend 0 from segments a in
    record {
      ascend = join_ascend 0 to (joined_at from segments) first;
      differ = Differ_more (But to (But from (Ends from to))) Nowhere (joined_at to (joined_at from segments))
          (λ place p. none place p.0.0 p.0.1 p.1)
          (join_differ (But from (Ends from to)) 0 to (joined_at from segments) first (join_differ (Ends from to) 0 from segments a d));
    }
  where
    none : (place : ℕ) → Ends from to place → place ≢ from → place ≢ to → ⊥
    none place (inl e) f t = f e
    none place (inr e) f t = t e

pub joined_count : (from to : ℕ) (segments : List Segment) (x : ℕ) → Ascend 0 segments → count_at (joined_at to (joined_at from segments)) x ≡ count_at segments x
joined_count from to segments x a = join_count to (joined_at from segments) x (join_ascend 0 from segments a) ∙ join_count from segments x a

pub added_ascend : (space : SpaceId) (from to : ℕ) (segments : List Segment) → from < to → base_of space ≤ from → to ≤ base_of space + MAX_NAMESPACE → Ascend 0 segments
    → Ascend 0 (raised space from to (both_cut from to segments))
added_ascend space from to segments h first last a =
    let both = cut_both from to segments a in
    raise_ascend 0 space from to (both_cut from to segments) (omega arith) (omega arith) first last both.ascend both.begin both.end

pub added_count : (space : SpaceId) (from to : ℕ) (segments : List Segment) (x : ℕ) → from < to → base_of space ≤ from → to ≤ base_of space + MAX_NAMESPACE → Ascend 0 segments
    → count_at (added space from to segments) x ≡ count_at segments x + held_at (once space from to) x
added_count space from to segments x h first last a =
    let both = cut_both from to segments a in
    let more = raise_count 0 space from to (both_cut from to segments) x (omega arith) both.ascend both.begin both.end in
    let held = held_since (once space from to) x (omega arith) in
    let joined = joined_count from to (raised space from to (both_cut from to segments)) x (added_ascend space from to segments h first last a) in
    let same = both.counts x in
    omega (arith, more, held, joined, same)

pub added_maximal : (space : SpaceId) (from to : ℕ) (segments : List Segment) → from < to → base_of space ≤ from → to ≤ base_of space + MAX_NAMESPACE → AreMaximal segments
    → AreMaximal (added space from to segments)
added_maximal space from to segments h first last m =
    let both = cut_both from to segments m.ascend in
    joined_maximal from to (raised space from to (both_cut from to segments)) (added_ascend space from to segments h first last m.ascend)
    (raise_differ (Ends from to) 0 space from to (both_cut from to segments) (inl refl) (inr refl) both.begin both.end both.ascend (differ_both from to segments m.differ))

pub taken_count : (space : SpaceId) (from to : ℕ) (segments : List Segment) (x : ℕ) → from < to → AreCounted from to segments → Ascend 0 segments
    → count_at (taken_away from to segments) x + held_at (once space from to) x ≡ count_at segments x
taken_count space from to segments x h c a =
    let both = cut_both from to segments a in
    let counted : AreCounted from to (both_cut from to segments) = λ y g l. omega (arith, both.counts y, c y g l) in
    let less = lower_count 0 from to (both_cut from to segments) x (omega arith) both.ascend both.begin both.end counted in
    let held = held_since (once space from to) x (omega arith) in
    let joined = joined_count from to (lowered from to (both_cut from to segments)) x (lower_ascend 0 from to (both_cut from to segments) both.ascend) in
    let same = both.counts x in
    omega (arith, less, held, joined, same)

pub taken_maximal : (from to : ℕ) (segments : List Segment) → AreMaximal segments → AreMaximal (taken_away from to segments)
taken_maximal from to segments m =
    let both = cut_both from to segments m.ascend in
    joined_maximal from to (lowered from to (both_cut from to segments)) (lower_ascend 0 from to (both_cut from to segments) both.ascend)
    (lower_differ (Ends from to) 0 from to (both_cut from to segments) (inl refl) (inr refl) both.begin both.end both.ascend (differ_both from to segments m.differ))

-- what counts little has small counts
pub small_counts : (low : ℕ) (segments : List Segment) → Ascend low segments → ((x : ℕ) → count_at segments x + 1 < 2 ^ 64) → AreSmall segments
small_counts low [] a h = tt
small_counts low (s ∷ segments) (here, rest) h =
    let one = held_inside s s.from (omega arith) here.some in
    let none = count_before s.to segments s.from rest here.some in
    (omega (arith, h s.from, one, none), small_counts s.to segments rest (λ x. omega (arith, h x)))

-- what a segment counts does not depend on its namespace
pub same_held : (space other : SpaceId) (from to begin end x : ℕ) → from ≡ begin → to ≡ end → held_at (once space from to) x ≡ held_at (once other begin end) x
same_held space other from to begin end x e f = ap (λ (p : ℕ). held_at (once space p to) x) e ∙ ap (λ (p : ℕ). held_at (once other begin p) x) f
