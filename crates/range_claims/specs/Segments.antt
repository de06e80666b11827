-- Segments in order. This project's own.
use Rattle.std.specs.Prelude.{◌≡◌, ℕ, ◌+◌, ◌^◌, ◌≤◌, ◌<◌, ◌⊎◌, List, [], ◌∷◌}
use Rattle.cp_base.specs.declared.limits.TheConstants.{MAX_NAMESPACE}
use Rattle.range_claims.specs.Places.{base_of}
use Rattle.range_claims.specs.declared.segments.Segment.{Segment}

-- a segment from a place on: it has bytes, all of its namespace, and counts them
pub record IsFrom (place : ℕ) (s : Segment) : Type 0 where
  pub low : place ≤ s.from
  pub some : s.from < s.to
  pub counted : 0 < s.count
  pub first : base_of s.space ≤ s.from
  pub last : s.to ≤ base_of s.space + MAX_NAMESPACE

-- segments in order from a place on, of which no two have a byte in common
abbrev pub Ascend : ℕ → List Segment → Type 0
Ascend low [] = Unit {0}
Ascend low (s ∷ segments) = IsFrom low s × Ascend s.to segments

-- a place is inside no segment
abbrev pub IsCut : ℕ → List Segment → Type 0
IsCut place [] = Unit {0}
IsCut place (s ∷ segments) = ((s.to ≤ place) ⊎ (place ≤ s.from)) × IsCut place segments

-- where a segment and the first of those behind it touch and count the same, the place where they touch is one of these
abbrev pub MeetsNextAt : (ℕ → Type 0) → Segment → List Segment → Type 0
MeetsNextAt P s [] = Unit {0}
MeetsNextAt P s (t ∷ segments) = t.from ≡ s.to → t.count ≡ s.count → P s.to

-- neighbours that touch and count the same touch only at such places
abbrev pub Differ : (ℕ → Type 0) → List Segment → Type 0
Differ P [] = Unit {0}
Differ P (s ∷ segments) = MeetsNextAt P s segments × Differ P segments

-- no place
abbrev pub Nowhere : ℕ → Type 0
Nowhere place = ⊥

-- segments that are as few as can be: in order, and neighbours that touch differ in their count
pub record AreMaximal (segments : List Segment) : Type 0 where
  pub ascend : Ascend 0 segments
  pub differ : Differ Nowhere segments

-- counts that one more fits on
abbrev pub AreSmall : List Segment → Type 0
AreSmall [] = Unit {0}
AreSmall (s ∷ segments) = (s.count + 1 < 2 ^ 64) × AreSmall segments

-- segments, and how many find room
pub record Counted : Type 0 where
  pub segments : List Segment
  pub room : ℕ
