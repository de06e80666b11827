-- How segments change where a range is added or taken away. This project's own.
use Rattle.std.specs.Prelude.{ℕ, ◌+◌, ◌-◌, ◌==◌, nat_le, nat_lt, Bool, ◌&&◌, if◌then◌else◌, List, [], ◌∷◌, ◌++◌, take, drop}
use Rattle.std.specs.List.{prefix_len}
use Rattle.cp_base.specs.declared.region.SpaceId.{SpaceId}
use Rattle.range_claims.specs.declared.segments.Segment.{Segment}

-- how many segments end before a place or there
abbrev pub ended : ℕ → List Segment → ℕ
ended place segments = prefix_len (λ (s : Segment). nat_le s.to place) segments

-- segments of which none has a place inside: the one that has it is cut there
abbrev pub cut_at : ℕ → List Segment → List Segment
cut_at place [] = []
cut_at place (s ∷ segments) =
    if nat_le s.to place then s ∷ cut_at place segments
    else if nat_lt s.from place then record s { to = place } ∷ record s { from = place } ∷ segments
    else s ∷ segments

-- bytes that are counted once, where there are some
abbrev pub new_between : SpaceId → ℕ → ℕ → List Segment
new_between space from to =
    if nat_lt from to then record { space = space; from = from; to = to; count = 1 } ∷ [] else []

-- the bytes from one place up to another counted once more, where segments are cut at both
abbrev pub raised : SpaceId → ℕ → ℕ → List Segment → List Segment
raised space from to [] = new_between space from to
raised space from to (s ∷ segments) =
    if nat_le s.to from then s ∷ raised space from to segments
    else if nat_le to s.from then new_between space from to ++ s ∷ segments
    else new_between space from s.from ++ record s { count = s.count + 1 } ∷ raised space s.to to segments

-- the same where it is done up to a place in the list, and the bytes are counted up to a place
abbrev pub raised_from : SpaceId → ℕ → ℕ → ℕ → List Segment → List Segment
raised_from space at to i segments = take i segments ++ raised space at to (drop i segments)

-- the bytes from one place up to another counted once less, where segments are cut at both
abbrev pub lowered : ℕ → ℕ → List Segment → List Segment
lowered from to [] = []
lowered from to (s ∷ segments) =
    if nat_le s.to from then s ∷ lowered from to segments
    else if nat_le to s.from then s ∷ segments
    else if s.count == 1 then lowered s.to to segments
    else record s { count = s.count - 1 } ∷ lowered s.to to segments

-- the same where it is done up to a place in the list
abbrev pub lowered_from : ℕ → ℕ → ℕ → List Segment → List Segment
lowered_from from to i segments = take i segments ++ lowered from to (drop i segments)

-- whether two segments touch at a place and count the same
abbrev pub joins : ℕ → Segment → Segment → Bool
joins place s t = s.to == place && (t.from == place && t.count == s.count)

-- segments of which two that touch at a place and count the same are one: a first one and those behind it
abbrev pub joined_after : ℕ → Segment → List Segment → List Segment
joined_after place s [] = s ∷ []
joined_after place s (t ∷ segments) =
    if joins place s t then record s { to = t.to } ∷ segments
    else s ∷ joined_after place t segments

abbrev pub joined_at : ℕ → List Segment → List Segment
joined_at place [] = []
joined_at place (s ∷ segments) = joined_after place s segments

-- the bytes from one place up to another counted once more
abbrev pub added : SpaceId → ℕ → ℕ → List Segment → List Segment
added space from to segments = joined_at to (joined_at from (raised space from to (cut_at to (cut_at from segments))))

-- the same counted once less
abbrev pub taken_away : ℕ → ℕ → List Segment → List Segment
taken_away from to segments = joined_at to (joined_at from (lowered from to (cut_at to (cut_at from segments))))
