-- How many segments a question reads. This project's own.
use Rattle.std.specs.Prelude.{ℕ, ◌+◌, ◌-◌, ◌*◌, List, [], ◌∷◌, length}
use Rattle.std.specs.Int.Digits.{digits_of}
use Rattle.cp_base.specs.Region.{Region}
use Rattle.cp_base.specs.declared.spans.Footprint.{Footprint}
use Rattle.range_claims.specs.Places.{base_of}
use Rattle.range_claims.specs.declared.claims.Claim.{Claim}
use Rattle.range_claims.specs.declared.segments.Segment.{Segment}

-- the bytes of a segment
abbrev pub segment_region : Segment → Region
segment_region s = record { space = s.space; start = s.from - base_of s.space; len = s.to - s.from }

-- how many binary digits a number has, none for 0
abbrev pub binary_digits : ℕ → ℕ
binary_digits n = length (digits_of 2 n)

-- how many ranges a command touches, and how many those of claims do
abbrev pub ranges_touched : Footprint → ℕ
ranges_touched footprint = length footprint.writes + length footprint.reads

abbrev pub ranges_kept : List Claim → ℕ
ranges_kept [] = 0
ranges_kept (claim ∷ claims) = ranges_touched claim.footprint + ranges_kept claims

-- how many segments are read at most to tell whether a command meets claims: for each of its ranges two lists are
-- searched, in each of which there are at most two segments for each range of the claims
abbrev pub steps_at_most : Footprint → List Claim → ℕ
steps_at_most footprint claims = 2 * ranges_touched footprint * (binary_digits (2 * ranges_kept claims) + 1)
