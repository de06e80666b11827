-- What comes home at a finish: the pieces that the claim may write. This project's own.
use Rattle.std.specs.Prelude.{◌≡◌, ℕ, ◌<◌, nat_lt, Bool, true, false, not, ◌&&◌, List, [], Option, Some, None, filter, length, map}
use Rattle.std.specs.List.{AllByRecursion}
use Rattle.cp_base.specs.Configuration.{Configuration}
use Rattle.cp_base.specs.Region.{Region}
use Rattle.cp_base.specs.Sharing.{any_overlap}
use Rattle.cp_base.specs.declared.region.SpaceId.{SpaceId}
use Rattle.cp_base.specs.declared.replies.Piece.{Piece}
use Rattle.cp_base.specs.declared.spans.Footprint.{Footprint}
use Rattle.extents.specs.Homes.{Homes, is_hole, known_at}
use Rattle.range_claims.specs.Kept.{footprint_under}
use Rattle.range_claims.specs.declared.claims.Claim.{Claim}
use Rattle.trail_model.specs.Lawful.{world_of}
use Rattle.trail_model.specs.Pieces.{RegionBytes, any_has_byte}
use Rattle.trail_model.specs.World.{OpenClaim, claim_at, effect_of_claim}
use Rattle.core_model.specs.Moves.{filled_by_all}
use Rattle.core_model.specs.Ties.{is_one_of}
use Rattle.job_run.specs.Works.{pieces_after, region_bytes}
use Rattle.device_core.specs.Keep.{Holds}
use Rattle.device_core.specs.Recorded.{trail_of}
use Rattle.device_core.specs.declared.events.Event.{Event as KeptEvent}
use Rattle.device_core.specs.declared.keep.Keep.{Keep}

-- whether a piece has a byte
abbrev pub has_bytes : RegionBytes → Bool
has_bytes piece = nat_lt 0 piece.region.len

-- whether a piece lies where bytes were taken out: its first byte does
abbrev pub goes_home : List Region → RegionBytes → Bool
goes_home writes piece = any_has_byte writes piece.region.space piece.region.start

-- of some pieces those that go home, where these were taken out
abbrev pub homebound : List Region → List Piece → List RegionBytes
homebound writes pieces = filter (goes_home writes) (region_bytes pieces)

-- where pieces lie
abbrev pub places_of : List RegionBytes → List Region
places_of pieces = map (λ (piece : RegionBytes). piece.region) pieces

-- a piece has bytes, as many as its region, which is out
pub record IsOut (homes : Homes) (piece : RegionBytes) : Type 0 where
  pub some : 0 < piece.region.len
  pub whole : length piece.bytes ≡ piece.region.len
  pub out : is_hole homes piece.region ≡ true

-- pieces can come home: each is out, and no two share a byte
pub record CanComeHome (homes : Homes) (pieces : List RegionBytes) : Type 0 where
  pub out : AllByRecursion (IsOut homes) pieces
  pub apart : any_overlap (places_of pieces) ≡ false

-- pieces have come home
pub record CameHome (old new : Homes) (pieces : List RegionBytes) : Type 0 where
  pub bytes : (space : SpaceId) (offset : ℕ)
      → known_at new space offset ≡ filled_by_all pieces (λ s k. known_at old s k) space offset
  pub out : (region : Region) → is_hole new region ≡ (is_hole old region && not (is_one_of (places_of pieces) region))

-- the bytes that the claim of a key may write, none where none is kept
abbrev pub writes_in : Option Footprint → List Region
writes_in None = []
writes_in (Some footprint) = footprint.writes

abbrev pub writes_under : List Claim → ℕ → List Region
writes_under claims key = writes_in (footprint_under claims key)

-- What is kept has the open claim of a place, and these are its pieces after its work.
pub record BringsHome (c : Configuration) (commands : ℕ) (events : List KeptEvent) (k : Keep) (place : ℕ) (pieces : List Piece) : Type 0 where
  pub spots : ℕ
  pub held : Holds c commands events spots k
  pub claim : OpenClaim
  pub found : claim_at (world_of c (trail_of events)).claims place ≡ Some claim
  pub after : region_bytes pieces ≡ pieces_after (effect_of_claim c claim) claim.pieces
