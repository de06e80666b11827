-- How the parts of a device belong to the world of its trail. This project's own.
use Rattle.std.specs.Prelude.{◌≡◌, ℕ, ◌<◌, ◌==◌, Bool, false, ◌&&◌, List, [], ◌∷◌, ◌++◌, Option, None, Some, length, map, option_map, replicate, slice_get}
use Rattle.cp_base.specs.Configuration.{Configuration}
use Rattle.cp_base.specs.Contents.{all_zero, bytes_of}
use Rattle.std.specs.List.{list_any}
use Rattle.cp_base.specs.Region.{Region}
use Rattle.cp_base.specs.Sharing.{same_region}
use Rattle.cp_base.specs.declared.limits.TheConstants.{SLOTS}
use Rattle.cp_base.specs.declared.region.SpaceId.{SpaceId}
use Rattle.device_model.specs.State.{Empty}
use Rattle.queue_pairs.specs.declared.command.Outstanding.{Outstanding as Waiting}
use Rattle.queue_pairs.specs.declared.command.Stage.{Stage as QueueStage}
use Rattle.queue_pairs.specs.declared.command.Stage.TheVariants as queue
use Rattle.trail_model.specs.Footprints.{writes_of}
use Rattle.trail_model.specs.Lawful.{IsLawful, Trail, world_of}
use Rattle.trail_model.specs.World.{OpenClaim, Posted, Queued, Stage, Submission, Taken, Working, World, claim_at, claimed_footprint, first_world, home, ordinal_after, outstanding_of, queued_among, world_after}
use Rattle.trail_model.specs.declared.events.Event.{Event}
use Rattle.trail_model.specs.declared.events.Event.TheVariants as event
use Rattle.core_model.specs.Parts.{ClaimPlaces, EntryPlaces, KeptFootprint, Parts, WaitingSubmit}

-- a submit as the list of those that wait shows it
abbrev pub as_waiting : Submission → WaitingSubmit
as_waiting s = record { sent = s.request.place; names = s.request.names }

-- those that wait in a world, in order of submission
abbrev pub waiting_among : List Submission → List WaitingSubmit
waiting_among submits = map as_waiting (queued_among submits)

-- a stage as a queue shows it; a command whose reply was taken is in no queue
abbrev pub queue_stage : Stage → QueueStage
queue_stage Queued = queue.Queued
queue_stage Working = queue.Picked
queue_stage (Posted place) = queue.Posted place
queue_stage Taken = queue.Picked

-- a submit as its host's queue shows it
abbrev pub as_outstanding : Submission → Waiting
as_outstanding s = record { cid = s.request.cid; sent = s.request.place; stage = queue_stage s.stage }

-- the queue of a host in a world
abbrev pub queue_among : List Submission → ℕ → List Waiting
queue_among submits host = map as_outstanding (outstanding_of submits host)

-- what an open claim touches and holds, under the claim's place
abbrev pub as_kept : Configuration → OpenClaim → KeptFootprint
as_kept c claim = record { key = claim.place; footprint = claimed_footprint c claim }

-- the places of an open claim
abbrev pub as_places : OpenClaim → ClaimPlaces
as_places claim =
    record { claim = claim.place; party = claim.party; host = claim.request.host; sent = claim.request.place }

-- whether a region is one of these
abbrev pub is_one_of : List Region → Region → Bool
is_one_of regions region = list_any (λ (r : Region). same_region r region) regions

-- whether a region is one that was taken out for an open claim, which may write it
abbrev pub is_lent : Configuration → List OpenClaim → Region → Bool
is_lent c claims region =
    list_any (λ (claim : OpenClaim). is_one_of (writes_of c claim.execution.ranges claim.request.command) region) claims

-- Each part is what the world says. Of regions without a byte nothing is said.
pub record AreTied (c : Configuration) (p : Parts) (w : World) : Type 0 where
  pub count : p.count ≡ w.count
  pub submitted : p.submitted ≡ length w.submits
  pub at_rest : p.at_rest ≡ w.at_rest
  pub waiting : p.waiting ≡ waiting_among w.submits
  pub queues : (host : ℕ) → p.queues host ≡ queue_among w.submits host
  pub ordinals : (host : ℕ) → p.ordinals host ≡ ordinal_after w.submits host
  pub kept : p.kept ≡ map (as_kept c) w.claims
  pub claims : p.claims ≡ map as_places w.claims
  pub store : (space : SpaceId) (offset : ℕ) → p.store space offset ≡ home c w space offset
  pub out : (region : Region) → 0 < region.len → p.out region ≡ is_lent c w.claims region
  pub slots : p.slots ≡ w.state.slots
  pub sets : p.sets ≡ w.state.sets

-- ---- where the entries of the history stand

-- the entry of the submit at a place, whose reply is posted at a place
abbrev pub entry_of : ℕ → ℕ → EntryPlaces
entry_of posted sent = record { sent = sent; posted = posted }

-- the entry of a command, where there is one
abbrev pub entry_if : ℕ → Option ℕ → List EntryPlaces
entry_if posted None = []
entry_if posted (Some sent) = entry_of posted sent ∷ []

-- the places of the completions that an event tells: none, or one, or that of an Abort and that of what it withdraws
abbrev pub entries_by : World → Event → List EntryPlaces
entries_by w (event.Submit by cid ordinal cmd) = []
entries_by w (event.Claim by host ordinal sent) = []
entries_by w (event.Finish by claim answer) =
    entry_if w.count (option_map (λ (claimed : OpenClaim). claimed.request.place) (claim_at w.claims claim))
entries_by w (event.Do by host ordinal sent answer aborts) = entry_of w.count sent ∷ entry_if w.count aborts
entries_by w (event.Take by cid posted) = []
entries_by w (event.Rest by) = []

-- the places of the entries of a trail that goes on from a world
abbrev pub entries_from : Configuration → World → Trail → List EntryPlaces
entries_from c w [] = []
entries_from c w (e ∷ trail) = entries_by w e ++ entries_from c (world_after c w e) trail

-- the places of the entries of a trail
abbrev pub entries_of : Configuration → Trail → List EntryPlaces
entries_of c trail = entries_from c (first_world c) trail

-- The parts stand for a lawful trail: they are tied to its world, and have the places of its entries.
pub record StandFor (c : Configuration) (commands : ℕ) (p : Parts) (trail : Trail) : Type 0 where
  pub lawful : IsLawful c commands trail
  pub ties : AreTied c p (world_of c trail)
  pub entries : p.entries ≡ entries_of c trail

-- The parts are those of a new device: nothing has happened, each byte is at home and 0, and the tables are empty.
pub record AreFirst (c : Configuration) (p : Parts) : Type 0 where
  pub count : p.count ≡ 0
  pub submitted : p.submitted ≡ 0
  pub at_rest : p.at_rest ≡ false
  pub waiting : p.waiting ≡ []
  pub queues : (host : ℕ) → p.queues host ≡ []
  pub ordinals : (host : ℕ) → p.ordinals host ≡ 1
  pub kept : p.kept ≡ []
  pub claims : p.claims ≡ []
  pub store : (space : SpaceId) (offset : ℕ) → p.store space offset ≡ slice_get (bytes_of (all_zero c) space) offset
  pub out : (region : Region) → 0 < region.len → p.out region ≡ false
  pub slots : p.slots ≡ replicate SLOTS Empty
  pub sets : p.sets ≡ []
  pub entries : p.entries ≡ []

-- the parts that stand for a trail, read from its world
abbrev pub parts_at : Configuration → Trail → Parts
parts_at c trail =
    let w : World = world_of c trail in
    record {
      count = w.count;
      submitted = length w.submits;
      at_rest = w.at_rest;
      waiting = waiting_among w.submits;
      queues = queue_among w.submits;
      ordinals = ordinal_after w.submits;
      kept = map (as_kept c) w.claims;
      claims = map as_places w.claims;
      store = home c w;
      out = is_lent c w.claims;
      slots = w.state.slots;
      sets = w.state.sets;
      entries = entries_of c trail;
    }
