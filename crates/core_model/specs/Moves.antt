-- How the parts of a device move at each event: one record of equations for each. This project's own.
use Rattle.std.specs.Prelude.{◌≡◌, ℕ, ◌+◌, ◌-◌, ◌<◌, ◌==◌, true, false, not, ◌&&◌, ◌||◌, if◌then◌else◌, IsSomeAnd, List, [], ◌∷◌, ◌++◌, Option, None, Some, filter, map, option_map, slice_index, option_and_then}
use Rattle.cp_base.specs.Commands.{aborted_cid}
use Rattle.cp_base.specs.Known.{Known}
use Rattle.cp_base.specs.Region.{Region}
use Rattle.cp_base.specs.declared.commands.Command.{Command}
use Rattle.cp_base.specs.declared.region.SpaceId.{SpaceId}
use Rattle.cp_base.specs.declared.spans.Footprint.{Footprint}
use Rattle.device_model.specs.State.{State}
use Rattle.queue_pairs.specs.Outstanding.{under, with_sent}
use Rattle.queue_pairs.specs.Places.{restaged, without_sent}
use Rattle.queue_pairs.specs.declared.command.Outstanding.{Outstanding as Waiting}
use Rattle.queue_pairs.specs.declared.command.Stage.TheVariants as queue
use Rattle.trail_model.specs.Lawful.{Trail}
use Rattle.trail_model.specs.Pieces.{RegionBytes, any_has_byte, carried, has_byte}
use Rattle.core_model.specs.Asked.{Asked, asked_at}
use Rattle.core_model.specs.Parts.{ClaimPlaces, EntryPlaces, KeptFootprint, Parts, WaitingSubmit, tables_in}
use Rattle.core_model.specs.Ties.{is_one_of}

-- what a new command names, by its host's queue: of an Abort the submit of the outstanding command of its identifier
abbrev pub names_in_queue : List Waiting → Command → Option ℕ
names_in_queue waiting cmd =
    option_and_then (λ cid. option_map (λ (w : Waiting). w.sent) (under waiting cid)) (aborted_cid cmd)

-- those that wait without the one of a submit
abbrev pub without_waiting : List WaitingSubmit → ℕ → List WaitingSubmit
without_waiting waiting sent = filter (λ (x : WaitingSubmit). not (x.sent == sent)) waiting

-- what is kept without the first footprint of a key
abbrev pub without_kept : ℕ → List KeptFootprint → List KeptFootprint
without_kept key [] = []
without_kept key (x ∷ kept) = if x.key == key then kept else x ∷ without_kept key kept

-- the open claims without the one at a place
abbrev pub without_place : List ClaimPlaces → ℕ → List ClaimPlaces
without_place claims place = filter (λ (x : ClaimPlaces). not (x.claim == place)) claims

-- the queue of one host is another, those of all others are the same
abbrev pub OneQueue : Parts → Parts → ℕ → List Waiting → Type 0
OneQueue old new one changed = (host : ℕ) → new.queues host ≡ (if host == one then changed else old.queues host)

-- the bytes at home are the same
abbrev pub SameStore : Parts → Parts → Type 0
SameStore old new = (space : SpaceId) (offset : ℕ) → new.store space offset ≡ old.store space offset

-- the regions that are out are the same
abbrev pub SameOut : Parts → Parts → Type 0
SameOut old new = (region : Region) → 0 < region.len → new.out region ≡ old.out region

-- bytes of which those of a piece are at home, as the piece has them
abbrev pub filled_by : RegionBytes → Known → Known
filled_by piece known space offset =
    if has_byte piece.region space offset then Some (slice_index piece.bytes (offset - piece.region.start)) else known space offset

-- the same of pieces, one after the other
abbrev pub filled_by_all : List RegionBytes → Known → Known
filled_by_all [] known = known
filled_by_all (piece ∷ pieces) known = filled_by_all pieces (filled_by piece known)

-- nothing was submitted, and the device is at rest exactly where it was
pub record StandStill (old new : Parts) : Type 0 where
  pub submitted : new.submitted ≡ old.submitted
  pub ordinals : (host : ℕ) → new.ordinals host ≡ old.ordinals host
  pub at_rest : new.at_rest ≡ old.at_rest

-- a host submits a command under an identifier
pub record SubmitMoves (old new : Parts) (by cid : ℕ) (cmd : Command) : Type 0 where
  pub count : new.count ≡ old.count + 1
  pub submitted : new.submitted ≡ old.submitted + 1
  pub at_rest : new.at_rest ≡ false
  pub waiting : new.waiting ≡ old.waiting
      ++ (let x : WaitingSubmit = record { sent = old.count; names = names_in_queue (old.queues by) cmd } in x) ∷ []
  pub queues : OneQueue old new by (with_sent (old.queues by) cid old.count)
  pub ordinals : (host : ℕ) → new.ordinals host ≡ (if host == by then old.ordinals by + 1 else old.ordinals host)
  pub kept : new.kept ≡ old.kept
  pub claims : new.claims ≡ old.claims
  pub store : SameStore old new
  pub out : SameOut old new
  pub slots : new.slots ≡ old.slots
  pub sets : new.sets ≡ old.sets
  pub entries : new.entries ≡ old.entries

-- a party claims the command of a host's submit, which touches this, and for which these regions are taken out
pub record ClaimMoves (old new : Parts) (by host sent : ℕ) (touched : Footprint) (taken : List Region) : Type 0 where
  pub count : new.count ≡ old.count + 1
  pub still : StandStill old new
  pub waiting : new.waiting ≡ without_waiting old.waiting sent
  pub queues : OneQueue old new host (restaged (old.queues host) sent queue.Picked)
  pub kept : new.kept ≡ old.kept ++ (let x : KeptFootprint = record { key = old.count; footprint = touched } in x) ∷ []
  pub claims : new.claims ≡ old.claims
      ++ (let x : ClaimPlaces = record { claim = old.count; party = by; host = host; sent = sent } in x) ∷ []
  pub store : (space : SpaceId) (offset : ℕ) → new.store space offset
      ≡ (if any_has_byte touched.writes space offset then None else old.store space offset)
  pub out : (region : Region) → 0 < region.len → new.out region ≡ (old.out region || is_one_of taken region)
  pub slots : new.slots ≡ old.slots
  pub sets : new.sets ≡ old.sets
  pub entries : new.entries ≡ old.entries

-- the claim at a place, of the command of a host's submit, is over, and these pieces come home
pub record FinishMoves (old new : Parts) (claim host sent : ℕ) (pieces : List RegionBytes) : Type 0 where
  pub count : new.count ≡ old.count + 1
  pub still : StandStill old new
  pub waiting : new.waiting ≡ old.waiting
  pub queues : OneQueue old new host (restaged (old.queues host) sent (queue.Posted old.count))
  pub kept : new.kept ≡ without_kept claim old.kept
  pub claims : new.claims ≡ without_place old.claims claim
  pub store : (space : SpaceId) (offset : ℕ) → new.store space offset
      ≡ (if any_has_byte (map (λ (piece : RegionBytes). piece.region) pieces) space offset
      then Some (carried pieces space offset) else old.store space offset)
  pub out : (region : Region) → 0 < region.len
      → new.out region ≡ (old.out region && not (is_one_of (map (λ (piece : RegionBytes). piece.region) pieces) region))
  pub slots : new.slots ≡ old.slots
  pub sets : new.sets ≡ old.sets
  pub entries : new.entries
      ≡ old.entries ++ (let x : EntryPlaces = record { sent = sent; posted = old.count } in x) ∷ []

-- the reply to a waiting command of a host is posted at a place, and the tables are then these: an Abort that withdraws a
-- command moves the parts twice so, first for itself and then for what it withdraws
pub record PostMoves (old new : Parts) (host sent posted : ℕ) (tables : State) : Type 0 where
  pub count : new.count ≡ posted + 1
  pub still : StandStill old new
  pub waiting : new.waiting ≡ without_waiting old.waiting sent
  pub queues : OneQueue old new host (restaged (old.queues host) sent (queue.Posted posted))
  pub kept : new.kept ≡ old.kept
  pub claims : new.claims ≡ old.claims
  pub store : SameStore old new
  pub out : SameOut old new
  pub slots : new.slots ≡ tables.slots
  pub sets : new.sets ≡ tables.sets
  pub entries : new.entries ≡ old.entries ++ (let x : EntryPlaces = record { sent = sent; posted = posted } in x) ∷ []

-- what a command withdraws, where it withdraws one, has its reply posted at the same place
abbrev pub WithdrawMoves : Trail → Parts → Parts → ℕ → Option ℕ → Type 0
WithdrawMoves trail old new posted None = new ≡ old
WithdrawMoves trail old new posted (Some sent) =
    IsSomeAnd (asked_at trail sent) (λ (asked : Asked). PostMoves old new asked.host sent posted (tables_in old))

-- a host takes the reply to the command of a submit
pub record TakeMoves (old new : Parts) (by sent : ℕ) : Type 0 where
  pub count : new.count ≡ old.count + 1
  pub still : StandStill old new
  pub waiting : new.waiting ≡ old.waiting
  pub queues : OneQueue old new by (without_sent (old.queues by) sent)
  pub kept : new.kept ≡ old.kept
  pub claims : new.claims ≡ old.claims
  pub store : SameStore old new
  pub out : SameOut old new
  pub slots : new.slots ≡ old.slots
  pub sets : new.sets ≡ old.sets
  pub entries : new.entries ≡ old.entries

-- the hosts send nothing more for now
pub record RestMoves (old new : Parts) : Type 0 where
  pub count : new.count ≡ old.count + 1
  pub submitted : new.submitted ≡ old.submitted
  pub at_rest : new.at_rest ≡ true
  pub waiting : new.waiting ≡ old.waiting
  pub queues : (host : ℕ) → new.queues host ≡ old.queues host
  pub ordinals : (host : ℕ) → new.ordinals host ≡ old.ordinals host
  pub kept : new.kept ≡ old.kept
  pub claims : new.claims ≡ old.claims
  pub store : SameStore old new
  pub out : SameOut old new
  pub slots : new.slots ≡ old.slots
  pub sets : new.sets ≡ old.sets
  pub entries : new.entries ≡ old.entries
