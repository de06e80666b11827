-- A claim of a command that waits. This project's own.
use Rattle.std.specs.Prelude.{◌≡◌, ℕ, List, ◌++◌, ◌∷◌, [], IsSomeAnd}
use Rattle.cp_base.specs.Configuration.{Configuration}
use Rattle.cp_base.specs.declared.spans.Footprint.{Footprint}
use Rattle.queue_pairs.specs.Places.{restaged}
use Rattle.queue_pairs.specs.declared.command.Stage.TheVariants as stage
use Rattle.trail_model.specs.Lawful.{world_of}
use Rattle.trail_model.specs.World.{Submission, submit_at}
use Rattle.range_claims.specs.declared.claims.Claim.{Claim}
use Rattle.job_run.specs.declared.work.Work.{Work}
use Rattle.core_model.specs.Moves.{without_waiting}
use Rattle.core_model.specs.declared.places.ClaimPlaces.{ClaimPlaces}
use Rattle.device_core.specs.Keep.{OnlyQueue, queue_of}
use Rattle.device_core.specs.Portions.{AreTaken}
use Rattle.device_core.specs.Recorded.{told_event, trail_of}
use Rattle.device_core.specs.Turns.{ClaimsBy, StandWith}
use Rattle.device_core.specs.declared.events.Event.{Event as KeptEvent}
use Rattle.device_core.specs.declared.keep.Keep.{Keep}

-- all that is kept is the same, but for the extents, which show the same bytes and holes
pub record HasStore (old new : Keep) : Type 0 where
  pub same : new ≡ record old { store = new.store }
  pub store : AreTaken old.store new.store []

-- a claim begins: its command waits no more and is picked, what it touches is kept, and the claim is open
pub record Begins (old new : Keep) (places : ClaimPlaces) (touched : Footprint) : Type 0 where
  pub submitted : new.submitted ≡ old.submitted
  pub at_rest : new.at_rest ≡ old.at_rest
  pub waiting : new.waiting.items ≡ without_waiting old.waiting.items places.sent
  pub queues : OnlyQueue old.queues.items new.queues.items places.host
      (restaged (queue_of old.queues.items places.host) places.sent stage.Picked)
  pub ordinals : new.ordinals.items ≡ old.ordinals.items
  pub kept : new.kept.kept
      ≡ old.kept.kept ++ (let x : Claim = record { key = places.claim; footprint = touched } in x) ∷ []
  pub claims : new.claims.items ≡ old.claims.items ++ places ∷ []
  pub store : new.store ≡ old.store
  pub slots : new.slots ≡ old.slots
  pub sets : new.sets ≡ old.sets
  pub entries : new.entries.items ≡ old.entries.items

-- a party has claimed the command of a submit, and has its work
pub record HasClaimed (c : Configuration) (commands : ℕ) (events : List KeptEvent) (by sent : ℕ) (new : Keep) (e : KeptEvent) (work : Work) : Type 0 where
  pub stands : StandWith c commands events new (told_event e)
  pub claim : IsSomeAnd (submit_at (world_of c (trail_of events)).submits sent)
      (λ (s : Submission). ClaimsBy c (world_of c (trail_of events)) by (told_event e) work s)
