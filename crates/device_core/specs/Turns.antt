-- What a party's turn comes to. This project's own.
use Rattle.std.specs.Prelude.{◌≡◌, ◌≤◌, ℕ, ◌+◌, ◌++◌, ◌∷◌, true, IsSomeAnd, IsTrue, List, [], length, slice_get}
use Rattle.cp_base.specs.Answer.{Answer}
use Rattle.cp_base.specs.Configuration.{Configuration}
use Rattle.trail_model.specs.Lawful.{world_of}
use Rattle.trail_model.specs.World.{Submission, World, claim_of, pickable_among, queued_among, withdrawn_place}
use Rattle.trail_model.specs.declared.events.Event.{Event}
use Rattle.trail_model.specs.declared.events.Event.TheVariants as event
use Rattle.job_run.specs.declared.work.Work.{Work}
use Rattle.core_model.specs.Ties.{StandFor}
use Rattle.device_core.specs.Gives.{IsWorkOf}
use Rattle.device_core.specs.Keep.{parts_of}
use Rattle.device_core.specs.Recorded.{told_event, trail_of}
use Rattle.device_core.specs.declared.claiming.Turned.{Turned}
use Rattle.device_core.specs.declared.claiming.Turned.TheVariants as turned
use Rattle.device_core.specs.declared.events.Event.{Event as KeptEvent}
use Rattle.device_core.specs.declared.keep.Keep.{Keep}

-- an event is that of a party which claims the command of a submit, and the work is what the claim takes along
pub record ClaimsBy (c : Configuration) (w : World) (by : ℕ) (e : Event) (work : Work) (s : Submission) : Type 0 where
  pub event : e ≡ event.Claim by s.request.host s.request.ordinal s.request.place
  pub claimed : IsWorkOf c (claim_of c w by s.request) work

-- an event is that of a party which does the command of a submit at once
pub record DoesBy (w : World) (by : ℕ) (e : Event) (s : Submission) : Type 0 where
  pub answer : Answer
  pub event : e ≡ event.Do by s.request.host s.request.ordinal s.request.place answer (withdrawn_place w.submits s.request)

-- what is kept stands for the trail with one more event
abbrev pub StandWith : Configuration → ℕ → List KeptEvent → Keep → Event → Type 0
StandWith c commands events new e = StandFor c commands (parts_of (length events + 1) new) (trail_of events ++ e ∷ [])

-- What the turn of a party to the command of this number comes to, of those that may be picked: it is claimed, or done at once;
-- or nothing changes, since there are no more that may be picked, or all are picked and the device is at rest.
abbrev pub Turns : Configuration → ℕ → List KeptEvent → ℕ → ℕ → Turned → Keep → Keep → Type 0
Turns c commands events by skip (turned.Claimed e work) old new =
    StandWith c commands events new (told_event e)
    × IsSomeAnd (slice_get (pickable_among c (world_of c (trail_of events))) skip)
    (λ (s : Submission). ClaimsBy c (world_of c (trail_of events)) by (told_event e) work s)
Turns c commands events by skip (turned.Did e) old new =
    StandWith c commands events new (told_event e)
    × IsSomeAnd (slice_get (pickable_among c (world_of c (trail_of events))) skip)
    (λ (s : Submission). DoesBy (world_of c (trail_of events)) by (told_event e) s)
Turns c commands events by skip turned.Nothing old new =
    (new ≡ old) × (length (pickable_among c (world_of c (trail_of events))) ≤ skip)
    × ((world_of c (trail_of events)).at_rest ≡ true → queued_among (world_of c (trail_of events)).submits ≡ [] → ⊥)
Turns c commands events by skip turned.Rested old new =
    (new ≡ old) × IsTrue (world_of c (trail_of events)).at_rest × (queued_among (world_of c (trail_of events)).submits ≡ [])
