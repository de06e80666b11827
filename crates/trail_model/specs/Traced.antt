-- Where in a trail submits, claims and ends of commands stand. This project's own.
use Rattle.std.specs.Prelude.{◌≡◌, ℕ, ◌⊎◌, IsSomeAnd, Some, slice_get}
use Rattle.std.specs.List.{AllByRecursion}
use Rattle.trail_model.specs.Lawful.{Trail}
use Rattle.trail_model.specs.World.{OpenClaim, Posted, Queued, Request, Stage, Submission, Taken, Working, World}
use Rattle.trail_model.specs.declared.events.Event.{Event}
use Rattle.trail_model.specs.declared.events.Event.TheVariants as event

-- an event is the submit of what was asked
pub record SubmitsIt (r : Request) (e : Event) : Type 0 where
  pub event : e ≡ event.Submit r.host r.cid r.ordinal r.command

-- an event is a claim of what was asked, by this party
pub record ClaimsIt (party : ℕ) (r : Request) (e : Event) : Type 0 where
  pub event : e ≡ event.Claim party r.host r.ordinal r.place

-- some party's claim of what was asked
abbrev pub IsClaimed : Request → Event → Type 0
IsClaimed r e = (party : ℕ) × ClaimsIt party r e

-- an event ends the command that was asked for: it is the finish of a claim of it, it does it at once, or it withdraws it
abbrev pub EndsIt : Trail → Request → Event → Type 0
EndsIt trail r (event.Submit by cid ordinal cmd) = ⊥
EndsIt trail r (event.Claim by host ordinal sent) = ⊥
EndsIt trail r (event.Finish by claim answer) = IsSomeAnd (slice_get trail claim) (λ e. IsClaimed r e)
EndsIt trail r (event.Do by host ordinal sent answer aborts) = (sent ≡ r.place) ⊎ (aborts ≡ Some r.place)
EndsIt trail r (event.Take by cid posted) = ⊥
EndsIt trail r (event.Rest by) = ⊥

-- where a reply is posted, the command ended
abbrev pub IsPostedIn : Trail → Request → Stage → Type 0
IsPostedIn trail r Queued = Unit {0}
IsPostedIn trail r Working = Unit {0}
IsPostedIn trail r (Posted place) = IsSomeAnd (slice_get trail place) (λ e. EndsIt trail r e)
IsPostedIn trail r Taken = Unit {0}

-- Each submit of the world is that of the trail at its place, each open claim that of the trail at its place, and where a
-- reply is posted the trail has the event that ended the command.
pub record IsTraced (trail : Trail) (w : World) : Type 0 where
  pub submits : AllByRecursion (λ (s : Submission). IsSomeAnd (slice_get trail s.request.place) (SubmitsIt s.request)) w.submits
  pub claims : AllByRecursion (λ (claim : OpenClaim). IsSomeAnd (slice_get trail claim.place) (ClaimsIt claim.party claim.request)) w.claims
  pub posted : AllByRecursion (λ (s : Submission). IsPostedIn trail s.request s.stage) w.submits
