-- How submits and open claims of a world belong together. This project's own.
use Rattle.std.specs.Prelude.{◌≡◌, ◌≢◌, ℕ, ◌+◌, ◌<◌, ◌≤◌, ◌==◌, Bool, if◌then◌else◌, IsTrue, List, [], ◌∷◌, Option, Some, find, is_some, map}
use Rattle.std.specs.List.{AllByRecursion}
use Rattle.trail_model.specs.Each.{EachTwo}
use Rattle.trail_model.specs.World.{OpenClaim, Posted, Queued, Request, Stage, Submission, Taken, Working, World, is_working, submit_at}

-- what the submits ask for, in order
abbrev pub requests_of : List Submission → List Request
requests_of submits = map (λ (s : Submission). s.request) submits

-- the claim of the submit at a place
abbrev pub claim_for : List OpenClaim → ℕ → Option OpenClaim
claim_for claims place = find (λ (claim : OpenClaim). claim.request.place == place) claims

-- the most events that a command at this stage has had, its submit and the rest before it counted
abbrev pub most_events : Stage → ℕ
most_events Queued = 2
most_events Working = 3
most_events (Posted place) = 4
most_events Taken = 5

abbrev pub most_events_of : List Submission → ℕ
most_events_of [] = 0
most_events_of (s ∷ submits) = most_events s.stage + most_events_of submits

-- the rest behind all events of commands, where the device is at rest
abbrev pub rest_events : Bool → ℕ
rest_events at_rest = if at_rest then 1 else 0

-- places are in order and lie in the trail
pub record AreInOrder (count : ℕ) (requests : List Request) : Type 0 where
  pub below : AllByRecursion (λ (r : Request). r.place < count) requests
  pub ascending : EachTwo (λ (a b : Request). a.place < b.place) requests

-- what a command names was submitted before it
abbrev pub NamesEarlier : Request → Type 0
NamesEarlier r = (place : ℕ) → r.names ≡ Some place → place < r.place

-- an open claim lies in the trail, and its submit is being worked on
pub record ClaimLinked (w : World) (claim : OpenClaim) : Type 0 where
  pub place : claim.place < w.count
  pub submit : submit_at w.submits claim.request.place
      ≡ Some (let s : Submission = record { request = claim.request; stage = Working } in s)

-- two open claims are of different places, parties and submits
pub record AreDifferent (a b : OpenClaim) : Type 0 where
  pub places : a.place ≢ b.place
  pub parties : a.party ≢ b.party
  pub submits : a.request.place ≢ b.request.place

-- Places differ and lie in the trail. Each open claim finds its submit being worked on, and each submit that is being worked
-- on has its claim. No command has more than five events, and beside them the trail has at most one rest.
pub record IsLinked (w : World) : Type 0 where
  pub places : AreInOrder w.count (requests_of w.submits)
  pub names : AllByRecursion NamesEarlier (requests_of w.submits)
  pub claims : AllByRecursion (ClaimLinked w) w.claims
  pub different : EachTwo AreDifferent w.claims
  pub working : (place : ℕ) (s : Submission) → submit_at w.submits place ≡ Some s → IsTrue (is_working s.stage)
      → IsTrue (is_some (claim_for w.claims place))
  pub events : w.count ≤ most_events_of w.submits + rest_events w.at_rest
