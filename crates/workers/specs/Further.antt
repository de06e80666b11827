-- How a pass comes further: what its party has done meanwhile. This project's own.
use Rattle.std.specs.Prelude.{◌≡◌, ℕ, ◌+◌, ◌≤◌, IsTrue, List, [], ◌∷◌, ◌++◌, map}
use Rattle.history_model.specs.Plain.{PlainItem}
use Rattle.seat_lock.specs.Passes.{made_by, party_of}
use Rattle.trail_model.specs.Accounts.{Outstanding, account_of}
use Rattle.trail_model.specs.Lawful.{Trail}
use Rattle.trail_model.specs.World.{queued_among}
use Rattle.trail_model.specs.declared.events.Event.{Event}
use Rattle.trail_model.specs.declared.events.Event.TheVariants as event
use Rattle.schedule_model.specs.Deeds.{items_by}
use Rattle.device_lock.specs.Names.{DeviceName}
use Rattle.device_lock.specs.Passes.{DevicePass, IsBack, IsIdle, world_seen}

-- how many rests an event is
abbrev pub rests_by : Event → ℕ
rests_by (event.Submit by cid ordinal cmd) = 0
rests_by (event.Claim by host ordinal sent) = 0
rests_by (event.Finish by claim answer) = 0
rests_by (event.Do by host ordinal sent answer aborts) = 0
rests_by (event.Take by cid posted) = 0
rests_by (event.Rest by) = 1

-- how many rests there are among events
abbrev pub rests_in : Trail → ℕ
rests_in [] = 0
rests_in (e ∷ trail) = rests_by e + rests_in trail

-- A pass comes back idle. Meanwhile its party has submitted and taken exactly what these items say, in order; beside
-- that it added claims, finishes and dos alone, and at most so many rests.
pub record IsFurther (most : ℕ) (d : DeviceName) (p q : DevicePass) (items : List PlainItem) : Type 0 where
  pub back : IsBack d p q
  pub idle : IsIdle q
  pub more : Trail
  pub made : made_by q ≡ made_by p ++ more
  pub did : items_by (party_of p) more ≡ items
  pub few : rests_in more ≤ most

-- the outstanding commands of a pass's party, by what the party made
abbrev pub outstanding_by : DevicePass → List Outstanding
outstanding_by p = (account_of (made_by p)).outstanding

-- the identifiers of these commands
abbrev pub cids_by : DevicePass → List ℕ
cids_by p = map (λ (o : Outstanding). o.cid) (outstanding_by p)

-- in the trail that the pass has seen nothing is queued and the device rests
pub record SeesRest (d : DeviceName) (p : DevicePass) : Type 0 where
  pub at_rest : IsTrue (world_seen d p).at_rest
  pub none : queued_among (world_seen d p).submits ≡ []
