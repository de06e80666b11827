-- The works of the open claims of a device. This project's own.
use Rattle.std.specs.Prelude.{◌≡◌, ℕ, ◌≤◌, ◌==◌, Bool, true, false, if◌then◌else◌, List, [], ◌∷◌}
use Rattle.cp_base.specs.Configuration.{Configuration}
use Rattle.cp_base.specs.declared.limits.TheConstants.{MAX_COMMANDS}
use Rattle.trail_model.specs.Lawful.{IsLawful}
use Rattle.trail_model.specs.World.{OpenClaim}
use Rattle.device_core.specs.Gives.{IsWorkOf, world_in}
use Rattle.device_core.specs.Recorded.{Recorded}
use Rattle.step_driver.specs.declared.running.Held.{Held}

-- the work of an open claim is held, under the claim's party and place
pub record IsHeldFor (c : Configuration) (claim : OpenClaim) (h : Held) : Type 0 where
  pub party : h.by ≡ claim.party
  pub place : h.claim ≡ claim.place
  pub work : IsWorkOf c claim h.work

-- the work of each open claim is held, in the order of the claims
abbrev pub AreHeld : Configuration → List OpenClaim → List Held → Type 0
AreHeld c [] [] = Unit {0}
AreHeld c [] (h ∷ held) = ⊥
AreHeld c (claim ∷ claims) [] = ⊥
AreHeld c (claim ∷ claims) (h ∷ held) = IsHeldFor c claim h × AreHeld c claims held

-- a device for at most the most commands, whose trail is lawful, and the works of its open claims
pub record HoldsWorks (d : Recorded) (held : List Held) : Type 0 where
  pub few : d.commands ≤ MAX_COMMANDS
  pub lawful : IsLawful d.config d.commands d.trail
  pub works : AreHeld d.config (world_in d).claims held

-- whether none of these works is that of a party
abbrev pub none_by : List Held → ℕ → Bool
none_by [] party = true
none_by (h ∷ held) party = if h.by == party then false else none_by held party
