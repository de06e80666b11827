-- What holds of open claims while they are carried out. This project's own.
use Rattle.std.specs.Prelude.{◌≡◌, ℕ, ◌||◌, IsTrue, IsFalse, Some, None, is_some}
use Rattle.cp_base.specs.Configuration.{Configuration}
use Rattle.cp_base.specs.Sets.{ranges_under}
use Rattle.cp_base.specs.Touching.{meets}
use Rattle.device_model.specs.Builtin.{builtin_at}
use Rattle.device_model.specs.Checks.{is_active, refusal_of}
use Rattle.device_model.specs.Execution.{executable_in}
use Rattle.device_model.specs.Memory.{moves_bytes}
use Rattle.device_model.specs.State.{State, slot_at}
use Rattle.trail_model.specs.Footprints.{Execution, cut_for, execution_of}
use Rattle.trail_model.specs.World.{OpenClaim, claimed_footprint}

-- An open claim finds the device as it was when it was made: its command passes its checks, what it runs and on which
-- ranges is the same, and so are the bytes of its pieces.
pub record FindsItself (c : Configuration) (s : State) (claim : OpenClaim) : Type 0 where
  pub passes : refusal_of c s claim.request.command ≡ None
  pub moves : IsTrue (moves_bytes claim.request.command)
  pub execution : execution_of s claim.request.command ≡ claim.execution
  pub pieces : cut_for c s claim.request.command ≡ claim.pieces

-- a slot can be executed, what it runs is this, and these are the ranges of a set
pub record HoldsTables (s : State) (slot set : ℕ) (x : Execution) : Type 0 where
  pub active : IsTrue (is_some (builtin_at slot) || is_active (slot_at s slot))
  pub code : executable_in s slot ≡ x.runs
  pub ranges : ranges_under s.sets set ≡ Some x.ranges

-- two claims do not meet
abbrev pub DoNotMeet : Configuration → OpenClaim → OpenClaim → Type 0
DoNotMeet c earlier later = IsFalse (meets (claimed_footprint c later) (claimed_footprint c earlier))
