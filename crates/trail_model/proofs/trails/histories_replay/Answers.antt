use Rattle.std.proofs.Common.{◌≡◌, ◌∙◌, ℕ, Bool, true, false, Option, Some, None, sym, ap, if◌then◌else◌, slice_get}
use Rattle.cp_base.specs.Contents.{bytes_of}
use Rattle.trail_model.specs.Claims.{FindsItself}
use Rattle.trail_model.specs.Footprints.{Execution, carried_regions}
use Rattle.trail_model.specs.Lawful.{world_of}
use Rattle.trail_model.specs.Pieces.{pieces_of}
use Rattle.trail_model.specs.World.{OpenClaim, is_out}
use Rattle.trail_model.proofs.Sound.{sound-world}
use Rattle.trail_model.proofs.Submits.{each-weaker, none-some}
use Rattle.trail_model.proofs.trails.histories_replay.Goals as goal

pub returns : goal.returns
returns c = record {
  replays = λ c commands trail lawful. (sound-world c commands trail lawful).replays;
  at_home = λ c trail s k byte e. there (is_out c (world_of c trail).claims s k) (slice_get (bytes_of (world_of c trail).state.contents s) k) byte e;
  carried = λ c commands trail lawful.
      each-weaker (FindsItself c (world_of c trail).state)
      (λ (claim : OpenClaim). claim.pieces ≡ pieces_of (world_of c trail).state.contents (carried_regions c claim.execution.ranges claim.request.command))
      (λ claim h. sym (sym (ap (λ (x : Execution). pieces_of (world_of c trail).state.contents (carried_regions c x.ranges claim.request.command)) h.execution) ∙ h.pieces))
      (world_of c trail).claims (sound-world c commands trail lawful).own;
  fits = λ c commands trail lawful. (sound-world c commands trail lawful).fits;
}
  where
    there : (out : Bool) (o : Option ℕ) (byte : ℕ) → (if out then None else o) ≡ Some byte → o ≡ Some byte
    there true o byte e = absurd (none-some byte e)
    there false o byte e = e
