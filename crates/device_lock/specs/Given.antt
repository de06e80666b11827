-- What a party is given that turns to a command. This project's own.
use Rattle.std.specs.Prelude.{◌≡◌, ℕ, IsSomeAnd, length, slice_get}
use Rattle.trail_model.specs.World.{Submission, pickable_among}
use Rattle.device_core.specs.Gives.{Claims, Gives, world_in}
use Rattle.device_core.specs.Recorded.{Recorded}
use Rattle.device_core.specs.declared.answers.Picked.TheVariants as picked
use Rattle.device_lock.specs.declared.kept.Given.{Given}
use Rattle.device_lock.specs.declared.kept.Given.TheVariants as given

-- What a party is given that turns to the first command that may be picked, as the core gives it; of a claim the host and the ordinal
-- of its command too.
abbrev pub GivesFirst : Recorded → ℕ → Given → Recorded → Type 0
GivesFirst old by (given.Claimed work claim host ordinal) new =
    (claim ≡ length old.trail)
    × IsSomeAnd (slice_get (pickable_among old.config (world_in old)) 0)
    (λ (s : Submission). Claims old new by s work × (s.request.host ≡ host) × (s.request.ordinal ≡ ordinal))
GivesFirst old by given.Did new = Gives old by 0 picked.Did new
GivesFirst old by given.Nothing new = Gives old by 0 picked.Nothing new
GivesFirst old by given.Rested new = Gives old by 0 picked.Rested new
