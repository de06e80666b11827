-- What there has to be where a history and shows are printed: short answers, bytes at home, and room. This project's own.
use Rattle.std.specs.Prelude.{ℕ, ◌+◌, ◌<◌, ◌≤◌, List, All, IsSome, length, unwrap_or}
use Rattle.std.specs.List.{AllByRecursion}
use Rattle.cp_base.specs.Buffer.{Buffer}
use Rattle.cp_base.specs.Configuration.{Configuration, size_of}
use Rattle.cp_base.specs.declared.limits.TheConstants.{MAX_TRANSFER}
use Rattle.cp_base.specs.declared.region.SpaceId.{SpaceId}
use Rattle.script_cmds.specs.declared.item.Show.{Show}
use Rattle.trail_model.specs.World.{Completion, home}
use Rattle.device_core.specs.Gives.{world_in}
use Rattle.device_core.specs.Recorded.{Recorded}

-- no answer has more bytes than a host moves by one command
abbrev pub AreShort : List Completion → Type 0
AreShort history = AllByRecursion (λ (done : Completion). length done.answer.bytes ≤ MAX_TRANSFER) history

-- each show is of at most 8,192 bytes inside a namespace
abbrev pub AreInside : Configuration → List Show → Type 0
AreInside c shows =
    All (λ (show : Show). (show.range.len ≤ MAX_TRANSFER) × (show.range.start + show.range.len ≤ unwrap_or (size_of c show.range.space) 0)) shows

-- each byte of each namespace is at home
abbrev pub IsAllAtHome : Recorded → Type 0
IsAllAtHome d =
    (space : SpaceId) (offset : ℕ) → offset < unwrap_or (size_of d.config space) 0
    → IsSome (home d.config (world_in d) space offset)

-- there is room for this many bytes once the buffer is cleared
abbrev pub HasRoomFor : ℕ → Buffer → Type 0
HasRoomFor most buffer = most ≤ length buffer.items + buffer.spare
