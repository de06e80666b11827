-- Which commands may be picked, by the parts of a device. This project's own.
use Rattle.std.specs.Prelude.{◌≡◌, ℕ, ◌+◌, ◌<◌, ◌==◌, Bool, false, not, ◌||◌, if◌then◌else◌, List, Option, None, Some, IsSome, filter, is_some, length, option_and_then, slice_get}
use Rattle.std.specs.List.{list_any}
use Rattle.cp_base.specs.Commands.{nature_of}
use Rattle.cp_base.specs.Configuration.{Configuration}
use Rattle.cp_base.specs.Contents.{Contents, bytes_in}
use Rattle.cp_base.specs.Region.{Region}
use Rattle.cp_base.specs.Sharing.{IsIn}
use Rattle.cp_base.specs.Touching.{meets}
use Rattle.cp_base.specs.declared.commands.Command.{Command}
use Rattle.cp_base.specs.declared.commands.Nature.{Nature}
use Rattle.cp_base.specs.declared.commands.Nature.TheVariants as nature
use Rattle.cp_base.specs.declared.region.SpaceId.{SpaceId}
use Rattle.cp_base.specs.declared.spans.Footprint.{Footprint}
use Rattle.device_model.specs.Checks.{refusal_of}
use Rattle.device_model.specs.Memory.{moves_bytes}
use Rattle.trail_model.specs.Footprints.{carried_regions, execution_of, footprint_of, writes_of}
use Rattle.trail_model.specs.Lawful.{Trail}
use Rattle.trail_model.specs.World.{is_number}
use Rattle.core_model.specs.Asked.{Asked, asked_at}
use Rattle.core_model.specs.Parts.{KeptFootprint, Parts, WaitingSubmit, tables_in}

-- whether what a command touches meets nothing that is kept
abbrev pub is_clear_of : List KeptFootprint → Footprint → Bool
is_clear_of kept touched = not (list_any (λ (x : KeptFootprint). meets touched x.footprint) kept)

-- whether what is kept holds a slot
abbrev pub is_slot_kept : List KeptFootprint → ℕ → Bool
is_slot_kept kept slot = list_any (λ (x : KeptFootprint). is_number slot x.footprint.slot) kept

-- whether what is kept holds a set
abbrev pub is_set_kept : List KeptFootprint → ℕ → Bool
is_set_kept kept set = list_any (λ (x : KeptFootprint). is_number set x.footprint.set) kept

-- whether a command of this nature would change a slot or a set that is held
abbrev pub changes_kept_by : List KeptFootprint → Nature → Bool
changes_kept_by kept nature.Reads = false
changes_kept_by kept nature.Writes = false
changes_kept_by kept nature.Copies = false
changes_kept_by kept (nature.Executes slot set) = false
changes_kept_by kept nature.Builds = false
changes_kept_by kept nature.Arranges = false
changes_kept_by kept (nature.Deletes set) = is_set_kept kept set
changes_kept_by kept (nature.Stops slot) = is_slot_kept kept slot
changes_kept_by kept (nature.Withdraws cid) = false

-- whether a command would change a slot or a set that is held
abbrev pub changes_kept : List KeptFootprint → Command → Bool
changes_kept kept cmd = changes_kept_by kept (nature_of cmd)

-- what a command touches, by the tables of the parts
abbrev pub touched_by : Configuration → Parts → Command → Footprint
touched_by c p cmd = footprint_of c (execution_of (tables_in p) cmd).ranges cmd

-- the regions that are taken out for a command, by the tables of the parts: those that it may write
abbrev pub taken_for : Configuration → Parts → Command → List Region
taken_for c p cmd = writes_of c (execution_of (tables_in p) cmd).ranges cmd

-- the regions whose bytes a command carries, by the tables of the parts
abbrev pub carried_for : Configuration → Parts → Command → List Region
carried_for c p cmd = carried_regions c (execution_of (tables_in p) cmd).ranges cmd

-- the bytes of a region are at home, and are those of these contents
pub record AreAtHome (p : Parts) (contents : Contents) (r : Region) : Type 0 where
  pub len : length (bytes_in contents r) ≡ r.len
  pub there : (space : SpaceId) (offset : ℕ) → IsIn r space offset → IsSome (p.store space offset)
  pub bytes : (k : ℕ) → k < r.len → slice_get (bytes_in contents r) k ≡ p.store r.space (r.start + k)

-- whether a queued command may be picked: a check fails, or it meets nothing that is kept and changes nothing that is held
abbrev pub may_pick : Configuration → Parts → Command → Bool
may_pick c p cmd =
    is_some (refusal_of c (tables_in p) cmd)
    || (if moves_bytes cmd then is_clear_of p.kept (touched_by c p cmd) else not (changes_kept p.kept cmd))

-- the same of what a submit asks for, where there is one
abbrev pub may_pick_asked : Configuration → Parts → Option Asked → Bool
may_pick_asked c p None = false
may_pick_asked c p (Some asked) = may_pick c p asked.command

-- those that wait and may be picked, in order of submission, where commands are read from the trail
abbrev pub pickable_waiting : Configuration → Parts → Trail → List WaitingSubmit
pickable_waiting c p trail = filter (λ (x : WaitingSubmit). may_pick_asked c p (asked_at trail x.sent)) p.waiting

-- whether a submit waits
abbrev pub is_waiting : List WaitingSubmit → ℕ → Bool
is_waiting waiting sent = list_any (λ (x : WaitingSubmit). x.sent == sent) waiting

-- what a command withdraws that names this: the submit that it names, where that still waits
abbrev pub withdrawn_waiting : List WaitingSubmit → Option ℕ → Option ℕ
withdrawn_waiting waiting names = option_and_then (λ place. if is_waiting waiting place then Some place else None) names
