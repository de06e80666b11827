-- The checks of every command, each list in the order in which they are made, over whole numbers: no
-- sum or product wraps. Source: the NVMe command sets in outline; the checks, their order, the
-- statuses and the limits are this project's own.
use Rattle.std.specs.Prelude.{ℕ, ◌+◌, ◌*◌, ◌%◌, ◌==◌, nat_lt, Bool, true, false, not, ◌&&◌, ◌||◌, if◌then◌else◌, List, [], ◌∷◌, ◌++◌, Option, Some, None, unwrap_or, is_none, is_some, length, map, option_map}
use Rattle.std.specs.List.{list_any, list_all}
use Rattle.std.specs.Option.{option_or}
use Rattle.cp_base.specs.Answer.{Answer, only_status}
use Rattle.cp_base.specs.Checks.{Check, refuse, byte_checks, block_checks, write_checks, copy_checks, set_checks, first_failing}
use Rattle.cp_base.specs.Configuration.{Configuration, size_of}
use Rattle.cp_base.specs.Pieces.{piece}
use Rattle.cp_base.specs.Sets.{ranges_under}
use Rattle.cp_base.specs.Sharing.{source_region, range_region}
use Rattle.cp_base.specs.declared.limits.TheConstants.{MAX_PROGRAM, MAX_SPAN, MAX_TRANSFER, UNIT}
use Rattle.cp_base.specs.declared.region.SpaceId.TheVariants as space
use Rattle.cp_base.specs.declared.commands.Command.{Command}
use Rattle.cp_base.specs.declared.commands.Command.TheVariants as command
use Rattle.cp_base.specs.declared.replies.Status.TheVariants as status
use Rattle.bpf_model.specs.Walk.{bad_place, is_well_formed}
use Rattle.device_model.specs.Builtin.{builtin_at}
use Rattle.device_model.specs.State.{State, Slot, Empty, Holding, slot_at}

-- what a slot is: no such slot counts as empty here, since an earlier check tells it
abbrev pub is_empty_slot : Option Slot → Bool
is_empty_slot None = true
is_empty_slot (Some Empty) = true
is_empty_slot (Some (Holding bytes active)) = false

abbrev pub is_active : Option Slot → Bool
is_active None = false
is_active (Some Empty) = false
is_active (Some (Holding bytes active)) = active

-- the bytes of a slot's program, of which some may be missing
abbrev pub slot_bytes : Option Slot → List (Option ℕ)
slot_bytes None = []
slot_bytes (Some Empty) = []
slot_bytes (Some (Holding bytes active)) = bytes

-- whether no byte is missing from a program that is there
abbrev pub is_complete : Option Slot → Bool
is_complete slot = not (is_empty_slot slot) && list_all (λ (byte : Option ℕ). is_some byte) (slot_bytes slot)

-- the checks of a piece of len bytes at a place of a program of that size
abbrev pub load_checks : Option Slot → ℕ → ℕ → ℕ → List Check
load_checks slot size at len =
    refuse (is_none slot) status.NoSuchSlot
    ∷ refuse (is_active slot) status.SlotActive
    ∷ refuse (nat_lt size UNIT || (not (size % UNIT == 0) || (len == 0))) status.BadLength
    ∷ refuse (nat_lt MAX_PROGRAM size || nat_lt MAX_TRANSFER len) status.TooLong
    ∷ refuse (nat_lt size (at + len)) status.OutOfRange
    ∷ refuse (is_complete slot) status.SlotComplete
    ∷ refuse (not (is_empty_slot slot) && not (length (slot_bytes slot) == size)) status.SizeDiffers
    ∷ refuse (list_any (λ (byte : Option ℕ). is_some byte) (piece (slot_bytes slot) at len)) status.PieceOverlap ∷ []

abbrev pub unload_checks : Option Slot → List Check
unload_checks slot =
    refuse (is_none slot) status.NoSuchSlot
    ∷ refuse (is_empty_slot slot) status.SlotEmpty
    ∷ refuse (is_active slot) status.SlotActive ∷ []

-- the checks of an activation but for that of the program itself
abbrev pub activate_checks : Option Slot → List Check
activate_checks slot = unload_checks slot ++ refuse (not (is_complete slot)) status.SlotPartial ∷ []

abbrev pub deactivate_checks : Option Slot → List Check
deactivate_checks slot =
    refuse (is_none slot) status.NoSuchSlot
    ∷ refuse (is_empty_slot slot) status.SlotEmpty
    ∷ refuse (not (is_active slot)) status.SlotInactive ∷ []

-- the checks that a slot's program can be executed: those of the device itself always can
abbrev pub runnable_checks : State → ℕ → List Check
runnable_checks s slot = if is_none (builtin_at slot) then deactivate_checks (slot_at s slot) else []

-- the checks of an execution of a slot's program on a set's ranges
abbrev pub execute_checks : Configuration → State → ℕ → ℕ → ℕ → List Check
execute_checks c s slot set budget =
    runnable_checks s slot
    ++ refuse (is_none (ranges_under s.sets set)) status.NoSuchSet
    ∷ refuse ((budget == 0) || nat_lt c.budget budget) status.BudgetRange ∷ []

-- the checks of a command in a state, in their order
abbrev pub checks_of : Configuration → State → Command → List Check
checks_of c s (command.NvmRead ns lba count) = block_checks c ns lba count MAX_TRANSFER
checks_of c s (command.NvmWrite ns lba bytes) = write_checks c ns lba (length bytes.items) MAX_TRANSFER
checks_of c s (command.NvmZeroes ns lba count) = block_checks c ns lba count MAX_SPAN
checks_of c s (command.NvmCopy ns lba from) =
    copy_checks c (space.Nvm ns) (lba * c.block) c.block (map (source_region c) from)
checks_of c s (command.MemRead ns at len) = byte_checks (size_of c (space.Mem ns)) at len MAX_TRANSFER
checks_of c s (command.MemWrite ns at bytes) =
    byte_checks (size_of c (space.Mem ns)) at (length bytes.items) MAX_TRANSFER
checks_of c s (command.MemFill ns at len value) = byte_checks (size_of c (space.Mem ns)) at len MAX_SPAN
checks_of c s (command.MemCopy ns at from) = copy_checks c (space.Mem ns) at 1 (map (source_region c) from)
checks_of c s (command.SetCreate ranges) = set_checks c (length s.sets) (map range_region ranges)
checks_of c s (command.SetDelete set) = refuse (is_none (ranges_under s.sets set)) status.NoSuchSet ∷ []
checks_of c s (command.Load slot size at bytes) = load_checks (slot_at s slot) size at (length bytes.items)
checks_of c s (command.Unload slot) = unload_checks (slot_at s slot)
checks_of c s (command.Activate slot) = activate_checks (slot_at s slot)
checks_of c s (command.Deactivate slot) = deactivate_checks (slot_at s slot)
checks_of c s (command.Execute slot set p1 p2 budget) = execute_checks c s slot set budget
checks_of c s (command.Abort cid) = []

-- the bytes of a slot's program; a byte that is missing counts as 0
abbrev pub code_of : Option Slot → List ℕ
code_of slot = map (λ (byte : Option ℕ). unwrap_or byte 0) (slot_bytes slot)

-- the check of a program that is to be active: it is told with the first place that has no instruction
abbrev pub program_refusal : Option Slot → Option Answer
program_refusal slot =
    if is_well_formed (code_of slot) then None else Some (record { status = status.BadProgram; result = bad_place (code_of slot); bytes = [] })

-- the check of a program, where the command is one that makes a program active
abbrev pub refusal_of_program : State → Command → Option Answer
refusal_of_program s (command.Activate slot) = program_refusal (slot_at s slot)
refusal_of_program s _ = None

-- the answer of the first check that fails, where one does; that of the program comes last
abbrev pub refusal_of : Configuration → State → Command → Option Answer
refusal_of c s cmd = option_or (option_map only_status (first_failing (checks_of c s cmd))) (refusal_of_program s cmd)
