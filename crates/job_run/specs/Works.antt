-- The work of a claimed command, and what it leaves. This project's own.
use Rattle.std.specs.Prelude.{◌≡◌, ℕ, pos, ◌≤◌, true, false, IsTrue, if◌then◌else◌, List, [], ◌∷◌, length, map, replicate, Option, Some, None, option_map, vec_capacity}
use Rattle.std.specs.List.{AllByRecursion}
use Rattle.cp_base.specs.Answer.{answer_of}
use Rattle.cp_base.specs.Configuration.{Configuration}
use Rattle.cp_base.specs.Region.{Region}
use Rattle.cp_base.specs.Sharing.{any_overlap, range_region, same_region}
use Rattle.cp_base.specs.declared.lists.MemRange.{MemRange}
use Rattle.cp_base.specs.declared.replies.Piece.{Piece}
use Rattle.bpf_isa.specs.declared.insn.Insn.{Insn}
use Rattle.bpf_model.specs.Address.{stack_len}
use Rattle.bpf_model.specs.Memory.{Memory}
use Rattle.bpf_model.specs.Walk.{instruction_at}
use Rattle.bpf_decode.specs.Slots.{insn_at}
use Rattle.device_model.specs.Checks.{refusal_of}
use Rattle.device_model.specs.Execution.{Executable, Loaded, OfDevice}
use Rattle.device_model.specs.Memory.{moves_bytes}
use Rattle.device_model.specs.State.{State}
use Rattle.trail_model.specs.Footprints.{Execution, carried_regions, execution_of, is_execution}
use Rattle.trail_model.specs.LocalEffects.{LocalEffect, local_effect, memory_among}
use Rattle.trail_model.specs.Pieces.{RegionBytes, carried}
use Rattle.job_run.specs.Held.{IsRange}
use Rattle.job_run.specs.declared.work.Work.{Work}
use Rattle.job_run.specs.declared.work.Worked.{Worked}

-- pieces as regions with their bytes, however the bytes are kept
abbrev pub region_bytes : List Piece → List RegionBytes
region_bytes pieces = map (λ (piece : Piece). record { region = piece.range; bytes = piece.bytes.items }) pieces

-- where pieces lie
abbrev pub piece_regions : List Piece → List Region
piece_regions pieces = map (λ (piece : Piece). piece.range) pieces

-- a piece with its new bytes, where one of these has them, and as it was, where none has
abbrev pub new_piece : List RegionBytes → RegionBytes → RegionBytes
new_piece [] piece = piece
new_piece (written ∷ others) piece = if same_region written.region piece.region then written else new_piece others piece

-- a piece with other bytes
abbrev pub piece_holding : List ℕ → RegionBytes → RegionBytes
piece_holding bytes piece = record { region = piece.region; bytes = bytes }

-- how many bytes each of the pieces has
abbrev pub byte_counts : List RegionBytes → List ℕ
byte_counts pieces = map (λ (piece : RegionBytes). length piece.bytes) pieces

-- pieces where one has new bytes, and each other is as it was
abbrev pub pieces_with : RegionBytes → List RegionBytes → List RegionBytes
pieces_with written pieces = map (λ (piece : RegionBytes). new_piece (written ∷ []) piece) pieces

-- pieces after an effect: those that it writes with their new bytes, and each other as it was
abbrev pub pieces_after : LocalEffect → List RegionBytes → List RegionBytes
pieces_after effect pieces = map (λ (piece : RegionBytes). new_piece effect.pieces piece) pieces

-- pieces are those of ranges, which have bytes and share none
pub record AreOfRanges (pieces : List Piece) (ranges : List MemRange) : Type 0 where
  pub regions : piece_regions pieces ≡ map range_region ranges
  pub each : AllByRecursion IsRange (piece_regions pieces)
  pub whole : AllByRecursion (λ (piece : RegionBytes). length piece.bytes ≡ piece.region.len) (region_bytes pieces)
  pub apart : any_overlap (map range_region ranges) ≡ false

-- the bytes of pieces as the memory of programs, where these are all the bytes that there are
abbrev pub memory_in : List Piece → Memory
memory_in pieces = memory_among (carried (region_bytes pieces))

-- decoded code is what an execution runs: the instructions of a loaded program, and none for a program of the device
abbrev pub RunsDecoded : Executable → Option (List (Option Insn)) → Type 0
RunsDecoded (Loaded code) (Some slots) = (place : ℕ) → insn_at slots (pos place) ≡ instruction_at code place
RunsDecoded (Loaded code) None = ⊥
RunsDecoded (OfDevice program) (Some slots) = ⊥
RunsDecoded (OfDevice program) None = Unit {0}

-- the ranges, the code, the stack and the room for windows of an execution
pub record FitsExecution (x : Execution) (w : Work) : Type 0 where
  pub set : w.set ≡ Some x.ranges
  pub code : RunsDecoded x.runs (option_map (λ decoded. decoded.value) w.code)
  pub apart : any_overlap (map range_region x.ranges) ≡ false
  pub stack : w.stack.items ≡ replicate stack_len 0
  pub windows : length w.pieces.items ≤ vec_capacity w.windows

-- work of a command that moves bytes and passes its checks, with the pieces that it carries out of a state
pub record IsWork (c : Configuration) (s : State) (w : Work) : Type 0 where
  pub block : c.block ≡ w.block
  pub passes : refusal_of c s w.command.value ≡ None
  pub moves : IsTrue (moves_bytes w.command.value)
  pub regions : piece_regions w.pieces.items ≡ carried_regions c (execution_of s w.command.value).ranges w.command.value
  pub whole : AllByRecursion (λ (piece : RegionBytes). length piece.bytes ≡ piece.region.len)
      (region_bytes w.pieces.items)
  pub ranges : AllByRecursion IsRange (piece_regions w.pieces.items)
  pub no_windows : w.windows.items ≡ []
  pub no_reply : w.reply.items ≡ []
  pub reply : length (local_effect c (execution_of s w.command.value) (region_bytes w.pieces.items) w.command.value).answer.bytes ≤ w.reply.spare
  pub execution : is_execution w.command.value ≡ true → FitsExecution (execution_of s w.command.value) w

-- the local effect of work, told and put into the pieces
pub record IsWorkDone (c : Configuration) (s : State) (w : Work) (done : Worked) : Type 0 where
  pub answer : answer_of done.reply
      ≡ (local_effect c (execution_of s w.command.value) (region_bytes w.pieces.items) w.command.value).answer
  pub pieces : region_bytes done.pieces.items
      ≡ pieces_after (local_effect c (execution_of s w.command.value) (region_bytes w.pieces.items) w.command.value)
      (region_bytes w.pieces.items)
