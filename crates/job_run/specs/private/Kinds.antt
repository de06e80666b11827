-- What work of each kind finds, and what it leaves, as the parts of the code hand it on. This project's own.
use Rattle.std.specs.Prelude.{◌≡◌, ℕ, ◌≤◌, List, [], ◌∷◌, length, map, replicate, Option, Some}
use Rattle.std.specs.List.{AllByRecursion}
use Rattle.cp_base.specs.Answer.{Answer, answer_of}
use Rattle.cp_base.specs.Buffer.{Buffer}
use Rattle.cp_base.specs.Checks.{destination_of}
use Rattle.cp_base.specs.Configuration.{bare}
use Rattle.cp_base.specs.Region.{Region}
use Rattle.cp_base.specs.Sharing.{source_region}
use Rattle.cp_base.specs.declared.lists.CopySource.{CopySource}
use Rattle.cp_base.specs.declared.lists.MemRange.{MemRange}
use Rattle.cp_base.specs.declared.region.SpaceId.{SpaceId}
use Rattle.cp_base.specs.declared.replies.Piece.{Piece}
use Rattle.bpf_isa.specs.declared.insn.Insn.{Insn}
use Rattle.bpf_model.specs.Address.{stack_len}
use Rattle.confined_view.specs.declared.window.Window.{Window}
use Rattle.device_model.specs.Builtin.{builtin_at}
use Rattle.device_model.specs.Execution.{Executable, Loaded, OfDevice}
use Rattle.trail_model.specs.Pieces.{RegionBytes}
use Rattle.job_run.specs.Held.{IsAlone, IsBeside, IsSource}
use Rattle.job_run.specs.Works.{AreOfRanges, RunsDecoded, byte_counts, piece_regions, region_bytes}
use Rattle.job_run.specs.declared.work.Worked.{Worked}

-- work leaves an answer, and pieces with these bytes
pub record Leaves (done : Worked) (told : Answer) (left : List RegionBytes) : Type 0 where
  pub answer : answer_of done.reply ≡ told
  pub pieces : region_bytes done.pieces.items ≡ left

-- a read finds one piece, and a reply without bytes that has room for those of the piece
pub record IsReadable (pieces : List Piece) (reply : Buffer) : Type 0 where
  pub one : length pieces ≡ 1
  pub empty : reply.items ≡ []
  pub room : (piece : RegionBytes) → region_bytes pieces ≡ piece ∷ [] → length piece.bytes ≤ reply.spare

-- a write of so many bytes finds one piece that has as many, and a reply without bytes
pub record IsWritable (pieces : List Piece) (reply : Buffer) (len : ℕ) : Type 0 where
  pub one : length pieces ≡ 1
  pub counts : byte_counts (region_bytes pieces) ≡ len ∷ []
  pub empty : reply.items ≡ []

-- where sources of a copy lie, with blocks of this length
abbrev pub source_regions : ℕ → List CopySource → List Region
source_regions block from = map (source_region (bare block 1 1)) from

-- a copy to a place finds the piece that begins there, and the bytes of its sources in others; and a reply without bytes
pub record IsCopyable (pieces : List Piece) (reply : Buffer) (block : ℕ) (space : SpaceId) (start : ℕ) (from : List CopySource) : Type 0 where
  pub alone : IsAlone (destination_of space start (source_regions block from)) (piece_regions pieces)
  pub whole : AllByRecursion (λ (piece : RegionBytes). length piece.bytes ≡ piece.region.len) (region_bytes pieces)
  pub held : AllByRecursion (λ source. IsSource (region_bytes pieces) (source_region (bare block 1 1) source)) from
  pub beside : AllByRecursion (λ source. IsBeside (destination_of space start (source_regions block from)) (source_region (bare block 1 1) source)) from
  pub empty : reply.items ≡ []

-- what runs is what the slot has, where it is a program of the device
abbrev pub IsOfSlot : Executable → ℕ → Type 0
IsOfSlot (Loaded code) slot = Unit {0}
IsOfSlot (OfDevice program) slot = builtin_at slot ≡ Some program

-- an execution finds its ranges as pieces, its code, no window but room for one on each piece, and a stack of zeros
pub record IsExecutable (runs : Executable) (ranges : List MemRange) (pieces : List Piece) (windows : List Window) (room : ℕ)
    (code : Option (List (Option Insn))) (stack : Buffer) (slot budget : ℕ) : Type 0 where
  pub of_ranges : AreOfRanges pieces ranges
  pub no_window : windows ≡ []
  pub has_room : length pieces ≤ room
  pub decoded : RunsDecoded runs code
  pub of_slot : IsOfSlot runs slot
  pub zeros : stack.items ≡ replicate stack_len 0
  pub some_budget : 1 ≤ budget
