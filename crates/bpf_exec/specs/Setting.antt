-- What a run is about: code, ranges and a memory that decoded code and windows stand for. This project's own.
use Rattle.std.specs.Prelude.{◌≡◌, ℕ, pos, List, Option}
use Rattle.cp_base.specs.declared.lists.MemRange.{MemRange}
use Rattle.bpf_isa.specs.declared.insn.Insn.{Insn}
use Rattle.bpf_model.specs.Memory.{Memory, windows_of, read_write_of, AreApart}
use Rattle.bpf_model.specs.Step.{Program}
use Rattle.bpf_decode.specs.Slots.{insn_at}
use Rattle.confined_view.specs.Touched.{Touched}

-- the program of decoded code
abbrev pub decoded_program : List (Option Insn) → Program
decoded_program slots place = insn_at slots (pos place)

-- the program has the decoded instructions, no two of the ranges share a byte, the memory's bytes of the ranges are the
-- windows, and each range is read-write exactly where its window is writable
pub record Describes (program : Program) (ranges : List MemRange) (memory : Memory) (slots : List (Option Insn)) (t : Touched) : Type 0 where
  pub code : (place : ℕ) → insn_at slots (pos place) ≡ program place
  pub apart : AreApart ranges
  pub bytes : windows_of memory ranges ≡ t.windows
  pub access : read_write_of ranges ≡ t.writable
