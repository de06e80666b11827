-- What one line adds to code, and how far a text is assembled. Private contracts speak of these.
use Rattle.std.specs.Prelude.{◌≡◌, ℕ, ◌+◌, ◌*◌, ◌<◌, ◌≤◌, List, ◌++◌, length}
use Rattle.cp_base.specs.declared.limits.TheConstants.{MAX_PROGRAM}
use Rattle.bpf_isa.specs.declared.insn.Insn.{Insn}
use Rattle.bpf_model.specs.Encoding.{encoding, IsAllowed}
use Rattle.bpf_asm.specs.Line.{insn_line}
use Rattle.bpf_asm.specs.Text.{AreAllowed, text_of, encodings}

-- a line is that of an instruction, whose bytes were added to the code
pub record Adds (line old new : List ℕ) : Type 0 where
  pub insn : Insn
  pub allowed : IsAllowed insn
  pub spelled : line ≡ insn_line insn
  pub bytes : new ≡ old ++ encoding insn
  pub limit : length new ≤ MAX_PROGRAM

-- a line is none of an instruction, or the code would be too long with its bytes
abbrev pub AddsNothing : List ℕ → List ℕ → Type 0
AddsNothing line old = (i : Insn) → IsAllowed i → line ≡ insn_line i → MAX_PROGRAM < length (old ++ encoding i)

-- what stands before the rest of a text is the lines of instructions whose code it is
pub record IsAssembledTo (text rest code : List ℕ) (line : ℕ) : Type 0 where
  pub before : List Insn
  pub lines : text ≡ text_of before ++ rest
  pub allowed : AreAllowed before
  pub bytes : code ≡ encodings before
  pub counted : line ≡ length before + 1
  pub limit : length code ≤ MAX_PROGRAM
  pub few : 8 * line ≤ length code + 8
