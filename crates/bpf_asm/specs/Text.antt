-- The one text of code, and the first faulty line of a text. This project's own.
use Rattle.std.specs.Prelude.{◌≡◌, ℕ, ◌+◌, ◌/◌, ◌<◌, ◌≤◌, List, [], ◌∷◌, ◌++◌, length, Option, Some, None}
use Rattle.std.specs.List.{flat_map, range_with_len}
use Rattle.cp_base.specs.declared.limits.TheConstants.{MAX_PROGRAM}
use Rattle.cp_text.specs.HexText.{AreBytes}
use Rattle.bpf_isa.specs.declared.insn.Insn.{Insn}
use Rattle.bpf_model.specs.Encoding.{encoding, IsAllowed}
use Rattle.bpf_model.specs.Walk.{IsWellFormed, instruction_at}
use Rattle.bpf_asm.specs.Line.{insn_line}

-- the line of an instruction and its newline; nothing where there is no instruction
abbrev pub line_at : Option Insn → List ℕ
line_at None = []
line_at (Some i) = insn_line i ++ 10 ∷ []

-- the one text of code: the lines of the instructions at its starts, in order of their places
abbrev pub text_of_code : List ℕ → List ℕ
text_of_code code = flat_map (λ place. line_at (instruction_at code place)) (range_with_len 0 (length code / 8))

-- The code of a program: well formed bytes, no more than a program has.
pub record IsProgram (code : List ℕ) : Type 0 where
  pub bytes : AreBytes code
  pub well_formed : IsWellFormed code
  pub limit : length code ≤ MAX_PROGRAM

-- The code of a text: the program whose one text this is.
pub record IsCodeOf (text code : List ℕ) : Type 0 where
  pub program : IsProgram code
  pub spelled : text_of_code code ≡ text

-- instructions of the profile
abbrev pub AreAllowed : List Insn → Type 0
AreAllowed [] = Unit {0}
AreAllowed (i ∷ is) = IsAllowed i × AreAllowed is

-- the lines of instructions, each ended by a newline
abbrev pub text_of : List Insn → List ℕ
text_of [] = []
text_of (i ∷ is) = insn_line i ++ 10 ∷ text_of is

-- the bytes of instructions in a row
abbrev pub encodings : List Insn → List ℕ
encodings [] = []
encodings (i ∷ is) = encoding i ++ encodings is

-- The line of this number, counted from 1, is the first faulty one of a text: the lines before it are those of
-- instructions whose code is no longer than a program's, and it is no line of an instruction that is ended by
-- a newline and with whose bytes the code is still no longer. The end of a text is a faulty line only where no
-- line stands before it.
pub record IsFaultyAt (text : List ℕ) (number : ℕ) : Type 0 where
  pub before : List Insn
  pub rest : List ℕ
  pub lines : text ≡ text_of before ++ rest
  pub allowed : AreAllowed before
  pub counted : number ≡ length before + 1
  pub limit : length (encodings before) ≤ MAX_PROGRAM
  pub some : rest ≡ [] → before ≡ []
  pub faulty : (i : Insn) (after : List ℕ) → IsAllowed i → rest ≡ insn_line i ++ 10 ∷ after
      → MAX_PROGRAM < length (encodings before ++ encoding i)
