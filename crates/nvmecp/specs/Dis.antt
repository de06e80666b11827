-- The word `dis`: code in hex is made assembly text. This project's own.
use Rattle.std.specs.Prelude.{◌≡◌, ℕ, ◌<◌, ◌≤◌, false, List, Some, None, codes, length}
use Rattle.cp_base.specs.declared.limits.TheConstants.{MAX_PROGRAM}
use Rattle.bpf_model.specs.Walk.{bad_place, is_well_formed}
use Rattle.bpf_asm.specs.Text.{IsCodeOf, IsProgram}
use Rattle.nvmecp.specs.Code.{code_in}
use Rattle.nvmecp.specs.Refusal.{place_line, refusal_line}
use Rattle.nvmecp.specs.Task.{Task, max_input, never, none_denies}

-- The input is the code of a program in hex.
pub record IsHexCode (input : List ℕ) : Type 0 where
  pub code : List ℕ
  pub read : code_in input ≡ Some code
  pub program : IsProgram code

-- The input is the code of no program in hex.
abbrev pub IsNoHexCode : List ℕ → Type 0
IsNoHexCode input = (code : List ℕ) → code_in input ≡ Some code → IsProgram code → ⊥

-- The input is the code of a program in hex, and the text is the one text of this program.
pub record IsDisassembly (input : List ℕ) (text : List ℕ) : Type 0 where
  pub code : List ℕ
  pub read : code_in input ≡ Some code
  pub printed : IsCodeOf text code

-- What is told of an input that is no code in hex: that it is no hex with a newline, that it is too long,
-- or the first place without an instruction.
pub data TellsCode (input : List ℕ) (text : List ℕ) : Type 0 where
  NotHex : code_in input ≡ None → text ≡ refusal_line 1 (codes "Hex") → TellsCode input text
  TooMuch : (code : List ℕ) → code_in input ≡ Some code → MAX_PROGRAM < length code
      → text ≡ refusal_line 1 (codes "Limit") → TellsCode input text
  BadCode : (code : List ℕ) → code_in input ≡ Some code → length code ≤ MAX_PROGRAM → is_well_formed code ≡ false
      → text ≡ place_line (bad_place code) → TellsCode input text

-- what `dis` does with its input
abbrev pub dis_task : Task
dis_task = record { limit = max_input; Accepts = IsHexCode; Rejects = IsNoHexCode; Belies = never; Answers = IsDisassembly; Refuses = TellsCode; Denies = none_denies }
