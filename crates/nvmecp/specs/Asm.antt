-- The word `asm`: assembly text is made code. This project's own.
use Rattle.std.specs.Prelude.{◌≡◌, ℕ, List, codes}
use Rattle.bpf_asm.specs.Text.{IsCodeOf, IsFaultyAt}
use Rattle.nvmecp.specs.Code.{hex_line}
use Rattle.nvmecp.specs.Refusal.{refusal_line}
use Rattle.nvmecp.specs.Task.{Task, max_input, never, none_denies}

-- No line of the input is faulty.
abbrev pub HasCode : List ℕ → Type 0
HasCode input = (line : ℕ) → IsFaultyAt input line → ⊥

-- The input is the text of no program.
abbrev pub HasNoCode : List ℕ → Type 0
HasNoCode input = (code : List ℕ) → IsCodeOf input code → ⊥

-- The input is the text of a program, and the text is its code in hex.
pub record IsAssembly (input : List ℕ) (text : List ℕ) : Type 0 where
  pub code : List ℕ
  pub read : IsCodeOf input code
  pub printed : text ≡ hex_line code

-- What is told of an input that is no assembly text: its first faulty line.
pub record TellsAssembly (input : List ℕ) (text : List ℕ) : Type 0 where
  pub line : ℕ
  pub faulty : IsFaultyAt input line
  pub told : text ≡ refusal_line line (codes "Asm")

-- what `asm` does with its input
abbrev pub asm_task : Task
asm_task = record { limit = max_input; Accepts = HasCode; Rejects = HasNoCode; Belies = never; Answers = IsAssembly; Refuses = TellsAssembly; Denies = none_denies }
