-- What a word of the program does with its input. This project's own.
use Rattle.std.specs.Prelude.{◌≡◌, ℕ, ◌<◌, ◌≤◌, ◌⊎◌, List, length}
use Rattle.script_line.specs.declared.limits.TheConstants.{VERSION_1}
use Rattle.nvmecp.specs.Refusal.{too_long_line}

-- The most bytes of an input; which inputs are accepted, which are rejected, and which say what does not hold; and by input
-- and text what answers it, what refuses it and what denies it.
pub record Task : Type 1 where
  pub limit : ℕ
  pub Accepts : List ℕ → Type 0
  pub Rejects : List ℕ → Type 0
  pub Belies : List ℕ → Type 0
  pub Answers : List ℕ → List ℕ → Type 0
  pub Refuses : List ℕ → List ℕ → Type 0
  pub Denies : List ℕ → List ℕ → Type 0

-- the most bytes of a script, of assembly text and of code in hex
abbrev pub max_input : ℕ
max_input = VERSION_1.bytes

-- no input says what does not hold, and no text denies one
abbrev pub never : List ℕ → Type 0
never input = ⊥

abbrev pub none_denies : List ℕ → List ℕ → Type 0
none_denies input text = ⊥

-- the text that is due where an input is refused: too many bytes came, or it is rejected
pub data IsRefusal (task : Task) (input : List ℕ) (text : List ℕ) : Type 0 where
  TooLong : task.limit < length input → text ≡ too_long_line → IsRefusal task input text
  Rejected : length input ≤ task.limit → task.Refuses input text → IsRefusal task input text

-- a text that is due for an input
abbrev pub IsDue : Task → List ℕ → List ℕ → Type 0
IsDue task input text = task.Answers input text ⊎ (IsRefusal task input text ⊎ task.Denies input text)
