-- What is printed of a line. This project's own.
use Rattle.std.specs.Prelude.{◌≡◌, ℕ, List, [], ◌∷◌, ◌++◌}
use Rattle.script_line.specs.Line.{Line, line_text}
use Rattle.script_line.specs.Sized.{IsSizedLine}

-- a line with its newline is added to a text, and its fields say what they can
pub record PrintsLine (line : Line) (old new : List ℕ) : Type 0 where
  pub text : new ≡ old ++ (line_text line ++ 10 ∷ [])
  pub sized : IsSizedLine line
