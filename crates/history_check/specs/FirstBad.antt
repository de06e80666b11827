-- The first line of a text with which no legal history goes on. This project's own.
use Rattle.std.specs.Prelude.{◌≡◌, ℕ, ◌+◌, ◌<◌, ◌≤◌, ◌==◌, true, List, [], ◌∷◌, ◌++◌, All, length, take, if◌then◌else◌}
use Rattle.std.specs.List.{concat, onto_first}
use Rattle.cp_base.specs.Configuration.{Configuration}
use Rattle.cp_text.specs.Parts.{lacks}
use Rattle.script_cmds.specs.declared.item.Phase.{Phase}
use Rattle.script_cmds.specs.declared.item.Show.{Show}
use Rattle.history_model.specs.Entry.{Entry}
use Rattle.history_model.specs.Legal.{IsLegal}
use Rattle.history_model.specs.Text.{history_text}

-- the lines of a text, each with the newline that ends it; a rest that none ends is a line too
abbrev pub lines_in : List ℕ → List (List ℕ)
lines_in [] = []
lines_in (byte ∷ bytes) = if byte == 10 then (byte ∷ []) ∷ lines_in bytes else onto_first byte (lines_in bytes)

-- a newline ends the line
pub record IsEnded (line : List ℕ) : Type 0 where
  pub front : List ℕ
  pub ends : line ≡ front ++ 10 ∷ []

-- a newline ends the line, and none stands before
pub record IsEndedLine (line : List ℕ) : Type 0 where
  pub front : List ℕ
  pub ends : line ≡ front ++ 10 ∷ []
  pub plain : lacks 10 front ≡ true

-- a text is that of a legal history
pub record IsLegalText (c : Configuration) (plan : List Phase) (shows : List Show) (text : List ℕ) : Type 0 where
  pub history : List Entry
  pub legal : IsLegal c plan history
  pub is : history_text c shows history ≡ text

-- the text of a legal history begins with these lines
pub record BeginLegally (c : Configuration) (plan : List Phase) (shows : List Show) (lines : List (List ℕ)) : Type 0 where
  pub history : List Entry
  pub legal : IsLegal c plan history
  pub rest : List ℕ
  pub begins : history_text c shows history ≡ concat lines ++ rest
  pub ended : All IsEnded lines

-- The first bad line of a text, counted from 1. The text is that of no legal history, and with the lines
-- before this one the text of a legal history begins, but with this one none. Where one begins with all
-- lines of the text, the first bad line is the one that is missing behind them.
pub record IsFirstBad (c : Configuration) (plan : List Phase) (shows : List Show) (text : List ℕ) (line : ℕ) : Type 0 where
  pub illegal : IsLegalText c plan shows text → ⊥
  pub counted : 1 ≤ line
  pub within : line ≤ length (lines_in text) + 1
  pub before : (k : ℕ) → k < line → BeginLegally c plan shows (take k (lines_in text))
  pub here : line ≤ length (lines_in text) → BeginLegally c plan shows (take line (lines_in text)) → ⊥
