-- How the code prints a line, field by field. Private contracts speak of these.
use Rattle.std.specs.Prelude.{◌≡◌, ℕ, List, [], ◌∷◌, ◌++◌, All, Bool, true, false}
use Rattle.script_line.specs.Field.{Field, Word, Number, Identifier, Hex, Sources, Ranges, Value, IsShaped, field_texts}
use Rattle.script_line.specs.Sized.{IsSized}

-- whether a field is a word
abbrev pub is_word : Field → Bool
is_word (Word text) = true
is_word _ = false

-- the front of a field: the word, or the field's name
abbrev pub front_of : Field → List ℕ
front_of (Word text) = text
front_of (Number name least most) = name
front_of (Identifier name) = name
front_of (Hex name) = name
front_of (Sources name) = name
front_of (Ranges name) = name

-- parts, the first of them behind some bytes, and each other one behind a mark
abbrev pub joined_behind : List ℕ → ℕ → List (List ℕ) → List ℕ
joined_behind before mark [] = []
joined_behind before mark (part ∷ parts) = before ++ part ++ joined_behind (mark ∷ []) mark parts

-- Of fields, all are printed but some that are still to come, which has used up all values but the rest;
-- the next field will stand behind a space or, where it is the first of its line, behind nothing.
pub record PrintsFields (before after : List ℕ) (all more : List Field) (values rest : List Value) (old new : List ℕ) : Type 0 where
  pub shaped : IsShaped more rest
  pub text : new ++ joined_behind after 32 (field_texts more rest)
      ≡ old ++ joined_behind before 32 (field_texts all values)
  pub sized : All IsSized rest → All IsSized values
