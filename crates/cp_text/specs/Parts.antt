-- The parts of a text between bytes of one value, the mark. This project's own.
use Rattle.std.specs.Prelude.{ℕ, ◌==◌, Bool, not, List, [], Option, Some, None}
use Rattle.std.specs.List.{join_with_byte, list_all, slice_split}

-- the parts between the marks, one more than there are marks
abbrev pub parts_between : ℕ → List ℕ → List (List ℕ)
parts_between mark text = slice_split (λ byte. byte == mark) text

-- the parts of a text that may be missing, which then has none
abbrev pub parts_in : ℕ → Option (List ℕ) → List (List ℕ)
parts_in mark None = []
parts_in mark (Some text) = parts_between mark text

-- parts with the mark between two
abbrev pub joined_by : ℕ → List (List ℕ) → List ℕ
joined_by mark parts = join_with_byte mark parts

-- whether a text has no mark
abbrev pub lacks : ℕ → List ℕ → Bool
lacks mark text = list_all (λ byte. not (byte == mark)) text

-- whether none of these texts has a mark
abbrev pub all_lack : ℕ → List (List ℕ) → Bool
all_lack mark texts = list_all (λ text. lacks mark text) texts
