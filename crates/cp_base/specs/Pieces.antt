-- Parts of a list, mostly of bytes. This project's own.
use Rattle.std.specs.Prelude.{ℕ, ◌+◌, List, ◌++◌, length, take, drop}

-- n items from place start on
abbrev pub piece : {A : Type 0} → List A → ℕ → ℕ → List A
piece items start n = take n (drop start items)

-- the list with these items from place start on, and all else as before
abbrev pub patched : {A : Type 0} → List A → ℕ → List A → List A
patched old start items = take start old ++ items ++ drop (start + length items) old
