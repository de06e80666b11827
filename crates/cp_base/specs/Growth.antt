-- How a buffer of bytes grows. This project's own.
use Rattle.std.specs.Prelude.{◌≡◌, ℕ, ◌+◌, ◌<◌, ◌≤◌, List, ◌++◌, length, Result, OnOk, OnErr}
use Rattle.cp_base.specs.Buffer.{Buffer}

-- a text was added at the end, where room was
pub record Appended (old new : Buffer) (text : List ℕ) : Type 0 where
  pub items : new.items ≡ old.items ++ text
  pub spare : new.spare + length text ≡ old.spare

-- a text was added at the end, or refused for want of memory: only where there was less room than it
-- needs, and then nothing changed
pub record Pushed {A E : Type 0} (result : Result A E) (old new : Buffer) (text : List ℕ) : Type 0 where
  pub items : OnOk result (new.items ≡ old.items ++ text)
  pub spare : OnOk result (length text ≤ old.spare → new.spare + length text ≡ old.spare)
  pub full : OnErr result (old.spare < length text)
  pub unchanged : OnErr result (new ≡ old)

-- there is room for n more bytes, or it was refused for want of memory: only where there was less, and
-- then nothing changed; where there was as much, nothing changed either
pub record Reserved {A E : Type 0} (result : Result A E) (old new : Buffer) (n : ℕ) : Type 0 where
  pub items : new.items ≡ old.items
  pub room : OnOk result (n ≤ new.spare)
  pub enough : n ≤ old.spare → new ≡ old
  pub full : OnErr result (old.spare < n)
  pub unchanged : OnErr result (new ≡ old)
