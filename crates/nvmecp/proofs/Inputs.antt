-- What came from a source that tells what it has left.
use Rattle.std.proofs.Common.{◌≡◌, ℕ, ◌≤◌, ◌<◌, List, length, Option, Some, None, subst, ap, arith, length-append}
use Rattle.std.specs.Prelude.{IfSome}
use Rattle.std.specs.Io.KnownBytes.{Consumes}

-- no more came than was left
came_within : (input : List ℕ) (left' : Option (List ℕ)) (came : List ℕ) → Consumes (Some input) left' came → length came ≤ length input
came_within input None came h = absurd h
came_within input (Some rest) came h = omega (arith, ap length h, length-append came rest)

-- not too many came of an input within the limit
pub not_too_long : (left left' : Option (List ℕ)) (input came : List ℕ) (limit : ℕ) → left ≡ Some input → Consumes left left' came → length input ≤ limit → limit < length came → ⊥
not_too_long left left' input came limit is consumed within over =
    omega (arith, came_within input left' came (subst (λ (o : Option (List ℕ)). Consumes o left' came) is consumed))

-- what was read whole is what was left
pub same_input : (left : Option (List ℕ)) (input read : List ℕ) → left ≡ Some input → IfSome left (λ all. read ≡ all) → read ≡ input
same_input left input read is whole = subst (λ (o : Option (List ℕ)). IfSome o (λ all. read ≡ all)) is whole
