-- Numbers that ascend differ.
use Rattle.std.proofs.Common.{ℕ, ◌<◌, ◌≤◌, List, [], ◌∷◌, arith}
use Rattle.std.specs.Prelude.{◌≢◌, All, AllPairs}
use Rattle.std.specs.List.{AllByRecursion}
use Rattle.script_cmds.specs.Hosts.{AscendFrom}
use Rattle.history_model.proofs.Every.{Pairwise, every-All, every-of-All, every-weaker, pairwise-AllPairs}

-- all of them are above what they ascend from
above : (before : ℕ) (numbers : List ℕ) → AscendFrom before numbers → AllByRecursion (λ n. before < n) numbers
above before [] ascend = tt
above before (number ∷ numbers) ascend =
    (ascend.0, every-weaker (λ n. number < n) (λ n. before < n) (λ n over. omega (arith, over, ascend.0)) numbers (above number numbers ascend.1))

differ-by-recursion : (before : ℕ) (numbers : List ℕ) → AscendFrom before numbers → Pairwise (λ a b. a ≢ b) numbers
differ-by-recursion before [] ascend = tt
differ-by-recursion before (number ∷ numbers) ascend =
    (every-weaker (λ n. number < n) (λ n. number ≢ n) (λ n over same. omega (arith, over, same)) numbers (above number numbers ascend.1), differ-by-recursion number numbers ascend.1)

pub ascend-differ : (before : ℕ) (numbers : List ℕ) → AscendFrom before numbers → AllPairs (λ a b. a ≢ b) numbers
ascend-differ before numbers ascend = pairwise-AllPairs (λ a b. a ≢ b) numbers (differ-by-recursion before numbers ascend)

within : (most : ℕ) (numbers : List ℕ) → AllByRecursion (λ n. 0 < n) numbers → AllByRecursion (λ n. n ≤ most) numbers → AllByRecursion (λ n. (1 ≤ n) × (n ≤ most)) numbers
within most [] low high = tt
within most (number ∷ numbers) low high = ((omega (arith, low.0), high.0), within most numbers low.1 high.1)

pub ascend-within : (most : ℕ) (numbers : List ℕ) → AscendFrom 0 numbers → All (λ n. n ≤ most) numbers → All (λ n. (1 ≤ n) × (n ≤ most)) numbers
ascend-within most numbers ascend high =
    every-All (λ n. (1 ≤ n) × (n ≤ most)) numbers (within most numbers (above 0 numbers ascend) (every-of-All (λ n. n ≤ most) numbers high))
