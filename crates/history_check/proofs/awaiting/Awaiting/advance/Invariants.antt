use Rattle.std.proofs.Common.{◌≡◌, ℕ, ◌-◌, ◌<◌, ◌≤◌, length, Some, true}
use Rattle.std.specs.Prelude.{slice_get}
use Rattle.history_check.proofs.awaiting.Awaiting.advance.Given as goal

-- all before are over
abbrev pub invariant-loop-front : goal.invariant-loop-front
invariant-loop-front l = record {
  bound : l.front ≤ length l.self.over.items;
  over : (place : ℕ) → place < l.front → slice_get l.self.over.items place ≡ Some true;
}

abbrev pub decreases-loop-front : goal.decreases-loop-front
decreases-loop-front l = length l.self.over.items - l.front
