use Rattle.std.proofs.Common.{◌≡◌, ℕ, ◌+◌, ◌-◌, get_or, length}
use Rattle.script_plan.proofs.queues.QueueCounts.reach.Given as goal

abbrev pub invariant-loop-self : goal.invariant-loop-self
invariant-loop-self l = (other : ℕ) → get_or l.self-inside.counts.items other 0 ≡ get_or l.fn.self other 0

abbrev pub decreases-loop-self : goal.decreases-loop-self
decreases-loop-self l = l.queue + 1 - length l.self-inside.counts.items
