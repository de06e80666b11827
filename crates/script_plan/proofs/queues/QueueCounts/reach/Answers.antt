use Rattle.std.proofs.Common.{ℕ, List, get_or, ap, ◌∙◌}
use Rattle.script_plan.proofs.Counts.{push_zero}
use Rattle.script_plan.proofs.queues.QueueCounts.reach.Goals as goal

pub loop-self-preserved : goal.loop-self-preserved
loop-self-preserved c = λ other. ap (λ (xs : List ℕ). get_or xs other 0) c.in_ok-push.ensures.items ∙ push_zero c.loop-self.self-inside.counts.items other ∙ c.loop-self.invariant other
