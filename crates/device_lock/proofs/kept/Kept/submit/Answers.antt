use Rattle.std.proofs.Common.{arith}
use Rattle.device_lock.proofs.Coming.{few-events}
use Rattle.device_lock.proofs.kept.Kept.submit.Goals as goal

pub overflow_add-self : goal.overflow_add-self
overflow_add-self c = let few = few-events c.args.self.now in let at = c.in_ok-place.ensures.place in omega arith
