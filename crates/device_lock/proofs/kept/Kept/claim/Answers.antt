use Rattle.std.proofs.Common.{arith}
use Rattle.device_lock.proofs.Coming.{few-events}
use Rattle.device_lock.proofs.Keeping.{claim-named, claim-there}
use Rattle.device_lock.proofs.kept.Kept.claim.Goals as goal

pub overflow_add-self : goal.overflow_add-self
overflow_add-self c = let few = few-events c.args.self.now in let at = c.in-Claimed.ensures.gives.0 in omega arith

pub overflow_add-self-in-Did : goal.overflow_add-self-in-Did
overflow_add-self-in-Did c = let few = few-events c.args.self.now in let count = c.args.self.now.counted in omega arith

pub command_claimed-host-requires : goal.command_claimed-host-requires
command_claimed-host-requires c =
    claim-there c.args.self.now.core c.claim.new.self c.args.by c.in-Claimed.claim c.in-Claimed.work c.in-Claimed.ensures.gives.1 c.in-Claimed.ensures.gives.0

pub returns-in-Claimed : goal.returns-in-Claimed
returns-in-Claimed c =
    claim-named c.args.self.now.core c.claim.new.self c.args.by c.in-Claimed.claim c.command_claimed-host.result.0 c.command_claimed-host.result.1 c.in-Claimed.work
    c.in-Claimed.ensures.gives.1 c.in-Claimed.ensures.gives.0 c.command_claimed-host.ensures
