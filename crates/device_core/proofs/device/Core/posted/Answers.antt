use Rattle.std.proofs.Common.{◌≡◌, List, subst}
use Rattle.std.specs.Vec.{vec_capacity}
use Rattle.trail_model.specs.Lawful.{world_of}
use Rattle.core_model.specs.Causes.{take_answer}
use Rattle.queue_pairs.specs.Outstanding.{QueuePair, taken, under}
use Rattle.device_core.specs.Keep.{queue_of}
use Rattle.device_core.specs.Recorded.{Recorded}
use Rattle.device_core.proofs.Stands.{answer-kept}
use Rattle.device_core.proofs.device.Core.posted.Goals as goal

pub returns : goal.returns
returns c =
    let k = c.self.inside in
    subst (λ (d : Recorded). c.posted_under.result ≡ take_answer (world_of d.config d.trail) c.args.by c.args.cid) c.self.view_is
    (answer-kept k.config k.commands k.trail.items (vec_capacity k.trail) c.args.by c.args.cid k.keep _ c.self.invariant
    (subst (λ (queues : List QueuePair). c.posted_under.result ≡ taken (under (queue_of queues c.args.by) c.args.cid)) c.deref.ensures.value c.posted_under.ensures))
