-- The command is picked, and then posted.
use Rattle.std.proofs.Common.{◌≡◌, ◌∙◌, List, Some, ap, subst, sym}
use Rattle.queue_pairs.specs.Outstanding.{under}
use Rattle.queue_pairs.specs.Places.{PlacesDiffer, restaged}
use Rattle.queue_pairs.specs.declared.command.Outstanding.{Outstanding}
use Rattle.queue_pairs.specs.declared.command.Stage.TheVariants.{Picked, Posted, Queued}
use Rattle.core_model.proofs.Queueing.{restaged-differ, restaged-twice}
use Rattle.device_core.proofs.Restaged.{under_restaged}
use Rattle.device_core.proofs.queues.post_to.Goals as goal

pub returns-clause-posted : goal.returns-clause-posted
returns-clause-posted c apart =
    let old = c.args.queue.now.commands in
    let cid = c.args.cid in
    let sent = c.args.sent in
    let waits : Outstanding = record { cid = cid; sent = sent; stage = Queued } in
    let picks : Outstanding = record { cid = cid; sent = sent; stage = Picked } in
    let picked = c.pick.ensures.by_place waits c.requires apart in
    let there : under c.pick.new.self.commands cid ≡ Some picks =
    ap (λ q. under q.commands cid) c.pick.ensures.picked ∙ under_restaged old cid Picked waits c.requires in
    c.post.ensures.by_place picks there (subst PlacesDiffer (sym picked) (restaged-differ old sent Picked apart))
    ∙ (ap (λ (q : List Outstanding). restaged q sent (Posted c.args.posted)) picked ∙ restaged-twice old sent Picked (Posted c.args.posted))
