-- The picked command is posted.
use Rattle.queue_pairs.specs.declared.command.Outstanding.{Outstanding}
use Rattle.queue_pairs.specs.declared.command.Stage.TheVariants.{Picked}
use Rattle.device_core.proofs.queues.post_picked.Goals as goal

pub returns-clause-posted : goal.returns-clause-posted
returns-clause-posted c apart =
    let picks : Outstanding = record { cid = c.args.cid; sent = c.args.sent; stage = Picked } in
    c.post.ensures.by_place picks c.requires apart
