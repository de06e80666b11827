use Rattle.queue_pairs.specs.declared.command.Stage.TheVariants.{Queued}
use Rattle.device_core.proofs.claiming.pick_one.Goals as goal

pub returns-clause-picked : goal.returns-clause-picked
returns-clause-picked c apart = c.pick.ensures.by_place (record { cid = c.args.cid; sent = c.args.sent; stage = Queued }) c.requires apart
