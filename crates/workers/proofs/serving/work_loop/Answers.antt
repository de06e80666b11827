use Rattle.workers.proofs.Furthering.{further-same}
use Rattle.workers.proofs.Doing.{goes-on}
use Rattle.workers.proofs.serving.work_loop.Goals as goal

pub loop-init : goal.loop-init
loop-init g c = record { further = further-same 0 c.args.device.now c.args.pass c.requires.pass c.requires.idle }

pub serve_one-requires-clause-pass : goal.serve_one-requires-clause-pass
serve_one-requires-clause-pass g c κs within = c.loop.invariant.further.back.of_device

pub serve_one-requires-clause-idle : goal.serve_one-requires-clause-idle
serve_one-requires-clause-idle g c κs within = c.loop.invariant.further.idle

pub loop-preserved-in-Did : goal.loop-preserved-in-Did
loop-preserved-in-Did g c = record { further = goes-on c.args.device.now c.args.pass c.loop.pass c.in-Did.back c.loop.invariant.further c.in-Did.ensures }

pub loop-preserved : goal.loop-preserved
loop-preserved g c = record { further = goes-on c.args.device.now c.args.pass c.loop.pass c.in-Nothing.back c.loop.invariant.further c.in-Nothing.ensures }

pub returns-in-Rested-clause-further : goal.returns-in-Rested-clause-further
returns-in-Rested-clause-further g c = goes-on c.args.device.now c.args.pass c.loop.pass c.in-Rested.back c.loop.invariant.further c.in-Rested.ensures.0

pub returns-in-Rested-clause-rested : goal.returns-in-Rested-clause-rested
returns-in-Rested-clause-rested g c = c.in-Rested.ensures.1
