use Rattle.workers.proofs.Doing.{carried-out}
use Rattle.workers.proofs.serving.carry_out.Goals as goal

pub run-requires : goal.run-requires
run-requires g c = (c.args.device.now, c.requires.job)

pub complete-requires : goal.complete-requires
complete-requires g c = (c.requires.job.0, c.run.ensures.done c.args.device.now c.requires.job.0 c.requires.job.1)

pub returns : goal.returns
returns g c = λ p claimed. carried-out c.args.device.now p c.args.job c.run.result c.complete.result claimed c.run.ensures.pass c.complete.ensures
