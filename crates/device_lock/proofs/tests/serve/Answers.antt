use Rattle.device_lock.proofs.tests.serve.Goals as goal

pub complete-requires : goal.complete-requires
complete-requires g c = (_, c.run.ensures.done c.args.device.now _ c.in-Claimed.ensures.job)
