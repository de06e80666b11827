use Rattle.seat_lock.specs.Passes.{party_of}
use Rattle.trail_model.specs.Lawful.{world_of}
use Rattle.trail_model.specs.World.{claim_of}
use Rattle.workers.proofs.Doing.{done-one, found-none, found-rest}
use Rattle.workers.proofs.serving.serve_one.Goals as goal

pub carry_out-requires-clause-job : goal.carry_out-requires-clause-job
carry_out-requires-clause-job g c κs within =
    let claimed = c.in-Claimed.ensures in
    let d = c.args.device.now in
    (claim_of d.config (world_of d.config claimed.before) (party_of c.args.pass) claimed.first.request, claimed.job)

pub returns-in-Claimed : goal.returns-in-Claimed
returns-in-Claimed g c = c.carry_out.ensures c.args.pass c.in-Claimed.ensures

pub returns-in-Did : goal.returns-in-Did
returns-in-Did g c = done-one c.args.device.now c.args.pass c.in-Did.pass c.requires.idle c.in-Did.ensures

pub returns-in-Nothing : goal.returns-in-Nothing
returns-in-Nothing g c = found-none c.args.device.now c.args.pass c.in-Nothing.pass c.requires.idle c.in-Nothing.ensures

pub returns-in-Rested : goal.returns-in-Rested
returns-in-Rested g c = found-rest c.args.device.now c.args.pass c.in-Rested.pass c.requires.idle c.in-Rested.ensures
