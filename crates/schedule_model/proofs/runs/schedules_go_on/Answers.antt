use Rattle.std.proofs.Common.{length}
use Rattle.history_model.specs.Sent.{sends_of}
use Rattle.trail_model.specs.World.{first_world}
use Rattle.schedule_model.proofs.Ongoing.{goes-on, never-stuck, run-ends, send-allowed}
use Rattle.schedule_model.proofs.Scheduling.{so-far}
use Rattle.schedule_model.proofs.runs.schedules_go_on.Goals as goal

pub returns : goal.returns
returns c = record {
  goes_on = λ c phases workers choices seen left rest e next more runs goes.
      goes-on c workers (first_world c) phases choices seen left rest e next more runs goes;
  ends = λ c phases workers choices seen left rest runs over. run-ends c workers (first_world c) phases choices seen left rest runs over;
  lawful = λ c plan workers choices seen left rest rules runs. (so-far c plan workers choices seen left rest rules runs).lawful;
  submits = λ c plan workers choices seen left rest phase later host cid cmd rules runs is found.
      send-allowed c (length (sends_of plan)) workers seen left phase later host cid cmd (so-far c plan workers choices seen left rest rules runs) is found;
  never_stuck = λ c plan workers choices seen left rest phase later rules some runs is unfinished.
      never-stuck c (length (sends_of plan)) workers seen left phase later (so-far c plan workers choices seen left rest rules runs) some is unfinished;
}
