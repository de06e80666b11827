use Rattle.history_model.specs.Plain.{plain_phases}
use Rattle.schedule_model.proofs.Beginnings.{hosts-did}
use Rattle.schedule_model.proofs.Scheduling.{scheduled}
use Rattle.schedule_model.proofs.schedules.schedules_are_lawful.Goals as goal

pub returns : goal.returns
returns c = record {
  lawful = λ c plan workers choices trail rules runs. (scheduled c plan workers choices trail rules runs).lawful;
  did = λ c plan workers choices trail rules runs. hosts-did (plain_phases plan) trail (scheduled c plan workers choices trail rules runs).did;
}
