-- An entry of a history. This project's own.
use Rattle.cp_base.specs.Answer.{Answer}
use Rattle.history_model.specs.Sent.{Sent}

-- a command and what the device answered
pub record Entry : Type 0 where
  pub sent : Sent
  pub answer : Answer
