use Rattle.cp_base.specs.Answer.{answer_of}
use Rattle.cp_base.specs.declared.commands.Command.TheVariants as command
use Rattle.seq_device.proofs.Withdrawn.{done_other}
use Rattle.seq_device.proofs.device.SeqDevice.step.Goals as goal

-- what a new set is told is no withdrawal
pub returns-in-SetCreate-clause-not_withdrawn : goal.returns-in-SetCreate-clause-not_withdrawn
returns-in-SetCreate-clause-not_withdrawn c = done_other c.args.self.now (command.SetCreate c.as_list.result.now) (answer_of c.create_set.result) _ c.create_set.ensures.done
