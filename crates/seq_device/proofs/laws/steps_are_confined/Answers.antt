use Rattle.cp_base.specs.declared.commands.Command.TheVariants as command
use Rattle.trail_model.proofs.Sound.{sound-first}
use Rattle.seq_device.proofs.Confined.{step-fits, step-keeps}
use Rattle.seq_device.proofs.laws.steps_are_confined.Goals as goal

pub returns : goal.returns
returns c = record {
  opening = λ c. (sound-first c).fits;
  fits = step-fits;
  confined = step-keeps;
  execution = λ c s slot set p1 p2 budget answer next fits step. step-keeps c s (command.Execute slot set p1 p2 budget) answer next fits step;
}
