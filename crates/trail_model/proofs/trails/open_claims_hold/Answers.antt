use Rattle.std.proofs.Common.{ap, ◌∙◌, sym}
use Rattle.cp_base.specs.declared.commands.Command.{Command}
use Rattle.device_model.specs.Checks.{refusal_of}
use Rattle.trail_model.specs.Claims.{FindsItself}
use Rattle.trail_model.specs.Footprints.{execution_of}
use Rattle.trail_model.specs.Lawful.{world_of}
use Rattle.trail_model.proofs.Sound.{sound-world}
use Rattle.trail_model.proofs.Submits.{found-each}
use Rattle.trail_model.proofs.Tables.{holds-tables}
use Rattle.trail_model.proofs.trails.open_claims_hold.Goals as goal

pub returns : goal.returns
returns c = record {
  found = λ c commands trail lawful. (sound-world c commands trail lawful).own;
  tables = λ c commands trail place claim slot set p1 p2 budget lawful found e.
      let s = (world_of c trail).state in
      let h : FindsItself c s claim = found-each (FindsItself c s) _ (world_of c trail).claims claim (sound-world c commands trail lawful).own found in
      holds-tables c s slot set p1 p2 budget claim.execution
      (ap (λ (cmd : Command). refusal_of c s cmd) (sym e) ∙ h.passes) (ap (λ (cmd : Command). execution_of s cmd) (sym e) ∙ h.execution);
  apart = λ c commands trail lawful. (sound-world c commands trail lawful).clear;
}
