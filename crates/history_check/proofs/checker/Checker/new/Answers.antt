use Rattle.std.proofs.Common.{◌∙◌}
use Rattle.history_model.specs.Sent.{sends_of}
use Rattle.history_check.proofs.Ends.{no-entries}
use Rattle.history_check.proofs.Over.{none-over}
use Rattle.history_check.proofs.SameLook.{none-last}
use Rattle.history_check.proofs.checker.Checker.new.Goals as goal

pub returns : goal.returns
returns c = record {
  begins = no-entries c.args.config.now c.args.phases.now;
  device = c.in_ok-new.ensures;
  kept = c.in_ok-new-2.ensures.kept;
  sends = c.in_ok-new-2.ensures.sends;
  over = c.in_ok-new-2.ensures.over ∙ none-over (sends_of c.args.phases.now);
  awaits = λ before last is by. none-last before last is;
}
