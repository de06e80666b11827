use Rattle.std.proofs.Common.{◌∙◌, ap, subst}
use Rattle.device_core.specs.Recorded.{Recorded}
use Rattle.trail_model.specs.Lawful.{IsLawful}
use Rattle.core_bench.specs.Progress.{over_on}
use Rattle.core_bench.proofs.device.Device.over.Goals as goal

pub returns-clause-over : goal.returns-clause-over
returns-clause-over c = c.ended.ensures ∙ ap over_on c.self.view_is

pub returns-clause-lawful : goal.returns-clause-lawful
returns-clause-lawful c = subst (λ (d : Recorded). IsLawful d.config d.commands d.trail) c.self.view_is c.self.invariant.lawful
