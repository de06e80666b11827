use Rattle.std.proofs.Common.{◌≡◌, ◌∙◌, subst}
use Rattle.trail_model.specs.Lawful.{world_of}
use Rattle.trail_model.specs.World.{home}
use Rattle.device_core.specs.Recorded.{Recorded}
use Rattle.device_core.proofs.device.Core.byte.Goals as goal

pub returns : goal.returns
returns c =
    subst (λ (d : Recorded). c.byte.result ≡ home d.config (world_of d.config d.trail) c.args.space c.args.at) c.self.view_is
    (c.byte.ensures ∙ c.self.invariant.stands.ties.store c.args.space c.args.at)
