use Rattle.std.proofs.Common.{◌≡◌, ◌∙◌, subst, sym, ap, if◌then◌else◌}
use Rattle.device_core.specs.Gives.{world_in}
use Rattle.device_core.specs.Recorded.{with_event}
use Rattle.trail_model.specs.declared.events.Event.TheVariants as event
use Rattle.device_lock.specs.declared.kept.Kept.{Kept}
use Rattle.device_lock.proofs.Coming.{kept-short}
use Rattle.device_lock.proofs.Turning.{rested-by}
use Rattle.device_lock.proofs.locked.Device.rest.Goals as goal

pub leave-requires-clause-short : goal.leave-requires-clause-short
leave-requires-clause-short g c = kept-short c.rest.new.self

pub returns : goal.returns
returns g c =
    rested-by c.args.self.now c.args.pass c.leave.result c.enter-turn.result c.rest.new.self c.enter-turn.ensures c.party-by.result c.party-by.ensures
    (c.rest.ensures ∙ ap (λ (k : Kept). if (world_in k.core).at_rest then k.core else with_event k.core (event.Rest c.party-by.result)) c.value.ensures.value)
    (record { pass = c.leave.ensures.pass; party = c.leave.ensures.party; seen = c.leave.ensures.seen; made = c.leave.ensures.made; lost = c.leave.ensures.lost })
