use Rattle.std.proofs.Common.{◌≡◌, ◌∙◌, None, length, subst, sym, ap}
use Rattle.std.specs.Arc.{arc_value}
use Rattle.trail_model.specs.World.{ordinal_after}
use Rattle.trail_model.specs.declared.events.Event.TheVariants as event
use Rattle.core_model.specs.Causes.{submit_cause}
use Rattle.device_core.specs.Gives.{world_in}
use Rattle.device_core.specs.Recorded.{with_event}
use Rattle.device_lock.specs.declared.kept.Kept.{Kept}
use Rattle.device_lock.proofs.Coming.{kept-short}
use Rattle.device_lock.proofs.Turning.{placed}
use Rattle.device_lock.proofs.locked.Device.submit.Goals as goal

pub leave-pass-requires-clause-short : goal.leave-pass-requires-clause-short
leave-pass-requires-clause-short g c = kept-short c.submit-sent.new.self

pub returns-in-Ok : goal.returns-in-Ok
returns-in-Ok g c =
    let by = c.party-by.result in
    placed c.args.self.now c.args.pass c.leave-pass.result c.enter-turn.result c.submit-sent.new.self c.enter-turn.ensures by c.args.cid c.in-Ok.place (arc_value c.args.command) c.party-by.ensures
    (subst (λ (k : Kept). submit_cause k.core.config k.core.commands (world_in k.core) by c.args.cid ≡ None) c.value.ensures.value c.in-Ok.ensures.checked)
    (c.in-Ok.ensures.place ∙ ap (λ (k : Kept). length k.core.trail) c.value.ensures.value)
    (c.in-Ok.ensures.submitted ∙ ap (λ (k : Kept). with_event k.core (event.Submit by c.args.cid (ordinal_after (world_in k.core).submits by) (arc_value c.args.command))) c.value.ensures.value)
    (record { pass = c.leave-pass.ensures.pass; party = c.leave-pass.ensures.party; seen = c.leave-pass.ensures.seen; made = c.leave-pass.ensures.made; lost = c.leave-pass.ensures.lost })
