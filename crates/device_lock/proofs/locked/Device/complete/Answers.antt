use Rattle.std.proofs.Common.{◌≡◌, ◌∙◌, subst, sym, ap}
use Rattle.std.specs.Option.{IsSomeAnd}
use Rattle.trail_model.specs.World.{OpenClaim, claim_at}
use Rattle.device_core.specs.Gives.{HasWorked, world_in}
use Rattle.device_core.specs.Recorded.{with_event}
use Rattle.trail_model.specs.declared.events.Event.TheVariants as event
use Rattle.device_lock.specs.Jobs.{answer_of_done, place_of_done, worked_of_done}
use Rattle.device_lock.specs.declared.kept.Kept.{Kept}
use Rattle.device_lock.proofs.Coming.{kept-short}
use Rattle.device_lock.proofs.Turning.{completed, may-finish}
use Rattle.device_lock.proofs.locked.Device.complete.Goals as goal

pub finish-requires : goal.finish-requires
finish-requires g c =
    subst (λ (k : Kept). IsSomeAnd (claim_at (world_in k.core).claims (place_of_done c.args.done)) (λ (opened : OpenClaim). HasWorked k.core c.party-by.result (worked_of_done c.args.done) opened))
    (sym c.value.ensures.value)
    (may-finish c.args.self.now c.args.done c.enter-turn.result c.party-by.result c.requires.0 c.enter-turn.ensures c.requires.1 c.party-by.ensures)

pub leave-requires-clause-short : goal.leave-requires-clause-short
leave-requires-clause-short g c = kept-short c.finish.new.self

pub returns : goal.returns
returns g c =
    completed c.args.self.now c.args.done c.leave.result c.enter-turn.result c.finish.new.self c.party-by.result c.requires.0 c.enter-turn.ensures c.requires.1 c.party-by.ensures
    (c.finish.ensures ∙ ap (λ (k : Kept). with_event k.core (event.Finish c.party-by.result (place_of_done c.args.done) (answer_of_done c.args.done))) c.value.ensures.value)
    (record { pass = c.leave.ensures.pass; party = c.leave.ensures.party; seen = c.leave.ensures.seen; made = c.leave.ensures.made; lost = c.leave.ensures.lost })
