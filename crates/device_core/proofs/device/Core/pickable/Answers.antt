use Rattle.std.proofs.Common.{◌≡◌, List, length, rules, subst}
use Rattle.std.specs.Vec.{vec_capacity}
use Rattle.trail_model.specs.Lawful.{world_of}
use Rattle.trail_model.specs.World.{pickable_among}
use Rattle.core_model.proofs.Numbers.{all-submits}
use Rattle.core_model.specs.Picking.{pickable_waiting}
use Rattle.device_core.specs.Keep.{parts_of}
use Rattle.device_core.specs.Recorded.{Recorded, trail_of}
use Rattle.device_core.specs.declared.events.Event.{Event as KeptEvent}
use Rattle.device_core.proofs.Turned.{count-kept, kept-fits}
use Rattle.device_core.proofs.device.Core.pickable.Goals as goal

pub count_pickable-requires : goal.count_pickable-requires
count_pickable-requires c =
    let k = c.self.inside in
    kept-fits k.config k.commands k.trail.items (vec_capacity k.trail) k.keep c.self.invariant

pub overflow_cast-result : goal.overflow_cast-result
overflow_cast-result c =
    let k = c.self.inside in
    let most = all-submits k.config k.commands (parts_of (length k.trail.items) k.keep) (trail_of k.trail.items) c.self.invariant.stands in
    let few = c.self.invariant.few in
    let bounded = c.count_pickable.ensures.bounded in
    search (rules, most.0, most.1, few, bounded)

pub returns : goal.returns
returns c =
    let k = c.self.inside in
    subst (λ (d : Recorded). c.count_pickable.result ≡ length (pickable_among d.config (world_of d.config d.trail))) c.self.view_is
    (count-kept k.config k.commands k.trail.items (vec_capacity k.trail) c.count_pickable.result k.keep c.self.invariant
    (subst (λ (events : List KeptEvent). c.count_pickable.result ≡ length (pickable_waiting k.config (parts_of (length events) k.keep) (trail_of events)))
    c.deref.ensures.value c.count_pickable.ensures.count))
