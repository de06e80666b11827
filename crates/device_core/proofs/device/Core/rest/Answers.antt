-- A rest is added to the trail.
use Rattle.std.proofs.Common.{arith}
use Rattle.std.specs.Vec.{vec_capacity}
use Rattle.trail_model.specs.declared.events.Event.TheVariants as event
use Rattle.device_core.specs.declared.events.Event.TheVariants as kept
use Rattle.device_core.proofs.Stands.{held-now, lawful-now, rested, spot-left}
use Rattle.device_core.proofs.device.Core.rest.Goals as goal

pub push_reserved-requires : goal.push_reserved-requires
push_reserved-requires c =
    let k = c.self.inside in
    let stands = rested k.config k.commands k.trail.items (vec_capacity k.trail) c.args.by k.keep c.put_to_rest.new.self c.self.invariant c.requires c.if-self.false c.put_to_rest.ensures.moves in
    let left = spot-left k.config k.commands k.trail.items (event.Rest c.args.by) (vec_capacity k.trail) k.keep c.self.invariant stands.lawful in
    omega arith

pub invariant_of-self : goal.invariant_of-self
invariant_of-self c =
    let k = c.self.inside in
    let stands = rested k.config k.commands k.trail.items (vec_capacity k.trail) c.args.by k.keep c.put_to_rest.new.self c.self.invariant c.requires c.if-self.false c.put_to_rest.ensures.moves in
    held-now k.config k.commands k.trail.items (kept.Rest c.args.by) (vec_capacity k.trail) k.keep c.put_to_rest.new.self _ _
    c.self.invariant stands c.put_to_rest.ensures.room c.push_reserved.ensures.items c.push_reserved.ensures.capacity

pub returns-clause-lawful : goal.returns-clause-lawful
returns-clause-lawful c =
    let k = c.self.inside in
    let stands = rested k.config k.commands k.trail.items (vec_capacity k.trail) c.args.by k.keep c.put_to_rest.new.self c.self.invariant c.requires c.if-self.false c.put_to_rest.ensures.moves in
    lawful-now k.config k.commands k.trail.items (kept.Rest c.args.by) c.put_to_rest.new.self _ stands c.push_reserved.ensures.items
