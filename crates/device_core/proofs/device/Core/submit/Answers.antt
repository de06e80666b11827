-- A submit is added to the trail.
use Rattle.std.proofs.Common.{◌≡◌, None, Some, arith, rules, subst}
use Rattle.std.specs.Arc.{arc_value}
use Rattle.std.specs.Vec.{vec_capacity}
use Rattle.trail_model.specs.Lawful.{world_of}
use Rattle.trail_model.specs.declared.events.Event.TheVariants as event
use Rattle.core_model.specs.Causes.{submit_cause}
use Rattle.device_core.specs.Recorded.{Recorded}
use Rattle.device_core.specs.declared.events.Event.TheVariants as kept
use Rattle.device_core.proofs.Stands.{cause-kept, few-events, held-now, held-same, lawful-now, next-few, spot-left, submitted, waiting-left}
use Rattle.device_core.proofs.device.Core.submit.Goals as goal

pub overflow_cast-sent : goal.overflow_cast-sent
overflow_cast-sent c =
    let k = c.self.inside in
    let few = few-events k.config k.commands k.trail.items (vec_capacity k.trail) k.keep c.self.invariant in
    search (rules, few)

pub submit-requires-clause-room : goal.submit-requires-clause-room
submit-requires-clause-room c =
    let k = c.self.inside in
    let left = waiting-left k.config k.commands k.trail.items (vec_capacity k.trail) k.keep c.self.invariant (omega arith) in
    omega arith

pub submit-requires-clause-next : goal.submit-requires-clause-next
submit-requires-clause-next c =
    let k = c.self.inside in
    next-few k.config k.commands k.trail.items (vec_capacity k.trail) c.args.by k.keep c.self.invariant (omega arith)

pub push_reserved-requires : goal.push_reserved-requires
push_reserved-requires c =
    let k = c.self.inside in
    let room = vec_capacity k.trail in
    let cause = c.in-Ok.ensures.checked k.config.depth c.self.invariant.room.queues in
    let stands = submitted k.config k.commands k.trail.items room c.args.by c.args.cid c.len-sent.result c.in-Ok.ordinal (arc_value c.args.command) c.deref.result.now k.keep c.submit.new.self
    c.self.invariant c.requires (omega arith) cause (omega arith) c.deref.ensures c.in-Ok.ensures.ordinal c.in-Ok.ensures.moves in
    let left = spot-left k.config k.commands k.trail.items (event.Submit c.args.by c.args.cid c.in-Ok.ordinal (arc_value c.args.command)) room k.keep c.self.invariant stands.lawful in
    omega arith

pub invariant_of-self : goal.invariant_of-self
invariant_of-self c =
    let k = c.self.inside in
    let room = vec_capacity k.trail in
    let cause = c.in-Ok.ensures.checked k.config.depth c.self.invariant.room.queues in
    let stands = submitted k.config k.commands k.trail.items room c.args.by c.args.cid c.len-sent.result c.in-Ok.ordinal (arc_value c.args.command) c.deref.result.now k.keep c.submit.new.self
    c.self.invariant c.requires (omega arith) cause (omega arith) c.deref.ensures c.in-Ok.ensures.ordinal c.in-Ok.ensures.moves in
    held-now k.config k.commands k.trail.items (kept.Submit c.args.by c.args.cid c.in-Ok.ordinal c.args.command) room k.keep c.submit.new.self _ _
    c.self.invariant stands c.submit.ensures.room c.push_reserved.ensures.items c.push_reserved.ensures.capacity

pub invariant_of-self-in-Err : goal.invariant_of-self-in-Err
invariant_of-self-in-Err c =
    let k = c.self.inside in
    held-same k.config k.commands k.trail.items (vec_capacity k.trail) k.keep c.submit.new.self c.self.invariant c.in-Err.ensures.unchanged c.submit.ensures.room

pub returns-in-Ok-clause-checked : goal.returns-in-Ok-clause-checked
returns-in-Ok-clause-checked c =
    let k = c.self.inside in
    subst (λ (d : Recorded). submit_cause d.config d.commands (world_of d.config d.trail) c.args.by c.args.cid ≡ None) c.self.view_is
    (cause-kept k.config k.commands k.trail.items (vec_capacity k.trail) c.args.by c.args.cid k.keep None c.self.invariant (omega arith) (c.in-Ok.ensures.checked k.config.depth c.self.invariant.room.queues))

pub returns-in-Ok-clause-lawful : goal.returns-in-Ok-clause-lawful
returns-in-Ok-clause-lawful c =
    let k = c.self.inside in
    let room = vec_capacity k.trail in
    let cause = c.in-Ok.ensures.checked k.config.depth c.self.invariant.room.queues in
    let stands = submitted k.config k.commands k.trail.items room c.args.by c.args.cid c.len-sent.result c.in-Ok.ordinal (arc_value c.args.command) c.deref.result.now k.keep c.submit.new.self
    c.self.invariant c.requires (omega arith) cause (omega arith) c.deref.ensures c.in-Ok.ensures.ordinal c.in-Ok.ensures.moves in
    lawful-now k.config k.commands k.trail.items (kept.Submit c.args.by c.args.cid c.in-Ok.ordinal c.args.command) c.submit.new.self _ stands c.push_reserved.ensures.items

pub returns-in-Err-clause-checked : goal.returns-in-Err-clause-checked
returns-in-Err-clause-checked c =
    let k = c.self.inside in
    subst (λ (d : Recorded). submit_cause d.config d.commands (world_of d.config d.trail) c.args.by c.args.cid ≡ Some c.in-Err.cause) c.self.view_is
    (cause-kept k.config k.commands k.trail.items (vec_capacity k.trail) c.args.by c.args.cid k.keep (Some c.in-Err.cause) c.self.invariant (omega arith) (c.in-Err.ensures.checked k.config.depth c.self.invariant.room.queues))
