-- A take is added to the trail.
use Rattle.std.proofs.Common.{◌≡◌, Err, Ok, arith, subst, sym}
use Rattle.std.proofs.lemmas.Result.{err_from_is_err_and}
use Rattle.std.specs.Vec.{vec_capacity}
use Rattle.trail_model.specs.Lawful.{world_of}
use Rattle.trail_model.specs.declared.events.Event.TheVariants as event
use Rattle.core_model.specs.Causes.{take_answer}
use Rattle.device_core.specs.Recorded.{Recorded}
use Rattle.device_core.specs.declared.events.Event.TheVariants as kept
use Rattle.device_core.proofs.Stands.{answer-kept, held-now, held-same, lawful-now, spot-left, taken-kept}
use Rattle.device_core.proofs.device.Core.take.Goals as goal

pub invariant_of-self : goal.invariant_of-self
invariant_of-self c =
    let k = c.self.inside in
    held-same k.config k.commands k.trail.items (vec_capacity k.trail) k.keep c.take.new.self c.self.invariant c.in_err-posted.ensures.unchanged c.take.ensures.room

pub returns-in_err-posted-clause-answer : goal.returns-in_err-posted-clause-answer
returns-in_err-posted-clause-answer c =
    let k = c.self.inside in
    let left = err_from_is_err_and c.from_residual.result c.from_residual.ensures.1 in
    rw (left.1, left.2)
    (subst (λ (d : Recorded). Err c.in_err-posted.field-0.0 ≡ take_answer (world_of d.config d.trail) c.args.by c.args.cid) c.self.view_is
    (answer-kept k.config k.commands k.trail.items (vec_capacity k.trail) c.args.by c.args.cid k.keep _ c.self.invariant c.in_err-posted.ensures.answer))

pub push_reserved-requires : goal.push_reserved-requires
push_reserved-requires c =
    let k = c.self.inside in
    let answer = sym c.in_ok-posted.ensures.answer in
    let stands = taken-kept k.config k.commands k.trail.items (vec_capacity k.trail) c.args.by c.args.cid k.keep c.take.new.self c.in_ok-posted.posted c.self.invariant answer c.in_ok-posted.ensures.moves in
    let left = spot-left k.config k.commands k.trail.items (event.Take c.args.by c.args.cid c.in_ok-posted.posted) (vec_capacity k.trail) k.keep c.self.invariant stands.lawful in
    omega arith

pub invariant_of-self-2 : goal.invariant_of-self-2
invariant_of-self-2 c =
    let k = c.self.inside in
    let answer = sym c.in_ok-posted.ensures.answer in
    let stands = taken-kept k.config k.commands k.trail.items (vec_capacity k.trail) c.args.by c.args.cid k.keep c.take.new.self c.in_ok-posted.posted c.self.invariant answer c.in_ok-posted.ensures.moves in
    held-now k.config k.commands k.trail.items (kept.Take c.args.by c.args.cid c.in_ok-posted.posted) (vec_capacity k.trail) k.keep c.take.new.self _ _
    c.self.invariant stands c.take.ensures.room c.push_reserved.ensures.items c.push_reserved.ensures.capacity

pub returns-clause-answer : goal.returns-clause-answer
returns-clause-answer c =
    let k = c.self.inside in
    subst (λ (d : Recorded). Ok c.in_ok-posted.posted ≡ take_answer (world_of d.config d.trail) c.args.by c.args.cid) c.self.view_is
    (answer-kept k.config k.commands k.trail.items (vec_capacity k.trail) c.args.by c.args.cid k.keep _ c.self.invariant c.in_ok-posted.ensures.answer)

pub returns-clause-lawful : goal.returns-clause-lawful
returns-clause-lawful c =
    let k = c.self.inside in
    let answer = sym c.in_ok-posted.ensures.answer in
    let stands = taken-kept k.config k.commands k.trail.items (vec_capacity k.trail) c.args.by c.args.cid k.keep c.take.new.self c.in_ok-posted.posted c.self.invariant answer c.in_ok-posted.ensures.moves in
    lawful-now k.config k.commands k.trail.items (kept.Take c.args.by c.args.cid c.in_ok-posted.posted) c.take.new.self _ stands c.push_reserved.ensures.items
