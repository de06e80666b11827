-- A finish is added to the trail.
use Rattle.std.proofs.Common.{List, arith, subst, sym}
use Rattle.std.specs.Prelude.{IsSomeAnd}
use Rattle.std.specs.Vec.{vec_capacity}
use Rattle.cp_base.specs.Answer.{answer_of}
use Rattle.trail_model.specs.Lawful.{world_of}
use Rattle.trail_model.specs.World.{OpenClaim, claim_at}
use Rattle.trail_model.specs.declared.events.Event.TheVariants as event
use Rattle.device_core.specs.Gives.{HasWorked}
use Rattle.device_core.specs.Homecoming.{BringsHome}
use Rattle.device_core.specs.Recorded.{Recorded}
use Rattle.device_core.specs.declared.events.Event.{Event as KeptEvent}
use Rattle.device_core.specs.declared.events.Event.TheVariants as kept
use Rattle.device_core.proofs.Finished.{brings, finish-told}
use Rattle.device_core.proofs.Stands.{held-now, lawful-now, spot-left}
use Rattle.device_core.proofs.device.Core.finish.Goals as goal

pub bring_home-requires : goal.bring_home-requires
bring_home-requires c =
    let k = c.self.inside in
    let has = subst (λ (d : Recorded). IsSomeAnd (claim_at (world_of d.config d.trail).claims c.args.claim) (λ (x : OpenClaim). HasWorked d c.args.by c.args.worked x))
    (sym c.self.view_is) c.requires in
    let there = subst (λ (ts : List KeptEvent). BringsHome k.config k.commands ts k.keep c.args.claim c.args.worked.pieces.items) (sym c.deref.ensures.value)
    (brings k.config k.commands k.trail.items (vec_capacity k.trail) c.args.by c.args.claim k.keep c.args.worked c.self.invariant has) in
    (k.config, k.commands, there)

pub push_reserved-requires : goal.push_reserved-requires
push_reserved-requires c =
    let k = c.self.inside in
    let has = subst (λ (d : Recorded). IsSomeAnd (claim_at (world_of d.config d.trail).claims c.args.claim) (λ (x : OpenClaim). HasWorked d c.args.by c.args.worked x))
    (sym c.self.view_is) c.requires in
    let stands = finish-told k.config k.commands k.trail.items c.deref.result.now (vec_capacity k.trail) c.args.by c.args.claim k.keep c.bring_home.new.keep c.args.worked
    c.deref.ensures.value c.self.invariant has c.bring_home.ensures.stands in
    let left = spot-left k.config k.commands k.trail.items (event.Finish c.args.by c.args.claim (answer_of c.args.worked.reply)) (vec_capacity k.trail) k.keep c.self.invariant stands.lawful in
    omega arith

pub invariant_of-self : goal.invariant_of-self
invariant_of-self c =
    let k = c.self.inside in
    let has = subst (λ (d : Recorded). IsSomeAnd (claim_at (world_of d.config d.trail).claims c.args.claim) (λ (x : OpenClaim). HasWorked d c.args.by c.args.worked x))
    (sym c.self.view_is) c.requires in
    let stands = finish-told k.config k.commands k.trail.items c.deref.result.now (vec_capacity k.trail) c.args.by c.args.claim k.keep c.bring_home.new.keep c.args.worked
    c.deref.ensures.value c.self.invariant has c.bring_home.ensures.stands in
    held-now k.config k.commands k.trail.items (kept.Finish c.args.by c.args.claim c.args.worked.reply) (vec_capacity k.trail) k.keep c.bring_home.new.keep _ _
    c.self.invariant stands c.bring_home.ensures.room c.push_reserved.ensures.items c.push_reserved.ensures.capacity

pub returns-clause-lawful : goal.returns-clause-lawful
returns-clause-lawful c =
    let k = c.self.inside in
    let has = subst (λ (d : Recorded). IsSomeAnd (claim_at (world_of d.config d.trail).claims c.args.claim) (λ (x : OpenClaim). HasWorked d c.args.by c.args.worked x))
    (sym c.self.view_is) c.requires in
    let stands = finish-told k.config k.commands k.trail.items c.deref.result.now (vec_capacity k.trail) c.args.by c.args.claim k.keep c.bring_home.new.keep c.args.worked
    c.deref.ensures.value c.self.invariant has c.bring_home.ensures.stands in
    lawful-now k.config k.commands k.trail.items (kept.Finish c.args.by c.args.claim c.args.worked.reply) c.bring_home.new.keep _ stands c.push_reserved.ensures.items
