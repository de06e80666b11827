-- A party turns to a command, and its event is added to the trail.
use Rattle.std.proofs.Common.{List, arith, rules, subst, sym}
use Rattle.std.specs.Vec.{vec_capacity}
use Rattle.device_core.specs.Gives.{Gives}
use Rattle.device_core.specs.Keep.{Holds}
use Rattle.device_core.specs.Recorded.{Recorded, told_event}
use Rattle.device_core.specs.declared.answers.Picked.TheVariants as picked
use Rattle.device_core.specs.declared.claiming.Turned.TheVariants as turned
use Rattle.device_core.specs.declared.events.Event.{Event as KeptEvent}
use Rattle.device_core.specs.declared.keep.Keep.{Keep}
use Rattle.device_core.proofs.Given.{given-claim, given-done, given-nothing, given-rested, read-as, recorded}
use Rattle.device_core.proofs.Stands.{few-events, held-now, lawful-now, spot-left}
use Rattle.device_core.proofs.device.Core.claim.Goals as goal

pub overflow_cast-claim : goal.overflow_cast-claim
overflow_cast-claim c =
    let k = c.self.inside in
    let few = few-events k.config k.commands k.trail.items (vec_capacity k.trail) k.keep c.self.invariant in
    search (rules, few)

pub push_reserved-requires : goal.push_reserved-requires
push_reserved-requires c =
    let k = c.self.inside in
    let turns = read-as k.config k.commands k.trail.items c.deref.result.now c.args.by c.args.skip (turned.Claimed c.in-Claimed.event c.in-Claimed.work) k.keep c.turn.new.keep c.deref.ensures.value c.in-Claimed.ensures.turns in
    let left = spot-left k.config k.commands k.trail.items (told_event c.in-Claimed.event) (vec_capacity k.trail) k.keep c.self.invariant turns.0.lawful in
    omega arith

pub invariant_of-self : goal.invariant_of-self
invariant_of-self c =
    let k = c.self.inside in
    let turns = read-as k.config k.commands k.trail.items c.deref.result.now c.args.by c.args.skip (turned.Claimed c.in-Claimed.event c.in-Claimed.work) k.keep c.turn.new.keep c.deref.ensures.value c.in-Claimed.ensures.turns in
    held-now k.config k.commands k.trail.items c.in-Claimed.event (vec_capacity k.trail) k.keep c.turn.new.keep _ _
    c.self.invariant turns.0 c.turn.ensures.room c.push_reserved.ensures.items c.push_reserved.ensures.capacity

pub returns-in-Claimed-clause-gives : goal.returns-in-Claimed-clause-gives
returns-in-Claimed-clause-gives c =
    let k = c.self.inside in
    let turns = read-as k.config k.commands k.trail.items c.deref.result.now c.args.by c.args.skip (turned.Claimed c.in-Claimed.event c.in-Claimed.work) k.keep c.turn.new.keep c.deref.ensures.value c.in-Claimed.ensures.turns in
    subst (λ (d : Recorded). Gives d c.args.by c.args.skip (picked.Claimed c.in-Claimed.work c.len-claim.result) (recorded k.config k.commands c.push_reserved.new.self.items)) c.self.view_is
    (given-claim k.config k.commands k.trail.items c.push_reserved.new.self.items c.in-Claimed.event c.args.by c.args.skip c.len-claim.result c.in-Claimed.work c.push_reserved.ensures.items (omega arith) turns.1)

pub returns-in-Claimed-clause-lawful : goal.returns-in-Claimed-clause-lawful
returns-in-Claimed-clause-lawful c =
    let k = c.self.inside in
    let turns = read-as k.config k.commands k.trail.items c.deref.result.now c.args.by c.args.skip (turned.Claimed c.in-Claimed.event c.in-Claimed.work) k.keep c.turn.new.keep c.deref.ensures.value c.in-Claimed.ensures.turns in
    lawful-now k.config k.commands k.trail.items c.in-Claimed.event c.turn.new.keep _ turns.0 c.push_reserved.ensures.items

pub push_reserved-requires-in-Did : goal.push_reserved-requires-in-Did
push_reserved-requires-in-Did c =
    let k = c.self.inside in
    let turns = read-as k.config k.commands k.trail.items c.deref.result.now c.args.by c.args.skip (turned.Did c.in-Did.event) k.keep c.turn.new.keep c.deref.ensures.value c.in-Did.ensures.turns in
    let left = spot-left k.config k.commands k.trail.items (told_event c.in-Did.event) (vec_capacity k.trail) k.keep c.self.invariant turns.0.lawful in
    omega arith

pub invariant_of-self-in-Did : goal.invariant_of-self-in-Did
invariant_of-self-in-Did c =
    let k = c.self.inside in
    let turns = read-as k.config k.commands k.trail.items c.deref.result.now c.args.by c.args.skip (turned.Did c.in-Did.event) k.keep c.turn.new.keep c.deref.ensures.value c.in-Did.ensures.turns in
    held-now k.config k.commands k.trail.items c.in-Did.event (vec_capacity k.trail) k.keep c.turn.new.keep _ _
    c.self.invariant turns.0 c.turn.ensures.room c.push_reserved-in-Did.ensures.items c.push_reserved-in-Did.ensures.capacity

pub returns-in-Did-clause-gives : goal.returns-in-Did-clause-gives
returns-in-Did-clause-gives c =
    let k = c.self.inside in
    let turns = read-as k.config k.commands k.trail.items c.deref.result.now c.args.by c.args.skip (turned.Did c.in-Did.event) k.keep c.turn.new.keep c.deref.ensures.value c.in-Did.ensures.turns in
    subst (λ (d : Recorded). Gives d c.args.by c.args.skip picked.Did (recorded k.config k.commands c.push_reserved-in-Did.new.self.items)) c.self.view_is
    (given-done k.config k.commands k.trail.items c.push_reserved-in-Did.new.self.items c.in-Did.event c.args.by c.args.skip c.push_reserved-in-Did.ensures.items turns.1)

pub returns-in-Did-clause-lawful : goal.returns-in-Did-clause-lawful
returns-in-Did-clause-lawful c =
    let k = c.self.inside in
    let turns = read-as k.config k.commands k.trail.items c.deref.result.now c.args.by c.args.skip (turned.Did c.in-Did.event) k.keep c.turn.new.keep c.deref.ensures.value c.in-Did.ensures.turns in
    lawful-now k.config k.commands k.trail.items c.in-Did.event c.turn.new.keep _ turns.0 c.push_reserved-in-Did.ensures.items

pub returns-in-Nothing-clause-gives : goal.returns-in-Nothing-clause-gives
returns-in-Nothing-clause-gives c =
    let k = c.self.inside in
    let turns = read-as k.config k.commands k.trail.items c.deref.result.now c.args.by c.args.skip turned.Nothing k.keep c.turn.new.keep c.deref.ensures.value c.in-Nothing.ensures.turns in
    subst (λ (d : Recorded). Gives d c.args.by c.args.skip picked.Nothing (recorded k.config k.commands k.trail.items)) c.self.view_is
    (given-nothing k.config k.commands k.trail.items c.args.by c.args.skip k.keep c.turn.new.keep turns)

pub returns-in-Rested-clause-gives : goal.returns-in-Rested-clause-gives
returns-in-Rested-clause-gives c =
    let k = c.self.inside in
    let turns = read-as k.config k.commands k.trail.items c.deref.result.now c.args.by c.args.skip turned.Rested k.keep c.turn.new.keep c.deref.ensures.value c.in-Rested.ensures.turns in
    subst (λ (d : Recorded). Gives d c.args.by c.args.skip picked.Rested (recorded k.config k.commands k.trail.items)) c.self.view_is
    (given-rested k.config k.commands k.trail.items c.args.by c.args.skip k.keep c.turn.new.keep turns)

pub turn-requires-clause-held : goal.turn-requires-clause-held
turn-requires-clause-held c =
    let k = c.self.inside in
    (vec_capacity k.trail, subst (λ (events : List KeptEvent). Holds k.config k.commands events (vec_capacity k.trail) k.keep) (sym c.deref.ensures.value) c.self.invariant)

pub invariant_of-self-in-Nothing : goal.invariant_of-self-in-Nothing
invariant_of-self-in-Nothing c =
    let k = c.self.inside in
    subst (λ (keep : Keep). Holds k.config k.commands k.trail.items (vec_capacity k.trail) keep) (sym c.in-Nothing.ensures.turns.0) c.self.invariant

pub returns-in-Nothing-clause-lawful : goal.returns-in-Nothing-clause-lawful
returns-in-Nothing-clause-lawful c = c.self.invariant.stands.lawful

pub invariant_of-self-in-Rested : goal.invariant_of-self-in-Rested
invariant_of-self-in-Rested c =
    let k = c.self.inside in
    subst (λ (keep : Keep). Holds k.config k.commands k.trail.items (vec_capacity k.trail) keep) (sym c.in-Rested.ensures.turns.0) c.self.invariant

pub returns-in-Rested-clause-lawful : goal.returns-in-Rested-clause-lawful
returns-in-Rested-clause-lawful c = c.self.invariant.stands.lawful
