use Rattle.std.proofs.Common.{◌≡◌, ◌<◌, List, [], ◌∷◌, ◌++◌, length, arith, rules, slice_get, subst, sym, IsSomeAnd}
use Rattle.trail_model.specs.World.{Submission, pickable_among}
use Rattle.device_core.specs.Gives.{world_in}
use Rattle.device_core.specs.Recorded.{Recorded}
use Rattle.schedule_model.specs.Schedule.{Turning}
use Rattle.step_driver.specs.Held.{HoldsWorks}
use Rattle.step_driver.specs.Turns.{DoesAction}
use Rattle.step_driver.specs.declared.running.Held.{Held}
use Rattle.step_driver.proofs.Doing.{turn-claimed, turn-did}
use Rattle.step_driver.proofs.Holding.{few-picked}
use Rattle.step_driver.proofs.running.Running.turn.Goals as goal

pub overflow_cast-number : goal.overflow_cast-number
overflow_cast-number c =
    let k = c.self.inside in
    let few = few-picked k.core k.held.items c.self.invariant in
    let some : c.args.skip < length (pickable_among k.core.config (world_in k.core)) =
    subst (λ (d : Recorded). c.args.skip < length (pickable_among d.config (world_in d))) (sym c.self.view_is) c.requires.some in
    search (rules, few, some)

pub invariant_of-self-in-Claimed : goal.invariant_of-self-in-Claimed
invariant_of-self-in-Claimed c =
    let k = c.self.inside in
    let done = turn-claimed k.core c.claim.new.self k.held.items c.args.by c.args.skip c.in-Claimed.claim c.in-Claimed.work c.self.invariant c.in-Claimed.ensures.gives c.in-Claimed.ensures.lawful in
    subst (λ (hs : List Held). HoldsWorks c.claim.new.self hs) (sym c.push_reserved.ensures.items)
    (subst (λ (hs : List Held). HoldsWorks c.claim.new.self (hs ++ (let h : Held = record { by = c.args.by; claim = c.in-Claimed.claim; work = c.in-Claimed.work } in h) ∷ []))
    (sym c.reserve.ensures.items) done.0)

pub invariant_of-self-in-Did : goal.invariant_of-self-in-Did
invariant_of-self-in-Did c =
    let k = c.self.inside in
    let done = turn-did k.core c.claim.new.self k.held.items c.args.by c.args.skip c.self.invariant c.in-Did.ensures.gives c.in-Did.ensures.lawful in
    subst (λ (hs : List Held). HoldsWorks c.claim.new.self hs) (sym c.reserve.ensures.items) done.0

pub returns-in-Claimed-clause-turned : goal.returns-in-Claimed-clause-turned
returns-in-Claimed-clause-turned c =
    let k = c.self.inside in
    let done = turn-claimed k.core c.claim.new.self k.held.items c.args.by c.args.skip c.in-Claimed.claim c.in-Claimed.work c.self.invariant c.in-Claimed.ensures.gives c.in-Claimed.ensures.lawful in
    subst (λ (d : Recorded). IsSomeAnd (slice_get (pickable_among d.config (world_in d)) c.args.skip) (λ (s : Submission). DoesAction d c.claim.new.self (Turning c.args.by s))) c.self.view_is done.1

pub returns-in-Did-clause-turned : goal.returns-in-Did-clause-turned
returns-in-Did-clause-turned c =
    let k = c.self.inside in
    let done = turn-did k.core c.claim.new.self k.held.items c.args.by c.args.skip c.self.invariant c.in-Did.ensures.gives c.in-Did.ensures.lawful in
    subst (λ (d : Recorded). IsSomeAnd (slice_get (pickable_among d.config (world_in d)) c.args.skip) (λ (s : Submission). DoesAction d c.claim.new.self (Turning c.args.by s))) c.self.view_is done.1
