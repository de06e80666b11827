use Rattle.std.proofs.Common.{◌≡◌, ◌<◌, List, length, arith, slice_get, subst, sym, IsSomeAnd}
use Rattle.trail_model.specs.World.{OpenClaim}
use Rattle.device_core.specs.Gives.{world_in}
use Rattle.device_core.specs.Recorded.{Recorded}
use Rattle.schedule_model.specs.Schedule.{Ending}
use Rattle.step_driver.specs.Held.{HoldsWorks}
use Rattle.step_driver.specs.Turns.{DoesAction}
use Rattle.step_driver.specs.declared.running.Held.{Held}
use Rattle.step_driver.proofs.Doing.{finish-done, may-finish, may-run}
use Rattle.step_driver.proofs.Holding.{held-count}
use Rattle.step_driver.proofs.running.Running.finish.Goals as goal

pub remove-held-requires : goal.remove-held-requires
remove-held-requires c =
    let k = c.self.inside in
    let n = held-count k.core.config (world_in k.core).claims k.held.items c.self.invariant.works in
    let below : c.args.index < length (world_in k.core).claims = subst (λ (d : Recorded). c.args.index < length (world_in d).claims) (sym c.self.view_is) c.requires in
    omega arith

pub run-worked-requires : goal.run-worked-requires
run-worked-requires c =
    let k = c.self.inside in
    let n = held-count k.core.config (world_in k.core).claims k.held.items c.self.invariant.works in
    let below : c.args.index < length (world_in k.core).claims = subst (λ (d : Recorded). c.args.index < length (world_in d).claims) (sym c.self.view_is) c.requires in
    may-run k.core k.held.items c.args.index c.remove-held.result c.self.invariant (omega arith) c.remove-held.ensures.value

pub finish-requires : goal.finish-requires
finish-requires c =
    let k = c.self.inside in
    let n = held-count k.core.config (world_in k.core).claims k.held.items c.self.invariant.works in
    let below : c.args.index < length (world_in k.core).claims = subst (λ (d : Recorded). c.args.index < length (world_in d).claims) (sym c.self.view_is) c.requires in
    may-finish k.core k.held.items c.args.index c.remove-held.result c.run-worked.result c.self.invariant (omega arith) c.remove-held.ensures.value c.run-worked.ensures

pub invariant_of-self : goal.invariant_of-self
invariant_of-self c =
    let k = c.self.inside in
    let n = held-count k.core.config (world_in k.core).claims k.held.items c.self.invariant.works in
    let below : c.args.index < length (world_in k.core).claims = subst (λ (d : Recorded). c.args.index < length (world_in d).claims) (sym c.self.view_is) c.requires in
    let done = finish-done k.core c.finish.new.self k.held.items c.args.index c.remove-held.result c.run-worked.result c.self.invariant (omega arith) c.remove-held.ensures.value
    c.run-worked.ensures c.finish.ensures.finished c.finish.ensures.lawful in
    subst (λ (hs : List Held). HoldsWorks c.finish.new.self hs) (sym c.remove-held.ensures.items) done.0

pub returns : goal.returns
returns c =
    let k = c.self.inside in
    let n = held-count k.core.config (world_in k.core).claims k.held.items c.self.invariant.works in
    let below : c.args.index < length (world_in k.core).claims = subst (λ (d : Recorded). c.args.index < length (world_in d).claims) (sym c.self.view_is) c.requires in
    let done = finish-done k.core c.finish.new.self k.held.items c.args.index c.remove-held.result c.run-worked.result c.self.invariant (omega arith) c.remove-held.ensures.value
    c.run-worked.ensures c.finish.ensures.finished c.finish.ensures.lawful in
    subst (λ (d : Recorded). IsSomeAnd (slice_get (world_in d).claims c.args.index) (λ (claim : OpenClaim). DoesAction d c.finish.new.self (Ending claim))) c.self.view_is done.1
