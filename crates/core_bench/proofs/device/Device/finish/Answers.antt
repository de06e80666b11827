use Rattle.std.proofs.Common.{◌≡◌, ◌+◌, ◌<◌, List, length, arith, subst, sym}
use Rattle.device_core.specs.Recorded.{Recorded}
use Rattle.step_driver.specs.Held.{HoldsWorks}
use Rattle.step_driver.specs.declared.running.Held.{Held}
use Rattle.step_driver.proofs.Doing.{may-finish, may-run}
use Rattle.core_bench.specs.Progress.{IsLater, open_on, over_on, sent_on}
use Rattle.core_bench.proofs.Calls.{finish-ends}
use Rattle.core_bench.proofs.device.Device.finish.Goals as goal

pub run-worked-requires : goal.run-worked-requires
run-worked-requires c =
    let k = c.self.inside in
    let some : 0 < length k.held.items = grind (arith, c.is_empty.ensures, c.if-is_empty.false) in
    may-run k.core k.held.items 0 c.remove-held.result c.self.invariant some c.remove-held.ensures.value

pub finish-requires : goal.finish-requires
finish-requires c =
    let k = c.self.inside in
    let some : 0 < length k.held.items = grind (arith, c.is_empty.ensures, c.if-is_empty.false) in
    may-finish k.core k.held.items 0 c.remove-held.result c.run-worked.result c.self.invariant some c.remove-held.ensures.value c.run-worked.ensures

pub invariant_of-self : goal.invariant_of-self
invariant_of-self c =
    let k = c.self.inside in
    let some : 0 < length k.held.items = grind (arith, c.is_empty.ensures, c.if-is_empty.false) in
    subst (λ (hs : List Held). HoldsWorks c.finish.new.self hs) (sym c.remove-held.ensures.items)
    (finish-ends k.core c.finish.new.self k.held.items c.remove-held.result c.run-worked.result c.self.invariant some c.remove-held.ensures.value c.run-worked.ensures c.finish.ensures.finished c.finish.ensures.lawful).holds

pub returns-clause-later : goal.returns-clause-later
returns-clause-later c =
    let k = c.self.inside in
    let some : 0 < length k.held.items = grind (arith, c.is_empty.ensures, c.if-is_empty.false) in
    subst (λ (d : Recorded). IsLater d c.finish.new.self) c.self.view_is
    (finish-ends k.core c.finish.new.self k.held.items c.remove-held.result c.run-worked.result c.self.invariant some c.remove-held.ensures.value c.run-worked.ensures c.finish.ensures.finished c.finish.ensures.lawful).later

pub returns-clause-sent : goal.returns-clause-sent
returns-clause-sent c =
    let k = c.self.inside in
    let some : 0 < length k.held.items = grind (arith, c.is_empty.ensures, c.if-is_empty.false) in
    subst (λ (d : Recorded). sent_on c.finish.new.self ≡ sent_on d) c.self.view_is
    (finish-ends k.core c.finish.new.self k.held.items c.remove-held.result c.run-worked.result c.self.invariant some c.remove-held.ensures.value c.run-worked.ensures c.finish.ensures.finished c.finish.ensures.lawful).sent

pub returns-clause-open : goal.returns-clause-open
returns-clause-open c =
    let k = c.self.inside in
    let some : 0 < length k.held.items = grind (arith, c.is_empty.ensures, c.if-is_empty.false) in
    λ _. subst (λ (d : Recorded). open_on c.finish.new.self + 1 ≡ open_on d) c.self.view_is
    (finish-ends k.core c.finish.new.self k.held.items c.remove-held.result c.run-worked.result c.self.invariant some c.remove-held.ensures.value c.run-worked.ensures c.finish.ensures.finished c.finish.ensures.lawful).claims

pub returns-clause-over : goal.returns-clause-over
returns-clause-over c =
    let k = c.self.inside in
    let some : 0 < length k.held.items = grind (arith, c.is_empty.ensures, c.if-is_empty.false) in
    subst (λ (d : Recorded). over_on c.finish.new.self ≡ over_on d + 1) c.self.view_is
    (finish-ends k.core c.finish.new.self k.held.items c.remove-held.result c.run-worked.result c.self.invariant some c.remove-held.ensures.value c.run-worked.ensures c.finish.ensures.finished c.finish.ensures.lawful).over
