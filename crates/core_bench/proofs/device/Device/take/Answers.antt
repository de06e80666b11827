use Rattle.std.proofs.Common.{◌≡◌, subst}
use Rattle.device_core.specs.Recorded.{Recorded}
use Rattle.core_bench.specs.Progress.{IsLater, open_on, over_on, sent_on}
use Rattle.core_bench.proofs.Calls.{take-keeps, take-sends}
use Rattle.core_bench.proofs.device.Device.take.Goals as goal

pub invariant_of-self : goal.invariant_of-self
invariant_of-self c =
    let k = c.self.inside in
    (take-keeps c.take.result k.core c.take.new.self k.held.items c.args.host c.args.cid c.self.invariant c.take.ensures.answer c.take.ensures.taken c.take.ensures.unchanged c.take.ensures.lawful).holds

pub returns-clause-later : goal.returns-clause-later
returns-clause-later c =
    let k = c.self.inside in
    subst (λ (d : Recorded). IsLater d c.take.new.self) c.self.view_is
    (take-keeps c.take.result k.core c.take.new.self k.held.items c.args.host c.args.cid c.self.invariant c.take.ensures.answer c.take.ensures.taken c.take.ensures.unchanged c.take.ensures.lawful).later

pub returns-clause-sent : goal.returns-clause-sent
returns-clause-sent c =
    let k = c.self.inside in
    subst (λ (d : Recorded). sent_on c.take.new.self ≡ sent_on d) c.self.view_is
    (take-sends c.take.result k.core c.take.new.self c.args.host c.args.cid c.take.ensures.taken c.take.ensures.unchanged)

pub returns-clause-open : goal.returns-clause-open
returns-clause-open c =
    let k = c.self.inside in
    subst (λ (d : Recorded). open_on c.take.new.self ≡ open_on d) c.self.view_is
    (take-keeps c.take.result k.core c.take.new.self k.held.items c.args.host c.args.cid c.self.invariant c.take.ensures.answer c.take.ensures.taken c.take.ensures.unchanged c.take.ensures.lawful).claims

pub returns-clause-over : goal.returns-clause-over
returns-clause-over c =
    let k = c.self.inside in
    subst (λ (d : Recorded). over_on c.take.new.self ≡ over_on d) c.self.view_is
    (take-keeps c.take.result k.core c.take.new.self k.held.items c.args.host c.args.cid c.self.invariant c.take.ensures.answer c.take.ensures.taken c.take.ensures.unchanged c.take.ensures.lawful).over
