use Rattle.std.proofs.Common.{◌≡◌, ◌∙◌, Bool, [], ◌∷◌, ◌++◌, if◌then◌else◌, ap, subst, sym}
use Rattle.std.specs.Arc.{arc_value}
use Rattle.device_core.specs.Recorded.{Recorded}
use Rattle.core_bench.specs.Progress.{IsLater, open_on, over_on, sent_as, sent_on}
use Rattle.core_bench.proofs.Calls.{submit-keeps, submit-sends}
use Rattle.core_bench.proofs.device.Device.submit.Goals as goal

pub invariant_of-self : goal.invariant_of-self
invariant_of-self c =
    let k = c.self.inside in
    (submit-keeps c.submit.result k.core c.submit.new.self k.held.items c.args.host c.args.cid (arc_value c.args.command) c.self.invariant c.submit.ensures.submitted c.submit.ensures.unchanged c.submit.ensures.lawful).holds

pub returns-clause-later : goal.returns-clause-later
returns-clause-later c =
    let k = c.self.inside in
    subst (λ (d : Recorded). IsLater d c.submit.new.self) c.self.view_is
    (submit-keeps c.submit.result k.core c.submit.new.self k.held.items c.args.host c.args.cid (arc_value c.args.command) c.self.invariant c.submit.ensures.submitted c.submit.ensures.unchanged c.submit.ensures.lawful).later

pub returns-clause-sent : goal.returns-clause-sent
returns-clause-sent c =
    let k = c.self.inside in
    subst (λ (d : Recorded). sent_on c.submit.new.self ≡ (if c.is_ok.result then sent_on d ++ sent_as c.args.host c.args.cid (arc_value c.args.command) ∷ [] else sent_on d)) c.self.view_is
    (submit-sends c.submit.result k.core c.submit.new.self c.args.host c.args.cid (arc_value c.args.command) c.submit.ensures.submitted c.submit.ensures.unchanged
    ∙ ap (λ (b : Bool). if b then sent_on k.core ++ sent_as c.args.host c.args.cid (arc_value c.args.command) ∷ [] else sent_on k.core) (sym c.is_ok.ensures.value))

pub returns-clause-open : goal.returns-clause-open
returns-clause-open c =
    let k = c.self.inside in
    subst (λ (d : Recorded). open_on c.submit.new.self ≡ open_on d) c.self.view_is
    (submit-keeps c.submit.result k.core c.submit.new.self k.held.items c.args.host c.args.cid (arc_value c.args.command) c.self.invariant c.submit.ensures.submitted c.submit.ensures.unchanged c.submit.ensures.lawful).claims

pub returns-clause-over : goal.returns-clause-over
returns-clause-over c =
    let k = c.self.inside in
    subst (λ (d : Recorded). over_on c.submit.new.self ≡ over_on d) c.self.view_is
    (submit-keeps c.submit.result k.core c.submit.new.self k.held.items c.args.host c.args.cid (arc_value c.args.command) c.self.invariant c.submit.ensures.submitted c.submit.ensures.unchanged c.submit.ensures.lawful).over
