use Rattle.std.proofs.Common.{◌≡◌, length, arith, rules, subst}
use Rattle.trail_model.specs.Lawful.{history_of}
use Rattle.core_model.proofs.Entries.{entries-number}
use Rattle.core_model.proofs.Numbers.{all-submits}
use Rattle.device_core.specs.Keep.{parts_of}
use Rattle.device_core.specs.Recorded.{Recorded, trail_of}
use Rattle.device_core.proofs.device.Core.ended.Goals as goal

pub overflow_cast-result : goal.overflow_cast-result
overflow_cast-result c =
    let k = c.self.inside in
    let most = all-submits k.config k.commands (parts_of (length k.trail.items) k.keep) (trail_of k.trail.items) c.self.invariant.stands in
    let few = c.self.invariant.few in
    search (rules, most.0, most.1, few)

pub returns : goal.returns
returns c =
    let k = c.self.inside in
    let number = entries-number k.config k.commands (parts_of (length k.trail.items) k.keep) (trail_of k.trail.items) c.self.invariant.stands in
    subst (λ (d : Recorded). c.len.result ≡ length (history_of d.config d.trail)) c.self.view_is (omega arith)
