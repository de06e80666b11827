use Rattle.std.proofs.Common.{◌≡◌, ◌∙◌, true, List, ap, sym, subst}
use Rattle.device_core.specs.Gives.{world_in}
use Rattle.device_core.specs.Recorded.{Recorded}
use Rattle.trail_model.specs.Lawful.{is_idle}
use Rattle.step_driver.specs.Held.{none_by}
use Rattle.step_driver.specs.declared.running.Held.{Held}
use Rattle.step_driver.proofs.Holding.{idle-by}
use Rattle.core_bench.proofs.device.Device.claim.Goals as goal

pub claim_idle-requires-clause-idle : goal.claim_idle-requires-clause-idle
claim_idle-requires-clause-idle c =
    let k = c.self.inside in
    let tested : is_idle (world_in k.core) c.args.by ≡ true =
    sym (ap (λ (hs : List Held). none_by hs c.args.by) c.deref.ensures.value ∙ idle-by k.core.config (world_in k.core).claims k.held.items c.args.by c.self.invariant.works)
    ∙ (sym c.none_by.ensures ∙ c.if-none_by.true) in
    subst (λ (d : Recorded). is_idle (world_in d) c.args.by ≡ true) c.self.view_is tested
