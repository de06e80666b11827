use Rattle.std.proofs.Common.{◌≡◌, ◌∙◌, ◌+◌, Bool, true, false, List, arith, ap, sym, subst, Some, None}
use Rattle.device_core.specs.Gives.{world_in}
use Rattle.device_core.specs.Recorded.{Recorded}
use Rattle.trail_model.specs.Lawful.{is_idle}
use Rattle.step_driver.specs.Held.{none_by}
use Rattle.step_driver.specs.declared.running.Held.{Held}
use Rattle.step_driver.proofs.Holding.{idle-by, idle-first, idle-last, idle-next}
use Rattle.step_driver.proofs.running.Running.idle.Goals as goal

pub returns-then-none_by : goal.returns-then-none_by
returns-then-none_by c =
    let k = c.self.inside in
    let tested : is_idle (world_in k.core) c.loop-party.party ≡ true =
    sym (ap (λ (hs : List Held). none_by hs c.loop-party.party) c.deref.ensures.value ∙ idle-by k.core.config (world_in k.core).claims k.held.items c.loop-party.party c.self.invariant.works)
    ∙ (sym c.none_by.ensures ∙ c.if-none_by.true) in
    let idle : is_idle (world_in c.args.self.now) c.loop-party.party ≡ true = subst (λ (d : Recorded). is_idle (world_in d) c.loop-party.party ≡ true) c.self.view_is tested in
    sym (idle-first (world_in c.args.self.now) c.loop-party.party (17 + c.args.workers) c.loop-party-test.true idle) ∙ c.loop-party.invariant

pub loop-party-preserved : goal.loop-party-preserved
loop-party-preserved c =
    let k = c.self.inside in
    let tested : is_idle (world_in k.core) c.loop-party.party ≡ false =
    sym (ap (λ (hs : List Held). none_by hs c.loop-party.party) c.deref.ensures.value ∙ idle-by k.core.config (world_in k.core).claims k.held.items c.loop-party.party c.self.invariant.works)
    ∙ (sym c.none_by.ensures ∙ c.if-none_by.false) in
    let busy : is_idle (world_in c.args.self.now) c.loop-party.party ≡ false = subst (λ (d : Recorded). is_idle (world_in d) c.loop-party.party ≡ false) c.self.view_is tested in
    sym (idle-next (world_in c.args.self.now) c.loop-party.party (17 + c.args.workers) c.loop-party-test.true busy) ∙ c.loop-party.invariant

pub returns : goal.returns
returns c = sym (idle-last (world_in c.args.self.now) c.loop-party.party (17 + c.args.workers) c.loop-party-test.false) ∙ c.loop-party.invariant
