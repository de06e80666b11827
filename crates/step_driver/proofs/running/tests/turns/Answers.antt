use Rattle.std.proofs.Common.{◌∙◌, List, [], ◌∷◌, ◌++◌, ap, subst, sym}
use Rattle.device_core.specs.Gives.{world_in}
use Rattle.device_core.specs.Recorded.{Recorded}
use Rattle.step_driver.specs.Held.{HoldsWorks, none_by}
use Rattle.step_driver.specs.declared.running.Held.{Held}
use Rattle.step_driver.proofs.Doing.{turn-claimed, turn-did}
use Rattle.step_driver.proofs.Holding.{idle-by}
use Rattle.step_driver.proofs.running.tests.turns.Goals as goal

pub claim-requires-clause-idle : goal.claim-requires-clause-idle
claim-requires-clause-idle c =
    let k = c.running.inside in
    sym (ap (λ (hs : List Held). none_by hs c.args.by) c.deref.ensures.value ∙ idle-by k.core.config (world_in k.core).claims k.held.items c.args.by c.running.invariant.works)
    ∙ (sym c.none_by.ensures ∙ c.if-not-none_by.false)

pub invariant_of-running-in-Claimed : goal.invariant_of-running-in-Claimed
invariant_of-running-in-Claimed c =
    let k = c.running.inside in
    let done = turn-claimed k.core c.claim.new.self k.held.items c.args.by c.args.skip c.in-Claimed.claim c.in-Claimed.work c.running.invariant c.in-Claimed.ensures.gives c.in-Claimed.ensures.lawful in
    subst (λ (hs : List Held). HoldsWorks c.claim.new.self hs) (sym c.push_reserved.ensures.items)
    (subst (λ (hs : List Held). HoldsWorks c.claim.new.self (hs ++ (let h : Held = record { by = c.args.by; claim = c.in-Claimed.claim; work = c.in-Claimed.work } in h) ∷ []))
    (sym c.reserve.ensures.items) done.0)

pub invariant_of-running-in-Did : goal.invariant_of-running-in-Did
invariant_of-running-in-Did c =
    let k = c.running.inside in
    let done = turn-did k.core c.claim.new.self k.held.items c.args.by c.args.skip c.running.invariant c.in-Did.ensures.gives c.in-Did.ensures.lawful in
    subst (λ (hs : List Held). HoldsWorks c.claim.new.self hs) (sym c.reserve.ensures.items) done.0

pub invariant_of-running-in-Nothing : goal.invariant_of-running-in-Nothing
invariant_of-running-in-Nothing c =
    let k = c.running.inside in
    subst (λ (hs : List Held). HoldsWorks c.claim.new.self hs) (sym c.reserve.ensures.items)
    (subst (λ (d : Recorded). HoldsWorks d k.held.items) (sym c.in-Nothing.ensures.gives.0) c.running.invariant)

pub invariant_of-running-in-Rested : goal.invariant_of-running-in-Rested
invariant_of-running-in-Rested c =
    let k = c.running.inside in
    subst (λ (hs : List Held). HoldsWorks c.claim.new.self hs) (sym c.reserve.ensures.items)
    (subst (λ (d : Recorded). HoldsWorks d k.held.items) (sym c.in-Rested.ensures.gives.0) c.running.invariant)
