use Rattle.std.proofs.Common.{◌≡◌, ◌+◌, List, [], ◌∷◌, ◌++◌, subst, sym}
use Rattle.device_core.specs.Recorded.{Recorded}
use Rattle.step_driver.specs.Held.{HoldsWorks}
use Rattle.step_driver.specs.declared.running.Held.{Held}
use Rattle.core_bench.specs.Progress.{IsLater, open_on, over_on, sent_on}
use Rattle.core_bench.proofs.Calls.{claim-opens, did-leaves}
use Rattle.core_bench.proofs.device.Device.claim_idle.Goals as goal

pub invariant_of-self-in-Claimed : goal.invariant_of-self-in-Claimed
invariant_of-self-in-Claimed c =
    let k = c.self.inside in
    let opens = claim-opens k.core c.claim.new.self k.held.items c.args.by 0 c.in-Claimed.claim c.in-Claimed.work c.self.invariant c.in-Claimed.ensures.gives c.in-Claimed.ensures.lawful in
    subst (λ (hs : List Held). HoldsWorks c.claim.new.self hs) (sym c.push_reserved.ensures.items)
    (subst (λ (hs : List Held). HoldsWorks c.claim.new.self (hs ++ (let h : Held = record { by = c.args.by; claim = c.in-Claimed.claim; work = c.in-Claimed.work } in h) ∷ []))
    (sym c.reserve.ensures.items) opens.holds)

pub returns-in-Claimed-clause-later : goal.returns-in-Claimed-clause-later
returns-in-Claimed-clause-later c =
    let k = c.self.inside in
    let opens = claim-opens k.core c.claim.new.self k.held.items c.args.by 0 c.in-Claimed.claim c.in-Claimed.work c.self.invariant c.in-Claimed.ensures.gives c.in-Claimed.ensures.lawful in
    subst (λ (d : Recorded). IsLater d c.claim.new.self) c.self.view_is opens.later

pub returns-in-Claimed-clause-sent : goal.returns-in-Claimed-clause-sent
returns-in-Claimed-clause-sent c =
    let k = c.self.inside in
    let opens = claim-opens k.core c.claim.new.self k.held.items c.args.by 0 c.in-Claimed.claim c.in-Claimed.work c.self.invariant c.in-Claimed.ensures.gives c.in-Claimed.ensures.lawful in
    subst (λ (d : Recorded). sent_on c.claim.new.self ≡ sent_on d) c.self.view_is opens.sent

pub returns-in-Claimed-clause-open : goal.returns-in-Claimed-clause-open
returns-in-Claimed-clause-open c =
    let k = c.self.inside in
    let opens = claim-opens k.core c.claim.new.self k.held.items c.args.by 0 c.in-Claimed.claim c.in-Claimed.work c.self.invariant c.in-Claimed.ensures.gives c.in-Claimed.ensures.lawful in
    λ _. subst (λ (d : Recorded). open_on c.claim.new.self ≡ open_on d + 1) c.self.view_is opens.claims

pub returns-in-Claimed-clause-over : goal.returns-in-Claimed-clause-over
returns-in-Claimed-clause-over c =
    let k = c.self.inside in
    let opens = claim-opens k.core c.claim.new.self k.held.items c.args.by 0 c.in-Claimed.claim c.in-Claimed.work c.self.invariant c.in-Claimed.ensures.gives c.in-Claimed.ensures.lawful in
    λ _. subst (λ (d : Recorded). over_on c.claim.new.self ≡ over_on d) c.self.view_is opens.over

pub invariant_of-self-in-Did : goal.invariant_of-self-in-Did
invariant_of-self-in-Did c =
    let k = c.self.inside in
    let leaves = did-leaves k.core c.claim.new.self k.held.items c.args.by 0 c.self.invariant c.in-Did.ensures.gives c.in-Did.ensures.lawful in
    subst (λ (hs : List Held). HoldsWorks c.claim.new.self hs) (sym c.reserve.ensures.items) leaves.holds

pub returns-in-Did-clause-later : goal.returns-in-Did-clause-later
returns-in-Did-clause-later c =
    let k = c.self.inside in
    let leaves = did-leaves k.core c.claim.new.self k.held.items c.args.by 0 c.self.invariant c.in-Did.ensures.gives c.in-Did.ensures.lawful in
    subst (λ (d : Recorded). IsLater d c.claim.new.self) c.self.view_is leaves.later

pub returns-in-Did-clause-sent : goal.returns-in-Did-clause-sent
returns-in-Did-clause-sent c =
    let k = c.self.inside in
    let leaves = did-leaves k.core c.claim.new.self k.held.items c.args.by 0 c.self.invariant c.in-Did.ensures.gives c.in-Did.ensures.lawful in
    subst (λ (d : Recorded). sent_on c.claim.new.self ≡ sent_on d) c.self.view_is leaves.sent
