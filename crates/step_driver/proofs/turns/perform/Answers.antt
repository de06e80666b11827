use Rattle.std.proofs.Common.{◌≡◌, ℕ, ◌+◌, ◌-◌, ◌<◌, ◌≤◌, IsSomeAnd, List, arith, length, slice_get, ap, subst, sym, ◌∙◌}
use Rattle.std.proofs.lemmas.Result.{on_ok_weaker}
use Rattle.history_model.specs.Plain.{PlainPart}
use Rattle.device_core.specs.Gives.{world_in}
use Rattle.device_core.specs.Recorded.{Recorded}
use Rattle.schedule_model.specs.Schedule.{Action, actions_of_hosts}
use Rattle.step_driver.specs.Turns.{IsActionDone, IsReadyAt}
use Rattle.step_driver.proofs.Serving.{count-listed, done-by-host, done-by-worker}
use Rattle.step_driver.proofs.turns.perform.Goals as goal

pub act_at-requires-clause-ready : goal.act_at-requires-clause-ready
act_at-requires-clause-ready c =
    let d = c.args.running.now in
    let parts = c.args.parts.now.items in
    let found : IsReadyAt (world_in d) parts c.args.number c.in-Ok.index =
    subst (λ (ps : List PlainPart). IsReadyAt (world_in d) ps c.args.number c.in-Ok.index) c.deref.ensures.value
    (subst (λ (r : Recorded). IsReadyAt (world_in r) c.deref.result.now c.args.number c.in-Ok.index) c.core.ensures c.in-Ok.ensures.found) in
    found.ready

pub returns-in-Ok-clause-done : goal.returns-in-Ok-clause-done
returns-in-Ok-clause-done c =
    let d = c.args.running.now in
    let new = c.act_at.new.running in
    let parts = c.args.parts.now.items in
    let after = c.act_at.new.parts.items in
    let found : IsReadyAt (world_in d) parts c.args.number c.in-Ok.index =
    subst (λ (ps : List PlainPart). IsReadyAt (world_in d) ps c.args.number c.in-Ok.index) c.deref.ensures.value
    (subst (λ (r : Recorded). IsReadyAt (world_in r) c.deref.result.now c.args.number c.in-Ok.index) c.core.ensures c.in-Ok.ensures.found) in
    done-by-host c.args.workers c.args.number d new parts after
    (subst (λ (n : ℕ). IsSomeAnd (slice_get (actions_of_hosts (world_in d) parts) n) (λ (action : Action). IsActionDone d new parts after action)) found.before c.act_at.ensures)

pub serve-requires-clause-number : goal.serve-requires-clause-number
serve-requires-clause-number c =
    let d = c.args.running.now in
    let parts = c.args.parts.now.items in
    let listed = count-listed c.args.workers d parts in
    let hosts : c.in-Err.count ≡ length (actions_of_hosts (world_in d) parts) =
    c.in-Err.ensures.fewer.0 ∙ (ap (λ (ps : List PlainPart). length (actions_of_hosts (world_in c.core.result.now) ps)) c.deref.ensures.value
    ∙ ap (λ (r : Recorded). length (actions_of_hosts (world_in r) parts)) c.core.ensures) in
    let behind : c.in-Err.count ≤ c.args.number = c.in-Err.ensures.fewer.1 in
    let below = c.requires.number in
    omega arith

pub returns-in-Err-clause-done : goal.returns-in-Err-clause-done
returns-in-Err-clause-done c =
    let d = c.args.running.now in
    let parts = c.args.parts.now.items in
    let hosts : c.in-Err.count ≡ length (actions_of_hosts (world_in d) parts) =
    c.in-Err.ensures.fewer.0 ∙ (ap (λ (ps : List PlainPart). length (actions_of_hosts (world_in c.core.result.now) ps)) c.deref.ensures.value
    ∙ ap (λ (r : Recorded). length (actions_of_hosts (world_in r) parts)) c.core.ensures) in
    on_ok_weaker c.serve.result (λ served. done-by-worker c.args.workers c.args.number c.in-Err.count d c.serve.new.running parts hosts c.in-Err.ensures.fewer.1 served) c.serve.ensures.served
