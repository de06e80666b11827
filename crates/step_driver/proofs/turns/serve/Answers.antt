use Rattle.std.proofs.Common.{ℕ, ◌+◌, ◌-◌, ◌≤◌, IsSomeAnd, arith, length, slice_get, subst, sym}
use Rattle.std.proofs.lemmas.Result.{on_ok_weaker}
use Rattle.trail_model.specs.World.{Submission, pickable_among}
use Rattle.schedule_model.specs.Schedule.{Turning}
use Rattle.step_driver.specs.Turns.{DoesAction}
use Rattle.device_core.specs.Gives.{world_in}
use Rattle.cp_base.specs.declared.limits.TheConstants.{MAX_HOSTS}
use Rattle.step_driver.proofs.Serving.{idle-found, is-party, served-turn}
use Rattle.step_driver.proofs.turns.serve.Goals as goal

pub turn-requires-clause-party : goal.turn-requires-clause-party
turn-requires-clause-party c = is-party (world_in c.args.running.now) c.args.workers c.in-Some.worker c.requires.workers (sym c.in-Some.ensures)

pub turn-requires-clause-idle : goal.turn-requires-clause-idle
turn-requires-clause-idle c = (idle-found (world_in c.args.running.now) (MAX_HOSTS + 1) c.args.workers c.in-Some.worker (sym c.in-Some.ensures)).idle

pub returns-clause-served : goal.returns-clause-served
returns-clause-served c =
    let d = c.args.running.now in
    let at : ℕ → Type 0 = λ n. IsSomeAnd (slice_get (pickable_among d.config (world_in d)) n) (λ (s : Submission). DoesAction d c.turn.new.self (Turning c.in-Some.worker s)) in
    let behind : length (world_in d).claims ≤ c.args.number = omega (arith, c.open-open.ensures.open) in
    on_ok_weaker c.turn.result
    (λ did. served-turn c.args.workers c.args.number c.in-Some.worker d c.turn.new.self (sym c.in-Some.ensures) behind
    (subst (λ (n : ℕ). at (c.args.number - n)) c.open-open.ensures.open did))
    c.turn.ensures.turned
