-- The number of an action tells what is done: a host's item, the end of a claim, or a worker's turn.
use Rattle.std.proofs.Common.{◌≡◌, ◌∙◌, ℕ, zero, suc, ◌+◌, ◌-◌, ◌<◌, ◌≤◌, Bool, true, false, if◌then◌else◌, List, [], ◌∷◌, ◌++◌, length, length-append, map, Option, Some, None, refl, sym, ap, subst, arith, slice_get, take, IsSomeAnd}
use Rattle.std.proofs.lemmas.List.{length-map}
use Rattle.cp_base.specs.declared.limits.TheConstants.{MAX_HOSTS}
use Rattle.history_model.specs.Plain.{PlainPart}
use Rattle.trail_model.specs.Lawful.{IsParty, is_idle}
use Rattle.trail_model.specs.World.{OpenClaim, Submission, World, pickable_among}
use Rattle.trail_model.proofs.Submits.{none-some, some-same}
use Rattle.device_core.specs.Gives.{world_in}
use Rattle.device_core.specs.Recorded.{Recorded}
use Rattle.schedule_model.specs.Schedule.{Action, Ending, Turning, actions_of_hosts, idle_from, idle_worker, turning}
use Rattle.step_driver.specs.Turns.{DoesAction, IsActionDone, IsActionServed, IsDoneBy, actions_of_workers, listed}
use Rattle.step_driver.proofs.Following.{in-two}
use Rattle.step_driver.proofs.Getting.{some-left, some-map, some-right, some-weaker}

pub record IsIdleWorker (w : World) (first workers worker : ℕ) : Type 0 where
  pub low : first ≤ worker
  pub high : worker < first + workers
  pub idle : is_idle w worker ≡ true

pub idle-found : (w : World) (first workers worker : ℕ) → idle_from w first workers ≡ Some worker → IsIdleWorker w first workers worker
idle-found w first zero worker e = absurd (none-some worker e)
idle-found w first (suc workers) worker e = by_test (is_idle w first) refl e (idle-found w (first + 1) workers worker)
  where
    by_test : (b : Bool) → is_idle w first ≡ b → (if b then Some first else idle_from w (first + 1) workers) ≡ Some worker
        → (idle_from w (first + 1) workers ≡ Some worker → IsIdleWorker w (first + 1) workers worker) → IsIdleWorker w first (suc workers) worker
    by_test true h e later =
        let same : first ≡ worker = some-same first worker e in
        record { low = omega arith; high = omega arith; idle = subst (λ (n : ℕ). is_idle w n ≡ true) same h }
    by_test false h e later =
        let more : IsIdleWorker w (first + 1) workers worker = later e in
        let low = more.low in
        let high = more.high in
        record { low = omega arith; high = omega arith; idle = more.idle }

-- an idle worker is a party
pub is-party : (w : World) (workers worker : ℕ) → workers ≤ MAX_HOSTS → idle_worker w workers ≡ Some worker → IsParty worker
is-party w workers worker few e =
    let found : IsIdleWorker w (MAX_HOSTS + 1) workers worker = idle-found w (MAX_HOSTS + 1) workers worker e in
    let low = found.low in
    let high = found.high in
    (omega arith, omega arith)

pub none-idle : (workers : ℕ) (d : Recorded) → idle_worker (world_in d) workers ≡ None → length (actions_of_workers workers d) ≡ length (world_in d).claims
none-idle workers d e =
    let a = length-append (map (λ claim. Ending claim) (world_in d).claims) (turning (idle_worker (world_in d) workers) (pickable_among d.config (world_in d))) in
    let b : length (map (λ claim. Ending claim) (world_in d).claims) ≡ length (world_in d).claims = length-map (world_in d).claims (λ claim. Ending claim) in
    let t : length (turning (idle_worker (world_in d) workers) (pickable_among d.config (world_in d))) ≡ 0 =
    ap (λ (o : Option ℕ). length (turning o (pickable_among d.config (world_in d)))) e in
    omega arith

pub some-idle : (workers worker : ℕ) (d : Recorded) → idle_worker (world_in d) workers ≡ Some worker
    → length (actions_of_workers workers d) ≡ length (world_in d).claims + length (pickable_among d.config (world_in d))
some-idle workers worker d e =
    let a = length-append (map (λ claim. Ending claim) (world_in d).claims) (turning (idle_worker (world_in d) workers) (pickable_among d.config (world_in d))) in
    let b : length (map (λ claim. Ending claim) (world_in d).claims) ≡ length (world_in d).claims = length-map (world_in d).claims (λ claim. Ending claim) in
    let t : length (turning (idle_worker (world_in d) workers) (pickable_among d.config (world_in d))) ≡ length (pickable_among d.config (world_in d)) =
    ap (λ (o : Option ℕ). length (turning o (pickable_among d.config (world_in d)))) e ∙ length-map (pickable_among d.config (world_in d)) (λ s. Turning worker s) in
    omega arith

pub served-end : (workers number : ℕ) (old new : Recorded) → IsSomeAnd (slice_get (world_in old).claims number) (λ (claim : OpenClaim). DoesAction old new (Ending claim))
    → IsSomeAnd (slice_get (actions_of_workers workers old) number) (λ (action : Action). IsActionServed old new action)
served-end workers number old new h =
    some-left (λ (action : Action). IsActionServed old new action) (map (λ claim. Ending claim) (world_in old).claims) (turning (idle_worker (world_in old) workers) (pickable_among old.config (world_in old))) number
    (some-map (λ (action : Action). IsActionServed old new action) (λ claim. Ending claim) (world_in old).claims number
    (some-weaker (λ (claim : OpenClaim). DoesAction old new (Ending claim)) (λ (claim : OpenClaim). IsActionServed old new (Ending claim)) (slice_get (world_in old).claims number)
    (λ claim does. record { does = does; left = λ parts. refl }) h))

pub served-turn : (workers number worker : ℕ) (old new : Recorded) → idle_worker (world_in old) workers ≡ Some worker → length (world_in old).claims ≤ number
    → IsSomeAnd (slice_get (pickable_among old.config (world_in old)) (number - length (world_in old).claims)) (λ (s : Submission). DoesAction old new (Turning worker s))
    → IsSomeAnd (slice_get (actions_of_workers workers old) number) (λ (action : Action). IsActionServed old new action)
served-turn workers number worker old new e behind h =
    let b : length (map (λ claim. Ending claim) (world_in old).claims) ≡ length (world_in old).claims = length-map (world_in old).claims (λ claim. Ending claim) in
    some-right (λ (action : Action). IsActionServed old new action) (map (λ claim. Ending claim) (world_in old).claims) (turning (idle_worker (world_in old) workers) (pickable_among old.config (world_in old)))
    number (number - length (world_in old).claims) (omega arith)
    (subst (λ (o : Option ℕ). IsSomeAnd (slice_get (turning o (pickable_among old.config (world_in old))) (number - length (world_in old).claims)) (λ (action : Action). IsActionServed old new action)) (sym e)
    (some-map (λ (action : Action). IsActionServed old new action) (λ s. Turning worker s) (pickable_among old.config (world_in old)) (number - length (world_in old).claims)
    (some-weaker (λ (s : Submission). DoesAction old new (Turning worker s)) (λ (s : Submission). IsActionServed old new (Turning worker s))
    (slice_get (pickable_among old.config (world_in old)) (number - length (world_in old).claims)) (λ s does. record { does = does; left = λ parts. refl }) h)))

pub count-listed : (workers : ℕ) (d : Recorded) (parts : List PlainPart) → length (listed workers d parts) ≡ length (actions_of_hosts (world_in d) parts) + length (actions_of_workers workers d)
count-listed workers d parts = ap length (in-two workers d parts) ∙ length-append (actions_of_hosts (world_in d) parts) (actions_of_workers workers d)

-- a host did its item
pub done-by-host : (workers number : ℕ) (old new : Recorded) (parts after : List PlainPart)
    → IsSomeAnd (slice_get (actions_of_hosts (world_in old) parts) number) (λ (action : Action). IsActionDone old new parts after action) → IsDoneBy number workers old new parts after
done-by-host workers number old new parts after h =
    subst (λ (list : List Action). IsSomeAnd (slice_get list number) (λ (action : Action). IsActionDone old new parts after action)) (sym (in-two workers old parts))
    (some-left (λ (action : Action). IsActionDone old new parts after action) (actions_of_hosts (world_in old) parts) (actions_of_workers workers old) number h)

-- a claim ended, or a worker turned to a command
pub done-by-worker : (workers number count : ℕ) (old new : Recorded) (parts : List PlainPart) → count ≡ length (actions_of_hosts (world_in old) parts) → count ≤ number
    → IsSomeAnd (slice_get (actions_of_workers workers old) (number - count)) (λ (action : Action). IsActionServed old new action) → IsDoneBy number workers old new parts parts
done-by-worker workers number count old new parts is behind h =
    subst (λ (list : List Action). IsSomeAnd (slice_get list number) (λ (action : Action). IsActionDone old new parts parts action)) (sym (in-two workers old parts))
    (some-right (λ (action : Action). IsActionDone old new parts parts action) (actions_of_hosts (world_in old) parts) (actions_of_workers workers old) number (number - count) (omega arith)
    (some-weaker (λ (action : Action). IsActionServed old new action) (λ (action : Action). IsActionDone old new parts parts action) (slice_get (actions_of_workers workers old) (number - count))
    (λ action served. record { does = served.does; left = sym (served.left parts) }) h))
