-- What a host does by its next item.
use Rattle.std.proofs.Common.{◌≡◌, ◌≢◌, ◌∙◌, ℕ, zero, suc, ◌+◌, ◌<◌, ◌==◌, Bool, true, false, if◌then◌else◌, List, [], ◌∷◌, ◌++◌, length, length-append, map, Option, Some, None, refl, sym, ap, subst, arith, slice_get, take, drop, get_or, IsSomeAnd}
use Rattle.std.specs.List.{AllByRecursion, slice_set}
use Rattle.history_model.specs.Plain.{PlainItem, PlainPart, Sends, Takes}
use Rattle.trail_model.specs.Each.{EachTwo}
use Rattle.trail_model.specs.World.{Posted, Queued, Stage, Submission, Taken, Working, World, outstanding_under}
use Rattle.trail_model.proofs.Submits.{none-some, other-eqb, same-eqb, some-same}
use Rattle.device_core.specs.Gives.{world_in}
use Rattle.device_core.specs.Recorded.{Recorded}
use Rattle.schedule_model.specs.Schedule.{Action, Ending, Sending, Taking, Turning, action_of_host, actions_of_hosts, behind_first, left_after, one_done, taking_of, taking_under}
use Rattle.step_driver.specs.Turns.{DoesAction, FindsPlace, IsActionDone}
use Rattle.step_driver.proofs.Getting.{drop-at, each-at, each-left, each-right, some-left, some-right, some-weaker}

-- the part without its first item
abbrev pub acted : PlainPart → PlainPart
acted part = record { host = part.host; items = behind_first part.items }

-- the action of the part at an index is the action behind those of the parts before it
pub action-at : (P : Action → Type 0) (w : World) (parts : List PlainPart) (index : ℕ) (part : PlainPart) → slice_get parts index ≡ Some part
    → IsSomeAnd (slice_get (action_of_host w part.host part.items) 0) P
    → IsSomeAnd (slice_get (actions_of_hosts w parts) (length (actions_of_hosts w (take index parts)))) P
action-at P w [] index part e h = absurd (none-some part e)
action-at P w (first ∷ parts) zero part e h =
    let same : first ≡ part = some-same first part e in
    some-left P (action_of_host w first.host first.items) (actions_of_hosts w parts) 0
    (subst (λ (p : PlainPart). IsSomeAnd (slice_get (action_of_host w p.host p.items) 0) P) (sym same) h)
action-at P w (first ∷ parts) (suc index) part e h =
    some-right P (action_of_host w first.host first.items) (actions_of_hosts w parts)
    (length (action_of_host w first.host first.items ++ actions_of_hosts w (take index parts))) (length (actions_of_hosts w (take index parts)))
    (length-append (action_of_host w first.host first.items) (actions_of_hosts w (take index parts)))
    (action-at P w parts index part e h)

-- how many actions the hosts have, from an index on
pub count-at : (w : World) (parts : List PlainPart) (i : ℕ) (part : PlainPart) → i < length parts → part ≡ get_or parts i part
    → length (actions_of_hosts w (drop i parts)) ≡ length (action_of_host w part.host part.items) + length (actions_of_hosts w (drop (i + 1) parts))
count-at w parts i part below is =
    ap (λ (ps : List PlainPart). length (actions_of_hosts w ps)) (drop-at parts i part below is)
    ∙ length-append (action_of_host w part.host part.items) (actions_of_hosts w (drop (i + 1) parts))

pub count-split : (w : World) (parts : List PlainPart) (i : ℕ)
    → length (actions_of_hosts w (take i parts)) + length (actions_of_hosts w (drop i parts)) ≡ length (actions_of_hosts w parts)
count-split w [] zero = refl
count-split w [] (suc i) = refl
count-split w (part ∷ parts) zero = omega arith
count-split w (part ∷ parts) (suc i) =
    let a = length-append (action_of_host w part.host part.items) (actions_of_hosts w (take i parts)) in
    let b = length-append (action_of_host w part.host part.items) (actions_of_hosts w parts) in
    let h = count-split w parts i in
    omega arith

-- a host's action leaves all but its first item
own-left : (host : ℕ) (w : World) (items : List PlainItem) (parts : List PlainPart) (P : Action → Type 0) → IsSomeAnd (slice_get (action_of_host w host items) 0) P
    → IsSomeAnd (slice_get (action_of_host w host items) 0) (λ a. P a × (left_after a parts ≡ one_done host parts))
own-left host w [] parts P h = h
own-left host w (Sends cid cmd ∷ items) parts P h = (h, refl)
own-left host w (Takes cid ∷ items) parts P h = by_found (outstanding_under w.submits host cid) h
  where
    by_stage : (stage : Stage) → IsSomeAnd (slice_get (taking_of host cid stage) 0) P
        → IsSomeAnd (slice_get (taking_of host cid stage) 0) (λ a. P a × (left_after a parts ≡ one_done host parts))
    by_stage Queued h = h
    by_stage Working h = h
    by_stage (Posted place) h = (h, refl)
    by_stage Taken h = h

    by_found : (o : Option Submission) → IsSomeAnd (slice_get (taking_under host cid o) 0) P
        → IsSomeAnd (slice_get (taking_under host cid o) 0) (λ a. P a × (left_after a parts ≡ one_done host parts))
    by_found None h = h
    by_found (Some s) h = by_stage s.stage h

-- only the part of a host changes where it does its next item
pub done-at : (parts : List PlainPart) (index : ℕ) (part : PlainPart) → EachTwo (λ (a b : PlainPart). a.host ≢ b.host) parts → slice_get parts index ≡ Some part
    → one_done part.host parts ≡ slice_set parts index (acted part)
done-at [] index part differ e = refl
done-at (first ∷ parts) zero part differ e =
    let same : first ≡ part = some-same first part e in
    subst (λ (p : PlainPart). one_done p.host (first ∷ parts) ≡ acted p ∷ parts) same
    (ap (λ (b : Bool). if b then acted first ∷ parts else first ∷ one_done first.host parts) (same-eqb first.host first.host refl))
done-at (first ∷ parts) (suc index) part differ e =
    ap (λ (b : Bool). if b then acted first ∷ parts else first ∷ one_done part.host parts)
    (other-eqb first.host part.host (each-at (λ (p : PlainPart). first.host ≢ p.host) parts index part differ.0 e))
    ∙ ap (λ (ps : List PlainPart). first ∷ ps) (done-at parts index part differ.1 e)

pub acted-at : (old new : Recorded) (parts after : List PlainPart) (index : ℕ) (part : PlainPart) → EachTwo (λ (a b : PlainPart). a.host ≢ b.host) parts
    → slice_get parts index ≡ Some part → IsSomeAnd (slice_get (action_of_host (world_in old) part.host part.items) 0) (λ a. DoesAction old new a)
    → after ≡ slice_set parts index (acted part)
    → IsSomeAnd (slice_get (actions_of_hosts (world_in old) parts) (length (actions_of_hosts (world_in old) (take index parts)))) (λ a. IsActionDone old new parts after a)
acted-at old new parts after index part differ e h left =
    some-weaker (λ (a : Action). DoesAction old new a × (left_after a parts ≡ one_done part.host parts)) (λ (a : Action). IsActionDone old new parts after a)
    (slice_get (actions_of_hosts (world_in old) parts) (length (actions_of_hosts (world_in old) (take index parts))))
    (λ a did. record { does = did.0; left = left ∙ (sym (done-at parts index part differ e) ∙ sym did.1) })
    (action-at (λ (a : Action). DoesAction old new a × (left_after a parts ≡ one_done part.host parts)) (world_in old) parts index part e
    (own-left part.host (world_in old) part.items parts (λ a. DoesAction old new a) h))

-- what holds of each host's action holds of the action of the part at an index
pub each-action-at : (P : Action → Type 0) (w : World) (parts : List PlainPart) (index : ℕ) (part : PlainPart) → AllByRecursion P (actions_of_hosts w parts)
    → slice_get parts index ≡ Some part → AllByRecursion P (action_of_host w part.host part.items)
each-action-at P w [] index part h e = absurd (none-some part e)
each-action-at P w (first ∷ parts) zero part h e =
    let same : first ≡ part = some-same first part e in
    subst (λ (p : PlainPart). AllByRecursion P (action_of_host w p.host p.items)) same (each-left P (action_of_host w first.host first.items) (actions_of_hosts w parts) h)
each-action-at P w (first ∷ parts) (suc index) part h e =
    each-action-at P w parts index part (each-right P (action_of_host w first.host first.items) (actions_of_hosts w parts) h) e

-- an item that is there is the one that is read
pub here : {A : Type 0} (P : A → Type 0) (xs : List A) (k : ℕ) (x : A) → IsSomeAnd (slice_get xs k) P → x ≡ get_or xs k x → slice_get xs k ≡ Some x
here P [] k x h is = absurd h
here P (y ∷ xs) zero x h is = ap (λ z. Some z) (sym is)
here P (y ∷ xs) (suc k) x h is = here P xs k x h is
