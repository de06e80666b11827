-- What a party does that carries out commands, and a host that does its items.
use Rattle.std.proofs.Common.{◌≡◌, ◌∙◌, ℕ, ◌+◌, ◌<◌, ◌≤◌, List, [], ◌∷◌, ◌++◌, append-nil, append_assoc, length, refl, sym, ap, subst, arith}
use Rattle.std.specs.List.{Contains}
use Rattle.cp_base.specs.declared.commands.Command.{Command}
use Rattle.script_cmds.specs.declared.item.Item.{Item}
use Rattle.script_cmds.specs.declared.item.Item.TheVariants as item
use Rattle.history_model.specs.Plain.{PlainItem, Sends, Takes, plain_item, plain_items}
use Rattle.history_model.specs.Rules.{KeepsQueue, without}
use Rattle.cp_base.specs.declared.limits.TheConstants.{MAX_HOSTS}
use Rattle.queue_pairs.specs.declared.causes.SendCause.{SendCause}
use Rattle.queue_pairs.specs.declared.causes.SendCause.TheVariants as send
use Rattle.queue_pairs.specs.declared.causes.TakeCause.{TakeCause}
use Rattle.queue_pairs.specs.declared.causes.TakeCause.TheVariants as take
use Rattle.seat_lock.specs.Passes.{made_by, party_of}
use Rattle.trail_model.specs.Accounts.{Outstanding}
use Rattle.trail_model.specs.Lawful.{Trail, world_of}
use Rattle.trail_model.specs.World.{ordinal_after, withdrawn_place}
use Rattle.trail_model.specs.declared.events.Event.TheVariants as event
use Rattle.device_lock.specs.Answers.{FindsNothing, FindsRest, HasNone, IsAtRest, IsCompleted, IsFirstClaimed, IsFirstDone, IsNotSubmitted, IsReplied, IsSubmitted}
use Rattle.device_lock.specs.Jobs.{answer_of_done, pass_of_done, pass_of_job, place_of_done}
use Rattle.device_lock.specs.Names.{DeviceName}
use Rattle.device_lock.specs.Passes.{DevicePass, IsBackAlone, IsBackWith, IsIdle, IsOfDevice}
use Rattle.device_lock.specs.declared.jobs.Done.{Done}
use Rattle.device_lock.specs.declared.jobs.Job.{Job}
use Rattle.workers.specs.Further.{IsFurther, SeesRest, cids_by, outstanding_by}
use Rattle.workers.proofs.Furthering.{cids_of, further-alone, further-both, further-cids, further-claimed, further-named, further-same, further-with, no-rest, none-outstanding, sends-one, takes-one}
use Rattle.workers.proofs.Refusals.{refused-not-yet, refused-spent}

-- ---- one command

pub carried-out : (d : DeviceName) (p : DevicePass) (j : Job) (x : Done) (q : DevicePass) → IsFirstClaimed d p j → pass_of_done x ≡ pass_of_job j → IsCompleted d x q → IsFurther 0 d p q []
carried-out d p j x q claimed same completed =
    further-claimed d p (pass_of_job j) q claimed.before completed.before claimed.first.request.host claimed.first.request.ordinal claimed.first.request.place (place_of_done x)
    (answer_of_done x) claimed.turn
    (subst (λ (r : DevicePass). IsBackWith d r q completed.before (event.Finish (party_of r) (place_of_done x) (answer_of_done x))) same completed.turn) completed.idle

pub done-one : (d : DeviceName) (p q : DevicePass) → IsIdle p → IsFirstDone d p q → IsFurther 0 d p q []
done-one d p q idle done =
    further-with 0 d p q done.before
    (event.Do (party_of p) done.first.request.host done.first.request.ordinal done.first.request.place done.answer (withdrawn_place (world_of d.config done.before).submits done.first.request))
    [] done.turn (done.idle idle) refl no-rest

pub found-none : (d : DeviceName) (p q : DevicePass) → IsIdle p → FindsNothing d p q → IsFurther 0 d p q []
found-none d p q idle none = further-alone d p q none.turn (none.turn.idle idle)

pub found-rest : (d : DeviceName) (p q : DevicePass) → IsIdle p → FindsRest d p q → IsFurther 0 d p q [] × SeesRest d q
found-rest d p q idle rest = (further-alone d p q rest.turn (rest.turn.idle idle), record { at_rest = rest.at_rest; none = rest.none })

-- a pass goes on with no item done
pub goes-on : (d : DeviceName) (p q r : DevicePass) → IsFurther 0 d p q [] → IsFurther 0 d q r [] → IsFurther 0 d p r []
goes-on d p q r first second = further-both 0 0 d p q r [] [] first second

-- ---- one item

pub placed-one : (d : DeviceName) (p q : DevicePass) (cid place : ℕ) (cmd : Command) → IsIdle p → IsSubmitted d p cid cmd q place → IsFurther 0 d p q (Sends cid cmd ∷ [])
placed-one d p q cid place cmd idle placed =
    further-with 0 d p q placed.before (event.Submit (party_of p) cid (ordinal_after (world_of d.config placed.before).submits (party_of p)) cmd) (Sends cid cmd ∷ []) placed.turn
    (placed.idle idle) (sends-one (party_of p) cid (ordinal_after (world_of d.config placed.before).submits (party_of p)) cmd) no-rest

pub replied-one : (d : DeviceName) (p q : DevicePass) (cid place : ℕ) → IsIdle p → IsReplied d p cid q place → IsFurther 0 d p q (Takes cid ∷ [])
replied-one d p q cid place idle replied =
    further-with 0 d p q replied.before (event.Take (party_of p) cid place) (Takes cid ∷ []) replied.turn (replied.idle idle) (takes-one (party_of p) cid place) no-rest

-- an item is done after waiting
pub then-one : (d : DeviceName) (p q r : DevicePass) (items : List PlainItem) → IsFurther 0 d p q [] → IsFurther 0 d q r items → IsFurther 0 d p r items
then-one d p q r items first second = further-both 0 0 d p q r [] items first second

-- while no item is done, the same is outstanding
pub cids-same : (d : DeviceName) (p q : DevicePass) → IsFurther 0 d p q [] → cids_by q ≡ cids_by p
cids-same d p q f = further-cids 0 d p q [] f

-- a refusal, while the host has done no item since its queue had a place
pub refused-now : (d : DeviceName) (p q r : DevicePass) (cid : ℕ) (cause : SendCause) → IsFurther 0 d p q [] → IsNotSubmitted d q cid r cause → length (cids_by p) < d.config.depth
    → (Contains (cids_by p) cid → ⊥) → cause ≡ send.Spent
refused-now d p q r cid cause further refused room free =
    let same = cids-same d p q further in
    refused-spent d q r cid cause refused (subst (λ (cs : List ℕ). length cs < d.config.depth) (sym same) room)
    (λ found. free (subst (λ (cs : List ℕ). Contains cs cid) same found))

-- a reply that is not there, while the host has done no item since the command was outstanding
pub none-now : (d : DeviceName) (p q r : DevicePass) (cid : ℕ) (cause : TakeCause) → IsFurther 0 d p q [] → HasNone d q cid r cause → Contains (cids_by p) cid → cause ≡ take.NotYet
none-now d p q r cid cause further none found =
    refused-not-yet d q r cid cause none (subst (λ (cs : List ℕ). Contains cs cid) (sym (cids-same d p q further)) found)

-- a pass that comes back without an event has done no item
pub back-again : (d : DeviceName) (p q r : DevicePass) → IsFurther 0 d p q [] → IsBackAlone d q r → IsFurther 0 d p r []
back-again d p q r further alone = goes-on d p q r further (further-alone d q r alone (alone.idle further.idle))

-- the pass is still that of the host
pub host-still : (most : ℕ) (d : DeviceName) (p q : DevicePass) (items : List PlainItem) → IsFurther most d p q items → party_of p ≤ MAX_HOSTS → party_of q ≤ MAX_HOSTS
host-still most d p q items further low = subst (λ (n : ℕ). n ≤ MAX_HOSTS) (sym further.back.party) low

-- ---- a part

-- of all items of a host these are left, and the pass has done those before; what is left keeps the rules of the queue
pub record HasLeft (d : DeviceName) (p q : DevicePass) (all left : List Item) : Type 0 where
  pub done : List PlainItem
  pub split : done ++ plain_items left ≡ plain_items all
  pub further : IsFurther 0 d p q done
  pub queue : KeepsQueue d.config.depth (cids_by q) left

pub all-left : (d : DeviceName) (p : DevicePass) (all : List Item) → IsOfDevice d p → IsIdle p → outstanding_by p ≡ [] → KeepsQueue d.config.depth [] all → HasLeft d p p all all
all-left d p all of_device idle none queue = record {
  done = [];
  split = refl;
  further = further-same 0 d p of_device idle;
  queue = subst (λ (cs : List ℕ). KeepsQueue d.config.depth cs all) (sym (ap cids_of none)) queue;
}

-- one item more
one-more : (d : DeviceName) (p q r : DevicePass) (all left : List Item) (done : List PlainItem) (i : Item) → done ++ plain_items (i ∷ left) ≡ plain_items all → IsFurther 0 d p q done
    → IsFurther 0 d q r (plain_item i ∷ []) → KeepsQueue d.config.depth (cids_by r) left → HasLeft d p r all left
one-more d p q r all left done i split before now queue = record {
  done = done ++ plain_item i ∷ [];
  split = append_assoc done (plain_item i ∷ []) (plain_items left) ∙ split;
  further = further-both 0 0 d p q r done (plain_item i ∷ []) before now;
  queue = queue;
}

pub left-sent : (d : DeviceName) (p q r : DevicePass) (all left : List Item) (cid : ℕ) (command : _) → HasLeft d p q all (item.Send cid command ∷ left)
    → IsFurther 0 d q r (plain_item (item.Send cid command) ∷ []) → HasLeft d p r all left
left-sent d p q r all left cid command has now =
    one-more d p q r all left has.done (item.Send cid command) has.split has.further now
    (subst (λ (cs : List ℕ). KeepsQueue d.config.depth cs left) (sym (further-cids 0 d q r (plain_item (item.Send cid command) ∷ []) now)) has.queue.2)

pub left-taken : (d : DeviceName) (p q r : DevicePass) (all left : List Item) (cid : ℕ) → HasLeft d p q all (item.Take cid ∷ left) → IsFurther 0 d q r (Takes cid ∷ [])
    → HasLeft d p r all left
left-taken d p q r all left cid has now =
    one-more d p q r all left has.done (item.Take cid) has.split has.further now
    (subst (λ (cs : List ℕ). KeepsQueue d.config.depth cs left) (sym (further-cids 0 d q r (Takes cid ∷ []) now)) has.queue.1)

pub none-left : (d : DeviceName) (p q : DevicePass) (all : List Item) → HasLeft d p q all [] → IsFurther 0 d p q (plain_items all) × (outstanding_by q ≡ [])
none-left d p q all has =
    (further-named 0 d p q has.done (plain_items all) (sym (append-nil has.done) ∙ has.split) has.further, none-outstanding q has.queue)

pub no-items : (xs : List Item) → length xs ≡ 0 → xs ≡ []
no-items [] e = refl
no-items (x ∷ xs) e = absurd (omega arith)

-- the first of the items that are left
pub left-first : (d : DeviceName) (p q : DevicePass) (all left rest : List Item) (i j : Item) → HasLeft d p q all left → left ≡ i ∷ rest → i ≡ j → HasLeft d p q all (j ∷ rest)
left-first d p q all left rest i j has split is =
    subst (λ (xs : List Item). HasLeft d p q all xs) (split ∙ ap (λ (x : Item). x ∷ rest) is) has
