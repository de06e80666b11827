-- Why a host is refused: what its own account rules out.
use Rattle.std.proofs.Common.{◌≡◌, ◌≢◌, ◌∙◌, ℕ, ◌<◌, ◌≤◌, ◌==◌, nat_le, Bool, true, false, not, cond, if◌then◌else◌, List, [], ◌∷◌, length, map, filter, find, Option, Some, None, is_some, Ok, Err, refl, sym, ap, subst, arith}
use Rattle.std.specs.List.{AllByRecursion, Contains}
use Rattle.std.proofs.lemmas.Bool.{lt-leb, true≢false}
use Rattle.std.proofs.lemmas.List.Elements.{Contains-append_right}
use Rattle.std.proofs.lemmas.Map.Made.{Contains-tail}
use Rattle.cp_base.specs.Configuration.{Configuration}
use Rattle.queue_pairs.specs.declared.causes.SendCause.{SendCause}
use Rattle.queue_pairs.specs.declared.causes.SendCause.TheVariants as send
use Rattle.queue_pairs.specs.declared.causes.TakeCause.{TakeCause}
use Rattle.queue_pairs.specs.declared.causes.TakeCause.TheVariants as take
use Rattle.core_model.specs.Causes.{posted_by, posted_of, submit_cause, take_answer}
use Rattle.seat_lock.specs.Passes.{made_by, party_of, seen_by}
use Rattle.trail_model.specs.Accounts.{Account, Outstanding, account_in, account_of, outstanding_in}
use Rattle.trail_model.specs.Lawful.{Trail, world_of}
use Rattle.trail_model.specs.World.{Posted, Queued, Stage, Submission, Taken, Working, World, is_taken_off, outstanding_of, outstanding_under, submits_of}
use Rattle.trail_model.proofs.Accounts.{own-account}
use Rattle.trail_model.proofs.Submits.{eqb-same, none-some, same-eqb, some-same}
use Rattle.device_lock.specs.Answers.{HasNone, IsNotSubmitted}
use Rattle.device_lock.specs.Names.{DeviceName}
use Rattle.device_lock.specs.Passes.{DevicePass, IsOfDevice, world_seen}
use Rattle.workers.specs.Further.{cids_by, outstanding_by}
use Rattle.workers.proofs.Furthering.{cids_of}

abbrev cid_of : Submission → ℕ
cid_of s = s.request.cid

-- a host's outstanding commands in what its pass has seen are those that it made
cids-seen : (d : DeviceName) (q : DevicePass) → IsOfDevice d q → cids_by q ≡ map cid_of (outstanding_of (world_seen d q).submits (party_of q))
cids-seen d q of_device =
    let account : account_of (made_by q) ≡ account_in (world_seen d q) (party_of q) =
    subst (λ (mine : Trail). account_of mine ≡ account_in (world_seen d q) (party_of q)) of_device.lock.own
    (own-account d.config d.commands (seen_by q) (party_of q) of_device.lawful) in
    ap (λ (a : Account). cids_of a.outstanding) account ∙ both (outstanding_of (world_seen d q).submits (party_of q))
  where
    both : (xs : List Submission)
        → map (λ (o : Outstanding). o.cid) (map (λ (s : Submission). (let o : Outstanding = record { cid = s.request.cid; ordinal = s.request.ordinal } in o)) xs) ≡ map cid_of xs
    both [] = refl
    both (x ∷ xs) = ap (λ (cs : List ℕ). x.request.cid ∷ cs) (both xs)

length-map : (xs : List Submission) → length (map cid_of xs) ≡ length xs
length-map [] = refl
length-map (x ∷ xs) = let later = length-map xs in omega (arith, later)

-- ---- a submit

none-under : (xs : List Submission) (cid : ℕ) → (Contains (map cid_of xs) cid → ⊥) → find (λ (s : Submission). s.request.cid == cid) xs ≡ None
none-under [] cid free = refl
none-under (x ∷ xs) cid free =
    by_test (x.request.cid == cid) refl (none-under xs cid (λ found. free (Contains-append_right (x.request.cid ∷ []) (map cid_of xs) cid found)))
  where
    by_test : (b : Bool) → (x.request.cid == cid) ≡ b → find (λ (s : Submission). s.request.cid == cid) xs ≡ None
        → cond b (Some x) (find (λ (s : Submission). s.request.cid == cid) xs) ≡ None
    by_test true h later = absurd (free (0, omega arith, eqb-same x.request.cid cid h))
    by_test false h later = later

only-spent : (c : Configuration) (commands : ℕ) (w : World) (host cid : ℕ) (cause : SendCause) → length (outstanding_of w.submits host) < c.depth
    → outstanding_under w.submits host cid ≡ None → submit_cause c commands w host cid ≡ Some cause → cause ≡ send.Spent
only-spent c commands w host cid cause room free is = by_count (nat_le commands (length w.submits)) is
  where
    by_count : (b : Bool)
        → (if b then Some send.Spent else if nat_le c.depth (length (outstanding_of w.submits host)) then Some send.QueueFull
        else if is_some (outstanding_under w.submits host cid) then Some send.CidBusy else None) ≡ Some cause → cause ≡ send.Spent
    by_count true e = sym (some-same send.Spent cause e)
    by_count false e =
        absurd (none-some cause
        (sym (ap (λ (o : Option Submission). if is_some o then Some send.CidBusy else None) free)
        ∙ (sym (ap (λ (b : Bool). if b then Some send.QueueFull else if is_some (outstanding_under w.submits host cid) then Some send.CidBusy else None)
        (lt-leb c.depth (length (outstanding_of w.submits host)) room)) ∙ e)))

-- where the host's queue has a place, only that all hosts submitted as many as may be can forbid a submit
pub refused-spent : (d : DeviceName) (p q : DevicePass) (cid : ℕ) (cause : SendCause) → IsNotSubmitted d p cid q cause → length (cids_by p) < d.config.depth → (Contains (cids_by p) cid → ⊥)
    → cause ≡ send.Spent
refused-spent d p q cid cause refused room free =
    let of_device = refused.turn.back.of_device in
    let made : cids_by q ≡ cids_by p = ap (λ (mine : Trail). cids_of (account_of mine).outstanding) refused.turn.made in
    let seen : cids_by p ≡ map cid_of (outstanding_of (world_seen d q).submits (party_of p)) =
    sym made ∙ subst (λ (n : ℕ). cids_by q ≡ map cid_of (outstanding_of (world_seen d q).submits n)) refused.turn.back.party (cids-seen d q of_device) in
    let count : length (cids_by p) ≡ length (outstanding_of (world_seen d q).submits (party_of p)) = ap length seen ∙ length-map (outstanding_of (world_seen d q).submits (party_of p)) in
    only-spent d.config d.commands (world_seen d q) (party_of p) cid cause (omega (arith, count, room))
    (none-under (outstanding_of (world_seen d q).submits (party_of p)) cid (λ found. free (subst (λ (cs : List ℕ). Contains cs cid) (sym seen) found))) refused.cause_is

-- ---- a take

-- what is outstanding is not taken
all-outstanding : (submits : List Submission) → AllByRecursion (λ (s : Submission). is_taken_off s.stage ≡ false) (filter (λ (s : Submission). not (is_taken_off s.stage)) submits)
all-outstanding [] = tt
all-outstanding (s ∷ submits) = by_test (is_taken_off s.stage) refl (all-outstanding submits)
  where
    by_test : (b : Bool) → is_taken_off s.stage ≡ b
        → AllByRecursion (λ (x : Submission). is_taken_off x.stage ≡ false) (filter (λ (x : Submission). not (is_taken_off x.stage)) submits)
        → AllByRecursion (λ (x : Submission). is_taken_off x.stage ≡ false)
        (cond (not b) (s ∷ filter (λ (x : Submission). not (is_taken_off x.stage)) submits) (filter (λ (x : Submission). not (is_taken_off x.stage)) submits))
    by_test true h later = later
    by_test false h later = (h, later)

by-stage : (stage : Stage) (cause : TakeCause) → is_taken_off stage ≡ false → posted_by stage ≡ Err cause → cause ≡ take.NotYet
by-stage Queued cause h e = cc
by-stage Working cause h e = cc
by-stage (Posted place) cause h e = cc
by-stage Taken cause h e = absurd (true≢false h)

not-yet : (xs : List Submission) (cid : ℕ) (cause : TakeCause) → AllByRecursion (λ (s : Submission). is_taken_off s.stage ≡ false) xs → Contains (map cid_of xs) cid
    → posted_of (find (λ (s : Submission). s.request.cid == cid) xs) ≡ Err cause → cause ≡ take.NotYet
not-yet [] cid cause all found e = absurd (let below = found.1 in omega (arith, below))
not-yet (x ∷ xs) cid cause all found e =
    by_test (x.request.cid == cid) refl e (λ other. not-yet xs cid cause all.1 (Contains-tail x.request.cid (map cid_of xs) cid other found))
  where
    by_test : (b : Bool) → (x.request.cid == cid) ≡ b → posted_of (cond b (Some x) (find (λ (s : Submission). s.request.cid == cid) xs)) ≡ Err cause
        → (x.request.cid ≢ cid → posted_of (find (λ (s : Submission). s.request.cid == cid) xs) ≡ Err cause → cause ≡ take.NotYet) → cause ≡ take.NotYet
    by_test true h e later = by-stage x.stage cause all.0 e
    by_test false h e later = later (λ same. true≢false (sym (same-eqb x.request.cid cid same) ∙ h)) e

-- the reply to an outstanding command may be not posted yet, and that is all
pub refused-not-yet : (d : DeviceName) (p q : DevicePass) (cid : ℕ) (cause : TakeCause) → HasNone d p cid q cause → Contains (cids_by p) cid → cause ≡ take.NotYet
refused-not-yet d p q cid cause none found =
    let of_device = none.turn.back.of_device in
    let made : cids_by q ≡ cids_by p = ap (λ (mine : Trail). cids_of (account_of mine).outstanding) none.turn.made in
    let seen : cids_by p ≡ map cid_of (outstanding_of (world_seen d q).submits (party_of p)) =
    sym made ∙ subst (λ (n : ℕ). cids_by q ≡ map cid_of (outstanding_of (world_seen d q).submits n)) none.turn.back.party (cids-seen d q of_device) in
    not-yet (outstanding_of (world_seen d q).submits (party_of p)) cid cause (all-outstanding (submits_of (world_seen d q).submits (party_of p)))
    (subst (λ (cs : List ℕ). Contains cs cid) seen found) none.cause_is
