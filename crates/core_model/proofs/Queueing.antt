-- What the queues of the parts have under an identifier.
use Rattle.std.proofs.Common.{◌≡◌, ℕ, suc, ◌<◌, ◌==◌, Bool, true, false, not, ◌||◌, cond, List, [], ◌∷◌, filter, find, map, Option, Some, None, option_map, refl, sym, ap, subst, ◌∙◌, arith, if◌then◌else◌, slice_get}
use Rattle.std.specs.List.{AllByRecursion}
use Rattle.std.proofs.lemmas.Bool.{true≢false}
use Rattle.cp_base.specs.Configuration.{Configuration}
use Rattle.device_model.specs.State.{State}
use Rattle.queue_pairs.specs.Outstanding.{CidsDiffer, is_busy, under}
use Rattle.queue_pairs.specs.Places.{PlacesDiffer, is_sent_at, restaged}
use Rattle.queue_pairs.specs.declared.command.Outstanding.{Outstanding as Waiting}
use Rattle.queue_pairs.specs.declared.command.Stage.{Stage as QueueStage}
use Rattle.queue_pairs.specs.declared.command.Stage.TheVariants as queue
use Rattle.trail_model.specs.Each.{EachTwo}
use Rattle.trail_model.specs.Lawful.{Trail, world_of}
use Rattle.trail_model.specs.Linked.{ClaimLinked, NamesEarlier, requests_of}
use Rattle.trail_model.specs.World.{OpenClaim, Posted, Queued, Request, Stage, Submission, Taken, Working, World, claim_at, is_queued, is_taken_off, outstanding_of, submit_at, submits_of}
use Rattle.trail_model.proofs.Linked.{Works, each-request}
use Rattle.trail_model.proofs.Moving.{linked-world}
use Rattle.trail_model.proofs.Submits.{found-each, none-some, other-eqb, eqb-same, same-eqb, some-same, submit-place}
use Rattle.core_model.specs.Asked.{Asked, asked_at, asked_by_request}
use Rattle.core_model.specs.Moves.{PostMoves}
use Rattle.core_model.specs.Parts.{Parts, WaitingSubmit}
use Rattle.core_model.specs.Picking.{is_waiting, withdrawn_waiting}
use Rattle.core_model.specs.Ties.{AreTied, StandFor, as_outstanding, queue_stage}
use Rattle.core_model.proofs.Choosing.{waits-in}
use Rattle.core_model.proofs.Claiming.{queued-there}
use Rattle.core_model.proofs.Reading.{asked-same}
use Rattle.core_model.proofs.Shown.{later-places, shown}
use Rattle.core_model.proofs.Steps.{at_host, find-map, queue-shown}

-- ---- places differ

none-sent : (t : Submission → Bool) (place : ℕ) (submits : List Submission) → AllByRecursion (λ (y : Submission). y.request.place ≡ place → ⊥) submits
    → is_sent_at (shown t as_outstanding submits) place ≡ false
none-sent t place [] all = refl
none-sent t place (y ∷ submits) all = by_test (t y) (none-sent t place submits all.1)
  where
    by_test : (b : Bool) → is_sent_at (shown t as_outstanding submits) place ≡ false → is_sent_at (map as_outstanding (cond b (y ∷ filter t submits) (filter t submits))) place ≡ false
    by_test true later = ap (λ (b : Bool). b || is_sent_at (shown t as_outstanding submits) place) (other-eqb y.request.place place all.0) ∙ later
    by_test false later = later

shown-differ : (t : Submission → Bool) (submits : List Submission) → EachTwo (λ (a b : Request). a.place < b.place) (requests_of submits) → PlacesDiffer (shown t as_outstanding submits)
shown-differ t [] order = tt
shown-differ t (x ∷ submits) order = by_test (t x) (shown-differ t submits order.1)
  where
    by_test : (b : Bool) → PlacesDiffer (shown t as_outstanding submits) → PlacesDiffer (map as_outstanding (cond b (x ∷ filter t submits) (filter t submits)))
    by_test true later = (none-sent t x.request.place submits (later-places x x.request.place submits refl order.0), later)
    by_test false later = later

pub places-differ : (c : Configuration) (commands : ℕ) (p : Parts) (trail : Trail) (host : ℕ) → StandFor c commands p trail → PlacesDiffer (p.queues host)
places-differ c commands p trail host stand =
    subst PlacesDiffer (sym (stand.ties.queues host ∙ queue-shown (world_of c trail).submits host))
    (shown-differ (at_host host) (world_of c trail).submits (linked-world c commands trail stand.lawful).places.ascending)

-- ---- from a place to an identifier

busy-under : (commands : List Waiting) (cid : ℕ) (o : Waiting) → under commands cid ≡ Some o → is_busy commands cid ≡ true
busy-under [] cid o e = absurd (none-some o e)
busy-under (x ∷ commands) cid o e = by_test (x.cid == cid) e (busy-under commands cid o)
  where
    by_test : (b : Bool) → cond b (Some x) (under commands cid) ≡ Some o → (under commands cid ≡ Some o → is_busy commands cid ≡ true) → (b || is_busy commands cid) ≡ true
    by_test true e later = refl
    by_test false e later = later e

sent-under : (commands : List Waiting) (place : ℕ) (o : Waiting) → CidsDiffer commands → find (λ (x : Waiting). x.sent == place) commands ≡ Some o → under commands o.cid ≡ Some o
sent-under [] place o differ e = absurd (none-some o e)
sent-under (x ∷ commands) place o differ e = by_test (x.sent == place) e (sent-under commands place o differ.1)
  where
    by_cid : (b : Bool) → (x.cid == o.cid) ≡ b → under commands o.cid ≡ Some o → cond b (Some x) (under commands o.cid) ≡ Some o
    by_cid true same later = absurd (true≢false
        (sym (busy-under commands x.cid o (ap (λ (cid : ℕ). under commands cid) (eqb-same x.cid o.cid same) ∙ later)) ∙ differ.0))
    by_cid false same later = later

    by_test : (b : Bool) → cond b (Some x) (find (λ (y : Waiting). y.sent == place) commands) ≡ Some o
        → (find (λ (y : Waiting). y.sent == place) commands ≡ Some o → under commands o.cid ≡ Some o) → under (x ∷ commands) o.cid ≡ Some o
    by_test true e later =
        let same : x ≡ o = some-same x o e in
        ap (λ (b : Bool). cond b (Some x) (under commands o.cid)) (same-eqb x.cid o.cid (ap (λ (y : Waiting). y.cid) same)) ∙ ap (λ (y : Waiting). Some y) same
    by_test false e later = by_cid (x.cid == o.cid) refl (later e)

find-filter : {A : Type 0} (test p : A → Bool) (xs : List A) (x : A) → find test xs ≡ Some x → p x ≡ true → find test (filter p xs) ≡ Some x
find-filter test p [] x e h = absurd (none-some x e)
find-filter test p (y ∷ ys) x e h = by_test (test y) refl e (λ f. find-filter test p ys x f h)
  where
    by_keep : (b : Bool) → test y ≡ false → find test (filter p ys) ≡ Some x → find test (cond b (y ∷ filter p ys) (filter p ys)) ≡ Some x
    by_keep true misses later = ap (λ (b : Bool). cond b (Some y) (find test (filter p ys))) misses ∙ later
    by_keep false misses later = later

    by_test : (b : Bool) → test y ≡ b → cond b (Some y) (find test ys) ≡ Some x → (find test ys ≡ Some x → find test (filter p ys) ≡ Some x) → find test (filter p (y ∷ ys)) ≡ Some x
    by_test true t e later =
        let same : y ≡ x = some-same y x e in
        ap (λ (b : Bool). find test (cond b (y ∷ filter p ys) (filter p ys))) (ap p same ∙ h)
        ∙ (ap (λ (b : Bool). cond b (Some y) (find test (filter p ys))) t ∙ ap (λ z. Some z) same)
    by_test false t e later = by_keep (p y) t (later e)

-- an outstanding submit is in its host's queue, under its identifier
outstanding-under : (p : Parts) (c : Configuration) (w : World) (s : Submission) (place : ℕ) → AreTied c p w → submit_at w.submits place ≡ Some s → is_taken_off s.stage ≡ false
    → CidsDiffer (p.queues s.request.host) → under (p.queues s.request.host) s.request.cid ≡ Some (as_outstanding s)
outstanding-under p c w s place t found outstanding differ =
    let host : ℕ = s.request.host in
    let among : find (λ (x : Submission). x.request.place == place) (outstanding_of w.submits host) ≡ Some s =
    find-filter (λ (x : Submission). x.request.place == place) (λ (x : Submission). not (is_taken_off x.stage)) (submits_of w.submits host) s
    (find-filter (λ (x : Submission). x.request.place == place) (λ (x : Submission). x.request.host == host) w.submits s found (same-eqb host host refl))
    (ap (λ (b : Bool). not b) outstanding) in
    let there : find (λ (x : Waiting). x.sent == place) (p.queues host) ≡ Some (as_outstanding s) =
    ap (λ (q : List Waiting). find (λ (x : Waiting). x.sent == place) q) (t.queues host)
    ∙ (find-map as_outstanding (λ (x : Waiting). x.sent == place) (outstanding_of w.submits host) ∙ ap (λ (o : Option Submission). option_map as_outstanding o) among) in
    sent-under (p.queues host) place (as_outstanding s) differ there

queued-stage : (stage : Stage) → is_queued stage ≡ true → queue_stage stage ≡ queue.Queued
queued-stage Queued e = refl
queued-stage Working e = absurd (true≢false (sym e))
queued-stage (Posted place) e = absurd (true≢false (sym e))
queued-stage Taken e = absurd (true≢false (sym e))

pub waiting-under : (c : Configuration) (commands : ℕ) (p : Parts) (trail : Trail) (i : ℕ) (x : WaitingSubmit) (asked : Asked) → StandFor c commands p trail
    → slice_get p.waiting i ≡ Some x → asked_at trail x.sent ≡ Some asked → CidsDiffer (p.queues asked.host)
    → under (p.queues asked.host) asked.cid ≡ Some (let o : Waiting = record { cid = asked.cid; sent = x.sent; stage = queue.Queued } in o)
waiting-under c commands p trail i x asked stand e read differ =
    let w : World = world_of c trail in
    let there = waits-in c commands p trail i x stand e in
    let s : Submission = there.submit in
    let same : asked_by_request s.request ≡ asked = asked-same c commands trail x.sent s asked stand.lawful there.found read in
    let mine : CidsDiffer (p.queues s.request.host) = subst (λ (a : Asked). CidsDiffer (p.queues a.host)) (sym same) differ in
    let found : under (p.queues s.request.host) s.request.cid ≡ Some (as_outstanding s) =
    outstanding-under p c w s x.sent stand.ties there.found (queued-there s.stage there.queued) mine in
    let shown : under (p.queues s.request.host) s.request.cid ≡ Some (let o : Waiting = record { cid = s.request.cid; sent = x.sent; stage = queue.Queued } in o) =
    found ∙ (λ j. Some (let o : Waiting = record { cid = s.request.cid; sent = submit-place w.submits x.sent s there.found j; stage = queued-stage s.stage there.queued j } in o)) in
    subst (λ (a : Asked). under (p.queues a.host) a.cid ≡ Some (let o : Waiting = record { cid = a.cid; sent = x.sent; stage = queue.Queued } in o)) same shown

pub claimed-under : (c : Configuration) (commands : ℕ) (p : Parts) (trail : Trail) (place : ℕ) (claim : OpenClaim) → StandFor c commands p trail
    → claim_at (world_of c trail).claims place ≡ Some claim → CidsDiffer (p.queues claim.request.host)
    → under (p.queues claim.request.host) claim.request.cid ≡ Some (let o : Waiting = record { cid = claim.request.cid; sent = claim.request.place; stage = queue.Picked } in o)
claimed-under c commands p trail place claim stand found differ =
    let w : World = world_of c trail in
    let own : ClaimLinked w claim = found-each (ClaimLinked w) _ w.claims claim (linked-world c commands trail stand.lawful).claims found in
    outstanding-under p c w (Works claim.request) claim.request.place stand.ties own.submit refl differ

-- ---- what is withdrawn

waiting-index : (waiting : List WaitingSubmit) (place : ℕ) → is_waiting waiting place ≡ true
    → (j : ℕ) × (y : WaitingSubmit) × (slice_get waiting j ≡ Some y) × (y.sent ≡ place)
waiting-index [] place e = absurd (true≢false (sym e))
waiting-index (x ∷ waiting) place e = by_test (x.sent == place) refl e (waiting-index waiting place)
  where
    by_test : (b : Bool) → (x.sent == place) ≡ b → (b || is_waiting waiting place) ≡ true
        → (is_waiting waiting place ≡ true → (j : ℕ) × (y : WaitingSubmit) × (slice_get waiting j ≡ Some y) × (y.sent ≡ place))
        → (j : ℕ) × (y : WaitingSubmit) × (slice_get (x ∷ waiting) j ≡ Some y) × (y.sent ≡ place)
    by_test true t e later = (0, x, refl, eqb-same x.sent place t)
    by_test false t e later = let h = later e in (suc h.0, h.1, h.2, h.3)

withdrawn-waits : (waiting : List WaitingSubmit) (names : Option ℕ) (place : ℕ) → withdrawn_waiting waiting names ≡ Some place → (names ≡ Some place) × (is_waiting waiting place ≡ true)
withdrawn-waits waiting None place e = absurd (none-some place e)
withdrawn-waits waiting (Some n) place e = by_test (is_waiting waiting n) refl e
  where
    by_test : (b : Bool) → is_waiting waiting n ≡ b → (if b then Some n else None) ≡ Some place → (Some n ≡ Some place) × (is_waiting waiting place ≡ true)
    by_test true t e = (e, ap (λ (m : ℕ). is_waiting waiting m) (sym (some-same n place e)) ∙ t)
    by_test false t e = absurd (none-some place e)

pub withdrawn-named : (c : Configuration) (commands : ℕ) (p : Parts) (trail : Trail) (i place : ℕ) (x : WaitingSubmit) → StandFor c commands p trail
    → slice_get p.waiting i ≡ Some x → withdrawn_waiting p.waiting x.names ≡ Some place
    → (place < x.sent) × (j : ℕ) × (y : WaitingSubmit) × (slice_get p.waiting j ≡ Some y) × (y.sent ≡ place)
withdrawn-named c commands p trail i place x stand e withdraws =
    let w : World = world_of c trail in
    let linked = linked-world c commands trail stand.lawful in
    let there = waits-in c commands p trail i x stand e in
    let s : Submission = there.submit in
    let h = withdrawn-waits p.waiting x.names place withdraws in
    let earlier : place < s.request.place =
    found-each (λ (y : Submission). NamesEarlier y.request) _ w.submits s (each-request NamesEarlier w.submits linked.names) there.found place (sym there.names ∙ h.0) in
    let at = submit-place w.submits x.sent s there.found in
    let k = waiting-index p.waiting place h.1 in
    (omega arith, k.0, k.1, k.2, k.3)

-- ---- queues at a post

restaged-under : (commands : List Waiting) (place cid : ℕ) (stage : QueueStage)
    → under (restaged commands place stage) cid ≡ option_map (λ (x : Waiting). if x.sent == place then record x { stage = stage } else x) (under commands cid)
restaged-under [] place cid stage = refl
restaged-under (x ∷ commands) place cid stage = by_test (x.sent == place) refl (restaged-under commands place cid stage)
  where
    by_cid : (b : Bool) → (y : Waiting) → (if x.sent == place then record x { stage = stage } else x) ≡ y
        → under (restaged commands place stage) cid ≡ option_map (λ (z : Waiting). if z.sent == place then record z { stage = stage } else z) (under commands cid)
        → cond b (Some y) (under (restaged commands place stage) cid)
        ≡ option_map (λ (z : Waiting). if z.sent == place then record z { stage = stage } else z) (cond b (Some x) (under commands cid))
    by_cid true y e later = ap (λ (z : Waiting). Some z) (sym e)
    by_cid false y e later = later

    by_test : (b : Bool) → (x.sent == place) ≡ b
        → under (restaged commands place stage) cid ≡ option_map (λ (z : Waiting). if z.sent == place then record z { stage = stage } else z) (under commands cid)
        → under ((let y : Waiting = if b then record x { stage = stage } else x in y) ∷ restaged commands place stage) cid
        ≡ option_map (λ (z : Waiting). if z.sent == place then record z { stage = stage } else z) (under (x ∷ commands) cid)
    by_test true t later = by_cid (x.cid == cid) (let y : Waiting = record x { stage = stage } in y) (ap (λ (b : Bool). (let y : Waiting = if b then record x { stage = stage } else x in y)) t) later
    by_test false t later = by_cid (x.cid == cid) x (ap (λ (b : Bool). (let y : Waiting = if b then record x { stage = stage } else x in y)) t) later

pub post-under : (old between : Parts) (host sent posted : ℕ) (tables : State) (other cid : ℕ) (o : Waiting) → PostMoves old between host sent posted tables
    → under (old.queues other) cid ≡ Some o → (o.sent ≡ sent → ⊥) → under (between.queues other) cid ≡ Some o
post-under old between host sent posted tables other cid o moves found differs =
    ap (λ (q : List Waiting). under q cid) (moves.queues other) ∙ by_test (other == host) refl
  where
    by_test : (b : Bool) → (other == host) ≡ b → under (if b then restaged (old.queues host) sent (queue.Posted posted) else old.queues other) cid ≡ Some o
    by_test true t =
        restaged-under (old.queues host) sent cid (queue.Posted posted)
        ∙ (ap (λ (z : Option Waiting). option_map (λ (x : Waiting). if x.sent == sent then record x { stage = queue.Posted posted } else x) z)
        (ap (λ (h : ℕ). under (old.queues h) cid) (sym (eqb-same other host t)) ∙ found)
        ∙ ap (λ (b : Bool). Some (let y : Waiting = if b then record o { stage = queue.Posted posted } else o in y)) (other-eqb o.sent sent differs))
    by_test false t = found

-- ---- lists of outstanding commands at two stages

sent-restaged : (commands : List Waiting) (place other : ℕ) (stage : QueueStage) → is_sent_at (restaged commands place stage) other ≡ is_sent_at commands other
sent-restaged [] place other stage = refl
sent-restaged (x ∷ commands) place other stage = by_test (x.sent == place) (sent-restaged commands place other stage)
  where
    by_test : (b : Bool) → is_sent_at (restaged commands place stage) other ≡ is_sent_at commands other
        → is_sent_at ((let y : Waiting = if b then record x { stage = stage } else x in y) ∷ restaged commands place stage) other ≡ is_sent_at (x ∷ commands) other
    by_test true later = ap (λ (b : Bool). (x.sent == other) || b) later
    by_test false later = ap (λ (b : Bool). (x.sent == other) || b) later

pub restaged-differ : (commands : List Waiting) (place : ℕ) (stage : QueueStage) → PlacesDiffer commands → PlacesDiffer (restaged commands place stage)
restaged-differ [] place stage differ = tt
restaged-differ (x ∷ commands) place stage differ = by_test (x.sent == place) (restaged-differ commands place stage differ.1)
  where
    by_test : (b : Bool) → PlacesDiffer (restaged commands place stage) → PlacesDiffer ((let y : Waiting = if b then record x { stage = stage } else x in y) ∷ restaged commands place stage)
    by_test true later = (sent-restaged commands place x.sent stage ∙ differ.0, later)
    by_test false later = (sent-restaged commands place x.sent stage ∙ differ.0, later)

pub restaged-twice : (commands : List Waiting) (place : ℕ) (first second : QueueStage) → restaged (restaged commands place first) place second ≡ restaged commands place second
restaged-twice [] place first second = refl
restaged-twice (x ∷ commands) place first second = by_test (x.sent == place) refl (restaged-twice commands place first second)
  where
    by_test : (b : Bool) → (x.sent == place) ≡ b → restaged (restaged commands place first) place second ≡ restaged commands place second
        → restaged ((let y : Waiting = if b then record x { stage = first } else x in y) ∷ restaged commands place first) place second
        ≡ (let y : Waiting = if b then record x { stage = second } else x in y) ∷ restaged commands place second
    by_test true t later =
        ap (λ (b : Bool). (let y : Waiting = if b then record x { stage = second } else record x { stage = first } in y) ∷ restaged (restaged commands place first) place second) t
        ∙ ap (λ (xs : List Waiting). (let y : Waiting = record x { stage = second } in y) ∷ xs) later
    by_test false t later =
        ap (λ (b : Bool). (let y : Waiting = if b then record x { stage = second } else x in y) ∷ restaged (restaged commands place first) place second) t
        ∙ ap (λ (xs : List Waiting). x ∷ xs) later
