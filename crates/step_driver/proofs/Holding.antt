-- The works that are held are those of the open claims.
use Rattle.std.proofs.Common.{◌≡◌, ◌≢◌, ◌∙◌, ℕ, zero, suc, ◌+◌, ◌-◌, ◌*◌, ◌<◌, ◌≤◌, ◌==◌, Bool, true, false, if◌then◌else◌, cond, List, [], ◌∷◌, ◌++◌, length, length-append, map, Option, Some, None, is_none, refl, sym, ap, subst, arith, inl, inr, get_or, slice_get, take, drop, IsSomeAnd}
use Rattle.std.specs.List.{AllByRecursion, remove}
use Rattle.cp_base.specs.Configuration.{Configuration}
use Rattle.cp_base.specs.Answer.{Answer, answer_of}
use Rattle.cp_base.specs.declared.commands.Command.{Command}
use Rattle.cp_base.specs.declared.limits.TheConstants.{MAX_COMMANDS}
use Rattle.trail_model.specs.Each.{EachTwo}
use Rattle.trail_model.specs.Footprints.{Execution}
use Rattle.trail_model.specs.Lawful.{IsAllowedIn, IsLawful, Trail, is_idle, world_of}
use Rattle.trail_model.specs.Linked.{AreDifferent}
use Rattle.trail_model.specs.LocalEffects.{local_effect}
use Rattle.trail_model.specs.Pieces.{RegionBytes}
use Rattle.trail_model.specs.World.{OpenClaim, Submission, World, claim_at, claim_by, claim_of, effect_of_claim, first_world, is_queued, pickable_among, queued_among, submit_at, without_claim, world_after}
use Rattle.trail_model.specs.Lawful.{world_from}
use Rattle.trail_model.specs.declared.events.Event.{Event}
use Rattle.trail_model.specs.declared.events.Event.TheVariants as event
use Rattle.trail_model.proofs.Counts.{bounded, count-world, few-submits, rest-from, world-append}
use Rattle.trail_model.proofs.Linked.{self-found}
use Rattle.trail_model.proofs.Moving.{linked-world}
use Rattle.trail_model.proofs.NewSets.{each-filter}
use Rattle.trail_model.proofs.Submits.{none-some, other-eqb, same-eqb, some-same}
use Rattle.job_run.specs.Works.{IsWorkDone, pieces_after, region_bytes}
use Rattle.job_run.specs.declared.work.Work.{Work}
use Rattle.job_run.specs.declared.work.Worked.{Worked}
use Rattle.device_core.specs.Gives.{Claims, IsWorkOf, IsWorkedOf, world_in}
use Rattle.device_core.specs.Recorded.{Appends, Recorded, with_event}
use Rattle.schedule_model.specs.Schedule.{Ending, Turning, idle_from}
use Rattle.step_driver.specs.Held.{AreHeld, HoldsWorks, IsHeldFor, none_by}
use Rattle.step_driver.specs.Turns.{DoesAction}
use Rattle.step_driver.specs.declared.running.Held.{Held}
use Rattle.step_driver.proofs.Getting.{each-at}

pub held-count : (c : Configuration) (claims : List OpenClaim) (held : List Held) → AreHeld c claims held → length held ≡ length claims
held-count c [] [] h = refl
held-count c [] (x ∷ held) h = absurd h
held-count c (claim ∷ claims) [] h = absurd h
held-count c (claim ∷ claims) (x ∷ held) h = ap (λ (n : ℕ). suc n) (held-count c claims held h.1)

-- a party has no work exactly where it has no open claim
pub idle-by : (c : Configuration) (claims : List OpenClaim) (held : List Held) (party : ℕ) → AreHeld c claims held → none_by held party ≡ is_none (claim_by claims party)
idle-by c [] [] party h = refl
idle-by c [] (x ∷ held) party h = absurd h
idle-by c (claim ∷ claims) [] party h = absurd h
idle-by c (claim ∷ claims) (x ∷ held) party h =
    ap (λ (n : ℕ). if n == party then false else none_by held party) h.0.party
    ∙ by_test (claim.party == party) (idle-by c claims held party h.1)
  where
    by_test : (b : Bool) → none_by held party ≡ is_none (claim_by claims party)
        → (if b then false else none_by held party) ≡ is_none (cond b (Some claim) (claim_by claims party))
    by_test true later = refl
    by_test false later = later

-- the work at an index is that of the open claim at this index
pub held-at : (c : Configuration) (claims : List OpenClaim) (held : List Held) (k : ℕ) (h : Held) → AreHeld c claims held → k < length held → h ≡ get_or held k h
    → IsSomeAnd (slice_get claims k) (λ (claim : OpenClaim). IsHeldFor c claim h)
held-at c [] [] k h are below is = absurd (omega arith)
held-at c [] (x ∷ held) k h are below is = absurd are
held-at c (claim ∷ claims) [] k h are below is = absurd are
held-at c (claim ∷ claims) (x ∷ held) zero h are below is = subst (λ (y : Held). IsHeldFor c claim y) (sym is) are.0
held-at c (claim ∷ claims) (x ∷ held) (suc k) h are below is = held-at c claims held k h are.1 (omega arith) is

-- without it, the others are those of the other claims
pub held-without : (c : Configuration) (claims : List OpenClaim) (held : List Held) (k : ℕ) (claim : OpenClaim) → AreHeld c claims held → EachTwo AreDifferent claims
    → slice_get claims k ≡ Some claim → AreHeld c (without_claim claim.place claims) (take k held ++ drop (suc k) held)
held-without c [] held k claim are differ is = absurd (none-some claim is)
held-without c (first ∷ claims) [] k claim are differ is = absurd are
held-without c (first ∷ claims) (x ∷ held) zero claim are differ is =
    let same : first ≡ claim = some-same first claim is in
    subst (λ (b : Bool). AreHeld c (if b then claims else first ∷ without_claim claim.place claims) held)
    (sym (same-eqb first.place claim.place (ap (λ (y : OpenClaim). y.place) same))) are.1
held-without c (first ∷ claims) (x ∷ held) (suc k) claim are differ is =
    let apart : AreDifferent first claim = each-at (AreDifferent first) claims k claim differ.0 is in
    subst (λ (b : Bool). AreHeld c (if b then claims else first ∷ without_claim claim.place claims) (x ∷ (take k held ++ drop (suc k) held)))
    (sym (other-eqb first.place claim.place apart.places))
    (are.0, held-without c claims held k claim are.1 differ.1 is)

pub held-more : (c : Configuration) (claims : List OpenClaim) (held : List Held) (claim : OpenClaim) (h : Held) → AreHeld c claims held → IsHeldFor c claim h
    → AreHeld c (claims ++ claim ∷ []) (held ++ h ∷ [])
held-more c [] [] claim h are is = (is, tt)
held-more c [] (x ∷ held) claim h are is = absurd are
held-more c (first ∷ claims) [] claim h are is = absurd are
held-more c (first ∷ claims) (x ∷ held) claim h are is = (are.0, held-more c claims held claim h are.1 is)

-- what work leaves is what its claim comes to
pub worked-of : (c : Configuration) (claim : OpenClaim) (w : Work) (done : Worked) (work : IsWorkOf c claim w) → IsWorkDone c work.state w done → IsWorkedOf c claim done
worked-of c claim w done work is =
    let same : local_effect c (Rattle.trail_model.specs.Footprints.execution_of work.state w.command.value) (region_bytes w.pieces.items) w.command.value ≡ effect_of_claim c claim =
    ap (λ (x : Execution). local_effect c x (region_bytes w.pieces.items) w.command.value) work.execution
    ∙ (ap (λ (ps : List RegionBytes). local_effect c claim.execution ps w.command.value) work.pieces
    ∙ ap (λ (cmd : Command). local_effect c claim.execution claim.pieces cmd) work.command) in
    record {
      answer = is.answer ∙ ap (λ effect. effect.answer) same;
      pieces = is.pieces ∙ (ap (λ effect. pieces_after effect (region_bytes w.pieces.items)) same ∙ ap (λ (ps : List RegionBytes). pieces_after (effect_of_claim c claim) ps) work.pieces);
    }

-- ---- one event more

pub world-then : (c : Configuration) (seen : Trail) (e : Event) → world_of c (seen ++ e ∷ []) ≡ world_after c (world_of c seen) e
world-then c seen e = world-append c (first_world c) seen (e ∷ [])

pub allowed-then : (c : Configuration) (commands : ℕ) (seen : Trail) (e : Event) → IsLawful c commands (seen ++ e ∷ []) → IsAllowedIn c commands (world_of c seen) e
allowed-then c commands seen e lawful = (rest-from c commands (first_world c) seen (e ∷ []) lawful).0

-- the works after an event, where they are those of the claims that the event leaves
pub holds-then : (old new : Recorded) (e : Event) (few : old.commands ≤ MAX_COMMANDS) (held : List Held) → Appends old new e → IsLawful new.config new.commands new.trail
    → AreHeld old.config (world_after old.config (world_in old) e).claims held → HoldsWorks new held
holds-then old new e few held appended lawful are = record {
  few = subst (λ (d : Recorded). d.commands ≤ MAX_COMMANDS) (sym appended) few;
  lawful = lawful;
  works = subst (λ (d : Recorded). AreHeld d.config (world_in d).claims held) (sym appended)
      (subst (λ (w : World). AreHeld old.config w.claims held) (sym (world-then old.config old.trail e)) are);
}

-- the event was allowed
pub was-allowed : (old new : Recorded) (e : Event) → Appends old new e → IsLawful new.config new.commands new.trail → IsAllowedIn old.config old.commands (world_in old) e
was-allowed old new e appended lawful =
    allowed-then old.config old.commands old.trail e (subst (λ (d : Recorded). IsLawful d.config d.commands d.trail) appended lawful)

-- ---- ends of claims

claims-found : (claims : List OpenClaim) (k : ℕ) (claim : OpenClaim) → EachTwo AreDifferent claims → slice_get claims k ≡ Some claim → claim_at claims claim.place ≡ Some claim
claims-found [] k claim differ is = absurd (none-some claim is)
claims-found (first ∷ claims) zero claim differ is =
    let same : first ≡ claim = some-same first claim is in
    ap (λ (b : Bool). cond b (Some first) (claim_at claims claim.place)) (same-eqb first.place claim.place (ap (λ (y : OpenClaim). y.place) same)) ∙ ap (λ (y : OpenClaim). Some y) same
claims-found (first ∷ claims) (suc k) claim differ is =
    let apart : AreDifferent first claim = each-at (AreDifferent first) claims k claim differ.0 is in
    ap (λ (b : Bool). cond b (Some first) (claim_at claims claim.place)) (other-eqb first.place claim.place apart.places) ∙ claims-found claims k claim differ.1 is

-- an open claim is found at its place
pub claim-found : (d : Recorded) (k : ℕ) (claim : OpenClaim) → IsLawful d.config d.commands d.trail → slice_get (world_in d).claims k ≡ Some claim
    → claim_at (world_in d).claims claim.place ≡ Some claim
claim-found d k claim lawful is = claims-found (world_in d).claims k claim (linked-world d.config d.commands d.trail lawful).different is

-- the other works after the end of a claim
pub finished : (old new : Recorded) (held : List Held) (k : ℕ) (claim : OpenClaim) (answer : Answer) → HoldsWorks old held → slice_get (world_in old).claims k ≡ Some claim
    → Appends old new (event.Finish claim.party claim.place answer) → IsLawful new.config new.commands new.trail → HoldsWorks new (take k held ++ drop (suc k) held)
finished old new held k claim answer holds is appended lawful =
    let w : World = world_in old in
    let found : claim_at w.claims claim.place ≡ Some claim = claim-found old k claim holds.lawful is in
    holds-then old new (event.Finish claim.party claim.place answer) holds.few (take k held ++ drop (suc k) held) appended lawful
    (subst (λ (o : Option OpenClaim). AreHeld old.config (Rattle.trail_model.specs.World.with_finish old.config w o).claims (take k held ++ drop (suc k) held)) (sym found)
    (held-without old.config w.claims held k claim holds.works (linked-world old.config old.commands old.trail holds.lawful).different is))

-- ---- turns to commands

-- a command that may be picked is found at its place
pub picked-found : (d : Recorded) (k : ℕ) (s : Submission) → IsLawful d.config d.commands d.trail → slice_get (pickable_among d.config (world_in d)) k ≡ Some s
    → submit_at (world_in d).submits s.request.place ≡ Some s
picked-found d k s lawful is =
    each-at (λ (x : Submission). submit_at (world_in d).submits x.request.place ≡ Some x) (pickable_among d.config (world_in d)) k s
    (each-filter (λ (x : Submission). submit_at (world_in d).submits x.request.place ≡ Some x)
    (λ (x : Submission). Rattle.trail_model.specs.World.is_pickable d.config (world_in d) x.request.command) (queued_among (world_in d).submits)
    (each-filter (λ (x : Submission). submit_at (world_in d).submits x.request.place ≡ Some x) (λ (x : Submission). is_queued x.stage) (world_in d).submits
    (self-found (world_in d) (linked-world d.config d.commands d.trail lawful)))) is

-- the works with that of a new claim
pub claimed : (old new : Recorded) (held : List Held) (by k : ℕ) (s : Submission) (h : Held) → HoldsWorks old held → slice_get (pickable_among old.config (world_in old)) k ≡ Some s
    → Claims old new by s h.work → h.by ≡ by → h.claim ≡ length old.trail → IsLawful new.config new.commands new.trail → HoldsWorks new (held ++ h ∷ [])
claimed old new held by k s h holds is claims party place lawful =
    let w : World = world_in old in
    holds-then old new (event.Claim by s.request.host s.request.ordinal s.request.place) holds.few (held ++ h ∷ []) claims.event lawful
    (subst (λ (o : Option Submission). AreHeld old.config (Rattle.trail_model.specs.World.with_claim old.config w by o).claims (held ++ h ∷ []))
    (sym (picked-found old k s holds.lawful is))
    (held-more old.config w.claims held (claim_of old.config w by s.request) h holds.works
    (record { party = party; place = place ∙ sym (count-world old.config old.trail); work = claims.claimed })))

-- a command that is done at once leaves the claims
pub claims-stay : (c : Configuration) (w : World) (by host ordinal sent : ℕ) (answer : Answer) (aborts : Option ℕ) → (world_after c w (event.Do by host ordinal sent answer aborts)).claims ≡ w.claims
claims-stay c w by host ordinal sent answer aborts = by_found (submit_at w.submits sent)
  where
    by_found : (o : Option Submission) → (Rattle.trail_model.specs.World.with_done c w answer aborts o).claims ≡ w.claims
    by_found None = refl
    by_found (Some s) = refl

-- a take leaves the claims
pub claims-stay-taken : (c : Configuration) (w : World) (by cid posted : ℕ) → (world_after c w (event.Take by cid posted)).claims ≡ w.claims
claims-stay-taken c w by cid posted = by_found (Rattle.trail_model.specs.World.outstanding_under w.submits by cid)
  where
    by_found : (o : Option Submission) → (Rattle.trail_model.specs.World.with_take w o).claims ≡ w.claims
    by_found None = refl
    by_found (Some s) = refl

filter-few : (test : Submission → Bool) (xs : List Submission) → length (Rattle.std.specs.List.filter test xs) ≤ length xs
filter-few test [] = omega arith
filter-few test (x ∷ xs) = by_test (test x) (filter-few test xs)
  where
    by_test : (b : Bool) → length (Rattle.std.specs.List.filter test xs) ≤ length xs
        → length (cond b (x ∷ Rattle.std.specs.List.filter test xs) (Rattle.std.specs.List.filter test xs)) ≤ suc (length xs)
    by_test true later = omega arith
    by_test false later = omega arith

-- there are no more commands that may be picked than may be submitted
pub few-picked : (d : Recorded) (held : List Held) → HoldsWorks d held → length (pickable_among d.config (world_in d)) ≤ MAX_COMMANDS
few-picked d held holds =
    let w : World = world_in d in
    let a : length (pickable_among d.config w) ≤ length (queued_among w.submits) =
    filter-few (λ (x : Submission). Rattle.trail_model.specs.World.is_pickable d.config w x.request.command) (queued_among w.submits) in
    let b : length (queued_among w.submits) ≤ length w.submits = filter-few (λ (x : Submission). is_queued x.stage) w.submits in
    let k = few-submits d.config d.commands d.trail holds.lawful in
    let f = holds.few in
    omega arith

-- ---- how many claims are open

few-without : (place : ℕ) (claims : List OpenClaim) → length (without_claim place claims) ≤ length claims
few-without place [] = omega arith
few-without place (claim ∷ claims) = by_test (claim.place == place) (few-without place claims)
  where
    by_test : (b : Bool) → length (without_claim place claims) ≤ length claims
        → length (if b then claims else claim ∷ without_claim place claims) ≤ suc (length claims)
    by_test true later = omega arith
    by_test false later = omega arith

-- an event opens at most one claim
few-after : (c : Configuration) (w : World) (e : Event) → length (world_after c w e).claims ≤ suc (length w.claims)
few-after c w (event.Submit by cid ordinal cmd) = omega arith
few-after c w (event.Claim by host ordinal sent) = by_found (submit_at w.submits sent)
  where
    by_found : (o : Option Submission) → length (Rattle.trail_model.specs.World.with_claim c w by o).claims ≤ suc (length w.claims)
    by_found None = omega arith
    by_found (Some s) = let n = length-append w.claims (claim_of c w by s.request ∷ []) in omega arith
few-after c w (event.Finish by claim answer) = by_found (claim_at w.claims claim)
  where
    by_found : (o : Option OpenClaim) → length (Rattle.trail_model.specs.World.with_finish c w o).claims ≤ suc (length w.claims)
    by_found None = omega arith
    by_found (Some opened) = let n = few-without opened.place w.claims in omega arith
few-after c w (event.Do by host ordinal sent answer aborts) =
    let same = ap (λ (xs : List OpenClaim). length xs) (claims-stay c w by host ordinal sent answer aborts) in
    omega arith
few-after c w (event.Take by cid posted) =
    let same = ap (λ (xs : List OpenClaim). length xs) (claims-stay-taken c w by cid posted) in
    omega arith
few-after c w (event.Rest by) = omega arith

few-from : (c : Configuration) (w : World) (trail : Trail) → length (world_from c w trail).claims ≤ length w.claims + length trail
few-from c w [] = omega arith
few-from c w (e ∷ trail) =
    let a = few-after c w e in
    let b = few-from c (world_after c w e) trail in
    omega arith

-- no more claims are open than there are events
pub few-open : (d : Recorded) (held : List Held) → HoldsWorks d held → length (world_in d).claims ≤ 5 * MAX_COMMANDS + 1
few-open d held holds =
    let a : length (world_in d).claims ≤ 0 + length d.trail = few-from d.config (first_world d.config) d.trail in
    let b : length d.trail ≤ 5 * d.commands + 1 = bounded d.config d.commands d.trail holds.lawful in
    let f = holds.few in
    omega arith

-- a device on which nothing has happened has no works
pub holds-first : (d : Recorded) (held : List Held) → d.commands ≤ MAX_COMMANDS → d.trail ≡ [] → held ≡ [] → HoldsWorks d held
holds-first d held few empty none = record {
  few = few;
  lawful = subst (λ (t : Trail). IsLawful d.config d.commands t) (sym empty) tt;
  works = subst (λ (hs : List Held). AreHeld d.config (world_in d).claims hs) (sym none)
      (subst (λ (t : Trail). AreHeld d.config (world_of d.config t).claims []) (sym empty) tt);
}

-- ---- idle workers

pub idle-first : (w : World) (party end : ℕ) → party < end → is_idle w party ≡ true → idle_from w party (end - party) ≡ Some party
idle-first w party end below idle =
    let e : end - party ≡ suc (end - (party + 1)) = omega arith in
    ap (λ (n : ℕ). idle_from w party n) e ∙ ap (λ (b : Bool). if b then Some party else idle_from w (party + 1) (end - (party + 1))) idle

pub idle-next : (w : World) (party end : ℕ) → party < end → is_idle w party ≡ false → idle_from w party (end - party) ≡ idle_from w (party + 1) (end - (party + 1))
idle-next w party end below busy =
    let e : end - party ≡ suc (end - (party + 1)) = omega arith in
    ap (λ (n : ℕ). idle_from w party n) e ∙ ap (λ (b : Bool). if b then Some party else idle_from w (party + 1) (end - (party + 1))) busy

pub idle-last : (w : World) (party end : ℕ) → end ≤ party → idle_from w party (end - party) ≡ None
idle-last w party end over =
    let e : end - party ≡ 0 = omega arith in
    ap (λ (n : ℕ). idle_from w party n) e
