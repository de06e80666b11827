-- How many open claims, entries and waiting commands there may be.
use Rattle.std.proofs.Common.{◌≡◌, ◌≢◌, ℕ, zero, suc, ◌+◌, ◌*◌, ◌<◌, ◌≤◌, ◌==◌, eqb, Bool, true, false, ◌||◌, cond, List, [], ◌∷◌, ◌++◌, filter, length, length-append, map, Option, Some, None, option_map, option_and_then, refl, sym, ap, subst, ◌∙◌, arith, if◌then◌else◌, slice_get, IsSomeAnd}
use Rattle.std.specs.List.{AllByRecursion, IsDistinct, list_any}
use Rattle.std.proofs.lemmas.Bool.{true≢false}
use Rattle.std.proofs.lemmas.List.Elements.{filter-append}
use Rattle.std.proofs.lemmas.Map.Steps.{length-le_from_distinct_below}
use Rattle.cp_base.specs.Configuration.{Configuration}
use Rattle.cp_base.specs.declared.limits.TheConstants.{MAX_HOSTS}
use Rattle.trail_model.specs.Each.{EachTwo}
use Rattle.trail_model.specs.Lawful.{IsAllowedIn, IsLawful, IsLawfulFrom, IsParty, MayClaim, MayDo, MayFinish, Trail, is_idle, world_from, world_of}
use Rattle.trail_model.specs.Linked.{AreDifferent, ClaimLinked, IsLinked, NamesEarlier}
use Rattle.trail_model.specs.Traced.{ClaimsIt}
use Rattle.trail_model.specs.World.{OpenClaim, Posted, Queued, Stage, Submission, Taken, Working, World, claim_at, claim_by, claim_of, first_world, is_posted_at, is_queued, outstanding_under, queued_among, request_of, staged, submit_at, with_claim, with_done, with_finish, with_take, withdrawn_place, without_claim, world_after}
use Rattle.trail_model.specs.declared.events.Event.{Event}
use Rattle.trail_model.specs.declared.events.Event.TheVariants as event
use Rattle.trail_model.proofs.Counts.{few-submits}
use Rattle.trail_model.proofs.Linked.{Works, each-request, idle-claims, self-found, under-each}
use Rattle.trail_model.proofs.Moving.{linked-first, linked-step, linked-world, withdrawn-queued}
use Rattle.trail_model.proofs.Sound.{is-none, some-and}
use Rattle.trail_model.proofs.Submits.{claim-place, each-weaker, eqb-same, found-each, none-some, other-eqb, restaged, some-same, staged-other, submit-place}
use Rattle.trail_model.proofs.Traced.{traced-world}
use Rattle.core_model.specs.Asked.{Asked, asked_at, asked_in}
use Rattle.core_model.specs.Parts.{Parts}
use Rattle.core_model.proofs.Steps.{length-shown}
use Rattle.core_model.specs.Ties.{StandFor, as_kept, as_places, as_waiting, entries_by, entries_from, entries_of, entry_if, entry_of}

-- ---- each event of a lawful trail was allowed

pub allowed-at : (c : Configuration) (commands : ℕ) (w : World) (trail : Trail) (k : ℕ) (e : Event) → IsLawfulFrom c commands w trail → slice_get trail k ≡ Some e
    → (v : World) × IsAllowedIn c commands v e
allowed-at c commands w [] k e lawful found = absurd (none-some e found)
allowed-at c commands w (x ∷ trail) zero e lawful found = (w, subst (λ (y : Event). IsAllowedIn c commands w y) (some-same x e found) lawful.0)
allowed-at c commands w (x ∷ trail) (suc k) e lawful found = allowed-at c commands (world_after c w x) trail k e lawful.1 found

-- so each submit is a host's
pub asked-host : (c : Configuration) (commands : ℕ) (trail : Trail) (place : ℕ) (asked : Asked) → IsLawful c commands trail → asked_at trail place ≡ Some asked
    → (1 ≤ asked.host) × (asked.host ≤ MAX_HOSTS)
asked-host c commands trail place asked lawful read = by_event (slice_get trail place) refl read
  where
    by_kind : (e : Event) → ((v : World) × IsAllowedIn c commands v e) → asked_in e ≡ Some asked → (1 ≤ asked.host) × (asked.host ≤ MAX_HOSTS)
    by_kind (event.Submit by cid ordinal cmd) (v, allowed) h =
        subst (λ (a : Asked). (1 ≤ a.host) × (a.host ≤ MAX_HOSTS))
        (some-same (let a : Asked = record { host = by; cid = cid; ordinal = ordinal; command = cmd } in a) asked h) allowed.host
    by_kind (event.Claim by host ordinal sent) allowed h = absurd (none-some asked h)
    by_kind (event.Finish by claim answer) allowed h = absurd (none-some asked h)
    by_kind (event.Do by host ordinal sent answer aborts) allowed h = absurd (none-some asked h)
    by_kind (event.Take by cid posted) allowed h = absurd (none-some asked h)
    by_kind (event.Rest by) allowed h = absurd (none-some asked h)

    by_event : (o : Option Event) → slice_get trail place ≡ o → option_and_then asked_in o ≡ Some asked → (1 ≤ asked.host) × (asked.host ≤ MAX_HOSTS)
    by_event None found h = absurd (none-some asked h)
    by_event (Some e) found h = by_kind e (allowed-at c commands (first_world c) trail place e lawful found) h

-- and each open claim is a party's
claim-party : (c : Configuration) (commands : ℕ) (trail : Trail) → IsLawful c commands trail → AllByRecursion (λ (claim : OpenClaim). IsParty claim.party) (world_of c trail).claims
claim-party c commands trail lawful =
    each-weaker (λ (claim : OpenClaim). IsSomeAnd (slice_get trail claim.place) (ClaimsIt claim.party claim.request)) (λ (claim : OpenClaim). IsParty claim.party)
    (λ claim h. (let there = some-and (ClaimsIt claim.party claim.request) (slice_get trail claim.place) h in
    let allowed = allowed-at c commands (first_world c) trail claim.place (event.Claim claim.party claim.request.host claim.request.ordinal claim.request.place) lawful
    (there.1 ∙ ap (λ (e : Event). Some e) there.2.event) in
    (some-and (λ (s : Submission). MayClaim c allowed.0 claim.party claim.request.host claim.request.ordinal s) (submit_at allowed.0.submits claim.request.place) allowed.1).2.turn.party))
    (world_of c trail).claims (traced-world c commands trail lawful).claims

-- ---- fewer open claims than parties, where one is idle

-- the parties of open claims
abbrev parties : List OpenClaim → List ℕ
parties claims = map (λ (claim : OpenClaim). claim.party) claims

others-differ : (n : ℕ) (claims : List OpenClaim) → AllByRecursion (λ (claim : OpenClaim). n ≢ claim.party) claims
    → AllByRecursion (λ (party : ℕ). eqb n party ≡ false) (parties claims)
others-differ n [] all = tt
others-differ n (x ∷ claims) all = (other-eqb n x.party all.0, others-differ n claims all.1)

distinct-parties : (claims : List OpenClaim) → EachTwo AreDifferent claims → IsDistinct eqb (parties claims)
unfolding IsDistinct
distinct-parties [] all = tt
distinct-parties (x ∷ claims) all = (
  others-differ x.party claims (each-weaker (AreDifferent x) (λ (y : OpenClaim). x.party ≢ y.party) (λ y h. h.parties) claims all.0),
  distinct-parties claims all.1,
)

with-two : (xs : List ℕ) (a b : ℕ) → eqb a b ≡ false → AllByRecursion (λ (x : ℕ). eqb a x ≡ false) xs → AllByRecursion (λ (x : ℕ). eqb b x ≡ false) xs
    → IsDistinct eqb xs → IsDistinct eqb (a ∷ b ∷ xs)
unfolding IsDistinct
with-two xs a b differ first second all = ((differ, first), (second, all))

below-parties : (claims : List OpenClaim) → AllByRecursion (λ (claim : OpenClaim). IsParty claim.party) claims
    → (q : ℕ) → list_any (eqb q) (parties claims) ≡ true → q < 2 * MAX_HOSTS + 1
below-parties [] all q h = absurd (true≢false (sym h))
below-parties (x ∷ claims) all q h = by_test (below-parties claims all.1 q) (eqb q x.party) refl h
  where
    by_test : (list_any (eqb q) (parties claims) ≡ true → q < 2 * MAX_HOSTS + 1) → (b : Bool) → eqb q x.party ≡ b
        → (b || list_any (eqb q) (parties claims)) ≡ true → q < 2 * MAX_HOSTS + 1
    by_test later true e h = let same : q ≡ x.party = eqb-same q x.party e in let most = all.0.1 in omega arith
    by_test later false e h = later h

length-parties : (claims : List OpenClaim) → length (parties claims) ≡ length claims
length-parties [] = refl
length-parties (x ∷ claims) = ap suc (length-parties claims)

pub few-claims : (c : Configuration) (commands : ℕ) (trail : Trail) (by : ℕ) → IsLawful c commands trail → IsParty by → is_idle (world_of c trail) by ≡ true
    → length (world_of c trail).claims + 1 < 2 * MAX_HOSTS + 1
few-claims c commands trail by lawful party idle =
    let claims : List OpenClaim = (world_of c trail).claims in
    let each = claim-party c commands trail lawful in
    let mine = idle-claims claims by (is-none (claim_by claims by) idle) in
    let zero_differs : AllByRecursion (λ (claim : OpenClaim). 0 ≢ claim.party) claims =
    each-weaker (λ (claim : OpenClaim). IsParty claim.party) (λ (claim : OpenClaim). 0 ≢ claim.party) (λ claim h e. (let least = h.0 in omega arith)) claims each in
    let by_differs : AllByRecursion (λ (claim : OpenClaim). by ≢ claim.party) claims =
    each-weaker (λ (claim : OpenClaim). claim.party ≢ by) (λ (claim : OpenClaim). by ≢ claim.party) (λ claim h e. h (sym e)) claims mine in
    let distinct : IsDistinct eqb (0 ∷ by ∷ parties claims) =
    with-two (parties claims) 0 by (other-eqb 0 by (λ e. (let least = party.0 in omega arith))) (others-differ 0 claims zero_differs) (others-differ by claims by_differs)
    (distinct-parties claims (linked-world c commands trail lawful).different) in
    let bound : length (0 ∷ by ∷ parties claims) ≤ 2 * MAX_HOSTS + 1 =
    length-le_from_distinct_below (0 ∷ by ∷ parties claims) (2 * MAX_HOSTS + 1) distinct (below claims each) in
    let same = length-parties claims in
    omega arith
  where
    below : (claims : List OpenClaim) → AllByRecursion (λ (claim : OpenClaim). IsParty claim.party) claims
        → (q : ℕ) → list_any (eqb q) (0 ∷ by ∷ parties claims) ≡ true → q < 2 * MAX_HOSTS + 1
    below claims each q h = by_tests (eqb q 0) (eqb q by) refl refl h
      where
        by_tests : (a b : Bool) → eqb q 0 ≡ a → eqb q by ≡ b → (a || (b || list_any (eqb q) (parties claims))) ≡ true → q < 2 * MAX_HOSTS + 1
        by_tests true b e f h = let same : q ≡ 0 = eqb-same q 0 e in omega arith
        by_tests false true e f h = let same : q ≡ by = eqb-same q by f in let most = party.1 in omega arith
        by_tests false false e f h = below-parties claims each q h

-- ---- entries, open claims and waiting commands are all submits

-- how many submits are queued
abbrev queued_count : List Submission → ℕ
queued_count submits = length (queued_among submits)

queued-append : (xs ys : List Submission) → queued_count (xs ++ ys) ≡ queued_count xs + queued_count ys
queued-append xs ys =
    ap length (filter-append (λ (s : Submission). is_queued s.stage) xs ys)
    ∙ length-append (queued_among xs) (queued_among ys)

-- 1 for a queued stage, 0 for each other
abbrev queued_one : Stage → ℕ
queued_one stage = if is_queued stage then 1 else 0

queued-one : (s : Submission) (xs : List Submission) → queued_count (s ∷ xs) ≡ queued_one s.stage + queued_count xs
queued-one s xs = by_test (is_queued s.stage)
  where
    by_test : (b : Bool) → length (cond b (s ∷ queued_among xs) (queued_among xs)) ≡ (if b then 1 else 0) + queued_count xs
    by_test true = omega arith
    by_test false = omega arith

-- a submit that has come further changes the two numbers so
pub record NumbersChange (old new : List Submission) (before after : ℕ) : Type 0 where
  pub queued : queued_count new + before ≡ queued_count old + after
  pub length : length new ≡ length old

numbers-staged : (submits : List Submission) (place : ℕ) (stage : Stage) (s : Submission) → submit_at submits place ≡ Some s
    → NumbersChange submits (staged place stage submits) (queued_one s.stage) (queued_one stage)
numbers-staged submits place stage s found =
    let h = restaged place stage submits s found in
    let t : Submission = record s { stage = stage } in
    let a = queued-append h.front (s ∷ h.back) in
    let b = queued-append h.front (t ∷ h.back) in
    let d = queued-one s h.back in
    let e = queued-one t h.back in
    let f = length-append h.front (s ∷ h.back) in
    let g = length-append h.front (t ∷ h.back) in
    let old : queued_count submits ≡ queued_count (h.front ++ s ∷ h.back) = ap queued_count h.before in
    let new : queued_count (staged place stage submits) ≡ queued_count (h.front ++ t ∷ h.back) = ap queued_count h.after in
    let old_length : length submits ≡ length (h.front ++ s ∷ h.back) = ap length h.before in
    let new_length : length (staged place stage submits) ≡ length (h.front ++ t ∷ h.back) = ap length h.after in
    record { queued = omega arith; length = omega arith }

-- entries so far, open claims and what is queued are all submits
abbrev AreAll : ℕ → World → Type 0
AreAll n w = n + (length w.claims + queued_count w.submits) ≡ length w.submits

posted-count : (posted : ℕ) (stage : Stage) → is_posted_at posted stage ≡ true → queued_one stage ≡ 0
posted-count posted Queued e = absurd (true≢false (sym e))
posted-count posted Working e = refl
posted-count posted (Posted place) e = refl
posted-count posted Taken e = refl

queued-count : (stage : Stage) → is_queued stage ≡ true → queued_one stage ≡ 1
queued-count stage e = ap (λ (b : Bool). if b then 1 else 0) e

length-without : (place : ℕ) (claims : List OpenClaim) (claim : OpenClaim) → claim_at claims place ≡ Some claim → length (without_claim place claims) + 1 ≡ length claims
length-without place [] claim found = absurd (none-some claim found)
length-without place (x ∷ claims) claim found = by_test (x.place == place) found (length-without place claims claim)
  where
    by_test : (b : Bool) → cond b (Some x) (claim_at claims place) ≡ Some claim → (claim_at claims place ≡ Some claim → length (without_claim place claims) + 1 ≡ length claims)
        → length (if b then claims else x ∷ without_claim place claims) + 1 ≡ length (x ∷ claims)
    by_test true found later = omega arith
    by_test false found later = let h = later found in omega arith

-- the numbers of entries, open claims and queued commands after an allowed event
all-step : (c : Configuration) (commands n : ℕ) (w : World) (e : Event) → IsLinked w → AreAll n w → IsAllowedIn c commands w e → AreAll (n + length (entries_by w e)) (world_after c w e)
all-step c commands n w (event.Submit by cid ordinal cmd) linked all allowed =
    let s : Submission = record { request = request_of w by cid ordinal cmd; stage = Queued } in
    let a = queued-append w.submits (s ∷ []) in
    let b = length-append w.submits (s ∷ []) in
    omega arith
all-step c commands n w (event.Claim by host ordinal sent) linked all allowed =
    let found = some-and (λ (s : Submission). MayClaim c w by host ordinal s) (submit_at w.submits sent) allowed in
    let s : Submission = found.0 in
    let at : s.request.place ≡ sent = submit-place w.submits sent s found.1 in
    let h = numbers-staged w.submits s.request.place Working s (ap (λ (p : ℕ). submit_at w.submits p) at ∙ found.1) in
    let one = queued-count s.stage found.2.turn.queued in
    let longer = length-append w.claims (claim_of c w by s.request ∷ []) in
    subst (λ (o : Option Submission). AreAll (n + 0) (with_claim c w by o)) (sym found.1)
    (let numbers : n + 0 + (length (w.claims ++ claim_of c w by s.request ∷ []) + queued_count (staged s.request.place Working w.submits))
    ≡ length (staged s.request.place Working w.submits) = (let q = h.queued in let l = h.length in omega arith) in numbers)
all-step c commands n w (event.Finish by place answer) linked all allowed =
    let found = some-and (λ (x : OpenClaim). MayFinish c by answer x) (claim_at w.claims place) allowed in
    let claim : OpenClaim = found.0 in
    let at : claim.place ≡ place = claim-place w.claims place claim found.1 in
    let own : ClaimLinked w claim = found-each (ClaimLinked w) _ w.claims claim linked.claims found.1 in
    let h = numbers-staged w.submits claim.request.place (Posted w.count) (Works claim.request) own.submit in
    let fewer = length-without claim.place w.claims claim (ap (λ (p : ℕ). claim_at w.claims p) at ∙ found.1) in
    subst (λ (o : Option OpenClaim). AreAll (n + length (entry_if w.count (option_map (λ (x : OpenClaim). x.request.place) o))) (with_finish c w o)) (sym found.1)
    (let numbers : n + 1 + (length (without_claim claim.place w.claims) + queued_count (staged claim.request.place (Posted w.count) w.submits))
    ≡ length (staged claim.request.place (Posted w.count) w.submits) = (let q = h.queued in let l = h.length in omega arith) in numbers)
all-step c commands n w (event.Do by host ordinal sent answer aborts) linked all allowed =
    let found = some-and (λ (s : Submission). MayDo c w by host ordinal answer aborts s) (submit_at w.submits sent) allowed in
    let s : Submission = found.0 in
    let at : s.request.place ≡ sent = submit-place w.submits sent s found.1 in
    let here : submit_at w.submits s.request.place ≡ Some s = ap (λ (p : ℕ). submit_at w.submits p) at ∙ found.1 in
    let h = numbers-staged w.submits s.request.place (Posted w.count) s here in
    let one = queued-count s.stage found.2.turn.queued in
    subst (λ (o : Option Submission). AreAll (n + length (entry_of w.count sent ∷ entry_if w.count aborts)) (with_done c w answer aborts o)) (sym found.1)
    (by_aborts s here found.2.withdraws aborts refl (let q = h.queued in let l = h.length in omega arith) h.length)
  where
    by_aborts : (s : Submission) → submit_at w.submits s.request.place ≡ Some s → aborts ≡ withdrawn_place w.submits s.request → (o : Option ℕ) → aborts ≡ o
        → n + (length w.claims + queued_count (staged s.request.place (Posted w.count) w.submits)) + 1 ≡ length w.submits
        → length (staged s.request.place (Posted w.count) w.submits) ≡ length w.submits
        → AreAll (n + length (entry_of w.count sent ∷ entry_if w.count o)) (with_done c w answer o (Some s))
    by_aborts s here withdraws None e numbers same =
        (let sum : n + 1 + (length w.claims + queued_count (staged s.request.place (Posted w.count) w.submits))
        ≡ length (staged s.request.place (Posted w.count) w.submits) = omega arith in sum)
    by_aborts s here withdraws (Some place) e numbers same =
        let xs : List Submission = staged s.request.place (Posted w.count) w.submits in
        let other = withdrawn-queued w.submits s.request place (sym withdraws ∙ e) in
        let x : Submission = other.0 in
        let earlier : place < s.request.place =
        found-each (λ (y : Submission). NamesEarlier y.request) _ w.submits s (each-request NamesEarlier w.submits linked.names) here place other.3 in
        let there : submit_at xs place ≡ Some x = staged-other s.request.place (Posted w.count) w.submits place (λ same. omega arith) ∙ other.1 in
        let h = numbers-staged xs place (Posted w.count) x there in
        let one = queued-count x.stage other.2 in
        (let sum : n + 2 + (length w.claims + queued_count (staged place (Posted w.count) xs)) ≡ length (staged place (Posted w.count) xs) =
        (let q = h.queued in let l = h.length in omega arith) in sum)
all-step c commands n w (event.Take by cid posted) linked all allowed =
    let found = some-and (λ (s : Submission). is_posted_at posted s.stage ≡ true) (outstanding_under w.submits by cid) allowed in
    let s : Submission = found.0 in
    let here : submit_at w.submits s.request.place ≡ Some s =
    under-each (λ (x : Submission). submit_at w.submits x.request.place ≡ Some x) w.submits by cid s (self-found w linked) found.1 in
    let h = numbers-staged w.submits s.request.place Taken s here in
    let none = posted-count posted s.stage found.2 in
    subst (λ (o : Option Submission). AreAll (n + 0) (with_take w o)) (sym found.1)
    (let numbers : n + 0 + (length w.claims + queued_count (staged s.request.place Taken w.submits)) ≡ length (staged s.request.place Taken w.submits) =
    (let q = h.queued in let l = h.length in omega arith) in numbers)
all-step c commands n w (event.Rest by) linked all allowed = (let numbers : n + 0 + (length w.claims + queued_count w.submits) ≡ length w.submits = omega arith in numbers)

all-from : (c : Configuration) (commands n : ℕ) (w : World) (trail : Trail) → IsLinked w → AreAll n w → IsLawfulFrom c commands w trail
    → AreAll (n + length (entries_from c w trail)) (world_from c w trail)
all-from c commands n w [] linked all lawful = (let numbers : n + 0 + (length w.claims + queued_count w.submits) ≡ length w.submits = omega arith in numbers)
all-from c commands n w (e ∷ trail) linked all lawful =
    let longer = length-append (entries_by w e) (entries_from c (world_after c w e) trail) in
    let h = all-from c commands (n + length (entries_by w e)) (world_after c w e) trail (linked-step c commands w e linked lawful.0) (all-step c commands n w e linked all lawful.0) lawful.1 in
    subst (λ (m : ℕ). AreAll m (world_from c (world_after c w e) trail)) (omega arith) h

pub few-parts : (c : Configuration) (commands : ℕ) (p : Parts) (trail : Trail) (by : ℕ) → StandFor c commands p trail → IsParty by → is_idle (world_of c trail) by ≡ true
    → (length p.claims < 2 * MAX_HOSTS) × (length p.kept < 2 * MAX_HOSTS)
few-parts c commands p trail by stand party idle =
    let few = few-claims c commands trail by stand.lawful party idle in
    let a : length p.claims ≡ length (world_of c trail).claims = ap length stand.ties.claims ∙ length-shown as_places (world_of c trail).claims in
    let b : length p.kept ≡ length (world_of c trail).claims = ap length stand.ties.kept ∙ length-shown (as_kept c) (world_of c trail).claims in
    (omega arith, omega arith)

-- entries, open claims and what waits are all submits, of which there are at most so many
pub all-submits : (c : Configuration) (commands : ℕ) (p : Parts) (trail : Trail) → StandFor c commands p trail
    → (length p.entries + (length p.claims + length p.waiting) ≡ p.submitted) × (p.submitted ≤ commands)
all-submits c commands p trail stand =
    let w : World = world_of c trail in
    let t = stand.ties in
    let all = all-from c commands 0 (first_world c) trail (linked-first c) refl stand.lawful in
    let entries : length p.entries ≡ length (entries_of c trail) = ap length stand.entries in
    let claims : length p.claims ≡ length w.claims = ap length t.claims ∙ length-shown as_places w.claims in
    let waiting : length p.waiting ≡ queued_count w.submits = ap length t.waiting ∙ length-shown as_waiting (queued_among w.submits) in
    let few = few-submits c commands trail stand.lawful in
    let submitted = t.submitted in
    (omega arith, omega arith)

filter-shorter : {X : Type 0} (test : X → Bool) (xs : List X) → length (filter test xs) ≤ length xs
filter-shorter test [] = omega arith
filter-shorter test (x ∷ xs) = by_test (test x) (filter-shorter test xs)
  where
    by_test : (b : Bool) → length (filter test xs) ≤ length xs → length (cond b (x ∷ filter test xs) (filter test xs)) ≤ length (x ∷ xs)
    by_test true less = omega arith
    by_test false less = omega arith

pub ordinals-below : (c : Configuration) (commands : ℕ) (p : Parts) (trail : Trail) (host : ℕ) → StandFor c commands p trail → p.ordinals host ≤ p.submitted + 1
ordinals-below c commands p trail host stand =
    let few = filter-shorter (λ (s : Submission). s.request.host == host) (world_of c trail).submits in
    let ordinal = stand.ties.ordinals host in
    let submitted = stand.ties.submitted in
    omega arith
