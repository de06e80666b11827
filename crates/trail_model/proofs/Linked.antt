-- Submits and open claims of a lawful trail belong together.
use Rattle.std.proofs.Common.{◌≡◌, ◌≢◌, ℕ, ◌+◌, ◌<◌, ◌≤◌, ◌==◌, Bool, true, false, not, cond, List, [], ◌∷◌, ◌++◌, filter, Option, Some, None, option_map, is_some, refl, sym, ap, subst, ◌∙◌, inl, inr, ◌⊎◌, ⊎_elim, arith, if◌then◌else◌}
use Rattle.std.specs.List.{AllByRecursion}
use Rattle.std.proofs.lemmas.Bool.{true≢false}
use Rattle.cp_base.specs.Configuration.{Configuration}
use Rattle.cp_base.specs.declared.commands.Command.{Command}
use Rattle.cp_base.specs.declared.commands.Command.TheVariants as command
use Rattle.trail_model.specs.Each.{EachTwo}
use Rattle.trail_model.specs.Linked.{AreInOrder, ClaimLinked, IsLinked, NamesEarlier, claim_for, most_events, most_events_of, requests_of, rest_events}
use Rattle.trail_model.specs.World.{OpenClaim, Posted, Queued, Request, Stage, Submission, Taken, Working, World, claim_by, is_posted_at, is_queued, is_taken_off, is_working, outstanding_of, outstanding_under, request_of, staged, submit_at, submits_of, world_after}
use Rattle.trail_model.specs.declared.events.Event.TheVariants as event
use Rattle.trail_model.proofs.NewSets.{each-filter}
use Rattle.trail_model.proofs.Submits.{Restaged, each-append, each-weaker, eqb-same, find-new, find-push, found-each, found-test, none-some, other-eqb, push-found, same-eqb, some-same, staged-other, two-push}

-- ---- a submit finds itself

each-self : (submits : List Submission) → EachTwo (λ (a b : Request). a.place < b.place) (requests_of submits)
    → AllByRecursion (λ (s : Submission). submit_at submits s.request.place ≡ Some s) submits
each-self [] all = tt
each-self (x ∷ submits) all = (
  ap (λ (b : Bool). cond b (Some x) (submit_at submits x.request.place)) (same-eqb x.request.place x.request.place refl),
  behind submits submits all.0 (each-self submits all.1),
)
  where
    behind : (xs ys : List Submission) → AllByRecursion (λ (r : Request). x.request.place < r.place) (requests_of xs)
        → AllByRecursion (λ (s : Submission). submit_at ys s.request.place ≡ Some s) xs
        → AllByRecursion (λ (s : Submission). cond (x.request.place == s.request.place) (Some x) (submit_at ys s.request.place) ≡ Some s) xs
    behind [] ys later found = tt
    behind (s ∷ xs) ys later found = (
      ap (λ (b : Bool). cond b (Some x) (submit_at ys s.request.place)) (other-eqb x.request.place s.request.place (λ e. let less = later.0 in omega arith)) ∙ found.0,
      behind xs ys later.1 found.1,
    )

-- each submit is the one that is found at its place
pub self-found : (w : World) → IsLinked w → AllByRecursion (λ (s : Submission). submit_at w.submits s.request.place ≡ Some s) w.submits
self-found w linked = each-self w.submits linked.places.ascending

-- the outstanding command under an identifier, with all that holds of it
pub record FoundUnder (submits : List Submission) (host cid : ℕ) (s : Submission) : Type 0 where
  pub same_host : s.request.host ≡ host
  pub same_cid : s.request.cid ≡ cid
  pub outstanding : is_taken_off s.stage ≡ false

pub filter-each : {A : Type 0} (test : A → Bool) (xs : List A) → AllByRecursion (λ (x : A). test x ≡ true) (filter test xs)
filter-each test [] = tt
filter-each test (x ∷ xs) = by_test (test x) refl (filter-each test xs)
  where
    by_test : (b : Bool) → test x ≡ b → AllByRecursion (λ y. test y ≡ true) (filter test xs) → AllByRecursion (λ y. test y ≡ true) (cond b (x ∷ filter test xs) (filter test xs))
    by_test true e later = (e, later)
    by_test false e later = later

not-true : (b : Bool) → not b ≡ true → b ≡ false
not-true true e = absurd (true≢false (sym e))
not-true false e = refl

-- what holds of each submit holds of the one that is found
pub under-each : (P : Submission → Type 0) (submits : List Submission) (host cid : ℕ) (s : Submission) → AllByRecursion P submits → outstanding_under submits host cid ≡ Some s → P s
under-each P submits host cid s all e = found-each P _ (outstanding_of submits host) s (each-filter P _ (submits_of submits host) (each-filter P _ submits all)) e

pub found-under : (submits : List Submission) (host cid : ℕ) (s : Submission) → outstanding_under submits host cid ≡ Some s → FoundUnder submits host cid s
found-under submits host cid s e = record {
  same_host = eqb-same s.request.host host
      (found-each (λ (x : Submission). (x.request.host == host) ≡ true) _ (outstanding_of submits host) s
      (each-filter (λ (x : Submission). (x.request.host == host) ≡ true) _ (submits_of submits host) (filter-each (λ (x : Submission). x.request.host == host) submits)) e);
  same_cid = eqb-same s.request.cid cid (found-test (λ (x : Submission). x.request.cid == cid) (outstanding_of submits host) s e);
  outstanding = not-true (is_taken_off s.stage)
      (found-each (λ (x : Submission). not (is_taken_off x.stage) ≡ true) _ (outstanding_of submits host) s
      (filter-each (λ (x : Submission). not (is_taken_off x.stage)) (submits_of submits host)) e);
}

-- ---- weights

pub weight-append : (xs ys : List Submission) → most_events_of (xs ++ ys) ≡ most_events_of xs + most_events_of ys
weight-append [] ys = omega arith
weight-append (x ∷ xs) ys = let h = weight-append xs ys in omega arith

pub weight-restaged : (s : Submission) (stage : Stage) (old new : List Submission) → Restaged s stage old new
    → most_events_of new + most_events s.stage ≡ most_events_of old + most_events stage
weight-restaged s stage old new h =
    let t : Submission = record s { stage = stage } in
    let a : most_events_of old ≡ most_events_of h.front + (most_events s.stage + most_events_of h.back) = ap most_events_of h.before ∙ weight-append h.front (s ∷ h.back) in
    let b : most_events_of new ≡ most_events_of h.front + (most_events stage + most_events_of h.back) = ap most_events_of h.after ∙ weight-append h.front (t ∷ h.back) in
    omega arith

pub weight-queued : (stage : Stage) → is_queued stage ≡ true → most_events stage ≡ 2
weight-queued Queued e = refl
weight-queued Working e = absurd (true≢false (sym e))
weight-queued (Posted p) e = absurd (true≢false (sym e))
weight-queued Taken e = absurd (true≢false (sym e))

pub weight-posted : (posted : ℕ) (stage : Stage) → is_posted_at posted stage ≡ true → most_events stage ≡ 4
weight-posted posted Queued e = absurd (true≢false (sym e))
weight-posted posted Working e = absurd (true≢false (sym e))
weight-posted posted (Posted p) e = refl
weight-posted posted Taken e = absurd (true≢false (sym e))

pub queued-idle : (stage : Stage) → is_queued stage ≡ true → is_working stage ≡ false
queued-idle Queued e = refl
queued-idle Working e = absurd (true≢false (sym e))
queued-idle (Posted p) e = refl
queued-idle Taken e = refl

pub posted-idle : (posted : ℕ) (stage : Stage) → is_posted_at posted stage ≡ true → is_working stage ≡ false
posted-idle posted Queued e = refl
posted-idle posted Working e = absurd (true≢false (sym e))
posted-idle posted (Posted p) e = refl
posted-idle posted Taken e = refl

-- what a stage is after it was set
pub staged-stage : (place : ℕ) (stage : Stage) (submits : List Submission) (x : Submission) → submit_at (staged place stage submits) place ≡ Some x → x.stage ≡ stage
staged-stage place stage [] x e = absurd (none-some x e)
staged-stage place stage (y ∷ submits) x e = by_test (staged-stage place stage submits x) (y.request.place == place) refl e
  where
    by_test : (submit_at (staged place stage submits) place ≡ Some x → x.stage ≡ stage) → (b : Bool) → (y.request.place == place) ≡ b
        → submit_at (if b then record y { stage = stage } ∷ submits else y ∷ staged place stage submits) place ≡ Some x → x.stage ≡ stage
    by_test later true h e =
        let t : Submission = record y { stage = stage } in
        let found : Some t ≡ Some x = sym (ap (λ (b : Bool). cond b (Some t) (submit_at submits place)) h) ∙ e in
        sym (ap (λ (z : Submission). z.stage) (some-same t x found))
    by_test later false h e = later (sym (ap (λ (b : Bool). cond b (Some y) (submit_at (staged place stage submits) place)) h) ∙ e)

-- ---- each event keeps claims and submits together

abbrev pub Works : Request → Submission
Works request = record { request = request; stage = Working }

-- a submit that is not being worked on is not that of an open claim
pub claim-elsewhere : (submits : List Submission) (claim : OpenClaim) (place : ℕ) (s : Submission) → submit_at submits claim.request.place ≡ Some (Works claim.request)
    → submit_at submits place ≡ Some s → is_working s.stage ≡ false → claim.request.place ≡ place → ⊥
claim-elsewhere submits claim place s works found idle same =
    let e : Works claim.request ≡ s = some-same (Works claim.request) s (sym works ∙ (ap (λ (p : ℕ). submit_at submits p) same ∙ found)) in
    true≢false (ap (λ (x : Submission). is_working x.stage) e ∙ idle)

-- the look-up of the submits of open claims after another submit has come further
pub claims-staged : (old new : World) (place : ℕ) (stage : Stage) (s : Submission) → new.submits ≡ staged place stage old.submits → old.count < new.count
    → submit_at old.submits place ≡ Some s → is_working s.stage ≡ false → (claims : List OpenClaim) → AllByRecursion (ClaimLinked old) claims → AllByRecursion (ClaimLinked new) claims
claims-staged old new place stage s same later found idle [] all = tt
claims-staged old new place stage s same later found idle (claim ∷ claims) all = (
  record {
    place = (let below = all.0.place in omega arith);
    submit = ap (λ (xs : List Submission). submit_at xs claim.request.place) same
        ∙ (staged-other place stage old.submits claim.request.place (claim-elsewhere old.submits claim place s all.0.submit found idle) ∙ all.0.submit);
  },
  claims-staged old new place stage s same later found idle claims all.1,
)

pub order-later : (count : ℕ) (requests : List Request) → AreInOrder count requests → AreInOrder (count + 1) requests
order-later count requests order = record {
  below = each-weaker (λ (r : Request). r.place < count) (λ (r : Request). r.place < count + 1) (λ r less. omega arith) requests order.below;
  ascending = order.ascending;
}

pub same-requests : (count : ℕ) (old new : List Submission) → requests_of new ≡ requests_of old → AreInOrder count (requests_of old) → AreInOrder (count + 1) (requests_of new)
same-requests count old new e order = subst (λ (rs : List Request). AreInOrder (count + 1) rs) (sym e) (order-later count (requests_of old) order)

pub requests-push : (submits : List Submission) (s : Submission) → requests_of (submits ++ s ∷ []) ≡ requests_of submits ++ s.request ∷ []
requests-push [] s = refl
requests-push (x ∷ submits) s = ap (λ (rs : List Request). x.request ∷ rs) (requests-push submits s)

-- ---- a submit

pub each-request : (P : Request → Type 0) (submits : List Submission) → AllByRecursion P (requests_of submits) → AllByRecursion (λ (s : Submission). P s.request) submits
each-request P [] all = tt
each-request P (x ∷ submits) all = (all.0, each-request P submits all.1)

named-earlier : (w : World) (host cid : ℕ) (cmd : Command) (ordinal : ℕ) → IsLinked w → NamesEarlier (request_of w host cid ordinal cmd)
named-earlier w host cid (command.Abort other) ordinal linked place e = by_found (outstanding_under w.submits host other) refl e
  where
    by_found : (o : Option Submission) → outstanding_under w.submits host other ≡ o → option_map (λ (s : Submission). s.request.place) o ≡ Some place → place < w.count
    by_found None found e = absurd (none-some place e)
    by_found (Some s) found e =
        let below = under-each (λ (x : Submission). x.request.place < w.count) w.submits host other s (each-request (λ (r : Request). r.place < w.count) w.submits linked.places.below) found in
        let same : s.request.place ≡ place = some-same s.request.place place e in
        omega arith
named-earlier w host cid cmd ordinal linked place e = absurd (none-some place e)

pub submit-linked : (c : Configuration) (w : World) (by cid ordinal : ℕ) (cmd : Command) → IsLinked w → IsLinked (world_after c w (event.Submit by cid ordinal cmd))
submit-linked c w by cid ordinal cmd linked =
    let new : Submission = record { request = request_of w by cid ordinal cmd; stage = Queued } in
    record {
      places = subst (λ (rs : List Request). AreInOrder (w.count + 1) rs) (sym (requests-push w.submits new)) (record {
        below = each-append (λ (r : Request). r.place < w.count + 1) (requests_of w.submits) (new.request ∷ []) (order-later w.count (requests_of w.submits) linked.places).below (omega arith, tt);
        ascending = two-push (λ (a b : Request). a.place < b.place) (requests_of w.submits) new.request linked.places.ascending linked.places.below;
      });
      names = subst (λ (rs : List Request). AllByRecursion NamesEarlier rs) (sym (requests-push w.submits new))
          (each-append NamesEarlier (requests_of w.submits) (new.request ∷ []) linked.names (named-earlier w by cid cmd ordinal linked, tt));
      claims = each-weaker (ClaimLinked w) (ClaimLinked (world_after c w (event.Submit by cid ordinal cmd)))
          (λ claim h. record { place = (let below = h.place in omega arith); submit = find-push _ w.submits new (Works claim.request) h.submit }) w.claims linked.claims;
      different = linked.different;
      working = λ place s found works. ⊎_elim (λ (old : submit_at w.submits place ≡ Some s). linked.working place s old works)
          (λ (fresh : (new ≡ s) × ((new.request.place == place) ≡ true)). absurd (true≢false (sym works ∙ sym (ap (λ (x : Submission). is_working x.stage) fresh.0))))
          (push-found (λ (x : Submission). x.request.place == place) w.submits new s found);
      events = (let a = linked.events in let b = weight-append w.submits (new ∷ []) in let r = rest-most w.at_rest in omega arith);
    }
  where
    rest-most : (b : Bool) → rest_events b ≤ 1
    rest-most true = omega arith
    rest-most false = omega arith

-- ---- a claim

pub idle-claims : (claims : List OpenClaim) (by : ℕ) → claim_by claims by ≡ None → AllByRecursion (λ (claim : OpenClaim). claim.party ≢ by) claims
idle-claims [] by e = tt
idle-claims (x ∷ claims) by e = by_test (x.party == by) refl e (idle-claims claims by)
  where
    by_test : (b : Bool) → (x.party == by) ≡ b → cond b (Some x) (claim_by claims by) ≡ None → (claim_by claims by ≡ None → AllByRecursion (λ (claim : OpenClaim). claim.party ≢ by) claims)
        → (x.party ≢ by) × AllByRecursion (λ (claim : OpenClaim). claim.party ≢ by) claims
    by_test true h e later = absurd (none-some x (sym e))
    by_test false h e later = ((λ same. true≢false (sym (same-eqb x.party by same) ∙ h)), later e)

pub some-true : {A : Type 0} (o : Option A) (x : A) → o ≡ Some x → is_some o ≡ true
some-true o x e = ap is_some e

pub true-some : {A : Type 0} (o : Option A) → is_some o ≡ true → (x : A) × (o ≡ Some x)
true-some None e = absurd (true≢false (sym e))
true-some (Some x) e = (x, refl)

pub claim-for-push : (claims : List OpenClaim) (new : OpenClaim) (place : ℕ) → is_some (claim_for claims place) ≡ true → is_some (claim_for (claims ++ new ∷ []) place) ≡ true
claim-for-push claims new place e =
    let found = true-some (claim_for claims place) e in
    some-true (claim_for (claims ++ new ∷ []) place) found.0 (find-push _ claims new found.0 found.1)

pub claim-for-new : (claims : List OpenClaim) (new : OpenClaim) (place : ℕ) → new.request.place ≡ place → is_some (claim_for (claims ++ new ∷ []) place) ≡ true
claim-for-new claims new place same = by_found (claim_for claims place) refl
  where
    by_found : (o : Option OpenClaim) → claim_for claims place ≡ o → is_some (claim_for (claims ++ new ∷ []) place) ≡ true
    by_found None e = some-true (claim_for (claims ++ new ∷ []) place) new (find-new _ claims new e (same-eqb new.request.place place same))
    by_found (Some x) e = some-true (claim_for (claims ++ new ∷ []) place) x (find-push _ claims new x e)

pub same-cases : (a b : ℕ) → (a ≡ b) ⊎ (a ≡ b → ⊥)
same-cases a b = by_test (a == b) refl
  where
    by_test : (t : Bool) → (a == b) ≡ t → (a ≡ b) ⊎ (a ≡ b → ⊥)
    by_test true e = inl (eqb-same a b e)
    by_test false e = inr (λ same. true≢false (sym (same-eqb a b same) ∙ e))
