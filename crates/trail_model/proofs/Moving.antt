-- Submits and open claims belong together after a claim, a finish, a command done at once, a take and a rest.
use Rattle.std.proofs.Common.{◌≡◌, ◌≢◌, ℕ, ◌+◌, ◌<◌, ◌==◌, Bool, true, false, cond, List, [], ◌∷◌, ◌++◌, Option, Some, None, is_none, is_some, refl, sym, ap, subst, ◌∙◌, ⊎_elim, arith, if◌then◌else◌}
use Rattle.std.specs.List.{AllByRecursion}
use Rattle.std.specs.Prelude.{option_and_then}
use Rattle.std.proofs.lemmas.Bool.{true≢false}
use Rattle.cp_base.specs.Answer.{Answer}
use Rattle.cp_base.specs.Configuration.{Configuration}
use Rattle.trail_model.specs.Each.{EachTwo}
use Rattle.trail_model.specs.Lawful.{IsAllowedIn, IsLawful, IsLawfulFrom, MayClaim, MayDo, MayFinish, Trail, world_from, world_of}
use Rattle.trail_model.specs.Linked.{AreDifferent, AreInOrder, ClaimLinked, IsLinked, NamesEarlier, claim_for, most_events_of, requests_of, rest_events}
use Rattle.trail_model.specs.World.{Completion, OpenClaim, Posted, Request, Stage, Submission, Taken, Working, World, claim_at, claim_by, claim_of, first_world, is_posted_at, is_queued, is_working, outstanding_under, staged, submit_at, with_claim, with_done, with_finish, with_take, withdrawn_place, without_claim, world_after}
use Rattle.trail_model.specs.declared.events.Event.{Event}
use Rattle.trail_model.specs.declared.events.Event.TheVariants as event
use Rattle.trail_model.proofs.Linked.{Works, claim-elsewhere, claim-for-new, claim-for-push, claims-staged, idle-claims, order-later, posted-idle, queued-idle, same-cases, same-requests, self-found, staged-stage, submit-linked, under-each, weight-posted, weight-queued, weight-restaged}
use Rattle.trail_model.proofs.Sound.{is-none, some-and}
use Rattle.trail_model.proofs.Submits.{claim-place, each-append, each-both, each-weaker, found-each, none-some, other-eqb, restaged, some-same, staged-at, staged-other, staged-requests, submit-place, two-push, without-each, without-related, without-two}

-- a world one event later, with this history
abbrev later : World → World → List Completion → World
later w moved history = record moved { history = history; count = w.count + 1 }

-- ---- a claim

claim-linked : (c : Configuration) (w : World) (by place : ℕ) (s : Submission) (history : List Completion) → IsLinked w → submit_at w.submits place ≡ Some s
    → is_queued s.stage ≡ true → is_none (claim_by w.claims by) ≡ true → IsLinked (later w (with_claim c w by (Some s)) history)
claim-linked c w by place s history linked found queued idle =
    let at : s.request.place ≡ place = submit-place w.submits place s found in
    let here : submit_at w.submits s.request.place ≡ Some s = subst (λ (p : ℕ). submit_at w.submits p ≡ Some s) (sym at) found in
    let new : OpenClaim = claim_of c w by s.request in
    let next : World = later w (with_claim c w by (Some s)) history in
    let unworked : is_working s.stage ≡ false = queued-idle s.stage queued in
    let others : AllByRecursion (ClaimLinked next) w.claims =
    claims-staged w next s.request.place Working s refl (omega arith) here unworked w.claims linked.claims in
    let own : ClaimLinked next new = record { place = omega arith; submit = staged-at s.request.place Working w.submits s here } in
    record {
      places = same-requests w.count w.submits (staged s.request.place Working w.submits) (staged-requests s.request.place Working w.submits) linked.places;
      names = subst (λ (rs : List Request). AllByRecursion NamesEarlier rs) (sym (staged-requests s.request.place Working w.submits)) linked.names;
      claims = each-append (ClaimLinked next) w.claims (new ∷ []) others (own, tt);
      different = two-push AreDifferent w.claims new linked.different
          (each-weaker (λ (claim : OpenClaim). ClaimLinked w claim × (claim.party ≢ by)) (λ (claim : OpenClaim). AreDifferent claim new)
          (λ claim both. record {
            places = λ e. (let below = both.0.place in omega arith);
            parties = both.1;
            submits = claim-elsewhere w.submits claim s.request.place s both.0.submit here unworked;
          }) w.claims (each-both (ClaimLinked w) (λ (claim : OpenClaim). claim.party ≢ by) w.claims linked.claims (idle-claims w.claims by (is-none (claim_by w.claims by) idle))));
      working = λ q x x_found works. ⊎_elim {C = is_some (claim_for (w.claims ++ new ∷ []) q) ≡ true}
          (λ (same : q ≡ s.request.place). claim-for-new w.claims new q (sym same))
          (λ (other : q ≡ s.request.place → ⊥). claim-for-push w.claims new q
          (linked.working q x (sym (staged-other s.request.place Working w.submits q other) ∙ x_found) works))
          (same-cases q s.request.place);
      events =
          (let a = linked.events in
          let b = weight-restaged s Working w.submits (staged s.request.place Working w.submits) (restaged s.request.place Working w.submits s here) in
          let d = weight-queued s.stage queued in
          omega arith);
    }

-- ---- a finish

claim-for-without : (claims : List OpenClaim) (place q : ℕ) (claim : OpenClaim) → claim_at claims place ≡ Some claim → (claim.request.place ≡ q → ⊥)
    → is_some (claim_for claims q) ≡ true → is_some (claim_for (without_claim place claims) q) ≡ true
claim-for-without [] place q claim found other e = absurd (none-some claim found)
claim-for-without (x ∷ claims) place q claim found other e = by_test (x.place == place) found (claim-for-without claims place q claim)
  where
    by_second : (b : Bool) → is_some (cond b (Some x) (claim_for claims q)) ≡ true → (is_some (claim_for claims q) ≡ true → is_some (claim_for (without_claim place claims) q) ≡ true)
        → is_some (cond b (Some x) (claim_for (without_claim place claims) q)) ≡ true
    by_second true h later = refl
    by_second false h later = later h

    first : Some x ≡ Some claim → is_some (claim_for claims q) ≡ true
    first same =
        let no : (x.request.place == q) ≡ false = other-eqb x.request.place q (λ h. other (ap (λ (y : OpenClaim). y.request.place) (sym (some-same x claim same)) ∙ h)) in
        sym (ap (λ (b : Bool). is_some (cond b (Some x) (claim_for claims q))) no) ∙ e

    by_test : (b : Bool) → cond b (Some x) (claim_at claims place) ≡ Some claim
        → (claim_at claims place ≡ Some claim → (claim.request.place ≡ q → ⊥) → is_some (claim_for claims q) ≡ true → is_some (claim_for (without_claim place claims) q) ≡ true)
        → is_some (claim_for (if b then claims else x ∷ without_claim place claims) q) ≡ true
    by_test true found later = first found
    by_test false found later = by_second (x.request.place == q) e (later found other)

swap-different : (a b : OpenClaim) → AreDifferent a b → AreDifferent b a
swap-different a b h = record { places = λ e. h.places (sym e); parties = λ e. h.parties (sym e); submits = λ e. h.submits (sym e) }

finish-linked : (c : Configuration) (w : World) (claim : OpenClaim) (history : List Completion) → IsLinked w → claim_at w.claims claim.place ≡ Some claim
    → IsLinked (later w (with_finish c w (Some claim)) history)
finish-linked c w claim history linked found =
    let own : ClaimLinked w claim = found-each (ClaimLinked w) _ w.claims claim linked.claims found in
    let posted : Stage = Posted w.count in
    let place : ℕ = claim.request.place in
    let next : World = later w (with_finish c w (Some claim)) history in
    record {
      places = same-requests w.count w.submits (staged place posted w.submits) (staged-requests place posted w.submits) linked.places;
      names = subst (λ (rs : List Request). AllByRecursion NamesEarlier rs) (sym (staged-requests place posted w.submits)) linked.names;
      claims = each-weaker (λ (x : OpenClaim). AreDifferent claim x × ClaimLinked w x) (ClaimLinked next)
          (λ x both. record {
            place = (let below = both.1.place in omega arith);
            submit = staged-other place posted w.submits x.request.place (λ e. both.0.submits (sym e)) ∙ both.1.submit;
          }) (without_claim claim.place w.claims)
          (each-both (AreDifferent claim) (ClaimLinked w) (without_claim claim.place w.claims)
          (without-related AreDifferent swap-different claim.place w.claims claim linked.different found) (without-each (ClaimLinked w) claim.place w.claims linked.claims));
      different = without-two AreDifferent claim.place w.claims linked.different;
      working = λ q x x_found works. ⊎_elim {C = is_some (claim_for (without_claim claim.place w.claims) q) ≡ true}
          (λ (same : q ≡ place). absurd (true≢false (sym works ∙ ap is_working
          (staged-stage place posted w.submits x (subst (λ (p : ℕ). submit_at (staged place posted w.submits) p ≡ Some x) same x_found)))))
          (λ (other : q ≡ place → ⊥). claim-for-without w.claims claim.place q claim found (λ e. other (sym e))
          (linked.working q x (sym (staged-other place posted w.submits q other) ∙ x_found) works))
          (same-cases q place);
      events =
          (let a = linked.events in
          let b = weight-restaged (Works claim.request) posted w.submits (staged place posted w.submits) (restaged place posted w.submits (Works claim.request) own.submit) in
          omega arith);
    }

-- ---- a command done at once

queued-place : (submits : List Submission) (place : ℕ) (aborted : ℕ)
    → option_and_then (λ (s : Submission). if is_queued s.stage then Some place else None) (submit_at submits place) ≡ Some aborted
    → (s : Submission) × (submit_at submits aborted ≡ Some s) × (is_queued s.stage ≡ true) × (place ≡ aborted)
queued-place submits place aborted e = by_found (submit_at submits place) refl e
  where
    by_stage : (s : Submission) (b : Bool) → is_queued s.stage ≡ b → submit_at submits place ≡ Some s → (if b then Some place else None) ≡ Some aborted
        → (s : Submission) × (submit_at submits aborted ≡ Some s) × (is_queued s.stage ≡ true) × (place ≡ aborted)
    by_stage s true q found e =
        let same : place ≡ aborted = some-same place aborted e in
        (s, subst (λ (p : ℕ). submit_at submits p ≡ Some s) same found, q, same)
    by_stage s false q found e = absurd (none-some aborted e)

    by_found : (o : Option Submission) → submit_at submits place ≡ o → option_and_then (λ (s : Submission). if is_queued s.stage then Some place else None) o ≡ Some aborted
        → (s : Submission) × (submit_at submits aborted ≡ Some s) × (is_queued s.stage ≡ true) × (place ≡ aborted)
    by_found None found e = absurd (none-some aborted e)
    by_found (Some s) found e = by_stage s (is_queued s.stage) refl found e

-- what a command withdraws is queued, and is what it names
pub withdrawn-queued : (submits : List Submission) (request : Request) (aborted : ℕ) → withdrawn_place submits request ≡ Some aborted
    → (s : Submission) × (submit_at submits aborted ≡ Some s) × (is_queued s.stage ≡ true) × (request.names ≡ Some aborted)
withdrawn-queued submits request aborted e = by_names request.names refl e
  where
    by_names : (o : Option ℕ) → request.names ≡ o
        → option_and_then (λ place. option_and_then (λ (s : Submission). if is_queued s.stage then Some place else None) (submit_at submits place)) o ≡ Some aborted
        → (s : Submission) × (submit_at submits aborted ≡ Some s) × (is_queued s.stage ≡ true) × (request.names ≡ Some aborted)
    by_names None named e = absurd (none-some aborted e)
    by_names (Some place) named e =
        let h = queued-place submits place aborted e in
        (h.0, h.1, h.2, named ∙ ap (λ (p : ℕ). Some p) h.3)

-- a world in which a queued command's reply is posted
posted-linked : (w : World) (moved : World) (place : ℕ) (s : Submission) (history : List Completion) → IsLinked w → moved.claims ≡ w.claims → moved.at_rest ≡ w.at_rest
    → moved.submits ≡ staged place (Posted w.count) w.submits → submit_at w.submits place ≡ Some s → is_queued s.stage ≡ true → IsLinked (later w moved history)
posted-linked w moved place s history linked claims rest submits found queued =
    let posted : Stage = Posted w.count in
    let next : World = later w moved history in
    let requests : requests_of moved.submits ≡ requests_of w.submits = ap requests_of submits ∙ staged-requests place posted w.submits in
    record {
      places = same-requests w.count w.submits moved.submits requests linked.places;
      names = subst (λ (rs : List Request). AllByRecursion NamesEarlier rs) (sym requests) linked.names;
      claims = subst (λ (cs : List OpenClaim). AllByRecursion (ClaimLinked next) cs) (sym claims)
          (claims-staged w next place posted s submits (omega arith) found (queued-idle s.stage queued) w.claims linked.claims);
      different = subst (λ (cs : List OpenClaim). EachTwo AreDifferent cs) (sym claims) linked.different;
      working = λ q x x_found works. subst (λ (cs : List OpenClaim). is_some (claim_for cs q) ≡ true) (sym claims)
          (let x_there : submit_at (staged place posted w.submits) q ≡ Some x = subst (λ (xs : List Submission). submit_at xs q ≡ Some x) submits x_found in
          ⊎_elim {C = is_some (claim_for w.claims q) ≡ true}
          (λ (same : q ≡ place). absurd (true≢false (sym works ∙ ap is_working
          (staged-stage place posted w.submits x (subst (λ (p : ℕ). submit_at (staged place posted w.submits) p ≡ Some x) same x_there)))))
          (λ (other : q ≡ place → ⊥). linked.working q x (sym (staged-other place posted w.submits q other) ∙ x_there) works)
          (same-cases q place));
      events =
          (let a = linked.events in
          let b = weight-restaged s posted w.submits (staged place posted w.submits) (restaged place posted w.submits s found) in
          let d = weight-queued s.stage queued in
          let e : most_events_of moved.submits ≡ most_events_of (staged place posted w.submits) = ap most_events_of submits in
          let r : rest_events moved.at_rest ≡ rest_events w.at_rest = ap rest_events rest in
          omega arith);
    }

-- one more queued command's reply is posted at the same place
also-linked : (w moved : World) (place count : ℕ) (s : Submission) → IsLinked w → moved.claims ≡ w.claims → moved.at_rest ≡ w.at_rest → moved.count ≡ w.count
    → moved.submits ≡ staged place (Posted count) w.submits → submit_at w.submits place ≡ Some s → is_queued s.stage ≡ true → IsLinked moved
also-linked w moved place count s linked claims rest same_count submits found queued =
    let posted : Stage = Posted count in
    let requests : requests_of moved.submits ≡ requests_of w.submits = ap requests_of submits ∙ staged-requests place posted w.submits in
    let kept : (cs : List OpenClaim) → AllByRecursion (ClaimLinked w) cs → AllByRecursion (ClaimLinked moved) cs =
    λ cs. each-weaker (ClaimLinked w) (ClaimLinked moved) (λ claim h. record {
      place = (let below = h.place in omega arith);
      submit = ap (λ (xs : List Submission). submit_at xs claim.request.place) submits
          ∙ (staged-other place posted w.submits claim.request.place (claim-elsewhere w.submits claim place s h.submit found (queued-idle s.stage queued)) ∙ h.submit);
    }) cs in
    record {
      places = subst (λ (n : ℕ). AreInOrder n (requests_of moved.submits)) (sym same_count) (subst (λ (rs : List Request). AreInOrder w.count rs) (sym requests) linked.places);
      names = subst (λ (rs : List Request). AllByRecursion NamesEarlier rs) (sym requests) linked.names;
      claims = subst (λ (cs : List OpenClaim). AllByRecursion (ClaimLinked moved) cs) (sym claims) (kept w.claims linked.claims);
      different = subst (λ (cs : List OpenClaim). EachTwo AreDifferent cs) (sym claims) linked.different;
      working = λ q x x_found works. subst (λ (cs : List OpenClaim). is_some (claim_for cs q) ≡ true) (sym claims)
          (let x_there : submit_at (staged place posted w.submits) q ≡ Some x = subst (λ (xs : List Submission). submit_at xs q ≡ Some x) submits x_found in
          ⊎_elim {C = is_some (claim_for w.claims q) ≡ true}
          (λ (same : q ≡ place). absurd (true≢false (sym works ∙ ap is_working
          (staged-stage place posted w.submits x (subst (λ (p : ℕ). submit_at (staged place posted w.submits) p ≡ Some x) same x_there)))))
          (λ (other : q ≡ place → ⊥). linked.working q x (sym (staged-other place posted w.submits q other) ∙ x_there) works)
          (same-cases q place));
      events =
          (let a = linked.events in
          let b = weight-restaged s posted w.submits (staged place posted w.submits) (restaged place posted w.submits s found) in
          let d = weight-queued s.stage queued in
          let e : most_events_of moved.submits ≡ most_events_of (staged place posted w.submits) = ap most_events_of submits in
          let r : rest_events moved.at_rest ≡ rest_events w.at_rest = ap rest_events rest in
          omega arith);
    }

do-linked : (c : Configuration) (w : World) (answer : Answer) (aborts : Option ℕ) (place : ℕ) (s : Submission) (history : List Completion) → IsLinked w
    → submit_at w.submits place ≡ Some s → is_queued s.stage ≡ true → aborts ≡ withdrawn_place w.submits s.request → IsLinked (later w (with_done c w answer aborts (Some s)) history)
do-linked c w answer aborts place s history linked found queued withdraws = by_aborts aborts withdraws
  where
    at : s.request.place ≡ place
    at = submit-place w.submits place s found

    here : submit_at w.submits s.request.place ≡ Some s
    here = subst (λ (p : ℕ). submit_at w.submits p ≡ Some s) (sym at) found

    by_aborts : (o : Option ℕ) → o ≡ withdrawn_place w.submits s.request → IsLinked (later w (with_done c w answer o (Some s)) history)
    by_aborts None e = posted-linked w (with_done c w answer None (Some s)) s.request.place s history linked refl refl refl here queued
    by_aborts (Some aborted) e =
        let h = withdrawn-queued w.submits s.request aborted (sym e) in
        let t : Submission = h.0 in
        let earlier : aborted < s.request.place = named aborted h.3 in
        let there : submit_at (staged s.request.place (Posted w.count) w.submits) aborted ≡ Some t =
        staged-other s.request.place (Posted w.count) w.submits aborted (λ same. omega arith) ∙ h.1 in
        also-linked (later w (with_done c w answer None (Some s)) history) (later w (with_done c w answer (Some aborted) (Some s)) history) aborted w.count t
        (posted-linked w (with_done c w answer None (Some s)) s.request.place s history linked refl refl refl here queued) refl refl refl refl there h.2
      where
        each-named : (submits : List Submission) → AllByRecursion NamesEarlier (requests_of submits) → AllByRecursion (λ (x : Submission). NamesEarlier x.request) submits
        each-named [] all = tt
        each-named (x ∷ submits) all = (all.0, each-named submits all.1)

        named : NamesEarlier s.request
        named = found-each (λ (x : Submission). NamesEarlier x.request) _ w.submits s (each-named w.submits linked.names) found

-- ---- a take

take-linked : (w : World) (s : Submission) (posted : ℕ) (history : List Completion) → IsLinked w → submit_at w.submits s.request.place ≡ Some s → is_posted_at posted s.stage ≡ true
    → IsLinked (later w (with_take w (Some s)) history)
take-linked w s posted history linked found over =
    let place : ℕ = s.request.place in
    let next : World = later w (with_take w (Some s)) history in
    record {
      places = same-requests w.count w.submits (staged place Taken w.submits) (staged-requests place Taken w.submits) linked.places;
      names = subst (λ (rs : List Request). AllByRecursion NamesEarlier rs) (sym (staged-requests place Taken w.submits)) linked.names;
      claims = claims-staged w next place Taken s refl (omega arith) found (posted-idle posted s.stage over) w.claims linked.claims;
      different = linked.different;
      working = λ q x x_found works. ⊎_elim {C = is_some (claim_for w.claims q) ≡ true}
          (λ (same : q ≡ place). absurd (true≢false (sym works ∙ ap is_working
          (staged-stage place Taken w.submits x (subst (λ (p : ℕ). submit_at (staged place Taken w.submits) p ≡ Some x) same x_found)))))
          (λ (other : q ≡ place → ⊥). linked.working q x (sym (staged-other place Taken w.submits q other) ∙ x_found) works)
          (same-cases q place);
      events =
          (let a = linked.events in
          let b = weight-restaged s Taken w.submits (staged place Taken w.submits) (restaged place Taken w.submits s found) in
          let d = weight-posted posted s.stage over in
          omega arith);
    }

-- ---- every event

pub linked-step : (c : Configuration) (commands : ℕ) (w : World) (e : Event) → IsLinked w → IsAllowedIn c commands w e → IsLinked (world_after c w e)
linked-step c commands w (event.Submit by cid ordinal cmd) linked allowed = submit-linked c w by cid ordinal cmd linked
linked-step c commands w (event.Claim by host ordinal sent) linked allowed =
    let found = some-and (λ (s : Submission). MayClaim c w by host ordinal s) (submit_at w.submits sent) allowed in
    subst (λ (o : Option Submission). IsLinked (later w (with_claim c w by o) (w.history ++ []))) (sym found.1)
    (claim-linked c w by sent found.0 _ linked found.1 found.2.turn.queued found.2.turn.idle)
linked-step c commands w (event.Finish by claim answer) linked allowed =
    let found = some-and (λ (x : OpenClaim). MayFinish c by answer x) (claim_at w.claims claim) allowed in
    let place : found.0.place ≡ claim = claim-place w.claims claim found.0 found.1 in
    subst (λ (o : Option OpenClaim). IsLinked (later w (with_finish c w o) (world_after c w (event.Finish by claim answer)).history)) (sym found.1)
    (finish-linked c w found.0 _ linked (subst (λ (p : ℕ). claim_at w.claims p ≡ Some found.0) (sym place) found.1))
linked-step c commands w (event.Do by host ordinal sent answer aborts) linked allowed =
    let found = some-and (λ (s : Submission). MayDo c w by host ordinal answer aborts s) (submit_at w.submits sent) allowed in
    subst (λ (o : Option Submission). IsLinked (later w (with_done c w answer aborts o) (world_after c w (event.Do by host ordinal sent answer aborts)).history)) (sym found.1)
    (do-linked c w answer aborts sent found.0 _ linked found.1 found.2.turn.queued found.2.withdraws)
linked-step c commands w (event.Take by cid posted) linked allowed =
    let found = some-and (λ (s : Submission). is_posted_at posted s.stage ≡ true) (outstanding_under w.submits by cid) allowed in
    subst (λ (o : Option Submission). IsLinked (later w (with_take w o) (w.history ++ []))) (sym found.1)
    (take-linked w found.0 posted _ linked
    (under-each (λ (x : Submission). submit_at w.submits x.request.place ≡ Some x) w.submits by cid found.0 (self-found w linked) found.1) found.2)
linked-step c commands w (event.Rest by) linked allowed = record {
  places = order-later w.count (requests_of w.submits) linked.places;
  names = linked.names;
  claims = each-weaker (ClaimLinked w) (ClaimLinked (world_after c w (event.Rest by)))
      (λ claim h. record { place = (let below = h.place in omega arith); submit = h.submit }) w.claims linked.claims;
  different = linked.different;
  working = linked.working;
  events =
      (let a = linked.events in
      let r : rest_events w.at_rest ≡ 0 = ap rest_events allowed.1 in
      omega arith);
}

pub linked-from : (c : Configuration) (commands : ℕ) (w : World) (trail : Trail) → IsLinked w → IsLawfulFrom c commands w trail → IsLinked (world_from c w trail)
linked-from c commands w [] linked lawful = linked
linked-from c commands w (e ∷ trail) linked lawful = linked-from c commands (world_after c w e) trail (linked-step c commands w e linked lawful.0) lawful.1

pub linked-first : (c : Configuration) → IsLinked (first_world c)
linked-first c = record {
  places = record { below = tt; ascending = tt };
  names = tt;
  claims = tt;
  different = tt;
  working = λ place s found works. absurd (none-some s found);
  events = omega arith;
}

pub linked-world : (c : Configuration) (commands : ℕ) (trail : Trail) → IsLawful c commands trail → IsLinked (world_of c trail)
linked-world c commands trail lawful = linked-from c commands (first_world c) trail (linked-first c) lawful
