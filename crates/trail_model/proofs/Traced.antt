-- The places of submits, open claims and posted replies hold their events.
use Rattle.std.proofs.Common.{◌≡◌, ℕ, zero, suc, ◌+◌, ◌<◌, ◌==◌, Bool, true, false, cond, List, [], ◌∷◌, ◌++◌, append-nil, append_assoc, length, length-append, Option, Some, None, slice_get, refl, sym, ap, subst, ◌∙◌, inl, inr, arith, if◌then◌else◌, IsSomeAnd}
use Rattle.std.specs.List.{AllByRecursion}
use Rattle.cp_base.specs.Configuration.{Configuration}
use Rattle.trail_model.specs.Lawful.{IsAllowedIn, IsLawful, IsLawfulFrom, MayClaim, MayDo, MayFinish, Trail, world_from, world_of}
use Rattle.trail_model.specs.Linked.{ClaimLinked, IsLinked, NamesEarlier, requests_of}
use Rattle.trail_model.specs.Traced.{ClaimsIt, EndsIt, IsClaimed, IsPostedIn, IsTraced, SubmitsIt}
use Rattle.trail_model.specs.World.{OpenClaim, Posted, Queued, Request, Stage, Submission, Taken, Working, World, claim_at, claim_of, first_world, is_posted_at, outstanding_under, request_of, staged, submit_at, with_claim, with_done, with_finish, with_take, withdrawn_place, world_after}
use Rattle.trail_model.specs.declared.events.Event.{Event}
use Rattle.trail_model.specs.declared.events.Event.TheVariants as event
use Rattle.trail_model.proofs.Linked.{Works, self-found, under-each}
use Rattle.trail_model.proofs.Moving.{linked-first, linked-step, withdrawn-queued}
use Rattle.trail_model.proofs.Sound.{some-and}
use Rattle.trail_model.proofs.Submits.{claim-place, each-append, each-weaker, found-each, none-some, some-same, staged-other, submit-place, without-each}

-- ---- a longer trail

slice-push : {A : Type 0} (xs : List A) (y x : A) (k : ℕ) → slice_get xs k ≡ Some x → slice_get (xs ++ y ∷ []) k ≡ Some x
slice-push [] y x k e = absurd (none-some x e)
slice-push (z ∷ xs) y x zero e = e
slice-push (z ∷ xs) y x (suc k) e = slice-push xs y x k e

slice-last : {A : Type 0} (xs : List A) (y : A) → slice_get (xs ++ y ∷ []) (length xs) ≡ Some y
slice-last [] y = refl
slice-last (x ∷ xs) y = slice-last xs y

and-from : {A : Type 0} (P : A → Type 0) (o : Option A) (x : A) → o ≡ Some x → P x → IsSomeAnd o P
and-from P o x e p = subst (λ (q : Option _). IsSomeAnd q P) (sym e) p

and-push : {A : Type 0} (P Q : A → Type 0) (xs : List A) (y : A) (k : ℕ) → ((x : A) → P x → Q x) → IsSomeAnd (slice_get xs k) P → IsSomeAnd (slice_get (xs ++ y ∷ []) k) Q
and-push P Q xs y k weaker h =
    let found = some-and P (slice_get xs k) h in
    and-from Q (slice_get (xs ++ y ∷ []) k) found.0 (slice-push xs y found.0 k found.1) (weaker found.0 found.2)

ends-push : (trail : Trail) (new : Event) (r : Request) (e : Event) → EndsIt trail r e → EndsIt (trail ++ new ∷ []) r e
ends-push trail new r (event.Submit by cid ordinal cmd) h = h
ends-push trail new r (event.Claim by host ordinal sent) h = h
ends-push trail new r (event.Finish by claim answer) h = and-push (λ e. IsClaimed r e) (λ e. IsClaimed r e) trail new claim (λ e c. c) h
ends-push trail new r (event.Do by host ordinal sent answer aborts) h = h
ends-push trail new r (event.Take by cid posted) h = h
ends-push trail new r (event.Rest by) h = h

posted-push : (trail : Trail) (new : Event) (r : Request) (stage : Stage) → IsPostedIn trail r stage → IsPostedIn (trail ++ new ∷ []) r stage
posted-push trail new r Queued h = tt
posted-push trail new r Working h = tt
posted-push trail new r (Posted place) h = and-push (λ e. EndsIt trail r e) (λ e. EndsIt (trail ++ new ∷ []) r e) trail new place (λ e. ends-push trail new r e) h
posted-push trail new r Taken h = tt

-- the same world after a longer trail
traced-push : (trail : Trail) (new : Event) (w : World) → IsTraced trail w → IsTraced (trail ++ new ∷ []) w
traced-push trail new w traced = record {
  submits = each-weaker (λ (s : Submission). IsSomeAnd (slice_get trail s.request.place) (SubmitsIt s.request))
      (λ (s : Submission). IsSomeAnd (slice_get (trail ++ new ∷ []) s.request.place) (SubmitsIt s.request))
      (λ s h. and-push (SubmitsIt s.request) (SubmitsIt s.request) trail new s.request.place (λ e x. x) h) w.submits traced.submits;
  claims = each-weaker (λ (claim : OpenClaim). IsSomeAnd (slice_get trail claim.place) (ClaimsIt claim.party claim.request))
      (λ (claim : OpenClaim). IsSomeAnd (slice_get (trail ++ new ∷ []) claim.place) (ClaimsIt claim.party claim.request))
      (λ claim h. and-push (ClaimsIt claim.party claim.request) (ClaimsIt claim.party claim.request) trail new claim.place (λ e x. x) h) w.claims traced.claims;
  posted = each-weaker (λ (s : Submission). IsPostedIn trail s.request s.stage) (λ (s : Submission). IsPostedIn (trail ++ new ∷ []) s.request s.stage)
      (λ s. posted-push trail new s.request s.stage) w.submits traced.posted;
}

-- ---- submits that come further

each-staged : (P : Submission → Type 0) (place : ℕ) (stage : Stage) (submits : List Submission) (s : Submission) → submit_at submits place ≡ Some s
    → P (let t : Submission = record s { stage = stage } in t) → AllByRecursion P submits → AllByRecursion P (staged place stage submits)
each-staged P place stage [] s found p all = tt
each-staged P place stage (x ∷ submits) s found p all = by_test (x.request.place == place) found (λ e. each-staged P place stage submits s e p all.1)
  where
    by_test : (b : Bool) → cond b (Some x) (submit_at submits place) ≡ Some s → (submit_at submits place ≡ Some s → AllByRecursion P (staged place stage submits))
        → AllByRecursion P (if b then (let t : Submission = record x { stage = stage } in t) ∷ submits else x ∷ staged place stage submits)
    by_test true found later = (subst (λ (y : Submission). P (let t : Submission = record y { stage = stage } in t)) (sym (some-same x s found)) p, all.1)
    by_test false found later = (all.0, later found)

-- a submit at another stage, whose event is there
staged-traced : (trail : Trail) (w : World) (place : ℕ) (stage : Stage) (s : Submission) → IsTraced trail w → submit_at w.submits place ≡ Some s
    → IsPostedIn trail s.request stage → IsTraced trail (let v : World = record w { submits = staged place stage w.submits } in v)
staged-traced trail w place stage s traced found posted = record {
  submits = each-staged (λ (x : Submission). IsSomeAnd (slice_get trail x.request.place) (SubmitsIt x.request)) place stage w.submits s found
      (found-each (λ (x : Submission). IsSomeAnd (slice_get trail x.request.place) (SubmitsIt x.request)) _ w.submits s traced.submits found) traced.submits;
  claims = traced.claims;
  posted = each-staged (λ (x : Submission). IsPostedIn trail x.request x.stage) place stage w.submits s found posted traced.posted;
}

-- ---- each event

-- the event at the end of the trail
at-end : (trail : Trail) (w : World) (e : Event) (P : Event → Type 0) → length trail ≡ w.count → P e → IsSomeAnd (slice_get (trail ++ e ∷ []) w.count) P
at-end trail w e P count p = and-from P (slice_get (trail ++ e ∷ []) w.count) e (subst (λ (n : ℕ). slice_get (trail ++ e ∷ []) n ≡ Some e) count (slice-last trail e)) p

submit-traced : (trail : Trail) (w : World) (by cid ordinal : ℕ) (cmd : _) → IsTraced trail w → length trail ≡ w.count
    → IsTraced (trail ++ event.Submit by cid ordinal cmd ∷ [])
    (let v : World = record w { submits = w.submits ++ (let s : Submission = record { request = request_of w by cid ordinal cmd; stage = Queued } in s) ∷ [] } in v)
submit-traced trail w by cid ordinal cmd traced count =
    let e : Event = event.Submit by cid ordinal cmd in
    let new : Submission = record { request = request_of w by cid ordinal cmd; stage = Queued } in
    let h = traced-push trail e w traced in
    record {
      submits = each-append (λ (s : Submission). IsSomeAnd (slice_get (trail ++ e ∷ []) s.request.place) (SubmitsIt s.request)) w.submits (new ∷ []) h.submits
          (at-end trail w e (SubmitsIt new.request) count (record { event = refl }), tt);
      claims = h.claims;
      posted = each-append (λ (s : Submission). IsPostedIn (trail ++ e ∷ []) s.request s.stage) w.submits (new ∷ []) h.posted (tt, tt);
    }

-- only submits and claims are traced
same-traced : (trail : Trail) (v w : World) → v.submits ≡ w.submits → v.claims ≡ w.claims → IsTraced trail v → IsTraced trail w
same-traced trail v w submits claims traced = record {
  submits = subst (λ (xs : List Submission). AllByRecursion (λ (s : Submission). IsSomeAnd (slice_get trail s.request.place) (SubmitsIt s.request)) xs) submits traced.submits;
  claims = subst (λ (cs : List OpenClaim). AllByRecursion (λ (claim : OpenClaim). IsSomeAnd (slice_get trail claim.place) (ClaimsIt claim.party claim.request)) cs) claims traced.claims;
  posted = subst (λ (xs : List Submission). AllByRecursion (λ (s : Submission). IsPostedIn trail s.request s.stage) xs) submits traced.posted;
}

traced-step : (c : Configuration) (commands : ℕ) (w : World) (trail : Trail) (e : Event) → IsLinked w → length trail ≡ w.count → IsTraced trail w → IsAllowedIn c commands w e
    → IsTraced (trail ++ e ∷ []) (world_after c w e)
traced-step c commands w trail (event.Submit by cid ordinal cmd) linked count traced allowed =
    same-traced (trail ++ event.Submit by cid ordinal cmd ∷ []) _ (world_after c w (event.Submit by cid ordinal cmd)) refl refl (submit-traced trail w by cid ordinal cmd traced count)
traced-step c commands w trail (event.Claim by host ordinal sent) linked count traced allowed =
    let found = some-and (λ (s : Submission). MayClaim c w by host ordinal s) (submit_at w.submits sent) allowed in
    let s : Submission = found.0 in
    let e : Event = event.Claim by host ordinal sent in
    let at : s.request.place ≡ sent = submit-place w.submits sent s found.1 in
    let here : submit_at w.submits s.request.place ≡ Some s = subst (λ (p : ℕ). submit_at w.submits p ≡ Some s) (sym at) found.1 in
    let h = staged-traced (trail ++ e ∷ []) w s.request.place Working s (traced-push trail e w traced) here tt in
    let new : OpenClaim = claim_of c w by s.request in
    let same : e ≡ event.Claim by s.request.host s.request.ordinal s.request.place =
    λ i. event.Claim by (sym found.2.turn.same_host i) (sym found.2.turn.same_ordinal i) (sym at i) in
    subst (λ (o : Option Submission). IsTraced (trail ++ e ∷ []) (let v : World = record (with_claim c w by o) { history = w.history ++ []; count = w.count + 1 } in v)) (sym found.1)
    (record {
      submits = h.submits;
      claims = each-append (λ (claim : OpenClaim). IsSomeAnd (slice_get (trail ++ e ∷ []) claim.place) (ClaimsIt claim.party claim.request)) w.claims (new ∷ []) h.claims
          (at-end trail w e (ClaimsIt by s.request) count (record { event = same }), tt);
      posted = h.posted;
    })
traced-step c commands w trail (event.Finish by place answer) linked count traced allowed =
    let found = some-and (λ (x : OpenClaim). MayFinish c by answer x) (claim_at w.claims place) allowed in
    let claim : OpenClaim = found.0 in
    let e : Event = event.Finish by place answer in
    let at : claim.place ≡ place = claim-place w.claims place claim found.1 in
    let works : ClaimLinked w claim = found-each (ClaimLinked w) _ w.claims claim linked.claims found.1 in
    let pushed = traced-push trail e w traced in
    let claimed : IsSomeAnd (slice_get (trail ++ e ∷ []) place) (λ x. IsClaimed claim.request x) =
    subst (λ (p : ℕ). IsSomeAnd (slice_get (trail ++ e ∷ []) p) (λ x. IsClaimed claim.request x)) at
    (and-push (ClaimsIt claim.party claim.request) (λ x. IsClaimed claim.request x) trail e claim.place (λ x it. (claim.party, it))
    (found-each (λ (x : OpenClaim). IsSomeAnd (slice_get trail x.place) (ClaimsIt x.party x.request)) _ w.claims claim traced.claims found.1)) in
    let h = staged-traced (trail ++ e ∷ []) w claim.request.place (Posted w.count) (Works claim.request) pushed works.submit
    (at-end trail w e (λ x. EndsIt (trail ++ e ∷ []) claim.request x) count claimed) in
    subst (λ (o : Option OpenClaim). IsTraced (trail ++ e ∷ []) (let v : World = record (with_finish c w o) { history = (world_after c w e).history; count = w.count + 1 } in v)) (sym found.1)
    (record {
      submits = h.submits;
      claims = without-each (λ (x : OpenClaim). IsSomeAnd (slice_get (trail ++ e ∷ []) x.place) (ClaimsIt x.party x.request)) claim.place w.claims h.claims;
      posted = h.posted;
    })
traced-step c commands w trail (event.Do by host ordinal sent answer aborts) linked count traced allowed =
    by_found (some-and (λ (s : Submission). MayDo c w by host ordinal answer aborts s) (submit_at w.submits sent) allowed)
  where
    e : Event
    e = event.Do by host ordinal sent answer aborts

    by_found : (s : Submission) × (submit_at w.submits sent ≡ Some s) × MayDo c w by host ordinal answer aborts s
        → IsTraced (trail ++ event.Do by host ordinal sent answer aborts ∷ []) (world_after c w (event.Do by host ordinal sent answer aborts))
    by_found (s, found, may) =
        let at : s.request.place ≡ sent = submit-place w.submits sent s found in
        let here : submit_at w.submits s.request.place ≡ Some s = subst (λ (p : ℕ). submit_at w.submits p ≡ Some s) (sym at) found in
        let first = staged-traced (trail ++ event.Do by host ordinal sent answer aborts ∷ []) w s.request.place (Posted w.count) s
        (traced-push trail (event.Do by host ordinal sent answer aborts) w traced) here
        (at-end trail w (event.Do by host ordinal sent answer aborts) (λ x. EndsIt (trail ++ event.Do by host ordinal sent answer aborts ∷ []) s.request x) count (inl (sym at))) in
        subst (λ (o : Option Submission). IsTraced (trail ++ event.Do by host ordinal sent answer aborts ∷ [])
        (let v : World = record (with_done c w answer aborts o) { history = (world_after c w (event.Do by host ordinal sent answer aborts)).history; count = w.count + 1 } in v)) (sym found)
        (withdrawn aborts may.withdraws refl here first)
      where
        withdrawn : (o : Option ℕ) → o ≡ withdrawn_place w.submits s.request → aborts ≡ o → submit_at w.submits s.request.place ≡ Some s
            → IsTraced (trail ++ event.Do by host ordinal sent answer aborts ∷ []) (let v : World = record w { submits = staged s.request.place (Posted w.count) w.submits } in v)
            → IsTraced (trail ++ event.Do by host ordinal sent answer aborts ∷ [])
            (let v : World = record (with_done c w answer o (Some s)) { history = (world_after c w (event.Do by host ordinal sent answer aborts)).history; count = w.count + 1 } in v)
        withdrawn None e same here first = record { submits = first.submits; claims = first.claims; posted = first.posted }
        withdrawn (Some aborted) e same here first =
            let h = withdrawn-queued w.submits s.request aborted (sym e) in
            let t : Submission = h.0 in
            let t_at : t.request.place ≡ aborted = submit-place w.submits aborted t h.1 in
            let v : World = record w { submits = staged s.request.place (Posted w.count) w.submits } in
            let named = each-named w.submits linked.names in
            let earlier : aborted < s.request.place = found-each (λ (x : Submission). NamesEarlier x.request) _ w.submits s named here aborted h.3 in
            let there : submit_at (staged s.request.place (Posted w.count) w.submits) aborted ≡ Some t =
            staged-other s.request.place (Posted w.count) w.submits aborted (λ equal. omega arith) ∙ h.1 in
            let both = staged-traced (trail ++ event.Do by host ordinal sent answer aborts ∷ []) v aborted (Posted w.count) t first there
            (at-end trail w (event.Do by host ordinal sent answer aborts) (λ x. EndsIt (trail ++ event.Do by host ordinal sent answer aborts ∷ []) t.request x) count
            (inr (same ∙ ap (λ (p : ℕ). Some p) (sym t_at)))) in
            record { submits = both.submits; claims = both.claims; posted = both.posted }
          where
            each-named : (submits : List Submission) → AllByRecursion NamesEarlier (requests_of submits) → AllByRecursion (λ (x : Submission). NamesEarlier x.request) submits
            each-named [] all = tt
            each-named (x ∷ submits) all = (all.0, each-named submits all.1)
traced-step c commands w trail (event.Take by cid posted) linked count traced allowed =
    let found = some-and (λ (s : Submission). is_posted_at posted s.stage ≡ true) (outstanding_under w.submits by cid) allowed in
    let s : Submission = found.0 in
    let e : Event = event.Take by cid posted in
    let here : submit_at w.submits s.request.place ≡ Some s =
    under-each (λ (x : Submission). submit_at w.submits x.request.place ≡ Some x) w.submits by cid s (self-found w linked) found.1 in
    let h = staged-traced (trail ++ e ∷ []) w s.request.place Taken s (traced-push trail e w traced) here tt in
    subst (λ (o : Option Submission). IsTraced (trail ++ e ∷ []) (let v : World = record (with_take w o) { history = w.history ++ []; count = w.count + 1 } in v)) (sym found.1)
    (record { submits = h.submits; claims = h.claims; posted = h.posted })
traced-step c commands w trail (event.Rest by) linked count traced allowed =
    same-traced (trail ++ event.Rest by ∷ []) w (world_after c w (event.Rest by)) refl refl (traced-push trail (event.Rest by) w traced)

traced-from : (c : Configuration) (commands : ℕ) (w : World) (trail more : Trail) → IsLinked w → length trail ≡ w.count → IsTraced trail w → IsLawfulFrom c commands w more
    → IsTraced (trail ++ more) (world_from c w more)
traced-from c commands w trail [] linked count traced lawful = subst (λ (t : Trail). IsTraced t w) (sym (append-nil trail)) traced
traced-from c commands w trail (e ∷ more) linked count traced lawful =
    let one = length-append trail (e ∷ []) in
    subst (λ (t : Trail). IsTraced t (world_from c (world_after c w e) more)) (append_assoc trail (e ∷ []) more)
    (traced-from c commands (world_after c w e) (trail ++ e ∷ []) more (linked-step c commands w e linked lawful.0) (omega arith)
    (traced-step c commands w trail e linked count traced lawful.0) lawful.1)

pub traced-world : (c : Configuration) (commands : ℕ) (trail : Trail) → IsLawful c commands trail → IsTraced trail (world_of c trail)
traced-world c commands trail lawful =
    traced-from c commands (first_world c) [] trail (linked-first c) refl (record { submits = tt; claims = tt; posted = tt }) lawful
