-- What is read from the trail is what the world says: submits by their places.
use Rattle.std.proofs.Common.{◌≡◌, ℕ, zero, suc, ◌<◌, ◌==◌, Bool, true, false, cond, List, [], ◌∷◌, ◌++◌, append-nil, append_assoc, find, length, Option, Some, None, option_map, refl, sym, ap, subst, ◌∙◌, inl, inr, ◌⊎◌, ⊎_elim, arith, slice_get}
use Rattle.std.specs.List.{AllByRecursion}
use Rattle.std.specs.Prelude.{option_and_then, IsSomeAnd}
use Rattle.cp_base.specs.Configuration.{Configuration}
use Rattle.trail_model.specs.Lawful.{IsLawful, Trail, world_of}
use Rattle.trail_model.specs.Traced.{SubmitsIt}
use Rattle.trail_model.specs.Linked.{requests_of}
use Rattle.trail_model.specs.World.{Request, Submission, World, first_world, request_of, submit_at}
use Rattle.trail_model.specs.declared.events.Event.{Event}
use Rattle.trail_model.specs.declared.events.Event.TheVariants as event
use Rattle.trail_model.proofs.Counts.{asked_by, beginning-from, count-world, requests-after, world-append}
use Rattle.trail_model.proofs.Moving.{linked-world}
use Rattle.trail_model.proofs.Sound.{some-and}
use Rattle.trail_model.proofs.Submits.{find-new, found-each, none-some, other-eqb, same-eqb, some-same, submit-place}
use Rattle.trail_model.proofs.Traced.{traced-world}
use Rattle.core_model.specs.Asked.{Asked, asked_at, asked_by_request, asked_in}
use Rattle.core_model.proofs.Steps.{find-map, some-so}

find-longer : {A : Type 0} (test : A → Bool) (xs ys : List A) (x : A) → find test xs ≡ Some x → find test (xs ++ ys) ≡ Some x
find-longer test [] ys x e = absurd (none-some x e)
find-longer test (z ∷ xs) ys x e = by_test (test z) e (find-longer test xs ys x)
  where
    by_test : (b : Bool) → cond b (Some z) (find test xs) ≡ Some x → (find test xs ≡ Some x → find test (xs ++ ys) ≡ Some x)
        → cond b (Some z) (find test (xs ++ ys)) ≡ Some x
    by_test true e later = e
    by_test false e later = later e

pub asked-found : (c : Configuration) (commands : ℕ) (trail : Trail) (place : ℕ) (s : Submission) → IsLawful c commands trail
    → submit_at (world_of c trail).submits place ≡ Some s → asked_at trail place ≡ Some (asked_by_request s.request)
asked-found c commands trail place s lawful found =
    let there = some-and (SubmitsIt s.request) (slice_get trail s.request.place)
    (found-each (λ (x : Submission). IsSomeAnd (slice_get trail x.request.place) (SubmitsIt x.request)) _ (world_of c trail).submits s
    (traced-world c commands trail lawful).submits found) in
    ap (λ (p : ℕ). asked_at trail p) (sym (submit-place (world_of c trail).submits place s found))
    ∙ (ap (λ (o : Option Event). option_and_then asked_in o) there.1
    ∙ ap asked_in there.2.event)

-- so what the trail asks for is what the world's submit asks for
pub asked-same : (c : Configuration) (commands : ℕ) (trail : Trail) (place : ℕ) (s : Submission) (asked : Asked) → IsLawful c commands trail
    → submit_at (world_of c trail).submits place ≡ Some s → asked_at trail place ≡ Some asked → asked_by_request s.request ≡ asked
asked-same c commands trail place s asked lawful found read =
    some-same (asked_by_request s.request) asked (sym (asked-found c commands trail place s lawful found) ∙ read)

-- ---- what the trail asks for, the world has

slice-before : {A : Type 0} (xs : List A) (y x : A) (k : ℕ) → slice_get (xs ++ y ∷ []) k ≡ Some x → (slice_get xs k ≡ Some x) ⊎ ((k ≡ length xs) × (y ≡ x))
slice-before [] y x zero e = inr (refl, some-same y x e)
slice-before [] y x (suc k) e = absurd (none-some x e)
slice-before (z ∷ xs) y x zero e = inl e
slice-before (z ∷ xs) y x (suc k) e = ⊎_elim {C = (slice_get xs k ≡ Some x) ⊎ ((suc k ≡ length (z ∷ xs)) × (y ≡ x))}
    (λ (old : slice_get xs k ≡ Some x). inl old)
    (λ (new : (k ≡ length xs) × (y ≡ x)). inr (ap suc new.0, new.1))
    (slice-before xs y x k e)

-- what an event asks for is what it adds to the requests
asked-adds : (w : World) (e : Event) (asked : Asked) → asked_in e ≡ Some asked
    → (r : Request) × (asked_by w e ≡ r ∷ []) × (r.place ≡ w.count) × (asked_by_request r ≡ asked)
asked-adds w (event.Submit by cid ordinal cmd) asked h =
    (request_of w by cid ordinal cmd, refl, refl, some-same (let a : Asked = record { host = by; cid = cid; ordinal = ordinal; command = cmd } in a) asked h)
asked-adds w (event.Claim by host ordinal sent) asked h = absurd (none-some asked h)
asked-adds w (event.Finish by claim answer) asked h = absurd (none-some asked h)
asked-adds w (event.Do by host ordinal sent answer aborts) asked h = absurd (none-some asked h)
asked-adds w (event.Take by cid posted) asked h = absurd (none-some asked h)
asked-adds w (event.Rest by) asked h = absurd (none-some asked h)

none-below : (n : ℕ) (requests : List Request) → AllByRecursion (λ (r : Request). r.place < n) requests → find (λ (r : Request). r.place == n) requests ≡ None
none-below n [] all = refl
none-below n (r ∷ requests) all =
    ap (λ (b : Bool). cond b (Some r) (find (λ (x : Request). x.place == n) requests)) (other-eqb r.place n (λ same. let less = all.0 in omega arith))
    ∙ none-below n requests all.1

-- each submit of a trail is among the requests of its world
abbrev AllAsked : Configuration → Trail → Type 0
AllAsked c trail = (place : ℕ) (asked : Asked) → asked_at trail place ≡ Some asked
    → IsSomeAnd (find (λ (r : Request). r.place == place) (requests_of (world_of c trail).submits)) (λ (r : Request). asked_by_request r ≡ asked)

module _ (c : Configuration) (commands : ℕ) (trail : Trail) (e : Event) (lawful : IsLawful c commands trail) (place : ℕ) (asked : Asked) where
  grown : requests_of (world_of c (trail ++ e ∷ [])).submits ≡ requests_of (world_of c trail).submits ++ asked_by (world_of c trail) e
  grown = ap (λ (v : World). requests_of v.submits) (world-append c (first_world c) trail (e ∷ [])) ∙ requests-after c (world_of c trail) e

  -- a request that was there
  asked-before : IsSomeAnd (find (λ (r : Request). r.place == place) (requests_of (world_of c trail).submits)) (λ (r : Request). asked_by_request r ≡ asked)
      → IsSomeAnd (find (λ (r : Request). r.place == place) (requests_of (world_of c (trail ++ e ∷ [])).submits)) (λ (r : Request). asked_by_request r ≡ asked)
  asked-before h =
      let found = some-and (λ (r : Request). asked_by_request r ≡ asked) (find (λ (r : Request). r.place == place) (requests_of (world_of c trail).submits)) h in
      some-so (λ (r : Request). asked_by_request r ≡ asked) (find (λ (r : Request). r.place == place) (requests_of (world_of c (trail ++ e ∷ [])).submits)) found.0
      (ap (λ (rs : List Request). find (λ (r : Request). r.place == place) rs) grown
      ∙ find-longer (λ (r : Request). r.place == place) (requests_of (world_of c trail).submits) (asked_by (world_of c trail) e) found.0 found.1) found.2

  -- the one that the event adds
  asked-now : place ≡ length trail → asked_in e ≡ Some asked
      → IsSomeAnd (find (λ (r : Request). r.place == place) (requests_of (world_of c (trail ++ e ∷ [])).submits)) (λ (r : Request). asked_by_request r ≡ asked)
  asked-now at h =
      let w : World = world_of c trail in
      let adds = asked-adds w e asked h in
      let here : place ≡ w.count = at ∙ sym (count-world c trail) in
      let none : find (λ (r : Request). r.place == place) (requests_of w.submits) ≡ None =
      subst (λ (n : ℕ). find (λ (r : Request). r.place == n) (requests_of w.submits) ≡ None) (sym here)
      (none-below w.count (requests_of w.submits) (linked-world c commands trail lawful).places.below) in
      some-so (λ (r : Request). asked_by_request r ≡ asked) (find (λ (r : Request). r.place == place) (requests_of (world_of c (trail ++ e ∷ [])).submits)) adds.0
      (ap (λ (rs : List Request). find (λ (r : Request). r.place == place) rs) (grown ∙ ap (λ (rs : List Request). requests_of w.submits ++ rs) adds.1)
      ∙ find-new (λ (r : Request). r.place == place) (requests_of w.submits) adds.0 none (same-eqb adds.0.place place (adds.2 ∙ sym here))) adds.3

asked-step : (c : Configuration) (commands : ℕ) (trail : Trail) (e : Event) → IsLawful c commands trail → AllAsked c trail → AllAsked c (trail ++ e ∷ [])
asked-step c commands trail e lawful all place asked read = by_event (slice_get (trail ++ e ∷ []) place) refl read
  where
    by_event : (o : Option Event) → slice_get (trail ++ e ∷ []) place ≡ o → option_and_then asked_in o ≡ Some asked
        → IsSomeAnd (find (λ (r : Request). r.place == place) (requests_of (world_of c (trail ++ e ∷ [])).submits)) (λ (r : Request). asked_by_request r ≡ asked)
    by_event None found h = absurd (none-some asked h)
    by_event (Some x) found h = ⊎_elim
        {C = IsSomeAnd (find (λ (r : Request). r.place == place) (requests_of (world_of c (trail ++ e ∷ [])).submits)) (λ (r : Request). asked_by_request r ≡ asked)}
        (λ (old : slice_get trail place ≡ Some x).
        asked-before c commands trail e lawful place asked (all place asked (ap (λ (o : Option Event). option_and_then asked_in o) old ∙ h)))
        (λ (new : (place ≡ length trail) × (e ≡ x)). asked-now c commands trail e lawful place asked new.0 (ap asked_in new.1 ∙ h))
        (slice-before trail e x place found)

asked-more : (c : Configuration) (commands : ℕ) (trail more : Trail) → IsLawful c commands (trail ++ more) → AllAsked c trail → AllAsked c (trail ++ more)
asked-more c commands trail [] lawful all = subst (λ (t : Trail). AllAsked c t) (sym (append-nil trail)) all
asked-more c commands trail (e ∷ more) lawful all =
    subst (λ (t : Trail). AllAsked c t) (append_assoc trail (e ∷ []) more)
    (asked-more c commands (trail ++ e ∷ []) more (subst (λ (t : Trail). IsLawful c commands t) (sym (append_assoc trail (e ∷ []) more)) lawful)
    (asked-step c commands trail e (beginning-from c commands (first_world c) trail (e ∷ more) lawful) all))

-- the submit at a place of the trail is the world's, but for its stage
pub asked-there : (c : Configuration) (commands : ℕ) (trail : Trail) (place : ℕ) (asked : Asked) → IsLawful c commands trail → asked_at trail place ≡ Some asked
    → IsSomeAnd (submit_at (world_of c trail).submits place) (λ (s : Submission). asked_by_request s.request ≡ asked)
asked-there c commands trail place asked lawful read =
    by_found (submit_at (world_of c trail).submits place)
    (subst (λ (o : Option Request). IsSomeAnd o (λ (r : Request). asked_by_request r ≡ asked))
    (find-map (λ (s : Submission). s.request) (λ (r : Request). r.place == place) (world_of c trail).submits)
    (asked-more c commands [] trail lawful (λ p a h. absurd (none-some a h)) place asked read))
  where
    by_found : (o : Option Submission) → IsSomeAnd (option_map (λ (s : Submission). s.request) o) (λ (r : Request). asked_by_request r ≡ asked)
        → IsSomeAnd o (λ (s : Submission). asked_by_request s.request ≡ asked)
    by_found None h = h
    by_found (Some s) h = h
