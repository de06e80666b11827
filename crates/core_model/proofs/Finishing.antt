-- A finish: the reply is posted, the claim is over, and what it wrote is at home.
use Rattle.std.proofs.Common.{◌≡◌, ℕ, ◌+◌, ◌==◌, Bool, true, false, not, ◌&&◌, cond, List, [], ◌∷◌, ◌++◌, map, Option, Some, option_map, refl, sym, ap, subst, ◌∙◌, if◌then◌else◌}
use Rattle.std.specs.List.{AllByRecursion}
use Rattle.cp_base.specs.Answer.{Answer}
use Rattle.cp_base.specs.Configuration.{Configuration}
use Rattle.queue_pairs.specs.declared.command.Stage.TheVariants as queue
use Rattle.trail_model.specs.Claims.{FindsItself}
use Rattle.trail_model.specs.Each.{EachTwo}
use Rattle.trail_model.specs.Lawful.{IsAllowedIn, Trail, world_of}
use Rattle.trail_model.specs.Linked.{AreDifferent, ClaimLinked, IsLinked, requests_of}
use Rattle.trail_model.specs.Pieces.{any_has_byte, carried}
use Rattle.trail_model.specs.World.{Completion, OpenClaim, Posted, Submission, World, claim_at, completions_by, effect_of_claim, staged, with_finish, without_claim}
use Rattle.trail_model.specs.declared.events.Event.TheVariants as event
use Rattle.trail_model.proofs.Linked.{Works}
use Rattle.trail_model.proofs.Moving.{linked-world}
use Rattle.trail_model.proofs.Putting.{regions_of}
use Rattle.trail_model.proofs.Sound.{Sound, sound-world}
use Rattle.trail_model.proofs.Submits.{claim-place, eqb-same, found-each, other-eqb, staged-requests}
use Rattle.core_model.specs.Moves.{FinishMoves, without_kept, without_place}
use Rattle.core_model.specs.Parts.{ClaimPlaces, KeptFootprint, Parts}
use Rattle.core_model.specs.Ties.{AreTied, StandFor, as_kept, as_places, entry_if, entry_of, is_one_of}
use Rattle.core_model.proofs.Claiming.{queues-moved}
use Rattle.core_model.proofs.Homing.{back-again, home-again}
use Rattle.core_model.proofs.Steps.{same-length, same-ordinal, stand-after, waiting-same}

-- the places of the claims without one of them
places-all : (place : ℕ) (claims : List OpenClaim) → AllByRecursion (λ (claim : OpenClaim). claim.place ≡ place → ⊥) claims
    → without_place (map as_places claims) place ≡ map as_places claims
places-all place [] all = refl
places-all place (x ∷ claims) all =
    ap (λ (b : Bool). cond (not b) (as_places x ∷ without_place (map as_places claims) place) (without_place (map as_places claims) place)) (other-eqb x.place place all.0)
    ∙ ap (λ (ks : List ClaimPlaces). as_places x ∷ ks) (places-all place claims all.1)

places-without : (place : ℕ) (claims : List OpenClaim) → EachTwo AreDifferent claims → without_place (map as_places claims) place ≡ map as_places (without_claim place claims)
places-without place [] all = refl
places-without place (x ∷ claims) all = by_test (x.place == place) refl (places-without place claims all.1)
  where
    others : (here : x.place ≡ place) (ys : List OpenClaim) → AllByRecursion (AreDifferent x) ys → AllByRecursion (λ (claim : OpenClaim). claim.place ≡ place → ⊥) ys
    others here [] all = tt
    others here (y ∷ ys) all = ((λ e. all.0.places (here ∙ sym e)), others here ys all.1)

    by_test : (b : Bool) → (x.place == place) ≡ b → without_place (map as_places claims) place ≡ map as_places (without_claim place claims)
        → cond (not b) (as_places x ∷ without_place (map as_places claims) place) (without_place (map as_places claims) place)
        ≡ map as_places (if b then claims else x ∷ without_claim place claims)
    by_test true e later = places-all place claims (others (eqb-same x.place place e) claims all.0)
    by_test false e later = ap (λ (ks : List ClaimPlaces). as_places x ∷ ks) later

kept-without : (c : Configuration) (place : ℕ) (claims : List OpenClaim) → without_kept place (map (as_kept c) claims) ≡ map (as_kept c) (without_claim place claims)
kept-without c place [] = refl
kept-without c place (x ∷ claims) = by_test (x.place == place) (kept-without c place claims)
  where
    by_test : (b : Bool) → without_kept place (map (as_kept c) claims) ≡ map (as_kept c) (without_claim place claims)
        → (if b then map (as_kept c) claims else as_kept c x ∷ without_kept place (map (as_kept c) claims)) ≡ map (as_kept c) (if b then claims else x ∷ without_claim place claims)
    by_test true later = refl
    by_test false later = ap (λ (ks : List KeptFootprint). as_kept c x ∷ ks) later

finish-tied : (c : Configuration) (old new : Parts) (w : World) (claim : OpenClaim) (history : List Completion) → AreTied c old w → IsLinked w
    → Sound c w.state w.claims w.history → claim_at w.claims claim.place ≡ Some claim
    → FinishMoves old new claim.place claim.request.host claim.request.place (effect_of_claim c claim).pieces
    → AreTied c new (let v : World = record (with_finish c w (Some claim)) { history = history; count = w.count + 1 } in v)
finish-tied c old new w claim history t linked sound found moves =
    let own : ClaimLinked w claim = found-each (ClaimLinked w) _ w.claims claim linked.claims found in
    let finds : FindsItself c w.state claim = found-each (FindsItself c w.state) _ w.claims claim sound.own found in
    let s : Submission = Works claim.request in
    let xs : List Submission = staged claim.request.place (Posted w.count) w.submits in
    let same : requests_of xs ≡ requests_of w.submits = staged-requests claim.request.place (Posted w.count) w.submits in
    record {
      count = moves.count ∙ ap (λ (n : ℕ). n + 1) t.count;
      submitted = moves.still.submitted ∙ (t.submitted ∙ sym (same-length w.submits xs same));
      at_rest = moves.still.at_rest ∙ t.at_rest;
      waiting = moves.waiting ∙ (t.waiting ∙ sym (waiting-same w.submits s (Posted w.count) linked.places.ascending own.submit refl refl));
      queues = queues-moved c old new w s (Posted w.count) (queue.Posted old.count) t linked.places.ascending own.submit refl refl
          (ap (λ (n : ℕ). queue.Posted n) (sym t.count)) moves.queues;
      ordinals = λ host. moves.still.ordinals host ∙ (t.ordinals host ∙ sym (same-ordinal w.submits xs host same));
      kept = moves.kept ∙ (ap (λ (ks : List KeptFootprint). without_kept claim.place ks) t.kept ∙ kept-without c claim.place w.claims);
      claims = moves.claims ∙ (ap (λ (ks : List ClaimPlaces). without_place ks claim.place) t.claims
          ∙ places-without claim.place w.claims linked.different);
      store = λ space offset. moves.store space offset
          ∙ (ap (λ (o : Option ℕ). if any_has_byte (regions_of (effect_of_claim c claim).pieces) space offset
          then Some (carried (effect_of_claim c claim).pieces space offset) else o) (t.store space offset)
          ∙ home-again c w.state w.claims claim sound.fits finds sound.clear found space offset);
      out = λ region some. moves.out region some
          ∙ (ap (λ (b : Bool). b && not (is_one_of (regions_of (effect_of_claim c claim).pieces) region)) (t.out region some)
          ∙ back-again c w.claims claim sound.clear found region some);
      slots = moves.slots ∙ t.slots;
      sets = moves.sets ∙ t.sets;
    }

pub finish-stands : (c : Configuration) (commands : ℕ) (old new : Parts) (trail : Trail) (by place : ℕ) (answer : Answer) (claim : OpenClaim)
    → StandFor c commands old trail → IsAllowedIn c commands (world_of c trail) (event.Finish by place answer) → claim_at (world_of c trail).claims place ≡ Some claim
    → FinishMoves old new place claim.request.host claim.request.place (effect_of_claim c claim).pieces
    → StandFor c commands new (trail ++ event.Finish by place answer ∷ [])
finish-stands c commands old new trail by place answer claim stand allowed found moves =
    let w : World = world_of c trail in
    let at : claim.place ≡ place = claim-place w.claims place claim found in
    let here : claim_at w.claims claim.place ≡ Some claim = subst (λ (p : ℕ). claim_at w.claims p ≡ Some claim) (sym at) found in
    let moved : FinishMoves old new claim.place claim.request.host claim.request.place (effect_of_claim c claim).pieces =
    subst (λ (p : ℕ). FinishMoves old new p claim.request.host claim.request.place (effect_of_claim c claim).pieces) (sym at) moves in
    let history : List Completion = w.history ++ completions_by w (event.Finish by place answer) in
    stand-after c commands old new trail (event.Finish by place answer) stand allowed
    (subst (λ (o : Option OpenClaim). AreTied c new (let v : World = record (with_finish c w o) { history = history; count = w.count + 1 } in v)) (sym found)
    (finish-tied c old new w claim history stand.ties (linked-world c commands trail stand.lawful) (sound-world c commands trail stand.lawful) here moved))
    (moves.entries
    ∙ (ap (λ (n : ℕ). old.entries ++ entry_of n claim.request.place ∷ []) stand.ties.count
    ∙ sym (ap (λ (o : Option OpenClaim). old.entries ++ entry_if w.count (option_map (λ (x : OpenClaim). x.request.place) o)) found)))
