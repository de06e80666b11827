-- The commands that may be picked, in the world of the trail.
use Rattle.std.proofs.Common.{◌≡◌, ◌∙◌, ℕ, zero, suc, List, [], ◌∷◌, cond, filter, map, length, Some, slice_get, refl, sym, ap, subst, true, false, Bool}
use Rattle.std.specs.List.{AllByRecursion}
use Rattle.std.proofs.lemmas.List.{length-map}
use Rattle.cp_base.specs.Configuration.{Configuration}
use Rattle.trail_model.specs.Fits.{SetFits}
use Rattle.trail_model.specs.Lawful.{Trail, world_of}
use Rattle.trail_model.specs.World.{Submission, World, is_pickable, is_queued, pickable_among, queued_among, submit_at, withdrawn_place}
use Rattle.trail_model.proofs.Linked.{self-found}
use Rattle.trail_model.proofs.Moving.{linked-world}
use Rattle.trail_model.proofs.NewSets.{each-filter}
use Rattle.trail_model.proofs.Submits.{none-some, some-same}
use Rattle.core_model.specs.Asked.{asked_at, asked_by_request}
use Rattle.core_model.specs.declared.places.WaitingSubmit.{WaitingSubmit}
use Rattle.core_model.specs.Picking.{may_pick_asked, pickable_waiting, withdrawn_waiting}
use Rattle.core_model.specs.Ties.{as_waiting}
use Rattle.core_model.proofs.Apart.{sets-fit}
use Rattle.core_model.proofs.Choosing.{got-each, pickable-in, withdrawn-in}
use Rattle.core_model.proofs.Reading.{asked-found}
use Rattle.device_core.specs.Keep.{Holds, parts_of}
use Rattle.device_core.specs.Recorded.{trail_of}
use Rattle.device_core.specs.declared.events.Event.{Event as KeptEvent}
use Rattle.device_core.specs.declared.keep.Keep.{Keep}

-- each set that is kept fits
pub kept-fits : (c : Configuration) (commands : ℕ) (events : List KeptEvent) (spots : ℕ) (k : Keep) → Holds c commands events spots k → AllByRecursion (SetFits c) k.sets
kept-fits c commands events spots k held = sets-fit c commands (parts_of (length events) k) (trail_of events) held.stands

-- so many commands may be picked
pub count-kept : (c : Configuration) (commands : ℕ) (events : List KeptEvent) (spots n : ℕ) (k : Keep) → Holds c commands events spots k
    → n ≡ length (pickable_waiting c (parts_of (length events) k) (trail_of events)) → n ≡ length (pickable_among c (world_of c (trail_of events)))
count-kept c commands events spots n k held counted =
    let among = pickable_among c (world_of c (trail_of events)) in
    counted ∙ (ap (λ (xs : List WaitingSubmit). length xs) (pickable-in c commands (parts_of (length events) k) (trail_of events) held.stands)
    ∙ length-map among as_waiting)

got-map : {A B : Type 0} (f : A → B) (xs : List A) (i : ℕ) (y : B) → slice_get (map f xs) i ≡ Some y → (x : A) × (slice_get xs i ≡ Some x) × (f x ≡ y)
got-map f [] i y e = absurd (none-some y e)
got-map f (x ∷ xs) zero y e = (x, refl, some-same (f x) y e)
got-map f (x ∷ xs) (suc i) y e = got-map f xs i y e

-- a command that a party turns to is the world's of that number: so it was asked for, and withdraws this
pub record TurnsTo (c : Configuration) (w : World) (trail : Trail) (waiting : List WaitingSubmit) (skip : ℕ) (x : WaitingSubmit) : Type 0 where
  pub submit : Submission
  pub found : slice_get (pickable_among c w) skip ≡ Some submit
  pub same : as_waiting submit ≡ x
  pub asked : asked_at trail x.sent ≡ Some (asked_by_request submit.request)
  pub withdraws : withdrawn_waiting waiting x.names ≡ withdrawn_place w.submits submit.request

pub turned-to : (c : Configuration) (commands : ℕ) (events : List KeptEvent) (spots skip : ℕ) (x : WaitingSubmit) (k : Keep) → Holds c commands events spots k
    → slice_get (pickable_waiting c (parts_of (length events) k) (trail_of events)) skip ≡ Some x
    → TurnsTo c (world_of c (trail_of events)) (trail_of events) k.waiting.items skip x
turned-to c commands events spots skip x k held picked =
    let p = parts_of (length events) k in
    let t = trail_of events in
    let w : World = world_of c t in
    let listed : slice_get (map as_waiting (pickable_among c w)) skip ≡ Some x =
    ap (λ (xs : List WaitingSubmit). slice_get xs skip) (sym (pickable-in c commands p t held.stands)) ∙ picked in
    let got = got-map as_waiting (pickable_among c w) skip x listed in
    let s : Submission = got.0 in
    let IsThere : Submission → Type 0 = (λ (y : Submission). submit_at w.submits y.request.place ≡ Some y) in
    let here : submit_at w.submits s.request.place ≡ Some s =
    got-each IsThere (pickable_among c w) skip s
    (each-filter IsThere (λ (y : Submission). is_pickable c w y.request.command) (queued_among w.submits)
    (each-filter IsThere (λ (y : Submission). is_queued y.stage) w.submits (self-found w (linked-world c commands t held.stands.lawful)))) got.1 in
    record {
      submit = s;
      found = got.1;
      same = got.2;
      asked = subst (λ (y : WaitingSubmit). asked_at t y.sent ≡ Some (asked_by_request s.request)) got.2
          (asked-found c commands t s.request.place s held.stands.lawful here);
      withdraws = subst (λ (y : WaitingSubmit). withdrawn_waiting k.waiting.items y.names ≡ withdrawn_place w.submits s.request) got.2
          (withdrawn-in c commands p t s.request held.stands);
    }

-- ---- what is left of a list

got-filter : {A : Type 0} (P : A → Bool) (xs : List A) (i : ℕ) (x : A) → slice_get (filter P xs) i ≡ Some x → (j : ℕ) × (slice_get xs j ≡ Some x) × (P x ≡ true)
got-filter P [] i x e = absurd (none-some x e)
got-filter {A = A} P (y ∷ ys) i x e = by_test (P y) refl i e (λ k h. got-filter P ys k x h)
  where
    by_test : (b : Bool) → P y ≡ b → (k : ℕ) → slice_get (cond b (y ∷ filter P ys) (filter P ys)) k ≡ Some x
        → ((n : ℕ) → slice_get (filter P ys) n ≡ Some x → (j : ℕ) × (slice_get ys j ≡ Some x) × (P x ≡ true))
        → (j : ℕ) × (slice_get (y ∷ ys) j ≡ Some x) × (P x ≡ true)
    by_test false f k h more = (let next = more k h in (suc next.0, next.1, next.2))
    by_test true f zero h more = (zero, h, subst (λ (z : A). P z ≡ true) (some-same y x h) f)
    by_test true f (suc k) h more = (let next = more k h in (suc next.0, next.1, next.2))

-- what may be picked waits
pub picked-waits : (c : Configuration) (events : List KeptEvent) (count skip : ℕ) (x : WaitingSubmit) (k : Keep)
    → slice_get (pickable_waiting c (parts_of count k) (trail_of events)) skip ≡ Some x
    → (i : ℕ) × (slice_get k.waiting.items i ≡ Some x) × (may_pick_asked c (parts_of count k) (asked_at (trail_of events) x.sent) ≡ true)
picked-waits c events count skip x k picked =
    got-filter (λ (y : WaitingSubmit). may_pick_asked c (parts_of count k) (asked_at (trail_of events) y.sent)) k.waiting.items skip x picked
