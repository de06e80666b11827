-- A party's turn to the command of a number.
use Rattle.std.proofs.Common.{◌≡◌, ℕ, zero, suc, ◌≤◌, List, [], ◌∷◌, length, map, Option, Some, None, IsSomeAnd, slice_get, refl, sym, ap, subst, ◌∙◌, arith}
use Rattle.std.proofs.lemmas.List.{length-map}
use Rattle.std.proofs.lemmas.Option.{same_Some}
use Rattle.std.specs.List.{AllByRecursion}
use Rattle.cp_base.specs.Answer.{Answer}
use Rattle.cp_base.specs.Configuration.{Configuration}
use Rattle.trail_model.proofs.Linked.{self-found}
use Rattle.trail_model.proofs.Moving.{linked-world}
use Rattle.trail_model.specs.Lawful.{IsLawful, Trail, world_of}
use Rattle.trail_model.specs.World.{Submission, World, is_pickable, is_queued, pickable_among, queued_among, submit_at, withdrawn_place}
use Rattle.trail_model.specs.declared.events.Event.{Event}
use Rattle.trail_model.specs.declared.events.Event.TheVariants as event
use Rattle.core_model.proofs.Choosing.{got-each, pickable-in}
use Rattle.trail_model.proofs.NewSets.{each-filter}
use Rattle.core_model.specs.Asked.{Asked, asked_at}
use Rattle.core_model.specs.Parts.{Parts}
use Rattle.core_model.specs.declared.places.WaitingSubmit.{WaitingSubmit}
use Rattle.core_model.specs.Picking.{pickable_waiting, withdrawn_waiting}
use Rattle.core_model.specs.Ties.{StandFor, as_waiting}
use Rattle.device_core.proofs.Turned.{turned-to}
use Rattle.device_core.specs.Claiming.{HasStore}
use Rattle.device_core.specs.Keep.{HasRoom, Holds, KeepsRoom, parts_of}
use Rattle.device_core.specs.Recorded.{trail_of}
use Rattle.device_core.specs.Turns.{DoesBy}
use Rattle.device_core.specs.declared.events.Event.{Event as KeptEvent}
use Rattle.device_core.specs.declared.keep.Keep.{Keep}

-- ---- the command of a number

-- the submission of a number, whose place this is
pub record At (xs : List Submission) (n place : ℕ) : Type 0 where
  pub submit : Submission
  pub found : slice_get xs n ≡ Some submit
  pub here : submit.request.place ≡ place

got-at : (xs : List Submission) (n : ℕ) (x : WaitingSubmit) → slice_get (map as_waiting xs) n ≡ Some x → At xs n x.sent
got-at [] n x e = cc
got-at (s ∷ xs) zero x e = record { submit = s; found = refl; here = ap (λ (y : WaitingSubmit). y.sent) (same_Some (as_waiting s) x e) }
got-at (s ∷ xs) (suc n) x e =
    let rest = got-at xs n x e in
    record { submit = rest.submit; found = rest.found; here = rest.here }

-- each of these is found by its place
pub each-found : (c : Configuration) (commands : ℕ) (trail : Trail) → IsLawful c commands trail
    → AllByRecursion (λ (s : Submission). submit_at (world_of c trail).submits s.request.place ≡ Some s) (pickable_among c (world_of c trail))
each-found c commands trail lawful =
    let w : World = world_of c trail in
    each-filter (λ (s : Submission). submit_at w.submits s.request.place ≡ Some s) (λ (s : Submission). is_pickable c w s.request.command) (queued_among w.submits)
    (each-filter (λ (s : Submission). submit_at w.submits s.request.place ≡ Some s) (λ (s : Submission). is_queued s.stage) w.submits
    (self-found w (linked-world c commands trail lawful)))

-- what holds of the submit at the place holds of the submission of the number
pub of-number : (c : Configuration) (commands : ℕ) (p : Parts) (trail : Trail) (skip : ℕ) (x : WaitingSubmit) (P : Submission → Type 0) → StandFor c commands p trail
    → slice_get (pickable_waiting c p trail) skip ≡ Some x
    → IsSomeAnd (submit_at (world_of c trail).submits x.sent) P → IsSomeAnd (slice_get (pickable_among c (world_of c trail)) skip) P
of-number c commands p trail skip x P stand found holds =
    let w : World = world_of c trail in
    let picks = pickable_among c w in
    let there = got-at picks skip x (ap (λ (xs : List WaitingSubmit). slice_get xs skip) (sym (pickable-in c commands p trail stand)) ∙ found) in
    let s : Submission = there.submit in
    let self = got-each (λ (y : Submission). submit_at w.submits y.request.place ≡ Some y) picks skip s (each-found c commands trail stand.lawful) there.found in
    let at : submit_at w.submits x.sent ≡ Some s = ap (λ (n : ℕ). submit_at w.submits n) (sym there.here) ∙ self in
    subst (λ (o : Option Submission). IsSomeAnd o P) (sym there.found) (subst (λ (o : Option Submission). IsSomeAnd o P) at holds)

-- ---- a command is done

pub some-and : {A : Type 0} (P Q : A → Type 0) (o : Option A) → ((x : A) → o ≡ Some x → P x → Q x) → IsSomeAnd o P → IsSomeAnd o Q
some-and P Q None f h = absurd h
some-and P Q (Some x) f h = f x refl h

-- the submission of the number is done at once by the event of what was asked for at its place
pub did-number : (c : Configuration) (commands : ℕ) (events : List KeptEvent) (spots by skip : ℕ) (x : WaitingSubmit) (old mid : Keep) (e : Event) → Holds c commands events spots old
    → slice_get (pickable_waiting c (parts_of (length events) old) (trail_of events)) skip ≡ Some x → mid.waiting.items ≡ old.waiting.items
    → IsSomeAnd (asked_at (trail_of events) x.sent) (λ (asked : Asked). (answer : Answer)
    × (e ≡ event.Do by asked.host asked.ordinal x.sent answer (withdrawn_waiting mid.waiting.items x.names)))
    → IsSomeAnd (slice_get (pickable_among c (world_of c (trail_of events))) skip) (λ (s : Submission). DoesBy (world_of c (trail_of events)) by e s)
did-number c commands events spots by skip x old mid e held picked same does =
    let w : World = world_of c (trail_of events) in
    let to = turned-to c commands events spots skip x old held picked in
    let s : Submission = to.submit in
    let told : (answer : Answer) × (e ≡ event.Do by s.request.host s.request.ordinal x.sent answer (withdrawn_waiting mid.waiting.items x.names)) =
    subst (λ (o : Option Asked). IsSomeAnd o (λ (asked : Asked). (answer : Answer)
    × (e ≡ event.Do by asked.host asked.ordinal x.sent answer (withdrawn_waiting mid.waiting.items x.names)))) to.asked does in
    let place : x.sent ≡ s.request.place = sym (ap (λ (y : WaitingSubmit). y.sent) to.same) in
    let withdraws : withdrawn_waiting mid.waiting.items x.names ≡ withdrawn_place w.submits s.request =
    ap (λ (xs : List WaitingSubmit). withdrawn_waiting xs x.names) same ∙ to.withdraws in
    subst (λ (o : Option Submission). IsSomeAnd o (λ (y : Submission). DoesBy w by e y)) (sym to.found) (record {
      answer = told.0;
      event = told.1 ∙ (λ i. event.Do by s.request.host s.request.ordinal (place i) told.0 (withdraws i));
    })

-- what changes but its extents goes on to have room
pub still-room : (old new : Keep) → HasStore old new → KeepsRoom old new
still-room old new has depth commands room = subst (λ (k : Keep). HasRoom depth commands k) (sym has.same) (record {
  waiting = room.waiting;
  entries = room.entries;
  kept = room.kept;
  claims = room.claims;
  queues = room.queues;
  ordinals = room.ordinals;
})

-- ---- nothing is picked

none-behind : {A : Type 0} (xs : List A) (n : ℕ) → slice_get xs n ≡ None → length xs ≤ n
none-behind [] n e = omega arith
none-behind (x ∷ xs) zero e = cc
none-behind (x ∷ xs) (suc n) e = let rest = none-behind xs n e in omega arith

pub few-pickable : (c : Configuration) (commands : ℕ) (p : Parts) (trail : Trail) (skip : ℕ) → StandFor c commands p trail
    → slice_get (pickable_waiting c p trail) skip ≡ None → length (pickable_among c (world_of c trail)) ≤ skip
few-pickable c commands p trail skip stand none =
    let few = none-behind (pickable_waiting c p trail) skip none in
    let same = ap length (pickable-in c commands p trail stand) ∙ length-map (pickable_among c (world_of c trail)) as_waiting in
    omega (arith, same, few)

-- whether all commands are picked
pub none-queued : (c : Configuration) (commands : ℕ) (p : Parts) (trail : Trail) → StandFor c commands p trail → p.waiting ≡ [] → queued_among (world_of c trail).submits ≡ []
none-queued c commands p trail stand e = by_list (queued_among (world_of c trail).submits) (sym stand.ties.waiting ∙ e)
  where
    by_list : (xs : List Submission) → map as_waiting xs ≡ [] → xs ≡ []
    by_list [] h = refl
    by_list (x ∷ xs) h = cc

pub none-waits : (c : Configuration) (commands : ℕ) (p : Parts) (trail : Trail) → StandFor c commands p trail → queued_among (world_of c trail).submits ≡ [] → p.waiting ≡ []
none-waits c commands p trail stand e = stand.ties.waiting ∙ ap (λ (xs : List Submission). map as_waiting xs) e

pub none-left : {A : Type 0} (xs : List A) → length xs ≡ 0 → xs ≡ []
none-left [] e = refl
none-left (x ∷ xs) e = absurd (omega (arith, e))
