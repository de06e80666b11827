-- What is behind the lock after a call of the core.
use Rattle.std.proofs.Common.{◌≡◌, ℕ, ◌+◌, Bool, true, false, List, [], ◌∷◌, ◌++◌, length, length-append, Option, Some, None, is_some, option_map, slice_get, refl, sym, ap, subst, ◌∙◌, arith, IsSomeAnd, if◌then◌else◌, Bor}
use Rattle.std.specs.Prelude.{option_copied}
use Rattle.std.proofs.lemmas.Bool.{true≢false}
use Rattle.trail_model.specs.World.{Submission, pickable_among}
use Rattle.trail_model.specs.declared.events.Event.{Event}
use Rattle.trail_model.specs.declared.events.Event.TheVariants as event
use Rattle.trail_model.proofs.Sound.{some-and}
use Rattle.trail_model.proofs.Submits.{none-some}
use Rattle.job_run.specs.declared.work.Work.{Work}
use Rattle.device_core.specs.Gives.{Claims, world_in}
use Rattle.device_core.specs.Recorded.{Recorded, with_event}
use Rattle.device_lock.specs.Given.{GivesFirst}
use Rattle.device_lock.specs.declared.kept.Given.TheVariants as given

get-last : {A : Type 0} (xs : List A) (y : A) → slice_get (xs ++ y ∷ []) (length xs) ≡ Some y
get-last [] y = refl
get-last (x ∷ xs) y = get-last xs y

get-behind : {A : Type 0} (xs : List A) → slice_get xs (length xs) ≡ None
get-behind [] = refl
get-behind (x ∷ xs) = get-behind xs

-- ---- claims

-- the claim's event stands at its place
pub claim-there : (old new : Recorded) (by claim : ℕ) (work : Work) (claims : IsSomeAnd (slice_get (pickable_among old.config (world_in old)) 0) (λ (s : Submission). Claims old new by s work))
    → claim ≡ length old.trail → (b : ℕ) × (host : ℕ) × (ordinal : ℕ) × (sent : ℕ) × (slice_get new.trail claim ≡ Some (event.Claim b host ordinal sent))
claim-there old new by claim work claims at =
    let found = some-and (λ (s : Submission). Claims old new by s work) (slice_get (pickable_among old.config (world_in old)) 0) claims in
    let s : Submission = found.0 in
    let e : Event = event.Claim by s.request.host s.request.ordinal s.request.place in
    let has : Claims old new by s work = found.2 in (
      by,
      s.request.host,
      s.request.ordinal,
      s.request.place,
      ap (λ (r : Recorded). slice_get r.trail claim) has.event ∙ (ap (λ (n : ℕ). slice_get (old.trail ++ e ∷ []) n) at ∙ get-last old.trail e),
    )

-- what is read there names the command that was claimed
pub claim-named : (old new : Recorded) (by claim host ordinal : ℕ) (work : Work)
    → IsSomeAnd (slice_get (pickable_among old.config (world_in old)) 0) (λ (s : Submission). Claims old new by s work) → claim ≡ length old.trail
    → ((b h o s : ℕ) → slice_get new.trail claim ≡ Some (event.Claim b h o s) → (host ≡ h) × (ordinal ≡ o))
    → GivesFirst old by (given.Claimed work claim host ordinal) new
claim-named old new by claim host ordinal work claims at named =
    let found = some-and (λ (s : Submission). Claims old new by s work) (slice_get (pickable_among old.config (world_in old)) 0) claims in
    let s : Submission = found.0 in
    let e : Event = event.Claim by s.request.host s.request.ordinal s.request.place in
    let has : Claims old new by s work = found.2 in
    let names = named by s.request.host s.request.ordinal s.request.place
    (ap (λ (r : Recorded). slice_get r.trail claim) has.event ∙ (ap (λ (n : ℕ). slice_get (old.trail ++ e ∷ []) n) at ∙ get-last old.trail e)) in (
      at,
      subst (λ (o : Option Submission). IsSomeAnd o (λ (x : Submission). Claims old new by x work × (x.request.host ≡ host) × (x.request.ordinal ≡ ordinal))) (sym found.1)
          (has, sym names.0, sym names.1),
    )

-- ---- rests

copied-some : {A B : Type 0} (f : A → B) (o : Option (Bor A)) → is_some (option_map f (option_copied o)) ≡ is_some o
copied-some f None = refl
copied-some f (Some x) = refl

some-is : {A : Type 0} (o o' : Option A) → o ≡ o' → is_some o ≡ is_some o'
some-is o o' e = ap is_some e

-- after a rest there is an event at the place behind the old trail exactly where one was added
pub rest-counted : {A : Type 0} (old new : Recorded) (by events : ℕ) (f : A → Event) (o : Option (Bor A)) (b : Bool)
    → new ≡ (if (world_in old).at_rest then old else with_event old (event.Rest by)) → events ≡ length old.trail
    → option_map f (option_copied o) ≡ slice_get new.trail events → b ≡ is_some o → length new.trail ≡ (if b then events + 1 else events)
rest-counted old new by events f o b rests count there test =
    by_rest (world_in old).at_rest rests
  where
    shown : b ≡ is_some (slice_get new.trail events)
    shown = test ∙ (sym (copied-some f o) ∙ ap is_some there)

    by_rest : (rest : Bool) → new ≡ (if rest then old else with_event old (event.Rest by)) → length new.trail ≡ (if b then events + 1 else events)
    by_rest true is =
        let none : b ≡ false = shown ∙ (λ i. is_some (slice_get ((is i).trail) (count i))) ∙ ap is_some (get-behind old.trail) in
        ap (λ (r : Recorded). length r.trail) is ∙ (sym count ∙ ap (λ (t : Bool). if t then events + 1 else events) (sym none))
    by_rest false is =
        let one : b ≡ true = shown ∙ (λ i. is_some (slice_get ((is i).trail) (count i))) ∙ ap is_some (get-last old.trail (event.Rest by)) in
        let longer = length-append old.trail (event.Rest by ∷ []) in
        let more : length (old.trail ++ event.Rest by ∷ []) ≡ events + 1 = omega arith in
        ap (λ (r : Recorded). length r.trail) is ∙ (more ∙ ap (λ (t : Bool). if t then events + 1 else events) (sym one))

pub same-commands : (old new : Recorded) (by : ℕ) → new ≡ (if (world_in old).at_rest then old else with_event old (event.Rest by)) → new.commands ≡ old.commands
same-commands old new by rests = by_rest (world_in old).at_rest rests
  where
    by_rest : (rest : Bool) → new ≡ (if rest then old else with_event old (event.Rest by)) → new.commands ≡ old.commands
    by_rest true is = ap (λ (r : Recorded). r.commands) is
    by_rest false is = ap (λ (r : Recorded). r.commands) is
