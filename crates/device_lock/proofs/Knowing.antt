-- What a pass knows of the trail that it fits.
use Rattle.std.proofs.Common.{◌≡◌, ◌≢◌, ℕ, ◌+◌, ◌==◌, Bool, true, false, cond, List, [], ◌∷◌, ◌++◌, length, length-append, Option, Some, None, is_none, option_map, refl, sym, ap, subst, ◌∙◌, arith, IsTrue}
use Rattle.std.proofs.lemmas.Bool.{true≢false}
use Rattle.std.proofs.lemmas.List.Elements.{filter-append}
use Rattle.std.specs.List.{AllByRecursion}
use Rattle.cp_base.specs.Configuration.{Configuration}
use Rattle.seat_lock.specs.Passes.{made_by, party_of, seen_by}
use Rattle.seat_lock.specs.Trails.{FitsTrail}
use Rattle.trail_model.specs.Accounts.{Account, account_after, account_from, account_in, account_of, events_of, first_account}
use Rattle.trail_model.specs.Each.{EachTwo}
use Rattle.trail_model.specs.Lawful.{IsLawful, Trail, is_idle, party_of_event, world_of}
use Rattle.trail_model.specs.Linked.{AreDifferent}
use Rattle.trail_model.specs.World.{OpenClaim, Submission, World, claim_at, claim_by, claim_of, first_world, is_pickable, is_queued, pickable_among, queued_among, submit_at, with_claim, world_after}
use Rattle.trail_model.specs.declared.events.Event.{Event}
use Rattle.trail_model.specs.declared.events.Event.TheVariants as event
use Rattle.trail_model.proofs.Accounts.{own-account}
use Rattle.trail_model.proofs.Counts.{world-append}
use Rattle.trail_model.proofs.Linked.{self-found}
use Rattle.trail_model.proofs.Moving.{linked-world}
use Rattle.trail_model.proofs.NewSets.{each-filter}
use Rattle.trail_model.proofs.Staying.{stays-open}
use Rattle.trail_model.proofs.Submits.{eqb-same, find-new, found-each, found-test, none-some, other-eqb, same-eqb, some-same}
use Rattle.device_lock.specs.Names.{DeviceName}
use Rattle.device_lock.specs.Jobs.{HasClaim}
use Rattle.device_lock.specs.Passes.{DevicePass, IsIdle, IsOfDevice}

none-left : {A : Type 0} (xs : List A) → length xs ≡ 0 → xs ≡ []
none-left [] e = refl
none-left (x ∷ xs) e = absurd (omega arith)

-- where a party made no more in a trail than in its beginning, it made nothing behind that
none-behind : (party : ℕ) (seen more mine : Trail) → events_of party (seen ++ more) ≡ mine → events_of party seen ≡ mine → events_of party more ≡ []
none-behind party seen more mine whole own =
    let both : length (events_of party (seen ++ more)) ≡ length (events_of party seen ++ events_of party more) = ap length (filter-append (λ (e : Event). party_of_event e == party) seen more) in
    let sizes = length-append (events_of party seen) (events_of party more) in
    let a : length (events_of party (seen ++ more)) ≡ length mine = ap length whole in
    let b : length (events_of party seen) ≡ length mine = ap length own in
    none-left (events_of party more) (omega arith)

-- ---- accounts

pub account-push : (a : Account) (mine : Trail) (e : Event) → account_from a (mine ++ e ∷ []) ≡ account_after (account_from a mine) e
account-push a [] e = refl
account-push a (x ∷ mine) e = account-push (account_after a x) mine e

-- what a pass made tells its party's account in each trail that it fits
pub fits-account : (d : DeviceName) (p : DevicePass) (trail : Trail) → IsLawful d.config d.commands trail → FitsTrail party_of_event (party_of p) (seen_by p) (made_by p) trail
    → account_of (made_by p) ≡ account_in (world_of d.config trail) (party_of p)
fits-account d p trail lawful fits =
    subst (λ (mine : Trail). account_of mine ≡ account_in (world_of d.config trail) (party_of p)) fits.1 (own-account d.config d.commands trail (party_of p) lawful)

unmapped : {A B : Type 0} (f : A → B) (o : Option A) → option_map f o ≡ None → is_none o ≡ true
unmapped f None e = refl
unmapped f (Some x) e = absurd (none-some (f x) (sym e))

-- an idle pass has no open claim in a trail that it fits
pub idle-there : (d : DeviceName) (p : DevicePass) (trail : Trail) → IsLawful d.config d.commands trail → FitsTrail party_of_event (party_of p) (seen_by p) (made_by p) trail
    → IsIdle p → is_idle (world_of d.config trail) (party_of p) ≡ true
idle-there d p trail lawful fits idle =
    unmapped _ (claim_by (world_of d.config trail).claims (party_of p)) (sym (ap (λ (a : Account). a.claim) (fits-account d p trail lawful fits)) ∙ idle)

-- ---- open claims

found-at : (claims : List OpenClaim) (party : ℕ) (claim : OpenClaim) → EachTwo AreDifferent claims → claim_by claims party ≡ Some claim → claim_at claims claim.place ≡ Some claim
found-at [] party claim differ e = absurd (none-some claim e)
found-at (first ∷ claims) party claim differ e = by_test (first.party == party) e (λ later. found-at claims party claim differ.1 later)
  where
    by_test : (b : Bool) → cond b (Some first) (claim_by claims party) ≡ Some claim → (claim_by claims party ≡ Some claim → claim_at claims claim.place ≡ Some claim)
        → cond (first.place == claim.place) (Some first) (claim_at claims claim.place) ≡ Some claim
    by_test true e later =
        let same : first ≡ claim = some-same first claim e in
        ap (λ (b : Bool). cond b (Some first) (claim_at claims claim.place)) (same-eqb first.place claim.place (ap (λ (y : OpenClaim). y.place) same)) ∙ ap (λ (y : OpenClaim). Some y) same
    by_test false e later =
        let apart : AreDifferent first claim = found-each (AreDifferent first) _ claims claim differ.0 e in
        ap (λ (b : Bool). cond b (Some first) (claim_at claims claim.place)) (other-eqb first.place claim.place apart.places) ∙ later e

-- a claim of a pass in a trail that it fits
pub record IsOpenThere (c : Configuration) (trail : Trail) (party place : ℕ) (claim : OpenClaim) : Type 0 where
  pub found : claim_at (world_of c trail).claims place ≡ Some claim
  pub own : claim.party ≡ party

pub open-there : (d : DeviceName) (p : DevicePass) (place : ℕ) (claim : OpenClaim) (trail : Trail) → HasClaim d p place claim → IsLawful d.config d.commands trail
    → FitsTrail party_of_event (party_of p) (seen_by p) (made_by p) trail → IsOpenThere d.config trail (party_of p) place claim
open-there d p place claim trail has lawful fits =
    let is : trail ≡ seen_by p ++ fits.0.0 = fits.0.1 in
    let none = none-behind (party_of p) (seen_by p) fits.0.0 (made_by p) (subst (λ (t : Trail). events_of (party_of p) t ≡ made_by p) is fits.1) has.of_device.lock.own in
    let there : claim_by (world_of d.config trail).claims (party_of p) ≡ Some claim =
    subst (λ (t : Trail). claim_by (world_of d.config t).claims (party_of p) ≡ Some claim) (sym is)
    (stays-open d.config d.commands (seen_by p) fits.0.0 (party_of p) claim (subst (λ (t : Trail). IsLawful d.config d.commands t) is lawful) none has.opened) in
    record {
      found = subst (λ (n : ℕ). claim_at (world_of d.config trail).claims n ≡ Some claim) has.at_place
          (found-at (world_of d.config trail).claims (party_of p) claim (linked-world d.config d.commands trail lawful).different there);
      own = eqb-same claim.party (party_of p) (found-test (λ (x : OpenClaim). x.party == party_of p) (world_of d.config trail).claims claim there);
    }

-- ---- new claims

pub world-then : (c : Configuration) (seen : Trail) (e : Event) → world_of c (seen ++ e ∷ []) ≡ world_after c (world_of c seen) e
world-then c seen e = world-append c (first_world c) seen (e ∷ [])

each-get : {A : Type 0} (P : A → Type 0) (xs : List A) (x : A) → AllByRecursion P xs → Rattle.std.specs.Prelude.slice_get xs 0 ≡ Some x → P x
each-get P [] x all e = absurd (none-some x e)
each-get P (y ∷ xs) x all e = subst P (some-same y x e) all.0

-- the first command that may be picked is found at its place
pub first-found : (c : Configuration) (commands : ℕ) (trail : Trail) (s : Submission) → IsLawful c commands trail
    → Rattle.std.specs.Prelude.slice_get (pickable_among c (world_of c trail)) 0 ≡ Some s → submit_at (world_of c trail).submits s.request.place ≡ Some s
first-found c commands trail s lawful is =
    let w : World = world_of c trail in
    let Found : Submission → Type 0 = λ (x : Submission). submit_at w.submits x.request.place ≡ Some x in
    each-get Found (pickable_among c w) s
    (each-filter Found (λ (x : Submission). is_pickable c w x.request.command) (queued_among w.submits)
    (each-filter Found (λ (x : Submission). is_queued x.stage) w.submits (self-found w (linked-world c commands trail lawful)))) is

is-none : {A : Type 0} (o : Option A) → is_none o ≡ true → o ≡ None
is-none None e = refl
is-none (Some x) e = absurd (true≢false (sym e))

-- an idle party that claims it has the claim from then on
pub claim-made : (c : Configuration) (commands : ℕ) (trail : Trail) (by : ℕ) (s : Submission) → IsLawful c commands trail
    → Rattle.std.specs.Prelude.slice_get (pickable_among c (world_of c trail)) 0 ≡ Some s → is_idle (world_of c trail) by ≡ true
    → claim_by (world_of c (trail ++ event.Claim by s.request.host s.request.ordinal s.request.place ∷ [])).claims by ≡ Some (claim_of c (world_of c trail) by s.request)
claim-made c commands trail by s lawful is idle =
    let w : World = world_of c trail in
    let made : claim_by (with_claim c w by (Some s)).claims by ≡ Some (claim_of c w by s.request) =
    find-new (λ (x : OpenClaim). x.party == by) w.claims (claim_of c w by s.request) (is-none (claim_by w.claims by) idle) (same-eqb by by refl) in
    subst (λ (v : World). claim_by v.claims by ≡ Some (claim_of c w by s.request)) (sym (world-then c trail (event.Claim by s.request.host s.request.ordinal s.request.place)))
    (subst (λ (o : Option Submission). claim_by (with_claim c w by o).claims by ≡ Some (claim_of c w by s.request)) (sym (first-found c commands trail s lawful is)) made)
