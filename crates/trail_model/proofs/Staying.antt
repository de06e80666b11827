-- An open claim stays open, as it was made, until its own party ends it.
use Rattle.std.proofs.Common.{◌≡◌, ℕ, ◌==◌, Bool, true, false, cond, List, [], ◌∷◌, ◌++◌, Option, Some, None, refl, sym, ap, subst, ◌∙◌, if◌then◌else◌}
use Rattle.std.proofs.lemmas.Bool.{true≢false}
use Rattle.cp_base.specs.Configuration.{Configuration}
use Rattle.trail_model.specs.Accounts.{events_of}
use Rattle.trail_model.specs.Lawful.{IsAllowedIn, IsLawful, IsLawfulFrom, MayFinish, Trail, party_of_event, world_from, world_of}
use Rattle.trail_model.specs.World.{OpenClaim, Submission, World, claim_at, claim_by, claim_of, first_world, outstanding_under, submit_at, with_claim, with_done, with_finish, with_take, without_claim, world_after}
use Rattle.trail_model.specs.declared.events.Event.{Event}
use Rattle.trail_model.specs.declared.events.Event.TheVariants as event
use Rattle.trail_model.proofs.Counts.{rest-from, world-append}
use Rattle.trail_model.proofs.Sound.{some-and}
use Rattle.trail_model.proofs.Submits.{claim-place, find-push, other-eqb, same-eqb, some-same}

-- the claim of a party after that of another one is over
pub claim_by-without : (claims : List OpenClaim) (place party : ℕ) (gone : OpenClaim) → claim_at claims place ≡ Some gone → (gone.party ≡ party → ⊥)
    → claim_by (without_claim place claims) party ≡ claim_by claims party
claim_by-without [] place party gone found other = refl
claim_by-without (x ∷ claims) place party gone found other = by_test (x.place == place) found (claim_by-without claims place party gone)
  where
    first : Some x ≡ Some gone → claim_by claims party ≡ claim_by (x ∷ claims) party
    first same =
        let no : (x.party == party) ≡ false = other-eqb x.party party (λ h. other (ap (λ (y : OpenClaim). y.party) (sym (some-same x gone same)) ∙ h)) in
        sym (ap (λ (b : Bool). cond b (Some x) (claim_by claims party)) no)

    by_test : (b : Bool) → cond b (Some x) (claim_at claims place) ≡ Some gone
        → (claim_at claims place ≡ Some gone → (gone.party ≡ party → ⊥) → claim_by (without_claim place claims) party ≡ claim_by claims party)
        → claim_by (if b then claims else x ∷ without_claim place claims) party ≡ claim_by (x ∷ claims) party
    by_test true found later = first found
    by_test false found later = ap (λ (o : Option OpenClaim). cond (x.party == party) (Some x) o) (later found other)

-- an event of another party
pub stays-step : (c : Configuration) (commands : ℕ) (w : World) (e : Event) (party : ℕ) (claim : OpenClaim) → IsAllowedIn c commands w e → (party_of_event e ≡ party → ⊥)
    → claim_by w.claims party ≡ Some claim → claim_by (world_after c w e).claims party ≡ Some claim
stays-step c commands w (event.Submit by cid ordinal cmd) party claim allowed other open_claim = open_claim
stays-step c commands w (event.Claim by host ordinal sent) party claim allowed other open_claim = by_found (submit_at w.submits sent)
  where
    by_found : (o : Option Submission) → claim_by (with_claim c w by o).claims party ≡ Some claim
    by_found None = open_claim
    by_found (Some s) = find-push _ w.claims (claim_of c w by s.request) claim open_claim
stays-step c commands w (event.Finish by place answer) party claim allowed other open_claim =
    let found = some-and (λ (x : OpenClaim). MayFinish c by answer x) (claim_at w.claims place) allowed in
    let at : found.0.place ≡ place = claim-place w.claims place found.0 found.1 in
    subst (λ (o : Option OpenClaim). claim_by (with_finish c w o).claims party ≡ Some claim) (sym found.1)
    (claim_by-without w.claims found.0.place party found.0 (subst (λ (p : ℕ). claim_at w.claims p ≡ Some found.0) (sym at) found.1)
    (λ same. other (sym found.2.own ∙ same)) ∙ open_claim)
stays-step c commands w (event.Do by host ordinal sent answer aborts) party claim allowed other open_claim = by_found (submit_at w.submits sent)
  where
    by_found : (o : Option Submission) → claim_by (with_done c w answer aborts o).claims party ≡ Some claim
    by_found None = open_claim
    by_found (Some s) = open_claim
stays-step c commands w (event.Take by cid posted) party claim allowed other open_claim = by_found (outstanding_under w.submits by cid)
  where
    by_found : (o : Option Submission) → claim_by (with_take w o).claims party ≡ Some claim
    by_found None = open_claim
    by_found (Some s) = open_claim
stays-step c commands w (event.Rest by) party claim allowed other open_claim = open_claim

pub stays-from : (c : Configuration) (commands : ℕ) (w : World) (more : Trail) (party : ℕ) (claim : OpenClaim) → IsLawfulFrom c commands w more → events_of party more ≡ []
    → claim_by w.claims party ≡ Some claim → claim_by (world_from c w more).claims party ≡ Some claim
stays-from c commands w [] party claim lawful none open_claim = open_claim
stays-from c commands w (e ∷ more) party claim lawful none open_claim =
    by_party (party_of_event e == party) refl none
    (λ other rest. stays-from c commands (world_after c w e) more party claim lawful.1 rest (stays-step c commands w e party claim lawful.0 other open_claim))
  where
    by_party : (b : Bool) → (party_of_event e == party) ≡ b → cond b (e ∷ events_of party more) (events_of party more) ≡ []
        → ((party_of_event e ≡ party → ⊥) → events_of party more ≡ [] → claim_by (world_from c (world_after c w e) more).claims party ≡ Some claim)
        → claim_by (world_from c (world_after c w e) more).claims party ≡ Some claim
    by_party true h none later = cc
    by_party false h none later = later (λ same. true≢false (sym (same-eqb (party_of_event e) party same) ∙ h)) none

pub stays-open : (c : Configuration) (commands : ℕ) (seen more : Trail) (party : ℕ) (claim : OpenClaim) → IsLawful c commands (seen ++ more) → events_of party more ≡ []
    → claim_by (world_of c seen).claims party ≡ Some claim → claim_by (world_of c (seen ++ more)).claims party ≡ Some claim
stays-open c commands seen more party claim lawful none open_claim =
    subst (λ (w : World). claim_by w.claims party ≡ Some claim) (sym (world-append c (first_world c) seen more))
    (stays-from c commands (world_of c seen) more party claim (rest-from c commands (first_world c) seen more lawful) none open_claim)
