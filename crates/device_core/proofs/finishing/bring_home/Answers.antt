-- The claim of the place ends, and its pieces come home.
use Rattle.std.proofs.Common.{◌≡◌, ◌∙◌, ◌+◌, ◌≤◌, ℕ, true, List, Option, None, Some, IsSome, ap, find, length, option_map, refl, rules, subst, sym, ◌==◌}
use Rattle.cp_base.specs.Region.{Region}
use Rattle.queue_pairs.specs.Outstanding.{under}
use Rattle.queue_pairs.specs.Places.{PlacesDiffer}
use Rattle.queue_pairs.specs.declared.command.Outstanding.{Outstanding}
use Rattle.queue_pairs.specs.declared.command.Stage.TheVariants.{Picked}
use Rattle.range_claims.specs.Kept.{is_kept}
use Rattle.trail_model.specs.Pieces.{RegionBytes}
use Rattle.trail_model.proofs.Submits.{none-some, some-same}
use Rattle.core_model.specs.Asked.{Asked, asked_at, asked_by_request}
use Rattle.core_model.specs.Moves.{FinishMoves}
use Rattle.core_model.specs.Ties.{as_places}
use Rattle.core_model.specs.declared.places.ClaimPlaces.{ClaimPlaces}
use Rattle.device_core.specs.Homecoming.{CanComeHome, homebound, writes_under}
use Rattle.device_core.specs.Keep.{parts_of, queue_of}
use Rattle.device_core.specs.Reading.{as_asked}
use Rattle.device_core.specs.Recorded.{trail_of}
use Rattle.device_core.specs.declared.asked.Wanted.{Wanted}
use Rattle.device_core.proofs.Finished.{claim-found, closed-stands, closes}
use Rattle.device_core.proofs.Stands.{few-events}
use Rattle.device_core.proofs.finishing.bring_home.Goals as goal

some-found : (o : Option ClaimPlaces) (x : ClaimPlaces) → o ≡ Some x → IsSome o
some-found None x e = absurd (none-some x e)
some-found (Some y) x e = refl

some-mapped : (o : Option Wanted) (y : Asked) → option_map as_asked o ≡ Some y → IsSome o
some-mapped None y e = absurd (none-some y e)
some-mapped (Some x) y e = refl

pub unwrap-claim-requires : goal.unwrap-claim-requires
unwrap-claim-requires c =
    let h = c.requires.2 in
    let x = closes c.requires.0 c.requires.1 c.args.trail.now c.args.keep.now c.args.place c.args.pieces.items h in
    some-found c.claim_of.result (as_places h.claim)
    (c.claim_of.ensures ∙ (ap (λ (claims : List ClaimPlaces). find (λ (y : ClaimPlaces). y.claim == c.args.place) claims) c.deref.ensures.value ∙ x.places))

pub unwrap-asked-requires : goal.unwrap-asked-requires
unwrap-asked-requires c =
    let h = c.requires.2 in
    let x = closes c.requires.0 c.requires.1 c.args.trail.now c.args.keep.now c.args.place c.args.pieces.items h in
    let is = claim-found _ c.args.keep.now _ c.unwrap-claim.result c.args.trail.now h.claim c.args.place _ _ _ x c.deref.ensures.value c.claim_of.ensures c.unwrap-claim.ensures in
    some-mapped c.asked_in.result (asked_by_request h.claim.request)
    (c.asked_in.ensures ∙ (ap (λ (q : ClaimPlaces). asked_at (trail_of c.args.trail.now) q.sent) is ∙ x.asked))

pub overflow_cast-posted : goal.overflow_cast-posted
overflow_cast-posted c =
    let h = c.requires.2 in
    let few = few-events c.requires.0 c.requires.1 c.args.trail.now h.spots c.args.keep.now h.held in
    search (rules, few)

pub end_claim-requires-clause-host : goal.end_claim-requires-clause-host
end_claim-requires-clause-host c =
    let h = c.requires.2 in
    let x = closes c.requires.0 c.requires.1 c.args.trail.now c.args.keep.now c.args.place c.args.pieces.items h in
    let is = claim-found _ c.args.keep.now _ c.unwrap-claim.result c.args.trail.now h.claim c.args.place _ _ _ x c.deref.ensures.value c.claim_of.ensures c.unwrap-claim.ensures in
    subst (λ (q : ClaimPlaces). (1 ≤ q.host) × (q.host ≤ length c.args.keep.now.queues.items)) (sym is) x.host

pub end_claim-requires-clause-claimed : goal.end_claim-requires-clause-claimed
end_claim-requires-clause-claimed c =
    let h = c.requires.2 in
    let x = closes c.requires.0 c.requires.1 c.args.trail.now c.args.keep.now c.args.place c.args.pieces.items h in
    let is = claim-found _ c.args.keep.now _ c.unwrap-claim.result c.args.trail.now h.claim c.args.place _ _ _ x c.deref.ensures.value c.claim_of.ensures c.unwrap-claim.ensures in
    let asked : as_asked c.unwrap-asked.result ≡ asked_by_request h.claim.request =
    some-same (as_asked c.unwrap-asked.result) (asked_by_request h.claim.request)
    (sym (ap (λ (o : Option Wanted). option_map as_asked o) c.unwrap-asked.ensures)
    ∙ (c.asked_in.ensures ∙ (ap (λ (q : ClaimPlaces). asked_at (trail_of c.args.trail.now) q.sent) is ∙ x.asked))) in
    subst (λ (q : ClaimPlaces). under (queue_of c.args.keep.now.queues.items q.host) c.unwrap-asked.result.cid
    ≡ Some (let w : Outstanding = record { cid = c.unwrap-asked.result.cid; sent = q.sent; stage = Picked } in w)) (sym is)
    (subst (λ (n : ℕ). under (queue_of c.args.keep.now.queues.items h.claim.request.host) n
    ≡ Some (let w : Outstanding = record { cid = n; sent = h.claim.request.place; stage = Picked } in w)) (sym (ap (λ (a : Asked). a.cid) asked)) x.claimed)

pub end_claim-requires-clause-kept : goal.end_claim-requires-clause-kept
end_claim-requires-clause-kept c =
    let h = c.requires.2 in
    let x = closes c.requires.0 c.requires.1 c.args.trail.now c.args.keep.now c.args.place c.args.pieces.items h in
    let is = claim-found _ c.args.keep.now _ c.unwrap-claim.result c.args.trail.now h.claim c.args.place _ _ _ x c.deref.ensures.value c.claim_of.ensures c.unwrap-claim.ensures in
    subst (λ (q : ClaimPlaces). is_kept c.args.keep.now.kept.kept q.claim ≡ true) (sym is) x.kept

pub end_claim-requires-clause-room : goal.end_claim-requires-clause-room
end_claim-requires-clause-room c =
    (closes c.requires.0 c.requires.1 c.args.trail.now c.args.keep.now c.args.place c.args.pieces.items c.requires.2).room

pub end_claim-requires-clause-home : goal.end_claim-requires-clause-home
end_claim-requires-clause-home c =
    let h = c.requires.2 in
    let x = closes c.requires.0 c.requires.1 c.args.trail.now c.args.keep.now c.args.place c.args.pieces.items h in
    let is = claim-found _ c.args.keep.now _ c.unwrap-claim.result c.args.trail.now h.claim c.args.place _ _ _ x c.deref.ensures.value c.claim_of.ensures c.unwrap-claim.ensures in
    subst (λ (q : ClaimPlaces). CanComeHome c.args.keep.now.store (homebound (writes_under c.args.keep.now.kept.kept q.claim) c.args.pieces.items)) (sym is)
    (subst (λ (ps : List RegionBytes). CanComeHome c.args.keep.now.store ps)
    (sym (ap (λ (ws : List Region). homebound ws c.args.pieces.items) x.runs ∙ x.goes)) x.can)

pub returns-clause-stands : goal.returns-clause-stands
returns-clause-stands c config commands by answer h allowed =
    let x = closes config commands c.args.trail.now c.args.keep.now c.args.place c.args.pieces.items h in
    let is = claim-found _ c.args.keep.now _ c.unwrap-claim.result c.args.trail.now h.claim c.args.place _ _ _ x c.deref.ensures.value c.claim_of.ensures c.unwrap-claim.ensures in
    let apart : PlacesDiffer (queue_of c.args.keep.now.queues.items c.unwrap-claim.result.host) =
    subst (λ (q : ClaimPlaces). PlacesDiffer (queue_of c.args.keep.now.queues.items q.host)) (sym is) x.apart in
    closed-stands config commands by c.args.place answer c.args.trail.now c.args.keep.now c.end_claim.new.self c.args.pieces.items h allowed
    (subst (λ (q : ClaimPlaces). FinishMoves (parts_of (length c.args.trail.now) c.args.keep.now) (parts_of (length c.args.trail.now + 1) c.end_claim.new.self)
    q.claim q.host q.sent (homebound (writes_under c.args.keep.now.kept.kept q.claim) c.args.pieces.items)) is (c.end_claim.ensures.moves apart))
