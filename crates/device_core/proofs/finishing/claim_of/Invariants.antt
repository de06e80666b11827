use Rattle.std.proofs.Common.{◌≡◌, ◌==◌, drop, find}
use Rattle.core_model.specs.declared.places.ClaimPlaces.{ClaimPlaces}
use Rattle.device_core.proofs.finishing.claim_of.Given as goal

-- what is left has the same
abbrev pub invariant-loop-claim : goal.invariant-loop-claim
invariant-loop-claim l = find (λ (x : ClaimPlaces). x.claim == l.place) (drop l.claim-index l.claims) ≡ find (λ (x : ClaimPlaces). x.claim == l.place) l.claims
