-- The claim at the first place of its key is taken out.
use Rattle.std.proofs.Common.{◌≡◌, ◌==◌, List, Option, Some, IsSome, ℕ, ap, sym, subst, ◌∙◌}
use Rattle.std.specs.List.{position}
use Rattle.std.proofs.lemmas.List.Quantifiers.{position-Some}
use Rattle.range_claims.specs.declared.claims.Claim.{Claim}
use Rattle.range_claims.proofs.Keys.{footprint_at, has_place, removed_at}
use Rattle.range_claims.proofs.claims.take_out.Goals as goal

-- the place that was found in the same claims
same_place : (key : ℕ) (claims others : List Claim) (found answer : Option ℕ) → others ≡ claims → found ≡ position (λ (claim : Claim). claim.key == key) others → found ≡ answer
    → position (λ (claim : Claim). claim.key == key) claims ≡ answer
same_place key claims others found answer e f g = ap (λ (cs : List Claim). position (λ (claim : Claim). claim.key == key) cs) (sym e) ∙ sym f ∙ g

pub unwrap-place-requires : goal.unwrap-place-requires
unwrap-place-requires c =
    let some = has_place (λ (claim : Claim). claim.key == c.args.key) c.args.kept.now.items c.requires in
    let same = ap (λ (cs : List Claim). position (λ (claim : Claim). claim.key == c.args.key) cs) (sym c.as_slice.ensures.value) ∙ sym c.place_of.ensures in
    subst (λ (o : Option ℕ). IsSome o) same some

pub returns-clause-footprint : goal.returns-clause-footprint
returns-clause-footprint c =
    let there = same_place c.args.key c.args.kept.now.items _ _ _ c.as_slice.ensures.value c.place_of.ensures c.unwrap-place.ensures in
    let here = position-Some (λ (claim : Claim). claim.key == c.args.key) c.args.kept.now.items c.unwrap-place.result c.remove.result there in
    footprint_at c.args.key c.args.kept.now.items c.unwrap-place.result c.remove.result here.0 here.1 here.2
    ∙ ap (λ (claim : Claim). Some claim.footprint) (sym c.remove.ensures.value)

pub returns-clause-kept : goal.returns-clause-kept
returns-clause-kept c =
    let there = same_place c.args.key c.args.kept.now.items _ _ _ c.as_slice.ensures.value c.place_of.ensures c.unwrap-place.ensures in
    let here = position-Some (λ (claim : Claim). claim.key == c.args.key) c.args.kept.now.items c.unwrap-place.result c.remove.result there in
    c.remove.ensures.items ∙ removed_at c.args.key c.args.kept.now.items c.unwrap-place.result c.remove.result here.0 here.1 here.2
