-- The first claim of a key.
use Rattle.std.proofs.Common.{◌≡◌, ◌==◌, ℕ, zero, suc, ◌+◌, ◌<◌, nat_lt, Bool, true, false, ◌||◌, not, if◌then◌else◌, cond, List, [], ◌∷◌, Option, None, Some, IsSome, find, option_map, length, get_or, arith, refl, ap, ◌∙◌}
use Rattle.std.specs.List.{list_any, position, position_or_len, remove}
use Rattle.std.proofs.lemmas.Bool.Decides.{nat_tests}
use Rattle.cp_base.specs.declared.spans.Footprint.{Footprint}
use Rattle.range_claims.specs.Kept.{footprint_under, is_kept, without_key}
use Rattle.range_claims.specs.declared.claims.Claim.{Claim}

-- where some pass a test, the first of them has a place
step_below : (b c : Bool) (n m : ℕ) → (b || c) ≡ true → (c ≡ true → n < m) → cond (not b) (1 + n) 0 < suc m
step_below true c n m h rest = omega arith
step_below false c n m h rest = omega (arith, rest h)

first_below : {X : Type 0} (p : X → Bool) (xs : List X) → list_any p xs ≡ true → position_or_len p xs < length xs
first_below p [] h = cc
first_below p (x ∷ xs) h = step_below (p x) (list_any p xs) (position_or_len p xs) (length xs) h (first_below p xs)

some_below : (b : Bool) (n : ℕ) → b ≡ true → IsSome (cond b (Some n) None)
some_below true n h = refl
some_below false n h = cc

below_true : (a b : ℕ) → a < b → nat_lt a b ≡ true
below_true a b h = grind (arith, nat_tests)

pub has_place : {X : Type 0} (p : X → Bool) (xs : List X) → list_any p xs ≡ true → IsSome (position p xs)
has_place p xs h = some_below _ (position_or_len p xs) (below_true (position_or_len p xs) (length xs) (first_below p xs h))

-- what a claim of the key gives, and what one of another key leaves
found : (b : Bool) (x : Claim) (rest : Option Claim) → b ≡ true → option_map (λ (claim : Claim). claim.footprint) (cond b (Some x) rest) ≡ Some x.footprint
found true x rest h = refl
found false x rest h = cc

passed : (b : Bool) (x : Claim) (rest : Option Claim) → b ≡ false → option_map (λ (claim : Claim). claim.footprint) (cond b (Some x) rest) ≡ option_map (λ (claim : Claim). claim.footprint) rest
passed true x rest h = cc
passed false x rest h = refl

left : (b : Bool) (some others : List Claim) → b ≡ true → some ≡ (if b then some else others)
left true some others h = refl
left false some others h = cc

stays : (b : Bool) (some others : List Claim) → b ≡ false → others ≡ (if b then some else others)
stays true some others h = cc
stays false some others h = refl

-- the claim of a key at the first place with that key
pub footprint_at : (key : ℕ) (claims : List Claim) (i : ℕ) (d : Claim) → i < length claims → ((get_or claims i d).key == key) ≡ true → ((k : ℕ) → k < i → ((get_or claims k d).key == key) ≡ false)
    → footprint_under claims key ≡ Some (get_or claims i d).footprint
footprint_at key [] i d below here before = absurd (omega arith)
footprint_at key (x ∷ claims) zero d below here before = found (x.key == key) x (find (λ (claim : Claim). claim.key == key) claims) here
footprint_at key (x ∷ claims) (suc i) d below here before =
    passed (x.key == key) x (find (λ (claim : Claim). claim.key == key) claims) (before 0 (omega arith))
    ∙ footprint_at key claims i d (omega arith) here (λ k h. before (suc k) (omega arith))

-- without it
pub removed_at : (key : ℕ) (claims : List Claim) (i : ℕ) (d : Claim) → i < length claims → ((get_or claims i d).key == key) ≡ true → ((k : ℕ) → k < i → ((get_or claims k d).key == key) ≡ false)
    → remove claims i ≡ without_key key claims
removed_at key [] i d below here before = absurd (omega arith)
removed_at key (x ∷ claims) zero d below here before = left (x.key == key) claims (x ∷ without_key key claims) here
removed_at key (x ∷ claims) (suc i) d below here before =
    ap (λ (rest : List Claim). x ∷ rest) (removed_at key claims i d (omega arith) here (λ k h. before (suc k) (omega arith)))
    ∙ stays (x.key == key) claims (x ∷ without_key key claims) (before 0 (omega arith))
