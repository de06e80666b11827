-- Where regions share bytes.
use Rattle.std.proofs.Common.{◌≡◌, suc, ◌+◌, ◌<◌, List, [], ◌∷◌, Bool, true, false, ◌&&◌, ◌||◌, max, nat_lt, sym, refl, ◌∙◌, ap, arith, All, get_or}
use Rattle.std.specs.Prelude.{AllPairs}
use Rattle.std.proofs.lemmas.Bool.Decides.{nat_tests}
use Rattle.std.proofs.lemmas.Bool.{false_from_ne_true, true≢false}
use Rattle.std.proofs.lemmas.List.Elements.{All-cons}
use Rattle.std.proofs.lemmas.List.Folds.{list_any_none}
use Rattle.std.proofs.lemmas.List.Kept.{AllPairs-cons}
use Rattle.cp_base.specs.Region.{Region}
use Rattle.cp_base.specs.Sharing.{AreDisjoint, HaveCommonByte, any_overlap, meets_any, same_space, shares_byte}
use Rattle.cp_base.specs.declared.region.SpaceId.{SpaceId}
use Rattle.cp_base.specs.declared.region.SpaceId.TheVariants.{Nvm, Mem}

-- the test of two namespaces
pub same_space-true : (a b : SpaceId) → same_space a b ≡ true → a ≡ b
same_space-true (Nvm m) (Nvm n) h = let e : m ≡ n = grind (arith, nat_tests) in ap Nvm e
same_space-true (Mem m) (Mem n) h = let e : m ≡ n = grind (arith, nat_tests) in ap Mem e
same_space-true (Nvm m) (Mem n) h = cc
same_space-true (Mem m) (Nvm n) h = cc

-- a namespace is the same as itself
pub same_space-itself : (a b : SpaceId) → a ≡ b → same_space a b ≡ true
same_space-itself (Nvm m) (Nvm n) e = let f : m ≡ n = cc in grind (arith, nat_tests)
same_space-itself (Mem m) (Mem n) e = let f : m ≡ n = cc in grind (arith, nat_tests)
same_space-itself (Nvm m) (Mem n) e = cc
same_space-itself (Mem m) (Nvm n) e = cc

-- the parts of a test that is true
five_true : (a b c d e : Bool) → (a && (b && (c && (d && e)))) ≡ true → (a ≡ true) × (b ≡ true) × (c ≡ true) × (d ≡ true) × (e ≡ true)
five_true true true true true true h = (refl, refl, refl, refl, refl)
five_true true true true true false h = cc
five_true true true true false e h = cc
five_true true true false d e h = cc
five_true true false c d e h = cc
five_true false b c d e h = cc

-- both parts of a test by "or" that is false
pub both_false : (a b : Bool) → (a || b) ≡ false → (a ≡ false) × (b ≡ false)
both_false true b h = cc
both_false false b h = (refl, h)

pub or_false : (a b : Bool) → a ≡ false → b ≡ false → (a || b) ≡ false
or_false a b e f = cc

-- the parts of the test whether regions share a byte
pub shares_byte-parts : (a b : Region) → shares_byte a b ≡ true → (a.space ≡ b.space) × (0 < a.len) × (0 < b.len) × (a.start < b.start + b.len) × (b.start < a.start + a.len)
shares_byte-parts a b h =
    let p = five_true (same_space a.space b.space) (nat_lt 0 a.len) (nat_lt 0 b.len) (nat_lt a.start (b.start + b.len)) (nat_lt b.start (a.start + a.len)) h in
    (same_space-true a.space b.space p.0, grind (arith, nat_tests), grind (arith, nat_tests), grind (arith, nat_tests), grind (arith, nat_tests))

-- regions of one namespace, of which each begins before the other ends, share a byte
pub shares_byte-from_parts : (a b : Region) → a.space ≡ b.space → 0 < a.len → 0 < b.len → a.start < b.start + b.len → b.start < a.start + a.len → shares_byte a b ≡ true
shares_byte-from_parts a b e p q r s =
    let same = same_space-itself a.space b.space e in
    grind (arith, nat_tests)

-- regions that share a byte have one in common
pub shares_byte-common : (a b : Region) → shares_byte a b ≡ true → HaveCommonByte a b
shares_byte-common a b h =
    let parts = shares_byte-parts a b h in
    (a.space, max a.start b.start, (refl, omega arith, omega arith), (sym parts.0, omega arith, omega arith))

-- regions that have a byte in common share one
pub shares_byte-from_common : (a b : Region) → HaveCommonByte a b → shares_byte a b ≡ true
shares_byte-from_common a b (space, offset, in_a, in_b) =
    shares_byte-from_parts a b (cc (in_a.0, in_b.0)) (omega (arith, in_a.1, in_a.2)) (omega (arith, in_b.1, in_b.2)) (omega (arith, in_a.1, in_a.2, in_b.1, in_b.2)) (omega (arith, in_a.1, in_a.2, in_b.1, in_b.2))

-- regions that share no byte are disjoint
pub AreDisjoint-from_false : (a b : Region) → shares_byte a b ≡ false → AreDisjoint a b
AreDisjoint-from_false a b h = λ space offset in_a in_b.
    let shared = shares_byte-from_common a b (space, offset, in_a, in_b) in
    true≢false (sym shared ∙ h)

-- regions that are disjoint share no byte
pub shares_byte-false : (a b : Region) → AreDisjoint a b → shares_byte a b ≡ false
shares_byte-false a b h =
    false_from_ne_true (shares_byte a b) (λ shared. let common = shares_byte-common a b shared in h common.0 common.1 common.2 common.3)

-- the same of one region and some
pub AreDisjoint-from_unmet : (region : Region) (regions : List Region) → meets_any regions region ≡ false → All (AreDisjoint region) regions
AreDisjoint-from_unmet region [] h = λ k d below. absurd (omega arith)
AreDisjoint-from_unmet region (first ∷ regions) h =
    let parts = both_false (shares_byte region first) (meets_any regions region) h in
    All-cons (AreDisjoint region) first regions (AreDisjoint-from_false region first parts.0) (AreDisjoint-from_unmet region regions parts.1)

pub meets_any-false : (region : Region) (regions : List Region) → All (AreDisjoint region) regions → meets_any regions region ≡ false
meets_any-false region regions h = list_any_none (shares_byte region) regions (λ k d below. shares_byte-false region (get_or regions k d) (h k d below))

-- the pairs of a list without its first item
pub AllPairs-tail : {X : Type 0} (R : X → X → Type 0) (x : X) (xs : List X) → AllPairs R (x ∷ xs) → AllPairs R xs
AllPairs-tail R x xs h = λ i j d before below. h (suc i) (suc j) d (omega arith) (omega arith)

-- the pairs with the first item of a list
pub AllPairs-head : {X : Type 0} (R : X → X → Type 0) (x : X) (xs : List X) → AllPairs R (x ∷ xs) → All (R x) xs
AllPairs-head R x xs h = λ k d below. h 0 (suc k) d (omega arith) (omega arith)

-- regions of which no two share a byte are disjoint
pub AllPairs-from_no_overlap : (regions : List Region) → any_overlap regions ≡ false → AllPairs AreDisjoint regions
AllPairs-from_no_overlap [] h = λ i j d before below. absurd (omega arith)
AllPairs-from_no_overlap (region ∷ regions) h =
    let parts = both_false (meets_any regions region) (any_overlap regions) h in
    AllPairs-cons AreDisjoint region regions (AreDisjoint-from_unmet region regions parts.0) (AllPairs-from_no_overlap regions parts.1)

-- of disjoint regions no two share a byte
pub any_overlap-false : (regions : List Region) → AllPairs AreDisjoint regions → any_overlap regions ≡ false
any_overlap-false [] h = refl
any_overlap-false (region ∷ regions) h =
    let met = meets_any-false region regions (AllPairs-head AreDisjoint region regions h) in
    let rest = any_overlap-false regions (AllPairs-tail AreDisjoint region regions h) in
    or_false (meets_any regions region) (any_overlap regions) met rest
