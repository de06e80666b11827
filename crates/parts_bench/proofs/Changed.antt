-- Claims that are made one after the other, and one that comes and goes.
use Rattle.std.proofs.Common.{◌≡◌, ◌==◌, ℕ, zero, suc, ◌+◌, ◌*◌, ◌≤◌, Bool, true, false, ◌||◌, if◌then◌else◌, List, [], ◌∷◌, ◌++◌, None, Some, find, option_map, length, refl, sym, ap, ◌∙◌, arith}
use Rattle.std.proofs.lemmas.Bool.Decides.{nat_tests}
use Rattle.std.proofs.lemmas.List.{length-append}
use Rattle.cp_base.specs.Region.{Region}
use Rattle.cp_base.specs.declared.region.SpaceId.TheVariants.{Mem}
use Rattle.cp_base.specs.declared.spans.Footprint.{Footprint}
use Rattle.range_claims.specs.Kept.{KeptClaims, footprint_under, is_kept, without_key}
use Rattle.range_claims.specs.declared.claims.Claim.{Claim}
use Rattle.parts_bench.specs.Parts.{claims_of, footprint_at, footprints_between, strided}

pub length-claims_of : (reads writes n : ℕ) → length (claims_of reads writes n) ≡ n
length-claims_of reads writes zero = refl
length-claims_of reads writes (suc n) = length-append (claims_of reads writes n) _ ∙ omega (arith, length-claims_of reads writes n)

pub length-asked_of : (writes n : ℕ) → length (footprints_between writes n) ≡ n
length-asked_of writes zero = refl
length-asked_of writes (suc n) = length-append (footprints_between writes n) _ ∙ omega (arith, length-asked_of writes n)

-- whether one of two is so, where the second decides
later_false : (b c d : Bool) → (b || c) ≡ false → (c ≡ false → d ≡ false) → (b || d) ≡ false
later_false true c d h later = cc
later_false false c d h later = later h

later_true : (b d : Bool) → d ≡ true → (b || d) ≡ true
later_true true d h = refl
later_true false d h = h

-- a claim of another key behind those of which none has it
kept_behind : (key : ℕ) (claims : List Claim) (claim : Claim) → is_kept claims key ≡ false → (claim.key == key) ≡ false → is_kept (claims ++ claim ∷ []) key ≡ false
kept_behind key [] claim none other = cc
kept_behind key (x ∷ claims) claim none other =
    later_false (x.key == key) (is_kept claims key) (is_kept (claims ++ claim ∷ []) key) none (λ h. kept_behind key claims claim h other)

pub new_key : (reads writes n key : ℕ) → n ≤ key → is_kept (claims_of reads writes n) key ≡ false
new_key reads writes zero key h = refl
new_key reads writes (suc n) key h =
    kept_behind key (claims_of reads writes n) (record { key = n; footprint = footprint_at (64 * n) reads writes }) (new_key reads writes n key (omega arith)) (grind (arith, nat_tests))

-- a claim that was put behind those of other keys
pub is_there : (key : ℕ) (claims : List Claim) (footprint : Footprint) → is_kept (claims ++ record { key = key; footprint = footprint } ∷ []) key ≡ true
is_there key [] footprint = grind (arith, nat_tests)
is_there key (x ∷ claims) footprint =
    later_true (x.key == key) (is_kept (claims ++ record { key = key; footprint = footprint } ∷ []) key) (is_there key claims footprint)

pub comes_back : (key : ℕ) (claims : List Claim) (footprint : Footprint) → is_kept claims key ≡ false
    → footprint_under (claims ++ record { key = key; footprint = footprint } ∷ []) key ≡ Some footprint
comes_back key [] footprint none = by_test (key == key) (grind (arith, nat_tests))
  where
    by_test : (b : Bool) → b ≡ true
        → option_map (λ (claim : Claim). claim.footprint) (if b then Some (let own : Claim = record { key = key; footprint = footprint } in own) else None) ≡ Some footprint
    by_test true h = refl
    by_test false h = cc
comes_back key (x ∷ claims) footprint none = by_test (x.key == key) none (λ h. comes_back key claims footprint h)
  where
    by_test : (b : Bool) → (b || is_kept claims key) ≡ false
        → (is_kept claims key ≡ false → footprint_under (claims ++ record { key = key; footprint = footprint } ∷ []) key ≡ Some footprint)
        → option_map (λ (claim : Claim). claim.footprint) (if b then Some x else find (λ (claim : Claim). claim.key == key) (claims ++ record { key = key; footprint = footprint } ∷ [])) ≡ Some footprint
    by_test true h later = cc
    by_test false h later = later h

pub leaves : (key : ℕ) (claims : List Claim) (footprint : Footprint) → is_kept claims key ≡ false
    → without_key key (claims ++ record { key = key; footprint = footprint } ∷ []) ≡ claims
leaves key [] footprint none = by_test (key == key) (record { key = key; footprint = footprint } ∷ []) (grind (arith, nat_tests))
  where
    by_test : (b : Bool) (own : List Claim) → b ≡ true → (if b then [] else own) ≡ []
    by_test true own h = refl
    by_test false own h = cc
leaves key (x ∷ claims) footprint none = by_test (x.key == key) none (λ h. leaves key claims footprint h)
  where
    by_test : (b : Bool) → (b || is_kept claims key) ≡ false
        → (is_kept claims key ≡ false → without_key key (claims ++ record { key = key; footprint = footprint } ∷ []) ≡ claims)
        → (if b then claims ++ record { key = key; footprint = footprint } ∷ [] else x ∷ without_key key (claims ++ record { key = key; footprint = footprint } ∷ [])) ≡ x ∷ claims
    by_test true h later = cc
    by_test false h later = ap (λ (rest : List Claim). x ∷ rest) (later h)

-- one range, one claim and one command more
pub strided_more : (first n : ℕ) (items : List Region) (range : Region) → items ≡ strided first n → range ≡ record { space = Mem 1; start = first + 2048 * n; len = 16 }
    → items ++ range ∷ [] ≡ strided first (n + 1)
strided_more first n items range before is =
    let next : n + 1 ≡ suc n = omega arith in
    ap (λ (all : List Region). all ++ range ∷ []) before ∙ ap (λ (r : Region). strided first n ++ r ∷ []) is ∙ sym (ap (λ (k : ℕ). strided first k) next)

pub claims_more : (reads writes n : ℕ) (claims new : KeptClaims) (footprint : Footprint) → claims ≡ record { most = 32; kept = claims_of reads writes n }
    → footprint ≡ footprint_at (64 * n) reads writes → new ≡ record { most = claims.most; kept = claims.kept ++ record { key = n; footprint = footprint } ∷ [] }
    → new ≡ record { most = 32; kept = claims_of reads writes (n + 1) }
claims_more reads writes n claims new footprint before is added =
    let next : n + 1 ≡ suc n = omega arith in
    let with : KeptClaims → KeptClaims = λ (c : KeptClaims). record { most = c.most; kept = c.kept ++ record { key = n; footprint = footprint } ∷ [] } in
    let of : List Claim → KeptClaims = λ (kept : List Claim). record { most = 32; kept = kept } in
    added ∙ ap with before
    ∙ ap (λ (f : Footprint). of (claims_of reads writes n ++ record { key = n; footprint = f } ∷ [])) is
    ∙ sym (ap (λ (k : ℕ). of (claims_of reads writes k)) next)

pub asked_more : (writes n : ℕ) (items : List Footprint) (footprint : Footprint) → items ≡ footprints_between writes n → footprint ≡ footprint_at (64 * n + 32) 0 writes
    → items ++ footprint ∷ [] ≡ footprints_between writes (n + 1)
asked_more writes n items footprint before is =
    let next : n + 1 ≡ suc n = omega arith in
    ap (λ (all : List Footprint). all ++ footprint ∷ []) before ∙ ap (λ (f : Footprint). footprints_between writes n ++ f ∷ []) is ∙ sym (ap (λ (k : ℕ). footprints_between writes k) next)

-- a round more
pub rounds_more : (rounds each done : ℕ) → done ≡ rounds * each → done + each ≡ (rounds + 1) * each
rounds_more rounds each done before = let next : rounds + 1 ≡ suc rounds = omega arith in ap (λ (d : ℕ). d + each) before ∙ grind (arith, next)

-- a claim of a new key is put behind the others and given back
pub changed : (claims mid new : KeptClaims) (key : ℕ) (f g : Footprint) → is_kept claims.kept key ≡ false
    → mid ≡ record { most = claims.most; kept = claims.kept ++ record { key = key; footprint = f } ∷ [] }
    → footprint_under mid.kept key ≡ Some g → new ≡ record { most = mid.most; kept = without_key key mid.kept } → (new ≡ claims) × (g ≡ f)
changed claims mid new key f g none is found left =
    let after : KeptClaims → KeptClaims = λ (m : KeptClaims). record { most = m.most; kept = without_key key m.kept } in
    let of : List Claim → KeptClaims = λ (kept : List Claim). record { most = claims.most; kept = kept } in
    let same : Some g ≡ Some f = sym found ∙ ap (λ (m : KeptClaims). footprint_under m.kept key) is ∙ comes_back key claims.kept f none in
    (left ∙ ap after is ∙ ap of (leaves key claims.kept f none), cc)
