-- Lists: pairs of elements, parts of a list, an element taken out.
use Rattle.std.proofs.Common.{◌≡◌, ℕ, zero, suc, ◌<◌, ◌⊎◌, inl, inr, List, [], ◌∷◌, ◌++◌, length, get_or, map, refl, sym, subst, arith}
use Rattle.std.specs.List.{AllByRecursion, AllPairs, Contains}
use Rattle.std.specs.List.Sorted.{IsPermutation}
use Rattle.std.proofs.lemmas.List.Sorted.{All-permutation, Contains-permutation, IsPermutation-cons, IsPermutation-middle, IsPermutation-refl, IsPermutation-trans}
use Rattle.history_model.proofs.Every.{Pairwise, every-All, every-of-All}
use Rattle.history_model.proofs.OneHistory.{Among}

pub pairwise-of-AllPairs : {A : Type 0} (R : A → A → Type 0) (xs : List A) → AllPairs R xs → Pairwise R xs
pairwise-of-AllPairs R [] all = tt
pairwise-of-AllPairs R (x ∷ xs) all = (
  every-of-All (R x) xs (λ k d below. all 0 (suc k) d (omega arith) (omega arith)),
  pairwise-of-AllPairs R xs (λ i j d before below. all (suc i) (suc j) d (omega arith) (omega arith)),
)

-- the first part of a list and the second one
pub every-front : {A : Type 0} (P : A → Type 0) (xs ys : List A) → AllByRecursion P (xs ++ ys) → AllByRecursion P xs
every-front P [] ys all = tt
every-front P (x ∷ xs) ys all = (all.0, every-front P xs ys all.1)

pub every-back : {A : Type 0} (P : A → Type 0) (xs ys : List A) → AllByRecursion P (xs ++ ys) → AllByRecursion P ys
every-back P [] ys all = all
every-back P (x ∷ xs) ys all = every-back P xs ys all.1

pub pairwise-front : {A : Type 0} (R : A → A → Type 0) (xs ys : List A) → Pairwise R (xs ++ ys) → Pairwise R xs
pairwise-front R [] ys all = tt
pairwise-front R (x ∷ xs) ys all = (every-front (R x) xs ys all.0, pairwise-front R xs ys all.1)

pub pairwise-across : {A : Type 0} (R : A → A → Type 0) (xs ys : List A) → Pairwise R (xs ++ ys) → AllByRecursion (λ x. AllByRecursion (R x) ys) xs
pairwise-across R [] ys all = tt
pairwise-across R (x ∷ xs) ys all = (every-back (R x) xs ys all.0, pairwise-across R xs ys all.1)

pub every-of-map : {A B : Type 0} (P : B → Type 0) (f : A → B) (xs : List A) → AllByRecursion (λ x. P (f x)) xs → AllByRecursion P (map f xs)
every-of-map P f [] all = tt
every-of-map P f (x ∷ xs) all = (all.0, every-of-map P f xs all.1)

-- what holds of each element holds of each of the same in another order
pub every-moved : {A : Type 0} (P : A → Type 0) (xs ys : List A) → IsPermutation xs ys → AllByRecursion P xs → AllByRecursion P ys
every-moved P xs ys moved all = every-of-All P ys (All-permutation P xs ys moved (every-All P xs all))

pub among-contains : {A : Type 0} (xs : List A) (x : A) → Among xs x → Contains xs x
among-contains [] x found = absurd found
among-contains (y ∷ ys) x (inl is) = (0, omega arith, sym is)
among-contains (y ∷ ys) x (inr found) = let h = among-contains ys x found in (suc h.0, (let below = h.1 in omega arith), h.2)

among-at : {A : Type 0} (xs : List A) (x : A) (k : ℕ) → k < length xs → get_or xs k x ≡ x → Among xs x
among-at [] x k below is = absurd (omega arith)
among-at (y ∷ ys) x zero below is = inl (sym is)
among-at (y ∷ ys) x (suc k) below is = inr (among-at ys x k (omega arith) is)

pub contains-among : {A : Type 0} (xs : List A) (x : A) → Contains xs x → Among xs x
contains-among xs x found = among-at xs x found.0 found.1 found.2

pub among-append-left : {A : Type 0} (xs ys : List A) (x : A) → Among xs x → Among (xs ++ ys) x
among-append-left [] ys x found = absurd found
among-append-left (y ∷ xs) ys x (inl is) = inl is
among-append-left (y ∷ xs) ys x (inr found) = inr (among-append-left xs ys x found)

pub among-append-right : {A : Type 0} (xs ys : List A) (x : A) → Among ys x → Among (xs ++ ys) x
among-append-right [] ys x found = found
among-append-right (y ∷ xs) ys x found = inr (among-append-right xs ys x found)

among-more : {A : Type 0} (x : A) (xs ys : List A) → AllByRecursion (Among xs) ys → AllByRecursion (Among (x ∷ xs)) ys
among-more x xs [] all = tt
among-more x xs (y ∷ ys) all = (inr all.0, among-more x xs ys all.1)

pub among-itself : {A : Type 0} (xs : List A) → AllByRecursion (Among xs) xs
among-itself [] = tt
among-itself (x ∷ xs) = (inl refl, among-more x xs xs (among-itself xs))

-- an element taken out, before all others
pub take-out : {A : Type 0} (xs : List A) (x : A) → Among xs x → (rest : List A) × IsPermutation xs (x ∷ rest)
take-out [] x found = absurd found
take-out {A = A} (y ∷ ys) x (inl is) = (ys, subst (λ (z : A). IsPermutation (y ∷ ys) (z ∷ ys)) (sym is) (IsPermutation-refl (y ∷ ys)))
take-out (y ∷ ys) x (inr found) =
    let out = take-out ys x found in
    (y ∷ out.0, IsPermutation-trans (y ∷ ys) (y ∷ x ∷ out.0) (x ∷ y ∷ out.0) (IsPermutation-cons y ys (x ∷ out.0) out.1) (IsPermutation-middle (y ∷ []) x out.0))

-- an element of two parts is one of either
one-later : {A : Type 0} (xs ys : List A) (x y : A) → Among xs x ⊎ Among ys x → Among (y ∷ xs) x ⊎ Among ys x
one-later xs ys x y (inl there) = inl (inr there)
one-later xs ys x y (inr there) = inr there

pub among-parts : {A : Type 0} (xs ys : List A) (x : A) → Among (xs ++ ys) x → Among xs x ⊎ Among ys x
among-parts [] ys x found = inr found
among-parts (y ∷ xs) ys x (inl is) = inl (inl is)
among-parts (y ∷ xs) ys x (inr found) = one-later xs ys x y (among-parts xs ys x found)

-- an element is one of the same in another order
pub among-moved : {A : Type 0} (xs ys : List A) (x : A) → IsPermutation xs ys → Among xs x → Among ys x
among-moved xs ys x moved found = contains-among ys x (Contains-permutation xs ys x moved (among-contains xs x found))
