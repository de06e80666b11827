-- What holds of every element, by recursion on the list.
use Rattle.std.proofs.Common.{suc, Bool, true, false, List, [], ◌∷◌, ◌++◌, cond, map, filter}
use Rattle.std.specs.List.{AllByRecursion, All, AllPairs}
use Rattle.std.proofs.lemmas.List.Elements.{All-cons}
use Rattle.std.proofs.lemmas.List.Kept.{AllPairs-cons}
use Rattle.std.proofs.Common.{arith}

pub every-weaker : {A : Type 0} (P Q : A → Type 0) → ((x : A) → P x → Q x) → (xs : List A) → AllByRecursion P xs → AllByRecursion Q xs
every-weaker P Q weaker [] all = tt
every-weaker P Q weaker (x ∷ xs) all = (weaker x all.0, every-weaker P Q weaker xs all.1)

pub every-append : {A : Type 0} (P : A → Type 0) (xs ys : List A) → AllByRecursion P xs → AllByRecursion P ys → AllByRecursion P (xs ++ ys)
every-append P [] ys front back = back
every-append P (x ∷ xs) ys front back = (front.0, every-append P xs ys front.1 back)

pub every-map : {A B : Type 0} (P : B → Type 0) (f : A → B) (xs : List A) → AllByRecursion (λ x. P (f x)) xs → AllByRecursion P (map f xs)
every-map P f [] all = tt
every-map P f (x ∷ xs) all = (all.0, every-map P f xs all.1)

kept : {A : Type 0} (P : A → Type 0) (test : Bool) (x : A) (xs : List A) → P x → AllByRecursion P xs → AllByRecursion P (cond test (x ∷ xs) xs)
kept P true x xs here rest = (here, rest)
kept P false x xs here rest = rest

pub every-filter : {A : Type 0} (P : A → Type 0) (test : A → Bool) (xs : List A) → AllByRecursion P xs → AllByRecursion P (filter test xs)
every-filter P test [] all = tt
every-filter P test (x ∷ xs) all = kept P (test x) x (filter test xs) all.0 (every-filter P test xs all.1)

pub every-All : {A : Type 0} (P : A → Type 0) (xs : List A) → AllByRecursion P xs → All P xs
every-All P [] all = λ k d below. absurd (omega arith)
every-All P (x ∷ xs) all = All-cons P x xs all.0 (every-All P xs all.1)

pub every-of-All : {A : Type 0} (P : A → Type 0) (xs : List A) → All P xs → AllByRecursion P xs
every-of-All P [] all = tt
every-of-All P (x ∷ xs) all = (all 0 x (omega arith), every-of-All P xs (λ k d below. all (suc k) d (omega arith)))

-- each element has the relation to each later one
abbrev pub Pairwise : {A : Type 0} → (A → A → Type 0) → List A → Type 0
Pairwise R [] = Unit {0}
Pairwise R (x ∷ xs) = AllByRecursion (R x) xs × Pairwise R xs

pub pairwise-AllPairs : {A : Type 0} (R : A → A → Type 0) (xs : List A) → Pairwise R xs → AllPairs R xs
pairwise-AllPairs R [] all = λ i j d before below. absurd (omega arith)
pairwise-AllPairs R (x ∷ xs) all = AllPairs-cons R x xs (every-All (R x) xs all.0) (pairwise-AllPairs R xs all.1)

pub pairwise-append : {A : Type 0} (R : A → A → Type 0) (xs ys : List A) → Pairwise R xs → Pairwise R ys
    → AllByRecursion (λ x. AllByRecursion (R x) ys) xs → Pairwise R (xs ++ ys)
pairwise-append R [] ys front back across = back
pairwise-append R (x ∷ xs) ys front back across =
    (every-append (R x) xs ys front.0 across.0, pairwise-append R xs ys front.1 back across.1)
