-- Items of lists by their index.
use Rattle.std.proofs.Common.{◌≡◌, ℕ, zero, suc, ◌+◌, ◌<◌, List, [], ◌∷◌, ◌++◌, length, length-append, map, Option, Some, None, subst, sym, arith, slice_get, IsSomeAnd, get_or, drop, ap, refl, ◌∙◌, add-one}
use Rattle.std.specs.List.{AllByRecursion, Contains}
use Rattle.trail_model.proofs.Submits.{none-some, some-same}

-- a list of no items is empty
pub none-left : {A : Type 0} (xs : List A) → length xs ≡ 0 → xs ≡ []
none-left [] e = refl
none-left (x ∷ xs) e = absurd (omega arith)

pub some-weaker : {A : Type 0} (P Q : A → Type 0) (o : Option A) → ((x : A) → P x → Q x) → IsSomeAnd o P → IsSomeAnd o Q
some-weaker P Q None weaker h = h
some-weaker P Q (Some x) weaker h = weaker x h

-- with the item itself
pub some-itself : {A : Type 0} (P Q : A → Type 0) (o : Option A) → ((x : A) → o ≡ Some x → P x → Q x) → IsSomeAnd o P → IsSomeAnd o Q
some-itself P Q None weaker h = h
some-itself P Q (Some x) weaker h = weaker x refl h

pub some-left : {A : Type 0} (P : A → Type 0) (xs ys : List A) (k : ℕ) → IsSomeAnd (slice_get xs k) P → IsSomeAnd (slice_get (xs ++ ys) k) P
some-left P [] ys k h = absurd h
some-left P (x ∷ xs) ys zero h = h
some-left P (x ∷ xs) ys (suc k) h = some-left P xs ys k h

pub some-right : {A : Type 0} (P : A → Type 0) (xs ys : List A) (k j : ℕ) → k ≡ length xs + j → IsSomeAnd (slice_get ys j) P → IsSomeAnd (slice_get (xs ++ ys) k) P
some-right P [] ys k j e h = let same : j ≡ k = omega arith in subst (λ (n : ℕ). IsSomeAnd (slice_get ys n) P) same h
some-right P (x ∷ xs) ys zero j e h = absurd (omega arith)
some-right P (x ∷ xs) ys (suc k) j e h = some-right P xs ys k j (omega arith) h

pub some-map : {A B : Type 0} (P : B → Type 0) (f : A → B) (xs : List A) (k : ℕ) → IsSomeAnd (slice_get xs k) (λ x. P (f x)) → IsSomeAnd (slice_get (map f xs) k) P
some-map P f [] k h = h
some-map P f (x ∷ xs) zero h = h
some-map P f (x ∷ xs) (suc k) h = some-map P f xs k h

drop-suc : {A : Type 0} (xs : List A) (i : ℕ) (x : A) → i < length xs → x ≡ get_or xs i x → drop i xs ≡ x ∷ drop (suc i) xs
drop-suc [] i x below is = absurd (omega arith)
drop-suc (y ∷ xs) zero x below is = ap (λ z. z ∷ xs) (sym is)
drop-suc (y ∷ xs) (suc i) x below is = drop-suc xs i x (omega arith) is

-- what is left from an index on begins with the item there
pub drop-at : {A : Type 0} (xs : List A) (i : ℕ) (x : A) → i < length xs → x ≡ get_or xs i x → drop i xs ≡ x ∷ drop (i + 1) xs
drop-at xs i x below is = drop-suc xs i x below is ∙ ap (λ (n : ℕ). x ∷ drop n xs) (sym (add-one i))

-- where there is an index there is an item
pub some-within : {A : Type 0} (xs : List A) (k : ℕ) → k < length xs → IsSomeAnd (slice_get xs k) (λ x. slice_get xs k ≡ Some x)
some-within [] k h = absurd (omega arith)
some-within (x ∷ xs) zero h = refl
some-within (x ∷ xs) (suc k) h = some-within xs k (omega arith)

pub each-left : {A : Type 0} (P : A → Type 0) (xs ys : List A) → AllByRecursion P (xs ++ ys) → AllByRecursion P xs
each-left P [] ys h = tt
each-left P (x ∷ xs) ys h = (h.0, each-left P xs ys h.1)

pub each-right : {A : Type 0} (P : A → Type 0) (xs ys : List A) → AllByRecursion P (xs ++ ys) → AllByRecursion P ys
each-right P [] ys h = h
each-right P (x ∷ xs) ys h = each-right P xs ys h.1

pub each-at : {A : Type 0} (P : A → Type 0) (xs : List A) (k : ℕ) (x : A) → AllByRecursion P xs → slice_get xs k ≡ Some x → P x
each-at P [] k x h e = absurd (none-some x e)
each-at P (y ∷ xs) zero x h e = subst P (some-same y x e) h.0
each-at P (y ∷ xs) (suc k) x h e = each-at P xs k x h.1 e

-- what holds of each item that the front contains holds of all of the front
pub each-contained : {A : Type 0} (P : A → Type 0) (xs ys : List A) → ((x : A) → Contains (xs ++ ys) x → P x) → AllByRecursion P xs
each-contained P [] ys holds = tt
each-contained P (x ∷ xs) ys holds =
    (holds x (0, omega arith, refl), each-contained P xs ys (λ y found. holds y (suc found.0, (let below = found.1 in omega arith), found.2)))
