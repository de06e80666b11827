-- Elements of a list by their places.
use Rattle.std.proofs.Common.{◌≡◌, ℕ, zero, suc, ◌+◌, ◌<◌, ◌≤◌, Bool, true, false, ◌⊎◌, inl, inr, List, [], ◌∷◌, ◌++◌, length, map, drop, take, get_or, Option, Some, None, refl, sym, ap, subst, ◌∙◌, arith}
use Rattle.std.specs.Prelude.{slice_get, slice_set}
use Rattle.std.specs.List.{AllByRecursion}
use Rattle.std.proofs.lemmas.Bool.{cases_order}
use Rattle.history_model.specs.Sent.{Sent}
use Rattle.history_model.proofs.Every.{Pairwise}
use Rattle.history_model.proofs.OneHistory.{Among, every-among}
use Rattle.history_model.proofs.Order.{Precedes}

pub some-is : {A : Type 0} (a b : A) → Some a ≡ Some b → a ≡ b
some-is a b e = cc

pub not-none : {A : Type 0} (a : A) → None ≡ Some a → ⊥
not-none a e = cc

pub within : {A : Type 0} (xs : List A) (k : ℕ) (x : A) → slice_get xs k ≡ Some x → k < length xs
within [] k x e = absurd (not-none x e)
within (y ∷ ys) zero x e = omega arith
within (y ∷ ys) (suc k) x e = let below = within ys k x e in omega (arith, below)

pub has-place : {A : Type 0} (xs : List A) (k : ℕ) → k < length xs → (x : A) × (slice_get xs k ≡ Some x)
has-place [] k below = absurd (omega (arith, below))
has-place (y ∷ ys) zero below = (y, refl)
has-place (y ∷ ys) (suc k) below = has-place ys k (omega (arith, below))

pub at-among : {A : Type 0} (xs : List A) (k : ℕ) (x : A) → slice_get xs k ≡ Some x → Among xs x
at-among [] k x e = absurd (not-none x e)
at-among (y ∷ ys) zero x e = inl (sym (some-is y x e))
at-among (y ∷ ys) (suc k) x e = inr (at-among ys k x e)

pub among-place : {A : Type 0} (xs : List A) (x : A) → Among xs x → (k : ℕ) × (slice_get xs k ≡ Some x)
among-place [] x found = absurd found
among-place (y ∷ ys) x (inl is) = (0, ap (λ z. Some z) (sym is))
among-place (y ∷ ys) x (inr found) = let h = among-place ys x found in (suc h.0, h.1)

-- the last of one more element
pub pushed-cases : {A : Type 0} (xs : List A) (y : A) (k : ℕ) (x : A) → slice_get (xs ++ y ∷ []) k ≡ Some x → (slice_get xs k ≡ Some x) ⊎ ((k ≡ length xs) × (y ≡ x))
pushed-cases [] y zero x e = inr (refl, some-is y x e)
pushed-cases [] y (suc k) x e = absurd (not-none x e)
pushed-cases (z ∷ zs) y zero x e = inl e
pushed-cases (z ∷ zs) y (suc k) x e = later (pushed-cases zs y k x e)
  where
    later : (slice_get zs k ≡ Some x) ⊎ ((k ≡ length zs) × (y ≡ x)) → (slice_get zs k ≡ Some x) ⊎ ((suc k ≡ length (z ∷ zs)) × (y ≡ x))
    later (inl there) = inl there
    later (inr (at, is)) = inr (omega (arith, at), is)

pub pushed-left : {A : Type 0} (xs : List A) (y : A) (k : ℕ) (x : A) → slice_get xs k ≡ Some x → slice_get (xs ++ y ∷ []) k ≡ Some x
pushed-left [] y k x e = absurd (not-none x e)
pushed-left (z ∷ zs) y zero x e = e
pushed-left (z ∷ zs) y (suc k) x e = pushed-left zs y k x e

pub pushed-last : {A : Type 0} (xs : List A) (y : A) → slice_get (xs ++ y ∷ []) (length xs) ≡ Some y
pushed-last [] y = refl
pushed-last (z ∷ zs) y = pushed-last zs y

-- one element is set
pub set-there : {A : Type 0} (xs : List A) (k : ℕ) (y : A) → k < length xs → slice_get (slice_set xs k y) k ≡ Some y
set-there [] k y below = absurd (omega (arith, below))
set-there (x ∷ xs) zero y below = refl
set-there (x ∷ xs) (suc k) y below = set-there xs k y (omega (arith, below))

pub set-other : {A : Type 0} (xs : List A) (k j : ℕ) (y : A) → (j ≡ k → ⊥) → slice_get (slice_set xs k y) j ≡ slice_get xs j
set-other [] k j y apart = refl
set-other (x ∷ xs) zero zero y apart = absurd (apart refl)
set-other (x ∷ xs) zero (suc j) y apart = refl
set-other (x ∷ xs) (suc k) zero y apart = refl
set-other (x ∷ xs) (suc k) (suc j) y apart = set-other xs k j y (λ e. apart (ap (λ n. suc n) e))

-- what is true stays true where one more is set true
pub set-true : (over : List Bool) (k j : ℕ) → slice_get over j ≡ Some true → slice_get (slice_set over k true) j ≡ Some true
set-true [] k j e = e
set-true (b ∷ over) zero zero e = refl
set-true (b ∷ over) zero (suc j) e = e
set-true (b ∷ over) (suc k) zero e = e
set-true (b ∷ over) (suc k) (suc j) e = set-true over k j e

pub set-length : {A : Type 0} (xs : List A) (k : ℕ) (y : A) → length (slice_set xs k y) ≡ length xs
set-length [] k y = refl
set-length (x ∷ xs) zero y = refl
set-length (x ∷ xs) (suc k) y = let e = set-length xs k y in omega (arith, e)

-- what holds of each element by its place
pub every-place : {A : Type 0} (P : A → Type 0) (xs : List A) → ((k : ℕ) (x : A) → slice_get xs k ≡ Some x → P x) → AllByRecursion P xs
every-place P [] each = tt
every-place P (x ∷ xs) each = (each 0 x refl, every-place P xs (λ k y e. each (suc k) y e))

-- the elements between two places
pub every-between : {A : Type 0} (P : A → Type 0) (xs : List A) (from to : ℕ) → ((k : ℕ) (x : A) → from ≤ k → k < to → slice_get xs k ≡ Some x → P x)
    → AllByRecursion P (drop from (take to xs))
every-between P [] zero zero each = tt
every-between P [] zero (suc to) each = tt
every-between P [] (suc from) zero each = tt
every-between P [] (suc from) (suc to) each = tt
every-between P (x ∷ xs) zero zero each = tt
every-between P (x ∷ xs) (suc from) zero each = tt
every-between P (x ∷ xs) zero (suc to) each = (each 0 x (omega arith) (omega arith) refl, every-between P xs zero to (λ k y low high e. each (suc k) y (omega arith) (omega (arith, high)) e))
every-between P (x ∷ xs) (suc from) (suc to) each = every-between P xs from to (λ k y low high e. each (suc k) y (omega (arith, low)) (omega (arith, high)) e)

pub between-every : {A : Type 0} (P : A → Type 0) (xs : List A) (from to : ℕ) → AllByRecursion P (drop from (take to xs))
    → (k : ℕ) (x : A) → from ≤ k → k < to → slice_get xs k ≡ Some x → P x
between-every P [] from to all k x low high e = absurd (not-none x e)
between-every P (y ∷ ys) from zero all k x low high e = absurd (omega (arith, high))
between-every P (y ∷ ys) zero (suc to) all zero x low high e = subst P (some-is y x e) all.0
between-every P (y ∷ ys) zero (suc to) all (suc k) x low high e = between-every P ys zero to all.1 k x (omega arith) (omega (arith, high)) e
between-every P (y ∷ ys) (suc from) (suc to) all zero x low high e = absurd (omega (arith, low))
between-every P (y ∷ ys) (suc from) (suc to) all (suc k) x low high e = between-every P ys from to all k x (omega (arith, low)) (omega (arith, high)) e

-- elements of a list whose pairs are related
pub pair-places : {A : Type 0} (R : A → A → Type 0) (xs : List A) (i j : ℕ) (x y : A) → Pairwise R xs → slice_get xs i ≡ Some x → slice_get xs j ≡ Some y → i < j → R x y
pair-places R [] i j x y pairs e f before = absurd (not-none x e)
pair-places R (z ∷ zs) i zero x y pairs e f before = absurd (omega (arith, before))
pair-places {A = A} R (z ∷ zs) zero (suc j) x y pairs e f before = subst (λ (w : A). R w y) (some-is z x e) (every-among (R z) zs y pairs.0 (at-among zs j y f))
pair-places R (z ∷ zs) (suc i) (suc j) x y pairs e f before = pair-places R zs i j x y pairs.1 e f (omega (arith, before))

-- a name has one place
pub one-place : (sends : List Sent) (i j : ℕ) (x y : Sent) → Pairwise Precedes sends → slice_get sends i ≡ Some x → slice_get sends j ≡ Some y → x.host ≡ y.host → x.ordinal ≡ y.ordinal → i ≡ j
one-place sends i j x y order e f host ordinal = by_order (cases_order i j)
  where
    by_order : (i ≡ j) ⊎ ((i < j) ⊎ (j < i)) → i ≡ j
    by_order (inl is) = is
    by_order (inr (inl before)) =
        let p = pair-places Precedes sends i j x y order e f before in
        let lt = p.ordinals host in
        absurd (omega (arith, lt, ordinal))
    by_order (inr (inr before)) =
        let p = pair-places Precedes sends j i y x order f e before in
        let lt = p.ordinals (sym host) in
        absurd (omega (arith, lt, ordinal))
