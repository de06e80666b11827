-- The commands of a plan have different names, so none stands twice in them, in whatever order.
use Rattle.std.proofs.Common.{◌≡◌, ℕ, ◌+◌, ◌<◌, ◌≤◌, ◌==◌, Bool, true, false, ◌&&◌, inl, inr, List, [], ◌∷◌, ◌++◌, cond, refl, sym, ap, ◌∙◌, arith}
use Rattle.std.specs.Prelude.{count_by}
use Rattle.std.specs.List.{AllByRecursion}
use Rattle.std.specs.List.Sorted.{IsPermutation}
use Rattle.std.proofs.lemmas.Bool.{eq-eqb, eqb-true, false≢true, ne_eqb}
use Rattle.std.proofs.lemmas.List.Sorted.{sum_by-IsPermutation}
use Rattle.std.proofs.lemmas.List.Sums.{sum_by-append, sum_by-cons}
use Rattle.script_cmds.specs.declared.item.Phase.{Phase}
use Rattle.history_model.specs.Sent.{Sent, sends_of}
use Rattle.history_model.proofs.Every.{Pairwise}
use Rattle.history_model.proofs.OneHistory.{Among}
use Rattle.history_model.proofs.Order.{Precedes, sends-in-order}
use Rattle.history_check.proofs.Choosing.{same-name}

-- how many of these commands have the name of this one
named_as : Sent → List Sent → ℕ
named_as s xs = count_by (same-name s) xs

one_if : Sent → Sent → ℕ
one_if s x = cond {A = ℕ} (same-name s x) 1 0

named-cons : (s x : Sent) (xs : List Sent) → named_as s (x ∷ xs) ≡ one_if s x + named_as s xs
unfolding named_as one_if
named-cons s x xs = sum_by-cons (λ (y : Sent). cond (same-name s y) 1 0) x xs

named-append : (s : Sent) (xs ys : List Sent) → named_as s (xs ++ ys) ≡ named_as s xs + named_as s ys
unfolding named_as
named-append s xs ys = sum_by-append (λ (y : Sent). cond (same-name s y) 1 0) xs ys

named-moved : (s : Sent) (xs ys : List Sent) → IsPermutation xs ys → named_as s ys ≡ named_as s xs
unfolding named_as
named-moved s xs ys moved = sum_by-IsPermutation (λ (y : Sent). cond (same-name s y) 1 0) xs ys moved

own-name : (s : Sent) → same-name s s ≡ true
own-name s = ap (λ (b : Bool). b && (s.ordinal == s.ordinal)) (eq-eqb s.host s.host refl) ∙ eq-eqb s.ordinal s.ordinal refl

one-itself : (s : Sent) → one_if s s ≡ 1
unfolding one_if
one-itself s = ap (λ (b : Bool). cond {A = ℕ} b 1 0) (own-name s)

-- a command among others is counted
named-among : (s : Sent) (xs : List Sent) → Among xs s → 0 < named_as s xs
named-among s [] found = absurd found
named-among s (x ∷ xs) (inl is) =
    let here : one_if s x ≡ 1 = ap (one_if s) (sym is) ∙ one-itself s in
    omega (arith, named-cons s x xs, here)
named-among s (x ∷ xs) (inr found) = omega (arith, named-cons s x xs, named-among s xs found)

none-name : (s : Sent) → named_as s [] ≡ 0
unfolding named_as
none-name s = refl

-- commands that come later have another name than this one and those of its name
apart : (s x y : Sent) → same-name s x ≡ true → Precedes x y → same-name s y ≡ false
apart s x y same order = by_host (s.host == y.host) refl
  where
    both-true : (a b : Bool) → (a && b) ≡ true → (a ≡ true) × (b ≡ true)
    both-true true b e = (refl, e)
    both-true false b e = absurd (false≢true e)

    by_host : (b : Bool) → (s.host == y.host) ≡ b → (b && (s.ordinal == y.ordinal)) ≡ false
    by_host false e = refl
    by_host true e =
        let names = both-true (s.host == x.host) (s.ordinal == x.ordinal) same in
        let hosts : x.host ≡ y.host = sym (eqb-true s.host x.host names.0) ∙ eqb-true s.host y.host e in
        let number : s.ordinal ≡ x.ordinal = eqb-true s.ordinal x.ordinal names.1 in
        let less : x.ordinal < y.ordinal = order.ordinals hosts in
        ne_eqb s.ordinal y.ordinal (λ e. omega (arith, e, number, less))

-- how many one command is, by whether it has the name
one-if : (s y : Sent) (b : Bool) → same-name s y ≡ b → one_if s y ≡ cond {A = ℕ} b 1 0
unfolding one_if
one-if s y b e = ap (λ (c : Bool). cond {A = ℕ} c 1 0) e

none-later : (s x : Sent) (ys : List Sent) → same-name s x ≡ true → AllByRecursion (Precedes x) ys → named_as s ys ≡ 0
none-later s x [] same order = none-name s
none-later s x (y ∷ ys) same order =
    let here : one_if s y ≡ 0 = one-if s y false (apart s x y same order.0) in
    omega (arith, named-cons s y ys, here, none-later s x ys same order.1)

-- a name stands once at most among commands in order
once : (s : Sent) (xs : List Sent) → Pairwise Precedes xs → named_as s xs ≤ 1
once s [] order = omega (arith, none-name s)
once s (x ∷ xs) order = by_test (same-name s x) refl (once s xs order.1)
  where
    by_test : (b : Bool) → same-name s x ≡ b → named_as s xs ≤ 1 → named_as s (x ∷ xs) ≤ 1
    by_test true e later =
        let here : one_if s x ≡ 1 = one-if s x true e in
        omega (arith, named-cons s x xs, here, none-later s x xs e order.0)
    by_test false e later =
        let here : one_if s x ≡ 0 = one-if s x false e in
        omega (arith, named-cons s x xs, here, later)

-- no command of a plan stands in two parts of the plan's commands
pub disjoint : (plan : List Phase) (xs ys : List Sent) (s : Sent) → IsPermutation (xs ++ ys) (sends_of plan) → Among xs s → Among ys s → ⊥
disjoint plan xs ys s moved p q =
    omega (arith, named-moved s (xs ++ ys) (sends_of plan) moved, named-append s xs ys, named-among s xs p, named-among s ys q, once s (sends_of plan) (sends-in-order plan))
