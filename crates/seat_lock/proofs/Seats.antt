-- Lists of views, read by the seat, and the seats that the parties have.
use Rattle.std.proofs.Common.{◌≡◌, ◌≢◌, ◌⊎◌, ℕ, zero, suc, eqb, List, [], ◌∷◌, ◌++◌, length, set, refl, sym, ap, ◌∙◌, subst, inl, inr, ⊎_elim, eq-eqb, ne_eqb}
use Rattle.std.specs.Prelude.{cond}
use mathlib.Core.Option.{some, some-injective, some-ne-none}
use mathlib.Core.Logic.{dite}
use native.Mathlib.Decide.{ℕ_discrete}
use lib.ListN.{get_elem?}
use Rattle.atomic_table.proofs.Lists.{at_set}

module _ {A : Type 0} where
  pub set_at : (l : List A) (i : ℕ) (a b : A) → get_elem? l i ≡ some a → get_elem? (set l i b) i ≡ some b
  set_at [] i a b e = absurd (some-ne-none a (sym e))
  set_at (x ∷ xs) zero a b e = refl
  set_at (x ∷ xs) (suc i) a b e = set_at xs i a b e

  -- what holds of each other element, and of the new one, holds of each
  pub each_set : (K : ℕ → A → Type 0) (l : List A) (i : ℕ) (w : A) → K i w → ((j : ℕ) (v : A) → j ≢ i → get_elem? l j ≡ some v → K j v) → (j : ℕ) (v : A) → get_elem? (set l i w) j ≡ some v → K j v
  each_set K l i w mine others j v e = ⊎_elim (λ (t : (j ≡ i) × (w ≡ v)). subst (λ (x : ℕ × A). K x.0 x.1) (λ c. (sym t.0 c, t.1 c)) mine)
      (λ (t : (j ≢ i) × (get_elem? l j ≡ some v)). others j v t.0 t.1) (at_set l i j w v e)

  pub at_push : (l : List A) (a b : A) (j : ℕ) → get_elem? (l ++ a ∷ []) j ≡ some b → (get_elem? l j ≡ some b) ⊎ ((j ≡ length l) × (a ≡ b))
  at_push [] a b zero e = inr (refl, some-injective a b e)
  at_push [] a b (suc j) e = absurd (some-ne-none b (sym e))
  at_push (x ∷ xs) a b zero e = inl e
  at_push (x ∷ xs) a b (suc j) e = ⊎_elim (λ t. inl t) (λ t. inr (ap suc t.0, t.1)) (at_push xs a b j e)

  pub each_push : (K : ℕ → A → Type 0) (l : List A) (a : A) → K (length l) a → ((j : ℕ) (v : A) → get_elem? l j ≡ some v → K j v) → (j : ℕ) (v : A) → get_elem? (l ++ a ∷ []) j ≡ some v → K j v
  each_push K l a last others j v e = ⊎_elim (λ t. others j v t) (λ (t : (j ≡ length l) × (a ≡ v)). subst (λ (x : ℕ × A). K x.0 x.1) (λ c. (sym t.0 c, t.1 c)) last) (at_push l a v j e)

-- the party q has the seat j, and each other the seat that it had
abbrev pub put : (ℕ → ℕ) → ℕ → ℕ → ℕ → ℕ
put f q j n = cond (eqb n q) j (f n)

pub put_here : (f : ℕ → ℕ) (q j n : ℕ) → n ≡ q → put f q j n ≡ j
put_here f q j n e = ap (λ b. cond b j (f n)) (eq-eqb n q e)

pub put_else : (f : ℕ → ℕ) (q j n : ℕ) → n ≢ q → put f q j n ≡ f n
put_else f q j n ne = ap (λ b. cond b j (f n)) (ne_eqb n q ne)

pub put_stays : (f : ℕ → ℕ) (q j n : ℕ) → f n ≡ j → put f q j n ≡ j
put_stays f q j n is = dite (ℕ_discrete n q) (λ e. put_here f q j n e) (λ ne. put_else f q j n ne ∙ is)
