-- Look-ups by pairs of numbers and by numbers, after an insertion.
use Rattle.std.proofs.Common.{◌≡◌, ℕ, Bool, true, false, cond, ◌⊎◌, inl, inr, Option, Some, None, refl, sym, ap, subst, ◌∙◌}
use Rattle.std.specs.BTreeMap.{BTreeMap, Updates, get, is_at}
use Rattle.std.specs.Ordering.{is_eq, nat_cmp}
use Rattle.std.specs.declared.cmp.Ordering.{Ordering}
use Rattle.std.proofs.lemmas.Map.Lookups.{CmpEqualImpliesEq, exact_pairs, exact_unsigned}
use Rattle.history_check.specs.Table.{pair_cmp}
use Rattle.std.specs.declared.cmp.Ordering.TheVariants as order

is-equal : (o : Ordering) → is_eq o ≡ true → o ≡ order.Equal
is-equal order.Less e = cc
is-equal order.Equal e = refl
is-equal order.Greater e = cc

-- a key has the value that was inserted under it, and each other key what it had
updated : {K X : Type 0} (R : K → K → Ordering) → CmpEqualImpliesEq R → (m n : BTreeMap K X) (k : K) (v : X) → Updates R m n k (Some v) → (q : K)
    → ((k ≡ q) × (get R n q ≡ Some v)) ⊎ (get R n q ≡ get R m q)
updated R exact m n k v u q = by_test (is_eq (R k q)) refl
  where
    by_test : (b : Bool) → is_eq (R k q) ≡ b → ((k ≡ q) × (get R n q ≡ Some v)) ⊎ (get R n q ≡ get R m q)
    by_test true is = inl (exact k q (is-equal (R k q) is), u.0 q ∙ ap (λ (b : Bool). cond b (Some v) (get R m q)) is)
    by_test false is = inr (u.0 q ∙ ap (λ (b : Bool). cond b (Some v) (get R m q)) is)

pub pair-updated : {X : Type 0} (m n : BTreeMap (ℕ × ℕ) X) (k : ℕ × ℕ) (v : X) → Updates pair_cmp m n k (Some v) → (q : ℕ × ℕ)
    → ((k ≡ q) × (get pair_cmp n q ≡ Some v)) ⊎ (get pair_cmp n q ≡ get pair_cmp m q)
pair-updated m n k v u q = updated pair_cmp (exact_pairs nat_cmp nat_cmp exact_unsigned exact_unsigned) m n k v u q

pub number-updated : {X : Type 0} (m n : BTreeMap ℕ X) (k : ℕ) (v : X) → Updates nat_cmp m n k (Some v) → (q : ℕ)
    → ((k ≡ q) × (get nat_cmp n q ≡ Some v)) ⊎ (get nat_cmp n q ≡ get nat_cmp m q)
number-updated m n k v u q = updated nat_cmp exact_unsigned m n k v u q
