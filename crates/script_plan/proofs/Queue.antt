-- The outstanding identifiers as the set of the program keeps them.
use Rattle.std.proofs.Common.{◌≡◌, inl, inr, ℕ, false, List, [], ◌∷◌, nat_eq, refl, sym, ◌∙◌, subst}
use Rattle.std.specs.List.{IsDistinct, AllByRecursion, list_any}
use Rattle.std.specs.Set.{remove_key}
use Rattle.std.proofs.lemmas.Bool.{eq-eqb}
use Rattle.std.proofs.lemmas.Bool.Decides.{eqb_tells}
use Rattle.history_model.specs.Plan.{is_outstanding}
use Rattle.history_model.specs.Rules.{without}

-- numbers are compared either way
pub eq-swap : (a b : ℕ) → nat_eq a b ≡ nat_eq b a
eq-swap a b =
    elim (eqb_tells a b) [
      | inl e ↦ e.0 ∙ sym (eq-eqb b a (sym e.1))
      | inr d ↦ elim (eqb_tells b a) [ inl e ↦ absurd (d.1 (sym e.1)) | inr n ↦ d.0 ∙ sym n.0 ]
    ]

-- the set's test and the definition's are one
pub any-swap : (cid : ℕ) (cids : List ℕ) → list_any (nat_eq cid) cids ≡ is_outstanding cid cids
any-swap cid [] = refl
any-swap cid (x ∷ xs) = rw (eq-swap cid x, any-swap cid xs) refl

-- a test that holds of no other leaves the list
pub without-absent : (cid : ℕ) (cids : List ℕ) → AllByRecursion (λ y. nat_eq cid y ≡ false) cids → without cid cids ≡ cids
without-absent cid [] all = refl
without-absent cid (x ∷ xs) all =
    let here : nat_eq x cid ≡ false = eq-swap x cid ∙ all.0 in
    rw (here, without-absent cid xs all.1) refl

-- taking one identifier of distinct ones out is taking out all that equal it
pub remove_key-without : (cid : ℕ) (cids : List ℕ) → IsDistinct nat_eq cids → remove_key (nat_eq cid) cids ≡ without cid cids
unfolding IsDistinct
remove_key-without cid [] d = refl
remove_key-without cid (x ∷ xs) d =
    elim (eqb_tells cid x) [
      | inl e ↦
          let P : ℕ → Type 0 = λ n. AllByRecursion (λ y. nat_eq n y ≡ false) xs in
          rw (e.0, eq-swap x cid, e.0) (sym (without-absent cid xs (subst P (sym e.1) d.0)))
      | inr n ↦ rw (n.0, eq-swap x cid, n.0, remove_key-without cid xs d.1) refl
    ]
