-- What party 1 keeps of the other passes, and what it then finds in the value.
use Rattle.std.proofs.Common.{◌≡◌, ℕ, zero, suc, ◌+◌, ◌≤◌, List, [], ◌∷◌, get_or, set, Option, Some, Bool, false, refl, sym, ap, ◌∙◌, subst, arith}
use Rattle.std.specs.Prelude.{All, is_some}
use Rattle.std.proofs.lemmas.List.Elements.{All-weaker}
use mathlib.Core.Option.{some, some-injective}
use mathlib.Core.Logic.{dite}
use native.Mathlib.Decide.{ℕ_discrete}
use lib.ListN.{get_elem?}
use Rattle.seat_lock.specs.Trails.{FitsTrail}
use Rattle.seat_lock.specs.Rule.{IsMade}
use Rattle.seat_lock.specs.Plays.{keeping}
use Rattle.seat_lock.specs.Passes.{LockName, IsPassOf, AreAllOf, at_home, seats_in, view_of, seen_by, made_by}
use Rattle.seat_lock.specs.Closing.{account_for, HasKept}
use Rattle.seat_lock.specs.declared.types.View.{View}
use Rattle.seat_lock.specs.declared.types.Account.{Account}
use Rattle.seat_lock.specs.declared.types.About.{About}
use Rattle.seat_lock.specs.declared.types.Pass.{Pass}
use Rattle.seat_lock.specs.declared.types.Passes.{Passes}
use Rattle.seat_lock.proofs.PlaceLemmas.{home_within, some_same}
use Rattle.seat_lock.proofs.JoinSteps.{Ends}

module _ {E F : Type 0} where
  pub kept_first : (party : E → ℕ) (lock : LockName F) (ps : Passes E F) (q : Pass E F) (v : View E F) → IsPassOf party lock q → q.number ≡ 1 → at_home ps 1 ≡ Some q → v ≡ view_of q → HasKept lock ps 1 v
  kept_first party lock ps q v of one home is = record {
    one = ap (λ (u : View E F). u.number) is ∙ (q.numbered.0 ∙ one);
    rests = ap (λ (u : View E F). u.has_turn) is ∙ q.resting.0;
    counts = ap (λ (u : View E F). u.made) is ∙ of.counts one;
    first = λ p e. let same : q ≡ p = some_same q p (sym home ∙ e) in (ap (λ (u : View E F). u.seen) is ∙ ap seen_by same, ap (λ (u : View E F). u.mine) is ∙ ap made_by same);
    kept = λ n p from to e. absurd (omega arith);
  }

  pub kept_more : (lock : LockName F) (ps : Passes E F) (count : ℕ) (q : Pass E F) (v w : View E F) → HasKept lock ps count v → q.number ≡ count + 1 → at_home ps (count + 1) ≡ Some q → w ≡ view_of q → HasKept lock ps (count + 1) (keeping v w)
  kept_more lock ps count q v w h number home is = record {
    one = h.one;
    rests = h.rests;
    counts = h.counts;
    first = h.first;
    kept = λ n p from to e. dite (ℕ_discrete n (count + 1))
        (λ last. let same : q ≡ p = some_same q p (sym home ∙ (ap (at_home ps) (sym last) ∙ e)) in let n_is : w.number ≡ n = ap (λ (u : View E F). u.number) is ∙ (q.numbered.0 ∙ (number ∙ sym last)) in
        let seen : w.seen ≡ seen_by p = ap (λ (u : View E F). u.seen) is ∙ ap seen_by same in let mine : w.mine ≡ made_by p = ap (λ (u : View E F). u.mine) is ∙ ap made_by same in
        (0, λ i. let a : Account E = record { number = n_is i; seen = seen i; mine = mine i } in some a))
        (λ other. let t = h.kept n p from (omega arith) e in (suc t.0, t.1));
  }

  pub in_range : (ps : Passes E F) (n : ℕ) (p : Pass E F) → at_home ps n ≡ Some p → (1 ≤ n) × (n ≤ seats_in ps)
  in_range ps zero p e = absurd (cc)
  in_range ps (suc k) p e = let t = home_within ps.places.items (suc k) (ap is_some e) in (omega arith, omega arith)

module _ {V E F : Type 0} (party : E → ℕ) (entries : V → List E) (fixed : V → F) (about : About V) where
  -- every other party's account is kept
  pub all_kept : (lock : LockName F) (ps : Passes E F) (v : View E F) → AreAllOf party lock ps → HasKept lock ps lock.seats v → (n : ℕ) → 2 ≤ n → n ≤ v.made → (k : ℕ) × (a : Account E) × (get_elem? v.kept k ≡ some a) × (a.number ≡ n)
  all_kept lock ps v all h n from to = let some_pass = all.each n (omega arith) (omega (arith, h.counts, all.seats)) in let t = h.kept n some_pass.0 from (omega (arith, h.counts)) some_pass.1.home in (t.0, account_for n some_pass.0, t.1, refl)

  -- each pass fits the trail of the value
  pub each_fits : (lock : LockName F) (ps : Passes E F) (v : View E F) (slots : List (Option V)) (x : V) → AreAllOf party lock ps → HasKept lock ps lock.seats v → Ends party entries fixed about v slots x
      → (n : ℕ) (p : Pass E F) → at_home ps n ≡ Some p → FitsTrail party n (seen_by p) (made_by p) (entries x)
  each_fits lock ps v slots x all h ends n p e = let range = in_range ps n p e in dite (ℕ_discrete n 1)
      (λ one. let f = h.first p (ap (at_home ps) (sym one) ∙ e) in
      subst (λ (t : ℕ × List E × List E). FitsTrail party t.0 t.1 t.2 (entries x)) (λ i. ((h.one ∙ sym one) i, f.0 i, f.1 i)) ends.first)
      (λ other. let t = h.kept n p (omega (arith, range.0)) (omega (arith, range.1, all.seats)) e in ends.kept t.0 (account_for n p) t.1 (λ z. omega (arith, range.0)))

  -- each entry is of one of the parties
  pub each_made : (lock : LockName F) (ps : Passes E F) (v : View E F) (slots : List (Option V)) (x : V) → AreAllOf party lock ps → HasKept lock ps lock.seats v → Ends party entries fixed about v slots x
      → All (λ e. (1 ≤ party e) × (party e ≤ seats_in ps)) (entries x)
  each_made lock ps v slots x all h ends = All-weaker (IsMade party v.made) (λ e. (1 ≤ party e) × (party e ≤ seats_in ps)) (λ e m. (let ne = m.0 in omega arith, omega (arith, m.1, h.counts, all.seats))) (entries x) ends.makers

-- a slot that was emptied is empty
emptied : (filled : List Bool) → get_or (set filled 0 false) 0 false ≡ false
emptied [] = refl
emptied (b ∷ bs) = refl

pub emptied_at : (filled now : List Bool) (k : ℕ) → k ≡ 0 → now ≡ set filled 0 false → get_or now k false ≡ false
emptied_at filled now k first is = ap (λ (n : ℕ). get_or now n false) first ∙ (ap (λ fs. get_or fs 0 false) is ∙ emptied filled)

pub same_slot : {A : Type 0} (slots : List (Option A)) (o : Option A) (x : A) → get_elem? slots 0 ≡ some o → get_elem? slots 0 ≡ some (Some x) → o ≡ Some x
same_slot slots o x found there = some-injective o (Some x) (sym found ∙ there)
