-- The places of passes.
use Rattle.std.proofs.Common.{◌≡◌, ◌≢◌, ◌⊎◌, ℕ, zero, suc, ◌+◌, ◌-◌, ◌<◌, ◌≤◌, List, [], ◌∷◌, ◌++◌, length, get_or, set, Option, Some, None, IsSome, true≢false, refl, sym, ap, ◌∙◌, subst, inl, inr, ⊎_elim, arith, length-set, length-append}
use Rattle.std.specs.Prelude.{slice_get, option_and_then, unwrap_or, is_some}
use Rattle.std.proofs.lemmas.Option.{slice_get_within, slice_get-get_or}
use Rattle.seat_lock.specs.declared.types.Pass.{Pass}
use Rattle.seat_lock.specs.declared.types.Passes.{Passes}
use Rattle.seat_lock.specs.Trails.{entries_by}
use mathlib.Core.Logic.{dite}
use native.Mathlib.Decide.{ℕ_discrete}
use Rattle.seat_lock.specs.Passes.{LockName, in_place, home_in, at_home, seats_in, party_of, seen_by, made_by, lost_by, IsPassOf, IsNewPass, AreAllOf, AreAllNew}

pub some_same : {A : Type 0} (a b : A) → Some a ≡ Some b → a ≡ b
some_same a b e = ap (λ o. unwrap_or o a) e

module _ {A : Type 0} where
  pub get_set : (l : List A) (i j : ℕ) (a b : A) → slice_get (set l i a) j ≡ Some b → ((j ≡ i) × (a ≡ b)) ⊎ ((j ≢ i) × (slice_get l j ≡ Some b))
  get_set [] i j a b e = absurd (cc)
  get_set (x ∷ xs) zero zero a b e = inl (refl, some_same a b e)
  get_set (x ∷ xs) zero (suc j) a b e = inr ((λ h. omega arith), e)
  get_set (x ∷ xs) (suc i) zero a b e = inr ((λ h. omega arith), e)
  get_set (x ∷ xs) (suc i) (suc j) a b e = ⊎_elim (λ t. inl (ap suc t.0, t.1)) (λ t. let n = t.0 in inr ((λ h. n (omega arith)), t.1)) (get_set xs i j a b e)

  pub get_set_here : (l : List A) (i : ℕ) (a : A) → i < length l → slice_get (set l i a) i ≡ Some a
  get_set_here [] i a h = absurd (omega arith)
  get_set_here (x ∷ xs) zero a h = refl
  get_set_here (x ∷ xs) (suc i) a h = get_set_here xs i a (omega arith)

  pub get_set_else : (l : List A) (i j : ℕ) (a : A) → j ≢ i → slice_get (set l i a) j ≡ slice_get l j
  get_set_else [] i j a n = refl
  get_set_else (x ∷ xs) zero zero a n = absurd (n refl)
  get_set_else (x ∷ xs) zero (suc j) a n = refl
  get_set_else (x ∷ xs) (suc i) zero a n = refl
  get_set_else (x ∷ xs) (suc i) (suc j) a n = get_set_else xs i j a (λ e. n (ap suc e))

  pub get_push_here : (l : List A) (a : A) (n : ℕ) → length l ≡ n → slice_get (l ++ a ∷ []) n ≡ Some a
  get_push_here [] a zero e = refl
  get_push_here [] a (suc n) e = absurd (omega arith)
  get_push_here (x ∷ xs) a zero e = absurd (omega arith)
  get_push_here (x ∷ xs) a (suc n) e = get_push_here xs a n (omega arith)

  pub get_push_else : (l : List A) (a : A) (k : ℕ) → k < length l → slice_get (l ++ a ∷ []) k ≡ slice_get l k
  get_push_else [] a k h = absurd (omega arith)
  get_push_else (x ∷ xs) a zero h = refl
  get_push_else (x ∷ xs) a (suc k) h = get_push_else xs a k (omega arith)

  pub get_there : (l : List A) (k : ℕ) (x : A) → k < length l → x ≡ get_or l k x → slice_get l k ≡ Some x
  get_there l k x h e = slice_get-get_or l k x h ∙ ap (λ (y : A). Some y) (sym e)

module _ {E F : Type 0} where
  pub in_place_is : (l : List (Option (Pass E F))) (k : ℕ) (o : Option (Pass E F)) → slice_get l k ≡ Some o → in_place l k ≡ o
  in_place_is l k o e = ap (option_and_then (λ (o : Option (Pass E F)). o)) e

  pub home_is : (l : List (Option (Pass E F))) (n : ℕ) → 0 < n → home_in l n ≡ in_place l (n - 1)
  home_is l zero h = absurd (omega arith)
  home_is l (suc k) h = ap (in_place l) (omega arith)

  pub home_pos : (l : List (Option (Pass E F))) (n : ℕ) → IsSome (home_in l n) → 0 < n
  home_pos l zero h = absurd (true≢false (sym h))
  home_pos l (suc k) h = omega arith

  some_place : (l : List (Option (Pass E F))) (k : ℕ) → IsSome (in_place l k) → k < length l
  some_place [] k h = absurd (true≢false (sym h))
  some_place (x ∷ xs) zero h = omega arith
  some_place (x ∷ xs) (suc k) h = let t = some_place xs k h in omega arith

  pub home_within : (l : List (Option (Pass E F))) (n : ℕ) → IsSome (home_in l n) → n - 1 < length l
  home_within l zero h = absurd (true≢false (sym h))
  home_within l (suc k) h = let t = some_place l k h in omega arith

  -- what is in the place of the party n
  pub home_was : (l : List (Option (Pass E F))) (n : ℕ) (o : Option (Pass E F)) → 0 < n → n - 1 < length l → o ≡ get_or l (n - 1) o → home_in l n ≡ o
  home_was l n o pos within e = home_is l n pos ∙ in_place_is l (n - 1) o (get_there l (n - 1) o within e)

  -- after a write to the place of the party n
  pub home_here : (l : List (Option (Pass E F))) (n : ℕ) (o : Option (Pass E F)) → 0 < n → n - 1 < length l → home_in (set l (n - 1) o) n ≡ o
  home_here l n o pos within = home_is (set l (n - 1) o) n pos ∙ in_place_is (set l (n - 1) o) (n - 1) o (get_set_here l (n - 1) o within)

  pub home_else : (l : List (Option (Pass E F))) (n : ℕ) (o : Option (Pass E F)) → 0 < n → (m : ℕ) → m ≢ n → home_in (set l (n - 1) o) m ≡ home_in l m
  home_else l n o pos zero other = refl
  home_else l n o pos (suc k) other = let apart : k ≢ n - 1 = (λ e. other (omega arith)) in ap (option_and_then (λ (o : Option (Pass E F)). o)) (get_set_else l (n - 1) k o apart)

  pub set_placed : (l : List (Option (Pass E F))) (k : ℕ) (o : Option (Pass E F)) → ((p : Pass E F) → o ≡ Some p → p.number ≡ k + 1) → ((j : ℕ) (p : Pass E F) → slice_get l j ≡ Some (Some p) → p.number ≡ j + 1)
      → (j : ℕ) (p : Pass E F) → slice_get (set l k o) j ≡ Some (Some p) → p.number ≡ j + 1
  set_placed l k o mine others j p e = ⊎_elim (λ (t : (j ≡ k) × (o ≡ Some p)). mine p t.1 ∙ ap (λ (z : ℕ). z + 1) (sym t.0)) (λ (t : (j ≢ k) × (slice_get l j ≡ Some (Some p))). others j p t.1) (get_set l k j o (Some p) e)

  -- the pass of the party n is in its place
  pub is_in_place : (ps : Passes E F) (n : ℕ) (p : Pass E F) → 0 < n → at_home ps n ≡ Some p → slice_get ps.places.items (n - 1) ≡ Some (Some p)
  is_in_place ps zero p pos e = absurd (omega arith)
  is_in_place ps (suc k) p pos e = ap (slice_get ps.places.items) (omega arith) ∙ opened ps.places.items k p e
    where
      opened : (l : List (Option (Pass E F))) (k : ℕ) (p : Pass E F) → in_place l k ≡ Some p → slice_get l k ≡ Some (Some p)
      opened [] k p e = absurd (cc)
      opened (x ∷ xs) zero p e = ap (λ (o : Option (Pass E F)). Some o) e
      opened (x ∷ xs) (suc k) p e = opened xs k p e

  module _ (party : E → ℕ) (lock : LockName F) where
    -- a new pass is one of the lock, once party 1 has counted all parties
    pub of_new : (n : ℕ) (p : Pass E F) → IsNewPass lock lock.seats n p → IsPassOf party lock p
    of_new n p h = record {
      table = h.table;
      fixed = h.fixed;
      counts = λ e. h.counts (sym h.party_is ∙ e);
      own = ap (entries_by party p.number) h.seen ∙ sym h.made;
    }

    pub all_of_new : (ps : Passes E F) → AreAllNew lock ps → AreAllOf party lock ps
    all_of_new ps h = record {
      seats = h.seats;
      each = λ n from to. let t = h.each n from to in (t.0, record { home = t.1; party_is = t.2.party_is; of_lock = of_new n t.0 t.2 });
    }

    pub new_at_home : (ps : Passes E F) → AreAllNew lock ps → (n : ℕ) (p : Pass E F) → at_home ps n ≡ Some p → (seen_by p ≡ []) × (made_by p ≡ []) × (lost_by p ≡ [])
    new_at_home ps h zero p e = absurd (cc)
    new_at_home ps h (suc k) p e = let within = home_within ps.places.items (suc k) (ap is_some e) in let t = h.each (suc k) (omega arith) (omega arith) in let same : t.0 ≡ p = some_same t.0 p (sym t.1 ∙ e) in
        subst (λ (q : Pass E F). (seen_by q ≡ []) × (made_by q ≡ []) × (lost_by q ≡ [])) same (t.2.seen, t.2.made, t.2.lost)

  -- the passes made so far: the first is in hand, and its place is empty
  pub record AreDealt (lock : LockName F) (made : ℕ) (first : Pass E F) (places : List (Option (Pass E F))) : Type 0 where
    pub first_is : IsNewPass lock made 1 first
    pub count : length places ≡ made
    pub front : slice_get places 0 ≡ Some None
    pub rest : (k : ℕ) → 0 < k → k < made → (p : Pass E F) × (slice_get places k ≡ Some (Some p)) × IsNewPass lock lock.seats (k + 1) p

  pub dealt_one : (lock : LockName F) (first : Pass E F) (places : List (Option (Pass E F))) → IsNewPass lock 1 1 first → places ≡ None ∷ [] → AreDealt lock 1 first places
  dealt_one lock first places new is = record {
    first_is = new;
    count = ap length is;
    front = ap (λ l. slice_get l 0) is;
    rest = λ k pos below. absurd (omega arith);
  }

  pub dealt_more : (lock : LockName F) (made : ℕ) (first first' next : Pass E F) (places places' : List (Option (Pass E F))) → AreDealt lock made first places → 1 ≤ made → IsNewPass lock (made + 1) 1 first' → IsNewPass lock lock.seats (made + 1) next
      → places' ≡ places ++ Some next ∷ [] → AreDealt lock (made + 1) first' places'
  dealt_more lock made first first' next places places' h some_made new more is = record {
    first_is = new;
    count = ap length is ∙ (length-append places (Some next ∷ []) ∙ ap (λ (n : ℕ). n + 1) h.count);
    front = ap (λ l. slice_get l 0) is ∙ (get_push_else places (Some next) 0 (omega (arith, h.count)) ∙ h.front);
    rest = λ k pos below. dite (ℕ_discrete k made)
        (λ e. (next, ap (λ l. slice_get l k) is ∙ get_push_here places (Some next) k (h.count ∙ sym e), subst (λ (n : ℕ). IsNewPass lock lock.seats (n + 1) next) (sym e) more))
        (λ other. let t = h.rest k pos (omega arith) in (t.0, ap (λ l. slice_get l k) is ∙ (get_push_else places (Some next) k (omega (arith, h.count)) ∙ t.1), t.2));
  }

  pub dealt_placed : (lock : LockName F) (made : ℕ) (first : Pass E F) (places : List (Option (Pass E F))) → AreDealt lock made first places → (j : ℕ) (p : Pass E F) → slice_get places j ≡ Some (Some p) → p.number ≡ j + 1
  dealt_placed lock made first places h zero p e = absurd (let no : None ≡ Some p = some_same None (Some p) (sym h.front ∙ e) in cc)
  dealt_placed lock made first places h (suc k) p e = let within = slice_get_within places (suc k) (Some p) e in let t = h.rest (suc k) (omega arith) (omega (arith, h.count)) in
      let same : t.0 ≡ p = some_same t.0 p (some_same (Some t.0) (Some p) (sym t.1 ∙ e)) in subst (λ (q : Pass E F). q.number ≡ suc k + 1) same t.2.party_is

  pub dealt_all : (lock : LockName F) (first : Pass E F) (places : List (Option (Pass E F))) (ps : Passes E F) → AreDealt lock lock.seats first places → 1 ≤ lock.seats → ps.places.items ≡ set places 0 (Some first) → AreAllNew lock ps
  dealt_all lock first places ps h some_seat is = record {
    seats = len;
    each = one;
  }
    where
      len : seats_in ps ≡ lock.seats
      len = ap length is ∙ (length-set places 0 (Some first) ∙ h.count)

      one : (n : ℕ) → 1 ≤ n → n ≤ seats_in ps → (p : Pass E F) × (at_home ps n ≡ Some p) × IsNewPass lock lock.seats n p
      one zero from to = absurd (omega arith)
      one (suc zero) from to = (first, ap (λ l. in_place l 0) is ∙ in_place_is (set places 0 (Some first)) 0 (Some first) (get_set_here places 0 (Some first) (omega (arith, h.count))), h.first_is)
      one (suc (suc k)) from to = let t = h.rest (suc k) (omega arith) (omega (arith, len)) in let n_is : suc k + 1 ≡ suc (suc k) = omega arith in
          (t.0, ap (λ l. in_place l (suc k)) is ∙ in_place_is (set places 0 (Some first)) (suc k) (Some t.0) (get_set_else places 0 (suc k) (Some first) (λ e. omega arith) ∙ t.1), subst (λ (n : ℕ). IsNewPass lock lock.seats n t.0) n_is t.2)

  pub first_placed : (o : Option (Pass E F)) (first : Pass E F) → o ≡ Some first → first.number ≡ 1 → (p : Pass E F) → o ≡ Some p → p.number ≡ 0 + 1
  first_placed o first is one p e = ap (λ (q : Pass E F). q.number) (some_same p first (sym e ∙ is)) ∙ (one ∙ omega arith)

  pub dealt_whole : (lock : LockName F) (made seats : ℕ) (first : Pass E F) (places : List (Option (Pass E F))) → made ≡ seats → seats ≡ lock.seats → AreDealt lock made first places → AreDealt lock lock.seats first places
  dealt_whole lock made seats first places all is h = subst (λ (n : ℕ). AreDealt lock n first places) (all ∙ is) h

  pub given_placed : (o : Option (Pass E F)) (q : Pass E F) → 0 < q.number → o ≡ Some q → (p : Pass E F) → o ≡ Some p → p.number ≡ q.number - 1 + 1
  given_placed o q pos is p e = ap (λ (x : Pass E F). x.number) (some_same p q (sym e ∙ is)) ∙ omega arith

  module _ (party : E → ℕ) (lock : LockName F) where
    pub some_home : (ps : Passes E F) (n : ℕ) → AreAllOf party lock ps → 1 ≤ n → n ≤ seats_in ps → IsSome (at_home ps n)
    some_home ps n h from to = let t = h.each n from to in ap is_some t.1.home

    pub of_lent : (ps : Passes E F) (n : ℕ) (p : Pass E F) → AreAllOf party lock ps → 1 ≤ n → n ≤ seats_in ps → at_home ps n ≡ Some p → IsPassOf party lock p
    of_lent ps n p h from to e = let t = h.each n from to in subst (IsPassOf party lock) (some_same t.0 p (sym t.1.home ∙ e)) t.1.of_lock

  module _ (party : E → ℕ) (lock : LockName F) where
    -- all passes are at home again, once that of the party m came back
    pub all_with : (ps qs : Passes E F) (m : ℕ) (p : Pass E F) → AreAllOf party lock ps → seats_in qs ≡ seats_in ps → ((n : ℕ) → n ≢ m → at_home qs n ≡ at_home ps n) → at_home qs m ≡ Some p → party_of p ≡ m → IsPassOf party lock p → AreAllOf party lock qs
    all_with ps qs m p all seats others home number of = record {
      seats = seats ∙ all.seats;
      each = λ n from to. dite (ℕ_discrete n m)
          (λ e. (p, record { home = ap (at_home qs) e ∙ home; party_is = number ∙ sym e; of_lock = of }))
          (λ other. let t = all.each n from (omega (arith, seats)) in (t.0, record { home = others n other ∙ t.1.home; party_is = t.1.party_is; of_lock = t.1.of_lock }));
    }

    -- the same of two parties
    pub all_with_two : (ps qs : Passes E F) (m k : ℕ) (p q : Pass E F) → AreAllOf party lock ps → seats_in qs ≡ seats_in ps → ((n : ℕ) → n ≢ m → n ≢ k → at_home qs n ≡ at_home ps n) → at_home qs m ≡ Some p → party_of p ≡ m → IsPassOf party lock p
        → at_home qs k ≡ Some q → party_of q ≡ k → IsPassOf party lock q → AreAllOf party lock qs
    all_with_two ps qs m k p q all seats others home number of home' number' of' = record {
      seats = seats ∙ all.seats;
      each = λ n from to. dite (ℕ_discrete n m)
          (λ e. (p, record { home = ap (at_home qs) e ∙ home; party_is = number ∙ sym e; of_lock = of }))
          (λ other. dite (ℕ_discrete n k)
          (λ e. (q, record { home = ap (at_home qs) e ∙ home'; party_is = number' ∙ sym e; of_lock = of' }))
          (λ third. let t = all.each n from (omega (arith, seats)) in (t.0, record { home = others n other third ∙ t.1.home; party_is = t.1.party_is; of_lock = t.1.of_lock })));
    }
