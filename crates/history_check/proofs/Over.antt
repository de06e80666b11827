-- The commands that are over are those that have an entry.
use Rattle.std.proofs.Common.{◌≡◌, ℕ, zero, suc, ◌+◌, ◌<◌, ◌==◌, Bool, true, false, ◌&&◌, ◌||◌, ◌⊎◌, inl, inr, List, [], ◌∷◌, ◌++◌, length, map, replicate, Option, Some, None, refl, sym, ap, subst, ◌∙◌, arith}
use Rattle.std.specs.Prelude.{option_map, slice_get, slice_set}
use Rattle.std.specs.List.{All, AllByRecursion, Contains, list_any}
use Rattle.std.proofs.lemmas.Bool.{eq-eqb, eqb-true, or_right, true≢false}
use Rattle.std.proofs.lemmas.List.Folds.{list_any-append}
use Rattle.std.proofs.lemmas.Option.{slice_get-map}
use Rattle.script_cmds.specs.declared.item.Phase.{Phase}
use Rattle.history_model.specs.Sent.{Sent, TakenBefore, sends_of}
use Rattle.history_model.proofs.Every.{Pairwise, every-All, every-of-All}
use Rattle.history_model.proofs.OneHistory.{Among, every-among, unique}
use Rattle.history_model.proofs.Order.{Precedes}
use Rattle.history_check.specs.Readiness.{AreEarlierOver, AreTakenOver, IsReady, IsTakeOver}
use Rattle.history_check.specs.Standing.{is_named_among}
use Rattle.history_check.proofs.Choosing.{any-true, both-true, same-name}
use Rattle.history_check.proofs.Lists.{among-contains, contains-among}
use Rattle.history_check.proofs.Places.{among-place, at-among, every-place, some-is}

-- ---- names

same-names : (a b : Sent) → same-name a b ≡ true → (a.host ≡ b.host) × (a.ordinal ≡ b.ordinal)
same-names a b e = let parts = both-true (a.host == b.host) (a.ordinal == b.ordinal) e in (eqb-true a.host b.host parts.0, eqb-true a.ordinal b.ordinal parts.1)

own-name : (a : Sent) → same-name a a ≡ true
own-name a = rw (eq-eqb a.host a.host refl, eq-eqb a.ordinal a.ordinal refl) refl

other-name : (a b : Sent) → (a.host ≡ b.host → a.ordinal ≡ b.ordinal → ⊥) → same-name a b ≡ false
other-name a b apart = by_test (same-name a b) refl
  where
    by_test : (t : Bool) → same-name a b ≡ t → same-name a b ≡ false
    by_test true e = let names = same-names a b e in absurd (apart names.0 names.1)
    by_test false e = e

some-passes : (test : Sent → Bool) (xs : List Sent) (x : Sent) → Among xs x → test x ≡ true → list_any test xs ≡ true
some-passes test [] x found e = absurd found
some-passes test (y ∷ ys) x (inl is) e = ap (λ (b : Bool). b || list_any test ys) (subst (λ (z : Sent). test z ≡ true) is e)
some-passes test (y ∷ ys) x (inr found) e = or_right (test y) (list_any test ys) (some-passes test ys x found e)

-- ---- a command that is over has an entry

at-place : (done sends : List Sent) (p : ℕ) (s : Sent) → slice_get sends p ≡ Some s → slice_get (map (is_named_among done) sends) p ≡ Some (is_named_among done s)
at-place done sends p s at = slice_get-map (is_named_among done) sends p ∙ ap (option_map (is_named_among done)) at

module _ (sends done : List Sent) (order : Pairwise Precedes sends) (among : AllByRecursion (Among sends) done) where
  pub over-contains : (p : ℕ) (s : Sent) → slice_get sends p ≡ Some s → slice_get (map (is_named_among done) sends) p ≡ Some true → Contains done s
  over-contains p s at over =
      let found = any-true (same-name s) done (some-is (is_named_among done s) true (sym (at-place done sends p s at) ∙ over)) in
      let names = same-names s found.0 found.2 in
      let same : s ≡ found.0 = unique sends s found.0 order (at-among sends p s at) (every-among (Among sends) done found.0 among found.1) names.0 names.1 in
      subst (λ (x : Sent). Contains done x) (sym same) (among-contains done found.0 found.1)

  pub contains-over : (p : ℕ) (s : Sent) → slice_get sends p ≡ Some s → Contains done s → slice_get (map (is_named_among done) sends) p ≡ Some true
  contains-over p s at has =
      at-place done sends p s at ∙ ap (λ (b : Bool). Some b) (some-passes (same-name s) done s (contains-among done s has) (own-name s))

  pub left-new : (p : ℕ) (s : Sent) → slice_get sends p ≡ Some s → slice_get (map (is_named_among done) sends) p ≡ Some false → Contains done s → ⊥
  left-new p s at left has = true≢false (some-is true false (sym (contains-over p s at has) ∙ left))

  pub new-left : (p : ℕ) (s : Sent) → slice_get sends p ≡ Some s → (Contains done s → ⊥) → slice_get (map (is_named_among done) sends) p ≡ Some false
  new-left p s at new = at-place done sends p s at ∙ ap (λ (b : Bool). Some b) (by_test (is_named_among done s) refl)
    where
      by_test : (b : Bool) → is_named_among done s ≡ b → is_named_among done s ≡ false
      by_test true e = absurd (new (over-contains p s at (at-place done sends p s at ∙ ap (λ (b : Bool). Some b) e)))
      by_test false e = e

  -- a command that is ready has what has to be over before it behind it
  pub ready-all : (p : ℕ) (s : Sent) → slice_get sends p ≡ Some s → IsReady sends (map (is_named_among done) sends) p → All (λ (first : Sent). TakenBefore first s → Contains done first) sends
  ready-all p s at ready = every-All (λ (first : Sent). TakenBefore first s → Contains done first) sends (every-place (λ (first : Sent). TakenBefore first s → Contains done first) sends by_place)
    where
      by_place : (q : ℕ) (first : Sent) → slice_get sends q ≡ Some first → TakenBefore first s → Contains done first
      by_place q first there (inl phases) = over-contains q first there (ready.earlier q first s there at phases)
      by_place q first there (inr (host, found)) =
          let take : IsTakeOver sends (map (is_named_among done) sends) s.host first.ordinal =
          every-among (λ ordinal. IsTakeOver sends (map (is_named_among done) sends) s.host ordinal) s.taken first.ordinal
          (every-of-All (λ ordinal. IsTakeOver sends (map (is_named_among done) sends) s.host ordinal) s.taken (ready.taken s at)) (contains-among s.taken first.ordinal found) in
          over-contains q first there (take q first there host refl)

  pub all-ready : (p : ℕ) (s : Sent) → slice_get sends p ≡ Some s → (Contains done s → ⊥) → All (λ (first : Sent). TakenBefore first s → Contains done first) sends
      → IsReady sends (map (is_named_among done) sends) p
  all-ready p s at new all = record {
    left = new-left p s at new;
    earlier = λ q first t there here less.
        (let same : t ≡ s = some-is t s (sym here ∙ at) in
        contains-over q first there (one q first there (inl (subst (λ (x : Sent). first.phase < x.phase) same less))));
    taken = λ t here. by_same t (some-is s t (sym at ∙ here));
  }
    where
      one : (q : ℕ) (first : Sent) → slice_get sends q ≡ Some first → TakenBefore first s → Contains done first
      one q first there before = every-among (λ (first : Sent). TakenBefore first s → Contains done first) sends first
          (every-of-All (λ (first : Sent). TakenBefore first s → Contains done first) sends all) (at-among sends q first there) before

      each : (ts : List ℕ) → AllByRecursion (Among s.taken) ts → AllByRecursion (λ ordinal. IsTakeOver sends (map (is_named_among done) sends) s.host ordinal) ts
      each [] found = tt
      each (o ∷ ts) found = (
        (λ q first there host ordinal.
            contains-over q first there (one q first there (inr (host, among-contains s.taken first.ordinal (subst (λ (n : ℕ). Among s.taken n) (sym ordinal) found.0))))),
        each ts found.1,
      )

      by_same : (t : Sent) → s ≡ t → All (λ ordinal. IsTakeOver sends (map (is_named_among done) sends) t.host ordinal) t.taken
      by_same t same = subst (λ (x : Sent). All (λ ordinal. IsTakeOver sends (map (is_named_among done) sends) x.host ordinal) x.taken) same
          (every-All (λ ordinal. IsTakeOver sends (map (is_named_among done) sends) s.host ordinal) s.taken (each s.taken (itself s.taken)))
        where
          more : (x : ℕ) (xs ys : List ℕ) → AllByRecursion (Among xs) ys → AllByRecursion (Among (x ∷ xs)) ys
          more x xs [] all = tt
          more x xs (y ∷ ys) all = (inr all.0, more x xs ys all.1)

          itself : (xs : List ℕ) → AllByRecursion (Among xs) xs
          itself [] = tt
          itself (x ∷ xs) = (inl refl, more x xs xs (itself xs))

-- ---- none is over at first, and one more is over

pub none-over : (sends : List Sent) → replicate (length sends) false ≡ map (is_named_among []) sends
none-over [] = refl
none-over (s ∷ sends) = ap (λ (bs : List Bool). false ∷ bs) (none-over sends)

one-more-is : (done : List Sent) (s t : Sent) → same-name t s ≡ true → is_named_among (done ++ s ∷ []) t ≡ true
one-more-is done s t e = some-passes (same-name t) (done ++ s ∷ []) s (there done) e
  where
    there : (xs : List Sent) → Among (xs ++ s ∷ []) s
    there [] = inl refl
    there (x ∷ xs) = inr (there xs)

or-false : (b : Bool) → (b || (false || false)) ≡ b
or-false true = refl
or-false false = refl

one-more-same : (done : List Sent) (s t : Sent) → same-name t s ≡ false → is_named_among (done ++ s ∷ []) t ≡ is_named_among done t
one-more-same done s t e =
    list_any-append (same-name t) done (s ∷ []) ∙ (ap (λ (b : Bool). is_named_among done t || (b || false)) e ∙ or-false (is_named_among done t))

pub over-one-more : (sends done : List Sent) (p : ℕ) (s : Sent) → Pairwise Precedes sends → slice_get sends p ≡ Some s
    → map (is_named_among (done ++ s ∷ [])) sends ≡ slice_set (map (is_named_among done) sends) p true
over-one-more [] done p s order at = absurd (not-there at)
  where
    not-there : None ≡ Some s → ⊥
    not-there e = cc
over-one-more (x ∷ xs) done zero s order at =
    let is : x ≡ s = some-is x s at in
    let here : is_named_among (done ++ s ∷ []) x ≡ true = one-more-is done s x (subst (λ (y : Sent). same-name x y ≡ true) is (own-name x)) in
    ap (λ (b : Bool). b ∷ map (is_named_among (done ++ s ∷ [])) xs) here
    ∙ ap (λ (bs : List Bool). true ∷ bs) (rest xs (subst (λ (y : Sent). AllByRecursion (Precedes y) xs) is order.0))
  where
    rest : (ys : List Sent) → AllByRecursion (Precedes s) ys → map (is_named_among (done ++ s ∷ [])) ys ≡ map (is_named_among done) ys
    rest [] all = refl
    rest (y ∷ ys) all =
        let apart : same-name y s ≡ false = other-name y s (λ host ordinal. (let lt = all.0.ordinals (sym host) in omega (arith, lt, ordinal))) in
        ap (λ (b : Bool). b ∷ map (is_named_among (done ++ s ∷ [])) ys) (one-more-same done s y apart) ∙ ap (λ (bs : List Bool). is_named_among done y ∷ bs) (rest ys all.1)
over-one-more (x ∷ xs) done (suc p) s order at =
    let before = every-among (Precedes x) xs s order.0 (at-among xs p s at) in
    let apart : same-name x s ≡ false = other-name x s (λ host ordinal. (let lt = before.ordinals host in omega (arith, lt, ordinal))) in
    ap (λ (b : Bool). b ∷ map (is_named_among (done ++ s ∷ [])) xs) (one-more-same done s x apart) ∙ ap (λ (bs : List Bool). is_named_among done x ∷ bs) (over-one-more xs done p s order.1 at)
