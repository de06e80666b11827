-- Of two beginnings of one trail, the longer.
use Rattle.std.proofs.Common.{◌≡◌, ℕ, ◌<◌, ◌≤◌, ◌==◌, List, [], ◌∷◌, ◌++◌, length, refl, sym, ap, ◌∙◌, subst, arith, append-nil, length-append}
use Rattle.std.specs.Prelude.{cond}
use Rattle.std.proofs.lemmas.List.{nil_from_length}
use Rattle.std.proofs.lemmas.List.Elements.{filter-append}
use Rattle.std.proofs.lemmas.Bool.{lt-ltb, le-ltb}
use mathlib.Core.Logic.{dite}
use native.Mathlib.Decide.{dec_le}
use Rattle.seat_lock.specs.Trails.{BeginsWith, entries_by, longer}
use Rattle.seat_lock.proofs.TrailLemmas.{begins_longer, begins_all}

module _ {E : Type 0} where
  -- two beginnings of one list: the longer begins with the shorter
  shorter_begins : (xs ys rs ss : List E) → xs ++ rs ≡ ys ++ ss → length xs ≤ length ys → BeginsWith ys xs
  shorter_begins [] ys rs ss e le = (ys, refl)
  shorter_begins (x ∷ xs) [] rs ss e le = absurd (omega arith)
  shorter_begins (x ∷ xs) (y ∷ ys) rs ss e le = let first : y ≡ x = cc in let others : xs ++ rs ≡ ys ++ ss = cc in let t = shorter_begins xs ys rs ss others (omega arith) in (t.0, λ i. first i ∷ t.1 i)

  longer_cases : (K : List E → Type 0) (xs ys : List E) → (length xs < length ys → K ys) → (length ys ≤ length xs → K xs) → K (longer xs ys)
  longer_cases K xs ys less rest = dite (dec_le (length ys) (length xs))
      (λ le. subst (λ b. K (cond b ys xs)) (sym (le-ltb (length xs) (length ys) le)) (rest le))
      (λ more. let lt : length xs < length ys = omega arith in subst (λ b. K (cond b ys xs)) (sym (lt-ltb (length xs) (length ys) lt)) (less lt))

  -- the longer is the second where that begins with the first
  pub longer_second : (xs ys : List E) → BeginsWith ys xs → longer xs ys ≡ ys
  longer_second xs ys b = longer_cases (λ l. l ≡ ys) xs ys (λ _. refl) (λ le. let none : length b.0 ≡ 0 = omega (arith, ap length b.1, length-append xs b.0) in
      sym (b.1 ∙ (ap (λ r. xs ++ r) (nil_from_length b.0 none) ∙ append-nil xs)))

module _ {E : Type 0} (party : E → ℕ) where
  pub begins_trans : (a b c : List E) → BeginsWith a b → BeginsWith b c → BeginsWith a c
  begins_trans a b c p q = begins_longer party c b a p.0 p.1 q

  pub longer_begins : (trail xs ys : List E) → BeginsWith trail xs → BeginsWith trail ys → BeginsWith trail (longer xs ys)
  longer_begins trail xs ys b c = longer_cases (BeginsWith trail) xs ys (λ _. c) (λ _. b)

  pub begins_own : (trail xs ys : List E) → BeginsWith trail xs → BeginsWith trail ys → BeginsWith (longer xs ys) xs
  begins_own trail xs ys b c = longer_cases (λ l. BeginsWith l xs) xs ys (λ less. shorter_begins xs ys b.0 c.0 (sym b.1 ∙ c.1) (omega arith)) (λ _. begins_all party xs)

  pub begins_told : (trail xs ys : List E) → BeginsWith trail xs → BeginsWith trail ys → BeginsWith (longer xs ys) ys
  begins_told trail xs ys b c = longer_cases (λ l. BeginsWith l ys) xs ys (λ _. begins_all party ys) (λ le. shorter_begins ys xs c.0 b.0 (sym c.1 ∙ b.1) le)

  -- what a party has made stays all that a trail has of it, if that is so of a beginning of this trail and of a trail that begins with it
  pub entries_between : (n : ℕ) (low middle high mine : List E) → BeginsWith middle low → BeginsWith high middle → entries_by party n low ≡ mine → entries_by party n high ≡ mine → entries_by party n middle ≡ mine
  entries_between n low middle high mine b c low_is high_is =
      let first : entries_by party n middle ≡ entries_by party n low ++ entries_by party n b.0 = ap (entries_by party n) b.1 ∙ filter-append (λ e. party e == n) low b.0 in
      let second : entries_by party n high ≡ entries_by party n middle ++ entries_by party n c.0 = ap (entries_by party n) c.1 ∙ filter-append (λ e. party e == n) middle c.0 in
      let none : length (entries_by party n b.0) ≡ 0 = omega (arith, ap length first, ap length second, ap length low_is, ap length high_is, length-append (entries_by party n low) (entries_by party n b.0), length-append (entries_by party n middle) (entries_by party n c.0)) in
      first ∙ (ap (λ r. entries_by party n low ++ r) (nil_from_length (entries_by party n b.0) none) ∙ (append-nil (entries_by party n low) ∙ low_is))
