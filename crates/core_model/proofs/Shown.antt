-- Lists that show some of the submits, after one of these has come further.
use Rattle.std.proofs.Common.{◌≡◌, ℕ, ◌<◌, ◌==◌, Bool, true, false, cond, ◌&&◌, List, [], ◌∷◌, ◌++◌, map, filter, Some, refl, sym, ap, subst, ◌∙◌, arith, if◌then◌else◌}
use Rattle.std.specs.List.{AllByRecursion}
use Rattle.std.proofs.lemmas.List.{map-append}
use Rattle.std.proofs.lemmas.List.Elements.{filter-append}
use Rattle.std.proofs.lemmas.Bool.{true≢false}
use Rattle.trail_model.specs.Each.{EachTwo}
use Rattle.trail_model.specs.Linked.{requests_of}
use Rattle.trail_model.specs.World.{Request, Stage, Submission, staged, submit_at}
use Rattle.trail_model.proofs.Submits.{eqb-same, none-some, same-eqb, some-same}

-- those of the submits that pass a test, each shown in a way
abbrev pub shown : {X : Type 0} → (Submission → Bool) → (Submission → X) → List Submission → List X
shown t f submits = map f (filter t submits)

pub filter-both : {A : Type 0} (p q : A → Bool) (xs : List A) → filter p (filter q xs) ≡ filter (λ x. q x && p x) xs
filter-both p q [] = refl
filter-both p q (x ∷ xs) = by_test (q x) (p x) (filter-both p q xs)
  where
    by_test : (b b' : Bool) → filter p (filter q xs) ≡ filter (λ y. q y && p y) xs
        → filter p (cond b (x ∷ filter q xs) (filter q xs)) ≡ cond (b && p x) (x ∷ filter (λ y. q y && p y) xs) (filter (λ y. q y && p y) xs)
    by_test true b' later = ap (λ ys. cond (p x) (x ∷ ys) ys) later
    by_test false b' later = later

pub shown-append : {X : Type 0} (t : Submission → Bool) (f : Submission → X) (xs ys : List Submission) → shown t f (xs ++ ys) ≡ shown t f xs ++ shown t f ys
shown-append t f xs ys = ap (λ zs. map f zs) (filter-append t xs ys) ∙ map-append f (filter t xs) (filter t ys)

-- a change of such a list that changes each part of it by itself
pub record Splits {X : Type 0} (G : List X → List X) : Type 0 where
  pub none : G [] ≡ []
  pub both : (xs ys : List X) → G (xs ++ ys) ≡ G xs ++ G ys

pub same-splits : {X : Type 0} → Splits {X = X} (λ (xs : List X). xs)
same-splits = record { none = refl; both = λ xs ys. refl }

pub filter-splits : {X : Type 0} (test : X → Bool) → Splits (λ (xs : List X). filter test xs)
filter-splits test = record { none = refl; both = filter-append test }

pub map-splits : {X : Type 0} (h : X → X) → Splits (λ (xs : List X). map h xs)
map-splits h = record { none = refl; both = map-append h }

-- what comes later in order has another place
pub later-places : (x : Submission) (place : ℕ) (submits : List Submission) → x.request.place ≡ place
    → AllByRecursion (λ (r : Request). x.request.place < r.place) (requests_of submits) → AllByRecursion (λ (y : Submission). y.request.place ≡ place → ⊥) submits
later-places x place [] here all = tt
later-places x place (y ∷ submits) here all = ((λ same. let less = all.0 in omega arith), later-places x place submits here all.1)

module _ {X : Type 0} (t : Submission → Bool) (f : Submission → X) (G : List X → List X) (splits : Splits G) (place : ℕ)
    (other : (y : Submission) → (y.request.place ≡ place → ⊥) → shown t f (y ∷ []) ≡ G (shown t f (y ∷ []))) where
  shown-two : (x : Submission) (xs : List Submission) → G (shown t f (x ∷ xs)) ≡ G (shown t f (x ∷ [])) ++ G (shown t f xs)
  shown-two x xs = ap G (shown-append t f (x ∷ []) xs) ∙ splits.both (shown t f (x ∷ [])) (shown t f xs)

  pub others-same : (submits : List Submission) → AllByRecursion (λ (y : Submission). y.request.place ≡ place → ⊥) submits → shown t f submits ≡ G (shown t f submits)
  others-same [] all = sym splits.none
  others-same (y ∷ submits) all =
      shown-append t f (y ∷ []) submits
      ∙ (ap (λ zs. zs ++ shown t f submits) (other y all.0)
      ∙ (ap (λ zs. G (shown t f (y ∷ [])) ++ zs) (others-same submits all.1)
      ∙ sym (shown-two y submits)))

  pub shown-staged : (stage : Stage) (submits : List Submission) (s : Submission) → EachTwo (λ (a b : Request). a.place < b.place) (requests_of submits)
      → submit_at submits place ≡ Some s → shown t f ((let u : Submission = record s { stage = stage } in u) ∷ []) ≡ G (shown t f (s ∷ []))
      → shown t f (staged place stage submits) ≡ G (shown t f submits)
  shown-staged stage [] s order e here = absurd (none-some s e)
  shown-staged stage (x ∷ submits) s order e here = by_test (x.request.place == place) refl e (λ later. shown-staged stage submits s order.1 later here)
    where
      by_test : (b : Bool) → (x.request.place == place) ≡ b → cond b (Some x) (submit_at submits place) ≡ Some s
          → (submit_at submits place ≡ Some s → shown t f (staged place stage submits) ≡ G (shown t f submits))
          → shown t f (if b then (let u : Submission = record x { stage = stage } in u) ∷ submits else x ∷ staged place stage submits) ≡ G (shown t f (x ∷ submits))
      by_test true h found later =
          let same : x ≡ s = some-same x s found in
          let u : Submission = record x { stage = stage } in
          let first : shown t f (u ∷ []) ≡ G (shown t f (x ∷ [])) =
          subst (λ (y : Submission). shown t f ((let v : Submission = record y { stage = stage } in v) ∷ []) ≡ G (shown t f (y ∷ []))) (sym same) here in
          shown-append t f (u ∷ []) submits
          ∙ (ap (λ zs. zs ++ shown t f submits) first
          ∙ (ap (λ zs. G (shown t f (x ∷ [])) ++ zs) (others-same submits (later-places x place submits (eqb-same x.request.place place h) order.0))
          ∙ sym (shown-two x submits)))
      by_test false h found later =
          shown-append t f (x ∷ []) (staged place stage submits)
          ∙ (ap (λ zs. zs ++ shown t f (staged place stage submits)) (other x (λ same. true≢false (sym (same-eqb x.request.place place same) ∙ h)))
          ∙ (ap (λ zs. G (shown t f (x ∷ [])) ++ zs) (later found)
          ∙ sym (shown-two x submits)))
