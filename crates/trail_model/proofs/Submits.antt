-- Submits and claims by their places: what a look-up finds after one of them has come further, or is over.
use Rattle.std.proofs.Common.{◌≡◌, ℕ, ◌==◌, Bool, true, false, cond, eqb, List, [], ◌∷◌, ◌++◌, find, Option, Some, None, refl, sym, ap, subst, ◌∙◌, inl, inr, ◌⊎◌, arith, if◌then◌else◌}
use Rattle.std.specs.List.{AllByRecursion}
use Rattle.std.proofs.lemmas.Bool.Decides.{nat_tests}
use Rattle.trail_model.specs.Each.{EachTwo}
use Rattle.trail_model.specs.Linked.{requests_of}
use Rattle.trail_model.specs.World.{OpenClaim, Request, Stage, Submission, claim_at, staged, staged_if, submit_at, without_claim}

pub eqb-same : (a b : ℕ) → eqb a b ≡ true → a ≡ b
eqb-same a b e = grind (arith, nat_tests)

pub same-eqb : (a b : ℕ) → a ≡ b → eqb a b ≡ true
same-eqb a b e = grind (arith, nat_tests)

pub other-eqb : (a b : ℕ) → (a ≡ b → ⊥) → eqb a b ≡ false
other-eqb a b e = by_test (eqb a b) refl
  where
    by_test : (t : Bool) → eqb a b ≡ t → eqb a b ≡ false
    by_test true h = absurd (e (eqb-same a b h))
    by_test false h = h

pub some-same : {A : Type 0} (x y : A) → Some x ≡ Some y → x ≡ y
some-same x y e = cc

pub none-some : {A : Type 0} (x : A) → None ≡ Some x → ⊥
none-some x e = cc

-- ---- for each, and for each two

pub each-append : {A : Type 0} (P : A → Type 0) (xs ys : List A) → AllByRecursion P xs → AllByRecursion P ys → AllByRecursion P (xs ++ ys)
each-append P [] ys front back = back
each-append P (x ∷ xs) ys front back = (front.0, each-append P xs ys front.1 back)

pub each-weaker : {A : Type 0} (P Q : A → Type 0) → ((x : A) → P x → Q x) → (xs : List A) → AllByRecursion P xs → AllByRecursion Q xs
each-weaker P Q weaker [] all = tt
each-weaker P Q weaker (x ∷ xs) all = (weaker x all.0, each-weaker P Q weaker xs all.1)

pub each-both : {A : Type 0} (P Q : A → Type 0) (xs : List A) → AllByRecursion P xs → AllByRecursion Q xs → AllByRecursion (λ (x : A). P x × Q x) xs
each-both P Q [] p q = tt
each-both P Q (x ∷ xs) p q = ((p.0, q.0), each-both P Q xs p.1 q.1)

pub two-push : {A : Type 0} (R : A → A → Type 0) (xs : List A) (y : A) → EachTwo R xs → AllByRecursion (λ x. R x y) xs → EachTwo R (xs ++ y ∷ [])
two-push R [] y all with_y = (tt, tt)
two-push R (x ∷ xs) y all with_y = (each-append (R x) xs (y ∷ []) all.0 (with_y.0, tt), two-push R xs y all.1 with_y.1)

-- ---- what a look-up finds

pub found-each : {A : Type 0} (P : A → Type 0) (test : A → Bool) (xs : List A) (x : A) → AllByRecursion P xs → find test xs ≡ Some x → P x
found-each P test [] x all e = absurd (none-some x e)
found-each P test (y ∷ ys) x all e = by_test (found-each P test ys x all.1) (test y) e
  where
    by_test : (find test ys ≡ Some x → P x) → (b : Bool) → cond b (Some y) (find test ys) ≡ Some x → P x
    by_test later true e = subst P (some-same y x e) all.0
    by_test later false e = later e

pub found-test : {A : Type 0} (test : A → Bool) (xs : List A) (x : A) → find test xs ≡ Some x → test x ≡ true
found-test test [] x e = absurd (none-some x e)
found-test test (y ∷ ys) x e = by_test (found-test test ys x) (test y) refl e
  where
    by_test : (find test ys ≡ Some x → test x ≡ true) → (b : Bool) → test y ≡ b → cond b (Some y) (find test ys) ≡ Some x → test x ≡ true
    by_test later true h e = subst (λ z. test z ≡ true) (some-same y x e) h
    by_test later false h e = later e

pub find-push : {A : Type 0} (test : A → Bool) (xs : List A) (y x : A) → find test xs ≡ Some x → find test (xs ++ y ∷ []) ≡ Some x
find-push test [] y x e = absurd (none-some x e)
find-push test (z ∷ zs) y x e = by_test (find-push test zs y x) (test z) e
  where
    by_test : (find test zs ≡ Some x → find test (zs ++ y ∷ []) ≡ Some x) → (b : Bool) → cond b (Some z) (find test zs) ≡ Some x
        → cond b (Some z) (find test (zs ++ y ∷ [])) ≡ Some x
    by_test later true e = e
    by_test later false e = later e

pub find-new : {A : Type 0} (test : A → Bool) (xs : List A) (y : A) → find test xs ≡ None → test y ≡ true → find test (xs ++ y ∷ []) ≡ Some y
find-new test [] y e h = ap (λ (b : Bool). cond b (Some y) None) h
find-new test (z ∷ zs) y e h = by_test (λ later. find-new test zs y later h) (test z) e
  where
    by_test : (find test zs ≡ None → find test (zs ++ y ∷ []) ≡ Some y) → (b : Bool) → cond b (Some z) (find test zs) ≡ None
        → cond b (Some z) (find test (zs ++ y ∷ [])) ≡ Some y
    by_test later true e = cc
    by_test later false e = later e

-- a look-up in a longer list finds what was there, or the new item
pub push-found : {A : Type 0} (test : A → Bool) (xs : List A) (y x : A) → find test (xs ++ y ∷ []) ≡ Some x → (find test xs ≡ Some x) ⊎ ((y ≡ x) × (test y ≡ true))
push-found test [] y x e = by_test (test y) refl e
  where
    by_test : (b : Bool) → test y ≡ b → cond b (Some y) None ≡ Some x → (find test [] ≡ Some x) ⊎ ((y ≡ x) × (test y ≡ true))
    by_test true h e = inr (some-same y x e, h)
    by_test false h e = absurd (none-some x e)
push-found test (z ∷ zs) y x e = by_test (push-found test zs y x) (test z) e
  where
    by_test : (find test (zs ++ y ∷ []) ≡ Some x → (find test zs ≡ Some x) ⊎ ((y ≡ x) × (test y ≡ true))) → (b : Bool)
        → cond b (Some z) (find test (zs ++ y ∷ [])) ≡ Some x → (cond b (Some z) (find test zs) ≡ Some x) ⊎ ((y ≡ x) × (test y ≡ true))
    by_test later true e = inl e
    by_test later false e = later e

-- ---- submits

pub submit-place : (submits : List Submission) (place : ℕ) (s : Submission) → submit_at submits place ≡ Some s → s.request.place ≡ place
submit-place submits place s e =
    eqb-same s.request.place place (found-test (λ (x : Submission). x.request.place == place) submits s e)

-- what was asked never changes
pub staged-requests : (place : ℕ) (stage : Stage) (submits : List Submission) → requests_of (staged place stage submits) ≡ requests_of submits
staged-requests place stage [] = refl
staged-requests place stage (s ∷ submits) = by_test (staged-requests place stage submits) (s.request.place == place)
  where
    by_test : requests_of (staged place stage submits) ≡ requests_of submits → (b : Bool)
        → requests_of (if b then record s { stage = stage } ∷ submits else s ∷ staged place stage submits) ≡ s.request ∷ requests_of submits
    by_test later true = refl
    by_test later false = ap (λ (rs : List Request). s.request ∷ rs) later

pub staged-at : (place : ℕ) (stage : Stage) (submits : List Submission) (s : Submission) → submit_at submits place ≡ Some s
    → submit_at (staged place stage submits) place ≡ Some (record s { stage = stage })
staged-at place stage [] s e = absurd (none-some s e)
staged-at place stage (x ∷ submits) s e = by_test (staged-at place stage submits s) (x.request.place == place) refl e
  where
    by_test : (submit_at submits place ≡ Some s → submit_at (staged place stage submits) place ≡ Some (record s { stage = stage })) → (b : Bool)
        → (x.request.place == place) ≡ b → cond b (Some x) (submit_at submits place) ≡ Some s
        → submit_at (if b then record x { stage = stage } ∷ submits else x ∷ staged place stage submits) place ≡ Some (record s { stage = stage })
    by_test later true h e =
        ap (λ (b : Bool). cond b (Some (record x { stage = stage })) (submit_at submits place)) h
        ∙ ap (λ (y : Submission). Some (record y { stage = stage })) (some-same x s e)
    by_test later false h e = ap (λ (b : Bool). cond b (Some x) (submit_at (staged place stage submits) place)) h ∙ later e

pub staged-other : (place : ℕ) (stage : Stage) (submits : List Submission) (q : ℕ) → (q ≡ place → ⊥) → submit_at (staged place stage submits) q ≡ submit_at submits q
staged-other place stage [] q other = refl
staged-other place stage (x ∷ submits) q other = by_test (staged-other place stage submits q other) (x.request.place == place) refl
  where
    by_test : submit_at (staged place stage submits) q ≡ submit_at submits q → (b : Bool) → (x.request.place == place) ≡ b
        → submit_at (if b then record x { stage = stage } ∷ submits else x ∷ staged place stage submits) q ≡ submit_at (x ∷ submits) q
    by_test later true h =
        let here : x.request.place ≡ place = eqb-same x.request.place place h in
        let no : (x.request.place == q) ≡ false = other-eqb x.request.place q (λ e. other (sym e ∙ here)) in
        ap (λ (b : Bool). cond b (Some (record x { stage = stage })) (submit_at submits q)) no ∙ sym (ap (λ (b : Bool). cond b (Some x) (submit_at submits q)) no)
    by_test later false h = ap (λ (o : Option Submission). cond (x.request.place == q) (Some x) o) later

pub staged_if-requests : (place : Option ℕ) (stage : Stage) (submits : List Submission) → requests_of (staged_if place stage submits) ≡ requests_of submits
staged_if-requests None stage submits = refl
staged_if-requests (Some place) stage submits = staged-requests place stage submits

-- A list of submits is some, one, some more, and only that one has come further.
pub record Restaged (s : Submission) (stage : Stage) (old new : List Submission) : Type 0 where
  pub front : List Submission
  pub back : List Submission
  pub before : old ≡ front ++ s ∷ back
  pub after : new ≡ front ++ (let t : Submission = record s { stage = stage } in t) ∷ back

pub restaged : (place : ℕ) (stage : Stage) (submits : List Submission) (s : Submission) → submit_at submits place ≡ Some s → Restaged s stage submits (staged place stage submits)
restaged place stage [] s e = absurd (none-some s e)
restaged place stage (x ∷ submits) s e = by_test (restaged place stage submits s) (x.request.place == place) e
  where
    by_test : (submit_at submits place ≡ Some s → Restaged s stage submits (staged place stage submits)) → (b : Bool)
        → cond b (Some x) (submit_at submits place) ≡ Some s
        → Restaged s stage (x ∷ submits) (if b then record x { stage = stage } ∷ submits else x ∷ staged place stage submits)
    by_test later true e = record {
      front = [];
      back = submits;
      before = ap (λ (y : Submission). y ∷ submits) (some-same x s e);
      after = ap (λ (y : Submission). (let t : Submission = record y { stage = stage } in t) ∷ submits) (some-same x s e);
    }
    by_test later false e =
        let h = later e in
        record { front = x ∷ h.front; back = h.back; before = ap (λ (ys : List Submission). x ∷ ys) h.before; after = ap (λ (ys : List Submission). x ∷ ys) h.after }

-- ---- claims

pub claim-place : (claims : List OpenClaim) (place : ℕ) (claim : OpenClaim) → claim_at claims place ≡ Some claim → claim.place ≡ place
claim-place claims place claim e =
    eqb-same claim.place place (found-test (λ (x : OpenClaim). x.place == place) claims claim e)

pub without-each : (P : OpenClaim → Type 0) (place : ℕ) (claims : List OpenClaim) → AllByRecursion P claims → AllByRecursion P (without_claim place claims)
without-each P place [] all = tt
without-each P place (x ∷ claims) all = by_test (x.place == place) (without-each P place claims all.1)
  where
    by_test : (b : Bool) → AllByRecursion P (without_claim place claims) → AllByRecursion P (if b then claims else x ∷ without_claim place claims)
    by_test true later = all.1
    by_test false later = (all.0, later)

pub without-two : (R : OpenClaim → OpenClaim → Type 0) (place : ℕ) (claims : List OpenClaim) → EachTwo R claims → EachTwo R (without_claim place claims)
without-two R place [] all = tt
without-two R place (x ∷ claims) all = by_test (x.place == place) (without-two R place claims all.1)
  where
    by_test : (b : Bool) → EachTwo R (without_claim place claims) → EachTwo R (if b then claims else x ∷ without_claim place claims)
    by_test true later = all.1
    by_test false later = (without-each (R x) place claims all.0, later)

-- the claim that is over has the relation to each that stays
pub without-related : (R : OpenClaim → OpenClaim → Type 0) → ((x y : OpenClaim) → R x y → R y x) → (place : ℕ) (claims : List OpenClaim) (claim : OpenClaim) → EachTwo R claims
    → claim_at claims place ≡ Some claim → AllByRecursion (R claim) (without_claim place claims)
without-related R swap place [] claim all e = absurd (none-some claim e)
without-related R swap place (x ∷ claims) claim all e = by_test (without-related R swap place claims claim all.1) (x.place == place) e
  where
    by_test : (claim_at claims place ≡ Some claim → AllByRecursion (R claim) (without_claim place claims)) → (b : Bool)
        → cond b (Some x) (claim_at claims place) ≡ Some claim → AllByRecursion (R claim) (if b then claims else x ∷ without_claim place claims)
    by_test later true e = subst (λ (y : OpenClaim). AllByRecursion (R y) claims) (some-same x claim e) all.0
    by_test later false e =
        (swap x claim (found-each (R x) (λ (y : OpenClaim). y.place == place) claims claim all.0 e), later e)
