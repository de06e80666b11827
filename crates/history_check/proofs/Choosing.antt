-- Of the commands that are left one can be sent at once: the first in the order of the text.
use Rattle.std.proofs.Common.{◌≡◌, ◌<◌, ◌==◌, Bool, true, false, ◌&&◌, ◌||◌, inl, inr, List, [], ◌∷◌, refl, sym, ap, subst, ◌∙◌, arith}
use Rattle.std.specs.List.{AllByRecursion, list_any}
use Rattle.std.proofs.lemmas.Bool.{eqb-true, eq-eqb, false≢true}
use Rattle.script_cmds.specs.declared.item.Phase.{Phase}
use Rattle.history_model.specs.Sent.{Sent, TakenBefore, sends_of}
use Rattle.history_model.proofs.Every.{Pairwise, every-All, every-weaker}
use Rattle.history_model.proofs.OneHistory.{Among, every-among, unique}
use Rattle.history_model.proofs.Order.{IsAmongEarlier, Precedes, none-in-order, not-taken-before, phases-in-order, sends-in-order}

-- a command takes none that is not sent yet, so not itself
abbrev pub TakesEarlier : Sent → Type 0
TakesEarlier s = AllByRecursion (λ t. t < s.ordinal) s.taken

pub all-take-earlier : (plan : List Phase) → AllByRecursion TakesEarlier (sends_of plan)
all-take-earlier plan =
    let order = phases-in-order 1 [] plan (none-in-order 1) in
    every-weaker (IsAmongEarlier order.0 (sends_of plan)) TakesEarlier (λ s among. among.taken) (sends_of plan) order.1.each

pub not-itself : (s : Sent) → TakesEarlier s → TakenBefore s s → ⊥
not-itself s earlier (inl phases) = omega (arith, phases)
not-itself s earlier (inr (same, found)) =
    let here = every-All (λ t. t < s.ordinal) s.taken earlier found.0 s.ordinal found.1 in
    omega (arith, here, found.2)

-- two commands of one name
abbrev pub same-name : Sent → Sent → Bool
same-name a b = (a.host == b.host) && (a.ordinal == b.ordinal)

pub both-true : (a b : Bool) → (a && b) ≡ true → (a ≡ true) × (b ≡ true)
both-true true b e = (refl, e)
both-true false b e = absurd (false≢true e)

pub any-true : (test : Sent → Bool) (xs : List Sent) → list_any test xs ≡ true → (y : Sent) × Among xs y × (test y ≡ true)
any-true test [] e = absurd (false≢true e)
any-true test (x ∷ xs) e = by_test (test x) refl e (λ h. any-true test xs h)
  where
    by_test : (b : Bool) → test x ≡ b → (b || list_any test xs) ≡ true → (list_any test xs ≡ true → (y : Sent) × Among xs y × (test y ≡ true))
        → (y : Sent) × Among (x ∷ xs) y × (test y ≡ true)
    by_test true is e later = (x, inl refl, is)
    by_test false is e later = let h = later e in (h.0, inr h.1, h.2)

pub any-false : (test : Sent → Bool) (xs : List Sent) → list_any test xs ≡ false → AllByRecursion (λ y. test y ≡ false) xs
any-false test [] e = tt
any-false test (x ∷ xs) e = by_test (test x) refl e (λ h. any-false test xs h)
  where
    by_test : (b : Bool) → test x ≡ b → (b || list_any test xs) ≡ false → (list_any test xs ≡ false → AllByRecursion (λ y. test y ≡ false) xs)
        → AllByRecursion (λ y. test y ≡ false) (x ∷ xs)
    by_test true is e later = absurd (false≢true (sym e))
    by_test false is e later = (is, later e)

-- a command that is left, before which none of those that are left has to be over
pub record IsNext (left : List Sent) (s : Sent) : Type 0 where
  pub among : Among left s
  pub ready : AllByRecursion (λ other. TakenBefore other s → ⊥) left

some-next : (sends left : List Sent) (first : Sent) → Pairwise Precedes sends → AllByRecursion TakesEarlier sends → AllByRecursion (Among sends) left → Among left first
    → (s : Sent) × Among sends s × IsNext left s
some-next [] left first order earlier all some = absurd (every-among (Among []) left first all some)
some-next (s ∷ ss) left first order earlier all some =
    by_test (list_any (same-name s) left) refl (λ behind. some-next ss left first order.1 earlier.1 behind some)
  where
    is-here : (y : Sent) → same-name s y ≡ true → Among (s ∷ ss) y → y ≡ s
    is-here y e found =
        let names = both-true (s.host == y.host) (s.ordinal == y.ordinal) e in
        sym (unique (s ∷ ss) s y order (inl refl) found (eqb-true s.host y.host names.0) (eqb-true s.ordinal y.ordinal names.1))

    not-first : (y : Sent) → Among (s ∷ ss) y → TakenBefore y s → ⊥
    not-first y (inl is) before = not-itself s earlier.0 (subst (λ (x : Sent). TakenBefore x s) is before)
    not-first y (inr found) before = not-taken-before s y (every-among (Precedes s) ss y order.0 found) before

    behind : (y : Sent) → same-name s y ≡ false → Among (s ∷ ss) y → Among ss y
    behind y e (inl is) =
        let h : s.host ≡ y.host = ap (λ (x : Sent). x.host) (sym is) in
        let o : s.ordinal ≡ y.ordinal = ap (λ (x : Sent). x.ordinal) (sym is) in
        let both : same-name s y ≡ true = ap (λ (b : Bool). b && (s.ordinal == y.ordinal)) (eq-eqb s.host y.host h) ∙ eq-eqb s.ordinal y.ordinal o in
        absurd (false≢true (sym e ∙ both))
    behind y e (inr found) = found

    all-behind : (ys : List Sent) → AllByRecursion (λ y. same-name s y ≡ false) ys → AllByRecursion (Among (s ∷ ss)) ys → AllByRecursion (Among ss) ys
    all-behind [] differ all = tt
    all-behind (y ∷ ys) differ all = (behind y differ.0 all.0, all-behind ys differ.1 all.1)

    by_test : (b : Bool) → list_any (same-name s) left ≡ b → (AllByRecursion (Among ss) left → (x : Sent) × Among ss x × IsNext left x)
        → (x : Sent) × Among (s ∷ ss) x × IsNext left x
    by_test true e later =
        let found = any-true (same-name s) left e in
        let is : found.0 ≡ s = is-here found.0 found.2 (every-among (Among (s ∷ ss)) left found.0 all found.1) in (
          s,
          inl refl,
          record {
            among = subst (λ (x : Sent). Among left x) is found.1;
            ready = every-weaker (Among (s ∷ ss)) (λ other. TakenBefore other s → ⊥) not-first left all;
          },
        )
    by_test false e later =
        let h = later (all-behind left (any-false (same-name s) left e) all) in
        (h.0, inr h.1, h.2)

-- where some are left there is a next one
pub next-of : (plan : List Phase) (first : Sent) (left : List Sent) → AllByRecursion (Among (sends_of plan)) (first ∷ left)
    → (s : Sent) × Among (sends_of plan) s × IsNext (first ∷ left) s
next-of plan first left all = some-next (sends_of plan) (first ∷ left) first (sends-in-order plan) (all-take-earlier plan) all (inl refl)
