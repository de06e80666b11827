-- Which bytes regions have, and when what one command writes another does not touch.
use Rattle.std.proofs.Common.{◌≡◌, ℕ, ◌+◌, ◌<◌, ◌≤◌, Bool, true, false, ◌&&◌, ◌||◌, List, [], ◌∷◌, nat_lt, nat_le, refl, sym, ap, ◌∙◌, inl, inr, ◌⊎◌, ⊎_elim, arith, if◌then◌else◌}
use Rattle.std.proofs.lemmas.Bool.{true≢false, and_parts, and_from}
use Rattle.std.proofs.lemmas.Bool.Decides.{nat_tests}
use Rattle.cp_base.specs.Region.{Region}
use Rattle.cp_base.specs.Runs.{hull, is_apart_before, runs_of, space_before, with_run}
use Rattle.cp_base.specs.Sharing.{IsIn, meets_any, same_space, shares_byte}
use Rattle.cp_base.specs.Touching.{meets, share_byte}
use Rattle.cp_base.specs.declared.region.SpaceId.{SpaceId}
use Rattle.cp_base.specs.declared.region.SpaceId.TheVariants.{Nvm, Mem}
use Rattle.cp_base.specs.declared.spans.Footprint.{Footprint}
use Rattle.trail_model.specs.Footprints.{in_one_order, with_region}
use Rattle.trail_model.specs.Pieces.{any_has_byte, has_byte}

-- the test of two namespaces
pub same_space-true : (a b : SpaceId) → same_space a b ≡ true → a ≡ b
same_space-true (Nvm m) (Nvm n) h = let e : m ≡ n = grind (arith, nat_tests) in ap Nvm e
same_space-true (Mem m) (Mem n) h = let e : m ≡ n = grind (arith, nat_tests) in ap Mem e
same_space-true (Nvm m) (Mem n) h = cc
same_space-true (Mem m) (Nvm n) h = cc

pub same_space-itself : (a b : SpaceId) → a ≡ b → same_space a b ≡ true
same_space-itself (Nvm m) (Nvm n) e = let f : m ≡ n = cc in grind (arith, nat_tests)
same_space-itself (Mem m) (Mem n) e = let f : m ≡ n = cc in grind (arith, nat_tests)
same_space-itself (Nvm m) (Mem n) e = cc
same_space-itself (Mem m) (Nvm n) e = cc

-- what a test decides, by cases on the test
pub by_cases : (b : Bool) → (b ≡ true) ⊎ (b ≡ false)
by_cases true = inl refl
by_cases false = inr refl

-- ---- a byte of a region

pub has_byte-in : (r : Region) (s : SpaceId) (k : ℕ) → has_byte r s k ≡ true → IsIn r s k
has_byte-in r s k h =
    let p = and_parts (same_space r.space s) (nat_le r.start k && nat_lt k (r.start + r.len)) h in
    let q = and_parts (nat_le r.start k) (nat_lt k (r.start + r.len)) p.1 in
    let low = q.0 in
    let high = q.1 in
    (same_space-true r.space s p.0, grind (arith, nat_tests), grind (arith, nat_tests))

pub in-has_byte : (r : Region) (s : SpaceId) (k : ℕ) → IsIn r s k → has_byte r s k ≡ true
in-has_byte r s k (same, low, high) =
    and_from (same_space r.space s) (nat_le r.start k && nat_lt k (r.start + r.len)) (same_space-itself r.space s same)
    (and_from (nat_le r.start k) (nat_lt k (r.start + r.len)) (grind (arith, nat_tests)) (grind (arith, nat_tests)))

pub in-cases : (r : Region) (s : SpaceId) (k : ℕ) → IsIn r s k ⊎ (IsIn r s k → ⊥)
in-cases r s k = by_test (has_byte r s k) refl
  where
    by_test : (b : Bool) → has_byte r s k ≡ b → IsIn r s k ⊎ (IsIn r s k → ⊥)
    by_test true e = inl (has_byte-in r s k e)
    by_test false e = inr (λ inside. true≢false (sym (in-has_byte r s k inside) ∙ e))

pub out-has_byte : (r : Region) (s : SpaceId) (k : ℕ) → (IsIn r s k → ⊥) → has_byte r s k ≡ false
out-has_byte r s k out = by_test (has_byte r s k) refl
  where
    by_test : (b : Bool) → has_byte r s k ≡ b → has_byte r s k ≡ false
    by_test true e = absurd (out (has_byte-in r s k e))
    by_test false e = e

-- ---- a byte of some region of a list

abbrev pub IsInSome : List Region → SpaceId → ℕ → Type 0
IsInSome [] s k = ⊥
IsInSome (r ∷ rs) s k = IsIn r s k ⊎ IsInSome rs s k

pub some-has_byte : (rs : List Region) (s : SpaceId) (k : ℕ) → any_has_byte rs s k ≡ true → IsInSome rs s k
some-has_byte [] s k h = true≢false (sym h)
some-has_byte (r ∷ rs) s k h = by_test (some-has_byte rs s k) (has_byte r s k) refl h
  where
    by_test : (any_has_byte rs s k ≡ true → IsInSome rs s k) → (b : Bool) → has_byte r s k ≡ b → (b || any_has_byte rs s k) ≡ true
        → IsIn r s k ⊎ IsInSome rs s k
    by_test later true e h = inl (has_byte-in r s k e)
    by_test later false e h = inr (later h)

pub has_byte-some : (rs : List Region) (s : SpaceId) (k : ℕ) → IsInSome rs s k → any_has_byte rs s k ≡ true
has_byte-some [] s k h = absurd h
has_byte-some (r ∷ rs) s k (inl here) = ap (λ (b : Bool). b || any_has_byte rs s k) (in-has_byte r s k here)
has_byte-some (r ∷ rs) s k (inr there) = by_test (has_byte r s k) (has_byte-some rs s k there)
  where
    by_test : (b : Bool) → any_has_byte rs s k ≡ true → (b || any_has_byte rs s k) ≡ true
    by_test true e = refl
    by_test false e = e

pub some-cases : (rs : List Region) (s : SpaceId) (k : ℕ) → IsInSome rs s k ⊎ (IsInSome rs s k → ⊥)
some-cases rs s k = by_test (any_has_byte rs s k) refl
  where
    by_test : (b : Bool) → any_has_byte rs s k ≡ b → IsInSome rs s k ⊎ (IsInSome rs s k → ⊥)
    by_test true e = inl (some-has_byte rs s k e)
    by_test false e = inr (λ inside. true≢false (sym (has_byte-some rs s k inside) ∙ e))

-- ---- runs have the bytes of their regions

space_before-neither : (a b : SpaceId) → space_before a b ≡ false → space_before b a ≡ false → a ≡ b
space_before-neither (Nvm m) (Nvm n) g h = let e : m ≡ n = grind (arith, nat_tests) in ap Nvm e
space_before-neither (Mem m) (Mem n) g h = let e : m ≡ n = grind (arith, nat_tests) in ap Mem e
space_before-neither (Nvm m) (Mem n) g h = cc
space_before-neither (Mem m) (Nvm n) g h = cc

either_false : (a b : Bool) → (a || b) ≡ false → (a ≡ false) × (b ≡ false)
either_false true b h = absurd (true≢false h)
either_false false b h = (refl, h)

and_false : (a b : Bool) → a ≡ true → (a && b) ≡ false → b ≡ false
and_false true b e h = h
and_false false b e h = absurd (true≢false (sym e))

-- two regions of which none lies apart before the other are of one namespace, and touch
pub record Touch (a b : Region) : Type 0 where
  pub same : a.space ≡ b.space
  pub left : b.start ≤ a.start + a.len
  pub right : a.start ≤ b.start + b.len

pub touching : (a b : Region) → is_apart_before a b ≡ false → is_apart_before b a ≡ false → Touch a b
touching a b g h =
    let p = either_false (space_before a.space b.space) (same_space a.space b.space && nat_lt (a.start + a.len) b.start) g in
    let q = either_false (space_before b.space a.space) (same_space b.space a.space && nat_lt (b.start + b.len) a.start) h in
    let same = space_before-neither a.space b.space p.0 q.0 in
    let left = and_false (same_space a.space b.space) (nat_lt (a.start + a.len) b.start) (same_space-itself a.space b.space same) p.1 in
    let right = and_false (same_space b.space a.space) (nat_lt (b.start + b.len) a.start) (same_space-itself b.space a.space (sym same)) q.1 in
    record { same = same; left = grind (arith, nat_tests); right = grind (arith, nat_tests) }

hull-in : (a b : Region) (s : SpaceId) (k : ℕ) → Touch a b → IsIn (hull a b) s k → IsIn a s k ⊎ IsIn b s k
hull-in a b s k touch (same, low, high) = by_side cases
  where
    cases : (k < a.start) ⊎ (a.start + a.len ≤ k) ⊎ ((a.start ≤ k) × (k < a.start + a.len))
    cases = grind arith

    by_side : (k < a.start) ⊎ (a.start + a.len ≤ k) ⊎ ((a.start ≤ k) × (k < a.start + a.len)) → IsIn a s k ⊎ IsIn b s k
    by_side (inl below) = let r = touch.right in inr (sym touch.same ∙ same, omega arith, omega arith)
    by_side (inr (inl above)) = let l = touch.left in inr (sym touch.same ∙ same, omega arith, omega arith)
    by_side (inr (inr inside)) = inl (same, inside.0, inside.1)

in-hull : (a b : Region) (s : SpaceId) (k : ℕ) → Touch a b → IsIn a s k ⊎ IsIn b s k → IsIn (hull a b) s k
in-hull a b s k touch (inl (same, low, high)) = (same, omega arith, omega arith)
in-hull a b s k touch (inr (same, low, high)) = (touch.same ∙ same, omega arith, omega arith)

run-in : (r : Region) (runs : List Region) (s : SpaceId) (k : ℕ) → IsInSome (with_run r runs) s k → IsIn r s k ⊎ IsInSome runs s k
run-in r [] s k h = h
run-in r (run ∷ runs) s k h = by_test (λ q. run-in q runs s k) (is_apart_before r run) (is_apart_before run r) refl refl h
  where
    by_test : ((q : Region) → IsInSome (with_run q runs) s k → IsIn q s k ⊎ IsInSome runs s k) → (b b' : Bool) → is_apart_before r run ≡ b → is_apart_before run r ≡ b'
        → IsInSome (if b then r ∷ run ∷ runs else if b' then run ∷ with_run r runs else with_run (hull r run) runs) s k
        → IsIn r s k ⊎ (IsIn run s k ⊎ IsInSome runs s k)
    by_test later true b' e e' h = h
    by_test later false true e e' (inl here) = inr (inl here)
    by_test later false true e e' (inr there) = ⊎_elim {C = IsIn r s k ⊎ (IsIn run s k ⊎ IsInSome runs s k)}
        (λ (x : IsIn r s k). inl x) (λ (x : IsInSome runs s k). inr (inr x)) (later r there)
    by_test later false false e e' h = ⊎_elim {C = IsIn r s k ⊎ (IsIn run s k ⊎ IsInSome runs s k)}
        (λ (x : IsIn (hull r run) s k). ⊎_elim {C = IsIn r s k ⊎ (IsIn run s k ⊎ IsInSome runs s k)}
        (λ (y : IsIn r s k). inl y) (λ (y : IsIn run s k). inr (inl y)) (hull-in r run s k (touching r run e e') x))
        (λ (x : IsInSome runs s k). inr (inr x)) (later (hull r run) h)

in-run : (r : Region) (runs : List Region) (s : SpaceId) (k : ℕ) → IsIn r s k ⊎ IsInSome runs s k → IsInSome (with_run r runs) s k
in-run r [] s k h = h
in-run r (run ∷ runs) s k h = by_test (λ q. in-run q runs s k) (is_apart_before r run) (is_apart_before run r) refl refl h
  where
    by_test : ((q : Region) → IsIn q s k ⊎ IsInSome runs s k → IsInSome (with_run q runs) s k) → (b b' : Bool) → is_apart_before r run ≡ b → is_apart_before run r ≡ b' → IsIn r s k ⊎ (IsIn run s k ⊎ IsInSome runs s k)
        → IsInSome (if b then r ∷ run ∷ runs else if b' then run ∷ with_run r runs else with_run (hull r run) runs) s k
    by_test later true b' e e' h = h
    by_test later false true e e' (inl here) = inr (later r (inl here))
    by_test later false true e e' (inr (inl here)) = inl here
    by_test later false true e e' (inr (inr there)) = inr (later r (inr there))
    by_test later false false e e' (inl here) = later (hull r run) (inl (in-hull r run s k (touching r run e e') (inl here)))
    by_test later false false e e' (inr (inl here)) = later (hull r run) (inl (in-hull r run s k (touching r run e e') (inr here)))
    by_test later false false e e' (inr (inr there)) = later (hull r run) (inr there)

pub runs-in : (rs : List Region) (s : SpaceId) (k : ℕ) → IsInSome (runs_of rs) s k → IsInSome rs s k
runs-in [] s k h = h
runs-in (r ∷ rs) s k h = ⊎_elim {C = IsIn r s k ⊎ IsInSome rs s k} (λ (x : IsIn r s k). inl x)
    (λ (x : IsInSome (runs_of rs) s k). inr (runs-in rs s k x)) (run-in r (runs_of rs) s k h)

pub in-runs : (rs : List Region) (s : SpaceId) (k : ℕ) → IsInSome rs s k → IsInSome (runs_of rs) s k
in-runs [] s k h = h
in-runs (r ∷ rs) s k (inl here) = in-run r (runs_of rs) s k (inl here)
in-runs (r ∷ rs) s k (inr there) = in-run r (runs_of rs) s k (inr (in-runs rs s k there))

-- ---- two lists in one order have the bytes of both

region-in : (r : Region) (rs : List Region) (s : SpaceId) (k : ℕ) → IsInSome (with_region r rs) s k → IsIn r s k ⊎ IsInSome rs s k
region-in r [] s k h = h
region-in r (other ∷ others) s k h =
    by_test (region-in r others s k) (space_before r.space other.space || (same_space r.space other.space && nat_lt r.start other.start)) h
  where
    by_test : (IsInSome (with_region r others) s k → IsIn r s k ⊎ IsInSome others s k) → (b : Bool) → IsInSome (if b then r ∷ other ∷ others else other ∷ with_region r others) s k
        → IsIn r s k ⊎ (IsIn other s k ⊎ IsInSome others s k)
    by_test later true h = h
    by_test later false (inl here) = inr (inl here)
    by_test later false (inr there) = ⊎_elim {C = IsIn r s k ⊎ (IsIn other s k ⊎ IsInSome others s k)} (λ (x : IsIn r s k). inl x)
        (λ (x : IsInSome others s k). inr (inr x)) (later there)

in-region : (r : Region) (rs : List Region) (s : SpaceId) (k : ℕ) → IsIn r s k ⊎ IsInSome rs s k → IsInSome (with_region r rs) s k
in-region r [] s k h = h
in-region r (other ∷ others) s k h =
    by_test (in-region r others s k) (space_before r.space other.space || (same_space r.space other.space && nat_lt r.start other.start)) h
  where
    by_test : (IsIn r s k ⊎ IsInSome others s k → IsInSome (with_region r others) s k) → (b : Bool) → IsIn r s k ⊎ (IsIn other s k ⊎ IsInSome others s k)
        → IsInSome (if b then r ∷ other ∷ others else other ∷ with_region r others) s k
    by_test later true h = h
    by_test later false (inl here) = inr (later (inl here))
    by_test later false (inr (inl here)) = inl here
    by_test later false (inr (inr there)) = inr (later (inr there))

pub ordered-in : (xs bs : List Region) (s : SpaceId) (k : ℕ) → IsInSome (in_one_order xs bs) s k → IsInSome xs s k ⊎ IsInSome bs s k
ordered-in [] bs s k h = inr h
ordered-in (a ∷ xs) bs s k h = ⊎_elim {C = (IsIn a s k ⊎ IsInSome xs s k) ⊎ IsInSome bs s k} (λ (x : IsIn a s k). inl (inl x))
    (λ (x : IsInSome (in_one_order xs bs) s k). ⊎_elim {C = (IsIn a s k ⊎ IsInSome xs s k) ⊎ IsInSome bs s k}
    (λ (y : IsInSome xs s k). inl (inr y)) (λ (y : IsInSome bs s k). inr y) (ordered-in xs bs s k x))
    (region-in a (in_one_order xs bs) s k h)

pub in-ordered : (xs bs : List Region) (s : SpaceId) (k : ℕ) → IsInSome xs s k ⊎ IsInSome bs s k → IsInSome (in_one_order xs bs) s k
in-ordered [] bs s k (inl h) = absurd h
in-ordered [] bs s k (inr h) = h
in-ordered (a ∷ xs) bs s k (inl (inl here)) = in-region a (in_one_order xs bs) s k (inl here)
in-ordered (a ∷ xs) bs s k (inl (inr there)) = in-region a (in_one_order xs bs) s k (inr (in-ordered xs bs s k (inl there)))
in-ordered (a ∷ xs) bs s k (inr there) = in-region a (in_one_order xs bs) s k (inr (in-ordered xs bs s k (inr there)))

-- ---- footprints that do not meet

apart : (a b : Region) (s : SpaceId) (k : ℕ) → shares_byte a b ≡ false → IsIn a s k → IsIn b s k → ⊥
apart a b s k none (same, low, high) (same', low', high') =
    let space = same_space-itself a.space b.space (same ∙ sym same') in
    let e1 = and_false (same_space a.space b.space) (nat_lt 0 a.len && (nat_lt 0 b.len && (nat_lt a.start (b.start + b.len) && nat_lt b.start (a.start + a.len)))) space none in
    let t1 : nat_lt 0 a.len ≡ true = grind (arith, nat_tests) in
    let e2 = and_false (nat_lt 0 a.len) (nat_lt 0 b.len && (nat_lt a.start (b.start + b.len) && nat_lt b.start (a.start + a.len))) t1 e1 in
    let t2 : nat_lt 0 b.len ≡ true = grind (arith, nat_tests) in
    let e3 = and_false (nat_lt 0 b.len) (nat_lt a.start (b.start + b.len) && nat_lt b.start (a.start + a.len)) t2 e2 in
    let t3 : nat_lt a.start (b.start + b.len) ≡ true = grind (arith, nat_tests) in
    let e4 = and_false (nat_lt a.start (b.start + b.len)) (nat_lt b.start (a.start + a.len)) t3 e3 in
    let t4 : nat_lt b.start (a.start + a.len) ≡ true = grind (arith, nat_tests) in
    true≢false (sym t4 ∙ e4)

pub unmet : (bs : List Region) (a : Region) (s : SpaceId) (k : ℕ) → meets_any bs a ≡ false → IsIn a s k → IsInSome bs s k → ⊥
unmet [] a s k none here h = h
unmet (b ∷ bs) a s k none here h =
    let p = either_false (shares_byte a b) (meets_any bs a) none in
    ⊎_elim {C = ⊥} (λ (x : IsIn b s k). apart a b s k p.0 here x) (λ (x : IsInSome bs s k). unmet bs a s k p.1 here x) h

unshared : (xs bs : List Region) (s : SpaceId) (k : ℕ) → share_byte xs bs ≡ false → IsInSome xs s k → IsInSome bs s k → ⊥
unshared [] bs s k none h there = h
unshared (a ∷ xs) bs s k none h there =
    let p = either_false (meets_any bs a) (share_byte xs bs) none in
    ⊎_elim {C = ⊥} (λ (x : IsIn a s k). unmet bs a s k p.0 x there) (λ (x : IsInSome xs s k). unshared xs bs s k p.1 x there) h

-- what a command touches
abbrev pub Touches : Footprint → SpaceId → ℕ → Type 0
Touches f s k = IsInSome f.writes s k ⊎ IsInSome f.reads s k

-- what one of two commands writes the other does not touch
pub record AreClear (f g : Footprint) : Type 0 where
  pub first : (s : SpaceId) (k : ℕ) → IsInSome f.writes s k → Touches g s k → ⊥
  pub second : (s : SpaceId) (k : ℕ) → IsInSome g.writes s k → Touches f s k → ⊥

pub clear : (f g : Footprint) → meets f g ≡ false → AreClear f g
clear f g none =
    let p = either_false (share_byte f.writes g.writes) (share_byte f.writes g.reads || share_byte f.reads g.writes) none in
    let q = either_false (share_byte f.writes g.reads) (share_byte f.reads g.writes) p.1 in
    record {
      first = λ s k mine. ⊎_elim {C = ⊥} (λ (x : IsInSome g.writes s k). unshared f.writes g.writes s k p.0 mine x)
          (λ (x : IsInSome g.reads s k). unshared f.writes g.reads s k q.0 mine x);
      second = λ s k theirs. ⊎_elim {C = ⊥} (λ (x : IsInSome f.writes s k). unshared f.writes g.writes s k p.0 x theirs)
          (λ (x : IsInSome f.reads s k). unshared f.reads g.writes s k q.1 x theirs);
    }

pub clear-swap : (f g : Footprint) → AreClear f g → AreClear g f
clear-swap f g h = record { first = h.second; second = h.first }
