-- The bytes of runs, and that runs are one list.
use Rattle.std.proofs.Common.{◌≡◌, ℕ, zero, suc, ◌+◌, ◌<◌, ◌≤◌, List, [], ◌∷◌, true, false, All, arith, sym, refl, ◌∙◌, subst, inl, inr, ⊎_elim, ◌⊎◌, ◌↔◌}
use Rattle.std.specs.Prelude.{AllPairs}
use Rattle.std.proofs.lemmas.Bool.{cases_lt}
use Rattle.std.proofs.lemmas.List.Elements.{All-head, All-tail}
use Rattle.cp_base.specs.Region.{Region, region_of}
use Rattle.cp_base.specs.Runs.{AreRunsOf, hull, is_apart_before, runs_of, space_before, with_run}
use Rattle.cp_base.specs.Sharing.{IsIn, IsInAny}
use Rattle.cp_base.specs.declared.region.SpaceId.{SpaceId}
use Rattle.cp_base.proofs.Sharing.{AllPairs-head, AllPairs-tail}
use Rattle.cp_base.proofs.Runs.{ComesBefore, HasBytes, IsApart, IsApart-parts, chosen, neither_apart, space_before-itself, space_before-trans}

-- a byte lies in one of the regions, by recursion
abbrev pub IsInSome : List Region → SpaceId → ℕ → Type 0
IsInSome [] space offset = ⊥
IsInSome (region ∷ regions) space offset = IsIn region space offset ⊎ IsInSome regions space offset

-- both ways of saying it
pub IsInSome-from_Any : (regions : List Region) (space : SpaceId) (offset : ℕ) → IsInAny regions space offset → IsInSome regions space offset
IsInSome-from_Any [] space offset (k, x, below, at, found) = absurd (omega (arith, below))
IsInSome-from_Any (region ∷ regions) space offset (zero, x, below, at, found) = inl (subst (λ (y : Region). IsIn y space offset) (sym at) found)
IsInSome-from_Any (region ∷ regions) space offset (suc k, x, below, at, found) = inr (IsInSome-from_Any regions space offset (k, x, omega (arith, below), at, found))

pub IsInAny-from_some : (regions : List Region) (space : SpaceId) (offset : ℕ) → IsInSome regions space offset → IsInAny regions space offset
IsInAny-from_some [] space offset h = absurd h
IsInAny-from_some (region ∷ regions) space offset h =
    let Want : Type 0 = IsInAny (region ∷ regions) space offset in
    ⊎_elim {C = Want} (λ (p : IsIn region space offset). (0, region, omega arith, refl, p))
    (λ (q : IsInSome regions space offset). let w = IsInAny-from_some regions space offset q in (suc w.0, w.1, omega (arith, w.2), w.3, w.4)) h

-- the bytes of a hull are those of its two regions
in_hull_of_first : (a b : Region) (space : SpaceId) (offset : ℕ) → IsIn a space offset → IsIn (hull a b) space offset
in_hull_of_first a b space offset h = (h.0, omega (arith, h.1, h.2), omega (arith, h.1, h.2))

in_hull_of_second : (a b : Region) (space : SpaceId) (offset : ℕ) → a.space ≡ b.space → IsIn b space offset → IsIn (hull a b) space offset
in_hull_of_second a b space offset same h = (same ∙ h.0, omega (arith, h.1, h.2), omega (arith, h.1, h.2))

out_of_hull : (a b : Region) (space : SpaceId) (offset : ℕ) → (a.space ≡ b.space) × (b.start ≤ a.start + a.len) × (a.start ≤ b.start + b.len)
    → IsIn (hull a b) space offset → IsIn a space offset ⊎ IsIn b space offset
out_of_hull a b space offset near h =
    let Want : Type 0 = IsIn a space offset ⊎ IsIn b space offset in
    ⊎_elim {C = Want} (λ (below : offset < a.start). inr (sym near.0 ∙ h.0, omega (arith, h.1, h.2, near.2), omega (arith, h.1, h.2, near.2)))
    (λ (from : a.start ≤ offset). ⊎_elim {C = Want} (λ (before : offset < a.start + a.len). inl (h.0, from, before))
    (λ (behind : a.start + a.len ≤ offset). inr (sym near.0 ∙ h.0, omega (arith, h.1, h.2, near.1), omega (arith, h.1, h.2, near.1)))
    (cases_lt offset (a.start + a.len)))
    (cases_lt offset a.start)

-- a byte of a region or of runs is a byte of the runs with that region
into_with_run : (region : Region) (runs : List Region) (space : SpaceId) (offset : ℕ) → IsInSome (region ∷ runs) space offset → IsInSome (with_run region runs) space offset
into_with_run region [] space offset h = h
into_with_run region (run ∷ runs) space offset h =
    let P : List Region → Type 0 = λ made. IsInSome made space offset in
    let Behind : Type 0 = IsInSome (run ∷ with_run region runs) space offset in
    let Grown : Type 0 = IsInSome (hull region run ∷ runs) space offset in
    chosen P (is_apart_before region run) (region ∷ run ∷ runs) _ (λ _. h)
    (λ (n : is_apart_before region run ≡ false). chosen P (is_apart_before run region) (run ∷ with_run region runs) _
    (λ _. ⊎_elim {C = Behind} (λ (p : IsIn region space offset). inr (into_with_run region runs space offset (inl p)))
    (λ (q : IsInSome (run ∷ runs) space offset). ⊎_elim {C = Behind} (λ (r : IsIn run space offset). inl r)
    (λ (r : IsInSome runs space offset). inr (into_with_run region runs space offset (inr r))) q) h)
    (λ (m : is_apart_before run region ≡ false). into_with_run (hull region run) runs space offset
    (⊎_elim {C = Grown} (λ (p : IsIn region space offset). inl (in_hull_of_first region run space offset p))
    (λ (q : IsInSome (run ∷ runs) space offset). ⊎_elim {C = Grown}
    (λ (r : IsIn run space offset). inl (in_hull_of_second region run space offset (neither_apart region run n m).0 r))
    (λ (r : IsInSome runs space offset). inr r) q) h)))

-- and the runs with that region have no other bytes
out_of_with_run : (region : Region) (runs : List Region) (space : SpaceId) (offset : ℕ) → IsInSome (with_run region runs) space offset → IsInSome (region ∷ runs) space offset
out_of_with_run region [] space offset = λ h. h
out_of_with_run region (run ∷ runs) space offset =
    let Want : Type 0 = IsInSome (region ∷ run ∷ runs) space offset in
    let P : List Region → Type 0 = λ made. (IsInSome made space offset → Want) in
    chosen P (is_apart_before region run) (region ∷ run ∷ runs) _ (λ _. λ h. h)
    (λ (n : is_apart_before region run ≡ false). chosen P (is_apart_before run region) (run ∷ with_run region runs) _
    (λ _. λ h. ⊎_elim {C = Want} (λ (p : IsIn run space offset). inr (inl p))
    (λ (q : IsInSome (with_run region runs) space offset). ⊎_elim {C = Want} (λ (r : IsIn region space offset). inl r)
    (λ (r : IsInSome runs space offset). inr (inr r)) (out_of_with_run region runs space offset q)) h)
    (λ (m : is_apart_before run region ≡ false). λ h. ⊎_elim {C = Want}
    (λ (p : IsIn (hull region run) space offset). ⊎_elim {C = Want} (λ (r : IsIn region space offset). inl r) (λ (r : IsIn run space offset). inr (inl r))
    (out_of_hull region run space offset (neither_apart region run n m) p))
    (λ (q : IsInSome runs space offset). inr (inr q))
    (out_of_with_run (hull region run) runs space offset h)))

-- the runs have exactly the bytes of the regions
pub into_runs : (regions : List Region) (space : SpaceId) (offset : ℕ) → IsInSome regions space offset → IsInSome (runs_of regions) space offset
into_runs [] space offset h = h
into_runs (region ∷ regions) space offset h =
    let Want : Type 0 = IsInSome (region ∷ runs_of regions) space offset in
    into_with_run region (runs_of regions) space offset
    (⊎_elim {C = Want} (λ (p : IsIn region space offset). inl p) (λ (q : IsInSome regions space offset). inr (into_runs regions space offset q)) h)

pub out_of_runs : (regions : List Region) (space : SpaceId) (offset : ℕ) → IsInSome (runs_of regions) space offset → IsInSome regions space offset
out_of_runs [] space offset h = h
out_of_runs (region ∷ regions) space offset h =
    let Want : Type 0 = IsInSome (region ∷ regions) space offset in
    ⊎_elim {C = Want} (λ (p : IsIn region space offset). inl p) (λ (q : IsInSome (runs_of regions) space offset). inr (out_of_runs regions space offset q))
    (out_of_with_run region (runs_of regions) space offset h)

pub bytes_same : (regions : List Region) (space : SpaceId) (offset : ℕ) → IsInAny (runs_of regions) space offset ↔ IsInAny regions space offset
bytes_same regions space offset = (
  λ h. IsInAny-from_some regions space offset (out_of_runs regions space offset (IsInSome-from_Any (runs_of regions) space offset h)),
  λ h. IsInAny-from_some (runs_of regions) space offset (into_runs regions space offset (IsInSome-from_Any regions space offset h)),
)

-- a byte of regions behind a region lies behind it
behind : (y : Region) (ys : List Region) (space : SpaceId) (offset : ℕ) → All (IsApart y) ys → IsInSome ys space offset → ComesBefore y.space (y.start + y.len) space offset
behind y [] space offset h found = absurd found
behind y (z ∷ zs) space offset h found =
    let Want : Type 0 = ComesBefore y.space (y.start + y.len) space offset in
    ⊎_elim {C = Want}
    (λ (p : IsIn z space offset). ⊎_elim {C = Want}
    (λ (q : space_before y.space z.space ≡ true). inl (subst (λ (s : SpaceId). space_before y.space s ≡ true) p.0 q))
    (λ (q : (y.space ≡ z.space) × (y.start + y.len < z.start)). inr (q.0 ∙ p.0, omega (arith, p.1, q.1)))
    (IsApart-parts y z (All-head (IsApart y) z zs h)))
    (λ (q : IsInSome zs space offset). behind y zs space offset (All-tail (IsApart y) z zs h) q)
    found

-- a byte of the same namespace there lies behind the region's end
behind_here : (y : Region) (ys : List Region) (space : SpaceId) (offset : ℕ) → All (IsApart y) ys → IsInSome ys space offset → y.space ≡ space → y.start + y.len < offset
behind_here y ys space offset h found same =
    ⊎_elim (λ (p : space_before y.space space ≡ true). absurd (space_before-itself y.space space same p))
    (λ (q : (y.space ≡ space) × (y.start + y.len < offset)). q.1) (behind y ys space offset h found)

-- no byte of runs lies before the first byte of the first run
first_byte : (y : Region) (ys : List Region) (space : SpaceId) (offset : ℕ) → All (IsApart y) ys → IsInSome (y ∷ ys) space offset
    → (space_before y.space space ≡ true) ⊎ ((y.space ≡ space) × (y.start ≤ offset))
first_byte y ys space offset h found =
    let Want : Type 0 = (space_before y.space space ≡ true) ⊎ ((y.space ≡ space) × (y.start ≤ offset)) in
    ⊎_elim {C = Want} (λ (p : IsIn y space offset). inr (p.0, p.1))
    (λ (q : IsInSome ys space offset). ⊎_elim {C = Want} (λ (r : space_before y.space space ≡ true). inl r)
    (λ (r : (y.space ≡ space) × (y.start + y.len < offset)). inr (r.0, omega (arith, r.1))) (behind y ys space offset h q)) found

-- the first bytes of two runs, of which neither lies before the other, are one
one_first_byte : (a : SpaceId) (m : ℕ) (b : SpaceId) (n : ℕ) → (space_before a b ≡ true) ⊎ ((a ≡ b) × (m ≤ n)) → (space_before b a ≡ true) ⊎ ((b ≡ a) × (n ≤ m)) → (a ≡ b) × (m ≡ n)
one_first_byte a m b n g h =
    let Want : Type 0 = (a ≡ b) × (m ≡ n) in
    ⊎_elim {C = Want}
    (λ (p : space_before a b ≡ true). ⊎_elim {C = Want}
    (λ (q : space_before b a ≡ true). absurd (space_before-itself a a refl (space_before-trans a b a p q)))
    (λ (q : (b ≡ a) × (n ≤ m)). absurd (space_before-itself a b (sym q.0) p)) h)
    (λ (p : (a ≡ b) × (m ≤ n)). ⊎_elim {C = Want}
    (λ (q : space_before b a ≡ true). absurd (space_before-itself b a (sym p.0) q))
    (λ (q : (b ≡ a) × (n ≤ m)). (p.0, omega (arith, p.1, q.1))) h)
    g

-- a run does not end behind another that begins with it, where all its bytes are bytes of the other's list
end_within : (x y : Region) (xs ys : List Region) → x.space ≡ y.space → x.start ≡ y.start → All (IsApart y) ys
    → ((space : SpaceId) (offset : ℕ) → IsInSome (x ∷ xs) space offset → IsInSome (y ∷ ys) space offset) → x.len ≤ y.len
end_within x y xs ys same start h sub =
    ⊎_elim (λ (longer : y.len < x.len).
    let place : ℕ = y.start + y.len in
    let here : IsInSome (y ∷ ys) x.space place = sub x.space place (inl (refl, omega arith, omega arith)) in
    ⊎_elim (λ (p : IsIn y x.space place). absurd (omega (arith, p.2)))
    (λ (q : IsInSome ys x.space place). absurd (omega (arith, behind_here y ys x.space place h q (sym same)))) here)
    (λ (within : x.len ≤ y.len). within) (cases_lt y.len x.len)

-- regions of the same parts are one
region_same : (a b : Region) → a.space ≡ b.space → a.start ≡ b.start → a.len ≡ b.len → a ≡ b
region_same a b e f g =
    let one : region_of a.space a.start a.len ≡ region_of b.space b.start b.len = cc in one

-- a byte behind a region is a byte behind an equal one
rest_of : (x y : Region) (xs ys : List Region) (space : SpaceId) (offset : ℕ) → x ≡ y → All (IsApart x) xs → IsInSome xs space offset → IsInSome (y ∷ ys) space offset → IsInSome ys space offset
rest_of x y xs ys space offset same h found there =
    let Want : Type 0 = IsInSome ys space offset in
    ⊎_elim {C = Want} (λ (p : IsIn y space offset).
    let here : IsIn x space offset = subst (λ (r : Region). IsIn r space offset) (sym same) p in
    absurd (omega (arith, here.2, behind_here x xs space offset h found here.0)))
    (λ (q : IsInSome ys space offset). q) there

-- runs with the same bytes are one list
pub one_list : (xs ys : List Region) → All HasBytes xs → All HasBytes ys → AllPairs IsApart xs → AllPairs IsApart ys
    → ((space : SpaceId) (offset : ℕ) → IsInSome xs space offset → IsInSome ys space offset)
    → ((space : SpaceId) (offset : ℕ) → IsInSome ys space offset → IsInSome xs space offset)
    → xs ≡ ys
one_list [] [] f g a b there back = refl
one_list [] (y ∷ ys) f g a b there back = let long = All-head HasBytes y ys g in absurd (back y.space y.start (inl (refl, omega arith, omega arith)))
one_list (x ∷ xs) [] f g a b there back = let long = All-head HasBytes x xs f in absurd (there x.space x.start (inl (refl, omega arith, omega arith)))
one_list (x ∷ xs) (y ∷ ys) f g a b there back =
    let x_long = All-head HasBytes x xs f in
    let y_long = All-head HasBytes y ys g in
    let x_first = AllPairs-head IsApart x xs a in
    let y_first = AllPairs-head IsApart y ys b in
    let first = one_first_byte x.space x.start y.space y.start
    (first_byte x xs y.space y.start x_first (back y.space y.start (inl (refl, omega arith, omega arith))))
    (first_byte y ys x.space x.start y_first (there x.space x.start (inl (refl, omega arith, omega arith)))) in
    let shorter = end_within x y xs ys first.0 first.1 y_first there in
    let longer = end_within y x ys xs (sym first.0) (sym first.1) x_first back in
    let head : x ≡ y = region_same x y first.0 first.1 (omega arith) in
    let rest_there : ((space : SpaceId) (offset : ℕ) → IsInSome xs space offset → IsInSome ys space offset) = λ space offset h. rest_of x y xs ys space offset head x_first h (there space offset (inr h)) in
    let rest_back : ((space : SpaceId) (offset : ℕ) → IsInSome ys space offset → IsInSome xs space offset) = λ space offset h. rest_of y x ys xs space offset (sym head) y_first h (back space offset (inr h)) in
    let tail : xs ≡ ys = one_list xs ys (All-tail HasBytes x xs f) (All-tail HasBytes y ys g) (AllPairs-tail IsApart x xs a) (AllPairs-tail IsApart y ys b) rest_there rest_back in
    cc

-- two lists of runs of the same regions are one
pub one_list_of_runs : (regions some others : List Region) → AreRunsOf some regions → AreRunsOf others regions → some ≡ others
one_list_of_runs regions some others g h =
    one_list some others g.not_empty h.not_empty g.apart h.apart
    (λ space offset k. IsInSome-from_Any others space offset ((h.bytes space offset).1 ((g.bytes space offset).0 (IsInAny-from_some some space offset k))))
    (λ space offset k. IsInSome-from_Any some space offset ((g.bytes space offset).1 ((h.bytes space offset).0 (IsInAny-from_some others space offset k))))
