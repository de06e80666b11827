-- Bytes at home, and a range that goes out and comes back.
use Rattle.std.proofs.Common.{◌≡◌, ◌==◌, ℕ, ◌+◌, ◌-◌, ◌*◌, ◌<◌, ◌≤◌, Bool, true, false, ◌||◌, ◌&&◌, true≢false, List, Option, Some, IsSome, slice_get, replicate, refl, sym, ap, ◌∙◌, subst, ⊎_elim, arith}
use Rattle.std.proofs.lemmas.Bool.{cases_lt}
use Rattle.std.proofs.lemmas.Bool.Decides.{nat_tests}
use Rattle.std.proofs.lemmas.List.{length-replicate}
use Rattle.std.proofs.lemmas.Option.{slice_get-get_or}
use Rattle.cp_base.proofs.Sharing.{same_space-itself, same_space-true}
use Rattle.cp_base.specs.Configuration.{Configuration, bare, with_size}
use Rattle.cp_base.specs.Contents.{all_zero, bytes_of}
use Rattle.cp_base.specs.Region.{Region}
use Rattle.cp_base.specs.Sharing.{IsIn, same_region, same_space}
use Rattle.cp_base.specs.declared.limits.TheConstants.{MAX_NAMESPACE}
use Rattle.cp_base.specs.declared.region.SpaceId.{SpaceId}
use Rattle.cp_base.specs.declared.region.SpaceId.TheVariants.{Mem}
use Rattle.extents.specs.Homes.{AreBytesAt, Homes, IsAtHome, IsBroughtBack, IsTakenAway, is_hole, known_at}
use Rattle.parts_bench.specs.Parts.{AreHome, range_len, range_of, selected_start}
use Rattle.parts_bench.specs.declared.workload.Places.{Places}
use Rattle.parts_bench.specs.declared.workload.Places.TheVariants.{Anywhere, Aligned, Ascending, Lone}

-- a new namespace is at home
pub all_home : (size : ℕ) (homes : Homes) (c : Configuration) → c ≡ with_size (bare 512 16 1000) (Mem 1) size
    → ((space : SpaceId) (offset : ℕ) → known_at homes space offset ≡ slice_get (bytes_of (all_zero c) space) offset) → AreHome homes size
all_home size homes c is zero = λ offset h.
    let bytes : List ℕ = replicate (size * 1) 0 in
    let there : slice_get bytes offset ≡ Some _ = slice_get-get_or bytes offset 0 (omega (arith, length-replicate {A = ℕ} (size * 1) 0)) in
    let known : known_at homes (Mem 1) offset ≡ slice_get bytes offset = zero (Mem 1) offset ∙ ap (λ (d : Configuration). slice_get (bytes_of (all_zero d) (Mem 1)) offset) is in
    subst (λ (byte : Option ℕ). IsSome byte) (sym (known ∙ there)) refl

inside : (places : Places) (number : ℕ) → selected_start places number + range_len places ≤ MAX_NAMESPACE
inside Anywhere number = omega arith
inside Aligned number = omega arith
inside Ascending number = omega arith
inside Lone number = omega arith

pub at_home : (homes : Homes) (places : Places) (number : ℕ) → AreHome homes MAX_NAMESPACE → IsAtHome homes (range_of places number)
at_home homes places number home = λ space offset h.
    subst (λ (s : SpaceId). IsSome (known_at homes s offset)) h.0 (home offset (omega (arith, h.2, inside places number)))

-- a range is the same as itself
itself : (r : Region) → same_region r r ≡ true
itself r = by_space (same_space r.space r.space) (same_space-itself r.space r.space refl)
  where
    by_space : (b : Bool) → b ≡ true → (b && ((r.start == r.start) && (r.len == r.len))) ≡ true
    by_space true e = grind (arith, nat_tests)
    by_space false e = cc

pub is_out : (old new : Homes) (r : Region) → IsTakenAway old new r → is_hole new r ≡ true
is_out old new r away = away.holes r ∙ ap (λ (b : Bool). b || is_hole old r) (itself r)

-- each byte is as it was before the range went out
pub exchanged : (h0 h1 h2 : Homes) (r : Region) (bytes : List ℕ) → AreBytesAt h0 r bytes → IsTakenAway h0 h1 r → IsBroughtBack h1 h2 r bytes
    → (space : SpaceId) (offset : ℕ) → known_at h2 space offset ≡ known_at h0 space offset
exchanged h0 h1 h2 r bytes old away back space offset = by_space (same_space r.space space) refl
  where
    elsewhere : (IsIn r space offset → ⊥) → known_at h2 space offset ≡ known_at h0 space offset
    elsewhere out = back.elsewhere space offset out ∙ away.elsewhere space offset out

    here : r.space ≡ space → (k : ℕ) → k < r.len → r.start + k ≡ offset → known_at h2 space offset ≡ known_at h0 space offset
    here same k h e =
        subst (λ (s : SpaceId). known_at h2 s offset ≡ known_at h0 s offset) same
        (subst (λ (o : ℕ). known_at h2 r.space o ≡ known_at h0 r.space o) e (back.back k h ∙ old.each k h))

    by_space : (b : Bool) → same_space r.space space ≡ b → known_at h2 space offset ≡ known_at h0 space offset
    by_space false e = elsewhere (λ i. true≢false (sym (same_space-itself r.space space i.0) ∙ e))
    by_space true e =
        ⊎_elim (λ (before : offset < r.start). elsewhere (λ i. absurd (omega (arith, i.1))))
        (λ (low : r.start ≤ offset).
        ⊎_elim (λ (high : offset < r.start + r.len). here (same_space-true r.space space e) (offset - r.start) (omega arith) (omega arith))
        (λ (behind : r.start + r.len ≤ offset). elsewhere (λ i. absurd (omega (arith, i.2)))) (cases_lt offset (r.start + r.len)))
        (cases_lt offset r.start)

pub still_home : (old new : Homes) (size : ℕ) → ((space : SpaceId) (offset : ℕ) → known_at new space offset ≡ known_at old space offset) → AreHome old size → AreHome new size
still_home old new size same home = λ offset h. subst (λ (byte : Option ℕ). IsSome byte) (sym (same (Mem 1) offset)) (home offset h)

pub short : (places : Places) → range_len places ≤ 4096
short Anywhere = omega arith
short Aligned = omega arith
short Ascending = omega arith
short Lone = omega arith
