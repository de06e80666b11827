-- Ranges of a set that have bytes and lie inside their namespaces.
use Rattle.std.proofs.Common.{◌≡◌, ◌==◌, ℕ, zero, suc, ◌+◌, ◌<◌, ◌≤◌, nat_lt, Bool, true, false, ◌||◌, if◌then◌else◌, List, [], ◌∷◌, filter, length, map, get_or, Option, None, Some, unwrap_or, arith, refl}
use Rattle.std.specs.List.{list_any}
use Rattle.std.proofs.lemmas.Bool.Decides.{nat_tests}
use Rattle.cp_base.specs.Checks.{byte_checks, first_failing}
use Rattle.cp_base.specs.Region.{Region}
use Rattle.cp_base.specs.Sharing.{range_region}
use Rattle.cp_base.specs.declared.lists.MemRange.{MemRange}
use Rattle.cp_base.specs.declared.replies.Status.{Status}
use Rattle.cp_base.specs.declared.replies.Status.TheVariants as status
use Rattle.bpf_model.specs.Memory.{allows_writing}
use Rattle.trail_model.specs.Footprints.{writable_ranges}

-- bytes that are some, not too many and inside pass the checks
passing : (a b c d : Bool) → a ≡ false → b ≡ false → c ≡ false → d ≡ false
    → (if a then Some status.BadNamespace else if b then Some status.BadLength else if c then Some status.TooLong else if d then Some status.OutOfRange else None) ≡ None
passing a b c d e f g h = grind arith

pub byte_checks_pass : (size : Option ℕ) (at len most : ℕ) → (len == 0) ≡ false → nat_lt (unwrap_or size 0) (at + len) ≡ false → len ≤ most
    → first_failing (byte_checks size at len most) ≡ None
byte_checks_pass None at len most some inside few = absurd (grind (arith, nat_tests))
byte_checks_pass (Some size) at len most some inside few =
    let short : nat_lt most len ≡ false = grind (arith, nat_tests) in
    passing false (len == 0) (nat_lt most len) (nat_lt size (at + len)) refl some short inside

-- the parts of a test by "or" that is false
neither : (a b : Bool) → (a || b) ≡ false → (a ≡ false) × (b ≡ false)
neither true b h = cc
neither false b h = (refl, h)

-- a test that is true of no range is false of each
pub none_at : (p : Region → Bool) (ranges : List MemRange) (i : ℕ) (d : MemRange) → i < length ranges
    → list_any p (map range_region ranges) ≡ false → p (range_region (get_or ranges i d)) ≡ false
none_at p [] i d below h = absurd (omega arith)
none_at p (range ∷ ranges) zero d below h = (neither (p (range_region range)) (list_any p (map range_region ranges)) h).0
none_at p (range ∷ ranges) (suc i) d below h =
    none_at p ranges i d (omega arith) (neither (p (range_region range)) (list_any p (map range_region ranges)) h).1

-- and of none of those that a program may store into
pub none_writable : (p : Region → Bool) (ranges : List MemRange) → list_any p (map range_region ranges) ≡ false
    → list_any p (map range_region (writable_ranges ranges)) ≡ false
none_writable p [] h = refl
none_writable p (range ∷ ranges) h =
    let parts = neither (p (range_region range)) (list_any p (map range_region ranges)) h in
    let rest = none_writable p ranges parts.1 in
    elim (allows_writing range.access) as (λ b. list_any p (map range_region (if b then range ∷ writable_ranges ranges else writable_ranges ranges)) ≡ false) [
      | true ↦ both (p (range_region range)) (list_any p (map range_region (writable_ranges ranges))) parts.0 rest
      | false ↦ rest
    ]
  where
    both : (a b : Bool) → a ≡ false → b ≡ false → (a || b) ≡ false
    both a b e f = cc
