-- When a configuration with one more namespace keeps the limits.
use Rattle.std.proofs.Common.{◌≡◌, ℕ, zero, suc, ◌*◌, ◌<◌, ◌≤◌, Bool, true, false, ◌&&◌, ◌||◌, eqb, leb, List, length, get_or, replicate, Option, Some, None, refl, sym, ap, ◌∙◌, arith, inl, inr, ◌⊎◌, ◌↔◌, cond, subst, IsSome, IfSome, get_or-set_same}
use Rattle.std.specs.List.{All}
use Rattle.std.proofs.lemmas.Bool.{eqb-true, le-leb, leb-true}
use Rattle.std.proofs.lemmas.List.Elements.{All-replicate, All-set}
use Rattle.std.proofs.Math.ListN.{set, length-set}
use Rattle.cp_base.specs.Configuration.{Configuration, IsWithinLimits, HasNumber, bare, with_size}
use Rattle.cp_base.specs.declared.limits.TheConstants.{MAX_BUDGET, MAX_DEPTH, MAX_NAMESPACE, MAX_TOTAL, NAMESPACES}
use Rattle.cp_base.specs.declared.region.SpaceId.{SpaceId}
use Rattle.cp_base.specs.declared.region.SpaceId.TheVariants as space
use Rattle.script_line.specs.declared.kind.SpaceKind.{SpaceKind}
use Rattle.script_line.specs.declared.kind.SpaceKind.TheVariants as space_kind
use Rattle.script_cmds.specs.Progress.{is_block, namespace_fits, size_in_bytes, space_of, total_bytes}

pub mem_keeps : (c : Configuration) (n size : ℕ) → IsWithinLimits c → 1 ≤ n → n ≤ NAMESPACES → size ≤ MAX_NAMESPACE → total_bytes (with_size c (space.Mem n) size) ≤ MAX_TOTAL → IsWithinLimits (with_size c (space.Mem n) size)
mem_keeps c zero size l low high small total = absurd (omega arith)
mem_keeps c (suc k) size l low high small total = record {
  block = l.block;
  depth = l.depth;
  budget = l.budget;
  nvm_numbers = l.nvm_numbers;
  mem_numbers = length-set c.mem k size ∙ l.mem_numbers;
  nvm_sizes = l.nvm_sizes;
  mem_sizes = All-set (λ bytes. bytes ≤ MAX_NAMESPACE) c.mem k size small l.mem_sizes;
  total = total;
}

pub nvm_keeps : (c : Configuration) (n size : ℕ) → IsWithinLimits c → 1 ≤ n → n ≤ NAMESPACES → size * c.block ≤ MAX_NAMESPACE → total_bytes (with_size c (space.Nvm n) size) ≤ MAX_TOTAL → IsWithinLimits (with_size c (space.Nvm n) size)
nvm_keeps c zero size l low high small total = absurd (omega arith)
nvm_keeps c (suc k) size l low high small total = record {
  block = l.block;
  depth = l.depth;
  budget = l.budget;
  nvm_numbers = length-set c.nvm k size ∙ l.nvm_numbers;
  mem_numbers = l.mem_numbers;
  nvm_sizes = All-set (λ blocks. blocks * c.block ≤ MAX_NAMESPACE) c.nvm k size small l.nvm_sizes;
  mem_sizes = l.mem_sizes;
  total = total;
}

pub both_true : (a b : Bool) → (a && b) ≡ true → (a ≡ true) × (b ≡ true)
both_true true b e = (refl, e)
both_true false b e = absurd cc

pub and_true : (a b : Bool) → a ≡ true → b ≡ true → (a && b) ≡ true
and_true a b p q = rw (p, q) refl

pub either_true : (a b : Bool) → (a || b) ≡ true → (a ≡ true) ⊎ (b ≡ true)
either_true true b e = inl refl
either_true false b e = inr e

pub false_unless : (b : Bool) → (b ≡ true → ⊥) → b ≡ false
false_unless true h = absurd (h refl)
false_unless false h = refl

pub record Fits (bytes : ℕ) (joined : Configuration) : Type 0 where
  pub small : bytes ≤ MAX_NAMESPACE
  pub total : total_bytes joined ≤ MAX_TOTAL

pub fits_means : (bytes : ℕ) (joined : Configuration) → namespace_fits bytes joined ≡ true → Fits bytes joined
fits_means bytes joined e =
    let p = both_true (leb bytes MAX_NAMESPACE) (leb (total_bytes joined) MAX_TOTAL) e in
    record { small = leb-true _ _ p.0; total = leb-true _ _ p.1 }

fits_is : (bytes : ℕ) (joined : Configuration) → bytes ≤ MAX_NAMESPACE → total_bytes joined ≤ MAX_TOTAL → namespace_fits bytes joined ≡ true
fits_is bytes joined p q = and_true (leb bytes MAX_NAMESPACE) (leb (total_bytes joined) MAX_TOTAL) (le-leb _ _ p) (le-leb _ _ q)

abbrev chosen : Bool → Configuration → Option Configuration
chosen b joined = cond b (Some joined) None

-- what the configuration's own test answers, as the test of the limits does
pub joined_is : (test : Bool) (P : Type 0) (joined : Configuration) (r : Option Configuration) → (test ≡ true → P) → (P → test ≡ true) → (IsSome r ↔ P) → IfSome r (λ x. x ≡ joined) → r ≡ cond test (Some joined) None
joined_is test P joined None to from found value = sym (ap (λ (b : Bool). chosen b joined) (false_unless test (λ e. absurd (cc (found.1 (to e))))))
joined_is test P joined (Some x) to from found value = ap (λ (y : Configuration). Some y) value ∙ sym (ap (λ (b : Bool). chosen b joined) (from (found.0 refl)))

at_place : (xs : List ℕ) (k size limit unit : ℕ) → k < length xs → All (λ x. x * unit ≤ limit) (set xs k size) → size * unit ≤ limit
at_place xs k size limit unit lt all =
    let there : get_or (set xs k size) k 0 * unit ≤ limit = all k 0 (omega (arith, length-set xs k size)) in
    subst (λ (x : ℕ). x * unit ≤ limit) (get_or-set_same xs k size 0 lt) there

-- a namespace that joins keeps the limits where it fits
pub space_keeps : (c : Configuration) (kind : SpaceKind) (n size : ℕ) → IsWithinLimits c → 1 ≤ n → n ≤ NAMESPACES → namespace_fits (size_in_bytes c kind size) (with_size c (space_of kind n) size) ≡ true → IsWithinLimits (with_size c (space_of kind n) size)
space_keeps c space_kind.Nvm n size l low high e = let f = fits_means (size * c.block) (with_size c (space.Nvm n) size) e in nvm_keeps c n size l low high f.small f.total
space_keeps c space_kind.Mem n size l low high e = let f = fits_means size (with_size c (space.Mem n) size) e in mem_keeps c n size l low high f.small f.total

-- and where it kept the limits it fits
space_kept : (c : Configuration) (kind : SpaceKind) (n size : ℕ) → IsWithinLimits c → 1 ≤ n → n ≤ NAMESPACES → IsWithinLimits (with_size c (space_of kind n) size) → namespace_fits (size_in_bytes c kind size) (with_size c (space_of kind n) size) ≡ true
space_kept c kind zero size l low high l' = absurd (omega arith)
space_kept c space_kind.Nvm (suc k) size l low high l' = fits_is (size * c.block) (with_size c (space.Nvm (suc k)) size) (at_place c.nvm k size MAX_NAMESPACE c.block (omega (arith, l.nvm_numbers)) l'.nvm_sizes) l'.total
space_kept c space_kind.Mem (suc k) size l low high l' =
    let lt : k < length c.mem = omega (arith, l.mem_numbers) in
    let there : get_or (set c.mem k size) k 0 ≤ MAX_NAMESPACE = l'.mem_sizes k 0 (omega (arith, length-set c.mem k size)) in
    fits_is size (with_size c (space.Mem (suc k)) size) (subst (λ (x : ℕ). x ≤ MAX_NAMESPACE) (get_or-set_same c.mem k size 0 lt) there) l'.total

has_number : (kind : SpaceKind) (n : ℕ) → 1 ≤ n → n ≤ NAMESPACES → HasNumber (space_of kind n)
has_number space_kind.Nvm n p q = (p, q)
has_number space_kind.Mem n p q = (p, q)

pub with_namespace_is : (c : Configuration) (kind : SpaceKind) (n size : ℕ) (s : SpaceId) (r : Option Configuration) → s ≡ space_of kind n → IsWithinLimits c → 1 ≤ n → n ≤ NAMESPACES → (IsSome r ↔ (HasNumber s × IsWithinLimits (with_size c s size))) → IfSome r (λ x. x ≡ with_size c s size)
    → r ≡ cond (namespace_fits (size_in_bytes c kind size) (with_size c (space_of kind n) size)) (Some (with_size c (space_of kind n) size)) None
with_namespace_is c kind n size s r is l low high found value =
    let found' : IsSome r ↔ (HasNumber (space_of kind n) × IsWithinLimits (with_size c (space_of kind n) size)) = subst (λ (x : SpaceId). IsSome r ↔ (HasNumber x × IsWithinLimits (with_size c x size))) is found in
    let value' : IfSome r (λ x. x ≡ with_size c (space_of kind n) size) = subst (λ (x : SpaceId). IfSome r (λ y. y ≡ with_size c x size)) is value in
    joined_is (namespace_fits (size_in_bytes c kind size) (with_size c (space_of kind n) size)) (HasNumber (space_of kind n) × IsWithinLimits (with_size c (space_of kind n) size)) (with_size c (space_of kind n) size) r
    (λ e. (has_number kind n low high, space_keeps c kind n size l low high e))
    (λ p. space_kept c kind n size l low high p.1)
    found' value'

zeros_are_small : (block : ℕ) → All (λ blocks. blocks * block ≤ MAX_NAMESPACE) (replicate NAMESPACES 0)
zeros_are_small block = All-replicate (λ blocks. blocks * block ≤ MAX_NAMESPACE) NAMESPACES 0 (omega arith)

zero_bytes : All (λ bytes. bytes ≤ MAX_NAMESPACE) (replicate NAMESPACES 0)
zero_bytes = All-replicate (λ bytes. bytes ≤ MAX_NAMESPACE) NAMESPACES 0 (omega arith)

-- a header keeps the limits where its block is one
pub header_keeps : (block depth budget : ℕ) → is_block block ≡ true → 1 ≤ depth → depth ≤ MAX_DEPTH → 1 ≤ budget → budget ≤ MAX_BUDGET → IsWithinLimits (bare block depth budget)
header_keeps block depth budget e a b c d = record {
  block = elim (either_true (eqb block 512) (eqb block 4096) e) [ inl h ↦ inl (eqb-true block 512 h) | inr h ↦ inr (eqb-true block 4096 h) ];
  depth = (a, b);
  budget = (c, d);
  nvm_numbers = refl;
  mem_numbers = refl;
  nvm_sizes = zeros_are_small block;
  mem_sizes = zero_bytes;
  total = omega arith;
}
