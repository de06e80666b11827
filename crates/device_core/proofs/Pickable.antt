-- Which commands may be picked, by what is kept.
use Rattle.std.proofs.Common.{◌≡◌, ◌∙◌, ℕ, Bool, true, false, not, ◌||◌, List, [], ◌∷◌, map, Option, Some, None, refl, sym, ap}
use Rattle.std.specs.List.{list_any}
use Rattle.cp_base.specs.Touching.{meets}
use Rattle.cp_base.specs.declared.spans.Footprint.{Footprint}
use Rattle.range_claims.specs.Kept.{is_held}
use Rattle.range_claims.specs.declared.claims.Claim.{Claim}
use Rattle.range_sets.proofs.Mapped.{any_mapped}
use Rattle.trail_model.specs.World.{is_number}
use Rattle.core_model.specs.Parts.{KeptFootprint}
use Rattle.core_model.specs.Picking.{is_clear_of, is_set_kept, is_slot_kept}
use Rattle.device_core.specs.Keep.{as_kept_footprint}

pub or_true : (b : Bool) → (b || true) ≡ true
or_true true = refl
or_true false = refl

-- ---- what open claims hold and touch

held-number : (n : ℕ) (held : Option ℕ) → is_held n held ≡ is_number n held
held-number n None = refl
held-number n (Some m) = refl

any-same : {A : Type 0} (p q : A → Bool) (xs : List A) → ((x : A) → p x ≡ q x) → list_any p xs ≡ list_any q xs
any-same p q [] same = refl
any-same p q (x ∷ xs) same = ap (λ (b : Bool). b || list_any p xs) (same x) ∙ ap (λ (b : Bool). q x || b) (any-same p q xs same)

pub set_kept : (claims : List Claim) (set : ℕ) → list_any (λ (claim : Claim). is_held set claim.footprint.set) claims ≡ is_set_kept (map as_kept_footprint claims) set
set_kept claims set =
    any-same (λ (claim : Claim). is_held set claim.footprint.set) (λ (claim : Claim). is_number set claim.footprint.set) claims (λ claim. held-number set claim.footprint.set)
    ∙ sym (any_mapped (λ (x : KeptFootprint). is_number set x.footprint.set) as_kept_footprint claims)

pub slot_kept : (claims : List Claim) (slot : ℕ) → list_any (λ (claim : Claim). is_held slot claim.footprint.slot) claims ≡ is_slot_kept (map as_kept_footprint claims) slot
slot_kept claims slot =
    any-same (λ (claim : Claim). is_held slot claim.footprint.slot) (λ (claim : Claim). is_number slot claim.footprint.slot) claims (λ claim. held-number slot claim.footprint.slot)
    ∙ sym (any_mapped (λ (x : KeptFootprint). is_number slot x.footprint.slot) as_kept_footprint claims)

pub clear_kept : (claims : List Claim) (touched : Footprint) → not (list_any (λ (claim : Claim). meets touched claim.footprint) claims) ≡ is_clear_of (map as_kept_footprint claims) touched
clear_kept claims touched = ap not (sym (any_mapped (λ (x : KeptFootprint). meets touched x.footprint) as_kept_footprint claims))
