-- All passes of a device.
use Rattle.std.proofs.Common.{◌≡◌, ◌≢◌, ◌≤◌, ◌<◌, ◌-◌, ◌*◌, ◌+◌, ℕ, [], length, Some, IsSome, refl, sym, ap, subst, ◌∙◌, arith, inl, inr, ◌⊎◌}
use Rattle.seat_lock.specs.Passes.{AreAllOf, IsHomeOf, IsPassOf, IsTrailOf, LockName, at_home, party_of, seats_in, seen_by}
use Rattle.seat_lock.proofs.PlaceLemmas.{all_with_two, home_pos, home_within, some_same}
use Rattle.trail_model.specs.Lawful.{IsLawful, IsParty, Trail, party_of_event}
use Rattle.trail_model.proofs.Linked.{same-cases}
use Rattle.device_core.specs.Recorded.{Recorded}
use Rattle.device_lock.specs.Names.{DeviceName, fixed_in, lock_of_device, recorded_with}
use Rattle.device_lock.specs.Passes.{AreAllOfDevice, DevicePass, DevicePasses, IsOfDevice}
use Rattle.device_lock.specs.declared.kept.Fixed.{Fixed}
use Rattle.device_lock.specs.declared.kept.Kept.{Kept}
use Rattle.device_lock.proofs.Entering.{core-is}

abbrev entries_in : Kept → Trail
entries_in k = k.core.trail

-- what passes of the lock have seen is lawful, where it is the trail of a value of the lock
pub seen-lawful : (d : DeviceName) (l : LockName Fixed) (trail : Trail) → l ≡ lock_of_device d → IsTrailOf entries_in fixed_in l trail → IsLawful d.config d.commands trail
seen-lawful d l trail same of =
    let core : of.value.core ≡ recorded_with d trail = core-is d of.value trail (of.fixed_is ∙ ap (λ (n : LockName Fixed). n.fixed) same) of.entries_are in
    subst (λ (r : Recorded). IsLawful r.config r.commands r.trail) core of.value.lawful

-- passes of the lock are of the device, where their numbers are those of parties and what they have seen is lawful
pub all-of : (d : DeviceName) (ps : DevicePasses) → AreAllOf party_of_event (lock_of_device d) ps → ((n : ℕ) → 1 ≤ n → n ≤ seats_in ps → IsParty n)
    → ((n : ℕ) (p : DevicePass) → at_home ps n ≡ Some p → IsLawful d.config d.commands (seen_by p)) → AreAllOfDevice d ps
all-of d ps all parties lawful = record { all = all; each = each }
  where
    each : (n : ℕ) (p : DevicePass) → at_home ps n ≡ Some p → IsOfDevice d p
    each n p home =
        let there : IsSome (at_home ps n) = subst IsSome (sym home) refl in
        let pos = home_pos ps.places.items n there in
        let within = home_within ps.places.items n there in
        let low : 1 ≤ n = omega arith in
        let high : n ≤ seats_in ps = omega arith in
        let found = all.each n low high in
        let same : found.0 ≡ p = some_same found.0 p (sym found.1.home ∙ home) in
        let is : party_of p ≡ n = ap (λ (x : DevicePass). party_of x) (sym same) ∙ found.1.party_is in
        record {
          lock = subst (λ (x : DevicePass). IsPassOf party_of_event (lock_of_device d) x) same found.1.of_lock;
          party = subst (λ (m : ℕ). IsParty m) (sym is) (parties n low high);
          lawful = lawful n p home;
        }

-- the numbers of a device's passes are those of parties
pub parties-of : (d : DeviceName) (ps : DevicePasses) → AreAllOfDevice d ps → (n : ℕ) → 1 ≤ n → n ≤ seats_in ps → IsParty n
parties-of d ps all n low high =
    let found = all.all.each n low high in
    subst (λ (m : ℕ). IsParty m) found.1.party_is (all.each n found.0 found.1.home).party

-- all passes are of the device after a meeting
pub all-met : (d : DeviceName) (l : LockName Fixed) (ps qs : DevicePasses) → l ≡ lock_of_device d → AreAllOfDevice d ps → AreAllOf party_of_event l qs
    → ((n : ℕ) (p : DevicePass) → at_home qs n ≡ Some p → IsTrailOf entries_in fixed_in l (seen_by p)) → AreAllOfDevice d qs
all-met d l ps qs same all met trail =
    let here : AreAllOf party_of_event (lock_of_device d) qs = subst (λ (n : LockName Fixed). AreAllOf party_of_event n qs) same met in
    let seats : seats_in qs ≡ seats_in ps = here.seats ∙ sym all.all.seats in
    all-of d qs here (λ n low high. parties-of d ps all n low (subst (λ (m : ℕ). n ≤ m) seats high)) (λ n p home. seen-lawful d l (seen_by p) same (trail n p home))

-- two passes that are given back are at home again with all others
pub all-with-two : (d : DeviceName) (ps qs : DevicePasses) (m k : ℕ) (p q : DevicePass) → AreAllOfDevice d ps → seats_in qs ≡ seats_in ps
    → ((n : ℕ) → n ≢ m → n ≢ k → at_home qs n ≡ at_home ps n) → at_home qs m ≡ Some p → party_of p ≡ m → IsOfDevice d p → at_home qs k ≡ Some q → party_of q ≡ k
    → IsOfDevice d q → AreAllOfDevice d qs
all-with-two d ps qs m k p q all seats others home number of home' number' of' =
    all-of d qs (all_with_two party_of_event (lock_of_device d) ps qs m k p q all.all seats others home number of.lock home' number' of'.lock)
    (λ n low high. parties-of d ps all n low (subst (λ (s : ℕ). n ≤ s) seats high))
    (λ n x there. by_number n x there (same-cases n m) (same-cases n k))
  where
    by_number : (n : ℕ) (x : DevicePass) → at_home qs n ≡ Some x → (n ≡ m) ⊎ (n ≡ m → ⊥) → (n ≡ k) ⊎ (n ≡ k → ⊥) → IsLawful d.config d.commands (seen_by x)
    by_number n x there (inl e) other = subst (λ (y : DevicePass). IsLawful d.config d.commands (seen_by y)) (some_same p x (sym home ∙ (ap (at_home qs) (sym e) ∙ there))) of.lawful
    by_number n x there (inr differs) (inl e) = subst (λ (y : DevicePass). IsLawful d.config d.commands (seen_by y)) (some_same q x (sym home' ∙ (ap (at_home qs) (sym e) ∙ there))) of'.lawful
    by_number n x there (inr differs) (inr none) = (all.each n x (sym (others n differs none) ∙ there)).lawful
