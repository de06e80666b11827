-- What a choice shows of its test.
use Rattle.std.proofs.Common.{◌≡◌, Bool, true, false, Option, Some, None, refl}
use Rattle.std.specs.Prelude.{if◌then◌else◌}

-- the choice is not the `None` of a false test
pub chosen : {A : Type 0} (test : Bool) (o : Option A) (v : A) → (if test then o else None) ≡ Some v
    → (test ≡ true) × (o ≡ Some v)
chosen true o v h = (refl, h)
chosen false o v h = cc h

-- the choice is not the `None` of a true test
pub other : {A : Type 0} (test : Bool) (o : Option A) (v : A) → (if test then None else o) ≡ Some v
    → (test ≡ false) × (o ≡ Some v)
other true o v h = cc h
other false o v h = (refl, h)

-- the test is true
pub taken : {A : Type 0} (test : Bool) (a b : A) → test ≡ true → (if test then a else b) ≡ a
taken true a b h = refl
taken false a b h = cc h

-- the test is false
pub left : {A : Type 0} (test : Bool) (a b : A) → test ≡ false → (if test then a else b) ≡ b
left true a b h = cc h
left false a b h = refl
