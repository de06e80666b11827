-- A byte of a range is counted exactly where the range shares a byte with one that is counted.
use Rattle.std.proofs.Common.{◌≡◌, ◌==◌, ℕ, zero, suc, ◌+◌, ◌*◌, ◌<◌, ◌≤◌, nat_le, nat_lt, Bool, true, false, ◌&&◌, ◌||◌, if◌then◌else◌, List, [], ◌∷◌, ◌++◌, length, take, get_or, arith, refl, sym, subst, ap, ◌∙◌, inl, inr, ◌⊎◌, ⊎_elim}
use Rattle.std.specs.List.{list_any}
use Rattle.std.proofs.lemmas.Bool.{cases_lt, true≢false}
use Rattle.std.proofs.lemmas.Bool.Decides.{nat_tests}
use Rattle.cp_base.specs.Region.{Region}
use Rattle.cp_base.specs.Sharing.{meets_any, same_space, shares_byte}
use Rattle.cp_base.specs.declared.limits.TheConstants.{MAX_NAMESPACE}
use Rattle.cp_base.specs.declared.region.SpaceId.{SpaceId}
use Rattle.cp_base.specs.declared.region.SpaceId.TheVariants.{Nvm, Mem}
use Rattle.range_claims.specs.Counts.{ArePlaced, IsCountOf, IsPlaced, any_between, count_at, counted_once, held_at, regions_at}
use Rattle.range_claims.specs.Places.{base_of, end_of, start_of}
use Rattle.range_claims.specs.Segments.{Ascend, IsFrom}
use Rattle.range_claims.specs.declared.places.TheConstants.{STRIDE}
use Rattle.range_claims.specs.declared.segments.Segment.{Segment}
use Rattle.range_claims.proofs.Basics.{eq_true, held_before, held_behind, held_inside, lt_true, true_eq, true_lt}

-- tests that imply each other are the same
pub same_test : (a b : Bool) → (a ≡ true → b ≡ true) → (b ≡ true → a ≡ true) → a ≡ b
same_test true b f g = sym (f refl)
same_test false true f g = g refl
same_test false false f g = refl

and_parts : (a b : Bool) → (a && b) ≡ true → (a ≡ true) × (b ≡ true)
and_parts true b h = (refl, h)
and_parts false b h = absurd (true≢false (sym h))

and_both : (a b : Bool) → a ≡ true → b ≡ true → (a && b) ≡ true
and_both true b h g = g
and_both false b h g = absurd (true≢false (sym h))

or_first : (a b : Bool) → a ≡ true → (a || b) ≡ true
or_first true b h = refl
or_first false b h = absurd (true≢false (sym h))

or_second : (a b : Bool) → b ≡ true → (a || b) ≡ true
or_second true b h = refl
or_second false b h = h

or_cases : {W : Type 0} (a b : Bool) → (a || b) ≡ true → (a ≡ true → W) → (b ≡ true → W) → W
or_cases true b h f g = f refl
or_cases false b h f g = g h

-- two namespaces that have a byte's number are the same
same_by_place : (a b : SpaceId) (x : ℕ) → base_of a ≤ x → x < base_of a + MAX_NAMESPACE → base_of b ≤ x → x < base_of b + MAX_NAMESPACE → same_space a b ≡ true
same_by_place (Nvm m) (Nvm n) x p q r s = true_eq m n (omega (arith, p, q, r, s))
same_by_place (Nvm m) (Mem n) x p q r s = absurd (omega (arith, p, q, r, s))
same_by_place (Mem m) (Nvm n) x p q r s = absurd (omega (arith, p, q, r, s))
same_by_place (Mem m) (Mem n) x p q r s = true_eq m n (omega (arith, p, q, r, s))

base_same : (a b : SpaceId) → same_space a b ≡ true → base_of a ≡ base_of b
base_same (Nvm m) (Nvm n) h = let e = eq_true m n h in rw e refl
base_same (Nvm m) (Mem n) h = absurd (true≢false (sym h))
base_same (Mem m) (Nvm n) h = absurd (true≢false (sym h))
base_same (Mem m) (Mem n) h = let e = eq_true m n h in rw e refl

-- a segment that counts a byte has it
pub held_has : (s : Segment) (x : ℕ) → 0 < held_at s x → (s.from ≤ x) × (x < s.to)
held_has s x h =
    ⊎_elim (λ (a : x < s.from). let none = held_before s x a in absurd (omega (arith, h, none)))
    (λ (b : s.from ≤ x). ⊎_elim (λ (c : x < s.to). (b, c)) (λ (d : s.to ≤ x). let none = held_behind s x d in absurd (omega (arith, h, none))) (cases_lt x s.to))
    (cases_lt x s.from)

-- ranges that have a common byte share one
share_at : (r w : Region) (x : ℕ) → IsPlaced r → IsPlaced w → start_of r ≤ x → x < end_of r → 0 < held_at (counted_once w) x → shares_byte r w ≡ true
share_at r w x p q from to h =
    let has = held_has (counted_once w) x h in
    let wfrom : start_of w ≤ x = has.0 in
    let wto : x < end_of w = has.1 in
    let same = same_by_place r.space w.space x (omega (arith, from)) (omega (arith, to, p.last)) (omega (arith, wfrom)) (omega (arith, wto, q.last)) in
    let base = base_same r.space w.space same in
    and_both (same_space r.space w.space) _ same
    (and_both (nat_lt 0 r.len) _ (true_lt 0 r.len p.some)
    (and_both (nat_lt 0 w.len) _ (true_lt 0 w.len q.some)
    (and_both (nat_lt r.start (w.start + w.len)) _ (true_lt r.start (w.start + w.len) (omega (arith, from, wto, base)))
    (true_lt w.start (r.start + r.len) (omega (arith, wfrom, to, base))))))

-- a byte that two ranges share
shared_byte : (r w : Region) → shares_byte r w ≡ true → (x : ℕ) × (start_of r ≤ x) × (x < end_of r) × (0 < held_at (counted_once w) x)
shared_byte r w h =
    let one = and_parts (same_space r.space w.space) _ h in
    let two = and_parts (nat_lt 0 r.len) _ one.1 in
    let three = and_parts (nat_lt 0 w.len) _ two.1 in
    let four = and_parts (nat_lt r.start (w.start + w.len)) _ three.1 in
    let base = base_same r.space w.space one.0 in
    let some = lt_true 0 r.len two.0 in
    let more = lt_true 0 w.len three.0 in
    let before = lt_true r.start (w.start + w.len) four.0 in
    let after = lt_true w.start (r.start + r.len) four.1 in
    ⊎_elim (λ (p : start_of r < start_of w).
    let held = held_inside (counted_once w) (start_of w) (omega arith) (omega (arith, more)) in
    (start_of w, omega (arith, p), omega (arith, base, after), omega (arith, held)))
    (λ (q : start_of w ≤ start_of r).
    let held = held_inside (counted_once w) (start_of r) q (omega (arith, base, before)) in
    (start_of r, omega arith, omega (arith, some), omega (arith, held)))
    (cases_lt (start_of r) (start_of w))

-- a counted byte of a range is one of a range that it shares a byte with
meets_at : (regions : List Region) (r : Region) (x : ℕ) → ArePlaced regions → IsPlaced r → start_of r ≤ x → x < end_of r → 0 < regions_at regions x → meets_any regions r ≡ true
meets_at [] r x ps p from to h = absurd (omega (arith, h))
meets_at (w ∷ regions) r x (first, rest) p from to h =
    ⊎_elim (λ (here : 0 < held_at (counted_once w) x). or_first (shares_byte r w) (meets_any regions r) (share_at r w x p first from to here))
    (λ (none : held_at (counted_once w) x ≤ 0). or_second (shares_byte r w) (meets_any regions r) (meets_at regions r x rest p from to (omega (arith, h, none))))
    (cases_lt 0 (held_at (counted_once w) x))

met_byte : (regions : List Region) (r : Region) → meets_any regions r ≡ true → (x : ℕ) × (start_of r ≤ x) × (x < end_of r) × (0 < regions_at regions x)
met_byte [] r h = absurd (true≢false (sym h))
met_byte (w ∷ regions) r h =
    or_cases (shares_byte r w) (meets_any regions r) h
    (λ here. let p = shared_byte r w here in (p.0, p.1, p.2, omega (arith, p.3)))
    (λ later. let p = met_byte regions r later in (p.0, p.1, p.2, omega (arith, p.3)))

-- a counted byte lies in a segment
between_at : (segments : List Segment) (from to x : ℕ) → from ≤ x → x < to → 0 < count_at segments x → any_between segments from to ≡ true
between_at [] from to x g l h = absurd (omega (arith, h))
between_at (s ∷ segments) from to x g l h =
    let Here : Bool = nat_lt s.from to && nat_lt from s.to in
    ⊎_elim (λ (here : 0 < held_at s x).
    let has = held_has s x here in
    or_first Here (any_between segments from to) (and_both (nat_lt s.from to) (nat_lt from s.to) (true_lt s.from to (omega (arith, has.0))) (true_lt from s.to (omega (arith, has.1)))))
    (λ (none : held_at s x ≤ 0). or_second Here (any_between segments from to) (between_at segments from to x g l (omega (arith, h, none))))
    (cases_lt 0 (held_at s x))

byte_between : (low : ℕ) (segments : List Segment) (from to : ℕ) → from < to → Ascend low segments → any_between segments from to ≡ true → (x : ℕ) × (from ≤ x) × (x < to) × (0 < count_at segments x)
byte_between low [] from to order a h = absurd (true≢false (sym h))
byte_between low (s ∷ segments) from to order (first, rest) h =
    or_cases (nat_lt s.from to && nat_lt from s.to) (any_between segments from to) h
    (λ here. let parts = and_parts (nat_lt s.from to) (nat_lt from s.to) here in
    let before = lt_true s.from to parts.0 in
    let after = lt_true from s.to parts.1 in
    ⊎_elim (λ (p : from < s.from). let held = held_inside s s.from (omega arith) first.some in (s.from, omega (arith, p), before, omega (arith, held, first.counted)))
    (λ (q : s.from ≤ from). let held = held_inside s from q after in (from, omega arith, order, omega (arith, held, first.counted)))
    (cases_lt from s.from))
    (λ later. let p = byte_between s.to segments from to order rest later in (p.0, p.1, p.2, omega (arith, p.3)))

pub between_meets : (segments : List Segment) (regions : List Region) (r : Region) → IsCountOf regions segments → ArePlaced regions → IsPlaced r → any_between segments (start_of r) (end_of r) ≡ meets_any regions r
between_meets segments regions r count placed p =
    same_test (any_between segments (start_of r) (end_of r)) (meets_any regions r)
    (λ h. let b = byte_between 0 segments (start_of r) (end_of r) (omega (arith, p.some)) count.fewest.ascend h in
    meets_at regions r b.0 placed p b.1 b.2 (omega (arith, b.3, count.counts b.0)))
    (λ h. let b = met_byte regions r h in
    between_at segments (start_of r) (end_of r) b.0 b.1 b.2 (omega (arith, b.3, count.counts b.0)))

-- a test of one at a place, and of some
pub any_at : {X : Type 0} (p : X → Bool) (xs : List X) (i : ℕ) (x : X) → i < length xs → x ≡ get_or xs i x → p x ≡ true → list_any p xs ≡ true
any_at p [] i x below e h = absurd (omega arith)
any_at p (y ∷ xs) zero x below e h = or_first (p y) (list_any p xs) (ap p (sym e) ∙ h)
any_at p (y ∷ xs) (suc i) x below e h = or_second (p y) (list_any p xs) (any_at p xs i x (omega arith) e h)

or_none : (a b : Bool) → a ≡ false → b ≡ false → (a || b) ≡ false
or_none true b h g = absurd (true≢false h)
or_none false b h g = g

none_parts : (a b : Bool) → (a || b) ≡ false → (a ≡ false) × (b ≡ false)
none_parts true b h = absurd (true≢false h)
none_parts false b h = (refl, h)

pub any_more : {X : Type 0} (p : X → Bool) (xs : List X) (i : ℕ) (x : X) → i < length xs → x ≡ get_or xs i x → list_any p (take i xs) ≡ false → p x ≡ false → list_any p (take (suc i) xs) ≡ false
any_more p [] i x below e none h = absurd (omega arith)
any_more p (y ∷ xs) zero x below e none h = or_none (p y) false (ap p (sym e) ∙ h) refl
any_more p (y ∷ xs) (suc i) x below e none h =
    let parts = none_parts (p y) (list_any p (take i xs)) none in
    or_none (p y) (list_any p (take (suc i) xs)) parts.0 (any_more p xs i x (omega arith) e parts.1 h)
