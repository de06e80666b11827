-- Segments that touch at a place and count the same, joined.
use Rattle.std.proofs.Common.{◌≡◌, ◌≢◌, ◌==◌, ℕ, ◌+◌, ◌*◌, ◌<◌, ◌≤◌, true, false, Bool, ◌&&◌, if◌then◌else◌, List, [], ◌∷◌, length, arith, refl, subst, sym, ◌∙◌}
use Rattle.std.proofs.lemmas.Bool.Decides.{nat_tests}
use Rattle.cp_base.specs.declared.limits.TheConstants.{MAX_NAMESPACE}
use Rattle.range_claims.specs.Changes.{joined_at, joined_after, joins}
use Rattle.range_claims.specs.Counts.{count_at, held_at}
use Rattle.cp_base.specs.declared.region.SpaceId.{SpaceId}
use Rattle.cp_base.specs.declared.region.SpaceId.TheVariants.{Nvm, Mem}
use Rattle.range_claims.specs.Places.{base_of}
use Rattle.range_claims.specs.declared.places.TheConstants.{STRIDE}
use Rattle.range_claims.specs.Segments.{Ascend, Differ, IsFrom, MeetsNextAt}
use Rattle.range_claims.specs.declared.segments.Segment.{Segment}
use Rattle.range_claims.proofs.Basics.{chosen, held_since, since}
use Rattle.range_claims.proofs.Cuts.{follows_same}

pub record Joins (place : ℕ) (s t : Segment) : Type 0 where
  pub to : s.to ≡ place
  pub from : t.from ≡ place
  pub count : t.count ≡ s.count

pub joins_parts : (place : ℕ) (s t : Segment) → joins place s t ≡ true → Joins place s t
joins_parts place s t h =
    let p = three (s.to == place) (t.from == place) (t.count == s.count) h in
    record { to = equal s.to place p.0; from = equal t.from place p.1; count = equal t.count s.count p.2 }
  where
    three : (a b c : Bool) → (a && (b && c)) ≡ true → (a ≡ true) × (b ≡ true) × (c ≡ true)
    three true true true h = (refl, refl, refl)
    three true true false h = cc
    three true false c h = cc
    three false b c h = cc

    equal : (a b : ℕ) → (a == b) ≡ true → a ≡ b
    equal a b h = grind (arith, nat_tests)

joins_not : (place : ℕ) (s t : Segment) → joins place s t ≡ false → s.to ≡ place → t.from ≡ place → t.count ≡ s.count → ⊥
joins_not place s t h a b c =
    let one : (s.to == place) ≡ true = equal s.to place a in
    let two : (t.from == place) ≡ true = equal t.from place b in
    let three : (t.count == s.count) ≡ true = equal t.count s.count c in
    all (s.to == place) (t.from == place) (t.count == s.count) one two three h
  where
    equal : (a b : ℕ) → a ≡ b → (a == b) ≡ true
    equal a b h = grind (arith, nat_tests)

    all : (a b c : Bool) → a ≡ true → b ≡ true → c ≡ true → (a && (b && c)) ≡ false → ⊥
    all true true true e f g h = cc
    all true true false e f g h = cc
    all true false c e f g h = cc
    all false b c e f g h = cc

join_count_behind : (low place : ℕ) (s : Segment) (segments : List Segment) (x : ℕ) → IsFrom low s → Ascend s.to segments
    → count_at (joined_after place s segments) x ≡ held_at s x + count_at segments x
join_count_behind low place s [] x here rest = refl
join_count_behind low place s (t ∷ segments) x here (next, rest) =
    let P : List Segment → Type 0 = λ made. count_at made x ≡ held_at s x + (held_at t x + count_at segments x) in
    chosen P (joins place s t) (record s { to = t.to } ∷ segments) (s ∷ joined_after place t segments)
    (λ j. let parts = joins_parts place s t j in
    both s t x (count_at segments x) (parts.from ∙ sym parts.to) parts.count here.some next.some)
    (λ _. omega (arith, join_count_behind s.to place t segments x next rest))
  where
    both : (s t : Segment) (x others : ℕ) → t.from ≡ s.to → t.count ≡ s.count → s.from < s.to → t.from < t.to
        → held_at (record s { to = t.to }) x + others ≡ held_at s x + (held_at t x + others)
    both s t x others touch same some more =
        let one = held_since s x (omega arith) in
        let two = held_since t x (omega arith) in
        let whole = held_since (record s { to = t.to }) x (omega arith) in
        let left : t.count * since x t.to ≡ s.count * since x t.to = rw same refl in
        let right : t.count * since x t.from ≡ s.count * since x s.to = rw (same, touch) refl in
        omega arith

pub join_count : (place : ℕ) (segments : List Segment) (x : ℕ) → Ascend 0 segments → count_at (joined_at place segments) x ≡ count_at segments x
join_count place [] x a = refl
join_count place (s ∷ segments) x (here, rest) = join_count_behind 0 place s segments x here rest

-- a namespace that begins less than a stride behind another does not begin behind it
base_least : (a b : SpaceId) → base_of b < base_of a + STRIDE → base_of b ≤ base_of a
base_least (Nvm m) (Nvm n) h = omega (arith, h)
base_least (Nvm m) (Mem n) h = omega (arith, h)
base_least (Mem m) (Nvm n) h = omega (arith, h)
base_least (Mem m) (Mem n) h = omega (arith, h)

join_ascend_behind : (low place : ℕ) (s : Segment) (segments : List Segment) → IsFrom low s → Ascend s.to segments → Ascend low (joined_after place s segments)
join_ascend_behind low place s [] here rest = (here, tt)
join_ascend_behind low place s (t ∷ segments) here (next, rest) =
    chosen (Ascend low) (joins place s t) (record s { to = t.to } ∷ segments) (s ∷ joined_after place t segments)
    (λ j. let parts = joins_parts place s t j in
    let from = parts.from in let to = parts.to in
    let least = base_least s.space t.space (omega (arith, here.last, next.first)) in
    (record { low = here.low; some = omega (arith, here.some, next.some); counted = here.counted; first = here.first; last = omega (arith, next.last) }, rest))
    (λ _. (here, join_ascend_behind s.to place t segments next rest))

pub join_ascend : (low place : ℕ) (segments : List Segment) → Ascend low segments → Ascend low (joined_at place segments)
join_ascend low place [] a = tt
join_ascend low place (s ∷ segments) (here, rest) = join_ascend_behind low place s segments here rest

-- places but one
abbrev pub But : ℕ → (ℕ → Type 0) → ℕ → Type 0
But place P q = P q × (q ≢ place)

-- behind a place no neighbours touch there
differ_later : (P : ℕ → Type 0) (place low : ℕ) (segments : List Segment) → place < low → Ascend low segments → Differ P segments → Differ (But place P) segments
differ_later P place low [] h a d = tt
differ_later P place low (s ∷ segments) h (here, rest) (first, others) =
    (follows segments first, differ_later P place s.to segments (omega (arith, here.low, here.some)) rest others)
  where
    follows : (some : List Segment) → MeetsNextAt P s some → MeetsNextAt (But place P) s some
    follows [] f = tt
    follows (t ∷ some) f = λ touch same. (f touch same, λ e. absurd (omega (arith, here.low, here.some)))

-- what is joined begins and counts as its first segment
follows_joined : (R : ℕ → Type 0) (place : ℕ) (s t : Segment) (segments : List Segment) → (t.from ≡ s.to → t.count ≡ s.count → R s.to) → MeetsNextAt R s (joined_after place t segments)
follows_joined R place s t [] h = h
follows_joined R place s t (u ∷ segments) h =
    chosen (MeetsNextAt R s) (joins place t u) (record t { to = u.to } ∷ segments) (t ∷ joined_after place u segments) (λ _. h) (λ _. h)

join_differ_behind : (P : ℕ → Type 0) (low place : ℕ) (s : Segment) (segments : List Segment) → IsFrom low s → Ascend s.to segments → MeetsNextAt P s segments → Differ P segments
    → Differ (But place P) (joined_after place s segments)
join_differ_behind P low place s [] here rest first others = (tt, tt)
join_differ_behind P low place s (t ∷ segments) here (next, rest) first (second, others) =
    chosen (Differ (But place P)) (joins place s t) (record s { to = t.to } ∷ segments) (s ∷ joined_after place t segments)
    (λ j. let parts = joins_parts place s t j in
    let from = parts.from in let count = parts.count in
    (follows segments count from second, differ_later P place t.to segments (omega (arith, next.some)) rest others))
    (λ n. (
      follows_joined (But place P) place s t segments (λ touch same. (first touch same, λ e. joins_not place s t n e (touch ∙ e) same)),
      join_differ_behind P s.to place t segments next rest second others,
    ))
  where
    follows : (some : List Segment) → t.count ≡ s.count → t.from ≡ place → MeetsNextAt P t some → MeetsNextAt (But place P) (record s { to = t.to }) some
    follows [] count from f = tt
    follows (u ∷ some) count from f = λ touch same. (f touch (same ∙ sym count), λ e. absurd (omega (arith, next.some)))

pub join_differ : (P : ℕ → Type 0) (low place : ℕ) (segments : List Segment) → Ascend low segments → Differ P segments → Differ (But place P) (joined_at place segments)
join_differ P low place [] a d = tt
join_differ P low place (s ∷ segments) (here, rest) (first, others) = join_differ_behind P low place s segments here rest first others
