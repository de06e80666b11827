-- Bytes that are fetched: what is only read is copied, and what may be written is taken out, or put back.
use Rattle.std.proofs.Common.{◌≡◌, ℕ, zero, suc, ◌+◌, ◌-◌, ◌<◌, ◌==◌, Bool, true, false, not, ◌&&◌, ◌||◌, if◌then◌else◌, List, [], ◌∷◌, ◌++◌, length, take, drop, get_or, Option, None, IsSome, Result, Ok, Err, OnOk, slice_set, refl, sym, ap, subst, ◌∙◌, arith}
use Rattle.std.proofs.Math.Seq.{drop-cons}
use Rattle.std.proofs.lemmas.Bool.{true≢false}
use Rattle.std.specs.List.{AllByRecursion}
use Rattle.cp_base.proofs.Sharing.{shares_byte-from_common, shares_byte-from_parts}
use Rattle.cp_base.specs.Buffer.{Buffer}
use Rattle.cp_base.specs.Region.{Region}
use Rattle.cp_base.specs.Sharing.{IsIn, meets_any, same_region, same_space, shares_byte}
use Rattle.cp_base.specs.declared.region.SpaceId.{SpaceId}
use Rattle.cp_base.specs.declared.replies.Piece.{Piece}
use Rattle.trail_model.proofs.Regions.{has_byte-in, in-has_byte, same_space-true}
use Rattle.trail_model.specs.Pieces.{any_has_byte, has_byte}
use Rattle.core_model.specs.Ties.{is_one_of}
use Rattle.extents.specs.Homes.{AreBytesAt, Homes, IsBroughtBack, IsTakenAway, is_hole, known_at}
use Rattle.job_run.specs.Held.{IsRange}
use Rattle.device_core.specs.Portions.{AreCopied, AreCutAt, AreFilled, AreTaken, CanBeTaken, IsCopied, IsCutAt, IsFilledIf, IsReadIf, filled_at, portion_ranges, written_ranges}
use Rattle.device_core.specs.declared.portions.Portion.{Portion}

-- ---- copies

pub copied-more : (h : Homes) (xs : List Portion) (ps : List Piece) (x : Portion) (p : Piece) → AreCopied h xs ps → IsCopied h x p
    → AreCopied h (xs ++ x ∷ []) (ps ++ p ∷ [])
copied-more h [] [] x p all one = (one, tt)
copied-more h [] (q ∷ ps) x p all one = absurd all
copied-more h (y ∷ xs) [] x p all one = absurd all
copied-more h (y ∷ xs) (q ∷ ps) x p all one = (all.0, copied-more h xs ps x p all.1 one)

pub copied-length : (h : Homes) (xs : List Portion) (ps : List Piece) → AreCopied h xs ps → length ps ≡ length xs
copied-length h [] [] all = refl
copied-length h [] (q ∷ ps) all = absurd all
copied-length h (y ∷ xs) [] all = absurd all
copied-length h (y ∷ xs) (q ∷ ps) all = ap suc (copied-length h xs ps all.1)

pub range-each : (P : Region → Type 0) (xs : List Portion) (i : ℕ) (d : Portion) → i < length xs → AllByRecursion P (portion_ranges xs) → P (get_or xs i d).range
range-each P [] i d less all = absurd (omega arith)
range-each P (x ∷ xs) zero d less all = all.0
range-each P (x ∷ xs) (suc i) d less all = range-each P xs i d (omega arith) all.1

-- ---- what is taken out

pub none-taken : (h : Homes) → AreTaken h h []
none-taken h = record { known = λ s k. refl; holes = λ r. refl }

pub more-taken : (h0 h1 h2 : Homes) (r : Region) (rs : List Region) → IsTakenAway h0 h1 r → AreTaken h1 h2 rs → AreTaken h0 h2 (r ∷ rs)
more-taken h0 h1 h2 r rs one all = record {
  known = λ s k. all.known s k ∙ by_test s k (has_byte r s k) refl (any_has_byte rs s k);
  holes = λ x. all.holes x ∙ (ap (λ (b : Bool). is_one_of rs x || b) (one.holes x) ∙ shuffle (is_one_of rs x) (same_region r x) (is_hole h0 x));
}
  where
    by_test : (s : SpaceId) (k : ℕ) (b : Bool) → has_byte r s k ≡ b → (any : Bool)
        → (if any then None else known_at h1 s k) ≡ (if b || any then None else known_at h0 s k)
    by_test s k true e true = refl
    by_test s k true e false = one.out s k (has_byte-in r s k e)
    by_test s k false e true = refl
    by_test s k false e false = one.elsewhere s k (λ inside. true≢false (sym (in-has_byte r s k inside) ∙ e))

    shuffle : (a b c : Bool) → (a || (b || c)) ≡ ((b || a) || c)
    shuffle true true c = refl
    shuffle true false c = refl
    shuffle false true c = refl
    shuffle false false c = refl

-- ---- regions apart

pub either-false : (a b : Bool) → (a || b) ≡ false → (a ≡ false) × (b ≡ false)
either-false true b e = cc
either-false false b e = (refl, e)

apart : (a b : Region) (s : SpaceId) (k : ℕ) → shares_byte a b ≡ false → IsIn a s k → IsIn b s k → ⊥
apart a b s k e here there = true≢false (sym (shares_byte-from_common a b (s, k, here, there)) ∙ e)

-- a region is no other one that it shares no byte with
other-region : (a b : Region) → 0 < a.len → shares_byte a b ≡ false → same_region a b ≡ false
other-region a b some e = by_test (same_region a b) refl
  where
    both : (x y : Bool) → (x && y) ≡ true → (x ≡ true) × (y ≡ true)
    both true true h = (refl, refl)
    both true false h = cc
    both false y h = cc

    by_test : (t : Bool) → same_region a b ≡ t → same_region a b ≡ false
    by_test false h = h
    by_test true h =
        let first = both (same_space a.space b.space) ((a.start == b.start) && (a.len == b.len)) h in
        let rest = both (a.start == b.start) (a.len == b.len) first.1 in
        let start : a.start ≡ b.start = search (arith, rest.0) in
        let len : a.len ≡ b.len = search (arith, rest.1) in
        absurd (true≢false (sym (shares_byte-from_parts a b (same_space-true a.space b.space first.0) some (omega arith) (omega arith) (omega arith)) ∙ e))

known-later : (h0 h1 : Homes) (r x : Region) (s : SpaceId) (k : ℕ) → IsTakenAway h0 h1 r → shares_byte r x ≡ false → IsIn x s k → known_at h1 s k ≡ known_at h0 s k
known-later h0 h1 r x s k one e inside = one.elsewhere s k (λ here. apart r x s k e here inside)

pub ready-later : (h0 h1 : Homes) (r : Region) (rs : List Region) → IsTakenAway h0 h1 r → 0 < r.len → meets_any rs r ≡ false
    → AllByRecursion (CanBeTaken h0) rs → AllByRecursion (CanBeTaken h1) rs
ready-later h0 h1 r [] one some e all = tt
ready-later h0 h1 r (x ∷ rs) one some e all =
    let tests = either-false (shares_byte r x) (meets_any rs r) e in (
      record {
        some = all.0.some;
        home = λ s k inside. subst (λ (o : Option ℕ). IsSome o) (sym (known-later h0 h1 r x s k one tests.0 inside)) (all.0.home s k inside);
        whole = one.holes x ∙ ap (λ (b : Bool). b || is_hole h0 x) (other-region r x some tests.0) ∙ all.0.whole;
      },
      ready-later h0 h1 r rs one some tests.1 all.1,
    )

-- ---- what goes back

pub taken-back : (h0 h1 h2 h3 : Homes) (r : Region) (bytes : List ℕ) → CanBeTaken h0 r → AreBytesAt h0 r bytes → IsTakenAway h0 h1 r → AreTaken h1 h2 []
    → IsBroughtBack h2 h3 r bytes → AreTaken h0 h3 []
taken-back h0 h1 h2 h3 r bytes can had one none back = record {
  known = λ s k. by_test s k (has_byte r s k) refl;
  holes = λ x. back.holes x ∙ (ap (λ (b : Bool). b && not (same_region r x)) (none.holes x ∙ one.holes x) ∙ by_same x (same_region r x) refl);
}
  where
    place : (s : SpaceId) (k : ℕ) → IsIn r s k → known_at h3 s k ≡ known_at h0 s k
    place s k inside =
        let low = inside.1 in
        let high = inside.2 in
        let j = k - r.start in
        let less : j < r.len = omega arith in
        let here : r.start + j ≡ k = omega arith in
        subst (λ (z : SpaceId). known_at h3 z k ≡ known_at h0 z k) inside.0
        (subst (λ (n : ℕ). known_at h3 r.space n ≡ known_at h0 r.space n) here (back.back j less ∙ had.each j less))

    by_test : (s : SpaceId) (k : ℕ) (b : Bool) → has_byte r s k ≡ b → known_at h3 s k ≡ known_at h0 s k
    by_test s k true e = place s k (has_byte-in r s k e)
    by_test s k false e =
        let out : IsIn r s k → ⊥ = λ inside. true≢false (sym (in-has_byte r s k inside) ∙ e) in
        back.elsewhere s k out ∙ (none.known s k ∙ one.elsewhere s k out)

    same-whole : (x : Region) → same_region r x ≡ true → is_hole h0 x ≡ false
    same-whole x e = ap (λ (y : Region). is_hole h0 y) (sym (same-region r x e)) ∙ can.whole
      where
        both : (x y : Bool) → (x && y) ≡ true → (x ≡ true) × (y ≡ true)
        both true true h = (refl, refl)
        both true false h = cc
        both false y h = cc

        same-region : (a b : Region) → same_region a b ≡ true → a ≡ b
        same-region a b h =
            let first = both (same_space a.space b.space) ((a.start == b.start) && (a.len == b.len)) h in
            let rest = both (a.start == b.start) (a.len == b.len) first.1 in
            let space : a.space ≡ b.space = same_space-true a.space b.space first.0 in
            let start : a.start ≡ b.start = search (arith, rest.0) in
            let len : a.len ≡ b.len = search (arith, rest.1) in
            λ k. record { space = space k; start = start k; len = len k }

    by_same : (x : Region) (b : Bool) → same_region r x ≡ b → ((b || is_hole h0 x) && not b) ≡ is_hole h0 x
    by_same x true e = sym (same-whole x e)
    by_same x false e = and-true (is_hole h0 x)
      where
        and-true : (t : Bool) → (t && true) ≡ t
        and-true true = refl
        and-true false = refl

-- ---- pieces

pub filled-set : (ps : List Piece) (i : ℕ) (bytes : Buffer) (x : Piece) → i < length ps → get_or ps i x ≡ x
    → slice_set ps i (record { range = x.range; bytes = bytes }) ≡ filled_at ps i bytes
filled-set [] i bytes x less e = absurd (omega arith)
filled-set (p ∷ ps) zero bytes x less e = λ k. (let q : Piece = record { range = (sym e k).range; bytes = bytes } in q) ∷ ps
filled-set (p ∷ ps) (suc i) bytes x less e = ap (λ (qs : List Piece). p ∷ qs) (filled-set ps i bytes x (omega arith) e)

pub filled-length : (ps : List Piece) (i : ℕ) (bytes : Buffer) → length (filled_at ps i bytes) ≡ length ps
filled-length [] i bytes = refl
filled-length (p ∷ ps) zero bytes = refl
filled-length (p ∷ ps) (suc i) bytes = ap suc (filled-length ps i bytes)

pub filled-take : (ps : List Piece) (i : ℕ) (bytes : Buffer) → take i (filled_at ps i bytes) ≡ take i ps
filled-take [] i bytes = refl
filled-take (p ∷ ps) zero bytes = refl
filled-take (p ∷ ps) (suc i) bytes = ap (λ (qs : List Piece). p ∷ qs) (filled-take ps i bytes)

cons-head : (a b : Piece) (xs ys : List Piece) → a ∷ xs ≡ b ∷ ys → a ≡ b
cons-head a b xs ys e = ap (λ (ps : List Piece). get_or ps 0 a) e

cons-tail : (a b : Piece) (xs ys : List Piece) → a ∷ xs ≡ b ∷ ys → xs ≡ ys
cons-tail a b xs ys e = ap (λ (ps : List Piece). drop 1 ps) e

pub take-fewer : (xs ys : List Piece) (i : ℕ) → take (suc i) xs ≡ take (suc i) ys → take i xs ≡ take i ys
take-fewer xs ys zero e = refl
take-fewer [] [] (suc i) e = refl
take-fewer [] (y ∷ ys) (suc i) e = cc
take-fewer (x ∷ xs) [] (suc i) e = cc
take-fewer (x ∷ xs) (y ∷ ys) (suc i) e =
    (λ k. cons-head x y (take (suc i) xs) (take (suc i) ys) e k ∷ take-fewer xs ys i (cons-tail x y (take (suc i) xs) (take (suc i) ys) e) k)

-- the piece at an index is filled, and those behind it were
pub filled-one : (h : Homes) (xs : List Portion) (ps qs : List Piece) (i : ℕ) (d : Portion) (bytes : Buffer) → i < length xs → length ps ≡ length xs
    → length qs ≡ length ps → AreFilled h (drop (suc i) xs) (drop (suc i) ps) (drop (suc i) qs) → take (suc i) qs ≡ take (suc i) ps
    → (get_or xs i d).written ≡ true → AreBytesAt h (get_or xs i d).range bytes.items
    → AreFilled h (drop i xs) (drop i ps) (drop i (filled_at qs i bytes))
filled-one h [] ps qs i d bytes less a b rest same written had = absurd (omega arith)
filled-one h (x ∷ xs) [] qs i d bytes less a b rest same written had = absurd (omega arith)
filled-one h (x ∷ xs) (p ∷ ps) [] i d bytes less a b rest same written had = absurd (omega arith)
filled-one h (x ∷ xs) (p ∷ ps) (q ∷ qs) zero d bytes less a b rest same written had =
    let head = cons-head q p [] [] same in
    (subst (λ (t : Bool). IsFilledIf t h x p (record { range = q.range; bytes = bytes })) (sym written) (ap (λ (y : Piece). y.range) head, had), rest)
filled-one h (x ∷ xs) (p ∷ ps) (q ∷ qs) (suc i) d bytes less a b rest same written had =
    filled-one h xs ps qs i d bytes (omega arith) (omega arith) (omega arith) rest (cons-tail q p (take (suc i) qs) (take (suc i) ps) same) written had

-- the piece at an index, which is only read, is as it was
pub kept-one : (h : Homes) (xs : List Portion) (ps qs : List Piece) (i : ℕ) (d : Portion) → i < length xs → length ps ≡ length xs
    → length qs ≡ length ps → AreFilled h (drop (suc i) xs) (drop (suc i) ps) (drop (suc i) qs) → take (suc i) qs ≡ take (suc i) ps
    → (get_or xs i d).written ≡ false → AreFilled h (drop i xs) (drop i ps) (drop i qs)
kept-one h [] ps qs i d less a b rest same read = absurd (omega arith)
kept-one h (x ∷ xs) [] qs i d less a b rest same read = absurd (omega arith)
kept-one h (x ∷ xs) (p ∷ ps) [] i d less a b rest same read = absurd (omega arith)
kept-one h (x ∷ xs) (p ∷ ps) (q ∷ qs) zero d less a b rest same read =
    (subst (λ (t : Bool). IsFilledIf t h x p q) (sym read) (cons-head q p [] [] same), rest)
kept-one h (x ∷ xs) (p ∷ ps) (q ∷ qs) (suc i) d less a b rest same read =
    kept-one h xs ps qs i d (omega arith) (omega arith) (omega arith) rest (cons-tail q p (take (suc i) qs) (take (suc i) ps) same) read

-- what was filled from home after a region was taken out is what was there before
pub filled-before : (h0 h1 : Homes) (r : Region) (xs : List Portion) (ps qs : List Piece) → IsTakenAway h0 h1 r → meets_any (written_ranges xs) r ≡ false
    → AreFilled h1 xs ps qs → AreFilled h0 xs ps qs
filled-before h0 h1 r [] ps qs one e all = all
filled-before h0 h1 r (x ∷ xs) [] qs one e all = absurd all
filled-before h0 h1 r (x ∷ xs) (p ∷ ps) [] one e all = absurd all
filled-before h0 h1 r (x ∷ xs) (p ∷ ps) (q ∷ qs) one e all = by_test x.written e all.0 (λ f. filled-before h0 h1 r xs ps qs one f all.1)
  where
    by_test : (b : Bool) → meets_any (if b then x.range ∷ written_ranges xs else written_ranges xs) r ≡ false → IsFilledIf b h1 x p q
        → (meets_any (written_ranges xs) r ≡ false → AreFilled h0 xs ps qs)
        → IsFilledIf b h0 x p q × AreFilled h0 xs ps qs
    by_test true e filled later =
        let tests = either-false (shares_byte r x.range) (meets_any (written_ranges xs) r) e in (
          (
            filled.0,
            record {
              length = filled.1.length;
              each = λ k less. filled.1.each k less ∙ known-later h0 h1 r x.range x.range.space (x.range.start + k) one tests.0 (refl, omega arith, omega arith);
            },
          ),
          later tests.1,
        )
    by_test false e filled later = (filled, later e)

-- copied and filled, the pieces are cut
pub cut-all : (h : Homes) (xs : List Portion) (ps qs : List Piece) → AreCopied h xs ps → AreFilled h xs ps qs → AreCutAt h (portion_ranges xs) qs
cut-all h [] [] [] copied filled = tt
cut-all h [] [] (q ∷ qs) copied filled = cc
cut-all h [] (p ∷ ps) qs copied filled = absurd copied
cut-all h (x ∷ xs) [] qs copied filled = absurd copied
cut-all h (x ∷ xs) (p ∷ ps) [] copied filled = absurd filled
cut-all h (x ∷ xs) (p ∷ ps) (q ∷ qs) copied filled = (by_test x.written copied.0.read filled.0, cut-all h xs ps qs copied.1 filled.1)
  where
    by_test : (b : Bool) → IsReadIf b h x p → IsFilledIf b h x p q → IsCutAt h x.range q
    by_test true read new = record {
      place = new.0 ∙ copied.0.place;
      range = subst (λ (r : Region). IsRange r) (sym new.0) copied.0.range;
      bytes = new.1;
    }
    by_test false read new = subst (λ (piece : Piece). IsCutAt h x.range piece) (sym new) (record { place = copied.0.place; range = copied.0.range; bytes = read })

-- ---- one portion further

next : (i : ℕ) → suc i ≡ i + 1
next i = omega arith

pub portion-at : (xs : List Portion) (i : ℕ) (x : Portion) → i < length xs → get_or xs i x ≡ x → drop i xs ≡ x ∷ drop (i + 1) xs
portion-at xs i x less e = drop-cons xs i x less ∙ (λ k. e k ∷ drop (next i k) xs)

pub written-at : (xs : List Portion) (i : ℕ) (x : Portion) → i < length xs → get_or xs i x ≡ x → x.written ≡ true
    → written_ranges (drop i xs) ≡ x.range ∷ written_ranges (drop (i + 1) xs)
written-at xs i x less e w =
    ap written_ranges (portion-at xs i x less e)
    ∙ ap (λ (b : Bool). if b then x.range ∷ written_ranges (drop (i + 1) xs) else written_ranges (drop (i + 1) xs)) w

pub kept-next : {R E : Type 0} (r : Result R E) (h : Homes) (xs : List Portion) (ps qs : List Piece) (i : ℕ) (x : Portion) → i < length xs → length ps ≡ length xs
    → length qs ≡ length ps → get_or xs i x ≡ x → x.written ≡ false
    → OnOk r (AreFilled h (drop (i + 1) xs) (drop (i + 1) ps) (drop (i + 1) qs)) → OnOk r (take (i + 1) qs ≡ take (i + 1) ps)
    → OnOk r (AreFilled h (drop i xs) (drop i ps) (drop i qs))
kept-next (Err refused) h xs ps qs i x less a b e read rest same = tt
kept-next (Ok value) h xs ps qs i x less a b e read rest same =
    kept-one h xs ps qs i x less a b
    (subst (λ (n : ℕ). AreFilled h (drop n xs) (drop n ps) (drop n qs)) (sym (next i)) rest)
    (subst (λ (n : ℕ). take n qs ≡ take n ps) (sym (next i)) same) (ap (λ (y : Portion). y.written) e ∙ read)

pub earlier-next : {R E : Type 0} (r : Result R E) (ps qs : List Piece) (i : ℕ) → OnOk r (take (i + 1) qs ≡ take (i + 1) ps) → OnOk r (take i qs ≡ take i ps)
earlier-next (Err refused) ps qs i same = tt
earlier-next (Ok value) ps qs i same = take-fewer qs ps i (subst (λ (n : ℕ). take n qs ≡ take n ps) (sym (next i)) same)

pub fewer-next : (ps qs : List Piece) (i : ℕ) → take (i + 1) qs ≡ take (i + 1) ps → take i qs ≡ take i ps
fewer-next ps qs i same = take-fewer qs ps i (subst (λ (n : ℕ). take n qs ≡ take n ps) (sym (next i)) same)

pub filled-next : (h0 h1 : Homes) (xs : List Portion) (ps qs : List Piece) (i : ℕ) (x : Portion) (bytes : Buffer) → i < length xs → length ps ≡ length xs
    → length qs ≡ length ps → get_or xs i x ≡ x → x.written ≡ true → IsTakenAway h0 h1 x.range → meets_any (written_ranges (drop (i + 1) xs)) x.range ≡ false
    → AreFilled h1 (drop (i + 1) xs) (drop (i + 1) ps) (drop (i + 1) qs) → take (i + 1) qs ≡ take (i + 1) ps → AreBytesAt h0 x.range bytes.items
    → AreFilled h0 (drop i xs) (drop i ps) (drop i (filled_at qs i bytes))
filled-next h0 h1 xs ps qs i x bytes less a b e w one clear rest same had =
    filled-one h0 xs ps qs i x bytes less a b
    (subst (λ (n : ℕ). AreFilled h0 (drop n xs) (drop n ps) (drop n qs)) (sym (next i))
    (filled-before h0 h1 x.range (drop (i + 1) xs) (drop (i + 1) ps) (drop (i + 1) qs) one clear rest))
    (subst (λ (n : ℕ). take n qs ≡ take n ps) (sym (next i)) same) (ap (λ (y : Portion). y.written) e ∙ w)
    (subst (λ (y : Portion). AreBytesAt h0 y.range bytes.items) (sym e) had)
