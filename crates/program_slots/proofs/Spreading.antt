-- The bytes of pieces that lie apart.
use Rattle.std.proofs.Common.{◌≡◌, ℕ, zero, suc, ◌+◌, ◌-◌, ◌<◌, ◌≤◌, Bool, true, false, cond, eqb, ltb, not, ◌||◌, ◌&&◌, List, [], ◌∷◌, ◌++◌, Option, Some, None, is_some, length, take, drop, map, replicate, sym, refl, ap, ◌∙◌, subst, unwrap_or, ◌⊎◌, ⊎_elim, inl, inr, arith}
use Prim.Native.Nat.{max}
use Rattle.std.specs.List.{filter, list_any, list_all}
use Rattle.std.specs.Ordering.{is_le, nat_cmp}
use Rattle.std.specs.BTreeMap.Range.{entries_between}
use Rattle.std.specs.declared.ops.Bound.TheVariants.{Excluded, Unbounded}
use Rattle.std.proofs.lemmas.List.Elements.{filter_agree}
use Rattle.std.specs.BTreeMap.{insert_entry}
use Rattle.std.proofs.lemmas.Bool.{and_cases, cases_Bool, cases_eq, cases_lt, eq-eqb, le-ltb, lt-ltb, ltb-false, ne_eqb, or_parts}
use Rattle.std.proofs.lemmas.List.Folds.{list_all-append}
use Rattle.std.proofs.lemmas.List.{append-nil, append_assoc, drop-append-le, drop-replicate, length-append, length-map, length-replicate, map-append, take-append-le, take-replicate}
use Rattle.cp_base.specs.Buffer.{Buffer}
use Rattle.cp_base.specs.Pieces.{patched, piece}
use Rattle.program_slots.specs.Spread.{AreSpread, joined_bytes, loaded_in, spread}
use Rattle.program_slots.proofs.Parts.{any_behind, any_known, any_missing, patched_behind, same_less}

-- the bytes that are there
abbrev known : List ℕ → List (Option ℕ)
known bytes = map (λ byte. Some byte) bytes

pub length-spread : (from size : ℕ) (es : List (ℕ × Buffer)) → AreSpread from size es → from + length (spread from size es) ≡ size
length-spread from size [] d = rw length-replicate (omega arith)
length-spread from size (e ∷ es) d =
    let more = length-spread (e.0 + length e.1.items) size es d.2 in
    rw (length-append, length-replicate, length-append, length-map) (omega (arith, d.0))

-- a piece lies between two places, in part
abbrev hits : ℕ → ℕ → ℕ × Buffer → Bool
hits at end e = ltb at (e.0 + length e.1.items) && ltb e.0 end

abbrev pub covered : ℕ → ℕ → List (ℕ × Buffer) → Bool
covered at end es = list_any (hits at end) es

-- whether a byte is there in a part is whether a piece lies there
pub any_covered : (from size at end : ℕ) (es : List (ℕ × Buffer)) → AreSpread from size es → at < end
    → list_any (λ (byte : Option ℕ). is_some byte) (take (end - max at from) (drop (at - from) (spread from size es))) ≡ covered at end es
any_covered from size at end [] d h = any_missing (at - from) (end - max at from) (size - from)
any_covered from size at end (e ∷ es) d h =
    let k : ℕ = e.0 in
    let n : ℕ = length e.1.items in
    let low : from ≤ k = d.0 in
    let some : 0 < n = d.1 in
    let gap : length (replicate {A = Option ℕ} (k - from) None) ≡ k - from = length-replicate (k - from) None in
    let long : length (known e.1.items) ≡ n = length-map e.1.items (λ byte. Some byte) in
    let first = any_behind (λ (byte : Option ℕ). is_some byte) (at - from) (end - max at from) (at - k) (end - max at k)
    (replicate (k - from) None) (known e.1.items ++ spread (k + n) size es) (omega arith) (omega arith) in
    let second = any_behind (λ (byte : Option ℕ). is_some byte) (at - k) (end - max at k) (at - (k + n)) (end - max at (k + n))
    (known e.1.items) (spread (k + n) size es) (omega arith) (omega arith) in
    let none = any_missing (at - from) (end - max at from) (k - from) in
    let here = any_known (at - k) (end - max at k) e.1.items in
    let left : ltb (at - k) n ≡ ltb at (k + n) = same_less (at - k) n at (k + n) (λ l. omega arith) (λ l. omega arith) in
    let right : ltb 0 (end - max at k) ≡ ltb k end = same_less 0 (end - max at k) k end (λ l. omega arith) (λ l. omega arith) in
    let more = any_covered (k + n) size at end es d.2 h in
    let behind : Bool = list_any (λ (byte : Option ℕ). is_some byte) (take (end - max at k) (drop (at - k) (known e.1.items ++ spread (k + n) size es))) in
    let later : Bool = list_any (λ (byte : Option ℕ). is_some byte) (take (end - max at (k + n)) (drop (at - (k + n)) (spread (k + n) size es))) in
    first ∙ ap (λ (b : Bool). b || behind) none ∙ second
    ∙ ap (λ (b : Bool). b || later) (here ∙ ap (λ (b : Bool). b && ltb 0 (end - max at k)) left ∙ ap (λ (b : Bool). ltb at (k + n) && b) right)
    ∙ ap (λ (b : Bool). hits at end e || b) more

-- where the last of some pieces ends
abbrev pub last_end : ℕ → List (ℕ × Buffer) → ℕ
last_end from [] = from
last_end from (e ∷ es) = last_end (e.0 + length e.1.items) es

pub last_end-append : (from : ℕ) (es : List (ℕ × Buffer)) (e : ℕ × Buffer) → last_end from (es ++ e ∷ []) ≡ e.0 + length e.1.items
last_end-append from [] e = refl
last_end-append from (p ∷ es) e = last_end-append (p.0 + length p.1.items) es e

-- it ends within the program
last_end_kept : (yes : Bool) (d from size : ℕ) (e : ℕ × Buffer) (kept : List (ℕ × Buffer)) → d ≤ from → (last_end (e.0 + length e.1.items) kept ≤ size) → (last_end d kept ≤ size)
    → last_end d (cond yes (e ∷ kept) kept) ≤ size
last_end_kept true d from size e kept h taken left = taken
last_end_kept false d from size e kept h taken left = left

pub last_end_fits : (p : ℕ × Buffer → Bool) (d from size : ℕ) (es : List (ℕ × Buffer)) → AreSpread from size es → d ≤ from → last_end d (filter p es) ≤ size
last_end_fits p d from size [] apart h = omega (arith, apart)
last_end_fits p d from size (e ∷ es) apart h =
    last_end_kept (p e) d from size e (filter p es) h (last_end_fits p (e.0 + length e.1.items) (e.0 + length e.1.items) size es apart.2 (omega arith))
    (last_end_fits p d (e.0 + length e.1.items) size es apart.2 (omega (arith, apart.0)))

-- the pieces that begin below a place, as a map gives them
below_place : (b k : ℕ) → (true && not (is_le (nat_cmp b k))) ≡ ltb k b
below_place b k =
    ⊎_elim (λ (less : k < b). rw (lt-ltb k b less, le-ltb b k (omega arith), ne_eqb b k (λ e. omega arith)) refl)
    (λ (more : b ≤ k). ⊎_elim (λ (same : b ≡ k). rw (le-ltb k b more, le-ltb b k (omega arith), eq-eqb b k same) refl)
    (λ (other : b ≡ k → ⊥). rw (le-ltb k b more, lt-ltb b k (omega arith)) refl) (cases_eq b k)) (cases_lt k b)

pub entries_below_place : (b : ℕ) (es : List (ℕ × Buffer)) → entries_between nat_cmp Unbounded (Excluded b) es ≡ filter (λ (e : ℕ × Buffer). ltb e.0 b) es
entries_below_place b es = filter_agree (λ (e : ℕ × Buffer). true && not (is_le (nat_cmp b e.0))) (λ (e : ℕ × Buffer). ltb e.0 b) (λ e. below_place b e.0) es

mix : (x c y : Bool) → (x ≡ false → y ≡ false) → (((x && true) || c) || y) ≡ (c || x)
mix true true y h = refl
mix true false y h = refl
mix false true y h = refl
mix false false y h = h refl

unmixed : (x c y : Bool) → (((x && false) || c) || y) ≡ (c || y)
unmixed true c y = refl
unmixed false c y = refl

-- the last piece that begins below the end of a part tells whether one lies in it
pub covered_last : (d from size at end : ℕ) (es : List (ℕ × Buffer)) → AreSpread from size es → d ≤ from
    → (covered at end es || ltb at d) ≡ ltb at (last_end d (filter (λ (e : ℕ × Buffer). ltb e.0 end) es))
covered_last d from size at end [] apart h = refl
covered_last d from size at end (e ∷ es) apart h =
    let low : from ≤ e.0 = apart.0 in
    ⊎_elim
    (λ (yes : ltb e.0 end ≡ true).
    let less : ltb at (e.0 + length e.1.items) ≡ false → ltb at d ≡ false =
    λ no. le-ltb at d (let behind : e.0 + length e.1.items ≤ at = ltb-false at (e.0 + length e.1.items) no in omega arith) in
    let more = covered_last (e.0 + length e.1.items) (e.0 + length e.1.items) size at end es apart.2 (omega arith) in
    rw yes (mix (ltb at (e.0 + length e.1.items)) (covered at end es) (ltb at d) less ∙ more))
    (λ (no : ltb e.0 end ≡ false).
    let more = covered_last d (e.0 + length e.1.items) size at end es apart.2 (omega arith) in
    rw no (unmixed (ltb at (e.0 + length e.1.items)) (covered at end es) (ltb at d) ∙ more))
    (cases_Bool (ltb e.0 end))

or_nothing : (x y : Bool) → y ≡ false → (x || y) ≡ x
or_nothing true y e = refl
or_nothing false y e = e

-- the same of the part of a program's bytes
pub part_covered : (size at n : ℕ) (es : List (ℕ × Buffer)) → AreSpread 0 size es → 0 < n
    → list_any (λ (byte : Option ℕ). is_some byte) (piece (spread 0 size es) at n) ≡ covered at (at + n) es
part_covered size at n es apart some =
    let all = any_covered 0 size at (at + n) es apart (omega arith) in
    let m : at + n - max at 0 ≡ n = omega arith in
    let i : at - 0 ≡ at = omega arith in
    ap (λ (k : ℕ). list_any (λ (byte : Option ℕ). is_some byte) (take k (drop at (spread 0 size es)))) (sym m)
    ∙ ap (λ (k : ℕ). list_any (λ (byte : Option ℕ). is_some byte) (take (at + n - max at 0) (drop k (spread 0 size es)))) (sym i) ∙ all

pub part_by_last : (size at n : ℕ) (es : List (ℕ × Buffer)) → AreSpread 0 size es → 0 < n
    → ltb at (last_end 0 (filter (λ (e : ℕ × Buffer). ltb e.0 (at + n)) es)) ≡ list_any (λ (byte : Option ℕ). is_some byte) (piece (spread 0 size es) at n)
part_by_last size at n es apart some =
    sym (covered_last 0 0 size at (at + n) es apart (omega arith))
    ∙ or_nothing (covered at (at + n) es) (ltb at 0) (le-ltb at 0 (omega arith)) ∙ sym (part_covered size at n es apart some)

-- ---- a further piece

-- a piece that does not lie in a part lies before or behind it
apart_from : (at end : ℕ) (e : ℕ × Buffer) → hits at end e ≡ false → (e.0 + length e.1.items ≤ at) ⊎ (end ≤ e.0)
apart_from at end e none =
    ⊎_elim (λ (before : ltb at (e.0 + length e.1.items) ≡ false). inl (ltb-false at (e.0 + length e.1.items) before))
    (λ (behind : ltb e.0 end ≡ false). inr (ltb-false e.0 end behind)) (and_cases (ltb at (e.0 + length e.1.items)) (ltb e.0 end) none)

-- where it is put among the others
put_before : (at : ℕ) (bytes : Buffer) (e : ℕ × Buffer) (es : List (ℕ × Buffer)) → at < e.0 → insert_entry nat_cmp (e ∷ es) at bytes ≡ (at, bytes) ∷ e ∷ es
put_before at bytes e es h = rw (lt-ltb at e.0 h) refl

put_behind : (at : ℕ) (bytes : Buffer) (e : ℕ × Buffer) (es : List (ℕ × Buffer)) → e.0 < at → insert_entry nat_cmp (e ∷ es) at bytes ≡ e ∷ insert_entry nat_cmp es at bytes
put_behind at bytes e es h = rw (le-ltb at e.0 (omega arith), ne_eqb at e.0 (λ same. omega arith)) refl

pub disjoint_inserted : (from size at : ℕ) (bytes : Buffer) (es : List (ℕ × Buffer)) → AreSpread from size es → from ≤ at → at + length bytes.items ≤ size
    → 0 < length bytes.items → covered at (at + length bytes.items) es ≡ false → AreSpread from size (insert_entry nat_cmp es at bytes)
disjoint_inserted from size at bytes [] apart low high some free = (low, some, high)
disjoint_inserted from size at bytes (e ∷ es) apart low high some free =
    let parts = or_parts (hits at (at + length bytes.items) e) (covered at (at + length bytes.items) es) free in
    ⊎_elim
    (λ (before : e.0 + length e.1.items ≤ at).
    subst (AreSpread from size) (sym (put_behind at bytes e es (omega (arith, apart.1))))
    (apart.0, apart.1, disjoint_inserted (e.0 + length e.1.items) size at bytes es apart.2 before high some parts.1))
    (λ (behind : at + length bytes.items ≤ e.0).
    subst (AreSpread from size) (sym (put_before at bytes e es (omega arith))) (low, some, (behind, apart.1, apart.2)))
    (apart_from at (at + length bytes.items) e parts.0)

pub loaded_inserted : (from size at : ℕ) (bytes : Buffer) (es : List (ℕ × Buffer)) → AreSpread from size es
    → 0 < length bytes.items → covered at (at + length bytes.items) es ≡ false → loaded_in (insert_entry nat_cmp es at bytes) ≡ length bytes.items + loaded_in es
loaded_inserted from size at bytes [] apart some free = refl
loaded_inserted from size at bytes (e ∷ es) apart some free =
    let parts = or_parts (hits at (at + length bytes.items) e) (covered at (at + length bytes.items) es) free in
    ⊎_elim
    (λ (before : e.0 + length e.1.items ≤ at).
    let more = loaded_inserted (e.0 + length e.1.items) size at bytes es apart.2 some parts.1 in
    ap loaded_in (put_behind at bytes e es (omega (arith, apart.1))) ∙ (let sum : length e.1.items + loaded_in (insert_entry nat_cmp es at bytes) ≡ length bytes.items + (length e.1.items + loaded_in es) = omega arith in sum))
    (λ (behind : at + length bytes.items ≤ e.0). ap loaded_in (put_before at bytes e es (omega arith)))
    (apart_from at (at + length bytes.items) e parts.0)

-- bytes that are put where all are missing, at the beginning of a list
put_early : (from k at : ℕ) (bytes : List ℕ) (rest : List (Option ℕ)) → from ≤ at → at + length bytes ≤ k
    → replicate (at - from) None ++ (known bytes ++ (replicate (k - (at + length bytes)) None ++ rest)) ≡ patched (replicate (k - from) None ++ rest) (at - from) (known bytes)
put_early from k at bytes rest low high =
    let gap : length (replicate {A = Option ℕ} (k - from) None) ≡ k - from = length-replicate (k - from) None in
    let long : length (known bytes) ≡ length bytes = length-map bytes (λ byte. Some byte) in
    let front : take (at - from) (replicate (k - from) None ++ rest) ≡ replicate (at - from) None =
    take-append-le (at - from) (replicate (k - from) None) rest (omega arith) ∙ take-replicate (at - from) (k - from) None (omega arith) in
    let left : k - from - (at - from + length (known bytes)) ≡ k - (at + length bytes) = omega arith in
    let back : drop (at - from + length (known bytes)) (replicate (k - from) None ++ rest) ≡ replicate (k - (at + length bytes)) None ++ rest =
    drop-append-le (at - from + length (known bytes)) (replicate (k - from) None) rest (omega arith)
    ∙ ap (λ (zs : List (Option ℕ)). zs ++ rest) (drop-replicate (at - from + length (known bytes)) (k - from) None ∙ ap (λ (n : ℕ). replicate n None) left) in
    sym (ap (λ (zs : List (Option ℕ)). zs ++ known bytes ++ drop (at - from + length (known bytes)) (replicate (k - from) None ++ rest)) front
    ∙ ap (λ (zs : List (Option ℕ)). replicate (at - from) None ++ known bytes ++ zs) back
    ∙ append_assoc (replicate (at - from) None) (known bytes) (replicate (k - (at + length bytes)) None ++ rest))

pub spread_inserted : (from size at : ℕ) (bytes : Buffer) (es : List (ℕ × Buffer)) → AreSpread from size es → from ≤ at → at + length bytes.items ≤ size
    → 0 < length bytes.items → covered at (at + length bytes.items) es ≡ false
    → spread from size (insert_entry nat_cmp es at bytes) ≡ patched (spread from size es) (at - from) (map (λ byte. Some byte) bytes.items)
spread_inserted from size at bytes [] apart low high some free =
    ap (λ (zs : List (Option ℕ)). replicate (at - from) None ++ (known bytes.items ++ zs)) (sym (append-nil (replicate (size - (at + length bytes.items)) None)))
    ∙ put_early from size at bytes.items [] low high
    ∙ ap (λ (zs : List (Option ℕ)). patched zs (at - from) (known bytes.items)) (append-nil (replicate (size - from) None))
spread_inserted from size at bytes (e ∷ es) apart low high some free =
    let parts = or_parts (hits at (at + length bytes.items) e) (covered at (at + length bytes.items) es) free in
    let rest = known e.1.items ++ spread (e.0 + length e.1.items) size es in
    ⊎_elim
    (λ (before : e.0 + length e.1.items ≤ at).
    let gap : length (replicate {A = Option ℕ} (e.0 - from) None) ≡ e.0 - from = length-replicate (e.0 - from) None in
    let long : length (known e.1.items) ≡ length e.1.items = length-map e.1.items (λ byte. Some byte) in
    let first : from ≤ e.0 = apart.0 in
    let more = spread_inserted (e.0 + length e.1.items) size at bytes es apart.2 before high some parts.1 in
    let inner = patched_behind (known e.1.items) (spread (e.0 + length e.1.items) size es) (known bytes.items) (at - e.0) (at - (e.0 + length e.1.items)) (omega arith) in
    let outer = patched_behind (replicate (e.0 - from) None) rest (known bytes.items) (at - from) (at - e.0) (omega arith) in
    ap (spread from size) (put_behind at bytes e es (omega (arith, apart.1)))
    ∙ ap (λ (zs : List (Option ℕ)). replicate (e.0 - from) None ++ (known e.1.items ++ zs)) more
    ∙ ap (λ (zs : List (Option ℕ)). replicate (e.0 - from) None ++ zs) (sym inner) ∙ sym outer)
    (λ (behind : at + length bytes.items ≤ e.0).
    ap (spread from size) (put_before at bytes e es (omega arith)) ∙ put_early from e.0 at bytes.items rest low behind)
    (apart_from at (at + length bytes.items) e parts.0)

-- ---- complete programs

pub few_loaded : (from size : ℕ) (es : List (ℕ × Buffer)) → AreSpread from size es → from + loaded_in es ≤ size
few_loaded from size [] apart = omega arith
few_loaded from size (e ∷ es) apart = let more = few_loaded (e.0 + length e.1.items) size es apart.2 in omega (arith, apart.0)

all_missing : (n : ℕ) → list_all (λ (byte : Option ℕ). is_some byte) (replicate n None) ≡ eqb n 0
all_missing zero = refl
all_missing (suc n) = sym (ne_eqb (suc n) 0 (λ e. omega arith))

all_known : (bytes : List ℕ) → list_all (λ (byte : Option ℕ). is_some byte) (known bytes) ≡ true
all_known [] = refl
all_known (byte ∷ bytes) = all_known bytes

-- no byte is missing where as many are loaded as there are
pub complete_spread : (from size : ℕ) (es : List (ℕ × Buffer)) → AreSpread from size es
    → list_all (λ (byte : Option ℕ). is_some byte) (spread from size es) ≡ eqb (from + loaded_in es) size
complete_spread from size [] apart =
    all_missing (size - from)
    ∙ ⊎_elim (λ (same : size - from ≡ 0). eq-eqb (size - from) 0 same ∙ sym (eq-eqb (from + 0) size (omega (arith, apart))))
    (λ (other : size - from ≡ 0 → ⊥). ne_eqb (size - from) 0 other ∙ sym (ne_eqb (from + 0) size (λ e. other (omega arith)))) (cases_eq (size - from) 0)
complete_spread from size (e ∷ es) apart =
    let more = complete_spread (e.0 + length e.1.items) size es apart.2 in
    let few = few_loaded (e.0 + length e.1.items) size es apart.2 in
    let rest : list_all (λ (byte : Option ℕ). is_some byte) (known e.1.items ++ spread (e.0 + length e.1.items) size es) ≡ eqb (e.0 + length e.1.items + loaded_in es) size =
    list_all-append (λ (byte : Option ℕ). is_some byte) (known e.1.items) (spread (e.0 + length e.1.items) size es)
    ∙ ap (λ (b : Bool). b && list_all (λ (byte : Option ℕ). is_some byte) (spread (e.0 + length e.1.items) size es)) (all_known e.1.items) ∙ more in
    list_all-append (λ (byte : Option ℕ). is_some byte) (replicate (e.0 - from) None) (known e.1.items ++ spread (e.0 + length e.1.items) size es)
    ∙ ap (λ (b : Bool). b && list_all (λ (byte : Option ℕ). is_some byte) (known e.1.items ++ spread (e.0 + length e.1.items) size es)) (all_missing (e.0 - from))
    ∙ ap (λ (b : Bool). eqb (e.0 - from) 0 && b) rest
    ∙ ⊎_elim
    (λ (same : e.0 - from ≡ 0).
    let sum : e.0 + length e.1.items + loaded_in es ≡ from + (length e.1.items + loaded_in es) = omega (arith, apart.0) in
    ap (λ (b : Bool). b && eqb (e.0 + length e.1.items + loaded_in es) size) (eq-eqb (e.0 - from) 0 same) ∙ ap (λ (n : ℕ). eqb n size) sum)
    (λ (other : e.0 - from ≡ 0 → ⊥).
    ap (λ (b : Bool). b && eqb (e.0 + length e.1.items + loaded_in es) size) (ne_eqb (e.0 - from) 0 other)
    ∙ sym (ne_eqb (from + (length e.1.items + loaded_in es)) size (λ all. other (omega arith))))
    (cases_eq (e.0 - from) 0)

bytes_known : (bytes : List ℕ) → map (λ (byte : Option ℕ). unwrap_or byte 0) (known bytes) ≡ bytes
bytes_known [] = refl
bytes_known (byte ∷ bytes) = ap (λ (rest : List ℕ). byte ∷ rest) (bytes_known bytes)

pub code_joined : (from size : ℕ) (es : List (ℕ × Buffer)) → AreSpread from size es → from + loaded_in es ≡ size
    → map (λ (byte : Option ℕ). unwrap_or byte 0) (spread from size es) ≡ joined_bytes es
code_joined from size [] apart all = let none : size - from ≡ 0 = omega arith in ap (λ (n : ℕ). map (λ (byte : Option ℕ). unwrap_or byte 0) (replicate n None)) none
code_joined from size (e ∷ es) apart all =
    let few = few_loaded (e.0 + length e.1.items) size es apart.2 in
    let none : e.0 - from ≡ 0 = omega (arith, apart.0) in
    let more = code_joined (e.0 + length e.1.items) size es apart.2 (omega (arith, apart.0)) in
    ap (λ (n : ℕ). map (λ (byte : Option ℕ). unwrap_or byte 0) (replicate n None ++ (known e.1.items ++ spread (e.0 + length e.1.items) size es))) none
    ∙ map-append (λ (byte : Option ℕ). unwrap_or byte 0) (known e.1.items) (spread (e.0 + length e.1.items) size es)
    ∙ ap (λ (zs : List ℕ). zs ++ map (λ (byte : Option ℕ). unwrap_or byte 0) (spread (e.0 + length e.1.items) size es)) (bytes_known e.1.items)
    ∙ ap (λ (zs : List ℕ). e.1.items ++ zs) more
