-- The device's own programs on pieces: how they end, and the marks that they leave.
use Rattle.std.proofs.Common.{◌≡◌, ℕ, zero, suc, ◌+◌, ◌<◌, ◌≤◌, Bool, true, false, not, ◌&&◌, ◌==◌, nat_lt, nat_le, zip, length-append, if◌then◌else◌, List, [], ◌∷◌, ◌++◌, length, map, min, sum, take, drop, set, get_or, slice_get, slice_index, Some, unwrap_or, refl, sym, ap, ◌∙◌, ◌⊎◌, inl, inr, arith}
use Rattle.std.specs.List.{AllByRecursion}
use Rattle.std.specs.Prelude.{position}
use Rattle.std.proofs.Math.Seq.{take-add}
use Rattle.std.proofs.lemmas.Bool.{le-ltb, lt-ltb}
use Rattle.std.proofs.lemmas.List.{drop_all, length-map, map-append}
use Rattle.std.proofs.lemmas.List.Sums.{sum_by-cons}
use Rattle.cp_base.specs.Pieces.{patched}
use Rattle.cp_base.specs.Sharing.{AreDisjoint, range_region}
use Rattle.cp_base.specs.declared.lists.MemRange.{MemRange}
use Rattle.cp_base.specs.declared.region.SpaceId.TheVariants.{Mem}
use Rattle.cp_base.specs.declared.replies.Piece.{Piece}
use Rattle.bpf_isa.specs.declared.end.End.TheVariants as end
use Rattle.bpf_model.specs.Memory.{Memory, bytes_from, overwritten, range_at, windows_of}
use Rattle.bpf_model.specs.Outcome.{RunOutcome}
use Rattle.bpf_model.proofs.Writing.{bytes_from-at, bytes_from-same, length-bytes_from, written-inside, written-outside}
use Rattle.device_model.specs.Builtin.{Builtin, builtin_outcome, common_len, cost_of, ends_with, first_difference, is_forbidden, left_by, marks_of, result_of, window_at}
use Rattle.trail_model.specs.LocalEffects.{ranges_with}
use Rattle.trail_model.specs.Pieces.{RegionBytes}
use Rattle.trail_model.proofs.Bytes.{length-patched, patched-inside, patched-outside}
use Rattle.job_run.specs.Windows.{piece_bytes}
use Rattle.job_run.specs.Works.{AreOfRanges, memory_in, piece_holding, region_bytes}
use Rattle.job_run.proofs.Covered.{LieApart, none-apart}
use Rattle.job_run.proofs.Executing.{listed, pieces-at_first}

-- ---- how a program of the device ends, by the bytes that it sees

module _ (program : Builtin) (ranges : List MemRange) (m : Memory) (p1 p2 budget : ℕ) (windows : List (List ℕ)) (seen : windows_of m ranges ≡ windows) where
  abbrev by_tests : List (List ℕ) → Bool → Bool → RunOutcome
  by_tests ws dear forbidden =
      if dear then ends_with end.BudgetSpent m else if forbidden then ends_with (end.BadAccess 0) m
      else ends_with (end.Exit (result_of program ws p1 p2)) (left_by program ws ranges m p1 p2)

  outcome_by : builtin_outcome program ranges m p1 p2 budget ≡ by_tests windows (nat_lt budget (cost_of program windows)) (is_forbidden program windows ranges)
  outcome_by = ap (λ (ws : List (List ℕ)). by_tests ws (nat_lt budget (cost_of program ws)) (is_forbidden program ws ranges)) seen

  pub too_dear : budget < cost_of program windows → builtin_outcome program ranges m p1 p2 budget ≡ ends_with end.BudgetSpent m
  too_dear less = outcome_by ∙ ap (λ (b : Bool). by_tests windows b (is_forbidden program windows ranges)) (lt-ltb budget (cost_of program windows) less)

  pub forbidden : cost_of program windows ≤ budget → is_forbidden program windows ranges ≡ true → builtin_outcome program ranges m p1 p2 budget ≡ ends_with (end.BadAccess 0) m
  forbidden less refused =
      outcome_by
      ∙ (ap (λ (b : Bool). by_tests windows b (is_forbidden program windows ranges)) (le-ltb budget (cost_of program windows) less)
      ∙ ap (λ (b : Bool). by_tests windows false b) refused)

  pub finished : cost_of program windows ≤ budget → is_forbidden program windows ranges ≡ false
      → builtin_outcome program ranges m p1 p2 budget ≡ ends_with (end.Exit (result_of program windows p1 p2)) (left_by program windows ranges m p1 p2)
  finished less allowed =
      outcome_by
      ∙ (ap (λ (b : Bool). by_tests windows b (is_forbidden program windows ranges)) (le-ltb budget (cost_of program windows) less)
      ∙ ap (λ (b : Bool). by_tests windows false b) allowed)

-- ---- marks in the second range

-- bytes elsewhere stay
kept_elsewhere : (m : Memory) (r x : MemRange) (bytes : List ℕ) → length bytes ≤ r.len → AreDisjoint (range_region x) (range_region r)
    → bytes_from (overwritten m r.ns r.at bytes) x.ns x.at x.len ≡ bytes_from m x.ns x.at x.len
kept_elsewhere m r x bytes fits apart =
    bytes_from-same (overwritten m r.ns r.at bytes) m x.ns x.at x.ns x.at x.len
    (λ k less. written-outside m r.ns r.at bytes x.ns (x.at + k)
    (λ d below same there. apart (Mem x.ns) (x.at + k) (refl, omega arith, omega arith) (ap Mem (sym same), omega arith, omega arith)))

kept_rest : (m : Memory) (r : MemRange) (rs : List MemRange) (bytes : List ℕ) → length bytes ≤ r.len → AllByRecursion (λ x. AreDisjoint (range_region r) x) (map range_region rs)
    → ranges_with (overwritten m r.ns r.at bytes) rs ≡ ranges_with m rs
kept_rest m r [] bytes fits apart = refl
kept_rest m r (x ∷ rs) bytes fits apart =
    let here = kept_elsewhere m r x bytes fits (λ s k a b. apart.0 s k b a) in
    let rest = kept_rest m r rs bytes fits apart.1 in
    λ i. record { region = range_region x; bytes = here i } ∷ rest i

patched_here : (m : Memory) (r : MemRange) (bytes : List ℕ) → length bytes ≤ r.len
    → bytes_from (overwritten m r.ns r.at bytes) r.ns r.at r.len ≡ patched (bytes_from m r.ns r.at r.len) 0 bytes
patched_here m r bytes fits =
    let len : length (bytes_from m r.ns r.at r.len) ≡ r.len = length-bytes_from m r.ns r.at r.len in
    listed (overwritten m r.ns r.at bytes) r.ns r.at r.len (patched (bytes_from m r.ns r.at r.len) 0 bytes)
    (length-patched (bytes_from m r.ns r.at r.len) 0 bytes (omega (arith, len, fits)) ∙ len)
    (λ k less. by_side k less (sides k))
  where
    sides : (k : ℕ) → (k < length bytes) ⊎ (length bytes ≤ k)
    sides k = grind arith

    by_side : (k : ℕ) → k < r.len → (k < length bytes) ⊎ (length bytes ≤ k)
        → overwritten m r.ns r.at bytes r.ns (r.at + k) ≡ slice_index (patched (bytes_from m r.ns r.at r.len) 0 bytes) k
    by_side k less (inl below) =
        let len : length (bytes_from m r.ns r.at r.len) ≡ r.len = length-bytes_from m r.ns r.at r.len in
        written-inside m r.ns r.at bytes r.ns (r.at + k) k below refl refl
        ∙ sym (patched-inside (bytes_from m r.ns r.at r.len) 0 bytes k (omega (arith, len, fits)) (omega arith) (omega (arith, below)) ∙ ap (λ (i : ℕ). slice_index bytes i) (omega arith))
    by_side k less (inr above) =
        let len : length (bytes_from m r.ns r.at r.len) ≡ r.len = length-bytes_from m r.ns r.at r.len in
        written-outside m r.ns r.at bytes r.ns (r.at + k) (λ d below same there. omega (arith, below, there, above))
        ∙ sym (patched-outside (bytes_from m r.ns r.at r.len) 0 bytes k (omega (arith, len, fits)) (λ low high. omega (arith, high, above))
        ∙ bytes_from-at m r.ns r.at r.len k less)

marked_ranges : (m : Memory) (ranges : List MemRange) (bytes : List ℕ) (p : RegionBytes) → LieApart (map range_region ranges) → slice_get (ranges_with m ranges) 1 ≡ Some p
    → length bytes ≤ length p.bytes
    → set (ranges_with m ranges) 1 (piece_holding (patched p.bytes 0 bytes) p) ≡ ranges_with (overwritten m (range_at ranges 1).ns (range_at ranges 1).at bytes) ranges
marked_ranges m [] bytes p apart at fits = cc
marked_ranges m (r ∷ []) bytes p apart at fits = cc
marked_ranges m (r ∷ x ∷ rs) bytes p apart at fits =
    let is : record { region = range_region x; bytes = bytes_from m x.ns x.at x.len } ≡ p = cc in
    let len : length p.bytes ≡ x.len = sym (ap (λ (q : RegionBytes). length q.bytes) is) ∙ length-bytes_from m x.ns x.at x.len in
    let few : length bytes ≤ x.len = omega (arith, len, fits) in
    let first = kept_elsewhere m x r bytes few apart.0.0 in
    let second = patched_here m x bytes few in
    let rest = kept_rest m x rs bytes few apart.1.0 in
    sym ((λ i. record { region = range_region r; bytes = first i } ∷ record { region = range_region x; bytes = second i } ∷ rest i)
    ∙ ap (λ (q : RegionBytes). record { region = range_region r; bytes = bytes_from m r.ns r.at r.len } ∷ piece_holding (patched q.bytes 0 bytes) q ∷ ranges_with m rs) is)

-- marks over the second piece are marks in the memory
pub marks-left : (ps : List Piece) (ranges : List MemRange) (bytes : List ℕ) (p : RegionBytes) → AreOfRanges ps ranges → slice_get (region_bytes ps) 1 ≡ Some p
    → length bytes ≤ length p.bytes
    → set (region_bytes ps) 1 (piece_holding (patched p.bytes 0 bytes) p) ≡ ranges_with (overwritten (memory_in ps) (range_at ranges 1).ns (range_at ranges 1).at bytes) ranges
marks-left ps ranges bytes p of at fits =
    let same = pieces-at_first ps ranges of in
    ap (λ (qs : List RegionBytes). set qs 1 (piece_holding (patched p.bytes 0 bytes) p)) same
    ∙ marked_ranges (memory_in ps) ranges bytes p (none-apart (map range_region ranges) of.apart) (ap (λ (qs : List RegionBytes). slice_get qs 1) (sym same) ∙ at) fits

-- no marks change nothing
pub no_marks-left : (m : Memory) (ranges : List MemRange) (ns at : ℕ) → ranges_with (overwritten m ns at []) ranges ≡ ranges_with m ranges
no_marks-left m [] ns at = refl
no_marks-left m (r ∷ ranges) ns at =
    let here : bytes_from (overwritten m ns at []) r.ns r.at r.len ≡ bytes_from m r.ns r.at r.len =
    bytes_from-same (overwritten m ns at []) m r.ns r.at r.ns r.at r.len (λ k less. written-outside m ns at [] r.ns (r.at + k) (λ d below same there. omega (arith, below))) in
    let rest = no_marks-left m ranges ns at in
    λ i. record { region = range_region r; bytes = here i } ∷ rest i

-- ---- the first two pieces

-- the first piece stays where the second changes
pub first-kept : (ps qs : List Piece) (a : RegionBytes) (x : Piece) → region_bytes qs ≡ set (region_bytes ps) 1 a → 2 ≤ length ps → get_or qs 0 x ≡ x
    → x.bytes.items ≡ window_at (piece_bytes ps) 0
first-kept [] qs a x e two first = absurd (omega arith)
first-kept (p ∷ []) qs a x e two first = absurd (omega arith)
first-kept (p ∷ r ∷ ps) [] a x e two first = cc
first-kept (p ∷ r ∷ ps) (q ∷ qs) a x e two first =
    let same : record { region = q.range; bytes = q.bytes.items } ≡ record { region = p.range; bytes = p.bytes.items } = cc in
    ap (λ (y : Piece). y.bytes.items) (sym first) ∙ ap (λ (y : RegionBytes). y.bytes) same

-- the second piece
pub second-piece : (ps : List Piece) → 2 ≤ length ps → (p : RegionBytes) × (slice_get (region_bytes ps) 1 ≡ Some p) × (p.bytes ≡ window_at (piece_bytes ps) 1)
second-piece [] two = absurd (omega arith)
second-piece (p ∷ []) two = absurd (omega arith)
second-piece (p ∷ r ∷ ps) two = (record { region = r.range; bytes = r.bytes.items }, refl, refl)

-- where the first two have a byte in common, there are two
pub two-pieces : (ps : List Piece) → 0 < common_len (piece_bytes ps) → 2 ≤ length ps
two-pieces [] some = absurd (omega arith)
two-pieces (p ∷ []) some = absurd (omega arith)
two-pieces (p ∷ r ∷ ps) some = omega arith

-- ---- marks piece by piece

drop-behind : (xs zs : List ℕ) (n : ℕ) → drop (length xs + n) (xs ++ zs) ≡ drop n zs
drop-behind [] zs n = ap (λ (k : ℕ). drop k zs) (omega arith)
drop-behind (x ∷ xs) zs n = ap (λ (k : ℕ). drop k (x ∷ (xs ++ zs))) next ∙ drop-behind xs zs n
  where
    next : length (x ∷ xs) + n ≡ suc (length xs + n)
    next = omega arith

pub take-front : (xs zs : List ℕ) → take (length xs) (xs ++ zs) ≡ xs
take-front [] zs = refl
take-front (x ∷ xs) zs = ap (λ (ys : List ℕ). x ∷ ys) (take-front xs zs)

drop-twice : (old : List ℕ) (m n : ℕ) → drop n (drop m old) ≡ drop (m + n) old
drop-twice old zero n = ap (λ (k : ℕ). drop k old) (omega arith)
drop-twice [] (suc m) n = drop_all n [] (omega arith) ∙ sym (drop_all (suc m + n) [] (omega arith))
drop-twice (x ∷ old) (suc m) n = drop-twice old m n ∙ ap (λ (k : ℕ). drop k (x ∷ old)) next
  where
    next : suc (m + n) ≡ suc m + n
    next = omega arith

patched-front : (old xs : List ℕ) → patched old 0 xs ≡ xs ++ drop (length xs) old
patched-front old xs = ap (λ (n : ℕ). xs ++ drop n old) (omega arith)

pub patched-twice : (old xs ys : List ℕ) (n : ℕ) → length xs ≡ n → patched (patched old 0 xs) n ys ≡ patched old 0 (xs ++ ys)
patched-twice old xs ys n e =
    (λ i. patched (patched-front old xs i) (sym e i) ys)
    ∙ ((λ i. (take-front xs (drop (length xs) old) i ++ ys) ++ drop-behind xs (drop (length xs) old) (length ys) i)
    ∙ (ap (λ (zs : List ℕ). (xs ++ ys) ++ zs) (drop-twice old (length xs) (length ys) ∙ ap (λ (k : ℕ). drop k old) (sym (length-append xs ys)))
    ∙ sym (patched-front old (xs ++ ys))))

pub sum-marks : (low high : ℕ) (xs : List ℕ) → sum (marks_of low high xs) ≤ length xs
sum-marks low high [] = omega arith
sum-marks low high (x ∷ xs) =
    let rest = sum-marks low high xs in
    let cons = sum_by-cons (λ (y : ℕ). y) (if nat_le low x && nat_le x high then 1 else 0) (marks_of low high xs) in
    let one : (if nat_le low x && nat_le x high then 1 else 0) ≤ 1 = at_most (nat_le low x && nat_le x high) in
    omega (arith, rest, cons, one)
  where
    at_most : (b : Bool) → (if b then 1 else 0) ≤ 1
    at_most true = omega arith
    at_most false = omega arith

pub marks-next : (low high : ℕ) (from : List ℕ) (at n : ℕ)
    → marks_of low high (take (at + n) from) ≡ marks_of low high (take at from) ++ marks_of low high (take n (drop at from))
marks-next low high from at n = ap (λ (xs : List ℕ). marks_of low high xs) (take-add at n from) ∙ map-append (λ (byte : ℕ). if nat_le low byte && nat_le byte high then 1 else 0) (take at from) (take n (drop at from))

pub sum-both : (xs ys : List ℕ) → sum (xs ++ ys) ≡ sum xs + sum ys
sum-both [] ys = omega arith
sum-both (x ∷ xs) ys =
    let rest = sum-both xs ys in
    let a = sum_by-cons (λ (y : ℕ). y) x (xs ++ ys) in
    let b = sum_by-cons (λ (y : ℕ). y) x xs in
    omega (arith, rest, a, b)

-- ---- the first difference of the first two pieces

pub window-here : (ps : List Piece) (i : ℕ) (d : Piece) → i < length ps → (get_or ps i d).bytes.items ≡ window_at (piece_bytes ps) i
window-here [] i d less = absurd (omega arith)
window-here (p ∷ ps) zero d less = refl
window-here (p ∷ ps) (suc i) d less = window-here ps i d (omega arith)

zip_common : (a b : List ℕ) (n : ℕ) → n ≡ min (length a) (length b) → zip (take n a) (take n b) ≡ zip a b
zip_common [] b zero e = refl
zip_common [] b (suc n) e = absurd (omega arith)
zip_common (x ∷ a) [] zero e = refl
zip_common (x ∷ a) [] (suc n) e = absurd (omega arith)
zip_common (x ∷ a) (y ∷ b) zero e = absurd (omega arith)
zip_common (x ∷ a) (y ∷ b) (suc n) e = ap (λ (rest : List (ℕ × ℕ)). (x, y) ∷ rest) (zip_common a b n (omega arith))

pub difference-common : (a b : List ℕ) (n : ℕ) → n ≡ min (length a) (length b) → first_difference (take n a) (take n b) ≡ first_difference a b
difference-common a b n e = ap (λ (pairs : List (ℕ × ℕ)). position (λ (pair : ℕ × ℕ). not (pair.0 == pair.1)) pairs) (zip_common a b n e)

pub no-second : (ps : List Piece) (most : ℕ) → length ps < 2 → most ≡ unwrap_or (first_difference (window_at (piece_bytes ps) 0) (window_at (piece_bytes ps) 1)) most
no-second [] most less = refl
no-second (p ∷ []) most less = by_bytes p.bytes.items
  where
    by_bytes : (bytes : List ℕ) → most ≡ unwrap_or (first_difference bytes []) most
    by_bytes [] = refl
    by_bytes (b ∷ bytes) = refl
no-second (p ∷ r ∷ ps) most less = absurd (omega arith)

pub length-marks : (low high : ℕ) (xs : List ℕ) → length (marks_of low high xs) ≡ length xs
length-marks low high xs = length-map xs (λ (byte : ℕ). if nat_le low byte && nat_le byte high then 1 else 0)
