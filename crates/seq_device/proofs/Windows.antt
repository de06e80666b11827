-- Windows of ranges: what a program sees of the contents, and what its windows put back make of them.
use Rattle.std.proofs.Common.{◌≡◌, ℕ, zero, suc, ◌+◌, ◌^◌, ◌<◌, ◌≤◌, Bool, true, false, cond, ◌||◌, if◌then◌else◌, List, [], ◌∷◌, All, get_or, length, map, take, refl, sym, ap, subst, ◌∙◌, inl, inr, arith}
use Rattle.std.proofs.lemmas.Bool.{true≢false}
use Rattle.cp_base.specs.Contents.{Contents, IsInside, bytes_in, bytes_of, put}
use Rattle.cp_base.specs.Region.{Region}
use Rattle.cp_base.specs.Sharing.{IsIn, any_overlap, meets_any, range_region}
use Rattle.cp_base.specs.declared.lists.MemRange.{MemRange}
use Rattle.cp_base.specs.declared.region.SpaceId.{SpaceId}
use Rattle.cp_base.specs.declared.region.SpaceId.TheVariants.{Mem}
use Rattle.bpf_model.specs.Memory.{AreApart, Memory, allows_writing, bytes_from, lengths_of, windows_of}
use Rattle.bpf_model.proofs.Writing.{length-bytes_from}
use Rattle.confined_view.specs.Touched.{window_bytes}
use Rattle.confined_view.specs.declared.window.Window.{Window}
use Rattle.device_model.specs.Execution.{Executable, memory_of, outcome_on, with_memory}
use Rattle.trail_model.specs.Footprints.{writable_ranges}
use Rattle.trail_model.specs.LocalEffects.{ranges_with}
use Rattle.trail_model.specs.Pieces.{all_bytes, gathered, put_pieces}
use Rattle.trail_model.proofs.Bytes.{AreInContents, bytes_in-gathered, put-length}
use Rattle.trail_model.proofs.Executions.{run-confined}
use Rattle.trail_model.proofs.Passing.{writable-inside}
use Rattle.trail_model.proofs.Putting.{memory-put}
use Rattle.trail_model.proofs.Regions.{IsInSome, unmet}
use Rattle.seq_device.specs.Ranges.{AreAtHand, IsAtHand, with_window, with_windows}

-- ---- what a program sees

seen : (contents : Contents) (ns at n : ℕ) → gathered (all_bytes contents) (Mem ns) at n ≡ bytes_from (memory_of contents) ns at n
seen contents ns at zero = refl
seen contents ns at (suc n) = ap (λ (xs : List ℕ). all_bytes contents (Mem ns) at ∷ xs) (seen contents ns (at + 1) n)

-- the bytes of a range
pub bytes_seen : (contents : Contents) (r : MemRange) → IsInside contents (range_region r)
    → bytes_in contents (range_region r) ≡ bytes_from (memory_of contents) r.ns r.at r.len
bytes_seen contents r inside = bytes_in-gathered contents (range_region r) inside ∙ seen contents r.ns r.at r.len

-- and of a part of a range
pub first_seen : (contents : Contents) (ns at len : ℕ) → at + len ≤ length (bytes_of contents (Mem ns))
    → bytes_in contents (record { space = Mem ns; start = at; len = len }) ≡ bytes_from (memory_of contents) ns at len
first_seen contents ns at len inside = bytes_in-gathered contents (record { space = Mem ns; start = at; len = len }) inside ∙ seen contents ns at len

all_but_first : {A : Type 0} (P : A → Type 0) (x : A) (xs : List A) → All P (x ∷ xs) → All P xs
all_but_first P x xs all = λ k d below. all (suc k) d (omega arith)

pub inside_all : (contents : Contents) (ranges : List MemRange) → All (IsAtHand contents) ranges → AreInContents contents (map range_region ranges)
inside_all contents [] all = tt
inside_all contents (r ∷ ranges) all = ((all 0 r (omega arith)).inside, inside_all contents ranges (all_but_first (IsAtHand contents) r ranges all))

-- each window is short enough
pub windows_short : (contents : Contents) (memory : Memory) (ranges : List MemRange) → All (IsAtHand contents) ranges
    → All (λ (window : List ℕ). length window < 2 ^ 32) (windows_of memory ranges)
windows_short contents memory [] all k d below = absurd (omega arith)
windows_short contents memory (r ∷ ranges) all zero d below =
    let len = length-bytes_from memory r.ns r.at r.len in
    let short = (all 0 r (omega arith)).short in
    omega arith
windows_short contents memory (r ∷ ranges) all (suc k) d below =
    windows_short contents memory ranges (all_but_first (IsAtHand contents) r ranges all) k d (omega arith)

-- windows are as long as their ranges
pub windows_lengths : (memory : Memory) (ranges : List MemRange) → map (length {A = ℕ}) (windows_of memory ranges) ≡ lengths_of ranges
windows_lengths memory [] = refl
windows_lengths memory (r ∷ ranges) =
    let here : length (bytes_from memory r.ns r.at r.len) ≡ r.len = length-bytes_from memory r.ns r.at r.len in
    let rest : map (length {A = ℕ}) (windows_of memory ranges) ≡ lengths_of ranges = windows_lengths memory ranges in
    cc

-- ---- no two ranges share a byte

either_false : (a b : Bool) → (a || b) ≡ false → (a ≡ false) × (b ≡ false)
either_false true b h = absurd (true≢false h)
either_false false b h = (refl, h)

item_in : (ranges : List MemRange) (j : ℕ) (d : MemRange) (s : SpaceId) (k : ℕ) → j < length ranges → IsIn (range_region (get_or ranges j d)) s k
    → IsInSome (map range_region ranges) s k
item_in [] j d s k below here = absurd (omega arith)
item_in (r ∷ ranges) zero d s k below here = inl here
item_in (r ∷ ranges) (suc j) d s k below here = inr (item_in ranges j d s k (omega arith) here)

pub apart : (ranges : List MemRange) → any_overlap (map range_region ranges) ≡ false → AreApart ranges
apart [] none i j d before inside k l less less' same at = absurd (omega arith)
apart (r ∷ ranges) none i zero d before inside k l less less' same at = absurd (omega arith)
apart (r ∷ ranges) none zero (suc j) d before inside k l less less' same at =
    let p = either_false (meets_any (map range_region ranges) (range_region r)) (any_overlap (map range_region ranges)) none in
    unmet (map range_region ranges) (range_region r) (Mem r.ns) (r.at + k) p.0 (refl, omega arith, omega arith)
    (item_in ranges j d (Mem r.ns) (r.at + k) (omega arith) (ap Mem (sym same), omega arith, omega arith))
apart (r ∷ ranges) none (suc i) (suc j) d before inside k l less less' same at =
    let p = either_false (meets_any (map range_region ranges) (range_region r)) (any_overlap (map range_region ranges)) none in
    apart ranges p.1 i j d (omega arith) (omega arith) k l less less' same at

-- ---- windows that are put back

-- one window more
windows_next : (contents : Contents) (ranges : List MemRange) (windows : List (List ℕ)) (i : ℕ) (r : MemRange) (w : List ℕ) → i < length ranges → i < length windows
    → with_windows contents (take (suc i) ranges) (take (suc i) windows)
    ≡ with_window (with_windows contents (take i ranges) (take i windows)) (get_or ranges i r) (get_or windows i w)
windows_next contents [] windows i r w less less' = absurd (omega arith)
windows_next contents (x ∷ ranges) [] i r w less less' = absurd (omega arith)
windows_next contents (x ∷ ranges) (bytes ∷ windows) zero r w less less' = refl
windows_next contents (x ∷ ranges) (bytes ∷ windows) (suc i) r w less less' =
    windows_next (with_window contents x bytes) ranges windows i r w (omega arith) (omega arith)

pub windows_more : (contents : Contents) (ranges : List MemRange) (windows : List (List ℕ)) (i : ℕ) (r : MemRange) (w : List ℕ) → i < length ranges → i < length windows
    → with_windows contents (take (i + 1) ranges) (take (i + 1) windows)
    ≡ with_window (with_windows contents (take i ranges) (take i windows)) (get_or ranges i r) (get_or windows i w)
windows_more contents ranges windows i r w less less' =
    let next : suc i ≡ i + 1 = omega arith in
    subst (λ (n : ℕ). with_windows contents (take n ranges) (take n windows)
    ≡ with_window (with_windows contents (take i ranges) (take i windows)) (get_or ranges i r) (get_or windows i w)) next
    (windows_next contents ranges windows i r w less less')

-- the lengths stay
window_length : (contents : Contents) (r : MemRange) (bytes : List ℕ) (s : SpaceId) → IsAtHand contents r → length bytes ≡ r.len
    → length (bytes_of (with_window contents r bytes) s) ≡ length (bytes_of contents s)
window_length contents r bytes s here len = by_test (allows_writing r.access)
  where
    by_test : (b : Bool) → length (bytes_of (if b then put contents (Mem r.ns) r.at bytes else contents) s) ≡ length (bytes_of contents s)
    by_test true = let inside = here.inside in put-length contents (Mem r.ns) r.at bytes s (omega arith)
    by_test false = refl

-- and so do the ranges
pub still_at_hand : (contents : Contents) (r : MemRange) (bytes : List ℕ) (ranges : List MemRange) → IsAtHand contents r → length bytes ≡ r.len
    → All (IsAtHand contents) ranges → All (IsAtHand (with_window contents r bytes)) ranges
still_at_hand contents r bytes ranges here len all = λ k d below.
    let one = all k d below in
    let inside = one.inside in
    let same = window_length contents r bytes (Mem (get_or ranges k d).ns) here len in
    record { inside = omega arith; some = one.some; short = one.short }

windows_pieces : (contents : Contents) (memory : Memory) (ranges : List MemRange)
    → with_windows contents ranges (windows_of memory ranges) ≡ put_pieces contents (ranges_with memory (writable_ranges ranges))
windows_pieces contents memory [] = refl
windows_pieces contents memory (r ∷ ranges) = by_test (λ some. windows_pieces some memory ranges) (allows_writing r.access)
  where
    by_test : ((some : Contents) → with_windows some ranges (windows_of memory ranges) ≡ put_pieces some (ranges_with memory (writable_ranges ranges))) → (b : Bool)
        → with_windows (if b then put contents (Mem r.ns) r.at (bytes_from memory r.ns r.at r.len) else contents) ranges (windows_of memory ranges)
        ≡ put_pieces contents (ranges_with memory (cond b (r ∷ writable_ranges ranges) (writable_ranges ranges)))
    by_test rest true = rest (put contents (Mem r.ns) r.at (bytes_from memory r.ns r.at r.len))
    by_test rest false = rest contents

-- the windows that an execution leaves make its memory of the contents
pub windows_left : (x : Executable) (contents : Contents) (ranges : List MemRange) (p1 p2 budget : ℕ) → All (IsAtHand contents) ranges
    → with_windows contents ranges (windows_of (outcome_on x ranges (memory_of contents) p1 p2 budget).memory ranges)
    ≡ with_memory contents (outcome_on x ranges (memory_of contents) p1 p2 budget).memory
windows_left x contents ranges p1 p2 budget all =
    let memory : Memory = (outcome_on x ranges (memory_of contents) p1 p2 budget).memory in
    windows_pieces contents memory ranges
    ∙ sym (memory-put contents memory (writable_ranges ranges) (writable-inside contents ranges (inside_all contents ranges all))
    (λ n k out. run-confined x ranges (memory_of contents) p1 p2 budget n k out))

-- a window that is put back is as long as its range
pub window_at_length : (windows : List Window) (ranges : List MemRange) (i : ℕ) (w : Window) (r : MemRange)
    → map (length {A = ℕ}) (window_bytes windows) ≡ lengths_of ranges → i < length ranges → length (get_or windows i w).bytes.items ≡ (get_or ranges i r).len
window_at_length windows [] i w r same less = absurd (omega arith)
window_at_length [] (x ∷ ranges) i w r same less = cc
window_at_length (v ∷ windows) (x ∷ ranges) zero w r same less =
    let here : length v.bytes.items ≡ x.len = cc in here
window_at_length (v ∷ windows) (x ∷ ranges) (suc i) w r same less =
    let rest : map (length {A = ℕ}) (window_bytes windows) ≡ lengths_of ranges = cc in
    window_at_length windows ranges i w r rest (omega arith)
