-- Lists of bytes stay lists of bytes.
use Rattle.std.proofs.Common.{◌≡◌, ℕ, zero, suc, ◌+◌, ◌-◌, ◌*◌, ◌<◌, ◌≤◌, ◌==◌, ◌&&◌, nat_le, nat_lt, Bool, true, false, cond, List, [], ◌∷◌, ◌++◌, length, take, drop, replicate, unwrap_or, Some, subst, arith, mul-zero, mul-suc}
use Rattle.std.specs.Prelude.{slice_get, slice_index, sum, sum_by, count_by, find}
use Rattle.std.specs.List.{All}
use Rattle.std.proofs.lemmas.List.Elements.{All-append, All-cons, All-drop, All-head, All-nil, All-replicate, All-set, All-tail, All-take, All-weaker}
use Rattle.std.proofs.lemmas.List.Sums.{count_by-le-length, sum_by-cons}
use Rattle.cp_base.specs.Configuration.{Configuration, numbered, with_numbered}
use Rattle.cp_base.specs.Contents.{Contents, all_zero, bytes_in, bytes_of, joined, put, with_bytes, zeros}
use Rattle.cp_base.specs.Pieces.{piece, patched}
use Rattle.cp_base.specs.Region.{Region}
use Rattle.cp_base.specs.declared.lists.MemRange.{MemRange}
use Rattle.cp_base.specs.declared.region.SpaceId.{SpaceId}
use Rattle.cp_base.specs.declared.region.SpaceId.TheVariants as space
use Rattle.bpf_model.specs.Memory.{Memory, HoldsBytes, bytes_from, overwritten, windows_of}
use Rattle.device_model.specs.Execution.{memory_of, remembered, with_memory}
use Rattle.device_model.specs.Sized.{HoldBytes}

abbrev pub IsByte : ℕ → Type 0
IsByte byte = byte < 256

-- ---- items of lists

pub at_or : {X : Type 0} (P : X → Type 0) (xs : List X) (k : ℕ) (d : X) → All P xs → P d → P (unwrap_or (slice_get xs k) d)
at_or P [] k d all p = p
at_or P (x ∷ xs) zero d all p = All-head P x xs all
at_or P (x ∷ xs) (suc k) d all p = at_or P xs k d (All-tail P x xs all) p

numbered_or : {X : Type 0} (P : X → Type 0) (xs : List X) (n : ℕ) (d : X) → All P xs → P d → P (unwrap_or (numbered xs n) d)
numbered_or P xs zero d all p = p
numbered_or P xs (suc k) d all p = at_or P xs k d all p

found_by : {X : Type 0} (P : X → Type 0) (test : X → Bool) (y : X) (ys : List X) (b : Bool) → P y → ((x : X) → find test ys ≡ Some x → P x)
    → (x : X) → cond b (Some y) (find test ys) ≡ Some x → P x
found_by P test y ys true here later x is = let same : y ≡ x = cc in subst P same here
found_by P test y ys false here later x is = later x is

-- what is found among elements is one of them
pub found : {X : Type 0} (P : X → Type 0) (test : X → Bool) (xs : List X) → All P xs → (x : X) → find test xs ≡ Some x → P x
found P test [] all x is = cc
found P test (y ∷ ys) all x is = found_by P test y ys (test y) (All-head P y ys all) (found P test ys (All-tail P y ys all)) x is

index_is_byte : (xs : List ℕ) (k : ℕ) → HoldBytes xs → slice_index xs k < 256
index_is_byte [] k all = omega arith
index_is_byte (x ∷ xs) zero all = All-head IsByte x xs all
index_is_byte (x ∷ xs) (suc k) all = index_is_byte xs k (All-tail IsByte x xs all)

-- ---- parts

pub all_piece : {X : Type 0} (P : X → Type 0) (xs : List X) (start n : ℕ) → All P xs → All P (piece xs start n)
all_piece P xs start n all = All-take P n (drop start xs) (All-drop P start xs all)

pub all_patched : {X : Type 0} (P : X → Type 0) (old : List X) (start : ℕ) (items : List X) → All P old → All P items → All P (patched old start items)
all_patched P old start items all new =
    All-append P (take start old ++ items) (drop (start + length items) old) (All-append P (take start old) items (All-take P start old all) new)
    (All-drop P (start + length items) old all)

all_with_numbered : {X : Type 0} (P : X → Type 0) (xs : List X) (n : ℕ) (x : X) → All P xs → P x → All P (with_numbered xs n x)
all_with_numbered P xs zero x all p = all
all_with_numbered P xs (suc k) x all p = All-set P xs k x p all

-- ---- contents

-- all bytes of all namespaces are bytes
pub record HoldsContents (contents : Contents) : Type 0 where
  pub nvm : All HoldBytes contents.nvm
  pub mem : All HoldBytes contents.mem

pub namespace_bytes : (contents : Contents) (s : SpaceId) → HoldsContents contents → HoldBytes (bytes_of contents s)
namespace_bytes contents (space.Nvm n) h = numbered_or HoldBytes contents.nvm n [] h.nvm (All-nil IsByte)
namespace_bytes contents (space.Mem n) h = numbered_or HoldBytes contents.mem n [] h.mem (All-nil IsByte)

pub region_bytes : (contents : Contents) (region : Region) → HoldsContents contents → HoldBytes (bytes_in contents region)
region_bytes contents region h = all_piece IsByte (bytes_of contents region.space) region.start region.len (namespace_bytes contents region.space h)

with_all_bytes : (contents : Contents) (s : SpaceId) (bytes : List ℕ) → HoldsContents contents → HoldBytes bytes → HoldsContents (with_bytes contents s bytes)
with_all_bytes contents (space.Nvm n) bytes h new = record { nvm = all_with_numbered HoldBytes contents.nvm n bytes h.nvm new; mem = h.mem }
with_all_bytes contents (space.Mem n) bytes h new = record { nvm = h.nvm; mem = all_with_numbered HoldBytes contents.mem n bytes h.mem new }

pub put_bytes : (contents : Contents) (s : SpaceId) (start : ℕ) (bytes : List ℕ) → HoldsContents contents → HoldBytes bytes → HoldsContents (put contents s start bytes)
put_bytes contents s start bytes h new =
    with_all_bytes contents s (patched (bytes_of contents s) start bytes) h (all_patched IsByte (bytes_of contents s) start bytes (namespace_bytes contents s h) new)

pub joined_bytes : (contents : Contents) (regions : List Region) → HoldsContents contents → HoldBytes (joined contents regions)
joined_bytes contents [] h = All-nil IsByte
joined_bytes contents (region ∷ regions) h =
    All-append IsByte (bytes_in contents region) (joined contents regions) (region_bytes contents region h) (joined_bytes contents regions h)

zeros_are_bytes : (unit : ℕ) (sizes : List ℕ) → All HoldBytes (zeros unit sizes)
zeros_are_bytes unit [] = All-nil HoldBytes
zeros_are_bytes unit (size ∷ sizes) = All-cons HoldBytes (replicate (size * unit) 0) (zeros unit sizes) (All-replicate IsByte (size * unit) 0 (omega arith)) (zeros_are_bytes unit sizes)

pub opening_bytes : (c : Configuration) → HoldsContents (all_zero c)
opening_bytes c = record { nvm = zeros_are_bytes c.block c.nvm; mem = zeros_are_bytes 1 c.mem }

-- ---- memories

pub memory_bytes : (contents : Contents) → HoldsContents contents → HoldsBytes (memory_of contents)
memory_bytes contents h ns offset = index_is_byte (bytes_of contents (space.Mem ns)) offset (namespace_bytes contents (space.Mem ns) h)

pub bytes_from_bytes : (memory : Memory) (ns offset n : ℕ) → HoldsBytes memory → HoldBytes (bytes_from memory ns offset n)
bytes_from_bytes memory ns offset zero h = All-nil IsByte
bytes_from_bytes memory ns offset (suc n) h =
    All-cons IsByte (memory ns offset) (bytes_from memory ns (offset + 1) n) (h ns offset) (bytes_from_bytes memory ns (offset + 1) n h)

remembered_bytes : (memory : Memory) (ns : ℕ) (old : List (List ℕ)) → HoldsBytes memory → All HoldBytes (remembered memory ns old)
remembered_bytes memory ns [] h = All-nil HoldBytes
remembered_bytes memory ns (bytes ∷ more) h =
    All-cons HoldBytes (bytes_from memory ns 0 (length bytes)) (remembered memory (ns + 1) more) (bytes_from_bytes memory ns 0 (length bytes) h) (remembered_bytes memory (ns + 1) more h)

pub with_memory_bytes : (contents : Contents) (memory : Memory) → HoldsContents contents → HoldsBytes memory → HoldsContents (with_memory contents memory)
with_memory_bytes contents memory h bytes = record { nvm = h.nvm; mem = remembered_bytes memory 1 contents.mem bytes }

pub windows_bytes : (memory : Memory) (ranges : List MemRange) → HoldsBytes memory → All HoldBytes (windows_of memory ranges)
windows_bytes memory [] h = All-nil HoldBytes
windows_bytes memory (range ∷ ranges) h =
    All-cons HoldBytes (bytes_from memory range.ns range.at range.len) (windows_of memory ranges) (bytes_from_bytes memory range.ns range.at range.len h) (windows_bytes memory ranges h)

overwritten_by : (memory : Memory) (bytes : List ℕ) (n k at : ℕ) (test : Bool) → HoldsBytes memory → HoldBytes bytes
    → cond test (slice_index bytes (k - at)) (memory n k) < 256
overwritten_by memory bytes n k at true h new = index_is_byte bytes (k - at) new
overwritten_by memory bytes n k at false h new = h n k

pub overwritten_bytes : (memory : Memory) (ns offset : ℕ) (bytes : List ℕ) → HoldsBytes memory → HoldBytes bytes → HoldsBytes (overwritten memory ns offset bytes)
overwritten_bytes memory ns offset bytes h new n k = overwritten_by memory bytes n k offset (n == ns && (nat_le offset k && nat_lt k (offset + length bytes))) h new

-- ---- sums

sum_at_most : (most : ℕ) (xs : List ℕ) → All (λ x. x ≤ most) xs → sum xs ≤ most * length xs
sum_at_most most [] all = let none : most * zero ≡ 0 = mul-zero most in omega (arith, none)
sum_at_most most (x ∷ xs) all =
    let more = sum_at_most most xs (All-tail (λ x. x ≤ most) x xs all) in
    let first = All-head (λ x. x ≤ most) x xs all in
    let whole : sum (x ∷ xs) ≡ x + sum xs = sum_by-cons (λ (n : ℕ). n) x xs in
    let total : most * suc (length xs) ≡ most * length xs + most = mul-suc most (length xs) in
    omega (arith, more, first, total, whole)

pub sum_of_marks : (xs : List ℕ) → All (λ x. x ≤ 1) xs → sum xs ≤ length xs
sum_of_marks xs all = let h = sum_at_most 1 xs all in omega (arith, h)

sum_of_bytes : (xs : List ℕ) → HoldBytes xs → sum xs ≤ 255 * length xs
sum_of_bytes xs all = sum_at_most 255 xs (All-weaker IsByte (λ x. x ≤ 255) (λ x below. omega (arith, below)) xs all)

pub sum_of_windows : (windows : List (List ℕ)) → All HoldBytes windows → sum_by sum windows ≤ 255 * sum_by length windows
sum_of_windows [] all = omega arith
sum_of_windows (w ∷ ws) all =
    omega (arith, sum_by-cons sum w ws, sum_by-cons length w ws, sum_of_bytes w (All-head HoldBytes w ws all), sum_of_windows ws (All-tail HoldBytes w ws all))

pub count_in_windows : (test : ℕ → Bool) (windows : List (List ℕ)) → sum_by (λ (w : List ℕ). count_by test w) windows ≤ sum_by length windows
count_in_windows test [] = omega arith
count_in_windows test (w ∷ ws) =
    omega (arith, sum_by-cons (λ (v : List ℕ). count_by test v) w ws, sum_by-cons length w ws, count_by-le-length test w, count_in_windows test ws)
