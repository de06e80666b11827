-- The memory of a device as programs see it: the bytes of its memory namespaces, and the ranges of a set.
use Rattle.std.specs.Prelude.{◌≡◌, ◌≢◌, ℕ, zero, suc, ◌+◌, ◌-◌, ◌<◌, ◌==◌, Bool, true, false, IsTrue, nat_le, nat_lt, ◌&&◌, if◌then◌else◌, List, [], ◌∷◌, length, map, slice_index, slice_index_or, AllPairs}
use Rattle.cp_base.specs.declared.lists.Access.{Access}
use Rattle.cp_base.specs.declared.lists.Access.TheVariants.{ReadOnly, ReadWrite}
use Rattle.cp_base.specs.declared.lists.MemRange.{MemRange}

-- a byte for each namespace and each offset in it
abbrev pub Memory : Type 0
Memory = ℕ → ℕ → ℕ

-- each byte of it is one: a number below 256
abbrev pub HoldsBytes : Memory → Type 0
HoldsBytes memory = (ns offset : ℕ) → memory ns offset < 256

-- so many bytes of a namespace, from an offset on
abbrev pub bytes_from : Memory → ℕ → ℕ → ℕ → List ℕ
bytes_from memory ns offset zero = []
bytes_from memory ns offset (suc n) = memory ns offset ∷ bytes_from memory ns (offset + 1) n

-- the memory with these bytes in a namespace from an offset on, and all else as before
abbrev pub overwritten : Memory → ℕ → ℕ → List ℕ → Memory
overwritten memory ns offset bytes n k =
    if n == ns && (nat_le offset k && nat_lt k (offset + length bytes)) then slice_index bytes (k - offset) else memory n k

-- the range of this index, counted from 0; one without bytes where there is none
abbrev pub range_at : List MemRange → ℕ → MemRange
range_at ranges index = slice_index_or ranges index (record { ns = 0; at = 0; len = 0; access = ReadOnly })

-- the lengths of ranges, in bytes
abbrev pub lengths_of : List MemRange → List ℕ
lengths_of ranges = map (λ (range : MemRange). range.len) ranges

-- whether a program may store into bytes of this access
abbrev pub allows_writing : Access → Bool
allows_writing ReadOnly = false
allows_writing ReadWrite = true

-- which of the ranges are read-write
abbrev pub read_write_of : List MemRange → List Bool
read_write_of ranges = map (λ (range : MemRange). allows_writing range.access) ranges

-- the bytes of each range
abbrev pub windows_of : Memory → List MemRange → List (List ℕ)
windows_of memory ranges = map (λ (range : MemRange). bytes_from memory range.ns range.at range.len) ranges

-- whether a byte of a namespace lies in a range
abbrev pub LiesIn : MemRange → ℕ → ℕ → Type 0
LiesIn range ns offset = (k : ℕ) × (k < range.len) × (range.ns ≡ ns) × (range.at + k ≡ offset)

-- whether a byte of a namespace lies in one of the ranges
abbrev pub CoversByte : List MemRange → ℕ → ℕ → Type 0
CoversByte ranges ns offset = (index : ℕ) × LiesIn (range_at ranges index) ns offset

-- whether a byte of a namespace lies in one of the read-write ranges
abbrev pub CoversForWriting : List MemRange → ℕ → ℕ → Type 0
CoversForWriting ranges ns offset =
    (index : ℕ) × IsTrue (allows_writing (range_at ranges index).access) × LiesIn (range_at ranges index) ns offset

-- no two of the ranges have a byte in common
abbrev pub AreApart : List MemRange → Type 0
AreApart ranges =
    AllPairs (λ (r s : MemRange). (k l : ℕ) → k < r.len → l < s.len → r.ns ≡ s.ns → r.at + k ≢ s.at + l) ranges
