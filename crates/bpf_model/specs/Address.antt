-- Where the bytes of an access lie: how an address is resolved to a range of the set or to the stack.
-- The layout is this project's own.
use Rattle.std.specs.Prelude.{◌≡◌, ℕ, suc, ◌+◌, ◌-◌, ◌*◌, ◌^◌, ◌≤◌, Bool, false, IsTrue, nat_le, ◌&&◌, if◌then◌else◌, List, [], ◌∷◌, slice_get, slice_index_or, IsSomeAnd}
pub use Rattle.bpf_model.specs.declared.addresses.Location.{Location}
pub use Rattle.bpf_model.specs.declared.addresses.Location.TheVariants.{InRange, InStack, Nowhere}

-- the address of a range's first byte; ranges are counted from 0
abbrev pub range_start : ℕ → ℕ
range_start index = (index + 1) * 2 ^ 32

-- the address of the stack's first byte
abbrev pub stack_start : ℕ
stack_start = 2 ^ 48

-- how many bytes the stack has
abbrev pub stack_len : ℕ
stack_len = 4096

-- whether size bytes from an address on lie wholly within len bytes from start on
abbrev pub lies_within : ℕ → ℕ → ℕ → ℕ → Bool
lies_within start len address size = nat_le start address && nat_le (address + size) (start + len)

-- where size bytes from an address on lie, among ranges of these lengths that are counted from an index on,
-- and the stack
abbrev pub resolve_from : ℕ → List ℕ → ℕ → ℕ → Location
resolve_from index [] address size =
    if lies_within stack_start stack_len address size then InStack (address - stack_start) else Nowhere
resolve_from index (len ∷ lengths) address size =
    if lies_within (range_start index) len address size then InRange index (address - range_start index)
    else resolve_from (suc index) lengths address size

-- where size bytes from an address on lie, among ranges of these lengths and the stack
abbrev pub resolve : List ℕ → ℕ → ℕ → Location
resolve lengths address size = resolve_from 0 lengths address size

-- a location as one for writing: none in a range that is not read-write
abbrev pub for_writing : List Bool → Location → Location
for_writing read_write (InRange index offset) =
    if slice_index_or read_write index false then InRange index offset else Nowhere
for_writing read_write (InStack offset) = InStack offset
for_writing read_write Nowhere = Nowhere

-- where size bytes from an address on lie that are written, among ranges of these lengths, of which these are
-- read-write, and the stack
abbrev pub resolve_to_write : List Bool → List ℕ → ℕ → ℕ → Location
resolve_to_write read_write lengths address size = for_writing read_write (resolve lengths address size)

-- that size bytes from an address on lie at this location, among ranges of these lengths and the stack;
-- of no location nothing is said
abbrev pub LiesAt : List ℕ → ℕ → ℕ → Location → Type 0
LiesAt lengths address size (InRange index offset) =
    (range_start index + offset ≡ address) × IsSomeAnd (slice_get lengths index) (λ len. offset + size ≤ len)
LiesAt lengths address size (InStack offset) = (stack_start + offset ≡ address) × (offset + size ≤ stack_len)
LiesAt lengths address size Nowhere = Unit {0}

-- that a location is one for writing: in the stack, or in a read-write range; of no location nothing is said
abbrev pub IsForWriting : List Bool → Location → Type 0
IsForWriting read_write (InRange index offset) = IsTrue (slice_index_or read_write index false)
IsForWriting read_write (InStack offset) = Unit {0}
IsForWriting read_write Nowhere = Unit {0}
