-- The bytes that a program may touch. This project's own.
use Rattle.std.specs.Prelude.{ℕ, ◌-◌, ◌^◌, Bool, List, [], length, map, slice_get, slice_set, Option, Some, None, option_map, unwrap_or}
use Rattle.byteorder.specs.Endian.{little_number, little_bytes}
use Rattle.cp_base.specs.Pieces.{piece, patched}
use Rattle.bpf_isa.specs.Size.{byte_count}
use Rattle.bpf_isa.specs.declared.operand.Size.{Size}
use Rattle.bpf_model.specs.Address.{resolve, resolve_to_write}
use Rattle.bpf_model.specs.declared.addresses.Location.{Location}
use Rattle.bpf_model.specs.declared.addresses.Location.TheVariants.{InRange, InStack, Nowhere}
use Rattle.confined_view.specs.declared.window.Window.{Window}

-- the bytes of each range in order of the ranges, which of the ranges are read-write, and the bytes of the stack
pub record Touched : Type 0 where
  pub windows : List (List ℕ)
  pub writable : List Bool
  pub stack : List ℕ

-- the bytes of windows
abbrev pub window_bytes : List Window → List (List ℕ)
window_bytes windows = map (λ (window : Window). window.bytes.items) windows

-- which windows are writable
abbrev pub writable_windows : List Window → List Bool
writable_windows windows = map (λ (window : Window). window.writable) windows

-- the bytes of the range of this index, and none where there is no such range
abbrev pub window : Touched → ℕ → List ℕ
window t index = unwrap_or (slice_get t.windows index) []

-- so many bytes at a location; none where it is nowhere
abbrev pub view_bytes : Touched → Location → ℕ → Option (List ℕ)
view_bytes t (InRange index offset) n = Some (piece (window t index) offset n)
view_bytes t (InStack offset) n = Some (piece t.stack offset n)
view_bytes t Nowhere n = None

-- these bytes put over those at a location; none where it is nowhere
abbrev pub view_patched : Touched → Location → List ℕ → Option Touched
view_patched t (InRange index offset) bytes =
    Some (record t { windows = slice_set t.windows index (patched (window t index) offset bytes) })
view_patched t (InStack offset) bytes = Some (record t { stack = patched t.stack offset bytes })
view_patched t Nowhere bytes = None

-- the number at an address, in little-endian order; none where the access has no location for reading
abbrev pub view_loaded : Touched → ℕ → Size → Option ℕ
view_loaded t at size =
    let n = byte_count size in
    option_map (λ bytes. little_number n bytes) (view_bytes t (resolve (map length t.windows) at n) n)

-- the low bytes of a value put at an address, in little-endian order; none where the access has no location for writing
abbrev pub view_stored : Touched → ℕ → Size → ℕ → Option Touched
view_stored t at size value =
    let n = byte_count size in
    view_patched t (resolve_to_write t.writable (map length t.windows) at n) (little_bytes n value)

-- the length of the range of this index, or the greatest number of 64 bits where there is none
abbrev pub view_range_len : Touched → ℕ → ℕ
view_range_len t index = unwrap_or (option_map length (slice_get t.windows index)) (2 ^ 64 - 1)
