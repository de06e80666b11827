-- The bytes of windows, read at their buffers.
use Rattle.std.proofs.Common.{◌≡◌, ℕ, ◌+◌, ◌<◌, ◌≤◌, ◌^◌, Bool, true, false, List, [], Option, Some, None, length, map, get_or, set, option_map, refl, sym, ap, ◌∙◌, subst, arith}
use Rattle.std.specs.Prelude.{if◌then◌else◌, slice_get, IsSomeAnd, All}
use Rattle.std.proofs.lemmas.List.{map-set, set-get_or, get_or-map, length-map}
use Rattle.std.proofs.lemmas.List.Elements.{All-map}
use Rattle.std.proofs.lemmas.Option.{slice_get_within, get_or_from_slice_get, unwrap_or-slice_get}
use Rattle.byteorder.specs.Endian.{little_number, little_bytes}
use Rattle.cp_base.specs.Pieces.{piece, patched}
use Rattle.bpf_isa.specs.Size.{byte_count}
use Rattle.bpf_isa.specs.declared.operand.Size.{Size}
use Rattle.bpf_model.specs.Address.{stack_len, resolve, for_writing, resolve_to_write, LiesAt}
use Rattle.bpf_model.specs.declared.addresses.Location.{Location}
use Rattle.bpf_model.specs.declared.addresses.Location.TheVariants.{InRange, InStack, Nowhere}
use Rattle.bpf_model.proofs.Address.{lies_there}
use Rattle.bpf_model.proofs.Writing.{for_writing-range, for_writing-stack}
use Rattle.confined_view.specs.Touched.{Touched, window_bytes, writable_windows, window, view_bytes, view_patched, view_loaded, view_stored}
use Rattle.confined_view.specs.declared.window.Window.{Window}

-- an item that is changed in nothing that a function reads leaves what it reads of the list
pub map-set_same : {A B : Type 0} (f : A → B) (xs : List A) (i : ℕ) (x d : A) → i < length xs → f x ≡ f (get_or xs i d) → map f (set xs i x) ≡ map f xs
map-set_same f xs i x d there same =
    map-set f xs i x ∙ ap (set (map f xs) i) (same ∙ sym (get_or-map f xs i d (f d) there)) ∙ set-get_or (map f xs) i (f d)

-- ---- the lengths of windows

pub count-lengths : (bs : List Window) → length (map length (window_bytes bs)) ≡ length bs
count-lengths bs = length-map (window_bytes bs) length ∙ length-map bs (λ (b : Window). b.bytes.items)

pub short_lengths : (bs : List Window) → All (λ w. length w < 2 ^ 32) (window_bytes bs) → All (λ len. len < 2 ^ 32) (map length (window_bytes bs))
short_lengths bs short = All-map (λ (len : ℕ). len < 2 ^ 32) length (window_bytes bs) short

-- the length of a window is that of the buffer there
pub length_at : (bs : List Window) (i : ℕ) (b : Window) → i < length bs → b ≡ get_or bs i b → get_or (map length (window_bytes bs)) i 0 ≡ length b.bytes.items
length_at bs i b there is =
    let inside : i < length (window_bytes bs) = omega (arith, length-map bs (λ (x : Window). x.bytes.items)) in
    get_or-map length (window_bytes bs) i [] 0 inside ∙ ap length (get_or-map (λ (x : Window). x.bytes.items) bs i b [] there ∙ ap (λ (x : Window). x.bytes.items) (sym is))

-- ---- an access to a window

-- a place in a range is in one of the windows
pub in_window : (bs : List Window) (a n i o : ℕ) → InRange i o ≡ resolve (map length (window_bytes bs)) a n → i < length bs
in_window bs a n i o e = by_len (slice_get (map length (window_bytes bs)) i) refl (subst (LiesAt (map length (window_bytes bs)) a n) (sym e) (lies_there (map length (window_bytes bs)) a n)).1
  where
    by_len : (len : Option ℕ) → slice_get (map length (window_bytes bs)) i ≡ len → IsSomeAnd len (λ l. o + n ≤ l) → i < length bs
    by_len None is fits = absurd fits
    by_len (Some len) is fits = let there = slice_get_within _ i len is in omega (arith, there, count-lengths bs)

-- it is within that window
pub fits_window : (bs : List Window) (a n i o : ℕ) (b : Window) → InRange i o ≡ resolve (map length (window_bytes bs)) a n → b ≡ get_or bs i b → o + n ≤ length b.bytes.items
fits_window bs a n i o b e is = by_len (slice_get (map length (window_bytes bs)) i) refl (subst (LiesAt (map length (window_bytes bs)) a n) (sym e) (lies_there (map length (window_bytes bs)) a n)).1
  where
    by_len : (len : Option ℕ) → slice_get (map length (window_bytes bs)) i ≡ len → IsSomeAnd len (λ l. o + n ≤ l) → o + n ≤ length b.bytes.items
    by_len None at fits = absurd fits
    by_len (Some len) at fits =
        let same = get_or_from_slice_get _ i len 0 at in
        let found = length_at bs i b (in_window bs a n i o e) is in
        omega (arith, same, found, fits)

-- a place in the stack is within it
pub fits_stack : (lengths : List ℕ) (a n o : ℕ) → InStack o ≡ resolve lengths a n → o + n ≤ stack_len
fits_stack lengths a n o e = (subst (LiesAt lengths a n) (sym e) (lies_there lengths a n)).1

-- a location for reading in a window that is writable is one for writing
pub to_write : (bs : List Window) (a n i o : ℕ) (b : Window) → InRange i o ≡ resolve (map length (window_bytes bs)) a n → b ≡ get_or bs i b → b.writable ≡ true
    → InRange i o ≡ resolve_to_write (writable_windows bs) (map length (window_bytes bs)) a n
to_write bs a n i o b e is writable =
    let flag : get_or (writable_windows bs) i false ≡ true =
    get_or-map (λ (x : Window). x.writable) bs i b false (in_window bs a n i o e) ∙ (ap (λ (x : Window). x.writable) (sym is) ∙ writable) in
    sym (ap (λ (t : Bool). if t then InRange i o else Nowhere) flag) ∙ ap (for_writing (writable_windows bs)) e

-- a location for writing in a range is one for reading
pub to_read : (bs : List Window) (a n i o : ℕ) → InRange i o ≡ resolve_to_write (writable_windows bs) (map length (window_bytes bs)) a n
    → InRange i o ≡ resolve (map length (window_bytes bs)) a n
to_read bs a n i o e = sym (for_writing-range (writable_windows bs) (resolve (map length (window_bytes bs)) a n) i o (sym e)).0

-- the same in the stack
pub stack_to_read : (bs : List Window) (a n o : ℕ) → InStack o ≡ resolve_to_write (writable_windows bs) (map length (window_bytes bs)) a n
    → InStack o ≡ resolve (map length (window_bytes bs)) a n
stack_to_read bs a n o e = sym (for_writing-stack (writable_windows bs) (resolve (map length (window_bytes bs)) a n) o (sym e))

-- the window is what the buffer there holds
window_at : (bs : List Window) (stack : List ℕ) (i : ℕ) (b : Window) → i < length bs → b ≡ get_or bs i b → window (record { windows = window_bytes bs; writable = writable_windows bs; stack = stack }) i ≡ b.bytes.items
window_at bs stack i b there is =
    unwrap_or-slice_get (window_bytes bs) i [] ∙ get_or-map (λ (x : Window). x.bytes.items) bs i b [] there ∙ ap (λ (x : Window). x.bytes.items) (sym is)

pub loaded_in_range : (bs : List Window) (stack : List ℕ) (a : ℕ) (size : Size) (i o : ℕ) (b : Window)
    → InRange i o ≡ resolve (map length (window_bytes bs)) a (byte_count size) → b ≡ get_or bs i b
    → view_loaded (record { windows = window_bytes bs; writable = writable_windows bs; stack = stack }) a size ≡ Some (little_number (byte_count size) (piece b.bytes.items o (byte_count size)))
loaded_in_range bs stack a size i o b e is =
    let t : Touched = record { windows = window_bytes bs; writable = writable_windows bs; stack = stack } in
    let n = byte_count size in
    ap (λ (p : Location). option_map (little_number n) (view_bytes t p n)) (sym e)
    ∙ ap (λ (bytes : List ℕ). Some (little_number n (piece bytes o n))) (window_at bs stack i b (in_window bs a n i o e) is)

-- which windows are writable, where one of them has other bytes
pub writable-set : (bs : List Window) (i : ℕ) (b b' : Window) → i < length bs → b ≡ get_or bs i b → b'.writable ≡ b.writable → writable_windows (set bs i b') ≡ writable_windows bs
writable-set bs i b b' there is same = map-set_same (λ (x : Window). x.writable) bs i b' b there (same ∙ ap (λ (x : Window). x.writable) is)

pub stored_in_range : (bs : List Window) (stack : List ℕ) (a : ℕ) (size : Size) (value i o : ℕ) (b b' : Window)
    → InRange i o ≡ resolve_to_write (writable_windows bs) (map length (window_bytes bs)) a (byte_count size) → b ≡ get_or bs i b → b'.writable ≡ b.writable
    → b'.bytes.items ≡ patched b.bytes.items o (little_bytes (byte_count size) value)
    → view_stored (record { windows = window_bytes bs; writable = writable_windows bs; stack = stack }) a size value
    ≡ Some (record { windows = window_bytes (set bs i b'); writable = writable_windows (set bs i b'); stack = stack })
stored_in_range bs stack a size value i o b b' e is same put =
    let t : Touched = record { windows = window_bytes bs; writable = writable_windows bs; stack = stack } in
    let n = byte_count size in
    let low = little_bytes n value in
    let there : i < length bs = in_window bs a n i o (to_read bs a n i o e) in
    let done : List ℕ → Option Touched = λ bytes. Some (record { windows = set (window_bytes bs) i bytes; writable = writable_windows bs; stack = stack }) in
    let shown : List (List ℕ) → List Bool → Option Touched = λ ws flags. Some (record { windows = ws; writable = flags; stack = stack }) in
    ap (λ (p : Location). view_patched t p low) (sym e)
    ∙ ap (λ (bytes : List ℕ). done (patched bytes o low)) (window_at bs stack i b there is)
    ∙ ap done (sym put)
    ∙ ap (λ (ws : List (List ℕ)). shown ws (writable_windows bs)) (sym (map-set (λ (x : Window). x.bytes.items) bs i b'))
    ∙ ap (shown (window_bytes (set bs i b'))) (sym (writable-set bs i b b' there is same))

-- a window that keeps its length leaves the lengths
pub lengths-set : (bs : List Window) (i : ℕ) (b b' : Window) → i < length bs → b ≡ get_or bs i b → length b'.bytes.items ≡ length b.bytes.items
    → map length (window_bytes (set bs i b')) ≡ map length (window_bytes bs)
lengths-set bs i b b' there is same =
    ap (map length) (map-set (λ (x : Window). x.bytes.items) bs i b')
    ∙ map-set_same length (window_bytes bs) i b'.bytes.items [] (omega (arith, length-map bs (λ (x : Window). x.bytes.items)))
    (same ∙ ap length (ap (λ (x : Window). x.bytes.items) is ∙ sym (get_or-map (λ (x : Window). x.bytes.items) bs i b [] there)))

-- windows of the same lengths are short too
pub still_short : (bs bs' : List Window) → map length (window_bytes bs') ≡ map length (window_bytes bs) → All (λ w. length w < 2 ^ 32) (window_bytes bs) → All (λ w. length w < 2 ^ 32) (window_bytes bs')
still_short bs bs' same short k d there =
    let listed : k < length (map length (window_bytes bs)) = omega (arith, ap length same, length-map (window_bytes bs') length) in
    let small : get_or (map length (window_bytes bs)) k 0 < 2 ^ 32 = short_lengths bs short k 0 listed in
    let here = get_or-map length (window_bytes bs') k d 0 there in
    let moved : get_or (map length (window_bytes bs')) k 0 ≡ get_or (map length (window_bytes bs)) k 0 = ap (λ (ls : List ℕ). get_or ls k 0) same in
    omega (arith, small, here, moved)
