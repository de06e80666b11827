-- Windows as the memory and the ranges of a machine: an access does the same to both.
use Rattle.std.proofs.Common.{◌≡◌, ℕ, zero, suc, ◌<◌, ◌≤◌, ◌+◌, ◌-◌, ◌^◌, Bool, true, false, List, [], ◌∷◌, ◌++◌, length, get_or, take, drop, set, map, Option, Some, None, refl, sym, ap, ◌∙◌, arith, inl, inr, length-take, length-drop, length-append, drop-cons, unwrap_or}
use mathlib.Core.Path.{fun_ext}
use Rattle.std.proofs.lemmas.Bool.{cases_lt, cases_eq}
use Rattle.std.proofs.lemmas.Option.{unwrap_or-slice_get, slice_get-map}
use Rattle.std.proofs.lemmas.List.{get_or-append_right, get_or_append_left, get_or-set_same, get_or-set_other, get_or-take, get_or-drop}
use Rattle.std.specs.Prelude.{if◌then◌else◌, slice_index, slice_get, option_map, option_and_then}
use Rattle.byteorder.specs.Endian.{little_number, little_bytes}
use Rattle.cp_base.specs.Pieces.{piece, patched}
use Rattle.cp_base.specs.declared.lists.Access.TheVariants.{ReadOnly}
use Rattle.cp_base.specs.declared.lists.MemRange.{MemRange}
use Rattle.bpf_isa.specs.Size.{byte_count}
use Rattle.bpf_isa.specs.declared.end.End.TheVariants.{BadAccess}
use Rattle.bpf_isa.specs.declared.operand.Size.{Size}
use Rattle.bpf_isa.specs.declared.operation.AtomicOp.{AtomicOp}
use Rattle.bpf_model.specs.Address.{resolve, for_writing, resolve_to_write}
use Rattle.bpf_model.specs.declared.addresses.Location.{Location}
use Rattle.bpf_model.specs.declared.addresses.Location.TheVariants.{InRange, InStack, Nowhere}
use Rattle.bpf_model.specs.Machine.{Machine, register, with_register}
use Rattle.bpf_model.specs.Memory.{Memory, bytes_from, overwritten, lengths_of, allows_writing, read_write_of}
use Rattle.bpf_model.specs.Step as step
use Rattle.bpf_model.specs.Step.{Effect, Goes, Ends, accessed, next}
use Rattle.bpf_model.specs.Value.{stored_by}
use Rattle.bpf_model.proofs.Alongside.{length-little_bytes, read_write-at}
use Rattle.bpf_model.proofs.Writing.{written-cases, written-inside, written-outside, resolve_from-inside, for_writing-range}
use Rattle.confined_view.specs.Touched as touched
use Rattle.confined_view.specs.Touched.{Touched, window}
use Rattle.bpf_exec.specs.Seen.{access_of, ranges_from, ranges_of, window_memory, machine_of}
use Rattle.bpf_exec.specs.declared.processor.Processor.{Processor}

-- ---- the ranges

-- a range without bytes
abbrev none : MemRange
none = record { ns = 0; at = 0; len = 0; access = ReadOnly }

pub lengths_from : (from : ℕ) (flags : List Bool) (ws : List (List ℕ)) → lengths_of (ranges_from from flags ws) ≡ map (length {A = ℕ}) ws
lengths_from from flags [] = refl
lengths_from from flags (w ∷ ws) = let rest = lengths_from (suc from) flags ws in ap (λ (ls : List ℕ). length w ∷ ls) rest

-- the range of a window of this index and length
abbrev pub seen_range : List Bool → ℕ → ℕ → MemRange
seen_range flags index len = record { ns = index; at = 0; len = len; access = access_of (get_or flags index false) }

pub range_from : (from : ℕ) (flags : List Bool) (ws : List (List ℕ)) (i : ℕ) (d : MemRange) → i < length ws
    → get_or (ranges_from from flags ws) i d ≡ seen_range flags (from + i) (length (get_or ws i []))
range_from from flags [] i d less = absurd (omega arith)
range_from from flags (w ∷ ws) zero d less = let e : from ≡ from + 0 = omega arith in ap (λ (n : ℕ). seen_range flags n (length w)) e
range_from from flags (w ∷ ws) (suc i) d less =
    let e : suc from + i ≡ from + suc i = omega arith in
    range_from (suc from) flags ws i d (omega arith) ∙ ap (λ (n : ℕ). seen_range flags n (length (get_or ws i []))) e

pub ranges_from-lengths : (from : ℕ) (flags : List Bool) (ws vs : List (List ℕ)) → map (length {A = ℕ}) ws ≡ map (length {A = ℕ}) vs
    → ranges_from from flags ws ≡ ranges_from from flags vs
ranges_from-lengths from flags [] [] e = refl
ranges_from-lengths from flags [] (v ∷ vs) e = cc
ranges_from-lengths from flags (w ∷ ws) [] e = cc
ranges_from-lengths from flags (w ∷ ws) (v ∷ vs) e =
    let here : length w ≡ length v = cc in
    let rest : map (length {A = ℕ}) ws ≡ map (length {A = ℕ}) vs = cc in
    ap (λ (n : ℕ). seen_range flags from n ∷ ranges_from (suc from) flags ws) here
    ∙ ap (λ (rs : List MemRange). seen_range flags from (length v) ∷ rs) (ranges_from-lengths (suc from) flags ws vs rest)

-- a range is read-write where its window is writable
allows_access : (flag : Bool) → allows_writing (access_of flag) ≡ flag
allows_access true = refl
allows_access false = refl

pub read_write_seen : (flags : List Bool) (ws : List (List ℕ)) (i : ℕ) → i < length ws → get_or (read_write_of (ranges_from 0 flags ws)) i false ≡ get_or flags i false
read_write_seen flags ws i less =
    read_write-at (ranges_from 0 flags ws) i
    ∙ (ap (λ (r : MemRange). allows_writing r.access) (range_from 0 flags ws i none less)
    ∙ (ap (λ (k : ℕ). allows_writing (access_of (get_or flags k false))) (omega arith) ∙ allows_access (get_or flags i false)))

window_is : (t : Touched) (i : ℕ) → window t i ≡ get_or t.windows i []
window_is t i = unwrap_or-slice_get t.windows i []

length_at : (ws : List (List ℕ)) (i : ℕ) → get_or (map (length {A = ℕ}) ws) i 0 ≡ length (get_or ws i [])
length_at [] zero = refl
length_at [] (suc i) = refl
length_at (w ∷ ws) zero = refl
length_at (w ∷ ws) (suc i) = length_at ws i

length-lengths : (ws : List (List ℕ)) → length (map (length {A = ℕ}) ws) ≡ length ws
length-lengths [] = refl
length-lengths (w ∷ ws) = ap suc (length-lengths ws)

-- the bytes of a place in a window are the window's
in_window : (t : Touched) (at n i offset : ℕ) → resolve (map (length {A = ℕ}) t.windows) at n ≡ InRange i offset
    → (i < length t.windows) × (offset + n ≤ length (get_or t.windows i []))
in_window t at n i offset e =
    let h = resolve_from-inside 0 (map (length {A = ℕ}) t.windows) at n i offset e in
    let k : h.0 ≡ i = omega arith in
    let count = length-lengths t.windows in
    let fits : offset + n ≤ get_or (map (length {A = ℕ}) t.windows) h.0 0 = h.2 in
    let less : h.0 < length (map (length {A = ℕ}) t.windows) = h.3 in
    let there : get_or (map (length {A = ℕ}) t.windows) h.0 0 ≡ length (get_or t.windows i []) =
    ap (λ (j : ℕ). get_or (map (length {A = ℕ}) t.windows) j 0) k ∙ length_at t.windows i in
    (omega arith, omega arith)

-- ---- reads

pub piece_from : (ws : List (List ℕ)) (i offset n : ℕ) → offset + n ≤ length (get_or ws i [])
    → bytes_from (window_memory ws) i offset n ≡ piece (get_or ws i []) offset n
piece_from ws i offset zero room = refl
piece_from ws i offset (suc n) room =
    let w : List ℕ = get_or ws i [] in
    let e : offset + 1 ≡ suc offset = omega arith in
    let d : drop offset w ≡ get_or w offset 0 ∷ drop (suc offset) w = drop-cons w offset 0 (omega arith) in
    ap (λ (bs : List ℕ). get_or w offset 0 ∷ bs) (piece_from ws i (offset + 1) n (omega arith) ∙ ap (λ (o : ℕ). take n (drop o w)) e)
    ∙ sym (ap (λ (bs : List ℕ). take (suc n) bs) d)

bytes_seen : (p : Processor) (t : Touched) (place : Location) (at n : ℕ) → resolve (map (length {A = ℕ}) t.windows) at n ≡ place
    → step.bytes_at (machine_of p t) place n ≡ touched.view_bytes t place n
bytes_seen p t (InRange i offset) at n e =
    let room = in_window t at n i offset e in
    ap (λ (r : MemRange). Some (bytes_from (window_memory t.windows) r.ns (r.at + offset) n)) (range_from 0 t.writable t.windows i none room.0)
    ∙ (ap (λ (o : ℕ). Some (bytes_from (window_memory t.windows) (0 + i) o n)) (omega arith)
    ∙ (ap (λ (j : ℕ). Some (bytes_from (window_memory t.windows) j offset n)) (omega arith)
    ∙ (ap (λ (bs : List ℕ). Some bs) (piece_from t.windows i offset n room.1)
    ∙ ap (λ (w : List ℕ). Some (piece w offset n)) (sym (window_is t i)))))
bytes_seen p t (InStack offset) at n e = refl
bytes_seen p t Nowhere at n e = refl

-- a load from the machine is one from the windows and the stack
pub loaded_seen : (p : Processor) (t : Touched) (at : ℕ) (size : Size) → step.loaded (machine_of p t) at size ≡ touched.view_loaded t at size
loaded_seen p t at size =
    let n : ℕ = byte_count size in
    ap (λ (ls : List ℕ). option_map (λ bytes. little_number n bytes) (step.bytes_at (machine_of p t) (resolve ls at n) n)) (lengths_from 0 t.writable t.windows)
    ∙ ap (λ (o : Option (List ℕ)). option_map (λ bytes. little_number n bytes) o) (bytes_seen p t (resolve (map (length {A = ℕ}) t.windows) at n) at n refl)

-- ---- writes

length-patched : (w : List ℕ) (offset : ℕ) (bytes : List ℕ) → offset + length bytes ≤ length w → length (patched w offset bytes) ≡ length w
length-patched w offset bytes room =
    omega (arith, length-append (take offset w ++ bytes) (drop (offset + length bytes) w), length-append (take offset w) bytes, length-take offset w, length-drop (offset + length bytes) w)

patched_inside : (w : List ℕ) (offset : ℕ) (bytes : List ℕ) (d : ℕ) → offset + length bytes ≤ length w → d < length bytes
    → get_or (patched w offset bytes) (offset + d) 0 ≡ get_or bytes d 0
patched_inside w offset bytes d room less =
    let front : length (take offset w) ≡ offset = omega (arith, length-take offset w) in
    let both : offset + d < length (take offset w ++ bytes) = omega (arith, length-append (take offset w) bytes) in
    get_or_append_left (take offset w ++ bytes) (drop (offset + length bytes) w) 0 (offset + d) both
    ∙ get_or-append_right (take offset w) bytes offset (offset + d) 0 front (omega arith)
    ∙ ap (λ (i : ℕ). get_or bytes i 0) (omega arith)

patched_before : (w : List ℕ) (offset : ℕ) (bytes : List ℕ) (k : ℕ) → offset + length bytes ≤ length w → k < offset
    → get_or (patched w offset bytes) k 0 ≡ get_or w k 0
patched_before w offset bytes k room less =
    let front : k < length (take offset w) = omega (arith, length-take offset w) in
    let both : k < length (take offset w ++ bytes) = omega (arith, length-append (take offset w) bytes) in
    get_or_append_left (take offset w ++ bytes) (drop (offset + length bytes) w) 0 k both
    ∙ get_or_append_left (take offset w) bytes 0 k front
    ∙ get_or-take offset w k 0 less

patched_behind : (w : List ℕ) (offset : ℕ) (bytes : List ℕ) (k : ℕ) → offset + length bytes ≤ length w → offset + length bytes ≤ k
    → get_or (patched w offset bytes) k 0 ≡ get_or w k 0
patched_behind w offset bytes k room past =
    let n : ℕ = offset + length bytes in
    let both : length (take offset w ++ bytes) ≡ n = omega (arith, length-append (take offset w) bytes, length-take offset w) in
    get_or-append_right (take offset w ++ bytes) (drop n w) n k 0 both past
    ∙ get_or-drop n w (k - n) 0
    ∙ ap (λ (i : ℕ). get_or w i 0) (omega arith)

patched_other : (w : List ℕ) (offset : ℕ) (bytes : List ℕ) (k : ℕ) → offset + length bytes ≤ length w → ((d : ℕ) → d < length bytes → offset + d ≡ k → ⊥)
    → get_or (patched w offset bytes) k 0 ≡ get_or w k 0
patched_other w offset bytes k room out = elim (cases_lt k offset) [
  | inl before ↦ patched_before w offset bytes k room before
  | inr from ↦ elim (cases_lt k (offset + length bytes)) [
    | inl inside ↦ absurd (out (k - offset) (omega arith) (omega arith))
    | inr past ↦ patched_behind w offset bytes k room past
  ]
]

-- a write to a window is one to the memory
memory_patched : (ws : List (List ℕ)) (i offset : ℕ) (bytes : List ℕ) → i < length ws → offset + length bytes ≤ length (get_or ws i [])
    → overwritten (window_memory ws) i offset bytes ≡ window_memory (set ws i (patched (get_or ws i []) offset bytes))
memory_patched ws i offset bytes here room = fun_ext (λ ns. fun_ext (λ k. at_byte ns k))
  where
    at_byte : (ns k : ℕ) → overwritten (window_memory ws) i offset bytes ns k ≡ window_memory (set ws i (patched (get_or ws i []) offset bytes)) ns k
    at_byte ns k = elim (cases_eq ns i) [
      | inl same ↦
          let now : window_memory (set ws i (patched (get_or ws i []) offset bytes)) ns k ≡ get_or (patched (get_or ws i []) offset bytes) k 0 =
          ap (λ (w : List ℕ). get_or w k 0)
          (ap (λ (n : ℕ). get_or (set ws i (patched (get_or ws i []) offset bytes)) n []) same ∙ get_or-set_same ws i (patched (get_or ws i []) offset bytes) [] here) in
          elim (written-cases i offset (length bytes) ns k) [
            | inl w ↦
                written-inside (window_memory ws) i offset bytes ns k w.0 w.1 w.2 w.3
                ∙ sym (now ∙ (ap (λ (n : ℕ). get_or (patched (get_or ws i []) offset bytes) n 0) (sym w.3) ∙ patched_inside (get_or ws i []) offset bytes w.0 room w.1))
            | inr out ↦
                written-outside (window_memory ws) i offset bytes ns k out
                ∙ (ap (λ (n : ℕ). get_or (get_or ws n []) k 0) same
                ∙ sym (now ∙ patched_other (get_or ws i []) offset bytes k room (λ d less e. out d less same e)))
          ]
      | inr other ↦
          written-outside (window_memory ws) i offset bytes ns k (λ d less same e. other same)
          ∙ sym (ap (λ (w : List ℕ). get_or w k 0) (get_or-set_other ws i ns (patched (get_or ws i []) offset bytes) [] other))
    ]

lengths_set : (ws : List (List ℕ)) (i : ℕ) (w : List ℕ) → i < length ws → length w ≡ length (get_or ws i []) → map (length {A = ℕ}) (set ws i w) ≡ map (length {A = ℕ}) ws
lengths_set [] i w less e = absurd (omega arith)
lengths_set (v ∷ ws) zero w less e = ap (λ (n : ℕ). n ∷ map (length {A = ℕ}) ws) e
lengths_set (v ∷ ws) (suc i) w less e = ap (λ (ls : List ℕ). length v ∷ ls) (lengths_set ws i w (omega arith) e)

patched_seen : (p : Processor) (t : Touched) (place : Location) (at n : ℕ) (bytes : List ℕ) → length bytes ≡ n
    → resolve_to_write t.writable (map (length {A = ℕ}) t.windows) at n ≡ place
    → step.patched_at (machine_of p t) place bytes ≡ option_map (λ t'. machine_of p t') (touched.view_patched t place bytes)
patched_seen p t (InRange i offset) at n bytes len e =
    let room = in_window t at n i offset (for_writing-range t.writable (resolve (map (length {A = ℕ}) t.windows) at n) i offset e).0 in
    let ws : List (List ℕ) = t.windows in
    let new : List (List ℕ) = set ws i (patched (get_or ws i []) offset bytes) in
    let put : List MemRange → Memory → Option Machine = λ rs memory. Some (record (machine_of p t) { ranges = rs; memory = memory }) in
    ap (λ (r : MemRange). put (ranges_of t) (overwritten (window_memory ws) r.ns (r.at + offset) bytes)) (range_from 0 t.writable ws i none room.0)
    ∙ (ap (λ (o : ℕ). put (ranges_of t) (overwritten (window_memory ws) (0 + i) o bytes)) (omega arith)
    ∙ (ap (λ (j : ℕ). put (ranges_of t) (overwritten (window_memory ws) j offset bytes)) (omega arith)
    ∙ (ap (λ (memory : Memory). put (ranges_of t) memory) (memory_patched ws i offset bytes room.0 (omega arith))
    ∙ (ap (λ (rs : List MemRange). put rs (window_memory new))
    (sym (ranges_from-lengths 0 t.writable new ws (lengths_set ws i (patched (get_or ws i []) offset bytes) room.0 (length-patched (get_or ws i []) offset bytes (omega arith)))))
    ∙ ap (λ (w : List ℕ). Some (machine_of p (record t { windows = set ws i (patched w offset bytes) }))) (sym (window_is t i))))))
patched_seen p t (InStack offset) at n bytes len e = refl
patched_seen p t Nowhere at n bytes len e = refl

-- a location for writing among the ranges is one among the windows
writing_seen : (t : Touched) (at n : ℕ) (place : Location) → resolve (map (length {A = ℕ}) t.windows) at n ≡ place
    → for_writing (read_write_of (ranges_of t)) place ≡ for_writing t.writable place
writing_seen t at n (InRange i offset) e =
    ap (λ (flag : Bool). if flag then InRange i offset else Nowhere) (read_write_seen t.writable t.windows i (in_window t at n i offset e).0)
writing_seen t at n (InStack offset) e = refl
writing_seen t at n Nowhere e = refl

-- a store to the machine is one to the windows and the stack
pub stored_seen : (p : Processor) (t : Touched) (at : ℕ) (size : Size) (value : ℕ)
    → step.stored (machine_of p t) at size value ≡ option_map (λ t'. machine_of p t') (touched.view_stored t at size value)
stored_seen p t at size value =
    let n : ℕ = byte_count size in
    let low : List ℕ = little_bytes n value in
    ap (λ (ls : List ℕ). step.patched_at (machine_of p t) (resolve_to_write (read_write_of (ranges_of t)) ls at n) low) (lengths_from 0 t.writable t.windows)
    ∙ (ap (λ (l : Location). step.patched_at (machine_of p t) l low) (writing_seen t at n (resolve (map (length {A = ℕ}) t.windows) at n) refl)
    ∙ patched_seen p t (resolve_to_write t.writable (map (length {A = ℕ}) t.windows) at n) at n low (length-little_bytes size value) refl)

-- ---- what the accesses of the code do

pub helper_seen : (p : Processor) (t : Touched) (i : ℕ) → touched.view_range_len t i ≡ step.length_of_range (machine_of p t) i
helper_seen p t i =
    ap (λ (o : Option ℕ). unwrap_or o (2 ^ 64 - 1)) (sym (slice_get-map (length {A = ℕ}) t.windows i) ∙ ap (λ (ls : List ℕ). slice_get ls i) (sym (lengths_from 0 t.writable t.windows)))

pub load_done : (p p' : Processor) (t : Touched) (at : ℕ) (size : Size) (dst : ℕ) (f : ℕ → ℕ) (n : ℕ)
    → Some n ≡ touched.view_loaded t at size → machine_of p' t ≡ with_register (machine_of p t) dst (f n)
    → step.load_number (machine_of p t) at size dst f ≡ next (machine_of p' t)
load_done p p' t at size dst f n e did =
    ap (λ (o : Option ℕ). accessed (machine_of p t) (option_map (λ k. next (with_register (machine_of p t) dst (f k))) o)) (loaded_seen p t at size ∙ sym e)
    ∙ ap next (sym did)

pub load_failed : (p : Processor) (t : Touched) (at : ℕ) (size : Size) (dst : ℕ) (f : ℕ → ℕ) → None ≡ touched.view_loaded t at size
    → step.load_number (machine_of p t) at size dst f ≡ Ends (BadAccess p.place)
load_failed p t at size dst f e =
    ap (λ (o : Option ℕ). accessed (machine_of p t) (option_map (λ k. next (with_register (machine_of p t) dst (f k))) o)) (loaded_seen p t at size ∙ sym e)

pub store_done : (p : Processor) (t t' : Touched) (at : ℕ) (size : Size) (value : ℕ) → touched.view_stored t at size value ≡ Some t'
    → step.store_number (machine_of p t) at size value ≡ next (machine_of p t')
store_done p t t' at size value e =
    ap (λ (o : Option Machine). accessed (machine_of p t) (option_map next o)) (stored_seen p t at size value ∙ ap (λ (o : Option Touched). option_map (λ x. machine_of p x) o) e)

pub store_failed : (p : Processor) (t : Touched) (at : ℕ) (size : Size) (value : ℕ) → touched.view_stored t at size value ≡ None
    → step.store_number (machine_of p t) at size value ≡ Ends (BadAccess p.place)
store_failed p t at size value e =
    ap (λ (o : Option Machine). accessed (machine_of p t) (option_map next o)) (stored_seen p t at size value ∙ ap (λ (o : Option Touched). option_map (λ x. machine_of p x) o) e)

module _ (p : Processor) (t : Touched) (op : AtomicOp) (at : ℕ) (size : Size) (source : ℕ) (fetch : ℕ → Machine → Machine) where
  pub update_done : (t' : Touched) (old new : ℕ) → Some old ≡ touched.view_loaded t at size → new ≡ stored_by op size old source (slice_index p.registers 0)
      → touched.view_stored t at size new ≡ Some t' → step.atomic_access (machine_of p t) op at size source fetch ≡ next (fetch old (machine_of p t'))
  update_done t' old new e value did =
      let m : Machine = machine_of p t in
      ap (λ (o : Option ℕ). accessed m (option_and_then (λ n. option_map (λ m'. next (fetch n m')) (step.stored m at size (stored_by op size n source (register m 0)))) o)) (loaded_seen p t at size ∙ sym e)
      ∙ (ap (λ (n : ℕ). accessed m (option_map (λ m'. next (fetch old m')) (step.stored m at size n))) (sym value)
      ∙ ap (λ (o : Option Machine). accessed m (option_map (λ m'. next (fetch old m')) o)) (stored_seen p t at size new ∙ ap (λ (o : Option Touched). option_map (λ x. machine_of p x) o) did))

  pub update_unread : None ≡ touched.view_loaded t at size → step.atomic_access (machine_of p t) op at size source fetch ≡ Ends (BadAccess p.place)
  update_unread e =
      let m : Machine = machine_of p t in
      ap (λ (o : Option ℕ). accessed m (option_and_then (λ n. option_map (λ m'. next (fetch n m')) (step.stored m at size (stored_by op size n source (register m 0)))) o)) (loaded_seen p t at size ∙ sym e)

  pub update_unwritten : (old new : ℕ) → Some old ≡ touched.view_loaded t at size → new ≡ stored_by op size old source (slice_index p.registers 0)
      → touched.view_stored t at size new ≡ None → step.atomic_access (machine_of p t) op at size source fetch ≡ Ends (BadAccess p.place)
  update_unwritten old new e value did =
      let m : Machine = machine_of p t in
      ap (λ (o : Option ℕ). accessed m (option_and_then (λ n. option_map (λ m'. next (fetch n m')) (step.stored m at size (stored_by op size n source (register m 0)))) o)) (loaded_seen p t at size ∙ sym e)
      ∙ (ap (λ (n : ℕ). accessed m (option_map (λ m'. next (fetch old m')) (step.stored m at size n))) (sym value)
      ∙ ap (λ (o : Option Machine). accessed m (option_map (λ m'. next (fetch old m')) o)) (stored_seen p t at size new ∙ ap (λ (o : Option Touched). option_map (λ x. machine_of p x) o) did))
