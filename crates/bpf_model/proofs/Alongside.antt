-- Two machines that differ in their ranges and in their memories alone, where the ranges are of the same lengths and
-- accesses and hold the same bytes: each step does the same to both, and leaves all bytes outside the read-write ranges.
use Rattle.std.proofs.Common.{◌≡◌, ℕ, zero, suc, ◌<◌, ◌≤◌, ◌*◌, ◌+◌, ◌-◌, ◌^◌, Bool, true, false, ℤ, pos, ◌+ℤ◌, List, [], ◌∷◌, ◌++◌, take, drop, length, slice_index, Option, Some, None, refl, sym, ap, subst, ◌∙◌, arith, inl, inr}
use Rattle.std.proofs.Math.ListN.{get_or-map}
use Rattle.std.specs.Int.{bytes_low_first}
use Rattle.std.specs.Prelude.{IsTrue, nat_lt, if◌then◌else◌, option_map, option_and_then, unwrap_or, slice_get, slice_index_or}
use Rattle.std.specs.Option.{option_map_or}
use Rattle.byteorder.specs.Endian.{little_number, little_bytes}
use Rattle.cp_base.specs.declared.lists.Access.TheVariants.{ReadOnly}
use Rattle.cp_base.specs.declared.lists.MemRange.{MemRange}
use Rattle.bpf_isa.specs.Size.{byte_count}
use Rattle.bpf_isa.specs.declared.end.End.{End}
use Rattle.bpf_isa.specs.declared.end.End.TheVariants.{Exit, BadAccess, BadJump, CallDepth}
use Rattle.bpf_isa.specs.declared.insn.Insn.{Insn}
use Rattle.bpf_isa.specs.declared.insn.Insn.TheVariants as insn
use Rattle.bpf_isa.specs.declared.operand.Size.{Size}
use Rattle.bpf_isa.specs.declared.operation.AluOp.TheVariants as alu
use Rattle.bpf_isa.specs.declared.operation.AtomicOp.{AtomicOp}
use Rattle.bpf_isa.specs.declared.operation.AtomicOp.TheVariants as atomic
use Rattle.bpf_isa.specs.declared.operation.SwapOp.TheVariants as swap
use Rattle.bpf_model.specs.declared.frames.SavedFrame.{SavedFrame}
use Rattle.bpf_model.specs.Address.{Location, InRange, InStack, Nowhere, resolve, resolve_to_write}
use Rattle.bpf_model.specs.Machine.{Machine, register, with_register, frame_pointer, deepest_frame}
use Rattle.bpf_model.specs.Memory.{Memory, overwritten, range_at, lengths_of, allows_writing, read_write_of, HoldsBytes, CoversForWriting}
use Rattle.bpf_model.specs.Outcome.{RunOutcome, outcome_from, outcome_after}
use Rattle.bpf_model.specs.Step.{Effect, Goes, Ends, Program, Step, Continues, Stops, next, jump, width_in_bits, address, bytes_at, patched_at, loaded, stored, accessed, load_number, store_number, atomic_access, length_of_range, call, return_to, effect, start_at, settled, step}
use Rattle.bpf_model.specs.Value.{value_of, compares, swapped, stored_by, sign_extended, unsigned}
use Rattle.bpf_model.proofs.Writing.{written-cases, written-inside, written-outside, bytes_from-same, resolve_from-inside, for_writing-range, AreSmall, little_bytes-small, written-bytes}

-- the lengths of ranges, at an index
pub range_at-len : (r : List MemRange) (i : ℕ) → slice_index (lengths_of r) i ≡ (range_at r i).len
range_at-len r i = get_or-map (λ (range : MemRange). range.len) r i (record { ns = 0; at = 0; len = 0; access = ReadOnly })

-- whether the range of an index is read-write
pub read_write-at : (r : List MemRange) (i : ℕ) → slice_index_or (read_write_of r) i false ≡ allows_writing (range_at r i).access
read_write-at r i = get_or-map (λ (range : MemRange). allows_writing range.access) r i (record { ns = 0; at = 0; len = 0; access = ReadOnly })

length-bytes_low_first : (i k n : ℕ) → length (bytes_low_first i k n) ≡ k
length-bytes_low_first i zero n = refl
length-bytes_low_first i (suc k) n = ap suc (length-bytes_low_first (suc i) k n)

pub length-little_bytes : (size : Size) (value : ℕ) → length (little_bytes (byte_count size) value) ≡ byte_count size
length-little_bytes size value = length-bytes_low_first 0 (byte_count size) value

-- ranges of the same lengths and accesses, where two bytes of ranges are one byte in both lists or in none
pub record Alike (r s : List MemRange) : Type 0 where
  pub lengths : lengths_of r ≡ lengths_of s
  pub read_write : read_write_of r ≡ read_write_of s
  pub there : (i j k l : ℕ) → k < (range_at r i).len → l < (range_at r j).len → (range_at r i).ns ≡ (range_at r j).ns
      → (range_at r i).at + k ≡ (range_at r j).at + l → ((range_at s i).ns ≡ (range_at s j).ns) × ((range_at s i).at + k ≡ (range_at s j).at + l)
  pub back : (i j k l : ℕ) → k < (range_at r i).len → l < (range_at r j).len → (range_at s i).ns ≡ (range_at s j).ns
      → (range_at s i).at + k ≡ (range_at s j).at + l → ((range_at r i).ns ≡ (range_at r j).ns) × ((range_at r i).at + k ≡ (range_at r j).at + l)

-- two memories hold the same bytes in the ranges
abbrev pub Agree : List MemRange → List MemRange → Memory → Memory → Type 0
Agree r s a b = (i k : ℕ) → k < (range_at r i).len → a (range_at r i).ns ((range_at r i).at + k) ≡ b (range_at s i).ns ((range_at s i).at + k)

-- two memories have become others that agree, and the first holds what it held outside the read-write ranges, and bytes
-- where it held bytes
pub record Kept (r s : List MemRange) (a b a' b' : Memory) : Type 0 where
  pub agree : Agree r s a' b'
  pub rest : (ns offset : ℕ) → (CoversForWriting r ns offset → ⊥) → a' ns offset ≡ a ns offset
  pub bytes : HoldsBytes a → HoldsBytes a'

-- a machine with other ranges and another memory
abbrev pub put : Machine → List MemRange → Memory → Machine
put m r a = record m { ranges = r; memory = a }

-- two effects, of the two machines
pub data Along (r s : List MemRange) (a b : Memory) : Effect → Effect → Type 0 where
  go : (m : Machine) (t : ℤ) (a' b' : Memory) → Kept r s a b a' b' → Along r s a b (Goes (put m r a') t) (Goes (put m s b') t)
  ended : (e : End) → Along r s a b (Ends e) (Ends e)

-- two machines after a store
pub data StoredAlong (r s : List MemRange) (a b : Memory) : Option Machine → Option Machine → Type 0 where
  did : (m : Machine) (a' b' : Memory) → Kept r s a b a' b' → StoredAlong r s a b (Some (put m r a')) (Some (put m s b'))
  not_done : StoredAlong r s a b None None

-- two steps
pub data StepAlong (r s : List MemRange) (a b : Memory) : Step → Step → Type 0 where
  continued : (m : Machine) (a' b' : Memory) → Kept r s a b a' b' → StepAlong r s a b (Continues (put m r a')) (Continues (put m s b'))
  stopped : (e : End) (a' b' : Memory) → Kept r s a b a' b' → StepAlong r s a b (Stops e a') (Stops e b')

-- two outcomes
pub record OutcomeAlong (r s : List MemRange) (a b : Memory) (x y : RunOutcome) : Type 0 where
  pub ending : x.ending ≡ y.ending
  pub kept : Kept r s a b x.memory y.memory

same-kept : (r s : List MemRange) (a b : Memory) → Agree r s a b → Kept r s a b a b
same-kept r s a b agree = record { agree = agree; rest = λ ns offset out. refl; bytes = λ h. h }

then-kept : (r s : List MemRange) (a b a' b' a'' b'' : Memory) → Kept r s a b a' b' → Kept r s a' b' a'' b'' → Kept r s a b a'' b''
then-kept r s a b a' b' a'' b'' first second = record {
  agree = second.agree;
  rest = λ ns offset out. second.rest ns offset out ∙ first.rest ns offset out;
  bytes = λ h. second.bytes (first.bytes h);
}

module _ (r s : List MemRange) (a b : Memory) (alike : Alike r s) (agree : Agree r s a b) where
  -- where the bytes of a place in a range lie
  inside : (at n index offset : ℕ) → resolve (lengths_of r) at n ≡ InRange index offset → offset + n ≤ (range_at r index).len
  inside at n index offset e =
      let h = resolve_from-inside 0 (lengths_of r) at n index offset e in
      let same : h.0 ≡ index = omega arith in
      let len : slice_index (lengths_of r) index ≡ (range_at r index).len = range_at-len r index in
      let it : slice_index (lengths_of r) h.0 ≡ slice_index (lengths_of r) index = ap (λ (i : ℕ). slice_index (lengths_of r) i) same in
      let fits : offset + n ≤ slice_index (lengths_of r) h.0 = h.2 in
      omega arith

  -- a read gives the same
  bytes-along : (m : Machine) (p : Location) (at n : ℕ) → resolve (lengths_of r) at n ≡ p → bytes_at (put m r a) p n ≡ bytes_at (put m s b) p n
  bytes-along m (InRange index offset) at n e =
      let room : offset + n ≤ (range_at r index).len = inside at n index offset e in
      ap (λ (bytes : List ℕ). Some bytes)
      (bytes_from-same a b (range_at r index).ns ((range_at r index).at + offset) (range_at s index).ns ((range_at s index).at + offset) n
      (λ k less. ap (λ (i : ℕ). a (range_at r index).ns i) (omega arith)
      ∙ (agree index (offset + k) (omega arith) ∙ ap (λ (i : ℕ). b (range_at s index).ns i) (omega arith))))
  bytes-along m (InStack offset) at n e = refl
  bytes-along m Nowhere at n e = refl

  -- a write does the same
  written-kept : (index offset : ℕ) (bytes : List ℕ) → IsTrue (allows_writing (range_at r index).access) → offset + length bytes ≤ (range_at r index).len → AreSmall bytes
      → Kept r s a b (overwritten a (range_at r index).ns ((range_at r index).at + offset) bytes) (overwritten b (range_at s index).ns ((range_at s index).at + offset) bytes)
  written-kept index offset bytes writable room small =
      record { agree = agreed; rest = outside; bytes = λ h. written-bytes a (range_at r index).ns ((range_at r index).at + offset) bytes h small }
    where
      agreed : (i k : ℕ) → k < (range_at r i).len → overwritten a (range_at r index).ns ((range_at r index).at + offset) bytes (range_at r i).ns ((range_at r i).at + k)
          ≡ overwritten b (range_at s index).ns ((range_at s index).at + offset) bytes (range_at s i).ns ((range_at s i).at + k)
      agreed i k less = elim (written-cases (range_at r index).ns ((range_at r index).at + offset) (length bytes) (range_at r i).ns ((range_at r i).at + k)) [
        | inl w ↦
            let d : ℕ = w.0 in
            let d_less : d < length bytes = w.1 in
            let there : (range_at r i).at + k ≡ (range_at r index).at + (offset + d) = omega (arith, w.3) in
            let m = alike.there i index k (offset + d) less (omega arith) w.2 there in
            written-inside a (range_at r index).ns ((range_at r index).at + offset) bytes (range_at r i).ns ((range_at r i).at + k) d w.1 w.2 w.3
            ∙ sym (written-inside b (range_at s index).ns ((range_at s index).at + offset) bytes (range_at s i).ns ((range_at s i).at + k) d w.1 m.0 (omega (arith, m.1)))
        | inr out ↦
            written-outside a (range_at r index).ns ((range_at r index).at + offset) bytes (range_at r i).ns ((range_at r i).at + k) out
            ∙ (agree i k less
            ∙ sym (written-outside b (range_at s index).ns ((range_at s index).at + offset) bytes (range_at s i).ns ((range_at s i).at + k)
            (λ d d_less same there.
            let m = alike.back i index k (offset + d) less (omega arith) same (omega arith) in
            out d d_less m.0 (omega (arith, m.1)))))
      ]

      outside : (ns k : ℕ) → (CoversForWriting r ns k → ⊥) → overwritten a (range_at r index).ns ((range_at r index).at + offset) bytes ns k ≡ a ns k
      outside ns k out = written-outside a (range_at r index).ns ((range_at r index).at + offset) bytes ns k
          (λ d d_less same there. out (index, writable, (offset + d, omega arith, sym same, omega arith)))

  patched-along : (m : Machine) (p : Location) (at n : ℕ) (bytes : List ℕ) → length bytes ≡ n → AreSmall bytes → resolve_to_write (read_write_of r) (lengths_of r) at n ≡ p
      → StoredAlong r s a b (patched_at (put m r a) p bytes) (patched_at (put m s b) p bytes)
  patched-along m (InRange index offset) at n bytes len small e =
      let w = for_writing-range (read_write_of r) (resolve (lengths_of r) at n) index offset e in
      let room : offset + n ≤ (range_at r index).len = inside at n index offset w.0 in
      did m (overwritten a (range_at r index).ns ((range_at r index).at + offset) bytes) (overwritten b (range_at s index).ns ((range_at s index).at + offset) bytes)
      (written-kept index offset bytes (sym (read_write-at r index) ∙ w.1) (omega arith) small)
  patched-along m (InStack offset) at n bytes len small e = did (record m { stack = _ }) a b (same-kept r s a b agree)
  patched-along m Nowhere at n bytes len small e = not_done

  loaded-along : (m : Machine) (at : ℕ) (size : Size) → loaded (put m r a) at size ≡ loaded (put m s b) at size
  loaded-along m at size =
      let n : ℕ = byte_count size in
      ap (λ (o : Option (List ℕ)). option_map (λ bytes. little_number n bytes) o)
      (bytes-along m (resolve (lengths_of r) at n) at n refl
      ∙ ap (λ (lengths : List ℕ). bytes_at (put m s b) (resolve lengths at n) n) alike.lengths)

  stored-along : (m : Machine) (at : ℕ) (size : Size) (value : ℕ) → StoredAlong r s a b (stored (put m r a) at size value) (stored (put m s b) at size value)
  stored-along m at size value =
      let n : ℕ = byte_count size in
      let low : List ℕ = little_bytes n value in
      subst (λ (lengths : List ℕ). StoredAlong r s a b (stored (put m r a) at size value) (patched_at (put m s b) (resolve_to_write (read_write_of s) lengths at n) low)) alike.lengths
      (subst (λ (rw : List Bool). StoredAlong r s a b (stored (put m r a) at size value) (patched_at (put m s b) (resolve_to_write rw (lengths_of r) at n) low)) alike.read_write
      (patched-along m (resolve_to_write (read_write_of r) (lengths_of r) at n) at n low (length-little_bytes size value) (little_bytes-small n value) refl))

  -- what an instruction does
  next-along : (m : Machine) → Along r s a b (next (put m r a)) (next (put m s b))
  next-along m = go m (pos (m.counter + 1)) a b (same-kept r s a b agree)

  jump-along : (m : Machine) (distance : ℤ) → Along r s a b (jump (put m r a) distance) (jump (put m s b) distance)
  jump-along m distance = go m (pos (m.counter + 1) +ℤ distance) a b (same-kept r s a b agree)

  branch-along : (m : Machine) (taken : Bool) (distance : ℤ)
      → Along r s a b (if taken then jump (put m r a) distance else next (put m r a)) (if taken then jump (put m s b) distance else next (put m s b))
  branch-along m true distance = jump-along m distance
  branch-along m false distance = next-along m

  load-along : (m : Machine) (at : ℕ) (size : Size) (dst : ℕ) (f : ℕ → ℕ) → Along r s a b (load_number (put m r a) at size dst f) (load_number (put m s b) at size dst f)
  load-along m at size dst f =
      subst (λ (o : Option ℕ). Along r s a b (load_number (put m r a) at size dst f) (accessed (put m s b) (option_map (λ n. next (with_register (put m s b) dst (f n))) o)))
      (loaded-along m at size) (by_number (loaded (put m r a) at size))
    where
      by_number : (o : Option ℕ) → Along r s a b (accessed (put m r a) (option_map (λ n. next (with_register (put m r a) dst (f n))) o))
          (accessed (put m s b) (option_map (λ n. next (with_register (put m s b) dst (f n))) o))
      by_number None = ended (BadAccess m.counter)
      by_number (Some n) = next-along (with_register m dst (f n))

  store-along : (m : Machine) (at : ℕ) (size : Size) (value : ℕ) → Along r s a b (store_number (put m r a) at size value) (store_number (put m s b) at size value)
  store-along m at size value = by_store (stored (put m r a) at size value) (stored (put m s b) at size value) (stored-along m at size value)
    where
      by_store : (x y : Option Machine) → StoredAlong r s a b x y → Along r s a b (accessed (put m r a) (option_map next x)) (accessed (put m s b) (option_map next y))
      by_store _ _ (did m' a' b' kept) = go m' (pos (m'.counter + 1)) a' b' kept
      by_store _ _ not_done = ended (BadAccess m.counter)

  atomic-along : (m : Machine) (op : AtomicOp) (at : ℕ) (size : Size) (source : ℕ) (fetch : ℕ → Machine → Machine)
      → ((old : ℕ) (m' : Machine) (q : List MemRange) (c : Memory) → fetch old (put m' q c) ≡ put (fetch old m') q c)
      → Along r s a b (atomic_access (put m r a) op at size source fetch) (atomic_access (put m s b) op at size source fetch)
  atomic-along m op at size source fetch keeps =
      subst (λ (o : Option ℕ). Along r s a b (atomic_access (put m r a) op at size source fetch)
      (accessed (put m s b) (option_and_then (λ old. option_map (λ m'. next (fetch old m')) (stored (put m s b) at size (stored_by op size old source (register m 0)))) o)))
      (loaded-along m at size) (by_number (loaded (put m r a) at size))
    where
      by_store : (old : ℕ) (x y : Option Machine) → StoredAlong r s a b x y
          → Along r s a b (accessed (put m r a) (option_map (λ m'. next (fetch old m')) x)) (accessed (put m s b) (option_map (λ m'. next (fetch old m')) y))
      by_store old _ _ (did m' a' b' kept) =
          subst (λ (x : Machine). Along r s a b (next x) (next (fetch old (put m' s b')))) (sym (keeps old m' r a'))
          (subst (λ (y : Machine). Along r s a b (next (put (fetch old m') r a')) (next y)) (sym (keeps old m' s b'))
          (go (fetch old m') (pos ((fetch old m').counter + 1)) a' b' kept))
      by_store old _ _ not_done = ended (BadAccess m.counter)

      by_number : (o : Option ℕ) → Along r s a b
          (accessed (put m r a) (option_and_then (λ old. option_map (λ m'. next (fetch old m')) (stored (put m r a) at size (stored_by op size old source (register m 0)))) o))
          (accessed (put m s b) (option_and_then (λ old. option_map (λ m'. next (fetch old m')) (stored (put m s b) at size (stored_by op size old source (register m 0)))) o))
      by_number None = ended (BadAccess m.counter)
      by_number (Some old) =
          let value : ℕ = stored_by op size old source (register m 0) in
          by_store old (stored (put m r a) at size value) (stored (put m s b) at size value) (stored-along m at size value)

  helper-along : (m : Machine) → Along r s a b (effect insn.CallHelper (put m r a)) (effect insn.CallHelper (put m s b))
  helper-along m =
      subst (λ (lengths : List ℕ). Along r s a b (effect insn.CallHelper (put m r a)) (next (with_register (put m s b) 0 (unwrap_or (slice_get lengths (register m 1)) (2 ^ 64 - 1)))))
      alike.lengths (next-along (with_register m 0 (length_of_range (put m r a) (register m 1))))

  call-along : (m : Machine) (distance : ℤ) → Along r s a b (call (put m r a) distance) (call (put m s b) distance)
  call-along m distance = by_depth (record (with_register m 10 (frame_pointer (length m.frames + 1))) {
    frames = record { registers = drop 6 m.registers; return_place = m.counter + 1 } ∷ m.frames;
  }) (nat_lt (length m.frames) deepest_frame)
    where
      by_depth : (m' : Machine) (shallow : Bool) → Along r s a b (if shallow then jump (put m' r a) distance else Ends (CallDepth m.counter))
          (if shallow then jump (put m' s b) distance else Ends (CallDepth m.counter))
      by_depth m' true = jump-along m' distance
      by_depth m' false = ended (CallDepth m.counter)

  return-along : (m : Machine) (frames : List SavedFrame) → Along r s a b (return_to (put m r a) frames) (return_to (put m s b) frames)
  return-along m [] = ended (Exit (register m 0))
  return-along m (frame ∷ frames) =
      go (record m { registers = take 6 m.registers ++ frame.registers; frames = frames }) (pos frame.return_place) a b (same-kept r s a b agree)

  effect-along : (i : Insn) (m : Machine) → Along r s a b (effect i (put m r a)) (effect i (put m s b))
  effect-along (insn.AluImm op wide dst imm) m = next-along (with_register m dst (value_of op (width_in_bits wide) (register m dst) (unsigned 64 imm)))
  effect-along (insn.AluReg op wide dst src) m = next-along (with_register m dst (value_of op (width_in_bits wide) (register m dst) (register m src)))
  effect-along (insn.DivImm op wide dst imm) m = next-along (with_register m dst (value_of op (width_in_bits wide) (register m dst) (unsigned 64 imm)))
  effect-along (insn.DivReg op wide dst src) m = next-along (with_register m dst (value_of op (width_in_bits wide) (register m dst) (register m src)))
  effect-along (insn.Neg wide dst) m = next-along (with_register m dst (value_of alu.Neg (width_in_bits wide) (register m dst) 0))
  effect-along (insn.MovImm wide dst imm) m = next-along (with_register m dst (value_of alu.Mov (width_in_bits wide) (register m dst) (unsigned 64 imm)))
  effect-along (insn.MovReg wide dst src) m = next-along (with_register m dst (value_of alu.Mov (width_in_bits wide) (register m dst) (register m src)))
  effect-along (insn.Movsx32 op dst src) m = next-along (with_register m dst (value_of op 32 (register m dst) (register m src)))
  effect-along (insn.Movsx64 op dst src) m = next-along (with_register m dst (value_of op 64 (register m dst) (register m src)))
  effect-along (insn.ToLittle bits dst) m = next-along (with_register m dst (swapped swap.ToLittle bits (register m dst)))
  effect-along (insn.ToBig bits dst) m = next-along (with_register m dst (swapped swap.ToBig bits (register m dst)))
  effect-along (insn.Swap bits dst) m = next-along (with_register m dst (swapped swap.Swap bits (register m dst)))
  effect-along (insn.Jump offset) m = jump-along m offset
  effect-along (insn.JumpLong imm) m = jump-along m imm
  effect-along (insn.BranchImm op wide dst offset imm) m = branch-along m (compares op (width_in_bits wide) (register m dst) (unsigned 64 imm)) offset
  effect-along (insn.BranchReg op wide dst src offset) m = branch-along m (compares op (width_in_bits wide) (register m dst) (register m src)) offset
  effect-along insn.CallHelper m = helper-along m
  effect-along (insn.CallLocal imm) m = call-along m imm
  effect-along insn.Exit m = return-along m m.frames
  effect-along (insn.LoadImm dst value) m = go (with_register m dst value) (pos (m.counter + 2)) a b (same-kept r s a b agree)
  effect-along (insn.Load size dst src offset) m = load-along m (address m src offset) size dst (λ n. n)
  effect-along (insn.LoadSigned size dst src offset) m = load-along m (address m src offset) size dst (λ n. sign_extended (8 * byte_count size) 64 n)
  effect-along (insn.StoreImm size dst offset imm) m = store-along m (address m dst offset) size (unsigned 64 imm)
  effect-along (insn.StoreReg size dst src offset) m = store-along m (address m dst offset) size (register m src)
  effect-along (insn.Atomic op size dst src offset) m = atomic-along m op (address m dst offset) size (register m src) (λ old m'. m') (λ old m' q c. refl)
  effect-along (insn.AtomicFetch op size dst src offset) m =
      atomic-along m op (address m dst offset) size (register m src) (λ old m'. with_register m' src old) (λ old m' q c. refl)
  effect-along (insn.CompareExchange size dst src offset) m =
      atomic-along m atomic.Cmpxchg (address m dst offset) size (register m src) (λ old m'. with_register m' 0 old) (λ old m' q c. refl)

  -- a step
  settled-along : (program : Program) (m : Machine) (x y : Effect) → Along r s a b x y → StepAlong r s a b (settled program (put m r a) x) (settled program (put m s b) y)
  settled-along program m _ _ (go m' t a' b' kept) = by_start (start_at program t)
    where
      by_start : (o : Option ℕ) → StepAlong r s a b (option_map_or (λ place. Continues (record (put m' r a') { counter = place })) o (Stops (BadJump m.counter) a'))
          (option_map_or (λ place. Continues (record (put m' s b') { counter = place })) o (Stops (BadJump m.counter) b'))
      by_start None = stopped (BadJump m.counter) a' b' kept
      by_start (Some place) = continued (record m' { counter = place }) a' b' kept
  settled-along program m _ _ (ended e) = stopped e a b (same-kept r s a b agree)

  step-along : (program : Program) (m : Machine) → StepAlong r s a b (step program (put m r a)) (step program (put m s b))
  step-along program m = by_insn (program m.counter)
    where
      by_insn : (o : Option Insn) → StepAlong r s a b (option_map_or (λ i. settled program (put m r a) (effect i (put m r a))) o (Stops (BadJump m.counter) a))
          (option_map_or (λ i. settled program (put m s b) (effect i (put m s b))) o (Stops (BadJump m.counter) b))
      by_insn None = stopped (BadJump m.counter) a b (same-kept r s a b agree)
      by_insn (Some i) = settled-along program m (effect i (put m r a)) (effect i (put m s b)) (effect-along i m)

-- a run
pub run-along : (program : Program) (r s : List MemRange) → Alike r s → (steps : ℕ) (m : Machine) (a b : Memory) → Agree r s a b
    → OutcomeAlong r s a b (outcome_from program steps (put m r a)) (outcome_from program steps (put m s b))
run-along program r s alike zero m a b agree = record { ending = refl; kept = same-kept r s a b agree }
run-along program r s alike (suc steps) m a b agree =
    by_step (step program (put m r a)) (step program (put m s b)) (step-along r s a b alike agree program m) (run-along program r s alike steps)
  where
    by_step : (x y : Step) → StepAlong r s a b x y
        → ((m : Machine) (a b : Memory) → Agree r s a b → OutcomeAlong r s a b (outcome_from program steps (put m r a)) (outcome_from program steps (put m s b)))
        → OutcomeAlong r s a b (outcome_after (λ m'. outcome_from program steps m') x) (outcome_after (λ m'. outcome_from program steps m') y)
    by_step _ _ (continued m' a' b' kept) later =
        let o = later m' a' b' kept.agree in
        record { ending = o.ending; kept = then-kept r s a b a' b' (outcome_from program steps (put m' r a')).memory (outcome_from program steps (put m' s b')).memory kept o.kept }
    by_step _ _ (stopped e a' b' kept) later = record { ending = refl; kept = kept }
