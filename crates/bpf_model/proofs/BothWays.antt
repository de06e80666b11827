-- A place has a form exactly where the bytes there are the encoding of an allowed instruction.
use Rattle.std.proofs.Common.{◌≡◌, ℕ, ◌<◌, ◌≤◌, ◌*◌, ◌+◌, ◌/◌, ◌%◌, ◌^◌, ℤ, List, [], ◌∷◌, ◌++◌, length, drop, slice_index, get_or, Option, Some, None, refl, sym, ap, ◌∙◌, subst, arith, le-leb, get_or-drop, length-append, length-drop}
use Rattle.std.specs.Prelude.{FitsSigned, ◌⊎◌, All, option_and_then}
use Rattle.std.specs.Int.{w16, w32, to_le_bytes, from_le_bytes}
use Rattle.std.proofs.Common.{inl, inr}
use Rattle.std.proofs.lemmas.Bool.{cases_lt}
use Rattle.std.proofs.lemmas.Grind.{common_steps}
use Rattle.std.proofs.lemmas.List.{take-append-drop}
use Rattle.std.proofs.Math.Seq.{take-append_seam}
use Rattle.std.proofs.Math.Facts.{Fits-of_z, Fits-lt-pow}
use Rattle.bpf_isa.specs.declared.insn.Insn.{Insn}
use Rattle.bpf_isa.specs.declared.insn.Insn.TheVariants as insn
use Rattle.bpf_isa.specs.Width.{bits_of}
use Rattle.bpf_isa.specs.declared.operand.Width.{Width}
use Rattle.bpf_isa.specs.declared.operand.Width.TheVariants as width
use Rattle.bpf_isa.specs.declared.operation.AluOp.{AluOp}
use Rattle.bpf_isa.specs.declared.operation.AluOp.TheVariants as alu
use Rattle.bpf_isa.specs.declared.operation.AtomicOp.{AtomicOp}
use Rattle.bpf_isa.specs.declared.operation.AtomicOp.TheVariants as atomic
use Rattle.bpf_model.specs.declared.fields.Fields.{Fields}
use Rattle.bpf_model.specs.Form.{unit_fields, rows, row_insn, load_imm, is_writable, insn_of, first_form, form}
use Rattle.bpf_model.specs.Walk.{units_of}
use Rattle.bpf_model.specs.Encoding.{IsAllowed, IsEncodedAt, encoding, unit, alu_offset, alu_opcode, jump_opcode, access_opcode, atomic_code, offset_bits, imm_bits}
use Rattle.bpf_model.proofs.Tables.{InRange, Reads, ReadsWide, unit_of, read_as, row-some, EachRow, first_fit-some}
use Rattle.bpf_model.proofs.Read as read
use Rattle.bpf_model.proofs.Decoded as decoded

-- the bytes of a number read back
two : (c d : ℕ) → c < 256 → d < 256 → (from_le_bytes w16 (c ∷ d ∷ []) % 256 ≡ c) × (from_le_bytes w16 (c ∷ d ∷ []) / 256 % 256 ≡ d)
two c d p q = (omega arith, omega arith)

four : (a b c d : ℕ) → a < 256 → b < 256 → c < 256 → d < 256
    → (from_le_bytes w32 (a ∷ b ∷ c ∷ d ∷ []) % 256 ≡ a) × (from_le_bytes w32 (a ∷ b ∷ c ∷ d ∷ []) / 256 % 256 ≡ b)
    × (from_le_bytes w32 (a ∷ b ∷ c ∷ d ∷ []) / 65536 % 256 ≡ c) × (from_le_bytes w32 (a ∷ b ∷ c ∷ d ∷ []) / 16777216 % 256 ≡ d)
four a b c d p q r s = (omega arith, omega arith, omega arith, omega arith)

-- fields that were read are in range and give the bytes back
record Back (bytes : List ℕ) (f : Fields) : Type 0 where
  pub in_range : InRange f
  pub bytes_back : unit_of f ++ drop 8 bytes ≡ bytes

fields-back : (bytes : List ℕ) (f : Fields) → ((k : ℕ) → slice_index bytes k < 256) → unit_fields bytes ≡ Some f → Back bytes f
fields-back (a ∷ b ∷ c ∷ d ∷ e ∷ g ∷ h ∷ j ∷ rest) f small p =
    let a' : a < 256 = small 0 in
    let b' : b < 256 = small 1 in
    let c' : c < 256 = small 2 in
    let d' : d < 256 = small 3 in
    let e' : e < 256 = small 4 in
    let g' : g < 256 = small 5 in
    let h' : h < 256 = small 6 in
    let j' : j < 256 = small 7 in
    let same : read_as a (b % 16) (b / 16) (from_le_bytes w16 (c ∷ d ∷ [])) (from_le_bytes w32 (e ∷ g ∷ h ∷ j ∷ [])) ≡ f = cc p in
    let registers : 16 * (b / 16) + b % 16 ≡ b = omega arith in
    let offset = two c d c' d' in
    let imm = four e g h j e' g' h' j' in
    subst (Back (a ∷ b ∷ c ∷ d ∷ e ∷ g ∷ h ∷ j ∷ rest)) same (record {
      in_range = record { opcode = a'; dst = omega arith; src = omega arith; offset = omega arith; imm = omega arith };
      bytes_back = rw (registers, offset.0, offset.1, imm.0, imm.1, imm.2, imm.3) refl;
    })
fields-back _ f small p = cc

-- the fields of a unit are those that it was made of
unit_fields-unit : (o d s x m : ℕ) (rest : List ℕ) → d < 16 → x < 2 ^ 16 → m < 2 ^ 32 → unit_fields (unit o d s x m ++ rest) ≡ Some (read_as o d s x m)
unit_fields-unit o d s x m rest p q r =
    let dst : (16 * s + d) % 16 ≡ d = omega arith in
    let src : (16 * s + d) / 16 ≡ s = omega arith in
    let offset : from_le_bytes w16 (to_le_bytes w16 x) ≡ x = omega arith in
    let imm : from_le_bytes w32 (to_le_bytes w32 m) ≡ m = omega arith in
    rw (dst, src, offset, imm) refl

-- so a unit with the next one has the form of its fields
first_form-unit : (o d s x m : ℕ) (rest : List ℕ) → d < 16 → x < 2 ^ 16 → m < 2 ^ 32
    → first_form (unit o d s x m ++ rest) ≡ insn_of (read_as o d s x m) (unit_fields rest)
first_form-unit o d s x m rest p q r =
    ap (λ (f : Option Fields). option_and_then (λ g. insn_of g (unit_fields rest)) f) (unit_fields-unit o d s x m rest p q r)

-- an offset and an immediate fit their bits
offset-below : (z : ℤ) → FitsSigned w16 z → offset_bits z < 2 ^ 16
offset-below z f = Fits-lt-pow {w = w16} {n = offset_bits z} (Fits-of_z {w = w16} {z = z} f)

imm-below : (z : ℤ) → FitsSigned w32 z → imm_bits z < 2 ^ 32
imm-below z f = Fits-lt-pow {w = w32} {n = imm_bits z} (Fits-of_z {w = w32} {z = z} f)

-- small numbers fit theirs
alu_offset-below : (op : AluOp) → alu_offset op < 2 ^ 16
alu_offset-below alu.Sdiv = omega arith
alu_offset-below alu.Smod = omega arith
alu_offset-below alu.Movsx8 = omega arith
alu_offset-below alu.Movsx16 = omega arith
alu_offset-below alu.Movsx32 = omega arith
alu_offset-below _ = omega arith

bits_of-below : (w : Width) → bits_of w < 2 ^ 32
bits_of-below width.Bits16 = omega arith
bits_of-below width.Bits32 = omega arith
bits_of-below width.Bits64 = omega arith

atomic_code-below : (op : AtomicOp) → atomic_code op + 1 < 2 ^ 32
atomic_code-below atomic.Add = omega arith
atomic_code-below _ = omega arith

-- the bytes of an allowed instruction have its form
pub first_form-encoding : (i : Insn) (rest : List ℕ) → IsAllowed i → first_form (encoding i ++ rest) ≡ Some i
first_form-encoding (insn.AluImm op wide dst imm) rest a =
    first_form-unit (alu_opcode op 0 wide) dst 0 0 (imm_bits imm) rest (omega arith) (omega arith) (imm-below imm a.2)
    ∙ decoded.alu_imm op wide dst imm (unit_fields rest) a.0 (le-leb dst 9 a.1) a.2
first_form-encoding (insn.AluReg op wide dst src) rest a =
    first_form-unit (alu_opcode op 1 wide) dst src 0 0 rest (omega arith) (omega arith) (omega arith)
    ∙ decoded.alu_reg op wide dst src (unit_fields rest) a.0 (le-leb dst 9 a.1) (le-leb src 10 a.2)
first_form-encoding (insn.DivImm op wide dst imm) rest a =
    first_form-unit (alu_opcode op 0 wide) dst 0 (alu_offset op) (imm_bits imm) rest (omega arith) (alu_offset-below op) (imm-below imm a.2)
    ∙ decoded.div_imm op wide dst imm (unit_fields rest) a.0 (le-leb dst 9 a.1) a.2
first_form-encoding (insn.DivReg op wide dst src) rest a =
    first_form-unit (alu_opcode op 1 wide) dst src (alu_offset op) 0 rest (omega arith) (alu_offset-below op) (omega arith)
    ∙ decoded.div_reg op wide dst src (unit_fields rest) a.0 (le-leb dst 9 a.1) (le-leb src 10 a.2)
first_form-encoding (insn.Neg wide dst) rest a =
    first_form-unit (alu_opcode alu.Neg 0 wide) dst 0 0 0 rest (omega arith) (omega arith) (omega arith)
    ∙ decoded.neg wide dst (unit_fields rest) (le-leb dst 9 a)
first_form-encoding (insn.MovImm wide dst imm) rest a =
    first_form-unit (alu_opcode alu.Mov 0 wide) dst 0 0 (imm_bits imm) rest (omega arith) (omega arith) (imm-below imm a.1)
    ∙ decoded.mov_imm wide dst imm (unit_fields rest) (le-leb dst 9 a.0) a.1
first_form-encoding (insn.MovReg wide dst src) rest a =
    first_form-unit (alu_opcode alu.Mov 1 wide) dst src 0 0 rest (omega arith) (omega arith) (omega arith)
    ∙ decoded.mov_reg wide dst src (unit_fields rest) (le-leb dst 9 a.0) (le-leb src 10 a.1)
first_form-encoding (insn.Movsx32 op dst src) rest a =
    first_form-unit 0xbc dst src (alu_offset op) 0 rest (omega arith) (alu_offset-below op) (omega arith)
    ∙ decoded.movsx_32 op dst src (unit_fields rest) a.0 (le-leb dst 9 a.1) (le-leb src 10 a.2)
first_form-encoding (insn.Movsx64 op dst src) rest a =
    first_form-unit 0xbf dst src (alu_offset op) 0 rest (omega arith) (alu_offset-below op) (omega arith)
    ∙ decoded.movsx_64 op dst src (unit_fields rest) a.0 (le-leb dst 9 a.1) (le-leb src 10 a.2)
first_form-encoding (insn.ToLittle bits dst) rest a =
    first_form-unit 0xd4 dst 0 0 (bits_of bits) rest (omega arith) (omega arith) (bits_of-below bits)
    ∙ decoded.to_little bits dst (unit_fields rest) (le-leb dst 9 a)
first_form-encoding (insn.ToBig bits dst) rest a =
    first_form-unit 0xdc dst 0 0 (bits_of bits) rest (omega arith) (omega arith) (bits_of-below bits)
    ∙ decoded.to_big bits dst (unit_fields rest) (le-leb dst 9 a)
first_form-encoding (insn.Swap bits dst) rest a =
    first_form-unit 0xd7 dst 0 0 (bits_of bits) rest (omega arith) (omega arith) (bits_of-below bits)
    ∙ decoded.swap bits dst (unit_fields rest) (le-leb dst 9 a)
first_form-encoding (insn.Jump offset) rest a =
    first_form-unit 0x05 0 0 (offset_bits offset) 0 rest (omega arith) (offset-below offset a) (omega arith)
    ∙ decoded.ja offset (unit_fields rest) a
first_form-encoding (insn.JumpLong imm) rest a =
    first_form-unit 0x06 0 0 0 (imm_bits imm) rest (omega arith) (omega arith) (imm-below imm a)
    ∙ decoded.ja_long imm (unit_fields rest) a
first_form-encoding (insn.BranchImm op wide dst offset imm) rest a =
    first_form-unit (jump_opcode op 0 wide) dst 0 (offset_bits offset) (imm_bits imm) rest (omega arith) (offset-below offset a.1) (imm-below imm a.2)
    ∙ decoded.branch_imm op wide dst offset imm (unit_fields rest) (le-leb dst 10 a.0) a.1 a.2
first_form-encoding (insn.BranchReg op wide dst src offset) rest a =
    first_form-unit (jump_opcode op 1 wide) dst src (offset_bits offset) 0 rest (omega arith) (offset-below offset a.2) (omega arith)
    ∙ decoded.branch_reg op wide dst src offset (unit_fields rest) (le-leb dst 10 a.0) (le-leb src 10 a.1) a.2
first_form-encoding insn.CallHelper rest a =
    first_form-unit 0x85 0 0 0 1 rest (omega arith) (omega arith) (omega arith)
    ∙ decoded.call_helper (unit_fields rest)
first_form-encoding (insn.CallLocal imm) rest a =
    first_form-unit 0x85 0 1 0 (imm_bits imm) rest (omega arith) (omega arith) (imm-below imm a)
    ∙ decoded.call_local imm (unit_fields rest) a
first_form-encoding insn.Exit rest a =
    first_form-unit 0x95 0 0 0 0 rest (omega arith) (omega arith) (omega arith)
    ∙ decoded.exit (unit_fields rest)
first_form-encoding (insn.LoadImm dst value) rest a =
    let second = unit_fields-unit 0 0 0 0 (value / 2 ^ 32) rest (omega arith) (omega arith) (omega arith) in
    first_form-unit 0x18 dst 0 0 (value % 2 ^ 32) (unit 0 0 0 0 (value / 2 ^ 32) ++ rest) (omega arith) (omega arith) (omega arith)
    ∙ ap (λ (n : Option Fields). insn_of (read_as 0x18 dst 0 0 (value % 2 ^ 32)) n) second
    ∙ decoded.load_imm dst value (le-leb dst 9 a.0)
first_form-encoding (insn.Load s dst src offset) rest a =
    first_form-unit (access_opcode 3 s 1) dst src (offset_bits offset) 0 rest (omega arith) (offset-below offset a.2) (omega arith)
    ∙ decoded.load s dst src offset (unit_fields rest) (le-leb dst 9 a.0) (le-leb src 10 a.1) a.2
first_form-encoding (insn.LoadSigned s dst src offset) rest a =
    first_form-unit (access_opcode 4 s 1) dst src (offset_bits offset) 0 rest (omega arith) (offset-below offset a.3) (omega arith)
    ∙ decoded.load_signed s dst src offset (unit_fields rest) a.0 (le-leb dst 9 a.1) (le-leb src 10 a.2) a.3
first_form-encoding (insn.StoreImm s dst offset imm) rest a =
    first_form-unit (access_opcode 3 s 2) dst 0 (offset_bits offset) (imm_bits imm) rest (omega arith) (offset-below offset a.1) (imm-below imm a.2)
    ∙ decoded.store_imm s dst offset imm (unit_fields rest) (le-leb dst 10 a.0) a.1 a.2
first_form-encoding (insn.StoreReg s dst src offset) rest a =
    first_form-unit (access_opcode 3 s 3) dst src (offset_bits offset) 0 rest (omega arith) (offset-below offset a.2) (omega arith)
    ∙ decoded.store_reg s dst src offset (unit_fields rest) (le-leb dst 10 a.0) (le-leb src 10 a.1) a.2
first_form-encoding (insn.Atomic op s dst src offset) rest a =
    first_form-unit (access_opcode 6 s 3) dst src (offset_bits offset) (atomic_code op) rest (omega arith) (offset-below offset a.4) (let b = atomic_code-below op in omega arith)
    ∙ decoded.atomic_plain op s dst src offset (unit_fields rest) a.0 a.1 (le-leb dst 10 a.2) (le-leb src 10 a.3) a.4
first_form-encoding (insn.AtomicFetch op s dst src offset) rest a =
    first_form-unit (access_opcode 6 s 3) dst src (offset_bits offset) (atomic_code op + 1) rest (omega arith) (offset-below offset a.4) (atomic_code-below op)
    ∙ decoded.atomic_fetch op s dst src offset (unit_fields rest) a.0 a.1 (le-leb dst 10 a.2) (le-leb src 10 (omega arith)) (le-leb src 9 a.3) a.4
first_form-encoding (insn.CompareExchange s dst src offset) rest a =
    first_form-unit (access_opcode 6 s 3) dst src (offset_bits offset) 0xf1 rest (omega arith) (offset-below offset a.3) (omega arith)
    ∙ decoded.compare_exchange s (is_writable src) dst src offset (unit_fields rest) a.0 (le-leb dst 10 a.1) (le-leb src 10 a.2) refl a.3

-- what was read of a unit and the next one: one unit, or both
abbrev ReadsForm : Fields → Option Fields → Insn → Type 0
ReadsForm f next i = Reads f i ⊎ ((n : Fields) × (next ≡ Some n) × ReadsWide f n i)

load_imm-form : (f : Fields) (next : Option Fields) → InRange f → ((n : Fields) → next ≡ Some n → InRange n) → (i : Insn)
    → row_insn (load_imm f next) ≡ Some i → ReadsForm f next i
load_imm-form f (Some n) r q i h = inr (n, refl, read.load_imm f n r (q n refl) i h)
load_imm-form f None r q i h = let w = row-some (load_imm f None) i h in cc w.1

-- each row reads an allowed instruction
insn_of-form : (f : Fields) (next : Option Fields) → InRange f → ((n : Fields) → next ≡ Some n → InRange n) → (i : Insn)
    → insn_of f next ≡ Some i → ReadsForm f next i
insn_of-form f next r q i h = first_fit-some (ReadsForm f next i) i (rows f next) each h
  where
    each : EachRow (λ row. row_insn row ≡ Some i → ReadsForm f next i) (rows f next)
    each = (
      λ h. inl (read.alu_imm f r i h),
      (
        λ h. inl (read.alu_reg f r i h),
        (
          λ h. inl (read.div_imm f r i h),
          (
            λ h. inl (read.div_reg f r i h),
            (
              λ h. inl (read.neg f r i h),
              (
                λ h. inl (read.mov_imm f r i h),
                (
                  λ h. inl (read.mov_reg f r i h),
                  (
                    λ h. inl (read.movsx_32 f r i h),
                    (
                      λ h. inl (read.movsx_64 f r i h),
                      (
                        λ h. inl (read.to_little f r i h),
                        (
                          λ h. inl (read.to_big f r i h),
                          (
                            λ h. inl (read.swap f r i h),
                            (
                              λ h. inl (read.ja f r i h),
                              (
                                λ h. inl (read.ja_long f r i h),
                                (
                                  λ h. inl (read.branch_imm f r i h),
                                  (
                                    λ h. inl (read.branch_reg f r i h),
                                    (
                                      λ h. inl (read.call_helper f r i h),
                                      (
                                        λ h. inl (read.call_local f r i h),
                                        (
                                          λ h. inl (read.exit f r i h),
                                          (
                                            load_imm-form f next r q i,
                                            (
                                              λ h. inl (read.load f r i h),
                                              (
                                                λ h. inl (read.load_signed f r i h),
                                                (
                                                  λ h. inl (read.store_imm f r i h),
                                                  (
                                                    λ h. inl (read.store_reg f r i h),
                                                    (
                                                      λ h. inl (read.atomic_plain f r i h),
                                                      (
                                                        λ h. inl (read.atomic_fetch f r i h),
                                                        (
                                                          λ h. inl (read.compare_exchange f r i h),
                                                          tt,
                                                        ),
                                                      ),
                                                    ),
                                                  ),
                                                ),
                                              ),
                                            ),
                                          ),
                                        ),
                                      ),
                                    ),
                                  ),
                                ),
                              ),
                            ),
                          ),
                        ),
                      ),
                    ),
                  ),
                ),
              ),
            ),
          ),
        ),
      ),
    )

-- the bytes after the first n are bytes
small_drop : (bytes : List ℕ) (n : ℕ) → ((k : ℕ) → slice_index bytes k < 256) → (k : ℕ) → slice_index (drop n bytes) k < 256
small_drop bytes n small k = rw (get_or-drop n bytes k 0) (small (n + k))

-- bytes that have a form begin with the encoding of an allowed instruction
pub first_form-some : (bytes : List ℕ) (i : Insn) → ((k : ℕ) → slice_index bytes k < 256) → first_form bytes ≡ Some i
    → IsAllowed i × ((rest : List ℕ) × (bytes ≡ encoding i ++ rest))
first_form-some bytes i small h = by_fields (unit_fields bytes) refl h
  where
    by_fields : (o : Option Fields) → unit_fields bytes ≡ o → option_and_then (λ f. insn_of f (unit_fields (drop 8 bytes))) o ≡ Some i
        → IsAllowed i × ((rest : List ℕ) × (bytes ≡ encoding i ++ rest))
    by_fields None e q = cc
    by_fields (Some f) e q =
        let b = fields-back bytes f small e in
        let later : (k : ℕ) → slice_index (drop 8 bytes) k < 256 = λ k. small_drop bytes 8 small k in
        let next : (n : Fields) → unit_fields (drop 8 bytes) ≡ Some n → InRange n = λ n s. (fields-back (drop 8 bytes) n later s).in_range in
        elim (insn_of-form f (unit_fields (drop 8 bytes)) b.in_range next i q) [
          | inl w ↦ (w.allowed, (drop 8 bytes, sym (ap (λ (x : List ℕ). x ++ drop 8 bytes) w.bytes ∙ b.bytes_back)))
          | inr w ↦
              let second = fields-back (drop 8 bytes) w.0 later w.1 in (
                w.2.allowed,
                (
                  drop 8 (drop 8 bytes),
                  sym (ap (λ (x : List ℕ). x ++ drop 8 (drop 8 bytes)) w.2.bytes
                      ∙ ap (λ (x : List ℕ). unit_of f ++ x) second.bytes_back ∙ b.bytes_back),
                ),
              )
        ]

-- what All says, at each place
pub bytes_small : (code : List ℕ) → All (λ b. b < 256) code → (k : ℕ) → slice_index code k < 256
bytes_small code all k = elim (cases_lt k (length code)) [
  | inl inside ↦ all k 0 inside
  | inr past ↦ let e : get_or code k 0 ≡ 0 = grind (arith, common_steps) in omega arith
]

-- a form is the encoding of an allowed instruction
pub form-encoded : (code : List ℕ) (place : ℕ) (i : Insn) → All (λ b. b < 256) code → form code place ≡ Some i → IsAllowed i × IsEncodedAt code place i
form-encoded code place i all h =
    let small : (k : ℕ) → slice_index (drop (8 * place) code) k < 256 = λ k. small_drop code (8 * place) (bytes_small code all) k in
    let s = first_form-some (drop (8 * place) code) i small h in
    (s.0, rw s.1.1 (take-append_seam (encoding i) s.1.0))

-- the encoding of an allowed instruction is a form
pub encoded-form : (code : List ℕ) (place : ℕ) (i : Insn) → IsAllowed i → IsEncodedAt code place i → form code place ≡ Some i
encoded-form code place i allowed h =
    let bytes = drop (8 * place) code in
    let whole : encoding i ++ drop (length (encoding i)) bytes ≡ bytes =
    ap (λ (x : List ℕ). x ++ drop (length (encoding i)) bytes) (sym h) ∙ take-append-drop (length (encoding i)) bytes in
    rw whole at (first_form-encoding i (drop (length (encoding i)) bytes) allowed)

-- an encoding has 8 bytes a unit
pub length-encoding : (i : Insn) → length (encoding i) ≡ 8 * units_of i
length-encoding (insn.LoadImm dst value) = refl
length-encoding _ = refl

-- an instruction has one unit or two
pub units_of-pos : (i : Insn) → 0 < units_of i
units_of-pos (insn.LoadImm dst value) = omega arith
units_of-pos _ = omega arith

-- the bytes of an instruction lie inside the code
pub form-inside : (code : List ℕ) (place : ℕ) (i : Insn) → ((k : ℕ) → slice_index code k < 256) → form code place ≡ Some i
    → 8 * (place + units_of i) ≤ length code
form-inside code place i small h =
    let later : (k : ℕ) → slice_index (drop (8 * place) code) k < 256 = λ k. small_drop code (8 * place) small k in
    let s = first_form-some (drop (8 * place) code) i later h in
    let whole = ap (λ (x : List ℕ). length x) s.1.1 in
    let units = length-encoding i in
    let pos = units_of-pos i in
    omega (arith, length-append (encoding i) s.1.0, length-drop (8 * place) code, whole)

first_form-room : (bytes : List ℕ) (i : Insn) → first_form bytes ≡ Some i → 8 ≤ length bytes
first_form-room (a ∷ b ∷ c ∷ d ∷ e ∷ g ∷ h ∷ j ∷ rest) i p = omega arith
first_form-room _ i p = cc

-- so does its first unit, whatever the bytes are
pub form-room : (code : List ℕ) (place : ℕ) (i : Insn) → form code place ≡ Some i → 8 * place + 8 ≤ length code
form-room code place i h = let room = first_form-room (drop (8 * place) code) i h in omega (arith, length-drop (8 * place) code)
