-- A line is read exactly where it is the line of an allowed instruction.
use Rattle.std.proofs.Common.{◌≡◌, ℕ, suc, ◌<◌, ◌≤◌, ◌^◌, ℤ, Bool, true, false, ◌&&◌, cond, eqb, leb, List, [], ◌∷◌, length, map, Some, option_map, get_or, inl, inr, refl, sym, ap, subst, ◌∙◌, arith}
use Rattle.std.specs.Prelude.{decimal, option_and_then, FitsSigned, find}
use Rattle.std.specs.List.{list_all}
use Rattle.std.specs.Str.{bytes_eq}
use Rattle.std.specs.Int.{w16, w32, w64}
use Rattle.bpf_isa.specs.declared.insn.Insn.{Insn}
use Rattle.bpf_isa.specs.declared.insn.Insn.TheVariants as insn
use Rattle.bpf_isa.specs.declared.operand.Size.{Size}
use Rattle.bpf_isa.specs.declared.operand.Size.TheVariants as size
use Rattle.bpf_isa.specs.declared.operand.Width.{Width}
use Rattle.bpf_isa.specs.declared.operation.AluOp.{AluOp}
use Rattle.bpf_isa.specs.declared.operation.AluOp.TheVariants as alu
use Rattle.bpf_isa.specs.declared.operation.JumpOp.{JumpOp}
use Rattle.bpf_isa.specs.declared.operation.JumpOp.TheVariants as jump
use Rattle.bpf_isa.specs.declared.operation.AtomicOp.{AtomicOp}
use Rattle.bpf_isa.specs.declared.operation.AtomicOp.TheVariants as atomic
use Rattle.bpf_model.specs.Encoding.{IsAllowed, is_binary, is_division, is_narrow, is_atomic_size, is_plain, is_fetch}
use Rattle.bpf_asm.specs.Mnemonic.{mnemonic_text}
use Rattle.bpf_asm.specs.Line.{operand_text, mnemonic_of, operands_of, line_parts, insn_line}
use Rattle.bpf_asm.specs.declared.mnemonic.Mnemonic.{Mnemonic}
use Rattle.bpf_asm.specs.declared.mnemonic.Mnemonic.TheVariants as word
use Rattle.bpf_asm.specs.declared.mnemonic.TheConstants.{MNEMONICS}
use Rattle.bpf_asm.specs.declared.source.Source.{Source}
use Rattle.bpf_asm.specs.declared.source.Source.TheVariants as source
use Rattle.cp_text.specs.Number.{spelled_number}
use Rattle.bpf_asm.specs.declared.operand.Operand.TheVariants.{Register, Signed}
use Rattle.bpf_asm.specs.Reading.{insn_with, insn_in, mnemonic_named, dst_source, dst_bits, dst_src_offset, dst_offset_src, read_one, read_two, read_three, register_in, offset_in, imm_in, source_in, move_to_32, move_to_64, helper_named, binary_by, division_by, move_by, branch_by}
use Rattle.std.specs.Fmt.{signed_decimal}
use Rattle.std.proofs.lemmas.Bool.{and_parts, and_from, eqb-true, le-leb}
use Rattle.cp_text.specs.Parts.{all_lack, joined_by, lacks, parts_between}
use Rattle.cp_text.proofs.Joined.{all_lack_cons, joined_again, joined_lacks, lacks_cons, parts_again}
use Rattle.cp_text.proofs.NumberTexts.{decimal-are_digits}
use Rattle.cp_text.proofs.SignedTexts.{signed_decimal-are_digits}
use Rattle.bpf_isa.specs.Width.{bits_of}
use Rattle.bpf_model.specs.Encoding.{alu_offset}
use Rattle.bpf_asm.proofs.Spelling.{mapped, then_some, registers, offsets, imms, sources, source_text, SourceFits, numbers, helpers, widths, moves_32, moves_64, wide_16, wide_32, offset_small, bits_small, one_spelled, two_spelled, three_spelled, one_again, two_again, three_again}

-- the mnemonics of allowed instructions
abbrev pub is_word : Mnemonic → Bool
is_word (word.Binary op wide) = is_binary op
is_word (word.Division op wide) = is_division op
is_word (word.LoadSigned s) = is_narrow s
is_word (word.Atomic op s) = is_plain op && is_atomic_size s
is_word (word.AtomicFetch op s) = is_fetch op && is_atomic_size s
is_word (word.CompareExchange s) = is_atomic_size s
is_word _ = true

-- what a mnemonic with operands is read as
pub record Says (m : Mnemonic) (ps : List (List ℕ)) (i : Insn) : Type 0 where
  pub mnemonic : mnemonic_of i ≡ m
  pub operands : ps ≡ map operand_text (operands_of i)
  pub allowed : IsAllowed i

same_some : {A : Type 0} (x y : A) → Some x ≡ Some y → x ≡ y
same_some x y e = cc

nine : 9 ≤ 10
nine = omega arith

ten : 10 ≤ 10
ten = omega arith

says_binary : (op : AluOp) (wide : Bool) (ps : List (List ℕ)) (dst : ℕ) (s : Source) → is_binary op ≡ true → ps ≡ operand_text (Register dst) ∷ source_text s ∷ [] → dst ≤ 9 → SourceFits s → Says (word.Binary op wide) ps (binary_by op wide dst s)
says_binary op wide ps dst (source.Register r) b e d f = record { mnemonic = refl; operands = e; allowed = (b, d, f) }
says_binary op wide ps dst (source.Immediate z) b e d f = record { mnemonic = refl; operands = e; allowed = (b, d, f) }

says_division : (op : AluOp) (wide : Bool) (ps : List (List ℕ)) (dst : ℕ) (s : Source) → is_division op ≡ true → ps ≡ operand_text (Register dst) ∷ source_text s ∷ [] → dst ≤ 9 → SourceFits s → Says (word.Division op wide) ps (division_by op wide dst s)
says_division op wide ps dst (source.Register r) b e d f = record { mnemonic = refl; operands = e; allowed = (b, d, f) }
says_division op wide ps dst (source.Immediate z) b e d f = record { mnemonic = refl; operands = e; allowed = (b, d, f) }

says_move : (wide : Bool) (ps : List (List ℕ)) (dst : ℕ) (s : Source) → ps ≡ operand_text (Register dst) ∷ source_text s ∷ [] → dst ≤ 9 → SourceFits s → Says (word.Move wide) ps (move_by wide dst s)
says_move wide ps dst (source.Register r) e d f = record { mnemonic = refl; operands = e; allowed = (d, f) }
says_move wide ps dst (source.Immediate z) e d f = record { mnemonic = refl; operands = e; allowed = (d, f) }

says_branch : (op : JumpOp) (wide : Bool) (ps : List (List ℕ)) (dst : ℕ) (s : Source) (o : ℤ) → ps ≡ operand_text (Register dst) ∷ source_text s ∷ operand_text (Signed o) ∷ [] → dst ≤ 10 → SourceFits s → FitsSigned w16 o → Says (word.Branch op wide) ps (branch_by op wide dst s o)
says_branch op wide ps dst (source.Register r) o e d f g = record { mnemonic = refl; operands = e; allowed = (d, f, g) }
says_branch op wide ps dst (source.Immediate z) o e d f g = record { mnemonic = refl; operands = e; allowed = (d, g, f) }

-- what is read is spelled so
pub reads : (m : Mnemonic) (ps : List (List ℕ)) (i : Insn) → is_word m ≡ true → insn_with m ps ≡ Some i → Says m ps i
reads (word.Binary op wide) ps i b e =
    let m = mapped (λ (p : ℕ × Source). binary_by op wide p.0 p.1) (dst_source ps) i e in
    let r = two_spelled (registers 9 nine) sources ps m.0 m.1 in
    subst (λ (x : Insn). Says (word.Binary op wide) ps x) m.2 (says_binary op wide ps m.0.0 m.0.1 b r.0 r.1 r.2)
reads (word.Division op wide) ps i b e =
    let m = mapped (λ (p : ℕ × Source). division_by op wide p.0 p.1) (dst_source ps) i e in
    let r = two_spelled (registers 9 nine) sources ps m.0 m.1 in
    subst (λ (x : Insn). Says (word.Division op wide) ps x) m.2 (says_division op wide ps m.0.0 m.0.1 b r.0 r.1 r.2)
reads (word.Move wide) ps i b e =
    let m = mapped (λ (p : ℕ × Source). move_by wide p.0 p.1) (dst_source ps) i e in
    let r = two_spelled (registers 9 nine) sources ps m.0 m.1 in
    subst (λ (x : Insn). Says (word.Move wide) ps x) m.2 (says_move wide ps m.0.0 m.0.1 r.0 r.1 r.2)
reads (word.Negate wide) ps i b e =
    let m = mapped (λ (p : ℕ). insn.Neg wide p) (read_one (register_in 9) ps) i e in
    let r = one_spelled (registers 9 nine) ps m.0 m.1 in
    subst (λ (x : Insn). Says (word.Negate wide) ps x) m.2 (record { mnemonic = refl; operands = r.0; allowed = r.1 })
reads word.Extend32 ps i b e =
    let m = mapped (λ (p : ℕ × ℕ × AluOp). insn.Movsx32 p.2 p.0 p.1) (read_three (register_in 9) (register_in 10) move_to_32 ps) i e in
    let r = three_spelled (registers 9 nine) (registers 10 ten) moves_32 ps m.0 m.1 in
    subst (λ (x : Insn). Says word.Extend32 ps x) m.2 (record { mnemonic = refl; operands = r.0; allowed = (r.3, r.1, r.2) })
reads word.Extend64 ps i b e =
    let m = mapped (λ (p : ℕ × ℕ × AluOp). insn.Movsx64 p.2 p.0 p.1) (read_three (register_in 9) (register_in 10) move_to_64 ps) i e in
    let r = three_spelled (registers 9 nine) (registers 10 ten) moves_64 ps m.0 m.1 in
    subst (λ (x : Insn). Says word.Extend64 ps x) m.2 (record { mnemonic = refl; operands = r.0; allowed = (r.3, r.1, r.2) })
reads word.ToLittle ps i b e =
    let m = mapped (λ (p : ℕ × Width). insn.ToLittle p.1 p.0) (dst_bits ps) i e in
    let r = two_spelled (registers 9 nine) widths ps m.0 m.1 in
    subst (λ (x : Insn). Says word.ToLittle ps x) m.2 (record { mnemonic = refl; operands = r.0; allowed = r.1 })
reads word.ToBig ps i b e =
    let m = mapped (λ (p : ℕ × Width). insn.ToBig p.1 p.0) (dst_bits ps) i e in
    let r = two_spelled (registers 9 nine) widths ps m.0 m.1 in
    subst (λ (x : Insn). Says word.ToBig ps x) m.2 (record { mnemonic = refl; operands = r.0; allowed = r.1 })
reads word.Swap ps i b e =
    let m = mapped (λ (p : ℕ × Width). insn.Swap p.1 p.0) (dst_bits ps) i e in
    let r = two_spelled (registers 9 nine) widths ps m.0 m.1 in
    subst (λ (x : Insn). Says word.Swap ps x) m.2 (record { mnemonic = refl; operands = r.0; allowed = r.1 })
reads word.LoadImm ps i b e =
    let m = mapped (λ (p : ℕ × ℕ). insn.LoadImm p.0 p.1) (read_two (register_in 9) spelled_number ps) i e in
    let r = two_spelled (registers 9 nine) numbers ps m.0 m.1 in
    subst (λ (x : Insn). Says word.LoadImm ps x) m.2 (record { mnemonic = refl; operands = r.0; allowed = (r.1, r.2) })
reads (word.Load size) ps i b e =
    let m = mapped (λ (p : ℕ × ℕ × ℤ). insn.Load size p.0 p.1 p.2) (dst_src_offset ps) i e in
    let r = three_spelled (registers 9 nine) (registers 10 ten) offsets ps m.0 m.1 in
    subst (λ (x : Insn). Says (word.Load size) ps x) m.2 (record { mnemonic = refl; operands = r.0; allowed = (r.1, r.2, r.3) })
reads (word.LoadSigned size) ps i b e =
    let m = mapped (λ (p : ℕ × ℕ × ℤ). insn.LoadSigned size p.0 p.1 p.2) (dst_src_offset ps) i e in
    let r = three_spelled (registers 9 nine) (registers 10 ten) offsets ps m.0 m.1 in
    subst (λ (x : Insn). Says (word.LoadSigned size) ps x) m.2 (record { mnemonic = refl; operands = r.0; allowed = (b, r.1, r.2, r.3) })
reads (word.StoreImm size) ps i b e =
    let m = mapped (λ (p : ℕ × ℤ × ℤ). insn.StoreImm size p.0 p.1 p.2) (read_three (register_in 10) offset_in imm_in ps) i e in
    let r = three_spelled (registers 10 ten) offsets imms ps m.0 m.1 in
    subst (λ (x : Insn). Says (word.StoreImm size) ps x) m.2 (record { mnemonic = refl; operands = r.0; allowed = (r.1, r.2, r.3) })
reads (word.StoreReg size) ps i b e =
    let m = mapped (λ (p : ℕ × ℤ × ℕ). insn.StoreReg size p.0 p.2 p.1) (dst_offset_src 10 ps) i e in
    let r = three_spelled (registers 10 ten) offsets (registers 10 ten) ps m.0 m.1 in
    subst (λ (x : Insn). Says (word.StoreReg size) ps x) m.2 (record { mnemonic = refl; operands = r.0; allowed = (r.1, r.3, r.2) })
reads (word.Atomic op size) ps i b e =
    let m = mapped (λ (p : ℕ × ℤ × ℕ). insn.Atomic op size p.0 p.2 p.1) (dst_offset_src 10 ps) i e in
    let r = three_spelled (registers 10 ten) offsets (registers 10 ten) ps m.0 m.1 in
    subst (λ (x : Insn). Says (word.Atomic op size) ps x) m.2 (record { mnemonic = refl; operands = r.0; allowed = ((and_parts (is_plain op) (is_atomic_size size) b).0, (and_parts (is_plain op) (is_atomic_size size) b).1, r.1, r.3, r.2) })
reads (word.AtomicFetch op size) ps i b e =
    let m = mapped (λ (p : ℕ × ℤ × ℕ). insn.AtomicFetch op size p.0 p.2 p.1) (dst_offset_src 9 ps) i e in
    let r = three_spelled (registers 10 ten) offsets (registers 9 nine) ps m.0 m.1 in
    subst (λ (x : Insn). Says (word.AtomicFetch op size) ps x) m.2 (record { mnemonic = refl; operands = r.0; allowed = ((and_parts (is_fetch op) (is_atomic_size size) b).0, (and_parts (is_fetch op) (is_atomic_size size) b).1, r.1, r.3, r.2) })
reads (word.CompareExchange size) ps i b e =
    let m = mapped (λ (p : ℕ × ℤ × ℕ). insn.CompareExchange size p.0 p.2 p.1) (dst_offset_src 10 ps) i e in
    let r = three_spelled (registers 10 ten) offsets (registers 10 ten) ps m.0 m.1 in
    subst (λ (x : Insn). Says (word.CompareExchange size) ps x) m.2 (record { mnemonic = refl; operands = r.0; allowed = (b, r.1, r.3, r.2) })
reads (word.Branch op wide) ps i b e =
    let m = mapped (λ (p : ℕ × Source × ℤ). branch_by op wide p.0 p.1 p.2) (read_three (register_in 10) source_in offset_in ps) i e in
    let r = three_spelled (registers 10 ten) sources offsets ps m.0 m.1 in
    subst (λ (x : Insn). Says (word.Branch op wide) ps x) m.2 (says_branch op wide ps m.0.0 m.0.1 m.0.2 r.0 r.1 r.2 r.3)
reads word.Jump ps i b e =
    let m = mapped (λ (p : ℤ). insn.Jump p) (read_one offset_in ps) i e in
    let r = one_spelled offsets ps m.0 m.1 in
    subst (λ (x : Insn). Says word.Jump ps x) m.2 (record { mnemonic = refl; operands = r.0; allowed = r.1 })
reads word.JumpLong ps i b e =
    let m = mapped (λ (p : ℤ). insn.JumpLong p) (read_one imm_in ps) i e in
    let r = one_spelled imms ps m.0 m.1 in
    subst (λ (x : Insn). Says word.JumpLong ps x) m.2 (record { mnemonic = refl; operands = r.0; allowed = r.1 })
reads word.CallHelper ps i b e =
    let m = mapped (λ (p : ℕ). insn.CallHelper) (read_one helper_named ps) i e in
    let r = one_spelled helpers ps m.0 m.1 in
    subst (λ (x : Insn). Says word.CallHelper ps x) m.2 (record { mnemonic = refl; operands = r.0; allowed = tt })
reads word.CallLocal ps i b e =
    let m = mapped (λ (p : ℤ). insn.CallLocal p) (read_one imm_in ps) i e in
    let r = one_spelled imms ps m.0 m.1 in
    subst (λ (x : Insn). Says word.CallLocal ps x) m.2 (record { mnemonic = refl; operands = r.0; allowed = r.1 })
reads word.Exit [] i b e = subst (λ (x : Insn). Says word.Exit [] x) (same_some insn.Exit i e) (record { mnemonic = refl; operands = refl; allowed = tt })
reads word.Exit (p ∷ ps) i b e = absurd cc

-- what is spelled so is read
pub reads_again : (i : Insn) → IsAllowed i → insn_with (mnemonic_of i) (map operand_text (operands_of i)) ≡ Some i
reads_again (insn.AluImm op wide dst imm) a = ap (option_map (λ (p : ℕ × Source). binary_by op wide p.0 p.1)) (two_again (registers 9 nine) sources dst (source.Immediate imm) a.1 a.2)
reads_again (insn.AluReg op wide dst src) a = ap (option_map (λ (p : ℕ × Source). binary_by op wide p.0 p.1)) (two_again (registers 9 nine) sources dst (source.Register src) a.1 a.2)
reads_again (insn.DivImm op wide dst imm) a = ap (option_map (λ (p : ℕ × Source). division_by op wide p.0 p.1)) (two_again (registers 9 nine) sources dst (source.Immediate imm) a.1 a.2)
reads_again (insn.DivReg op wide dst src) a = ap (option_map (λ (p : ℕ × Source). division_by op wide p.0 p.1)) (two_again (registers 9 nine) sources dst (source.Register src) a.1 a.2)
reads_again (insn.Neg wide dst) a = ap (option_map (λ (p : ℕ). insn.Neg wide p)) (one_again (registers 9 nine) dst a)
reads_again (insn.MovImm wide dst imm) a = ap (option_map (λ (p : ℕ × Source). move_by wide p.0 p.1)) (two_again (registers 9 nine) sources dst (source.Immediate imm) a.0 a.1)
reads_again (insn.MovReg wide dst src) a = ap (option_map (λ (p : ℕ × Source). move_by wide p.0 p.1)) (two_again (registers 9 nine) sources dst (source.Register src) a.0 a.1)
reads_again (insn.Movsx32 op dst src) a = ap (option_map (λ (p : ℕ × ℕ × AluOp). insn.Movsx32 p.2 p.0 p.1)) (three_again (registers 9 nine) (registers 10 ten) moves_32 dst src op a.1 a.2 a.0)
reads_again (insn.Movsx64 op dst src) a = ap (option_map (λ (p : ℕ × ℕ × AluOp). insn.Movsx64 p.2 p.0 p.1)) (three_again (registers 9 nine) (registers 10 ten) moves_64 dst src op a.1 a.2 a.0)
reads_again (insn.ToLittle bits dst) a = ap (option_map (λ (p : ℕ × Width). insn.ToLittle p.1 p.0)) (two_again (registers 9 nine) widths dst bits a tt)
reads_again (insn.ToBig bits dst) a = ap (option_map (λ (p : ℕ × Width). insn.ToBig p.1 p.0)) (two_again (registers 9 nine) widths dst bits a tt)
reads_again (insn.Swap bits dst) a = ap (option_map (λ (p : ℕ × Width). insn.Swap p.1 p.0)) (two_again (registers 9 nine) widths dst bits a tt)
reads_again (insn.Jump offset) a = ap (option_map (λ (p : ℤ). insn.Jump p)) (one_again offsets offset a)
reads_again (insn.JumpLong imm) a = ap (option_map (λ (p : ℤ). insn.JumpLong p)) (one_again imms imm a)
reads_again (insn.BranchImm op wide dst offset imm) a = ap (option_map (λ (p : ℕ × Source × ℤ). branch_by op wide p.0 p.1 p.2)) (three_again (registers 10 ten) sources offsets dst (source.Immediate imm) offset a.0 a.2 a.1)
reads_again (insn.BranchReg op wide dst src offset) a = ap (option_map (λ (p : ℕ × Source × ℤ). branch_by op wide p.0 p.1 p.2)) (three_again (registers 10 ten) sources offsets dst (source.Register src) offset a.0 a.1 a.2)
reads_again insn.CallHelper a = ap (option_map (λ (p : ℕ). insn.CallHelper)) (one_again helpers 1 refl)
reads_again (insn.CallLocal imm) a = ap (option_map (λ (p : ℤ). insn.CallLocal p)) (one_again imms imm a)
reads_again insn.Exit a = refl
reads_again (insn.LoadImm dst value) a = ap (option_map (λ (p : ℕ × ℕ). insn.LoadImm p.0 p.1)) (two_again (registers 9 nine) numbers dst value a.0 a.1)
reads_again (insn.Load size dst src offset) a = ap (option_map (λ (p : ℕ × ℕ × ℤ). insn.Load size p.0 p.1 p.2)) (three_again (registers 9 nine) (registers 10 ten) offsets dst src offset a.0 a.1 a.2)
reads_again (insn.LoadSigned size dst src offset) a = ap (option_map (λ (p : ℕ × ℕ × ℤ). insn.LoadSigned size p.0 p.1 p.2)) (three_again (registers 9 nine) (registers 10 ten) offsets dst src offset a.1 a.2 a.3)
reads_again (insn.StoreImm size dst offset imm) a = ap (option_map (λ (p : ℕ × ℤ × ℤ). insn.StoreImm size p.0 p.1 p.2)) (three_again (registers 10 ten) offsets imms dst offset imm a.0 a.1 a.2)
reads_again (insn.StoreReg size dst src offset) a = ap (option_map (λ (p : ℕ × ℤ × ℕ). insn.StoreReg size p.0 p.2 p.1)) (three_again (registers 10 ten) offsets (registers 10 ten) dst offset src a.0 a.2 a.1)
reads_again (insn.Atomic op size dst src offset) a = ap (option_map (λ (p : ℕ × ℤ × ℕ). insn.Atomic op size p.0 p.2 p.1)) (three_again (registers 10 ten) offsets (registers 10 ten) dst offset src a.2 a.4 a.3)
reads_again (insn.AtomicFetch op size dst src offset) a = ap (option_map (λ (p : ℕ × ℤ × ℕ). insn.AtomicFetch op size p.0 p.2 p.1)) (three_again (registers 10 ten) offsets (registers 9 nine) dst offset src a.2 a.4 a.3)
reads_again (insn.CompareExchange size dst src offset) a = ap (option_map (λ (p : ℕ × ℤ × ℕ). insn.CompareExchange size p.0 p.2 p.1)) (three_again (registers 10 ten) offsets (registers 10 ten) dst offset src a.1 a.3 a.2)

-- ---- mnemonics

-- each mnemonic of the table is one of allowed instructions, and its bytes are visible
words_are_words : list_all is_word MNEMONICS ≡ true
words_are_words = refl

words_are_visible : list_all (λ m. list_all (λ b. leb 33 b) (mnemonic_text m)) MNEMONICS ≡ true
words_are_visible = refl

find_is : {A : Type 0} (p q : A → Bool) (xs : List A) (x : A) → find p xs ≡ Some x → list_all q xs ≡ true → (p x ≡ true) × (q x ≡ true)
find_is p q [] x e a = absurd cc
find_is {A} p q (y ∷ ys) x e a =
    let parts = and_parts (q y) (list_all q ys) a in
    by_test (p y) refl e parts.0 (λ rest. find_is p q ys x rest parts.1)
  where
    by_test : (b : Bool) → p y ≡ b → cond b (Some y) (find p ys) ≡ Some x → q y ≡ true → (find p ys ≡ Some x → (p x ≡ true) × (q x ≡ true)) → (p x ≡ true) × (q x ≡ true)
    by_test true h e t later = let same : y ≡ x = same_some y x e in (ap p (sym same) ∙ h, ap q (sym same) ∙ t)
    by_test false h e t later = later e

texts_are : (t u : List ℕ) → bytes_eq t u ≡ true → t ≡ u
texts_are [] [] e = refl
texts_are [] (d ∷ ds) e = absurd cc
texts_are (c ∷ cs) [] e = absurd cc
texts_are (c ∷ cs) (d ∷ ds) e =
    let parts = and_parts (eqb c d) (bytes_eq cs ds) e in
    ap (λ (x : ℕ). x ∷ cs) (eqb-true c d parts.0) ∙ ap (λ (x : List ℕ). d ∷ x) (texts_are cs ds parts.1)

named_is : (t : List ℕ) (m : Mnemonic) → mnemonic_named t ≡ Some m → (t ≡ mnemonic_text m) × (is_word m ≡ true)
named_is t m e =
    let f = find_is (λ m. bytes_eq t (mnemonic_text m)) is_word MNEMONICS m e words_are_words in
    (texts_are t (mnemonic_text m) f.0, f.1)

visible_word : (m : Mnemonic) → mnemonic_named (mnemonic_text m) ≡ Some m → list_all (λ b. leb 33 b) (mnemonic_text m) ≡ true
visible_word m e =
    (find_is (λ n. bytes_eq (mnemonic_text m) (mnemonic_text n)) (λ n. list_all (λ b. leb 33 b) (mnemonic_text n)) MNEMONICS m e words_are_visible).1

named_binary : (op : AluOp) (wide : Bool) → is_binary op ≡ true → mnemonic_named (mnemonic_text (word.Binary op wide)) ≡ Some (word.Binary op wide)
named_binary alu.Add true h = refl
named_binary alu.Add false h = refl
named_binary alu.Sub true h = refl
named_binary alu.Sub false h = refl
named_binary alu.Mul true h = refl
named_binary alu.Mul false h = refl
named_binary alu.Div wide h = absurd cc
named_binary alu.Sdiv wide h = absurd cc
named_binary alu.Mod wide h = absurd cc
named_binary alu.Smod wide h = absurd cc
named_binary alu.Or true h = refl
named_binary alu.Or false h = refl
named_binary alu.And true h = refl
named_binary alu.And false h = refl
named_binary alu.Xor true h = refl
named_binary alu.Xor false h = refl
named_binary alu.Lsh true h = refl
named_binary alu.Lsh false h = refl
named_binary alu.Rsh true h = refl
named_binary alu.Rsh false h = refl
named_binary alu.Arsh true h = refl
named_binary alu.Arsh false h = refl
named_binary alu.Neg wide h = absurd cc
named_binary alu.Mov wide h = absurd cc
named_binary alu.Movsx8 wide h = absurd cc
named_binary alu.Movsx16 wide h = absurd cc
named_binary alu.Movsx32 wide h = absurd cc

named_division : (op : AluOp) (wide : Bool) → is_division op ≡ true → mnemonic_named (mnemonic_text (word.Division op wide)) ≡ Some (word.Division op wide)
named_division alu.Add wide h = absurd cc
named_division alu.Sub wide h = absurd cc
named_division alu.Mul wide h = absurd cc
named_division alu.Div true h = refl
named_division alu.Div false h = refl
named_division alu.Sdiv true h = refl
named_division alu.Sdiv false h = refl
named_division alu.Mod true h = refl
named_division alu.Mod false h = refl
named_division alu.Smod true h = refl
named_division alu.Smod false h = refl
named_division alu.Or wide h = absurd cc
named_division alu.And wide h = absurd cc
named_division alu.Xor wide h = absurd cc
named_division alu.Lsh wide h = absurd cc
named_division alu.Rsh wide h = absurd cc
named_division alu.Arsh wide h = absurd cc
named_division alu.Neg wide h = absurd cc
named_division alu.Mov wide h = absurd cc
named_division alu.Movsx8 wide h = absurd cc
named_division alu.Movsx16 wide h = absurd cc
named_division alu.Movsx32 wide h = absurd cc

named_move : (wide : Bool) → mnemonic_named (mnemonic_text (word.Move wide)) ≡ Some (word.Move wide)
named_move true = refl
named_move false = refl

named_negation : (wide : Bool) → mnemonic_named (mnemonic_text (word.Negate wide)) ≡ Some (word.Negate wide)
named_negation true = refl
named_negation false = refl

named_load : (s : Size) → mnemonic_named (mnemonic_text (word.Load s)) ≡ Some (word.Load s)
named_load size.B = refl
named_load size.H = refl
named_load size.W = refl
named_load size.D = refl

named_store_imm : (s : Size) → mnemonic_named (mnemonic_text (word.StoreImm s)) ≡ Some (word.StoreImm s)
named_store_imm size.B = refl
named_store_imm size.H = refl
named_store_imm size.W = refl
named_store_imm size.D = refl

named_store_reg : (s : Size) → mnemonic_named (mnemonic_text (word.StoreReg s)) ≡ Some (word.StoreReg s)
named_store_reg size.B = refl
named_store_reg size.H = refl
named_store_reg size.W = refl
named_store_reg size.D = refl

named_load_signed : (s : Size) → is_narrow s ≡ true → mnemonic_named (mnemonic_text (word.LoadSigned s)) ≡ Some (word.LoadSigned s)
named_load_signed size.B h = refl
named_load_signed size.H h = refl
named_load_signed size.W h = refl
named_load_signed size.D h = absurd cc

named_atomic : (op : AtomicOp) (s : Size) → (is_plain op && is_atomic_size s) ≡ true → mnemonic_named (mnemonic_text (word.Atomic op s)) ≡ Some (word.Atomic op s)
named_atomic atomic.Add size.B h = absurd cc
named_atomic atomic.Add size.H h = absurd cc
named_atomic atomic.Add size.W h = refl
named_atomic atomic.Add size.D h = refl
named_atomic atomic.Or size.B h = absurd cc
named_atomic atomic.Or size.H h = absurd cc
named_atomic atomic.Or size.W h = refl
named_atomic atomic.Or size.D h = refl
named_atomic atomic.And size.B h = absurd cc
named_atomic atomic.And size.H h = absurd cc
named_atomic atomic.And size.W h = refl
named_atomic atomic.And size.D h = refl
named_atomic atomic.Xor size.B h = absurd cc
named_atomic atomic.Xor size.H h = absurd cc
named_atomic atomic.Xor size.W h = refl
named_atomic atomic.Xor size.D h = refl
named_atomic atomic.Xchg s h = absurd cc
named_atomic atomic.Cmpxchg s h = absurd cc

named_fetch : (op : AtomicOp) (s : Size) → (is_fetch op && is_atomic_size s) ≡ true → mnemonic_named (mnemonic_text (word.AtomicFetch op s)) ≡ Some (word.AtomicFetch op s)
named_fetch atomic.Add size.B h = absurd cc
named_fetch atomic.Add size.H h = absurd cc
named_fetch atomic.Add size.W h = refl
named_fetch atomic.Add size.D h = refl
named_fetch atomic.Or size.B h = absurd cc
named_fetch atomic.Or size.H h = absurd cc
named_fetch atomic.Or size.W h = refl
named_fetch atomic.Or size.D h = refl
named_fetch atomic.And size.B h = absurd cc
named_fetch atomic.And size.H h = absurd cc
named_fetch atomic.And size.W h = refl
named_fetch atomic.And size.D h = refl
named_fetch atomic.Xor size.B h = absurd cc
named_fetch atomic.Xor size.H h = absurd cc
named_fetch atomic.Xor size.W h = refl
named_fetch atomic.Xor size.D h = refl
named_fetch atomic.Xchg size.B h = absurd cc
named_fetch atomic.Xchg size.H h = absurd cc
named_fetch atomic.Xchg size.W h = refl
named_fetch atomic.Xchg size.D h = refl
named_fetch atomic.Cmpxchg s h = absurd cc

named_compare : (s : Size) → is_atomic_size s ≡ true → mnemonic_named (mnemonic_text (word.CompareExchange s)) ≡ Some (word.CompareExchange s)
named_compare size.B h = absurd cc
named_compare size.H h = absurd cc
named_compare size.W h = refl
named_compare size.D h = refl

named_branch : (op : JumpOp) (wide : Bool) → mnemonic_named (mnemonic_text (word.Branch op wide)) ≡ Some (word.Branch op wide)
named_branch jump.Jeq true = refl
named_branch jump.Jeq false = refl
named_branch jump.Jgt true = refl
named_branch jump.Jgt false = refl
named_branch jump.Jge true = refl
named_branch jump.Jge false = refl
named_branch jump.Jset true = refl
named_branch jump.Jset false = refl
named_branch jump.Jne true = refl
named_branch jump.Jne false = refl
named_branch jump.Jsgt true = refl
named_branch jump.Jsgt false = refl
named_branch jump.Jsge true = refl
named_branch jump.Jsge false = refl
named_branch jump.Jlt true = refl
named_branch jump.Jlt false = refl
named_branch jump.Jle true = refl
named_branch jump.Jle false = refl
named_branch jump.Jslt true = refl
named_branch jump.Jslt false = refl
named_branch jump.Jsle true = refl
named_branch jump.Jsle false = refl

-- the mnemonic of an allowed instruction is found by its text
named : (m : Mnemonic) → is_word m ≡ true → mnemonic_named (mnemonic_text m) ≡ Some m
named (word.Binary op wide) h = named_binary op wide h
named (word.Division op wide) h = named_division op wide h
named (word.Move wide) h = named_move wide
named (word.Negate wide) h = named_negation wide
named word.Extend32 h = refl
named word.Extend64 h = refl
named word.ToLittle h = refl
named word.ToBig h = refl
named word.Swap h = refl
named word.LoadImm h = refl
named (word.Load s) h = named_load s
named (word.LoadSigned s) h = named_load_signed s h
named (word.StoreImm s) h = named_store_imm s
named (word.StoreReg s) h = named_store_reg s
named (word.Atomic op s) h = named_atomic op s h
named (word.AtomicFetch op s) h = named_fetch op s h
named (word.CompareExchange s) h = named_compare s h
named (word.Branch op wide) h = named_branch op wide
named word.Jump h = refl
named word.JumpLong h = refl
named word.CallHelper h = refl
named word.CallLocal h = refl
named word.Exit h = refl

allowed_word : (i : Insn) → IsAllowed i → is_word (mnemonic_of i) ≡ true
allowed_word (insn.AluImm op wide dst imm) a = a.0
allowed_word (insn.AluReg op wide dst src) a = a.0
allowed_word (insn.DivImm op wide dst imm) a = a.0
allowed_word (insn.DivReg op wide dst src) a = a.0
allowed_word (insn.Neg wide dst) a = refl
allowed_word (insn.MovImm wide dst imm) a = refl
allowed_word (insn.MovReg wide dst src) a = refl
allowed_word (insn.Movsx32 op dst src) a = refl
allowed_word (insn.Movsx64 op dst src) a = refl
allowed_word (insn.ToLittle bits dst) a = refl
allowed_word (insn.ToBig bits dst) a = refl
allowed_word (insn.Swap bits dst) a = refl
allowed_word (insn.Jump offset) a = refl
allowed_word (insn.JumpLong imm) a = refl
allowed_word (insn.BranchImm op wide dst offset imm) a = refl
allowed_word (insn.BranchReg op wide dst src offset) a = refl
allowed_word (insn.CallHelper) a = refl
allowed_word (insn.CallLocal imm) a = refl
allowed_word (insn.Exit) a = refl
allowed_word (insn.LoadImm dst value) a = refl
allowed_word (insn.Load s dst src offset) a = refl
allowed_word (insn.LoadSigned s dst src offset) a = a.0
allowed_word (insn.StoreImm s dst offset imm) a = refl
allowed_word (insn.StoreReg s dst src offset) a = refl
allowed_word (insn.Atomic op s dst src offset) a = and_from (is_plain op) (is_atomic_size s) a.0 a.1
allowed_word (insn.AtomicFetch op s dst src offset) a = and_from (is_fetch op) (is_atomic_size s) a.0 a.1
allowed_word (insn.CompareExchange s dst src offset) a = a.0

-- ---- visible bytes

abbrev IsVisible : List ℕ → Type 0
IsVisible t = list_all (λ b. leb 33 b) t ≡ true

abbrev AreVisible : List (List ℕ) → Type 0
AreVisible [] = Unit {0}
AreVisible (t ∷ ts) = IsVisible t × AreVisible ts

visible_from : (t : List ℕ) → ((k : ℕ) → k < length t → 33 ≤ get_or t k 0) → IsVisible t
visible_from [] h = refl
visible_from (b ∷ bs) h =
    and_from (leb 33 b) (list_all (λ b. leb 33 b) bs) (le-leb 33 b (h 0 (omega arith))) (visible_from bs (λ k lt. h (suc k) (omega arith)))

visible_number : (n : ℕ) → n < 2 ^ 64 → IsVisible (decimal n)
visible_number n low =
    let digits = decimal-are_digits n low in
    visible_from (decimal n) (λ k lt. let d = digits k 0 lt in omega (arith, d.0))

visible_signed : (z : ℤ) → FitsSigned w64 z → IsVisible (signed_decimal z)
visible_signed z f =
    let digits = signed_decimal-are_digits z f in
    visible_from (signed_decimal z) (λ k lt. elim (digits k 0 lt) [ inl minus ↦ omega (arith, minus) | inr digit ↦ omega (arith, digit.0) ])

reg : (r : ℕ) → r ≤ 10 → IsVisible (operand_text (Register r))
reg r h = visible_number r (omega arith)

off : (z : ℤ) → FitsSigned w16 z → IsVisible (operand_text (Signed z))
off z f = visible_signed z (wide_16 z f)

val : (z : ℤ) → FitsSigned w32 z → IsVisible (operand_text (Signed z))
val z f = visible_signed z (wide_32 z f)

nine_ten : (r : ℕ) → r ≤ 9 → r ≤ 10
nine_ten r h = omega arith

operands_visible : (i : Insn) → IsAllowed i → AreVisible (map operand_text (operands_of i))
operands_visible (insn.AluImm op wide dst imm) a = (reg dst (nine_ten dst a.1), (val imm a.2, tt))
operands_visible (insn.AluReg op wide dst src) a = (reg dst (nine_ten dst a.1), (reg src a.2, tt))
operands_visible (insn.DivImm op wide dst imm) a = (reg dst (nine_ten dst a.1), (val imm a.2, tt))
operands_visible (insn.DivReg op wide dst src) a = (reg dst (nine_ten dst a.1), (reg src a.2, tt))
operands_visible (insn.Neg wide dst) a = (reg dst (nine_ten dst a), tt)
operands_visible (insn.MovImm wide dst imm) a = (reg dst (nine_ten dst a.0), (val imm a.1, tt))
operands_visible (insn.MovReg wide dst src) a = (reg dst (nine_ten dst a.0), (reg src a.1, tt))
operands_visible (insn.Movsx32 op dst src) a = (reg dst (nine_ten dst a.1), (reg src a.2, (visible_number (alu_offset op) (offset_small op), tt)))
operands_visible (insn.Movsx64 op dst src) a = (reg dst (nine_ten dst a.1), (reg src a.2, (visible_number (alu_offset op) (offset_small op), tt)))
operands_visible (insn.ToLittle bits dst) a = (reg dst (nine_ten dst a), (visible_number (bits_of bits) (bits_small bits), tt))
operands_visible (insn.ToBig bits dst) a = (reg dst (nine_ten dst a), (visible_number (bits_of bits) (bits_small bits), tt))
operands_visible (insn.Swap bits dst) a = (reg dst (nine_ten dst a), (visible_number (bits_of bits) (bits_small bits), tt))
operands_visible (insn.Jump offset) a = (off offset a, tt)
operands_visible (insn.JumpLong imm) a = (val imm a, tt)
operands_visible (insn.BranchImm op wide dst offset imm) a = (reg dst a.0, (val imm a.2, (off offset a.1, tt)))
operands_visible (insn.BranchReg op wide dst src offset) a = (reg dst a.0, (reg src a.1, (off offset a.2, tt)))
operands_visible (insn.CallHelper) a = (visible_number 1 (omega arith), tt)
operands_visible (insn.CallLocal imm) a = (val imm a, tt)
operands_visible (insn.Exit) a = tt
operands_visible (insn.LoadImm dst value) a = (reg dst (nine_ten dst a.0), (visible_number value a.1, tt))
operands_visible (insn.Load s dst src offset) a = (reg dst (nine_ten dst a.0), (reg src a.1, (off offset a.2, tt)))
operands_visible (insn.LoadSigned s dst src offset) a = (reg dst (nine_ten dst a.1), (reg src a.2, (off offset a.3, tt)))
operands_visible (insn.StoreImm s dst offset imm) a = (reg dst a.0, (off offset a.1, (val imm a.2, tt)))
operands_visible (insn.StoreReg s dst src offset) a = (reg dst a.0, (off offset a.2, (reg src a.1, tt)))
operands_visible (insn.Atomic op s dst src offset) a = (reg dst a.2, (off offset a.4, (reg src a.3, tt)))
operands_visible (insn.AtomicFetch op s dst src offset) a = (reg dst a.2, (off offset a.4, (reg src (nine_ten src a.3), tt)))
operands_visible (insn.CompareExchange s dst src offset) a = (reg dst a.1, (off offset a.3, (reg src a.2, tt)))

parts_visible : (i : Insn) → IsAllowed i → AreVisible (line_parts i)
parts_visible i a = (visible_word (mnemonic_of i) (named (mnemonic_of i) (allowed_word i a)), operands_visible i a)

-- ---- parts

-- a visible byte is neither a space nor a newline
lacks_visible : (mark : ℕ) (t : List ℕ) → mark < 33 → IsVisible t → lacks mark t ≡ true
lacks_visible mark [] low h = refl
lacks_visible mark (b ∷ bs) low h =
    let p = and_parts (leb 33 b) (list_all (λ b. leb 33 b) bs) h in
    lacks_cons mark b bs (grind (arith, p.0)) (lacks_visible mark bs low p.1)

all_lack_visible : (mark : ℕ) (ts : List (List ℕ)) → mark < 33 → AreVisible ts → all_lack mark ts ≡ true
all_lack_visible mark [] low h = refl
all_lack_visible mark (t ∷ ts) low h = all_lack_cons mark t ts (lacks_visible mark t low h.0) (all_lack_visible mark ts low h.1)

-- ---- lines

read_parts : (ps : List (List ℕ)) (i : Insn) → insn_in ps ≡ Some i → (ps ≡ line_parts i) × IsAllowed i
read_parts [] i e = absurd cc
read_parts (t ∷ ps) i e =
    let m = then_some (λ (m : Mnemonic). insn_with m ps) (mnemonic_named t) i e in
    let n = named_is t m.0 m.1 in
    let s = reads m.0 ps i n.1 m.2 in
    (ap (λ (x : List ℕ). x ∷ ps) (n.0 ∙ ap mnemonic_text (sym s.mnemonic)) ∙ ap (λ (x : List (List ℕ)). mnemonic_text (mnemonic_of i) ∷ x) s.operands, s.allowed)

-- a line that is read is the line of what is read
pub line_read : (t : List ℕ) (i : Insn) → insn_in (parts_between 32 t) ≡ Some i → (t ≡ insn_line i) × IsAllowed i
line_read t i e =
    let r = read_parts (parts_between 32 t) i e in
    (sym (joined_again 32 t) ∙ ap (joined_by 32) r.0, r.1)

-- the line of an allowed instruction is read as it
pub line_again : (i : Insn) → IsAllowed i → insn_in (parts_between 32 (insn_line i)) ≡ Some i
line_again i a =
    ap insn_in (parts_again 32 (mnemonic_text (mnemonic_of i)) (map operand_text (operands_of i)) (all_lack_visible 32 (line_parts i) (omega arith) (parts_visible i a)))
    ∙ ap (option_and_then (λ (m : Mnemonic). insn_with m (map operand_text (operands_of i)))) (named (mnemonic_of i) (allowed_word i a))
    ∙ reads_again i a

-- another allowed instruction has another line
pub line_one : (i j : Insn) → IsAllowed i → IsAllowed j → insn_line i ≡ insn_line j → i ≡ j
line_one i j a b e = same_some i j (sym (line_again i a) ∙ ap (λ (t : List ℕ). insn_in (parts_between 32 t)) e ∙ line_again j b)

-- no byte of a line is a newline
pub line_lacks : (i : Insn) → IsAllowed i → lacks 10 (insn_line i) ≡ true
line_lacks i a = joined_lacks 10 32 (line_parts i) refl (all_lack_visible 10 (line_parts i) (omega arith) (parts_visible i a))
