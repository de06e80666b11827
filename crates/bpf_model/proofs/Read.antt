-- What each row reads is an allowed instruction, whose encoding is the unit.
use Rattle.std.proofs.Common.{◌≡◌, ℕ, ◌<◌, ◌≤◌, ◌*◌, ◌+◌, ◌/◌, ◌%◌, ◌^◌, true, ◌==◌, List, ap, ◌∙◌, Bool, false, Some, None, refl, subst, arith, rules}
use Rattle.std.specs.Prelude.{FitsSigned, ◌++◌, option_map, if◌then◌else◌}
use Rattle.std.specs.Int.{w16, w32}
use Rattle.std.proofs.lemmas.Int.{of_z-to_z}
use Rattle.std.proofs.Math.Facts.{sfits_to_z}
use Rattle.std.proofs.lemmas.Bool.Decides.{nat_tests}
use Rattle.bpf_isa.specs.declared.insn.Insn.{Insn}
use Rattle.bpf_isa.specs.declared.insn.Insn.TheVariants as insn
use Rattle.bpf_isa.specs.declared.operation.AluOp.TheVariants as alu
use Rattle.bpf_model.specs.declared.fields.Fields.{Fields}
use Rattle.bpf_model.specs.Form as form
use Rattle.bpf_model.specs.Form.{row_insn, named, offset_of, imm_of, class_of, mode_of, width_of, operation_code, is_alu_wide, is_jump_wide}
use Rattle.bpf_model.specs.Encoding.{unit, alu_opcode, jump_opcode, access_opcode, offset_bits, imm_bits}
use Rattle.bpf_model.proofs.Tables as table
use Rattle.bpf_model.proofs.Tables.{InRange, Reads, ReadsWide, row-some, option_map-some, option_and_then-some, unit_of, unit-same}

-- the bits of a read offset and immediate, and that they fit
offset-bits : (f : Fields) → InRange f → offset_bits (offset_of f) ≡ f.offset
offset-bits f r = of_z-to_z w16 f.offset r.offset

imm-bits : (f : Fields) → InRange f → imm_bits (imm_of f) ≡ f.imm
imm-bits f r = of_z-to_z w32 f.imm r.imm

offset-fits : (f : Fields) → InRange f → FitsSigned w16 (offset_of f)
offset-fits f r = sfits_to_z {w = w16} {n = f.offset} (search rules)

imm-fits : (f : Fields) → InRange f → FitsSigned w32 (imm_of f)
imm-fits f r = sfits_to_z {w = w32} {n = f.imm} (search rules)

pub alu_imm : (f : Fields) → InRange f → (i : Insn) → row_insn (form.alu_imm f) ≡ Some i → Reads f i
alu_imm f r i h =
    let w = row-some (form.alu_imm f) i h in
    let t = w.0 in
    let m = option_map-some (λ op. insn.AluImm op (is_alu_wide f) f.dst (imm_of f)) (named form.binary_codes (operation_code f)) i w.1 in
    let b = table.binary (operation_code f) m.0 m.1 in
    let dst : f.dst ≤ 9 = grind (arith, nat_tests) in
    let src : 0 ≡ f.src = grind (arith, nat_tests) in
    let offset : 0 ≡ f.offset = grind (arith, nat_tests) in
    let opcode : alu_opcode m.0 0 (is_alu_wide f) ≡ f.opcode = grind (arith, nat_tests) in
    subst (Reads f) m.2 (record { allowed = (b.0, dst, imm-fits f r); bytes = unit-same f _ _ _ _ _ opcode refl src offset (imm-bits f r) })

pub alu_reg : (f : Fields) → InRange f → (i : Insn) → row_insn (form.alu_reg f) ≡ Some i → Reads f i
alu_reg f r i h =
    let w = row-some (form.alu_reg f) i h in
    let t = w.0 in
    let m = option_map-some (λ op. insn.AluReg op (is_alu_wide f) f.dst f.src) (named form.binary_codes (operation_code f)) i w.1 in
    let b = table.binary (operation_code f) m.0 m.1 in
    let dst : f.dst ≤ 9 = grind (arith, nat_tests) in
    let src : f.src ≤ 10 = grind (arith, nat_tests) in
    let offset : 0 ≡ f.offset = grind (arith, nat_tests) in
    let imm : 0 ≡ f.imm = grind (arith, nat_tests) in
    let opcode : alu_opcode m.0 1 (is_alu_wide f) ≡ f.opcode = grind (arith, nat_tests) in
    subst (Reads f) m.2 (record { allowed = (b.0, dst, src); bytes = unit-same f _ _ _ _ _ opcode refl refl offset imm })

pub div_imm : (f : Fields) → InRange f → (i : Insn) → row_insn (form.div_imm f) ≡ Some i → Reads f i
div_imm f r i h =
    let w = row-some (form.div_imm f) i h in
    let t = w.0 in
    let m = option_map-some (λ op. insn.DivImm op (is_alu_wide f) f.dst (imm_of f)) (form.division_of f) i w.1 in
    let b = table.division f m.0 m.1 in
    let dst : f.dst ≤ 9 = grind (arith, nat_tests) in
    let src : 0 ≡ f.src = grind (arith, nat_tests) in
    let opcode : alu_opcode m.0 0 (is_alu_wide f) ≡ f.opcode = grind (arith, nat_tests) in
    subst (Reads f) m.2 (record { allowed = (b.0, dst, imm-fits f r); bytes = unit-same f _ _ _ _ _ opcode refl src b.2 (imm-bits f r) })

pub div_reg : (f : Fields) → InRange f → (i : Insn) → row_insn (form.div_reg f) ≡ Some i → Reads f i
div_reg f r i h =
    let w = row-some (form.div_reg f) i h in
    let t = w.0 in
    let m = option_map-some (λ op. insn.DivReg op (is_alu_wide f) f.dst f.src) (form.division_of f) i w.1 in
    let b = table.division f m.0 m.1 in
    let dst : f.dst ≤ 9 = grind (arith, nat_tests) in
    let src : f.src ≤ 10 = grind (arith, nat_tests) in
    let imm : 0 ≡ f.imm = grind (arith, nat_tests) in
    let opcode : alu_opcode m.0 1 (is_alu_wide f) ≡ f.opcode = grind (arith, nat_tests) in
    subst (Reads f) m.2 (record { allowed = (b.0, dst, src); bytes = unit-same f _ _ _ _ _ opcode refl refl b.2 imm })

pub neg : (f : Fields) → InRange f → (i : Insn) → row_insn (form.neg f) ≡ Some i → Reads f i
neg f r i h =
    let w = row-some (form.neg f) i h in
    let t = w.0 in
    let e : insn.Neg (f.opcode == 0x87) f.dst ≡ i = cc w.1 in
    let dst : f.dst ≤ 9 = grind (arith, nat_tests) in
    let src : 0 ≡ f.src = grind (arith, nat_tests) in
    let offset : 0 ≡ f.offset = grind (arith, nat_tests) in
    let imm : 0 ≡ f.imm = grind (arith, nat_tests) in
    let opcode : alu_opcode alu.Neg 0 (f.opcode == 0x87) ≡ f.opcode = grind (arith, nat_tests) in
    subst (Reads f) e (record { allowed = dst; bytes = unit-same f _ _ _ _ _ opcode refl src offset imm })

pub mov_imm : (f : Fields) → InRange f → (i : Insn) → row_insn (form.mov_imm f) ≡ Some i → Reads f i
mov_imm f r i h =
    let w = row-some (form.mov_imm f) i h in
    let t = w.0 in
    let e : insn.MovImm (f.opcode == 0xb7) f.dst (imm_of f) ≡ i = cc w.1 in
    let dst : f.dst ≤ 9 = grind (arith, nat_tests) in
    let src : 0 ≡ f.src = grind (arith, nat_tests) in
    let offset : 0 ≡ f.offset = grind (arith, nat_tests) in
    let opcode : alu_opcode alu.Mov 0 (f.opcode == 0xb7) ≡ f.opcode = grind (arith, nat_tests) in
    subst (Reads f) e (record { allowed = (dst, imm-fits f r); bytes = unit-same f _ _ _ _ _ opcode refl src offset (imm-bits f r) })

pub mov_reg : (f : Fields) → InRange f → (i : Insn) → row_insn (form.mov_reg f) ≡ Some i → Reads f i
mov_reg f r i h =
    let w = row-some (form.mov_reg f) i h in
    let t = w.0 in
    let e : insn.MovReg (f.opcode == 0xbf) f.dst f.src ≡ i = cc w.1 in
    let dst : f.dst ≤ 9 = grind (arith, nat_tests) in
    let src : f.src ≤ 10 = grind (arith, nat_tests) in
    let offset : 0 ≡ f.offset = grind (arith, nat_tests) in
    let imm : 0 ≡ f.imm = grind (arith, nat_tests) in
    let opcode : alu_opcode alu.Mov 1 (f.opcode == 0xbf) ≡ f.opcode = grind (arith, nat_tests) in
    subst (Reads f) e (record { allowed = (dst, src); bytes = unit-same f _ _ _ _ _ opcode refl refl offset imm })

pub movsx_32 : (f : Fields) → InRange f → (i : Insn) → row_insn (form.movsx_32 f) ≡ Some i → Reads f i
movsx_32 f r i h =
    let w = row-some (form.movsx_32 f) i h in
    let t = w.0 in
    let m = option_map-some (λ op. insn.Movsx32 op f.dst f.src) (named form.move_offsets_32 f.offset) i w.1 in
    let b = table.move_32 f.offset m.0 m.1 in
    let dst : f.dst ≤ 9 = grind (arith, nat_tests) in
    let src : f.src ≤ 10 = grind (arith, nat_tests) in
    let imm : 0 ≡ f.imm = grind (arith, nat_tests) in
    let opcode : 0xbc ≡ f.opcode = grind (arith, nat_tests) in
    subst (Reads f) m.2 (record { allowed = (b.0, dst, src); bytes = unit-same f _ _ _ _ _ opcode refl refl b.1 imm })

pub movsx_64 : (f : Fields) → InRange f → (i : Insn) → row_insn (form.movsx_64 f) ≡ Some i → Reads f i
movsx_64 f r i h =
    let w = row-some (form.movsx_64 f) i h in
    let t = w.0 in
    let m = option_map-some (λ op. insn.Movsx64 op f.dst f.src) (named form.move_offsets_64 f.offset) i w.1 in
    let b = table.move_64 f.offset m.0 m.1 in
    let dst : f.dst ≤ 9 = grind (arith, nat_tests) in
    let src : f.src ≤ 10 = grind (arith, nat_tests) in
    let imm : 0 ≡ f.imm = grind (arith, nat_tests) in
    let opcode : 0xbf ≡ f.opcode = grind (arith, nat_tests) in
    subst (Reads f) m.2 (record { allowed = (b.0, dst, src); bytes = unit-same f _ _ _ _ _ opcode refl refl b.1 imm })

pub to_little : (f : Fields) → InRange f → (i : Insn) → row_insn (form.to_little f) ≡ Some i → Reads f i
to_little f r i h =
    let w = row-some (form.to_little f) i h in
    let t = w.0 in
    let m = option_map-some (λ bits. insn.ToLittle bits f.dst) (named form.swap_imms f.imm) i w.1 in
    let b = table.swap_width f.imm m.0 m.1 in
    let dst : f.dst ≤ 9 = grind (arith, nat_tests) in
    let src : 0 ≡ f.src = grind (arith, nat_tests) in
    let offset : 0 ≡ f.offset = grind (arith, nat_tests) in
    let opcode : 0xd4 ≡ f.opcode = grind (arith, nat_tests) in
    subst (Reads f) m.2 (record { allowed = dst; bytes = unit-same f _ _ _ _ _ opcode refl src offset b })

pub to_big : (f : Fields) → InRange f → (i : Insn) → row_insn (form.to_big f) ≡ Some i → Reads f i
to_big f r i h =
    let w = row-some (form.to_big f) i h in
    let t = w.0 in
    let m = option_map-some (λ bits. insn.ToBig bits f.dst) (named form.swap_imms f.imm) i w.1 in
    let b = table.swap_width f.imm m.0 m.1 in
    let dst : f.dst ≤ 9 = grind (arith, nat_tests) in
    let src : 0 ≡ f.src = grind (arith, nat_tests) in
    let offset : 0 ≡ f.offset = grind (arith, nat_tests) in
    let opcode : 0xdc ≡ f.opcode = grind (arith, nat_tests) in
    subst (Reads f) m.2 (record { allowed = dst; bytes = unit-same f _ _ _ _ _ opcode refl src offset b })

pub swap : (f : Fields) → InRange f → (i : Insn) → row_insn (form.swap f) ≡ Some i → Reads f i
swap f r i h =
    let w = row-some (form.swap f) i h in
    let t = w.0 in
    let m = option_map-some (λ bits. insn.Swap bits f.dst) (named form.swap_imms f.imm) i w.1 in
    let b = table.swap_width f.imm m.0 m.1 in
    let dst : f.dst ≤ 9 = grind (arith, nat_tests) in
    let src : 0 ≡ f.src = grind (arith, nat_tests) in
    let offset : 0 ≡ f.offset = grind (arith, nat_tests) in
    let opcode : 0xd7 ≡ f.opcode = grind (arith, nat_tests) in
    subst (Reads f) m.2 (record { allowed = dst; bytes = unit-same f _ _ _ _ _ opcode refl src offset b })

pub ja : (f : Fields) → InRange f → (i : Insn) → row_insn (form.ja f) ≡ Some i → Reads f i
ja f r i h =
    let w = row-some (form.ja f) i h in
    let t = w.0 in
    let e : insn.Jump (offset_of f) ≡ i = cc w.1 in
    let dst : 0 ≡ f.dst = grind (arith, nat_tests) in
    let src : 0 ≡ f.src = grind (arith, nat_tests) in
    let imm : 0 ≡ f.imm = grind (arith, nat_tests) in
    let opcode : 0x05 ≡ f.opcode = grind (arith, nat_tests) in
    subst (Reads f) e (record { allowed = offset-fits f r; bytes = unit-same f _ _ _ _ _ opcode dst src (offset-bits f r) imm })

pub ja_long : (f : Fields) → InRange f → (i : Insn) → row_insn (form.ja_long f) ≡ Some i → Reads f i
ja_long f r i h =
    let w = row-some (form.ja_long f) i h in
    let t = w.0 in
    let e : insn.JumpLong (imm_of f) ≡ i = cc w.1 in
    let dst : 0 ≡ f.dst = grind (arith, nat_tests) in
    let src : 0 ≡ f.src = grind (arith, nat_tests) in
    let offset : 0 ≡ f.offset = grind (arith, nat_tests) in
    let opcode : 0x06 ≡ f.opcode = grind (arith, nat_tests) in
    subst (Reads f) e (record { allowed = imm-fits f r; bytes = unit-same f _ _ _ _ _ opcode dst src offset (imm-bits f r) })

pub branch_imm : (f : Fields) → InRange f → (i : Insn) → row_insn (form.branch_imm f) ≡ Some i → Reads f i
branch_imm f r i h =
    let w = row-some (form.branch_imm f) i h in
    let t = w.0 in
    let m = option_map-some (λ op. insn.BranchImm op (is_jump_wide f) f.dst (offset_of f) (imm_of f)) (named form.jump_codes (operation_code f)) i w.1 in
    let b = table.jump_named (operation_code f) m.0 m.1 in
    let dst : f.dst ≤ 10 = grind (arith, nat_tests) in
    let src : 0 ≡ f.src = grind (arith, nat_tests) in
    let opcode : jump_opcode m.0 0 (is_jump_wide f) ≡ f.opcode = grind (arith, nat_tests) in
    subst (Reads f) m.2 (record { allowed = (dst, offset-fits f r, imm-fits f r); bytes = unit-same f _ _ _ _ _ opcode refl src (offset-bits f r) (imm-bits f r) })

pub branch_reg : (f : Fields) → InRange f → (i : Insn) → row_insn (form.branch_reg f) ≡ Some i → Reads f i
branch_reg f r i h =
    let w = row-some (form.branch_reg f) i h in
    let t = w.0 in
    let m = option_map-some (λ op. insn.BranchReg op (is_jump_wide f) f.dst f.src (offset_of f)) (named form.jump_codes (operation_code f)) i w.1 in
    let b = table.jump_named (operation_code f) m.0 m.1 in
    let dst : f.dst ≤ 10 = grind (arith, nat_tests) in
    let src : f.src ≤ 10 = grind (arith, nat_tests) in
    let imm : 0 ≡ f.imm = grind (arith, nat_tests) in
    let opcode : jump_opcode m.0 1 (is_jump_wide f) ≡ f.opcode = grind (arith, nat_tests) in
    subst (Reads f) m.2 (record { allowed = (dst, src, offset-fits f r); bytes = unit-same f _ _ _ _ _ opcode refl refl (offset-bits f r) imm })

pub call_helper : (f : Fields) → InRange f → (i : Insn) → row_insn (form.call_helper f) ≡ Some i → Reads f i
call_helper f r i h =
    let w = row-some (form.call_helper f) i h in
    let t = w.0 in
    let e : insn.CallHelper ≡ i = cc w.1 in
    let dst : 0 ≡ f.dst = grind (arith, nat_tests) in
    let src : 0 ≡ f.src = grind (arith, nat_tests) in
    let offset : 0 ≡ f.offset = grind (arith, nat_tests) in
    let imm : 1 ≡ f.imm = grind (arith, nat_tests) in
    let opcode : 0x85 ≡ f.opcode = grind (arith, nat_tests) in
    subst (Reads f) e (record { allowed = tt; bytes = unit-same f _ _ _ _ _ opcode dst src offset imm })

pub call_local : (f : Fields) → InRange f → (i : Insn) → row_insn (form.call_local f) ≡ Some i → Reads f i
call_local f r i h =
    let w = row-some (form.call_local f) i h in
    let t = w.0 in
    let e : insn.CallLocal (imm_of f) ≡ i = cc w.1 in
    let dst : 0 ≡ f.dst = grind (arith, nat_tests) in
    let src : 1 ≡ f.src = grind (arith, nat_tests) in
    let offset : 0 ≡ f.offset = grind (arith, nat_tests) in
    let opcode : 0x85 ≡ f.opcode = grind (arith, nat_tests) in
    subst (Reads f) e (record { allowed = imm-fits f r; bytes = unit-same f _ _ _ _ _ opcode dst src offset (imm-bits f r) })

pub exit : (f : Fields) → InRange f → (i : Insn) → row_insn (form.exit f) ≡ Some i → Reads f i
exit f r i h =
    let w = row-some (form.exit f) i h in
    let t = w.0 in
    let e : insn.Exit ≡ i = cc w.1 in
    let dst : 0 ≡ f.dst = grind (arith, nat_tests) in
    let src : 0 ≡ f.src = grind (arith, nat_tests) in
    let offset : 0 ≡ f.offset = grind (arith, nat_tests) in
    let imm : 0 ≡ f.imm = grind (arith, nat_tests) in
    let opcode : 0x95 ≡ f.opcode = grind (arith, nat_tests) in
    subst (Reads f) e (record { allowed = tt; bytes = unit-same f _ _ _ _ _ opcode dst src offset imm })

pub load : (f : Fields) → InRange f → (i : Insn) → row_insn (form.load_plain f) ≡ Some i → Reads f i
load f r i h =
    let w = row-some (form.load_plain f) i h in
    let t = w.0 in
    let m = option_map-some (λ s. insn.Load s f.dst f.src (offset_of f)) (named form.access_widths (width_of f)) i w.1 in
    let b = table.access_width (width_of f) m.0 m.1 in
    let dst : f.dst ≤ 9 = grind (arith, nat_tests) in
    let src : f.src ≤ 10 = grind (arith, nat_tests) in
    let imm : 0 ≡ f.imm = grind (arith, nat_tests) in
    let opcode : access_opcode 3 m.0 1 ≡ f.opcode = grind (arith, nat_tests) in
    subst (Reads f) m.2 (record { allowed = (dst, src, offset-fits f r); bytes = unit-same f _ _ _ _ _ opcode refl refl (offset-bits f r) imm })

pub load_signed : (f : Fields) → InRange f → (i : Insn) → row_insn (form.load_signed f) ≡ Some i → Reads f i
load_signed f r i h =
    let w = row-some (form.load_signed f) i h in
    let t = w.0 in
    let m = option_map-some (λ s. insn.LoadSigned s f.dst f.src (offset_of f)) (named form.signed_widths (width_of f)) i w.1 in
    let b = table.signed_width (width_of f) m.0 m.1 in
    let dst : f.dst ≤ 9 = grind (arith, nat_tests) in
    let src : f.src ≤ 10 = grind (arith, nat_tests) in
    let imm : 0 ≡ f.imm = grind (arith, nat_tests) in
    let opcode : access_opcode 4 m.0 1 ≡ f.opcode = grind (arith, nat_tests) in
    subst (Reads f) m.2 (record { allowed = (b.0, dst, src, offset-fits f r); bytes = unit-same f _ _ _ _ _ opcode refl refl (offset-bits f r) imm })

pub store_imm : (f : Fields) → InRange f → (i : Insn) → row_insn (form.store_imm f) ≡ Some i → Reads f i
store_imm f r i h =
    let w = row-some (form.store_imm f) i h in
    let t = w.0 in
    let m = option_map-some (λ s. insn.StoreImm s f.dst (offset_of f) (imm_of f)) (named form.access_widths (width_of f)) i w.1 in
    let b = table.access_width (width_of f) m.0 m.1 in
    let dst : f.dst ≤ 10 = grind (arith, nat_tests) in
    let src : 0 ≡ f.src = grind (arith, nat_tests) in
    let opcode : access_opcode 3 m.0 2 ≡ f.opcode = grind (arith, nat_tests) in
    subst (Reads f) m.2 (record { allowed = (dst, offset-fits f r, imm-fits f r); bytes = unit-same f _ _ _ _ _ opcode refl src (offset-bits f r) (imm-bits f r) })

pub store_reg : (f : Fields) → InRange f → (i : Insn) → row_insn (form.store_reg f) ≡ Some i → Reads f i
store_reg f r i h =
    let w = row-some (form.store_reg f) i h in
    let t = w.0 in
    let m = option_map-some (λ s. insn.StoreReg s f.dst f.src (offset_of f)) (named form.access_widths (width_of f)) i w.1 in
    let b = table.access_width (width_of f) m.0 m.1 in
    let dst : f.dst ≤ 10 = grind (arith, nat_tests) in
    let src : f.src ≤ 10 = grind (arith, nat_tests) in
    let imm : 0 ≡ f.imm = grind (arith, nat_tests) in
    let opcode : access_opcode 3 m.0 3 ≡ f.opcode = grind (arith, nat_tests) in
    subst (Reads f) m.2 (record { allowed = (dst, src, offset-fits f r); bytes = unit-same f _ _ _ _ _ opcode refl refl (offset-bits f r) imm })

pub atomic_plain : (f : Fields) → InRange f → (i : Insn) → row_insn (form.atomic_plain f) ≡ Some i → Reads f i
atomic_plain f r i h =
    let w = row-some (form.atomic_plain f) i h in
    let t = w.0 in
    let s = option_and_then-some (λ s. option_map (λ op. insn.Atomic op s f.dst f.src (offset_of f)) (named form.atomic_imms f.imm)) (named form.atomic_widths (width_of f)) i w.1 in
    let m = option_map-some (λ op. insn.Atomic op s.0 f.dst f.src (offset_of f)) (named form.atomic_imms f.imm) i s.2 in
    let a = table.atomic_width (width_of f) s.0 s.1 in
    let b = table.atomic_imm f.imm m.0 m.1 in
    let dst : f.dst ≤ 10 = grind (arith, nat_tests) in
    let src : f.src ≤ 10 = grind (arith, nat_tests) in
    let opcode : access_opcode 6 s.0 3 ≡ f.opcode = grind (arith, nat_tests) in
    subst (Reads f) m.2 (record { allowed = (b.0, a.0, dst, src, offset-fits f r); bytes = unit-same f _ _ _ _ _ opcode refl refl (offset-bits f r) b.1 })

pub atomic_fetch : (f : Fields) → InRange f → (i : Insn) → row_insn (form.atomic_fetch f) ≡ Some i → Reads f i
atomic_fetch f r i h =
    let w = row-some (form.atomic_fetch f) i h in
    let t = w.0 in
    let s = option_and_then-some (λ s. option_map (λ op. insn.AtomicFetch op s f.dst f.src (offset_of f)) (named form.fetch_imms f.imm)) (named form.atomic_widths (width_of f)) i w.1 in
    let m = option_map-some (λ op. insn.AtomicFetch op s.0 f.dst f.src (offset_of f)) (named form.fetch_imms f.imm) i s.2 in
    let a = table.atomic_width (width_of f) s.0 s.1 in
    let b = table.fetch_imm f.imm m.0 m.1 in
    let dst : f.dst ≤ 10 = grind (arith, nat_tests) in
    let src : f.src ≤ 9 = grind (arith, nat_tests) in
    let opcode : access_opcode 6 s.0 3 ≡ f.opcode = grind (arith, nat_tests) in
    subst (Reads f) m.2 (record { allowed = (b.0, a.0, dst, src, offset-fits f r); bytes = unit-same f _ _ _ _ _ opcode refl refl (offset-bits f r) b.1 })

pub compare_exchange : (f : Fields) → InRange f → (i : Insn) → row_insn (form.compare_exchange f) ≡ Some i → Reads f i
compare_exchange f r i h =
    let w = row-some (form.compare_exchange f) i h in
    let t = w.0 in
    let m = option_map-some (λ s. insn.CompareExchange s f.dst f.src (offset_of f)) (named form.atomic_widths (width_of f)) i w.1 in
    let b = table.atomic_width (width_of f) m.0 m.1 in
    let dst : f.dst ≤ 10 = grind (arith, nat_tests) in
    let src : f.src ≤ 10 = grind (arith, nat_tests) in
    let imm : 0xf1 ≡ f.imm = grind (arith, nat_tests) in
    let opcode : access_opcode 6 m.0 3 ≡ f.opcode = grind (arith, nat_tests) in
    subst (Reads f) m.2 (record { allowed = (b.0, dst, src, offset-fits f r); bytes = unit-same f _ _ _ _ _ opcode refl refl (offset-bits f r) imm })

-- a second unit is zero but for its immediate
second : (f n : Fields) → InRange n → (x : ℕ) → form.second_imm (Some n) ≡ Some x → (unit 0 0 0 0 x ≡ unit_of n) × (x ≡ n.imm)
second f n q x h = by_test (form.is_second n) refl h
  where
    by_test : (b : Bool) → form.is_second n ≡ b → (if b then Some n.imm else None) ≡ Some x → (unit 0 0 0 0 x ≡ unit_of n) × (x ≡ n.imm)
    by_test true t e =
        let opcode : 0 ≡ n.opcode = grind (arith, nat_tests) in
        let dst : 0 ≡ n.dst = grind (arith, nat_tests) in
        let src : 0 ≡ n.src = grind (arith, nat_tests) in
        let offset : 0 ≡ n.offset = grind (arith, nat_tests) in
        let imm : x ≡ n.imm = cc in
        (unit-same n 0 0 0 0 x opcode dst src offset imm, imm)
    by_test false t e = cc

-- the load of 64 bits reads two units
pub load_imm : (f n : Fields) → InRange f → InRange n → (i : Insn) → row_insn (form.load_imm f (Some n)) ≡ Some i → ReadsWide f n i
load_imm f n r q i h =
    let w = row-some (form.load_imm f (Some n)) i h in
    let t = w.0 in
    let m = option_map-some (λ high. insn.LoadImm f.dst (f.imm + 2 ^ 32 * high)) (form.second_imm (Some n)) i w.1 in
    let b = second f n q m.0 m.1 in
    let low : f.imm < 2 ^ 32 = r.imm in
    let high : m.0 < 2 ^ 32 = omega (arith, b.1, q.imm) in
    let dst : f.dst ≤ 9 = grind (arith, nat_tests) in
    let src : 0 ≡ f.src = grind (arith, nat_tests) in
    let offset : 0 ≡ f.offset = grind (arith, nat_tests) in
    let opcode : 0x18 ≡ f.opcode = grind (arith, nat_tests) in
    let first = unit-same f 0x18 f.dst 0 0 ((f.imm + 2 ^ 32 * m.0) % 2 ^ 32) opcode refl src offset (omega arith) in
    let high_half : (f.imm + 2 ^ 32 * m.0) / 2 ^ 32 ≡ m.0 = omega arith in
    let bytes = ap (λ (low' : List ℕ). low' ++ unit 0 0 0 0 ((f.imm + 2 ^ 32 * m.0) / 2 ^ 32)) first
    ∙ ap (λ (x : ℕ). unit_of f ++ unit 0 0 0 0 x) high_half ∙ ap (λ (high' : List ℕ). unit_of f ++ high') b.0 in
    subst (ReadsWide f n) m.2 (record { allowed = (dst, omega arith); bytes = bytes })
