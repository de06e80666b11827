-- The rows of the table of forms, by the classes of their opcodes.
use Rattle.std.specs.Prelude.{List, [], ◌∷◌}
use Rattle.bpf_model.specs.declared.fields.Fields.{Fields}
use Rattle.bpf_model.specs.Form as form
use Rattle.bpf_model.specs.Form.{Row}

-- arithmetic: classes 4 and 7
abbrev pub alu_rows : Fields → List Row
alu_rows f =
    form.alu_imm f ∷ form.alu_reg f ∷ form.div_imm f ∷ form.div_reg f ∷ form.neg f ∷ form.mov_imm f ∷ form.mov_reg f
    ∷ form.movsx_32 f ∷ form.movsx_64 f ∷ form.to_little f ∷ form.to_big f ∷ form.swap f ∷ []

-- jumps: classes 5 and 6
abbrev pub jump_rows : Fields → List Row
jump_rows f =
    form.ja f ∷ form.ja_long f ∷ form.branch_imm f ∷ form.branch_reg f
    ∷ form.call_helper f ∷ form.call_local f ∷ form.exit f ∷ []

-- accesses to memory: classes 1, 2 and 3
abbrev pub access_rows : Fields → List Row
access_rows f =
    form.load_plain f ∷ form.load_signed f ∷ form.store_imm f ∷ form.store_reg f ∷ form.atomic_plain f ∷ form.atomic_fetch f
    ∷ form.compare_exchange f ∷ []
