-- A unit fits only rows of the class of its opcode.
use Rattle.std.proofs.Common.{◌≡◌, ◌<◌, ◌≤◌, Bool, true, false, List, [], ◌∷◌, ◌++◌, Option, Some, None, refl, ap, ◌∙◌, arith}
use Rattle.std.specs.Prelude.{◌⊎◌, if◌then◌else◌}
use Rattle.std.specs.Option.{option_or}
use Rattle.std.proofs.lemmas.Bool.Decides.{nat_tests}
use Rattle.bpf_isa.specs.declared.insn.Insn.{Insn}
use Rattle.bpf_model.specs.declared.fields.Fields.{Fields}
use Rattle.bpf_model.specs.Form as form
use Rattle.bpf_model.specs.Form.{Row, row_insn, first_fit, insn_of, class_of}
use Rattle.bpf_model.proofs.Tables.{EachRow}
use Rattle.bpf_decode.specs.Groups.{alu_rows, jump_rows, access_rows}

-- a row whose test fails makes nothing
row-none : (row : Row) → (row.fits ≡ true → ⊥) → row_insn row ≡ None
row-none row never = by_test row.fits never
  where
    by_test : (b : Bool) → (b ≡ true → ⊥) → (if b then row.gives else None) ≡ None
    by_test true never = absurd (never refl)
    by_test false never = refl

-- rows that all need what does not hold make nothing
first_fit-none : (P : Type 0) (rows : List Row) → EachRow (λ row. row.fits ≡ true → P) rows → (P → ⊥) → first_fit rows ≡ None
first_fit-none P [] each never = refl
first_fit-none P (row ∷ rest) each never =
    ap (λ (o : Option Insn). option_or o (first_fit rest)) (row-none row (λ fits. never (each.0 fits))) ∙ first_fit-none P rest each.1 never

-- the first of two lists that fits
first_fit-append : (xs ys : List Row) → first_fit (xs ++ ys) ≡ option_or (first_fit xs) (first_fit ys)
first_fit-append [] ys = refl
first_fit-append (row ∷ rest) ys = by_row (row_insn row) (first_fit-append rest ys)
  where
    by_row : (o : Option Insn) → first_fit (rest ++ ys) ≡ option_or (first_fit rest) (first_fit ys)
        → option_or o (first_fit (rest ++ ys)) ≡ option_or (option_or o (first_fit rest)) (first_fit ys)
    by_row None e = e
    by_row (Some i) e = refl

option_or-none : (o : Option Insn) → option_or o None ≡ o
option_or-none None = refl
option_or-none (Some i) = refl

-- the classes that the tests of each group ask for
alu-class : (f : Fields) → EachRow (λ row. row.fits ≡ true → (class_of f ≡ 4) ⊎ (class_of f ≡ 7)) (alu_rows f)
alu-class f = (
  λ t. grind (arith, nat_tests),
  (
    λ t. grind (arith, nat_tests),
    (
      λ t. grind (arith, nat_tests),
      (
        λ t. grind (arith, nat_tests),
        (
          λ t. grind (arith, nat_tests),
          (
            λ t. grind (arith, nat_tests),
            (
              λ t. grind (arith, nat_tests),
              (
                λ t. grind (arith, nat_tests),
                (λ t. grind (arith, nat_tests), (λ t. grind (arith, nat_tests), (λ t. grind (arith, nat_tests), (λ t. grind (arith, nat_tests), tt)))),
              ),
            ),
          ),
        ),
      ),
    ),
  ),
)

jump-class : (f : Fields) → EachRow (λ row. row.fits ≡ true → (class_of f ≡ 5) ⊎ (class_of f ≡ 6)) (jump_rows f)
jump-class f = (
  λ t. grind (arith, nat_tests),
  (
    λ t. grind (arith, nat_tests),
    (
      λ t. grind (arith, nat_tests),
      (
        λ t. grind (arith, nat_tests),
        (λ t. grind (arith, nat_tests), (λ t. grind (arith, nat_tests), (λ t. grind (arith, nat_tests), tt))),
      ),
    ),
  ),
)

access-class : (f : Fields) → EachRow (λ row. row.fits ≡ true → (0 < class_of f) × (class_of f ≤ 3)) (access_rows f)
access-class f = (
  λ t. grind (arith, nat_tests),
  (
    λ t. grind (arith, nat_tests),
    (
      λ t. grind (arith, nat_tests),
      (
        λ t. grind (arith, nat_tests),
        (λ t. grind (arith, nat_tests), (λ t. grind (arith, nat_tests), (λ t. grind (arith, nat_tests), tt))),
      ),
    ),
  ),
)

load_imm-class : (f : Fields) (next : Option Fields) → (form.load_imm f next).fits ≡ true → class_of f ≡ 0
load_imm-class f next t = grind (arith, nat_tests)

-- the groups in the order of the table
insn_of-groups : (f : Fields) (next : Option Fields)
    → insn_of f next ≡ option_or (first_fit (alu_rows f)) (option_or (first_fit (jump_rows f))
    (option_or (row_insn (form.load_imm f next)) (first_fit (access_rows f))))
insn_of-groups f next =
    first_fit-append (alu_rows f) (jump_rows f ++ form.load_imm f next ∷ access_rows f)
    ∙ ap (λ (o : Option Insn). option_or (first_fit (alu_rows f)) o) (first_fit-append (jump_rows f) (form.load_imm f next ∷ access_rows f))

-- the instruction of a unit, where its class is known
no_alu : (f : Fields) → ((class_of f ≡ 4) ⊎ (class_of f ≡ 7) → ⊥) → first_fit (alu_rows f) ≡ None
no_alu f never = first_fit-none ((class_of f ≡ 4) ⊎ (class_of f ≡ 7)) (alu_rows f) (alu-class f) never

no_jump : (f : Fields) → ((class_of f ≡ 5) ⊎ (class_of f ≡ 6) → ⊥) → first_fit (jump_rows f) ≡ None
no_jump f never = first_fit-none ((class_of f ≡ 5) ⊎ (class_of f ≡ 6)) (jump_rows f) (jump-class f) never

no_access : (f : Fields) → ((0 < class_of f) × (class_of f ≤ 3) → ⊥) → first_fit (access_rows f) ≡ None
no_access f never = first_fit-none ((0 < class_of f) × (class_of f ≤ 3)) (access_rows f) (access-class f) never

pub insn_of-alu : (f : Fields) (next : Option Fields) → (class_of f ≡ 4) ⊎ (class_of f ≡ 7) → insn_of f next ≡ first_fit (alu_rows f)
insn_of-alu f next h =
    let jumps = no_jump f (λ w. grind arith) in
    let load = row-none (form.load_imm f next) (λ t. let c = load_imm-class f next t in grind arith) in
    let accesses = no_access f (λ w. grind arith) in
    insn_of-groups f next ∙ rw (jumps, load, accesses) (option_or-none (first_fit (alu_rows f)))

pub insn_of-jump : (f : Fields) (next : Option Fields) → (class_of f ≡ 5) ⊎ (class_of f ≡ 6) → insn_of f next ≡ first_fit (jump_rows f)
insn_of-jump f next h =
    let alus = no_alu f (λ w. grind arith) in
    let load = row-none (form.load_imm f next) (λ t. let c = load_imm-class f next t in grind arith) in
    let accesses = no_access f (λ w. grind arith) in
    insn_of-groups f next ∙ rw (alus, load, accesses) (option_or-none (first_fit (jump_rows f)))

pub insn_of-load_imm : (f : Fields) (next : Option Fields) → class_of f ≡ 0 → insn_of f next ≡ row_insn (form.load_imm f next)
insn_of-load_imm f next h =
    let alus = no_alu f (λ w. grind arith) in
    let jumps = no_jump f (λ w. grind arith) in
    let accesses = no_access f (λ w. omega arith) in
    insn_of-groups f next ∙ rw (alus, jumps, accesses) (option_or-none (row_insn (form.load_imm f next)))

pub insn_of-access : (f : Fields) (next : Option Fields) → 0 < class_of f → class_of f ≤ 3 → insn_of f next ≡ first_fit (access_rows f)
insn_of-access f next low high =
    let alus = no_alu f (λ w. grind arith) in
    let jumps = no_jump f (λ w. grind arith) in
    let load = row-none (form.load_imm f next) (λ t. let c = load_imm-class f next t in omega arith) in
    insn_of-groups f next ∙ rw (alus, jumps, load) refl
