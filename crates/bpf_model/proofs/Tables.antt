-- What follows from a row that read a unit: its test holds, and its tables have the number.
use Rattle.std.proofs.Common.{◌≡◌, ℕ, ◌<◌, ◌+◌, ◌^◌, Bool, true, false, ◌==◌, List, [], ◌∷◌, ◌++◌, Option, Some, None, refl, subst}
use Rattle.std.specs.Prelude.{option_map, option_and_then, if◌then◌else◌}
use Rattle.std.proofs.lemmas.Bool.{eqb-true}
use Rattle.std.specs.Option.{option_or}
use Rattle.bpf_isa.specs.declared.insn.Insn.{Insn}
use Rattle.bpf_isa.specs.declared.operand.Size.{Size}
use Rattle.bpf_isa.specs.declared.operand.Width.{Width}
use Rattle.bpf_isa.specs.Width.{bits_of}
use Rattle.bpf_isa.specs.declared.operation.AluOp.{AluOp}
use Rattle.bpf_isa.specs.declared.operation.JumpOp.{JumpOp}
use Rattle.bpf_isa.specs.declared.operation.AtomicOp.{AtomicOp}
use Rattle.bpf_model.specs.declared.fields.Fields.{Fields}
use Rattle.bpf_model.specs.Form as form
use Rattle.bpf_model.specs.Form.{Row, row_insn, first_fit, named, operation_code, division_of}
use Rattle.bpf_model.specs.Encoding.{IsAllowed, encoding, unit, is_binary, is_division, is_move_32, is_move_64, is_narrow, is_atomic_size, is_plain, is_fetch, alu_code, alu_offset, jump_code, size_code, atomic_code}

-- fields that 8 bytes may hold
pub record InRange (f : Fields) : Type 0 where
  pub opcode : f.opcode < 256
  pub dst : f.dst < 16
  pub src : f.src < 16
  pub offset : f.offset < 2 ^ 16
  pub imm : f.imm < 2 ^ 32

-- the bytes of fields
abbrev pub unit_of : Fields → List ℕ
unit_of f = unit f.opcode f.dst f.src f.offset f.imm

-- a row read one unit, or two, as the instruction
pub record Reads (f : Fields) (i : Insn) : Type 0 where
  pub allowed : IsAllowed i
  pub bytes : encoding i ≡ unit_of f

pub record ReadsWide (f n : Fields) (i : Insn) : Type 0 where
  pub allowed : IsAllowed i
  pub bytes : encoding i ≡ unit_of f ++ unit_of n

-- units with the same fields are the same
pub unit-same : (f : Fields) (o d s x m : ℕ) → o ≡ f.opcode → d ≡ f.dst → s ≡ f.src → x ≡ f.offset → m ≡ f.imm
    → unit o d s x m ≡ unit_of f
unit-same f o d s x m p q r t e = rw (p, q, r, t, e) refl

-- a row that made an instruction
pub row-some : (row : Row) (i : Insn) → row_insn row ≡ Some i → (row.fits ≡ true) × (row.gives ≡ Some i)
row-some row i h = by_test row.fits refl h
  where
    by_test : (b : Bool) → row.fits ≡ b → (if b then row.gives else None) ≡ Some i → (row.fits ≡ true) × (row.gives ≡ Some i)
    by_test true t q = (t, q)
    by_test false t q = cc

-- what each row proves
abbrev pub EachRow : (Row → Type 0) → List Row → Type 0
EachRow P [] = Unit {0}
EachRow P (row ∷ rest) = P row × EachRow P rest

-- what follows from each row follows from the first that fits
pub first_fit-some : (P : Type 0) (i : Insn) (rows : List Row) → EachRow (λ row. row_insn row ≡ Some i → P) rows → first_fit rows ≡ Some i → P
first_fit-some P i [] each h = cc
first_fit-some P i (row ∷ rest) each h = by_row (row_insn row) each.0 h (first_fit-some P i rest each.1)
  where
    by_row : (o : Option Insn) → (o ≡ Some i → P) → option_or o (first_fit rest) ≡ Some i → (first_fit rest ≡ Some i → P) → P
    by_row None here h later = later h
    by_row (Some x) here h later = here h

-- an instruction made of what was looked up
pub option_map-some : {A : Type 0} (g : A → Insn) (o : Option A) (i : Insn) → option_map g o ≡ Some i → (x : A) × (o ≡ Some x) × (g x ≡ i)
option_map-some g None i h = cc
option_map-some g (Some x) i h = (x, refl, (cc))

pub option_and_then-some : {A : Type 0} (g : A → Option Insn) (o : Option A) (i : Insn) → option_and_then g o ≡ Some i → (x : A) × (o ≡ Some x) × (g x ≡ Some i)
option_and_then-some g None i h = cc
option_and_then-some g (Some x) i h = (x, refl, h)

-- what each entry of a table has
abbrev pub Entries : {A : Type 0} → (ℕ → A → Type 0) → List (ℕ × A) → Type 0
Entries P [] = Unit {0}
Entries P (e ∷ es) = P e.0 e.1 × Entries P es

-- what each entry has is true of what was looked up
pub named-some : {A : Type 0} (P : ℕ → A → Type 0) (t : List (ℕ × A)) (n : ℕ) (x : A) → Entries P t → named t n ≡ Some x → P n x
named-some P [] n x a h = cc
named-some {A} P (e ∷ es) n x a h = first_or_rest (e.0 == n) refl h (λ q. named-some P es n x a.1 q)
  where
    first_or_rest : (b : Bool) → (e.0 == n) ≡ b → (if b then Some e.1 else named es n) ≡ Some x → (named es n ≡ Some x → P n x) → P n x
    first_or_rest true t q rest =
        let number : e.0 ≡ n = eqb-true e.0 n t in
        let value : e.1 ≡ x = cc in
        subst (λ m. P m x) number (subst (λ y. P e.0 y) value a.0)
    first_or_rest false t q rest = rest q

pub binary : (n : ℕ) (op : AluOp) → named form.binary_codes n ≡ Some op → (is_binary op ≡ true) × (alu_code op ≡ n)
binary n op h = named-some (λ m o. (is_binary o ≡ true) × (alu_code o ≡ m)) form.binary_codes n op
    ((refl, refl), ((refl, refl), ((refl, refl), ((refl, refl), ((refl, refl), ((refl, refl), ((refl, refl), ((refl, refl), ((refl, refl), tt))))))))) h

unsigned_division : (n : ℕ) (op : AluOp) → named form.unsigned_division_codes n ≡ Some op
    → (is_division op ≡ true) × (alu_code op ≡ n) × (alu_offset op ≡ 0)
unsigned_division n op h = named-some (λ m o. (is_division o ≡ true) × (alu_code o ≡ m) × (alu_offset o ≡ 0)) form.unsigned_division_codes n op
    ((refl, refl, refl), ((refl, refl, refl), tt)) h

signed_division : (n : ℕ) (op : AluOp) → named form.signed_division_codes n ≡ Some op
    → (is_division op ≡ true) × (alu_code op ≡ n) × (alu_offset op ≡ 1)
signed_division n op h = named-some (λ m o. (is_division o ≡ true) × (alu_code o ≡ m) × (alu_offset o ≡ 1)) form.signed_division_codes n op
    ((refl, refl, refl), ((refl, refl, refl), tt)) h

pub division : (f : Fields) (op : AluOp) → division_of f ≡ Some op → (is_division op ≡ true) × (alu_code op ≡ operation_code f) × (alu_offset op ≡ f.offset)
division f op h = by_offset (f.offset == 0) (f.offset == 1) refl refl h
  where
    by_offset : (a b : Bool) → (f.offset == 0) ≡ a → (f.offset == 1) ≡ b
        → (if a then named form.unsigned_division_codes (operation_code f) else if b then named form.signed_division_codes (operation_code f) else None) ≡ Some op
        → (is_division op ≡ true) × (alu_code op ≡ operation_code f) × (alu_offset op ≡ f.offset)
    by_offset true b p q h =
        let d = unsigned_division (operation_code f) op h in
        let zero : f.offset ≡ 0 = eqb-true f.offset 0 p in (d.0, d.1, cc)
    by_offset false true p q h =
        let d = signed_division (operation_code f) op h in
        let one : f.offset ≡ 1 = eqb-true f.offset 1 q in (d.0, d.1, cc)
    by_offset false false p q h = cc

pub move_32 : (n : ℕ) (op : AluOp) → named form.move_offsets_32 n ≡ Some op → (is_move_32 op ≡ true) × (alu_offset op ≡ n)
move_32 n op h = named-some (λ m o. (is_move_32 o ≡ true) × (alu_offset o ≡ m)) form.move_offsets_32 n op ((refl, refl), ((refl, refl), tt)) h

pub move_64 : (n : ℕ) (op : AluOp) → named form.move_offsets_64 n ≡ Some op → (is_move_64 op ≡ true) × (alu_offset op ≡ n)
move_64 n op h =
    named-some (λ m o. (is_move_64 o ≡ true) × (alu_offset o ≡ m)) form.move_offsets_64 n op ((refl, refl), ((refl, refl), ((refl, refl), tt))) h

pub swap_width : (n : ℕ) (w : Width) → named form.swap_imms n ≡ Some w → bits_of w ≡ n
swap_width n w h = named-some (λ m o. bits_of o ≡ m) form.swap_imms n w (refl, (refl, (refl, tt))) h

pub jump_named : (n : ℕ) (op : JumpOp) → named form.jump_codes n ≡ Some op → jump_code op ≡ n
jump_named n op h = named-some (λ m o. jump_code o ≡ m) form.jump_codes n op
    (refl, (refl, (refl, (refl, (refl, (refl, (refl, (refl, (refl, (refl, (refl, tt))))))))))) h

pub access_width : (n : ℕ) (s : Size) → named form.access_widths n ≡ Some s → size_code s ≡ n
access_width n s h = named-some (λ m o. size_code o ≡ m) form.access_widths n s (refl, (refl, (refl, (refl, tt)))) h

pub signed_width : (n : ℕ) (s : Size) → named form.signed_widths n ≡ Some s → (is_narrow s ≡ true) × (size_code s ≡ n)
signed_width n s h =
    named-some (λ m o. (is_narrow o ≡ true) × (size_code o ≡ m)) form.signed_widths n s ((refl, refl), ((refl, refl), ((refl, refl), tt))) h

pub atomic_width : (n : ℕ) (s : Size) → named form.atomic_widths n ≡ Some s → (is_atomic_size s ≡ true) × (size_code s ≡ n)
atomic_width n s h = named-some (λ m o. (is_atomic_size o ≡ true) × (size_code o ≡ m)) form.atomic_widths n s ((refl, refl), ((refl, refl), tt)) h

pub atomic_imm : (n : ℕ) (op : AtomicOp) → named form.atomic_imms n ≡ Some op → (is_plain op ≡ true) × (atomic_code op ≡ n)
atomic_imm n op h = named-some (λ m o. (is_plain o ≡ true) × (atomic_code o ≡ m)) form.atomic_imms n op
    ((refl, refl), ((refl, refl), ((refl, refl), ((refl, refl), tt)))) h

pub fetch_imm : (n : ℕ) (op : AtomicOp) → named form.fetch_imms n ≡ Some op → (is_fetch op ≡ true) × (atomic_code op + 1 ≡ n)
fetch_imm n op h = named-some (λ m o. (is_fetch o ≡ true) × (atomic_code o + 1 ≡ m)) form.fetch_imms n op
    ((refl, refl), ((refl, refl), ((refl, refl), ((refl, refl), ((refl, refl), tt))))) h

-- fields by their numbers
abbrev pub read_as : ℕ → ℕ → ℕ → ℕ → ℕ → Fields
read_as o d s x m = record { opcode = o; dst = d; src = s; offset = x; imm = m }
