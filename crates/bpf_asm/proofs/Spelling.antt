-- Operands are read exactly where they are spelled so.
use Rattle.std.proofs.Common.{◌≡◌, ℕ, ◌<◌, ◌≤◌, ◌^◌, ℤ, pos, negsuc, Bool, true, false, cond, eqb, leb, ltb, List, [], ◌∷◌, Option, Some, None, option_map, refl, sym, ap, subst, ◌∙◌, arith, rules}
use Rattle.std.specs.Prelude.{decimal, option_and_then, FitsSigned}
use Rattle.std.specs.Fmt.{signed_decimal}
use Rattle.std.specs.Int.{w16, w32, w64}
use Rattle.std.proofs.lemmas.Bool.{eqb-true, leb-true, le-leb, ltb-true, lt-ltb}
use Rattle.std.proofs.lemmas.Int.{ints}
use Rattle.bpf_isa.specs.declared.operand.Width.{Width}
use Rattle.bpf_isa.specs.declared.operand.Width.TheVariants as width
use Rattle.bpf_isa.specs.Width.{bits_of}
use Rattle.bpf_isa.specs.declared.operation.AluOp.{AluOp}
use Rattle.bpf_isa.specs.declared.operation.AluOp.TheVariants as alu
use Rattle.bpf_model.specs.Encoding.{alu_offset, is_move_32, is_move_64}
use Rattle.bpf_model.specs.Form.{named, swap_imms, move_offsets_32, move_offsets_64}
use Rattle.bpf_model.proofs.Tables.{move_32, move_64, swap_width}
use Rattle.cp_text.specs.Number.{spelled_number}
use Rattle.cp_text.specs.Signed.{AreSignedDigits, signed_of}
use Rattle.cp_text.proofs.NumberTexts.{spelled_number-spelled, spelled_number-decimal}
use Rattle.cp_text.proofs.SignedTexts.{signed_of-spelled, signed_of-decimal, signed_decimal-are_digits}
use Rattle.bpf_asm.specs.Line.{operand_text}
use Rattle.bpf_asm.specs.declared.operand.Operand.TheVariants.{Register, Signed, Number}
use Rattle.bpf_asm.specs.declared.source.Source.{Source}
use Rattle.bpf_asm.specs.declared.source.Source.TheVariants as source
use Rattle.bpf_asm.specs.Reading.{one_of, two_of, three_of, in_front, in_front_of_two, at_most, register_in, below, offset_in, imm_in, source_in, bits_named, move_to_32, move_to_64, helper_named, read_one, all_two, read_two, all_three, read_three}

-- a kind of operand: what is read is spelled so and fits, and what fits is read as it is spelled
pub record Spelling {A : Type 0} (text : A → List ℕ) (read : List ℕ → Option A) (Fits : A → Type 0) : Type 0 where
  pub spelled : (t : List ℕ) (x : A) → read t ≡ Some x → (t ≡ text x) × Fits x
  pub again : (x : A) → Fits x → read (text x) ≡ Some x

-- ---- options

same : {A : Type 0} (x y : A) → Some x ≡ Some y → x ≡ y
same x y e = cc

pub mapped : {A B : Type 0} (f : A → B) (o : Option A) (y : B) → option_map f o ≡ Some y → (x : A) × (o ≡ Some x) × (f x ≡ y)
mapped f None y e = absurd cc
mapped f (Some x) y e = (x, refl, same (f x) y e)

pub then_some : {A B : Type 0} (f : A → Option B) (o : Option A) (y : B) → option_and_then f o ≡ Some y → (x : A) × (o ≡ Some x) × (f x ≡ Some y)
then_some f None y e = absurd cc
then_some f (Some x) y e = (x, refl, e)

if_some : {A : Type 0} (b : Bool) (x : A) (y : A) → cond b (Some x) None ≡ Some y → (b ≡ true) × (x ≡ y)
if_some true x y e = (refl, same x y e)
if_some false x y e = absurd cc

if_either : {A : Type 0} (b : Bool) (o p : Option A) (y : A) → cond b o p ≡ Some y → ((b ≡ true) → o ≡ Some y) × ((b ≡ false) → p ≡ Some y)
if_either true o p y e = (λ h. e, λ h. absurd cc)
if_either false o p y e = (λ h. absurd cc, λ h. e)

-- ---- registers

at_most-some : (greatest : ℕ) (o : Option ℕ) (r : ℕ) → at_most greatest o ≡ Some r → (o ≡ Some r) × (r ≤ greatest)
at_most-some greatest None r e = absurd cc
at_most-some greatest (Some n) r e =
    let h = if_some (leb n greatest) n r e in
    (ap (λ (m : ℕ). Some m) h.1, subst (λ (m : ℕ). m ≤ greatest) h.1 (leb-true n greatest h.0))

register-spelled : (greatest : ℕ) (t : List ℕ) (r : ℕ) → register_in greatest t ≡ Some r → (t ≡ operand_text (Register r)) × (r ≤ greatest)
register-spelled greatest [] r e = absurd cc
register-spelled greatest (c ∷ rest) r e = by_first (eqb c 114) refl e
  where
    by_first : (b : Bool) → eqb c 114 ≡ b → cond b (at_most greatest (spelled_number rest)) None ≡ Some r → (c ∷ rest ≡ 114 ∷ decimal r) × (r ≤ greatest)
    by_first true h e =
        let a = at_most-some greatest (spelled_number rest) r e in
        let n = spelled_number-spelled rest r a.0 in
        let is : c ≡ 114 = eqb-true c 114 h in
        (ap (λ (x : ℕ). x ∷ rest) is ∙ ap (λ (x : List ℕ). 114 ∷ x) n.0, a.1)
    by_first false h e = absurd cc

register-again : (greatest : ℕ) → greatest ≤ 10 → (r : ℕ) → r ≤ greatest → register_in greatest (operand_text (Register r)) ≡ Some r
register-again greatest low r h =
    let n : spelled_number (decimal r) ≡ Some r = spelled_number-decimal r (omega arith) in
    let t : leb r greatest ≡ true = le-leb r greatest h in
    ap (at_most greatest) n ∙ ap (λ (b : Bool). cond b (Some r) None) t

pub registers : (greatest : ℕ) → greatest ≤ 10 → Spelling (λ r. operand_text (Register r)) (register_in greatest) (λ r. r ≤ greatest)
registers greatest low = record { spelled = register-spelled greatest; again = register-again greatest low }

-- ---- signed numbers

below-some : (limit : ℕ) (o : Option ℤ) (z : ℤ) → below limit o ≡ Some z → (o ≡ Some z) × (below limit (Some z) ≡ Some z)
below-some limit None z e = absurd cc
below-some limit (Some (pos n)) z e =
    let h = if_some (ltb n limit) (pos n) z e in
    (ap (λ (m : ℤ). Some m) h.1, subst (λ (m : ℤ). below limit (Some m) ≡ Some m) h.1 (ap (λ (b : Bool). cond b (Some (pos n)) None) h.0))
below-some limit (Some (negsuc n)) z e =
    let h = if_some (ltb n limit) (negsuc n) z e in
    (ap (λ (m : ℤ). Some m) h.1, subst (λ (m : ℤ). below limit (Some m) ≡ Some m) h.1 (ap (λ (b : Bool). cond b (Some (negsuc n)) None) h.0))

fits_16 : (z : ℤ) → below (2 ^ 15) (Some z) ≡ Some z → FitsSigned w16 z
fits_16 (pos n) e =
    let h = if_some (ltb n (2 ^ 15)) (pos n) (pos n) e in
    let low : n < 2 ^ 15 = ltb-true n (2 ^ 15) h.0 in
    search (rules, arith, ints)
fits_16 (negsuc n) e =
    let h = if_some (ltb n (2 ^ 15)) (negsuc n) (negsuc n) e in
    let low : n < 2 ^ 15 = ltb-true n (2 ^ 15) h.0 in
    search (rules, arith, ints)

fits_32 : (z : ℤ) → below (2 ^ 31) (Some z) ≡ Some z → FitsSigned w32 z
fits_32 (pos n) e =
    let h = if_some (ltb n (2 ^ 31)) (pos n) (pos n) e in
    let low : n < 2 ^ 31 = ltb-true n (2 ^ 31) h.0 in
    search (rules, arith, ints)
fits_32 (negsuc n) e =
    let h = if_some (ltb n (2 ^ 31)) (negsuc n) (negsuc n) e in
    let low : n < 2 ^ 31 = ltb-true n (2 ^ 31) h.0 in
    search (rules, arith, ints)

below_16 : (z : ℤ) → FitsSigned w16 z → below (2 ^ 15) (Some z) ≡ Some z
below_16 (pos n) f = let low : n < 2 ^ 15 = omega (arith, ints) in ap (λ (b : Bool). cond b (Some (pos n)) None) (lt-ltb n (2 ^ 15) low)
below_16 (negsuc n) f = let low : n < 2 ^ 15 = omega (arith, ints) in ap (λ (b : Bool). cond b (Some (negsuc n)) None) (lt-ltb n (2 ^ 15) low)

below_32 : (z : ℤ) → FitsSigned w32 z → below (2 ^ 31) (Some z) ≡ Some z
below_32 (pos n) f = let low : n < 2 ^ 31 = omega (arith, ints) in ap (λ (b : Bool). cond b (Some (pos n)) None) (lt-ltb n (2 ^ 31) low)
below_32 (negsuc n) f = let low : n < 2 ^ 31 = omega (arith, ints) in ap (λ (b : Bool). cond b (Some (negsuc n)) None) (lt-ltb n (2 ^ 31) low)

pub wide_16 : (z : ℤ) → FitsSigned w16 z → FitsSigned w64 z
wide_16 z f = search (rules, arith, ints)

pub wide_32 : (z : ℤ) → FitsSigned w32 z → FitsSigned w64 z
wide_32 z f = search (rules, arith, ints)

pub offsets : Spelling (λ z. operand_text (Signed z)) offset_in (λ z. FitsSigned w16 z)
offsets = record {
  spelled = λ t z e. let b = below-some (2 ^ 15) (signed_of t) z e in ((signed_of-spelled t z b.0).0, fits_16 z b.1);
  again = λ z f. ap (below (2 ^ 15)) (signed_of-decimal z (wide_16 z f)) ∙ below_16 z f;
}

pub imms : Spelling (λ z. operand_text (Signed z)) imm_in (λ z. FitsSigned w32 z)
imms = record {
  spelled = λ t z e. let b = below-some (2 ^ 31) (signed_of t) z e in ((signed_of-spelled t z b.0).0, fits_32 z b.1);
  again = λ z f. ap (below (2 ^ 31)) (signed_of-decimal z (wide_32 z f)) ∙ below_32 z f;
}

-- ---- a register or an immediate

abbrev pub source_text : Source → List ℕ
source_text (source.Register r) = operand_text (Register r)
source_text (source.Immediate z) = operand_text (Signed z)

abbrev pub SourceFits : Source → Type 0
SourceFits (source.Register r) = r ≤ 10
SourceFits (source.Immediate z) = FitsSigned w32 z

source-spelled : (t : List ℕ) (s : Source) → source_in t ≡ Some s → (t ≡ source_text s) × SourceFits s
source-spelled [] s e = absurd cc
source-spelled (c ∷ rest) s e = by_first (eqb c 114) e
  where
    by_first : (b : Bool) → cond b (option_map (λ r. source.Register r) (register_in 10 (c ∷ rest))) (option_map (λ imm. source.Immediate imm) (imm_in (c ∷ rest))) ≡ Some s
        → (c ∷ rest ≡ source_text s) × SourceFits s
    by_first true e =
        let m = mapped (λ (r : ℕ). source.Register r) (register_in 10 (c ∷ rest)) s e in
        let r = register-spelled 10 (c ∷ rest) m.0 m.1 in
        subst (λ (x : Source). (c ∷ rest ≡ source_text x) × SourceFits x) m.2 r
    by_first false e =
        let m = mapped (λ (z : ℤ). source.Immediate z) (imm_in (c ∷ rest)) s e in
        let z = imms.spelled (c ∷ rest) m.0 m.1 in
        subst (λ (x : Source). (c ∷ rest ≡ source_text x) × SourceFits x) m.2 z

-- a text of digits and a minus is no register
imm_source : (t : List ℕ) (z : ℤ) → t ≡ signed_decimal z → FitsSigned w32 z → source_in t ≡ Some (source.Immediate z)
imm_source [] z e f =
    let some = imms.again z f in
    let none : imm_in [] ≡ Some z = ap imm_in e ∙ some in
    absurd cc
imm_source (c ∷ rest) z e f =
    let digits = signed_decimal-are_digits z (wide_32 z f) in
    let first = subst (λ (t : List ℕ). AreSignedDigits t) (sym e) digits in
    let other : eqb c 114 ≡ false = grind (arith, first 0 0 (omega arith)) in
    ap (λ (b : Bool). cond b (option_map (λ r. source.Register r) (register_in 10 (c ∷ rest))) (option_map (λ imm. source.Immediate imm) (imm_in (c ∷ rest)))) other
    ∙ ap (λ (o : Option ℤ). option_map (λ imm. source.Immediate imm) o) (ap imm_in e ∙ imms.again z f)

source-again : (s : Source) → SourceFits s → source_in (source_text s) ≡ Some s
source-again (source.Register r) h = ap (λ (o : Option ℕ). option_map (λ r. source.Register r) o) (register-again 10 (omega arith) r h)
source-again (source.Immediate z) h = imm_source (signed_decimal z) z refl h

pub sources : Spelling source_text source_in SourceFits
sources = record { spelled = source-spelled; again = source-again }

-- ---- numbers

pub numbers : Spelling (λ n. operand_text (Number n)) spelled_number (λ n. n < 2 ^ 64)
numbers = record { spelled = spelled_number-spelled; again = spelled_number-decimal }

-- what is read as a number is spelled as any number equal to it
number_of_is : (t : List ℕ) (n m : ℕ) → spelled_number t ≡ Some n → m ≡ n → t ≡ decimal m
number_of_is t n m e h = (spelled_number-spelled t n e).0 ∙ ap decimal (sym h)

pub helpers : Spelling (λ n. operand_text (Number 1)) helper_named (λ n. n ≡ 1)
helpers = record {
  spelled = λ t n e.
      let m = then_some (λ n. cond (eqb n 1) (Some n) None) (spelled_number t) n e in
      let c = if_some (eqb m.0 1) m.0 n m.2 in
      let one : m.0 ≡ 1 = eqb-true m.0 1 c.0 in
      ((spelled_number-spelled t 1 (m.1 ∙ ap (λ (k : ℕ). Some k) one)).0, sym c.1 ∙ one);
  again = λ n h. ap (option_and_then (λ n. cond (eqb n 1) (Some n) None)) (spelled_number-decimal 1 (omega arith)) ∙ ap (λ (k : ℕ). Some k) (sym h);
}

-- ---- names of bits

bits_again : (w : Width) → named swap_imms (bits_of w) ≡ Some w
bits_again width.Bits16 = refl
bits_again width.Bits32 = refl
bits_again width.Bits64 = refl

pub bits_small : (w : Width) → bits_of w < 2 ^ 64
bits_small width.Bits16 = omega arith
bits_small width.Bits32 = omega arith
bits_small width.Bits64 = omega arith

pub widths : Spelling (λ w. operand_text (Number (bits_of w))) bits_named (λ w. Unit {0})
widths = record {
  spelled = λ t w e.
      let m = then_some (λ n. named swap_imms n) (spelled_number t) w e in
      (number_of_is t m.0 (bits_of w) m.1 (swap_width m.0 w m.2), tt);
  again = λ w h. ap (option_and_then (λ n. named swap_imms n)) (spelled_number-decimal (bits_of w) (bits_small w)) ∙ bits_again w;
}

again_32 : (op : AluOp) → is_move_32 op ≡ true → named move_offsets_32 (alu_offset op) ≡ Some op
again_32 alu.Movsx8 h = refl
again_32 alu.Movsx16 h = refl
again_32 _ h = absurd cc

again_64 : (op : AluOp) → is_move_64 op ≡ true → named move_offsets_64 (alu_offset op) ≡ Some op
again_64 alu.Movsx8 h = refl
again_64 alu.Movsx16 h = refl
again_64 alu.Movsx32 h = refl
again_64 _ h = absurd cc

pub offset_small : (op : AluOp) → alu_offset op < 2 ^ 64
offset_small alu.Sdiv = omega arith
offset_small alu.Smod = omega arith
offset_small alu.Movsx8 = omega arith
offset_small alu.Movsx16 = omega arith
offset_small alu.Movsx32 = omega arith
offset_small _ = omega arith

pub moves_32 : Spelling (λ op. operand_text (Number (alu_offset op))) move_to_32 (λ op. is_move_32 op ≡ true)
moves_32 = record {
  spelled = λ t op e.
      let m = then_some (λ n. named move_offsets_32 n) (spelled_number t) op e in
      let r = move_32 m.0 op m.2 in
      (number_of_is t m.0 (alu_offset op) m.1 r.1, r.0);
  again = λ op h. ap (option_and_then (λ n. named move_offsets_32 n)) (spelled_number-decimal (alu_offset op) (offset_small op)) ∙ again_32 op h;
}

pub moves_64 : Spelling (λ op. operand_text (Number (alu_offset op))) move_to_64 (λ op. is_move_64 op ≡ true)
moves_64 = record {
  spelled = λ t op e.
      let m = then_some (λ n. named move_offsets_64 n) (spelled_number t) op e in
      let r = move_64 m.0 op m.2 in
      (number_of_is t m.0 (alu_offset op) m.1 r.1, r.0);
  again = λ op h. ap (option_and_then (λ n. named move_offsets_64 n)) (spelled_number-decimal (alu_offset op) (offset_small op)) ∙ again_64 op h;
}

-- ---- one, two and three operands

one_is : (ps : List (List ℕ)) (a : List ℕ) → one_of ps ≡ Some a → ps ≡ a ∷ []
one_is [] a e = absurd cc
one_is (p ∷ []) a e = ap (λ (x : List ℕ). x ∷ []) (same p a e)
one_is (p ∷ q ∷ ps) a e = absurd cc

two_is : (ps : List (List ℕ)) (p : List ℕ × List ℕ) → two_of ps ≡ Some p → ps ≡ p.0 ∷ p.1 ∷ []
two_is [] p e = absurd cc
two_is (a ∷ ps) p e = by_rest (one_of ps) refl e
  where
    by_rest : (o : Option (List ℕ)) → one_of ps ≡ o → in_front a o ≡ Some p → a ∷ ps ≡ p.0 ∷ p.1 ∷ []
    by_rest None h e = absurd cc
    by_rest (Some b) h e =
        let q : (a, b) ≡ p = same (a, b) p e in
        ap (λ (x : List (List ℕ)). a ∷ x) (one_is ps b h) ∙ ap (λ (x : List ℕ × List ℕ). x.0 ∷ x.1 ∷ []) q

three_is : (ps : List (List ℕ)) (p : List ℕ × List ℕ × List ℕ) → three_of ps ≡ Some p → ps ≡ p.0 ∷ p.1 ∷ p.2 ∷ []
three_is [] p e = absurd cc
three_is (a ∷ ps) p e = by_rest (two_of ps) refl e
  where
    by_rest : (o : Option (List ℕ × List ℕ)) → two_of ps ≡ o → in_front_of_two a o ≡ Some p → a ∷ ps ≡ p.0 ∷ p.1 ∷ p.2 ∷ []
    by_rest None h e = absurd cc
    by_rest (Some b) h e =
        let q : (a, b.0, b.1) ≡ p = same (a, b.0, b.1) p e in
        ap (λ (x : List (List ℕ)). a ∷ x) (two_is ps b h) ∙ ap (λ (x : List ℕ × List ℕ × List ℕ). x.0 ∷ x.1 ∷ x.2 ∷ []) q

both-some : {A B : Type 0} (a : Option A) (b : Option B) (p : A × B) → all_two a b ≡ Some p → (a ≡ Some p.0) × (b ≡ Some p.1)
both-some None b p e = absurd cc
both-some (Some a) None p e = absurd cc
both-some {A} {B} (Some a) (Some b) p e =
    let q : (a, b) ≡ p = same (a, b) p e in
    (ap (λ (x : A × B). Some x.0) q, ap (λ (x : A × B). Some x.1) q)

three-some : {A B C : Type 0} (a : Option A) (b : Option B) (c : Option C) (p : A × B × C) → all_three a b c ≡ Some p → (a ≡ Some p.0) × (b ≡ Some p.1) × (c ≡ Some p.2)
three-some None b c p e = absurd cc
three-some (Some a) None c p e = absurd cc
three-some (Some a) (Some b) None p e = absurd cc
three-some {A} {B} {C} (Some a) (Some b) (Some c) p e =
    let q : (a, b, c) ≡ p = same (a, b, c) p e in
    (ap (λ (x : A × B × C). Some x.0) q, ap (λ (x : A × B × C). Some x.1) q, ap (λ (x : A × B × C). Some x.2) q)

pub one_spelled : {A : Type 0} {ta : A → List ℕ} {ra : List ℕ → Option A} {Fa : A → Type 0} → Spelling ta ra Fa
    → (ps : List (List ℕ)) (x : A) → read_one ra ps ≡ Some x → (ps ≡ ta x ∷ []) × Fa x
one_spelled {A} {ta} {ra} sa ps x e =
    let m = then_some ra (one_of ps) x e in
    let a = sa.spelled m.0 x m.2 in
    (one_is ps m.0 m.1 ∙ ap (λ (t : List ℕ). t ∷ []) a.0, a.1)

pub two_spelled : {A B : Type 0} {ta : A → List ℕ} {ra : List ℕ → Option A} {Fa : A → Type 0} {tb : B → List ℕ} {rb : List ℕ → Option B} {Fb : B → Type 0}
    → Spelling ta ra Fa → Spelling tb rb Fb → (ps : List (List ℕ)) (x : A × B) → read_two ra rb ps ≡ Some x → (ps ≡ ta x.0 ∷ tb x.1 ∷ []) × Fa x.0 × Fb x.1
two_spelled {A} {B} {ta} {ra} {Fa} {tb} {rb} sa sb ps x e =
    let m = then_some (λ (p : List ℕ × List ℕ). all_two (ra p.0) (rb p.1)) (two_of ps) x e in
    let r = both-some (ra m.0.0) (rb m.0.1) x m.2 in
    let a = sa.spelled m.0.0 x.0 r.0 in
    let b = sb.spelled m.0.1 x.1 r.1 in
    (two_is ps m.0 m.1 ∙ ap (λ (t : List ℕ). t ∷ m.0.1 ∷ []) a.0 ∙ ap (λ (t : List ℕ). ta x.0 ∷ t ∷ []) b.0, a.1, b.1)

pub three_spelled : {A B C : Type 0} {ta : A → List ℕ} {ra : List ℕ → Option A} {Fa : A → Type 0} {tb : B → List ℕ} {rb : List ℕ → Option B} {Fb : B → Type 0}
    {tc : C → List ℕ} {rc : List ℕ → Option C} {Fc : C → Type 0} → Spelling ta ra Fa → Spelling tb rb Fb → Spelling tc rc Fc
    → (ps : List (List ℕ)) (x : A × B × C) → read_three ra rb rc ps ≡ Some x → (ps ≡ ta x.0 ∷ tb x.1 ∷ tc x.2 ∷ []) × Fa x.0 × Fb x.1 × Fc x.2
three_spelled {A} {B} {C} {ta} {ra} {Fa} {tb} {rb} {Fb} {tc} {rc} sa sb sc ps x e =
    let m = then_some (λ (p : List ℕ × List ℕ × List ℕ). all_three (ra p.0) (rb p.1) (rc p.2)) (three_of ps) x e in
    let r = three-some (ra m.0.0) (rb m.0.1) (rc m.0.2) x m.2 in
    let a = sa.spelled m.0.0 x.0 r.0 in
    let b = sb.spelled m.0.1 x.1 r.1 in
    let c = sc.spelled m.0.2 x.2 r.2 in (
      three_is ps m.0 m.1 ∙ ap (λ (t : List ℕ). t ∷ m.0.1 ∷ m.0.2 ∷ []) a.0 ∙ ap (λ (t : List ℕ). ta x.0 ∷ t ∷ m.0.2 ∷ []) b.0
          ∙ ap (λ (t : List ℕ). ta x.0 ∷ tb x.1 ∷ t ∷ []) c.0,
      a.1,
      b.1,
      c.1,
    )

pub one_again : {A : Type 0} {ta : A → List ℕ} {ra : List ℕ → Option A} {Fa : A → Type 0} → Spelling ta ra Fa
    → (x : A) → Fa x → read_one ra (ta x ∷ []) ≡ Some x
one_again sa x f = sa.again x f

pub two_again : {A B : Type 0} {ta : A → List ℕ} {ra : List ℕ → Option A} {Fa : A → Type 0} {tb : B → List ℕ} {rb : List ℕ → Option B} {Fb : B → Type 0}
    → Spelling ta ra Fa → Spelling tb rb Fb → (x : A) (y : B) → Fa x → Fb y → read_two ra rb (ta x ∷ tb y ∷ []) ≡ Some (x, y)
two_again {A} {B} {ta} {ra} {Fa} {tb} {rb} sa sb x y f g =
    ap (λ (o : Option A). all_two o (rb (tb y))) (sa.again x f) ∙ ap (λ (o : Option B). all_two (Some x) o) (sb.again y g)

pub three_again : {A B C : Type 0} {ta : A → List ℕ} {ra : List ℕ → Option A} {Fa : A → Type 0} {tb : B → List ℕ} {rb : List ℕ → Option B} {Fb : B → Type 0}
    {tc : C → List ℕ} {rc : List ℕ → Option C} {Fc : C → Type 0} → Spelling ta ra Fa → Spelling tb rb Fb → Spelling tc rc Fc
    → (x : A) (y : B) (z : C) → Fa x → Fb y → Fc z → read_three ra rb rc (ta x ∷ tb y ∷ tc z ∷ []) ≡ Some (x, y, z)
three_again {A} {B} {C} {ta} {ra} {Fa} {tb} {rb} {Fb} {tc} {rc} sa sb sc x y z f g h =
    ap (λ (o : Option A). all_three o (rb (tb y)) (rc (tc z))) (sa.again x f) ∙ ap (λ (o : Option B). all_three (Some x) o (rc (tc z))) (sb.again y g)
    ∙ ap (λ (o : Option C). all_three (Some x) (Some y) o) (sc.again z h)
