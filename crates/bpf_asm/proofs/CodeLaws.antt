-- Code and its text: the lines of the instructions at the starts are those of the instructions that the code
-- is made of.
use Rattle.std.proofs.Common.{◌≡◌, ℕ, zero, suc, ◌+◌, ◌-◌, ◌*◌, ◌/◌, ◌<◌, ◌≤◌, List, [], ◌∷◌, ◌++◌, length, get_or, drop, slice_index, Option, Some, None, refl, sym, ap, subst, ◌∙◌, append_assoc, arith, length-append}
use Rattle.std.specs.Prelude.{All, nat_lt, ◌==◌}
use Rattle.std.specs.List.{flat_map, range_with_len}
use Rattle.std.specs.Option.{option_map_or}
use Rattle.std.proofs.lemmas.Bool.{and_parts, eqb-true, ltb-true}
use Rattle.std.proofs.lemmas.Grind.{flat_map-append}
use Rattle.std.proofs.lemmas.List.{append-nil, take-append-drop}
use Rattle.bpf_isa.specs.declared.insn.Insn.{Insn}
use Rattle.bpf_isa.specs.declared.insn.Insn.TheVariants as insn
use Rattle.bpf_model.specs.Encoding.{encoding}
use Rattle.bpf_model.specs.Form.{form, first_form}
use Rattle.bpf_model.specs.Walk.{units_of, stop_from, bad_place, IsWellFormed, instruction_at}
use Rattle.bpf_model.proofs.BothWays.{bytes_small, first_form-encoding, form-encoded, length-encoding}
use Rattle.bpf_decode.specs.Slots.{slots_of}
use Rattle.bpf_decode.proofs.Filling.{Filled, filled-start, filled-more, filled-end, filled-slots}
use Rattle.bpf_asm.specs.Line.{insn_line}
use Rattle.bpf_asm.specs.Text.{line_at, text_of_code, AreAllowed, text_of, encodings}

-- the slots of instructions
abbrev slots_all : List Insn → List (Option Insn)
slots_all [] = []
slots_all (i ∷ is) = slots_of i ++ slots_all is

length-slots : (i : Insn) → length (slots_of i) ≡ units_of i
length-slots (insn.LoadImm dst value) = refl
length-slots _ = refl

pub length-code : (is : List Insn) → length (encodings is) ≡ 8 * length (slots_all is)
length-code [] = refl
length-code (i ∷ is) =
    let front = length-append (encoding i) (encodings is) in
    let slots = length-append (slots_of i) (slots_all is) in
    let one = length-encoding i in
    let units = length-slots i in
    let rest = length-code is in
    omega arith

drop-none : {A : Type 0} (n : ℕ) → [] ≡ drop {A = A} n []
drop-none zero = refl
drop-none (suc n) = refl

drop-add : (m n : ℕ) (xs : List ℕ) → drop (m + n) xs ≡ drop n (drop m xs)
drop-add zero n xs = let e : zero + n ≡ n = omega arith in ap (λ (k : ℕ). drop k xs) e
drop-add (suc m) n [] = let e : suc m + n ≡ suc (m + n) = omega arith in ap (λ (k : ℕ). drop {A = ℕ} k []) e ∙ drop-none n
drop-add (suc m) n (x ∷ xs) = let e : suc m + n ≡ suc (m + n) = omega arith in ap (λ (k : ℕ). drop k (x ∷ xs)) e ∙ drop-add m n xs

drop-front : (xs ys : List ℕ) → drop (length xs) (xs ++ ys) ≡ ys
drop-front [] ys = refl
drop-front (x ∷ xs) ys = drop-front xs ys

-- ---- the code of instructions is well formed, and its text is theirs

fill : (code : List ℕ) → ((k : ℕ) → slice_index code k < 256) → (is : List Insn) (slots : List (Option Insn)) → AreAllowed is
    → drop (8 * length slots) code ≡ encodings is → Filled code slots → Filled code (slots ++ slots_all is)
fill code small [] slots a e w = subst (λ (s : List (Option Insn)). Filled code s) (sym (append-nil slots)) w
fill code small (i ∷ is) slots a e w =
    let formed : form code (length slots) ≡ Some i = ap first_form e ∙ first_form-encoding i (encodings is) a.0 in
    let more : Filled code (slots ++ slots_of i) = filled-more code slots i small w formed in
    let len = length-append slots (slots_of i) in
    let units = length-slots i in
    let bytes = length-encoding i in
    let place : 8 * length (slots ++ slots_of i) ≡ 8 * length slots + length (encoding i) = omega arith in
    let rest : drop (8 * length (slots ++ slots_of i)) code ≡ encodings is =
    ap (λ (n : ℕ). drop n code) place ∙ drop-add (8 * length slots) (length (encoding i)) code
    ∙ ap (drop (length (encoding i))) e ∙ drop-front (encoding i) (encodings is) in
    subst (λ (s : List (Option Insn)). Filled code s) (append_assoc slots (slots_of i) (slots_all is)) (fill code small is (slots ++ slots_of i) a.1 rest more)

over_slots : (f : Option Insn → List ℕ) (g : ℕ → Option Insn) (slots : List (Option Insn)) (a : ℕ)
    → ((k : ℕ) → k < length slots → get_or slots k None ≡ g (a + k)) → flat_map (λ p. f (g p)) (range_with_len a (length slots)) ≡ flat_map f slots
over_slots f g [] a h = refl
over_slots f g (s ∷ slots) a h =
    let first : a + 0 ≡ a = omega arith in
    let here : s ≡ g a = h 0 (omega arith) ∙ ap g first in
    let later = over_slots f g slots (a + 1) (λ k lt. let next : a + suc k ≡ a + 1 + k = omega arith in h (suc k) (omega arith) ∙ ap g next) in
    ap (λ (o : Option Insn). f o ++ flat_map (λ p. f (g p)) (range_with_len (a + 1) (length slots))) (sym here) ∙ ap (λ (t : List ℕ). f s ++ t) later

line-slots : (i : Insn) → flat_map line_at (slots_of i) ≡ insn_line i ++ 10 ∷ []
line-slots (insn.LoadImm dst value) = append-nil (insn_line (insn.LoadImm dst value) ++ 10 ∷ [])
line-slots i = only i
  where
    only : (j : Insn) → (insn_line j ++ 10 ∷ []) ++ [] ≡ insn_line j ++ 10 ∷ []
    only j = append-nil (insn_line j ++ 10 ∷ [])

text-slots : (is : List Insn) → flat_map line_at (slots_all is) ≡ text_of is
text-slots [] = refl
text-slots (i ∷ is) =
    flat_map-append line_at (slots_of i) (slots_all is) ∙ ap (λ (t : List ℕ). t ++ flat_map line_at (slots_all is)) (line-slots i)
    ∙ append_assoc (insn_line i) (10 ∷ []) (flat_map line_at (slots_all is)) ∙ ap (λ (t : List ℕ). insn_line i ++ 10 ∷ t) (text-slots is)

pub record IsTextOf (code : List ℕ) (is : List Insn) : Type 0 where
  pub well_formed : IsWellFormed code
  pub text : text_of_code code ≡ text_of is

slots-some : (is : List Insn) → (is ≡ [] → ⊥) → 0 < length (slots_all is)
slots-some [] h = absurd (h refl)
slots-some (i ∷ is) h = let len = length-append (slots_of i) (slots_all is) in let some = some_of i in omega arith
  where
    some_of : (j : Insn) → 0 < length (slots_of j)
    some_of (insn.LoadImm dst value) = omega arith
    some_of _ = omega arith

pub assembled : (code : List ℕ) → ((k : ℕ) → slice_index code k < 256) → (is : List Insn) → AreAllowed is → (is ≡ [] → ⊥) → code ≡ encodings is → IsTextOf code is
assembled code small is a some e =
    let filled : Filled code (slots_all is) = fill code small is [] a e (filled-start code) in
    let len : length code ≡ 8 * length (slots_all is) = ap length e ∙ length-code is in
    let more = slots-some is some in
    let units : length code / 8 ≡ length (slots_all is) = omega arith in
    let at = filled-slots code (slots_all is) filled (omega arith) in
    record {
      well_formed = filled-end code (slots_all is) (omega arith) filled (omega arith);
      text =
          ap (λ (n : ℕ). flat_map (λ p. line_at (instruction_at code p)) (range_with_len 0 n)) units
          ∙ over_slots line_at (instruction_at code) (slots_all is) 0 (λ k lt. let same : k ≡ 0 + k = omega arith in at k ∙ ap (instruction_at code) same) ∙ text-slots is;
    }

-- ---- well formed code is the code of instructions

pub record IsMadeOf (code : List ℕ) (is : List Insn) (rest : List ℕ) : Type 0 where
  pub allowed : AreAllowed is
  pub bytes : code ≡ encodings is ++ rest

walked : (n : ℕ) (code : List ℕ) (from : ℕ) → All (λ b. b < 256) code → (is : List Insn) × IsMadeOf (drop (8 * from) code) is (drop (8 * stop_from n code from) code)
walked zero code from small = ([], record { allowed = tt; bytes = refl })
walked (suc n) code from small = by_form (form code from) refl (λ i. walked n code (from + units_of i) small)
  where
    by_form : (o : Option Insn) → form code from ≡ o
        → ((i : Insn) → (is : List Insn) × IsMadeOf (drop (8 * (from + units_of i)) code) is (drop (8 * stop_from n code (from + units_of i)) code))
        → (is : List Insn) × IsMadeOf (drop (8 * from) code) is (drop (8 * option_map_or (λ i. stop_from n code (from + units_of i)) o from) code)
    by_form None e later = ([], record { allowed = tt; bytes = refl })
    by_form (Some i) e later =
        let ih = later i in
        let enc = form-encoded code from i small e in
        let len = length-encoding i in
        let place : 8 * (from + units_of i) ≡ 8 * from + length (encoding i) = omega arith in
        let behind : drop (8 * (from + units_of i)) code ≡ drop (length (encoding i)) (drop (8 * from) code) =
        ap (λ (m : ℕ). drop m code) place ∙ drop-add (8 * from) (length (encoding i)) code in
        let whole = take-append-drop (length (encoding i)) (drop (8 * from) code) in (
          i ∷ ih.0,
          record {
            allowed = (enc.0, ih.1.allowed);
            bytes =
                sym whole ∙ ap (λ (t : List ℕ). t ++ drop (length (encoding i)) (drop (8 * from) code)) enc.1
                ∙ ap (λ (t : List ℕ). encoding i ++ t) (sym behind ∙ ih.1.bytes)
                ∙ sym (append_assoc (encoding i) (encodings ih.0) (drop (8 * stop_from n code (from + units_of i)) code));
          },
        )

drop-end : (xs : List ℕ) → drop (length xs) xs ≡ []
drop-end [] = refl
drop-end (x ∷ xs) = drop-end xs

pub record Assembles (code : List ℕ) (is : List Insn) : Type 0 where
  pub allowed : AreAllowed is
  pub some : is ≡ [] → ⊥
  pub bytes : code ≡ encodings is
  pub text : text_of_code code ≡ text_of is

pub disassembled : (code : List ℕ) → All (λ b. b < 256) code → IsWellFormed code → (is : List Insn) × Assembles code is
disassembled code small well =
    let w = and_parts (nat_lt 0 (length code)) (8 * bad_place code == length code) well in
    let ends : 8 * bad_place code ≡ length code = eqb-true (8 * bad_place code) (length code) w.1 in
    let more : 0 < length code = ltb-true 0 (length code) w.0 in
    let m = walked (length code) code 0 small in
    let bytes : code ≡ encodings m.0 =
    m.1.bytes ∙ ap (λ (n : ℕ). encodings m.0 ++ drop n code) ends ∙ ap (λ (t : List ℕ). encodings m.0 ++ t) (drop-end code) ∙ append-nil (encodings m.0) in
    let some : m.0 ≡ [] → ⊥ = λ e. let none : length code ≡ 0 = ap length (bytes ∙ ap encodings e) in omega arith in
    let c = assembled code (bytes_small code small) m.0 m.1.allowed some bytes in
    (m.0, record { allowed = m.1.allowed; some = some; bytes = bytes; text = c.text })

-- ---- one place more

pub one_place : (f : ℕ → List ℕ) (n k : ℕ) (text new whole : List ℕ) → k < n → new ≡ text ++ f k → text ++ flat_map f (range_with_len k (n - k)) ≡ whole
    → new ++ flat_map f (range_with_len (k + 1) (n - (k + 1))) ≡ whole
one_place f n k text new whole lt e h =
    let len : n - k ≡ suc (n - (k + 1)) = omega arith in
    ap (λ (t : List ℕ). t ++ flat_map f (range_with_len (k + 1) (n - (k + 1)))) e
    ∙ append_assoc text (f k) (flat_map f (range_with_len (k + 1) (n - (k + 1))))
    ∙ sym (ap (λ (m : ℕ). text ++ flat_map f (range_with_len k m)) len) ∙ h

pub no_more : (f : ℕ → List ℕ) (n k : ℕ) (text whole : List ℕ) → n ≤ k → text ++ flat_map f (range_with_len k (n - k)) ≡ whole → text ≡ whole
no_more f n k text whole le h =
    let none : n - k ≡ 0 = omega arith in
    sym (append-nil text) ∙ sym (ap (λ (m : ℕ). text ++ flat_map f (range_with_len k m)) none) ∙ h
