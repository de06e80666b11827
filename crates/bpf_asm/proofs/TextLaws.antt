-- A text is of one code only, and it is of a code or has a faulty line.
use Rattle.std.proofs.Common.{◌≡◌, ℕ, ◌+◌, ◌<◌, ◌≤◌, true, eqb, ◌⊎◌, inl, inr, List, [], ◌∷◌, ◌++◌, length, get_or, slice_index, Fits, w8, Some, None, refl, sym, ap, subst, ◌∙◌, append_assoc, arith, length-append}
use Rattle.std.specs.Prelude.{All, OnOk, Result, Ok, Err}
use Rattle.std.proofs.Math.Facts.{Fits-lt-pow}
use Rattle.std.proofs.lemmas.Bool.{eq-eqb}
use Rattle.std.proofs.lemmas.List.{append-nil}
use Rattle.std.proofs.lemmas.List.Elements.{All-from_get_or}
use Rattle.cp_text.specs.HexText.{AreBytes}
use Rattle.bpf_isa.specs.declared.insn.Insn.{Insn}
use Rattle.bpf_model.specs.Encoding.{encoding, IsAllowed}
use Rattle.bpf_model.specs.Walk.{IsWellFormed}
use Rattle.bpf_asm.specs.Line.{insn_line}
use Rattle.cp_text.specs.Parts.{lacks, parts_between}
use Rattle.cp_text.proofs.Joined.{lacks_first, same_cut}
use Rattle.cp_base.specs.declared.limits.TheConstants.{MAX_PROGRAM}
use Rattle.bpf_asm.specs.Reading.{insn_in}
use Rattle.bpf_asm.specs.Text.{text_of_code, AreAllowed, text_of, encodings, IsFaultyAt}
use Rattle.cp_base.specs.declared.buffer.Bytes.{Bytes}
use Rattle.bpf_asm.specs.declared.assembler.AsmEnd.{AsmEnd}
use Rattle.bpf_asm.specs.declared.assembler.AsmEnd.TheVariants.{Fault}
use Rattle.bpf_asm.specs.Assembly.{Adds, AddsNothing, IsAssembledTo}
use Rattle.bpf_model.proofs.BothWays.{length-encoding, units_of-pos}
use Rattle.bpf_asm.proofs.LineLaws.{line_again, line_one, line_lacks, line_read}
use Rattle.bpf_asm.proofs.CodeLaws.{assembled, disassembled}

-- ---- texts cut at a newline

mark_behind : (mark : ℕ) (a x : List ℕ) → lacks mark (a ++ mark ∷ x) ≡ true → ⊥
mark_behind mark [] x h =
    let other = (lacks_first mark mark x h).0 in
    let same : eqb mark mark ≡ true = eq-eqb mark mark refl in
    absurd cc
mark_behind mark (c ∷ cs) x h = mark_behind mark cs x (lacks_first mark c (cs ++ mark ∷ x) h).1

-- a text without a newline begins with no ended line
pub no_line : (rest a x : List ℕ) → lacks 10 rest ≡ true → rest ≡ a ++ 10 ∷ x → ⊥
no_line rest a x h e = mark_behind 10 a x (ap (lacks 10) (sym e) ∙ h)

no_text : (a x : List ℕ) → [] ≡ a ++ 10 ∷ x → ⊥
no_text [] x e = absurd cc
no_text (c ∷ cs) x e = absurd cc

-- the first lines of two texts
first_line : (i j : Insn) (x y : List ℕ) → IsAllowed i → IsAllowed j → insn_line i ++ 10 ∷ x ≡ insn_line j ++ 10 ∷ y → (i ≡ j) × (x ≡ y)
first_line i j x y a b e =
    let c = same_cut 10 (insn_line i) (insn_line j) x y (line_lacks i a) (line_lacks j b) e in
    (line_one i j a b c.0, c.1)

-- lines that begin a text of instructions are those of the first of them
pub record Begins (before is : List Insn) (rest : List ℕ) : Type 0 where
  pub more : List Insn
  pub allowed : AreAllowed more
  pub front : is ≡ before ++ more
  pub behind : rest ≡ text_of more

begins : (before is : List Insn) (rest : List ℕ) → AreAllowed before → AreAllowed is → text_of is ≡ text_of before ++ rest → Begins before is rest
begins [] is rest p q e = record { more = is; allowed = q; front = refl; behind = sym e }
begins (b ∷ bs) [] rest p q e = absurd (no_text (insn_line b) (text_of bs ++ rest) (e ∙ append_assoc (insn_line b) (10 ∷ text_of bs) rest))
begins (b ∷ bs) (i ∷ is) rest p q e =
    let f = first_line i b (text_of is) (text_of bs ++ rest) q.0 p.0 (e ∙ append_assoc (insn_line b) (10 ∷ text_of bs) rest) in
    let ih = begins bs is rest p.1 q.1 f.1 in
    record {
      more = ih.more;
      allowed = ih.allowed;
      front = ap (λ (j : Insn). j ∷ is) f.0 ∙ ap (λ (js : List Insn). b ∷ js) ih.front;
      behind = ih.behind;
    }

code-append : (is js : List Insn) → encodings (is ++ js) ≡ encodings is ++ encodings js
code-append [] js = refl
code-append (i ∷ is) js = ap (λ (c : List ℕ). encoding i ++ c) (code-append is js) ∙ sym (append_assoc (encoding i) (encodings is) (encodings js))

-- lines of instructions whose code is not too long have no faulty one
pub lines_not_faulty : (text : List ℕ) (is : List Insn) → AreAllowed is → (is ≡ [] → ⊥) → length (encodings is) ≤ MAX_PROGRAM → text ≡ text_of is → (n : ℕ) → IsFaultyAt text n → ⊥
lines_not_faulty text is allowed some limit whole n f =
    let b = begins f.before is f.rest f.allowed allowed (sym whole ∙ f.lines) in
    by_more b.more b.front b.behind b.allowed
  where
    by_more : (more : List Insn) → is ≡ f.before ++ more → f.rest ≡ text_of more → AreAllowed more → ⊥
    by_more [] front behind a = some (front ∙ append-nil f.before ∙ f.some behind)
    by_more (i ∷ more) front behind a =
        let over = f.faulty i (text_of more) a.0 behind in
        let bytes : length (encodings is) ≡ length (encodings f.before ++ (encoding i ++ encodings more)) = ap length (ap encodings front ∙ code-append f.before (i ∷ more)) in
        let l1 = length-append (encodings f.before) (encoding i ++ encodings more) in
        let l2 = length-append (encoding i) (encodings more) in
        let l3 = length-append (encodings f.before) (encoding i) in
        absurd (omega arith)

-- the text of well formed code has no faulty line
pub not_faulty : (code : List ℕ) → All (λ b. b < 256) code → IsWellFormed code → length code ≤ MAX_PROGRAM → (n : ℕ) → IsFaultyAt (text_of_code code) n → ⊥
not_faulty code small well limit n f =
    let d = disassembled code small well in
    lines_not_faulty (text_of_code code) d.0 d.1.allowed d.1.some (subst (λ (c : List ℕ). length c ≤ MAX_PROGRAM) d.1.bytes limit) d.1.text n f

-- texts of one code
same_texts : (is js : List Insn) → AreAllowed is → AreAllowed js → text_of is ≡ text_of js → is ≡ js
same_texts [] [] p q e = refl
same_texts [] (j ∷ js) p q e = absurd (no_text (insn_line j) (text_of js) e)
same_texts (i ∷ is) [] p q e = absurd (no_text (insn_line i) (text_of is) (sym e))
same_texts (i ∷ is) (j ∷ js) p q e =
    let f = first_line i j (text_of is) (text_of js) p.0 q.0 e in
    ap (λ (k : Insn). k ∷ is) f.0 ∙ ap (λ (ks : List Insn). j ∷ ks) (same_texts is js p.1 q.1 f.1)

pub one_code : (a b : List ℕ) → All (λ b. b < 256) a → All (λ b. b < 256) b → IsWellFormed a → IsWellFormed b → text_of_code a ≡ text_of_code b → a ≡ b
one_code a b p q v w e =
    let c = disassembled a p v in
    let d = disassembled b q w in
    c.1.bytes ∙ ap encodings (same_texts c.0 d.0 c.1.allowed d.1.allowed (sym c.1.text ∙ e ∙ d.1.text)) ∙ sym d.1.bytes

-- ---- one line

pub adds : (line old new : List ℕ) (i : Insn) → Some i ≡ insn_in (parts_between 32 line) → new ≡ old ++ encoding i → length new ≤ MAX_PROGRAM → Adds line old new
adds line old new i e bytes limit =
    let r = line_read line i (sym e) in
    record { insn = i; allowed = r.1; spelled = r.0; bytes = bytes; limit = limit }

pub adds_ok : {X E : Type 0} (r : Result X E) (line old new : List ℕ) (i : Insn) → Some i ≡ insn_in (parts_between 32 line) → OnOk r (new ≡ old ++ encoding i) → OnOk r (length new ≤ MAX_PROGRAM)
    → OnOk r (Adds line old new)
adds_ok (Ok x) line old new i e bytes limit = adds line old new i e bytes limit
adds_ok (Err x) line old new i e bytes limit = tt

some_insn : (i j : Insn) → Some i ≡ Some j → i ≡ j
some_insn i j e = cc

pub refused_some : (line old : List ℕ) (i : Insn) → Some i ≡ insn_in (parts_between 32 line) → MAX_PROGRAM < length (old ++ encoding i) → AddsNothing line old
refused_some line old i e long j a is =
    let same : i ≡ j = some_insn i j (e ∙ ap (λ (t : List ℕ). insn_in (parts_between 32 t)) is ∙ line_again j a) in
    subst (λ (k : Insn). MAX_PROGRAM < length (old ++ encoding k)) same long

pub refused_none : (line old : List ℕ) → None ≡ insn_in (parts_between 32 line) → AddsNothing line old
refused_none line old e j a is =
    let none : None ≡ Some j = e ∙ ap (λ (t : List ℕ). insn_in (parts_between 32 t)) is ∙ line_again j a in
    absurd cc

-- ---- lines so far

text-append : (is : List Insn) (i : Insn) → text_of (is ++ i ∷ []) ≡ text_of is ++ (insn_line i ++ 10 ∷ [])
text-append [] i = refl
text-append (j ∷ js) i =
    ap (λ (t : List ℕ). insn_line j ++ 10 ∷ t) (text-append js i) ∙ sym (append_assoc (insn_line j) (10 ∷ text_of js) (insn_line i ++ 10 ∷ []))

allowed-append : (is : List Insn) (i : Insn) → AreAllowed is → IsAllowed i → AreAllowed (is ++ i ∷ [])
allowed-append [] i a b = (b, tt)
allowed-append (j ∷ js) i a b = (a.0, allowed-append js i a.1 b)

pub nothing_assembled : (text code : List ℕ) → code ≡ [] → IsAssembledTo text text code 1
nothing_assembled text code e = record { before = []; lines = refl; allowed = tt; bytes = e; counted = refl; limit = let l : length code ≡ 0 = ap length e in omega arith; few = omega arith }

pub one_line : (text rest after line old new : List ℕ) (n : ℕ) → IsAssembledTo text rest old n → rest ≡ line ++ 10 ∷ after → Adds line old new → IsAssembledTo text after new (n + 1)
one_line text rest after line old new n s cut add =
    let i = add.insn in
    let behind : rest ≡ (insn_line i ++ 10 ∷ []) ++ after = cut ∙ ap (λ (t : List ℕ). t ++ 10 ∷ after) add.spelled ∙ sym (append_assoc (insn_line i) (10 ∷ []) after) in
    let len1 : length new ≡ length (old ++ encoding i) = ap length add.bytes in
    let len2 = length-append old (encoding i) in
    let len3 = length-encoding i in
    let some = units_of-pos i in
    let count = length-append s.before (i ∷ []) in
    record {
      before = s.before ++ i ∷ [];
      lines =
          s.lines ∙ ap (λ (t : List ℕ). text_of s.before ++ t) behind ∙ sym (append_assoc (text_of s.before) (insn_line i ++ 10 ∷ []) after)
          ∙ ap (λ (t : List ℕ). t ++ after) (sym (text-append s.before i));
      allowed = allowed-append s.before i s.allowed add.allowed;
      bytes =
          add.bytes ∙ ap (λ (t : List ℕ). t ++ encoding i) s.bytes ∙ ap (λ (t : List ℕ). encodings s.before ++ t) (sym (append-nil (encoding i)))
          ∙ sym (code-append s.before (i ∷ []));
      counted = omega arith;
      limit = add.limit;
      few = omega arith;
    }

pub fault_here : (text rest after line old : List ℕ) (n : ℕ) → IsAssembledTo text rest old n → rest ≡ line ++ 10 ∷ after → lacks 10 line ≡ true → AddsNothing line old → IsFaultyAt text n
fault_here text rest after line old n s cut first refused = record {
  before = s.before;
  rest = rest;
  lines = s.lines;
  allowed = s.allowed;
  counted = s.counted;
  limit = subst (λ (c : List ℕ). length c ≤ MAX_PROGRAM) s.bytes s.limit;
  some = λ e. absurd (no_text line after (sym e ∙ cut));
  faulty = λ i more a e.
      let same = same_cut 10 line (insn_line i) after more first (line_lacks i a) (sym cut ∙ e) in
      subst (λ (c : List ℕ). MAX_PROGRAM < length (c ++ encoding i)) s.bytes (refused i a same.0);
}

pub fault_unended : (text rest code : List ℕ) (n : ℕ) → IsAssembledTo text rest code n → lacks 10 rest ≡ true → (rest ≡ [] → code ≡ []) → IsFaultyAt text n
fault_unended text rest code n s plain some = record {
  before = s.before;
  rest = rest;
  lines = s.lines;
  allowed = s.allowed;
  counted = s.counted;
  limit = subst (λ (c : List ℕ). length c ≤ MAX_PROGRAM) s.bytes s.limit;
  some = λ e. no_code s.before (sym s.bytes ∙ some e);
  faulty = λ i more a e. absurd (no_line rest (insn_line i) more plain e);
}
  where
    no_code : (is : List Insn) → encodings is ≡ [] → is ≡ []
    no_code [] e = refl
    no_code (i ∷ is) e =
        let len : length (encodings (i ∷ is)) ≡ 0 = ap length e in
        let l1 = length-append (encoding i) (encodings is) in
        let l2 = length-encoding i in
        let l3 = units_of-pos i in
        absurd (omega arith)

-- a text of which all lines are assembled
pub record IsWhole (text code : List ℕ) : Type 0 where
  pub bytes : AreBytes code
  pub well_formed : IsWellFormed code
  pub same_text : text_of_code code ≡ text
  pub no_fault : (n : ℕ) → IsFaultyAt text n → ⊥

pub all_assembled : (text rest code : List ℕ) (n : ℕ) → ((k : ℕ) → slice_index code k < 256) → IsAssembledTo text rest code n → rest ≡ [] → (code ≡ [] → ⊥) → IsWhole text code
all_assembled text rest code n small s none some =
    let more : s.before ≡ [] → ⊥ = λ e. some (s.bytes ∙ ap encodings e) in
    let c = assembled code small s.before s.allowed more s.bytes in
    let whole : text ≡ text_of s.before = s.lines ∙ ap (λ (t : List ℕ). text_of s.before ++ t) none ∙ append-nil (text_of s.before) in
    record {
      bytes = All-from_get_or (λ b. b < 256) code 0 (λ i lt. small i);
      well_formed = c.well_formed;
      same_text = c.text ∙ sym whole;
      no_fault = lines_not_faulty text s.before s.allowed more (subst (λ (c : List ℕ). length c ≤ MAX_PROGRAM) s.bytes s.limit) whole;
    }

-- what a fault of a line becomes
pub fault_is : (m n : ℕ) → Fault m ≡ Fault n → m ≡ n
fault_is m n e = cc

-- a fault that was handed on
pub handed_on : (text rest after line old : List ℕ) (number : ℕ) → IsAssembledTo text rest old number → rest ≡ line ++ 10 ∷ after → lacks 10 line ≡ true
    → (e : AsmEnd) → (told : Result (Unit {0}) AsmEnd) → told ≡ Err e → ((n : ℕ) → told ≡ Err (Fault n) → (n ≡ number) × AddsNothing line old)
    → (r : Result Bytes AsmEnd) → r ≡ Err e → (n : ℕ) → r ≡ Err (Fault n) → IsFaultyAt text n
handed_on text rest after line old number s cut first e told was tells r is n h =
    let same : e ≡ Fault n = cc in
    let f = tells n (was ∙ ap (λ (x : AsmEnd). Err x) same) in
    subst (λ (k : ℕ). IsFaultyAt text k) (sym f.0) (fault_here text rest after line old number s cut first f.1)

-- ---- one fault

-- the instructions before are the first of more
record IsShorter (before is : List Insn) (rest : List ℕ) : Type 0 where
  next : Insn
  more : List Insn
  after : List ℕ
  allowed : IsAllowed next
  front : is ≡ before ++ next ∷ more
  behind : rest ≡ insn_line next ++ 10 ∷ after

longer : (b i : Insn) (bs is : List Insn) (rest : List ℕ) → i ≡ b → IsShorter bs is rest → IsShorter (b ∷ bs) (i ∷ is) rest
longer b i bs is rest same s = record {
  next = s.next;
  more = s.more;
  after = s.after;
  allowed = s.allowed;
  front = ap (λ (j : Insn). j ∷ is) same ∙ ap (λ (js : List Insn). b ∷ js) s.front;
  behind = s.behind;
}

meet : (xs ys : List Insn) (r s : List ℕ) → AreAllowed xs → AreAllowed ys → text_of xs ++ r ≡ text_of ys ++ s → (IsShorter xs ys r ⊎ IsShorter ys xs s) ⊎ (xs ≡ ys)
meet [] [] r s p q e = inr refl
meet [] (b ∷ ys) r s p q e =
    inl (inl (record { next = b; more = ys; after = text_of ys ++ s; allowed = q.0; front = refl; behind = e ∙ append_assoc (insn_line b) (10 ∷ text_of ys) s }))
meet (a ∷ xs) [] r s p q e =
    inl (inr (record { next = a; more = xs; after = text_of xs ++ r; allowed = p.0; front = refl; behind = sym e ∙ append_assoc (insn_line a) (10 ∷ text_of xs) r }))
meet (a ∷ xs) (b ∷ ys) r s p q e =
    let f = first_line a b (text_of xs ++ r) (text_of ys ++ s) p.0 q.0 (sym (append_assoc (insn_line a) (10 ∷ text_of xs) r) ∙ e ∙ append_assoc (insn_line b) (10 ∷ text_of ys) s) in
    elim (meet xs ys r s p.1 q.1 f.1) [
      | inl either ↦ elim either [ inl x ↦ inl (inl (longer a b xs ys r (sym f.0) x)) | inr y ↦ inl (inr (longer b a ys xs s f.0 y)) ]
      | inr same ↦ inr (ap (λ (i : Insn). i ∷ xs) f.0 ∙ ap (λ (is : List Insn). b ∷ is) same)
    ]

too_long : (text : List ℕ) (m n : ℕ) (f : IsFaultyAt text m) (g : IsFaultyAt text n) → IsShorter f.before g.before f.rest → ⊥
too_long text m n f g s =
    let over = f.faulty s.next s.after s.allowed s.behind in
    let whole : length (encodings g.before) ≡ length (encodings f.before ++ (encoding s.next ++ encodings s.more)) = ap length (ap encodings s.front ∙ code-append f.before (s.next ∷ s.more)) in
    let l1 = length-append (encodings f.before) (encoding s.next ++ encodings s.more) in
    let l2 = length-append (encoding s.next) (encodings s.more) in
    let l3 = length-append (encodings f.before) (encoding s.next) in
    let limit = g.limit in
    absurd (omega arith)

pub one_fault : (text : List ℕ) (m n : ℕ) → IsFaultyAt text m → IsFaultyAt text n → m ≡ n
one_fault text m n f g = elim (meet f.before g.before f.rest g.rest f.allowed g.allowed (sym f.lines ∙ g.lines)) [
  | inl either ↦ elim either [ inl x ↦ absurd (too_long text m n f g x) | inr y ↦ absurd (too_long text n m g f y) ]
  | inr same ↦ let count : length f.before ≡ length g.before = ap length same in omega (arith, f.counted, g.counted)
]

pub empty_list : (xs : List ℕ) → length xs ≡ 0 → xs ≡ []
empty_list [] e = refl
empty_list (x ∷ xs) e = absurd (omega arith)

pub same_small : (xs ys : List ℕ) → xs ≡ ys → ((k : ℕ) → Fits w8 (get_or xs k 0)) → (k : ℕ) → slice_index ys k < 256
same_small xs ys e f = subst (λ (zs : List ℕ). (k : ℕ) → slice_index zs k < 256) e (λ k. Fits-lt-pow {w = w8} {n = slice_index xs k} (f k))
