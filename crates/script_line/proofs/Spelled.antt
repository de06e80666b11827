-- What is read of a line is spelled so in it.
use Rattle.std.proofs.Common.{◌≡◌, ℕ, ◌<◌, Bool, true, false, cond, eqb, List, [], ◌∷◌, ◌++◌, length, map, Option, Some, None, Result, Ok, Err, refl, sym, ap, subst, ◌∙◌, arith}
use Rattle.std.specs.Prelude.{All, codes, decimal, ◌^◌}
use Rattle.std.proofs.lemmas.List.Elements.{All-nil, All-cons}
use Rattle.cp_text.proofs.Cuts.{some_part}
use Rattle.std.specs.Str.{bytes_eq}
use Rattle.std.proofs.lemmas.Bool.{eqb-true}
use Rattle.std.proofs.lemmas.Slice.Eq.{bytes_eq-Decides}
use Rattle.cp_text.specs.Number.{spelled_number}
use Rattle.cp_text.specs.HexText.{hex_of, hex_text}
use Rattle.cp_text.proofs.NumberTexts.{spelled_number-spelled}
use Rattle.cp_text.proofs.HexTexts.{hex_of-spelled}
use Rattle.cp_base.specs.declared.lists.Access.TheVariants as access
use Rattle.cp_base.specs.declared.lists.CopySource.{CopySource}
use Rattle.cp_base.specs.declared.lists.MemRange.{MemRange}
use Rattle.script_line.specs.declared.fault.TextCause.{TextCause}
use Rattle.script_line.specs.declared.fault.TextCause.TheVariants as cause
use Rattle.cp_text.specs.Parts.{joined_by, parts_between}
use Rattle.cp_text.proofs.Joined.{joined_again}
use Rattle.script_line.specs.declared.field.Triple.{Triple}
use Rattle.script_line.specs.Field.{Field, IsShaped, Word, Number, Identifier, Hex, Sources, Ranges, Value, Count, Queued, Data, Copied, Covered, access_parts, queued_text, triple_text, source_text, range_text, field_texts}
use Rattle.script_line.specs.Reading.{both, after_name, or_cause, queued_in, read_number, read_queued, changed, read_three_numbers, read_triple, nvm_source, mem_source, mem_range, range_in, read_source, read_range, read_each, read_behind, read_field, read_fields}
use Rattle.script_line.specs.Sized.{IsSized, IsSizedRange, IsSizedSource}

pub ok_is : {A : Type 0} (x y : A) → ◌≡◌ {A = Result A TextCause} (Ok x) (Ok y) → x ≡ y
ok_is x y e = cc

pub both_ok : {A B C : Type 0} (join : A → B → C) (r : Result A TextCause) (s : Result B TextCause) (z : C) → both join r s ≡ Ok z → (x : A) × (y : B) × (r ≡ Ok x) × (s ≡ Ok y) × (join x y ≡ z)
both_ok join (Ok x) (Ok y) z e = (x, y, refl, refl, cc)
both_ok join (Ok x) (Err f) z e = absurd cc
both_ok join (Err d) (Ok y) z e = absurd cc
both_ok join (Err d) (Err f) z e = absurd cc

pub changed_ok : {A B : Type 0} (f : A → B) (r : Result A TextCause) (y : B) → changed f r ≡ Ok y → (x : A) × (r ≡ Ok x) × (f x ≡ y)
changed_ok f (Ok x) y e = (x, refl, cc)
changed_ok f (Err d) y e = absurd cc

pub or_cause_ok : {A : Type 0} (c : TextCause) (o : Option A) (x : A) → or_cause c o ≡ Ok x → o ≡ Some x
or_cause_ok {A} c (Some y) x e = ap (λ (z : A). Some z) cc
or_cause_ok {A} c None x e = absurd cc

pub behind_ok : {A : Type 0} (read : List ℕ → Result A TextCause) (o : Option (List ℕ)) (x : A) → read_behind read o ≡ Ok x → (t : List ℕ) × (o ≡ Some t) × (read t ≡ Ok x)
behind_ok read (Some t) x e = (t, refl, e)
behind_ok read None x e = absurd cc

cond_is_some : {A : Type 0} (b : Bool) (o : Option A) (x : A) → cond b o None ≡ Some x → (b ≡ true) × (o ≡ Some x)
cond_is_some true o x e = (refl, e)
cond_is_some false o x e = absurd cc

pub after_name-some : (name text rest : List ℕ) → after_name name text ≡ Some rest → name ++ rest ≡ text
after_name-some [] text rest e = sym cc
after_name-some (c ∷ cs) [] rest e = absurd cc
after_name-some (c ∷ cs) (d ∷ ds) rest e =
    let p = cond_is_some (eqb d c) (after_name cs ds) rest e in
    let same : d ≡ c = eqb-true d c p.0 in
    ap (λ (x : ℕ). x ∷ (cs ++ rest)) (sym same) ∙ ap (λ (t : List ℕ). d ∷ t) (after_name-some cs ds rest p.1)

number_spelled : (text : List ℕ) (n : ℕ) → read_number text ≡ Ok n → (decimal n ≡ text) × (n < 2 ^ 64)
number_spelled text n e = let p = spelled_number-spelled text n (or_cause_ok cause.Number (spelled_number text) n e) in (sym p.0, p.1)

-- a queue and an identifier in it
record QueuedSays (value : Value) (parts : List (List ℕ)) : Type 0 where
  queue : ℕ
  cid : ℕ
  is : value ≡ Queued queue cid
  texts : decimal queue ∷ decimal cid ∷ [] ≡ parts
  sized : (queue < 2 ^ 64) × (cid < 2 ^ 64)

queued_parts : (parts : List (List ℕ)) (v : Value) → queued_in parts ≡ Ok v → QueuedSays v parts
queued_parts [] v e = absurd cc
queued_parts (a ∷ []) v e = absurd cc
queued_parts (a ∷ b ∷ c ∷ more) v e = absurd cc
queued_parts (a ∷ b ∷ []) v e =
    let p = both_ok (λ (queue cid : ℕ). Queued queue cid) (read_number a) (read_number b) v e in
    let n = number_spelled a p.0 p.2 in
    let m = number_spelled b p.1 p.3 in
    record { queue = p.0; cid = p.1; is = sym p.4; texts = rw (n.0, m.0) refl; sized = (n.1, m.1) }

-- the numbers of a triple have 64 bits
abbrev IsSmall : Triple → Type 0
IsSmall t = (t.ns < 2 ^ 64) × (t.start < 2 ^ 64) × (t.len < 2 ^ 64)

three_spelled : (a b c : List ℕ) (t : Triple) → read_three_numbers a b c ≡ Ok t → (decimal t.ns ≡ a) × (decimal t.start ≡ b) × (decimal t.len ≡ c) × IsSmall t
three_spelled a b c t e =
    let make : ℕ → ℕ → ℕ → Triple = λ x y z. record { ns = x; start = y; len = z } in
    let p = both_ok (λ (f : ℕ → Triple) (z : ℕ). f z) (both make (read_number a) (read_number b)) (read_number c) t e in
    let q = both_ok make (read_number a) (read_number b) p.0 p.2 in
    let made : record { ns = q.0; start = q.1; len = p.1 } ≡ t = ap (λ (f : ℕ → Triple). f p.1) q.4 ∙ p.4 in
    let n = number_spelled a q.0 q.2 in
    let m = number_spelled b q.1 q.3 in
    let k = number_spelled c p.1 p.3 in
    subst (λ (u : Triple). (decimal u.ns ≡ a) × (decimal u.start ≡ b) × (decimal u.len ≡ c) × IsSmall u) made (n.0, m.0, k.0, (n.1, m.1, k.1))

triple_parts : (parts : List (List ℕ)) (t : Triple) → read_triple parts ≡ Ok t → (decimal t.ns ∷ decimal t.start ∷ decimal t.len ∷ [] ≡ parts) × IsSmall t
triple_parts [] t e = absurd cc
triple_parts (a ∷ []) t e = absurd cc
triple_parts (a ∷ b ∷ []) t e = absurd cc
triple_parts (a ∷ b ∷ c ∷ d ∷ more) t e = absurd cc
triple_parts (a ∷ b ∷ c ∷ []) t e =
    let p = three_spelled a b c t e in
    (rw (p.0, p.1, p.2) refl, p.3)

triple_spelled : (text : List ℕ) (t : Triple) → read_triple (parts_between 58 text) ≡ Ok t → (triple_text t.ns t.start t.len ≡ text) × IsSmall t
triple_spelled text t e =
    let p = triple_parts (parts_between 58 text) t e in
    (ap (joined_by 58) p.0 ∙ joined_again 58 text, p.1)

source_by : (b d : Bool) (kind : ℕ) (text : List ℕ) (s : CopySource) → (b ≡ true → kind ≡ 110) → (d ≡ true → kind ≡ 109)
    → cond b (changed nvm_source (read_triple (parts_between 58 text))) (cond d (changed mem_source (read_triple (parts_between 58 text))) (Err cause.Field)) ≡ Ok s → (source_text s ≡ kind ∷ text) × IsSizedSource s
source_by true d kind text s is other e =
    let p = changed_ok nvm_source (read_triple (parts_between 58 text)) s e in
    let spelled = triple_spelled text p.0 p.1 in
    subst (λ (x : CopySource). (source_text x ≡ kind ∷ text) × IsSizedSource x) p.2 (rw (is refl) (ap (λ (t : List ℕ). 110 ∷ t) spelled.0), spelled.1)
source_by false true kind text s is other e =
    let p = changed_ok mem_source (read_triple (parts_between 58 text)) s e in
    let spelled = triple_spelled text p.0 p.1 in
    subst (λ (x : CopySource). (source_text x ≡ kind ∷ text) × IsSizedSource x) p.2 (rw (other refl) (ap (λ (t : List ℕ). 109 ∷ t) spelled.0), spelled.1)
source_by false false kind text s is other e = absurd cc

source_spelled : (text : List ℕ) (s : CopySource) → read_source text ≡ Ok s → (source_text s ≡ text) × IsSizedSource s
source_spelled [] s e = absurd cc
source_spelled (kind ∷ text) s e = source_by (eqb kind 110) (eqb kind 109) kind text s (eqb-true kind 110) (eqb-true kind 109) e

abbrev range_parts : MemRange → List (List ℕ)
range_parts range = decimal range.ns ∷ decimal range.at ∷ decimal range.len ∷ access_parts range.access

read_only : (b : Bool) (a c d e : List ℕ) (r : MemRange) → (b ≡ true → e ≡ codes "r") → cond b (changed (mem_range access.ReadOnly) (read_three_numbers a c d)) (Err cause.Field) ≡ Ok r → (range_parts r ≡ a ∷ c ∷ d ∷ e ∷ []) × IsSizedRange r
read_only true a c d e r is h =
    let p = changed_ok (mem_range access.ReadOnly) (read_three_numbers a c d) r h in
    let q = three_spelled a c d p.0 p.1 in
    subst (λ (x : MemRange). (range_parts x ≡ a ∷ c ∷ d ∷ e ∷ []) × IsSizedRange x) p.2 (rw (q.0, q.1, q.2, is refl) refl, q.3)
read_only false a c d e r is h = absurd cc

range_in_parts : (parts : List (List ℕ)) (r : MemRange) → range_in parts ≡ Ok r → (range_parts r ≡ parts) × IsSizedRange r
range_in_parts [] r e = absurd cc
range_in_parts (a ∷ []) r e = absurd cc
range_in_parts (a ∷ b ∷ []) r e = absurd cc
range_in_parts (a ∷ b ∷ c ∷ []) r e =
    let p = changed_ok (mem_range access.ReadWrite) (read_three_numbers a b c) r e in
    let q = three_spelled a b c p.0 p.1 in
    subst (λ (x : MemRange). (range_parts x ≡ a ∷ b ∷ c ∷ []) × IsSizedRange x) p.2 (rw (q.0, q.1, q.2) refl, q.3)
range_in_parts (a ∷ b ∷ c ∷ d ∷ []) r e = read_only (bytes_eq d (codes "r")) a b c d r (bytes_eq-Decides d (codes "r")).0 e
range_in_parts (a ∷ b ∷ c ∷ d ∷ f ∷ more) r e = absurd cc

range_spelled : (text : List ℕ) (r : MemRange) → read_range text ≡ Ok r → (range_text r ≡ text) × IsSizedRange r
range_spelled text r e =
    let p = range_in_parts (parts_between 58 text) r e in
    (ap (joined_by 58) p.0 ∙ joined_again 58 text, p.1)

each_spelled : {A : Type 0} (read : List ℕ → Result A TextCause) (write : A → List ℕ) (P : A → Type 0) → ((text : List ℕ) (x : A) → read text ≡ Ok x → (write x ≡ text) × P x) → (texts : List (List ℕ)) (xs : List A) → read_each read texts ≡ Ok xs → (map write xs ≡ texts) × All P xs
each_spelled {A} read write P h [] xs e = subst (λ (ys : List A). (map write ys ≡ []) × All P ys) (ok_is [] xs e) (refl, All-nil P)
each_spelled {A} read write P h (text ∷ texts) xs e =
    let p = both_ok (λ (a b : List A). a ++ b) (changed (λ x. x ∷ []) (read text)) (read_each read texts) xs e in
    let q = changed_ok (λ (x : A). x ∷ []) (read text) p.0 p.2 in
    let made : q.0 ∷ p.1 ≡ xs = ap (λ (a : List A). a ++ p.1) q.2 ∙ p.4 in
    let first : (write q.0 ≡ text) × P q.0 = h text q.0 q.1 in
    let rest : (map write p.1 ≡ texts) × All P p.1 = each_spelled read write P h texts p.1 p.3 in
    subst (λ (ys : List A). (map write ys ≡ text ∷ texts) × All P ys) made (rw (first.0, rest.0) refl, All-cons P q.0 p.1 first.1 rest.1)

-- a list of parts has an element
none_some : (p : List ℕ) (ps : List (List ℕ)) → [] ≡ p ∷ ps → ⊥
none_some p ps e = absurd cc

some_items : {A : Type 0} (write : A → List ℕ) (xs : List A) (mark : ℕ) (text : List ℕ) → map write xs ≡ parts_between mark text → 0 < length xs
some_items write [] mark text e = absurd (let p = some_part mark text in none_some p.0 p.1 (e ∙ p.2))
some_items write (x ∷ xs) mark text e = omega arith

word_by : (b : Bool) (vs : List Value) → cond b (Ok []) (Err cause.Field) ≡ Ok vs → (b ≡ true) × (vs ≡ [])
word_by true vs e = (refl, sym cc)
word_by false vs e = absurd cc

pub record Spells (fields : List Field) (values : List Value) (parts : List (List ℕ)) : Type 0 where
  pub texts : field_texts fields values ≡ parts
  pub shape : IsShaped fields values
  pub sized : All IsSized values

pub fields_spelled : (fields : List Field) (texts : List (List ℕ)) (vs : List Value) → read_fields fields texts ≡ Ok vs → Spells fields vs texts
fields_spelled [] [] vs e = subst (λ (ws : List Value). Spells [] ws []) (ok_is [] vs e) (record { texts = refl; shape = tt; sized = All-nil IsSized })
fields_spelled [] (t ∷ ts) vs e = absurd cc
fields_spelled (f ∷ fs) [] vs e = absurd cc
fields_spelled (Word w ∷ fs) (t ∷ ts) vs e =
    let p = both_ok (λ (a b : List Value). a ++ b) (read_field (Word w) t) (read_fields fs ts) vs e in
    let q = word_by (bytes_eq t w) p.0 p.2 in
    let rest = fields_spelled fs ts p.1 p.3 in
    let made : p.1 ≡ vs = ap (λ (a : List Value). a ++ p.1) (sym q.1) ∙ p.4 in
    let same : t ≡ w = (bytes_eq-Decides t w).0 q.0 in
    subst (λ (ws : List Value). Spells (Word w ∷ fs) ws (t ∷ ts)) made (record { texts = ap (λ (xs : List (List ℕ)). w ∷ xs) rest.texts ∙ ap (λ (x : List ℕ). x ∷ ts) (sym same); shape = rest.shape; sized = rest.sized })
fields_spelled (Number name least most ∷ fs) (t ∷ ts) vs e =
    let p = both_ok (λ (a b : List Value). a ++ b) (read_field (Number name least most) t) (read_fields fs ts) vs e in
    let q = changed_ok (λ (n : ℕ). Count n ∷ []) (read_behind read_number (after_name name t)) p.0 p.2 in
    let r = behind_ok read_number (after_name name t) q.0 q.1 in
    let rest = fields_spelled fs ts p.1 p.3 in
    let made : Count q.0 ∷ p.1 ≡ vs = ap (λ (a : List Value). a ++ p.1) q.2 ∙ p.4 in
    let spelled = number_spelled r.0 q.0 r.2 in
    let sized : All IsSized (Count q.0 ∷ p.1) = All-cons IsSized (Count q.0) p.1 spelled.1 rest.sized in
    let text : name ++ decimal q.0 ≡ t = ap (λ (x : List ℕ). name ++ x) spelled.0 ∙ after_name-some name t r.0 r.1 in
    subst (λ (ws : List Value). Spells (Number name least most ∷ fs) ws (t ∷ ts)) made (record { texts = ap (λ (x : List ℕ). x ∷ field_texts fs p.1) text ∙ ap (λ (xs : List (List ℕ)). t ∷ xs) rest.texts; shape = rest.shape; sized = sized })
fields_spelled (Identifier name ∷ fs) (t ∷ ts) vs e =
    let p = both_ok (λ (a b : List Value). a ++ b) (read_field (Identifier name) t) (read_fields fs ts) vs e in
    let q = changed_ok (λ (v : Value). v ∷ []) (read_behind read_queued (after_name name t)) p.0 p.2 in
    let r = behind_ok read_queued (after_name name t) q.0 q.1 in
    let rest = fields_spelled fs ts p.1 p.3 in
    let s = queued_parts (parts_between 58 r.0) q.0 r.2 in
    let said = Queued s.queue s.cid in
    let made : said ∷ p.1 ≡ vs = ap (λ (v : Value). v ∷ p.1) (sym s.is) ∙ ap (λ (a : List Value). a ++ p.1) q.2 ∙ p.4 in
    let spelled : queued_text s.queue s.cid ≡ r.0 = ap (joined_by 58) s.texts ∙ joined_again 58 r.0 in
    let sized : All IsSized (said ∷ p.1) = All-cons IsSized said p.1 s.sized rest.sized in
    let text : name ++ queued_text s.queue s.cid ≡ t = ap (λ (x : List ℕ). name ++ x) spelled ∙ after_name-some name t r.0 r.1 in
    subst (λ (ws : List Value). Spells (Identifier name ∷ fs) ws (t ∷ ts)) made (record { texts = ap (λ (x : List ℕ). x ∷ field_texts fs p.1) text ∙ ap (λ (xs : List (List ℕ)). t ∷ xs) rest.texts; shape = rest.shape; sized = sized })
fields_spelled (Hex name ∷ fs) (t ∷ ts) vs e =
    let read : List ℕ → Result (List ℕ) TextCause = λ x. or_cause cause.Hex (hex_of x) in
    let p = both_ok (λ (a b : List Value). a ++ b) (read_field (Hex name) t) (read_fields fs ts) vs e in
    let q = changed_ok (λ (b : List ℕ). Data b ∷ []) (read_behind read (after_name name t)) p.0 p.2 in
    let r = behind_ok read (after_name name t) q.0 q.1 in
    let rest = fields_spelled fs ts p.1 p.3 in
    let made : Data q.0 ∷ p.1 ≡ vs = ap (λ (a : List Value). a ++ p.1) q.2 ∙ p.4 in
    let spelled = hex_of-spelled r.0 q.0 (or_cause_ok cause.Hex (hex_of r.0) q.0 r.2) in
    let sized : All IsSized (Data q.0 ∷ p.1) = All-cons IsSized (Data q.0) p.1 spelled.1 rest.sized in
    let text : name ++ hex_text q.0 ≡ t = ap (λ (x : List ℕ). name ++ x) (sym spelled.0) ∙ after_name-some name t r.0 r.1 in
    subst (λ (ws : List Value). Spells (Hex name ∷ fs) ws (t ∷ ts)) made (record { texts = ap (λ (x : List ℕ). x ∷ field_texts fs p.1) text ∙ ap (λ (xs : List (List ℕ)). t ∷ xs) rest.texts; shape = rest.shape; sized = sized })
fields_spelled (Sources name ∷ fs) (t ∷ ts) vs e =
    let read : List ℕ → Result (List CopySource) TextCause = λ x. read_each read_source (parts_between 44 x) in
    let p = both_ok (λ (a b : List Value). a ++ b) (read_field (Sources name) t) (read_fields fs ts) vs e in
    let q = changed_ok (λ (b : List CopySource). Copied b ∷ []) (read_behind read (after_name name t)) p.0 p.2 in
    let r = behind_ok read (after_name name t) q.0 q.1 in
    let rest = fields_spelled fs ts p.1 p.3 in
    let made : Copied q.0 ∷ p.1 ≡ vs = ap (λ (a : List Value). a ++ p.1) q.2 ∙ p.4 in
    let each = each_spelled read_source source_text IsSizedSource source_spelled (parts_between 44 r.0) q.0 r.2 in
    let sized : All IsSized (Copied q.0 ∷ p.1) = All-cons IsSized (Copied q.0) p.1 (some_items source_text q.0 44 r.0 each.0, each.1) rest.sized in
    let spelled : joined_by 44 (map source_text q.0) ≡ r.0 = ap (joined_by 44) each.0 ∙ joined_again 44 r.0 in
    let text : name ++ joined_by 44 (map source_text q.0) ≡ t = ap (λ (x : List ℕ). name ++ x) spelled ∙ after_name-some name t r.0 r.1 in
    subst (λ (ws : List Value). Spells (Sources name ∷ fs) ws (t ∷ ts)) made (record { texts = ap (λ (x : List ℕ). x ∷ field_texts fs p.1) text ∙ ap (λ (xs : List (List ℕ)). t ∷ xs) rest.texts; shape = rest.shape; sized = sized })
fields_spelled (Ranges name ∷ fs) (t ∷ ts) vs e =
    let read : List ℕ → Result (List MemRange) TextCause = λ x. read_each read_range (parts_between 44 x) in
    let p = both_ok (λ (a b : List Value). a ++ b) (read_field (Ranges name) t) (read_fields fs ts) vs e in
    let q = changed_ok (λ (b : List MemRange). Covered b ∷ []) (read_behind read (after_name name t)) p.0 p.2 in
    let r = behind_ok read (after_name name t) q.0 q.1 in
    let rest = fields_spelled fs ts p.1 p.3 in
    let made : Covered q.0 ∷ p.1 ≡ vs = ap (λ (a : List Value). a ++ p.1) q.2 ∙ p.4 in
    let each = each_spelled read_range range_text IsSizedRange range_spelled (parts_between 44 r.0) q.0 r.2 in
    let sized : All IsSized (Covered q.0 ∷ p.1) = All-cons IsSized (Covered q.0) p.1 (some_items range_text q.0 44 r.0 each.0, each.1) rest.sized in
    let spelled : joined_by 44 (map range_text q.0) ≡ r.0 = ap (joined_by 44) each.0 ∙ joined_again 44 r.0 in
    let text : name ++ joined_by 44 (map range_text q.0) ≡ t = ap (λ (x : List ℕ). name ++ x) spelled ∙ after_name-some name t r.0 r.1 in
    subst (λ (ws : List Value). Spells (Ranges name ∷ fs) ws (t ∷ ts)) made (record { texts = ap (λ (x : List ℕ). x ∷ field_texts fs p.1) text ∙ ap (λ (xs : List (List ℕ)). t ∷ xs) rest.texts; shape = rest.shape; sized = sized })
