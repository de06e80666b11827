-- What is added to a text, field by field.
use Rattle.std.proofs.Common.{◌≡◌, ℕ, List, [], ◌∷◌, ◌++◌, map, refl, sym, ap, subst, ◌∙◌, append_assoc, true, false}
use Rattle.std.specs.Prelude.{All}
use Rattle.std.proofs.lemmas.List.{append-nil}
use Rattle.std.proofs.lemmas.List.Elements.{All-nil, All-cons}
use Rattle.cp_text.specs.Parts.{joined_by}
use Rattle.script_line.specs.declared.kind.LineKind.{LineKind}
use Rattle.script_line.specs.Field.{Field, IsShaped, Word, Number, Identifier, Hex, Sources, Ranges, Value, Count, Queued, Data, Copied, Covered, field_texts, value_text}
use Rattle.script_line.specs.Line.{fields_of}
use Rattle.script_line.specs.Printing.{PrintsLine}
use Rattle.script_line.specs.Sized.{IsSized}
use Rattle.script_line.specs.private.Pushed.{PrintsFields, front_of, is_word, joined_behind}
use Rattle.script_line.proofs.Shapes.{no_value}

-- ---- parts with a mark between

-- behind nothing, parts are joined as they are
pub joined_is : (mark : ℕ) (parts : List (List ℕ)) → joined_behind [] mark parts ≡ joined_by mark parts
joined_is mark [] = refl
joined_is mark (part ∷ []) = append-nil part
joined_is mark (part ∷ next ∷ parts) = ap (λ (t : List ℕ). part ++ mark ∷ t) (joined_is mark (next ∷ parts))

-- one part more is added
pub part_added : (old mid new before part more : List ℕ) → mid ≡ old ++ before → new ≡ mid ++ part → new ++ more ≡ old ++ (before ++ part ++ more)
part_added old mid new before part more a b =
    ap (λ (t : List ℕ). t ++ more) (b ∙ ap (λ (t : List ℕ). t ++ part) a ∙ append_assoc old before part) ∙ append_assoc old (before ++ part) more

-- one part more of a list is added
pub listed_more : {A : Type 0} (write : A → List ℕ) (mark : ℕ) (old all mid new before : List ℕ) (xs rest : List A) (x : A) → xs ≡ x ∷ rest → mid ≡ old ++ before → new ≡ mid ++ write x
    → old ++ joined_behind before mark (map write xs) ≡ all → new ++ joined_behind (mark ∷ []) mark (map write rest) ≡ all
listed_more write mark old all mid new before xs rest x is a b h =
    part_added old mid new before (write x) (joined_behind (mark ∷ []) mark (map write rest)) a b ∙ ap (λ ys. old ++ joined_behind before mark (map write ys)) (sym is) ∙ h

-- where an element and those behind it are so, all of them are
pub sized_more : {A : Type 0} (Sized : A → Type 0) (xs rest : List A) (x : A) → xs ≡ x ∷ rest → Sized x → All Sized rest → All Sized xs
sized_more Sized xs rest x is s h = subst (λ ys. All Sized ys) (sym is) (All-cons Sized x rest s h)

-- ---- fields

pub fields_none : (before : List ℕ) (all : List Field) (values : List Value) (old : List ℕ) → IsShaped all values → PrintsFields before before all all values values old old
fields_none before all values old s = record { shaped = s; text = refl; sized = λ h. h }

pub fields_then : (before mark after : List ℕ) (all mid more : List Field) (values left rest : List Value) (old mid_text new : List ℕ)
    → PrintsFields before mark all mid values left old mid_text → PrintsFields mark after mid more left rest mid_text new → PrintsFields before after all more values rest old new
fields_then before mark after all mid more values left rest old mid_text new p q = record { shaped = q.shaped; text = q.text ∙ p.text; sized = λ h. p.sized (q.sized h) }

takes_word : (f : Field) (more : List Field) (values : List Value) → is_word f ≡ true → IsShaped (f ∷ more) values → (IsShaped more values) × (field_texts (f ∷ more) values ≡ front_of f ∷ field_texts more values)
takes_word (Word text) more values w s = (s, refl)
takes_word _ more values w s = absurd cc

takes_value : (f : Field) (more : List Field) (v : Value) (vs : List Value) → is_word f ≡ false → IsShaped (f ∷ more) (v ∷ vs) → (IsShaped more vs) × (field_texts (f ∷ more) (v ∷ vs) ≡ (front_of f ++ value_text v) ∷ field_texts more vs)
takes_value (Word text) more v vs w s = absurd cc
takes_value (Number name least most) more (Count n) vs w s = (s, refl)
takes_value (Identifier name) more (Queued queue cid) vs w s = (s, refl)
takes_value (Hex name) more (Data bytes) vs w s = (s, refl)
takes_value (Sources name) more (Copied sources) vs w s = (s, refl)
takes_value (Ranges name) more (Covered ranges) vs w s = (s, refl)
takes_value _ more v vs w s = absurd s

needs_value : (f : Field) (more : List Field) → is_word f ≡ false → IsShaped (f ∷ more) [] → ⊥
needs_value (Word text) more w s = absurd cc
needs_value _ more w s = s

-- a word
pub word_printed : (before : List ℕ) (f : Field) (more : List Field) (values : List Value) (old mid new : List ℕ) → mid ≡ old ++ before → new ≡ mid ++ front_of f → is_word f ≡ true → IsShaped (f ∷ more) values
    → PrintsFields before (32 ∷ []) (f ∷ more) more values values old new
word_printed before f more values old mid new a b w s =
    let p = takes_word f more values w s in
    record {
      shaped = p.0;
      text = part_added old mid new before (front_of f) (joined_behind (32 ∷ []) 32 (field_texts more values)) a b ∙ ap (λ (ts : List (List ℕ)). old ++ joined_behind before 32 ts) (sym p.1);
      sized = λ h. h;
    }

-- a field that says something
pub value_printed : (before : List ℕ) (f : Field) (more : List Field) (v : Value) (vs values : List Value) (old mid front new : List ℕ) → mid ≡ old ++ before → front ≡ mid ++ front_of f → new ≡ front ++ value_text v → IsSized v
    → is_word f ≡ false → values ≡ v ∷ vs → IsShaped (f ∷ more) values → PrintsFields before (32 ∷ []) (f ∷ more) more values vs old new
value_printed before f more v vs values old mid front new a b c sized w e s =
    let q = takes_value f more v vs w (subst (λ (xs : List Value). IsShaped (f ∷ more) xs) e s) in
    let part : new ≡ mid ++ (front_of f ++ value_text v) = c ∙ ap (λ (t : List ℕ). t ++ value_text v) b ∙ append_assoc mid (front_of f) (value_text v) in
    record {
      shaped = q.0;
      text = part_added old mid new before (front_of f ++ value_text v) (joined_behind (32 ∷ []) 32 (field_texts more vs)) a part ∙ ap (λ (ts : List (List ℕ)). old ++ joined_behind before 32 ts) (sym q.1 ∙ ap (field_texts (f ∷ more)) (sym e));
      sized = λ h. subst (λ (xs : List Value). All IsSized xs) (sym e) (All-cons IsSized v vs sized h);
    }

-- no value is left
pub value_missing : (f : Field) (more : List Field) (values : List Value) → is_word f ≡ false → values ≡ [] → IsShaped (f ∷ more) values → ⊥
value_missing f more values w e s = needs_value f more w (subst (λ (xs : List Value). IsShaped (f ∷ more) xs) e s)

-- no value is left over
pub fields_end : (before after : List ℕ) (all : List Field) (values rest : List Value) (old new : List ℕ) → PrintsFields before after all [] values rest old new → PrintsFields before after all [] values [] old new
fields_end before after all values rest old new p = subst (λ (v : List Value). PrintsFields before after all [] values v old new) (no_value rest p.shaped) p

-- a whole line
pub line_printed : (kind : LineKind) (fs : List Field) (V : List Value) (old end new : List ℕ)
    → PrintsFields [] (32 ∷ []) fs [] V [] old end → fs ≡ fields_of kind → new ≡ end ++ 10 ∷ [] → PrintsLine (record { kind = kind; values = V }) old new
line_printed kind fs V old end new p is newline =
    let whole : end ≡ old ++ joined_by 32 (field_texts (fields_of kind) V) =
    sym (append-nil end) ∙ p.text ∙ ap (λ (t : List ℕ). old ++ t) (joined_is 32 (field_texts fs V) ∙ ap (λ (x : List Field). joined_by 32 (field_texts x V)) is) in
    record {
      text = newline ∙ ap (λ (t : List ℕ). t ++ 10 ∷ []) whole ∙ append_assoc old (joined_by 32 (field_texts (fields_of kind) V)) (10 ∷ []);
      sized = p.sized (All-nil IsSized);
    }
