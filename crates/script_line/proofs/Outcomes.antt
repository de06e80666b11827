-- What the fields of a line say, read one by one from the left.
use Rattle.std.proofs.Common.{◌≡◌, ℕ, ◌<◌, ◌≤◌, true, false, leb, List, [], ◌∷◌, ◌++◌, Option, Some, None, Result, Ok, Err, refl, sym, ap, ◌∙◌, append_assoc, arith, inl, inr, ◌⊎◌}
use Rattle.std.proofs.lemmas.Bool.{leb-true, leb-false}
use Rattle.std.proofs.lemmas.List.{append-nil}
use Rattle.script_line.specs.declared.fault.TextCause.{TextCause}
use Rattle.script_line.specs.declared.fault.TextCause.TheVariants as cause
use Rattle.cp_text.specs.Parts.{parts_between}
use Rattle.cp_text.proofs.Cuts.{some_part}
use Rattle.script_line.specs.Field.{Field, Value}
use Rattle.script_line.specs.Reading.{rank_of, first_of_two, both, read_fields}
use Rattle.script_line.specs.private.Outcomes.{noted, so_far, followed}

ranked : (m n : ℕ) → ((leb m n ≡ true) × (m ≤ n)) ⊎ ((leb m n ≡ false) × (n < m))
ranked m n = elim (leb m n) as (λ t. leb m n ≡ t → ((leb m n ≡ true) × (m ≤ n)) ⊎ ((leb m n ≡ false) × (n < m))) [ true ↦ λ e. inl (e, leb-true m n e) | false ↦ λ e. inr (e, leb-false m n e) ] refl

earlier : (a b : TextCause) → rank_of a ≤ rank_of b → first_of_two a b ≡ a
earlier a b le = elim (ranked (rank_of a) (rank_of b)) [ inl h ↦ rw h.0 refl | inr h ↦ absurd (omega arith) ]

later : (a b : TextCause) → rank_of b < rank_of a → first_of_two a b ≡ b
later a b lt = elim (ranked (rank_of a) (rank_of b)) [ inl h ↦ absurd (omega arith) | inr h ↦ rw h.0 refl ]

pub first_assoc : (a b c : TextCause) → first_of_two (first_of_two a b) c ≡ first_of_two a (first_of_two b c)
first_assoc a b c =
    elim (ranked (rank_of a) (rank_of b)) [
      | inl h ↦ elim (ranked (rank_of b) (rank_of c)) [
        | inl k ↦ ap (λ (x : TextCause). first_of_two x c) (earlier a b h.1) ∙ earlier a c (omega arith) ∙ sym (ap (first_of_two a) (earlier b c k.1) ∙ earlier a b h.1)
        | inr k ↦ ap (λ (x : TextCause). first_of_two x c) (earlier a b h.1) ∙ sym (ap (first_of_two a) (later b c k.1))
      ]
      | inr h ↦ elim (ranked (rank_of b) (rank_of c)) [
        | inl k ↦ ap (λ (x : TextCause). first_of_two x c) (later a b h.1) ∙ earlier b c k.1 ∙ sym (ap (first_of_two a) (earlier b c k.1) ∙ later a b h.1)
        | inr k ↦ ap (λ (x : TextCause). first_of_two x c) (later a b h.1) ∙ later b c k.1 ∙ sym (ap (first_of_two a) (later b c k.1) ∙ later a c (omega arith))
      ]
    ]

missing_again : (a : TextCause) → first_of_two (first_of_two a cause.Field) cause.Field ≡ first_of_two a cause.Field
missing_again a = first_assoc a cause.Field cause.Field

-- a field that is missing
pub missing : (fault : Option TextCause) (values : List Value) (field : Field) (fields : List Field) → followed (noted fault cause.Field) values (read_fields fields []) ≡ followed fault values (read_fields (field ∷ fields) [])
missing None values field [] = refl
missing None values field (f ∷ fs) = refl
missing (Some a) values field [] = refl
missing (Some a) values field (f ∷ fs) = ap (λ (c : TextCause). Err c) (missing_again a)

-- a field that says something
pub said : {A : Type 0} (fault : Option TextCause) (values xs : List A) (more : Result (List A) TextCause) → followed fault (values ++ xs) more ≡ followed fault values (both (λ a b. a ++ b) (Ok xs) more)
said {A} None values xs (Ok ys) = ap (λ (zs : List A). Ok zs) (append_assoc values xs ys)
said {A} None values xs (Err e) = refl
said {A} (Some a) values xs (Ok ys) = refl
said {A} (Some a) values xs (Err e) = refl

-- a field with a fault
pub faulty : {A : Type 0} (fault : Option TextCause) (values : List A) (c : TextCause) (more : Result (List A) TextCause) → followed (noted fault c) values more ≡ followed fault values (both (λ a b. a ++ b) (Err c) more)
faulty None values c (Ok ys) = refl
faulty None values c (Err e) = refl
faulty (Some a) values c (Ok ys) = refl
faulty (Some a) values c (Err e) = ap (λ (x : TextCause). Err x) (first_assoc a c e)

-- no field is left
pub ended : (fault : Option TextCause) (values : List Value) → followed fault values (read_fields [] []) ≡ so_far fault values
ended None values = ap (λ (zs : List Value). Ok zs) (append-nil values)
ended (Some a) values = refl

-- fields are left
pub too_many : (fault : Option TextCause) (values : List Value) (text : List ℕ) → followed fault values (read_fields [] (parts_between 32 text)) ≡ so_far (noted fault cause.Field) values
too_many None values text = ap (λ (ps : List (List ℕ)). followed None values (read_fields [] ps)) (some_part 32 text).2
too_many (Some a) values text = ap (λ (ps : List (List ℕ)). followed (Some a) values (read_fields [] ps)) (some_part 32 text).2
