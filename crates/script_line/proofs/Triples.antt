-- Three numbers with colons between, and lists of what is read one by one.
use Rattle.std.proofs.Common.{◌≡◌, ℕ, suc, ◌<◌, arith, List, [], ◌∷◌, ◌++◌, length, Option, Some, None, Result, Ok, Err, refl, sym, ap, ◌∙◌}
use Rattle.cp_text.specs.Number.{spelled_number}
use Rattle.script_line.specs.declared.fault.TextCause.{TextCause}
use Rattle.script_line.specs.declared.fault.TextCause.TheVariants as cause
use Rattle.script_line.specs.declared.field.Triple.{Triple}
use Rattle.cp_text.specs.Parts.{parts_between}
use Rattle.cp_text.proofs.Cuts.{some_part}
use Rattle.script_line.specs.Reading.{both, changed, or_cause, range_in, read_each, read_three_numbers, read_triple}
use Rattle.script_line.specs.private.Outcomes.{noted, followed}
use Rattle.script_line.proofs.Outcomes.{said, faulty}

pub four_parts : (a b c text : List ℕ) → read_triple (a ∷ b ∷ c ∷ parts_between 58 text) ≡ Err cause.Field
four_parts a b c text = ap (λ (ps : List (List ℕ)). read_triple (a ∷ b ∷ c ∷ ps)) (some_part 58 text).2

-- a text of fewer than three parts
pub short_triple : (parts : List (List ℕ)) → length parts < 3 → read_triple parts ≡ Err cause.Field
short_triple [] h = refl
short_triple (a ∷ []) h = refl
short_triple (a ∷ b ∷ []) h = refl
short_triple (a ∷ b ∷ c ∷ parts) h = absurd (omega arith)

pub short_range : (parts : List (List ℕ)) → length parts < 3 → range_in parts ≡ Err cause.Field
short_range [] h = refl
short_range (a ∷ []) h = refl
short_range (a ∷ b ∷ []) h = refl
short_range (a ∷ b ∷ c ∷ parts) h = absurd (omega arith)

-- a fourth part, and more of them or none
pub five_parts : (a b c d text : List ℕ) → range_in (a ∷ b ∷ c ∷ d ∷ parts_between 58 text) ≡ Err cause.Field
five_parts a b c d text = ap (λ (ps : List (List ℕ)). range_in (a ∷ b ∷ c ∷ d ∷ ps)) (some_part 58 text).2

abbrev triple : Option ℕ → Option ℕ → Option ℕ → Result Triple TextCause
triple a b c = both (λ (make : ℕ → Triple) (z : ℕ). make z) (both (λ (x y z : ℕ). record { ns = x; start = y; len = z }) (or_cause cause.Number a) (or_cause cause.Number b)) (or_cause cause.Number c)

none_first : (b c : Option ℕ) → triple None b c ≡ Err cause.Number
none_first None None = refl
none_first None (Some c) = refl
none_first (Some b) None = refl
none_first (Some b) (Some c) = refl

none_second : (a c : Option ℕ) → triple a None c ≡ Err cause.Number
none_second None None = refl
none_second None (Some c) = refl
none_second (Some a) None = refl
none_second (Some a) (Some c) = refl

none_third : (a b : Option ℕ) → triple a b None ≡ Err cause.Number
none_third None None = refl
none_third None (Some b) = refl
none_third (Some a) None = refl
none_third (Some a) (Some b) = refl

pub no_first : (a b c : List ℕ) → spelled_number a ≡ None → read_three_numbers a b c ≡ Err cause.Number
no_first a b c e = ap (λ (o : Option ℕ). triple o (spelled_number b) (spelled_number c)) e ∙ none_first (spelled_number b) (spelled_number c)

pub no_second : (a b c : List ℕ) → spelled_number b ≡ None → read_three_numbers a b c ≡ Err cause.Number
no_second a b c e = ap (λ (o : Option ℕ). triple (spelled_number a) o (spelled_number c)) e ∙ none_second (spelled_number a) (spelled_number c)

pub no_third : (a b c : List ℕ) → spelled_number c ≡ None → read_three_numbers a b c ≡ Err cause.Number
no_third a b c e = ap (λ (o : Option ℕ). triple (spelled_number a) (spelled_number b) o) e ∙ none_third (spelled_number a) (spelled_number b)

-- how much is left of a text that may be missing
abbrev pub left : Option (List ℕ) → ℕ
left None = 0
left (Some text) = suc (length text)

pub each_ok : {A : Type 0} (read : List ℕ → Result A TextCause) (fault : Option TextCause) (xs : List A) (x : A) (part : List ℕ) (parts : List (List ℕ)) (total : Result (List A) TextCause) → read part ≡ Ok x
    → followed fault xs (read_each read (part ∷ parts)) ≡ total → followed fault (xs ++ x ∷ []) (read_each read parts) ≡ total
each_ok {A} read fault xs x part parts total e h =
    said fault xs (x ∷ []) (read_each read parts) ∙ sym (ap (λ (r : Result A TextCause). followed fault xs (both (λ a b. a ++ b) (changed (λ y. y ∷ []) r) (read_each read parts))) e) ∙ h

pub each_err : {A : Type 0} (read : List ℕ → Result A TextCause) (fault : Option TextCause) (xs : List A) (c : TextCause) (part : List ℕ) (parts : List (List ℕ)) (total : Result (List A) TextCause) → read part ≡ Err c
    → followed fault xs (read_each read (part ∷ parts)) ≡ total → followed (noted fault c) xs (read_each read parts) ≡ total
each_err {A} read fault xs c part parts total e h =
    faulty fault xs c (read_each read parts) ∙ sym (ap (λ (r : Result A TextCause). followed fault xs (both (λ a b. a ++ b) (changed (λ y. y ∷ []) r) (read_each read parts))) e) ∙ h

pub all_three : (a b c : List ℕ) (x y z : ℕ) → Some x ≡ spelled_number a → Some y ≡ spelled_number b → Some z ≡ spelled_number c → read_three_numbers a b c ≡ Ok (record { ns = x; start = y; len = z })
all_three a b c x y z e f g = ap (λ (o : Option ℕ). triple o (spelled_number b) (spelled_number c)) (sym e) ∙ ap (λ (o : Option ℕ). triple (Some x) o (spelled_number c)) (sym f) ∙ ap (λ (o : Option ℕ). triple (Some x) (Some y) o) (sym g)
