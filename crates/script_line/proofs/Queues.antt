-- A queue and an identifier in it.
use Rattle.std.proofs.Common.{◌≡◌, ℕ, List, [], ◌∷◌, Option, Some, None, Result, Ok, Err, refl, sym, ap, ◌∙◌}
use Rattle.cp_text.specs.Number.{spelled_number}
use Rattle.cp_text.specs.Parts.{parts_between}
use Rattle.cp_text.proofs.Cuts.{some_part}
use Rattle.script_line.specs.declared.fault.TextCause.{TextCause}
use Rattle.script_line.specs.declared.fault.TextCause.TheVariants as cause
use Rattle.script_line.specs.Field.{Value, Queued}
use Rattle.script_line.specs.Reading.{both, or_cause, queued_in}

pub one_part : (a : List ℕ) → queued_in (a ∷ []) ≡ Err cause.Field
one_part a = refl

pub three_parts : (a b text : List ℕ) → queued_in (a ∷ b ∷ parts_between 58 text) ≡ Err cause.Field
three_parts a b text = ap (λ (ps : List (List ℕ)). queued_in (a ∷ b ∷ ps)) (some_part 58 text).2

abbrev pair : Option ℕ → Option ℕ → Result Value TextCause
pair a b = both (λ (queue cid : ℕ). Queued queue cid) (or_cause cause.Number a) (or_cause cause.Number b)

none_first : (b : Option ℕ) → pair None b ≡ Err cause.Number
none_first None = refl
none_first (Some b) = refl

none_second : (a : Option ℕ) → pair a None ≡ Err cause.Number
none_second None = refl
none_second (Some a) = refl

pub no_queue : (a b : List ℕ) → spelled_number a ≡ None → queued_in (a ∷ b ∷ []) ≡ Err cause.Number
no_queue a b e = ap (λ (o : Option ℕ). pair o (spelled_number b)) e ∙ none_first (spelled_number b)

pub no_cid : (a b : List ℕ) → spelled_number b ≡ None → queued_in (a ∷ b ∷ []) ≡ Err cause.Number
no_cid a b e = ap (λ (o : Option ℕ). pair (spelled_number a) o) e ∙ none_second (spelled_number a)
