-- What stands behind a name.
use Rattle.std.proofs.Common.{◌≡◌, ℕ, ◌+◌, Bool, true, false, ◌&&◌, cond, eqb, List, [], ◌∷◌, length, take, drop, Option, Some, None, Bor, MatchOption, option_map, refl, sym, ap, ◌∙◌}
use Rattle.std.specs.Str.{bytes_eq}
use Rattle.script_line.specs.Reading.{after_name}

by_first : (b : Bool) (after : Option (List ℕ)) (same : Bool) (rest : List ℕ) → after ≡ cond same (Some rest) None → cond b after None ≡ cond (b && same) (Some rest) None
by_first true after same rest e = e
by_first false after same rest e = refl

-- what stands in front of a name's end
named : (name text : List ℕ) → after_name name text ≡ cond (bytes_eq (take (length name) text) name) (Some (drop (length name) text)) None
named [] text = refl
named (c ∷ cs) [] = refl
named (c ∷ cs) (d ∷ ds) = by_first (eqb d c) (after_name cs ds) (bytes_eq (take (length cs) ds) cs) (drop (length cs) ds) (named cs ds)

pub named_as : (name text : List ℕ) (r : Option (Bor (List ℕ)))
    → MatchOption r (bytes_eq (take (length name) text) name ≡ false) (λ x. (bytes_eq (take (length name) text) name ≡ true) × (x.now ≡ drop (length name) text) × (length x.now + length name ≡ length text))
    → option_map (λ x. x.now) r ≡ after_name name text
named_as name text None h = sym (named name text ∙ rw h refl)
named_as name text (Some x) h = sym (named name text ∙ rw h.0 (ap (λ (t : List ℕ). Some t) (sym h.1)))
