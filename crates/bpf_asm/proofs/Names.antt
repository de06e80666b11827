-- The mnemonics and their texts.
use Rattle.std.proofs.Common.{◌≡◌, ℕ, Bool, true, false, ◌&&◌, eqb, List, [], ◌∷◌, ◌++◌, length, take, drop, refl, ap, ◌∙◌}
use Rattle.std.specs.Str.{bytes_eq}

and_assoc : (a b c : Bool) → (a && (b && c)) ≡ ((a && b) && c)
and_assoc true b c = refl
and_assoc false b c = refl

-- a text is two texts in a row where its parts are
pub spelled_by_parts : (text a b : List ℕ) → bytes_eq text (a ++ b) ≡ (bytes_eq (take (length a) text) a && bytes_eq (drop (length a) text) b)
spelled_by_parts text [] b = refl
spelled_by_parts [] (c ∷ cs) b = refl
spelled_by_parts (d ∷ ds) (c ∷ cs) b =
    ap (λ (t : Bool). eqb d c && t) (spelled_by_parts ds cs b) ∙ and_assoc (eqb d c) (bytes_eq (take (length cs) ds) cs) (bytes_eq (drop (length cs) ds) b)
