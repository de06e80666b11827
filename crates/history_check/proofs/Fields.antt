-- A field and what stands behind the space that ends it.
use Rattle.std.proofs.Common.{◌≡◌, ℕ, ◌<◌, ◌^◌, true, false, List, [], ◌∷◌, ◌++◌, Option, Some, None, refl, sym, ap, subst, ◌∙◌, arith, inl}
use Rattle.std.specs.Prelude.{codes, decimal}
use Rattle.cp_text.specs.Parts.{lacks}
use Rattle.cp_text.proofs.Joined.{decimal_lacks, lacks_first, lacks_cons, same_cut}
use Rattle.std.proofs.lemmas.Bool.{eq-eqb, ne_eqb}

-- a text that lacks a mark has none
pub mark-stands : (mark : ℕ) (front rest : List ℕ) → lacks mark (front ++ mark ∷ rest) ≡ true → ⊥
mark-stands mark [] rest plain =
    let h = lacks_first mark mark rest plain in
    let same = eq-eqb mark mark refl in
    absurd (cc)
mark-stands mark (b ∷ front) rest plain = mark-stands mark front rest (lacks_first mark b (front ++ mark ∷ rest) plain).1

pub field-none : (text first field rest : List ℕ) → lacks 32 first ≡ true → text ≡ first → text ≡ field ++ 32 ∷ rest → ⊥
field-none text first field rest plain is other = mark-stands 32 field rest (subst (λ (xs : List ℕ). lacks 32 xs ≡ true) (sym is ∙ other) plain)

pub field-cut : (text first behind field rest : List ℕ) → lacks 32 first ≡ true → lacks 32 field ≡ true → text ≡ first ++ 32 ∷ behind → text ≡ field ++ 32 ∷ rest → (first ≡ field) × (behind ≡ rest)
field-cut text first behind field rest plain also is other = same_cut 32 first field behind rest plain also (sym is ∙ other)

-- no space stands in a number behind a letter
pub lettered-lacks : (letter n : ℕ) → (letter ≡ 32 → ⊥) → n < 2 ^ 64 → lacks 32 (letter ∷ decimal n) ≡ true
lettered-lacks letter n apart small = lacks_cons 32 letter (decimal n) (ne_eqb letter 32 apart) (decimal_lacks 32 n (inl (omega arith)) small)
