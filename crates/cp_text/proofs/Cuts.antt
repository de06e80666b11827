-- A text cut at the first of a byte.
use Rattle.std.proofs.Common.{◌≡◌, ℕ, zero, suc, ◌<◌, ◌≤◌, Bool, true, false, cond, eqb, ltb, List, [], ◌∷◌, ◌++◌, length, get_or, take, drop, Some, None, refl, sym, ap, ◌∙◌, arith, drop-cons}
use Rattle.std.specs.List.{onto_first, position, position_or_len}
use Rattle.std.proofs.lemmas.Bool.{eqb-true, ltb-false}
use Rattle.std.proofs.lemmas.List.{take-append-drop}
use Rattle.std.proofs.lemmas.List.Quantifiers.{position-Some}
use Rattle.std.proofs.lemmas.List.Sums.{fails_before_first}
use Rattle.cp_text.specs.Parts.{lacks, parts_between}

-- no byte of the text is the mark
uncut : (mark : ℕ) (text : List ℕ) → ((k : ℕ) → k < length text → eqb (get_or text k 0) mark ≡ false) → (parts_between mark text ≡ text ∷ []) × (lacks mark text ≡ true)
uncut mark [] h = (refl, refl)
uncut mark (b ∷ bs) h =
    let first : eqb b mark ≡ false = h 0 (omega arith) in
    let rest = uncut mark bs (λ k lt. h (suc k) (omega arith)) in
    (rw (first, rest.0) refl, rw (first, rest.1) refl)

-- the first mark stands at a place
cut_at : (mark : ℕ) (text : List ℕ) (i : ℕ) → i < length text → eqb (get_or text i 0) mark ≡ true → ((k : ℕ) → k < i → eqb (get_or text k 0) mark ≡ false)
    → (parts_between mark text ≡ take i text ∷ parts_between mark (drop (suc i) text)) × (lacks mark (take i text) ≡ true)
cut_at mark [] i lt at before = absurd (omega arith)
cut_at mark (b ∷ bs) zero lt at before = (rw at refl, refl)
cut_at mark (b ∷ bs) (suc i) lt at before =
    let first : eqb b mark ≡ false = before 0 (omega arith) in
    let rest = cut_at mark bs i (omega arith) at (λ k below. before (suc k) (omega arith)) in
    (rw (first, rest.0) refl, rw (first, rest.1) refl)

no_place : (t : Bool) (i : ℕ) → None ≡ cond t (Some i) None → t ≡ false
no_place true i e = absurd cc
no_place false i e = refl

fails_all : (mark : ℕ) (text : List ℕ) → None ≡ position (λ b. eqb b mark) text → (k : ℕ) → k < length text → eqb (get_or text k 0) mark ≡ false
fails_all mark text e k lt =
    let past : length text ≤ position_or_len (λ b. eqb b mark) text = ltb-false _ _ (no_place (ltb (position_or_len (λ b. eqb b mark) text) (length text)) (position_or_len (λ b. eqb b mark) text) e) in
    fails_before_first (λ b. eqb b mark) text k 0 (omega arith)

pub cut_none : (mark : ℕ) (text : List ℕ) → None ≡ position (λ b. eqb b mark) text → parts_between mark text ≡ text ∷ []
cut_none mark text e = (uncut mark text (fails_all mark text e)).0

pub lacks_none : (mark : ℕ) (text : List ℕ) → None ≡ position (λ b. eqb b mark) text → lacks mark text ≡ true
lacks_none mark text e = (uncut mark text (fails_all mark text e)).1

pub cut_some : (mark : ℕ) (text : List ℕ) (i : ℕ) → Some i ≡ position (λ b. eqb b mark) text → parts_between mark text ≡ take i text ∷ parts_between mark (drop (suc i) text)
cut_some mark text i e = let p = position-Some (λ b. eqb b mark) text i 0 (sym e) in (cut_at mark text i p.0 p.1 p.2).0

pub lacks_some : (mark : ℕ) (text : List ℕ) (i : ℕ) → Some i ≡ position (λ b. eqb b mark) text → lacks mark (take i text) ≡ true
lacks_some mark text i e = let p = position-Some (λ b. eqb b mark) text i 0 (sym e) in (cut_at mark text i p.0 p.1 p.2).1

pub whole_some : (mark : ℕ) (text : List ℕ) (i : ℕ) → Some i ≡ position (λ b. eqb b mark) text → text ≡ take i text ++ mark ∷ drop (suc i) text
whole_some mark text i e =
    let p = position-Some (λ b. eqb b mark) text i 0 (sym e) in
    let at : get_or text i 0 ≡ mark = eqb-true _ _ p.1 in
    let lt : i < length text = p.0 in
    sym (take-append-drop i text) ∙ ap (λ (t : List ℕ). take i text ++ t) (drop-cons text i 0 lt ∙ ap (λ (m : ℕ). m ∷ drop (suc i) text) at)

-- a text has a part
pub some_part : (mark : ℕ) (text : List ℕ) → (part : List ℕ) × (parts : List (List ℕ)) × (parts_between mark text ≡ part ∷ parts)
some_part mark [] = ([], [], refl)
some_part mark (b ∷ bs) =
    let rest = some_part mark bs in
    elim (eqb b mark) as (λ t. (part : List ℕ) × (parts : List (List ℕ)) × (cond t ([] ∷ parts_between mark bs) (onto_first b (parts_between mark bs)) ≡ part ∷ parts)) [
      | true ↦ ([], parts_between mark bs, refl)
      | false ↦ (b ∷ rest.0, rest.1, ap (onto_first b) rest.2)
    ]
