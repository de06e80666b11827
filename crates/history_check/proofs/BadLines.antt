-- A text whose first lines are good: where the next one is bad, it is the first bad line.
use Rattle.std.proofs.Common.{◌≡◌, ℕ, suc, ◌+◌, ◌<◌, ◌≤◌, ◌==◌, Bool, true, false, if◌then◌else◌, ◌⊎◌, inl, inr, List, [], ◌∷◌, ◌++◌, length, take, drop, refl, sym, ap, subst, ◌∙◌, arith, append_assoc, append-nil}
use Rattle.std.specs.List.{All, AllByRecursion, concat, onto_first}
use Rattle.std.proofs.lemmas.Bool.{eq-eqb}
use Rattle.std.proofs.lemmas.List.{length-append, take-append-drop, take-append-le}
use Rattle.std.proofs.lemmas.List.Folds.{concat-append}
use Rattle.cp_base.specs.Configuration.{Configuration}
use Rattle.cp_text.specs.Parts.{lacks}
use Rattle.cp_text.proofs.Joined.{lacks_first}
use Rattle.script_cmds.specs.declared.item.Phase.{Phase}
use Rattle.script_cmds.specs.declared.item.Show.{Show}
use Rattle.history_model.proofs.Every.{every-All, every-append, every-of-All, every-weaker}
use Rattle.history_check.specs.FirstBad.{BeginLegally, IsEnded, IsEndedLine, IsFirstBad, IsLegalText, lines_in}
use Rattle.history_check.proofs.Lists.{every-front}

-- ---- the lines of a text

pub lines-cons : (front rest : List ℕ) → lacks 10 front ≡ true → lines_in (front ++ 10 ∷ rest) ≡ (front ++ 10 ∷ []) ∷ lines_in rest
lines-cons [] rest plain = refl
lines-cons (b ∷ front) rest plain =
    let h = lacks_first 10 b front plain in
    ap (λ (t : Bool). if t then (b ∷ []) ∷ lines_in (front ++ 10 ∷ rest) else onto_first b (lines_in (front ++ 10 ∷ rest))) h.0
    ∙ ap (onto_first b) (lines-cons front rest h.1)

pub lines-append : (lines : List (List ℕ)) (rest : List ℕ) → AllByRecursion IsEndedLine lines → lines_in (concat lines ++ rest) ≡ lines ++ lines_in rest
lines-append [] rest all = refl
lines-append (line ∷ lines) rest all =
    let text : concat (line ∷ lines) ++ rest ≡ all.0.front ++ 10 ∷ (concat lines ++ rest) =
    append_assoc line (concat lines) rest
    ∙ (ap (λ (l : List ℕ). l ++ (concat lines ++ rest)) all.0.ends ∙ append_assoc all.0.front (10 ∷ []) (concat lines ++ rest)) in
    ap lines_in text
    ∙ (lines-cons all.0.front (concat lines ++ rest) all.0.plain
    ∙ (ap (λ (l : List ℕ). l ∷ lines_in (concat lines ++ rest)) (sym all.0.ends)
    ∙ ap (λ (ls : List (List ℕ)). line ∷ ls) (lines-append lines rest all.1)))

-- a rest without a newline is a line that none ends, or nothing
lines-rest : (rest : List ℕ) → lacks 10 rest ≡ true → (lines_in rest ≡ []) ⊎ (lines_in rest ≡ rest ∷ [])
lines-rest [] plain = inl refl
lines-rest (b ∷ rest) plain = by_rest (lines-rest rest h.1)
  where
    h : (((b == 10) ≡ false) × (lacks 10 rest ≡ true))
    h = lacks_first 10 b rest plain

    first : lines_in (b ∷ rest) ≡ onto_first b (lines_in rest)
    first = ap (λ (t : Bool). if t then (b ∷ []) ∷ lines_in rest else onto_first b (lines_in rest)) h.0

    none-rest : (xs : List ℕ) → lacks 10 xs ≡ true → lines_in xs ≡ [] → xs ≡ []
    none-rest [] plain e = refl
    none-rest (x ∷ xs) plain e = absurd (some (lines_in xs) (sym e ∙ ap (λ (t : Bool). if t then (x ∷ []) ∷ lines_in xs else onto_first x (lines_in xs)) (lacks_first 10 x xs plain).0))
      where
        some : (ls : List (List ℕ)) → [] ≡ onto_first x ls → ⊥
        some [] e = cc
        some (l ∷ ls) e = cc

    by_rest : (lines_in rest ≡ []) ⊎ (lines_in rest ≡ rest ∷ []) → (lines_in (b ∷ rest) ≡ []) ⊎ (lines_in (b ∷ rest) ≡ (b ∷ rest) ∷ [])
    by_rest (inl e) = inr (first ∙ (ap (onto_first b) e ∙ ap (λ (xs : List ℕ). (b ∷ xs) ∷ []) (sym (none-rest rest h.1 e))))
    by_rest (inr e) = inr (first ∙ ap (onto_first b) e)

-- such a rest is ended by no newline
unended : (rest front : List ℕ) → lacks 10 rest ≡ true → rest ≡ front ++ 10 ∷ [] → ⊥
unended [] [] plain e = cc
unended [] (b ∷ front) plain e = cc
unended (x ∷ rest) [] plain e =
    let h = lacks_first 10 x rest plain in
    let is : x ≡ 10 = cc in
    let same : (x == 10) ≡ true = eq-eqb x 10 is in
    absurd cc
unended (x ∷ rest) (b ∷ front) plain e =
    let h = lacks_first 10 x rest plain in
    let more : rest ≡ front ++ 10 ∷ [] = cc in
    unended rest front h.1 more

-- ---- fewer lines

begin-fewer : (c : Configuration) (plan : List Phase) (shows : List Show) (some more : List (List ℕ)) → BeginLegally c plan shows (some ++ more) → BeginLegally c plan shows some
begin-fewer c plan shows some more b = record {
  history = b.history;
  legal = b.legal;
  rest = concat more ++ b.rest;
  begins = b.begins ∙ (ap (λ (xs : List ℕ). xs ++ b.rest) (concat-append some more) ∙ append_assoc (concat some) (concat more) b.rest);
  ended = every-All IsEnded some (every-front IsEnded some more (every-of-All IsEnded (some ++ more) b.ended));
}

begin-taken : (c : Configuration) (plan : List Phase) (shows : List Show) (k : ℕ) (lines : List (List ℕ)) → BeginLegally c plan shows lines → BeginLegally c plan shows (take k lines)
begin-taken c plan shows k lines b =
    begin-fewer c plan shows (take k lines) (drop k lines) (subst (λ (ls : List (List ℕ)). BeginLegally c plan shows ls) (sym (take-append-drop k lines)) b)

take-one : (xs : List (List ℕ)) (y : List ℕ) (ys : List (List ℕ)) → take (suc (length xs)) (xs ++ y ∷ ys) ≡ xs ++ y ∷ []
take-one [] y ys = refl
take-one (x ∷ xs) y ys = ap (λ (zs : List (List ℕ)). x ∷ zs) (take-one xs y ys)

-- ---- the first bad line

-- what the lines before are good for
good-before : (c : Configuration) (plan : List Phase) (shows : List Show) (lines more : List (List ℕ)) (k : ℕ) → k < length lines + 1 → BeginLegally c plan shows lines
    → BeginLegally c plan shows (take k (lines ++ more))
good-before c plan shows lines more k below good =
    subst (λ (ls : List (List ℕ)). BeginLegally c plan shows ls) (sym (take-append-le k lines more (omega (arith, below)))) (begin-taken c plan shows k lines good)

last-ended : (lines : List (List ℕ)) (rest : List ℕ) → All IsEnded (lines ++ rest ∷ []) → IsEnded rest
last-ended lines rest all = (back lines (every-of-All IsEnded (lines ++ rest ∷ []) all)).0
  where
    back : (ls : List (List ℕ)) → AllByRecursion IsEnded (ls ++ rest ∷ []) → AllByRecursion IsEnded (rest ∷ [])
    back [] all = all
    back (l ∷ ls) all = back ls all.1

-- a rest that no newline ends, or nothing, behind good lines
pub bad-rest : (c : Configuration) (plan : List Phase) (shows : List Show) (lines : List (List ℕ)) (rest : List ℕ) → All IsEndedLine lines → BeginLegally c plan shows lines → lacks 10 rest ≡ true
    → (IsLegalText c plan shows (concat lines ++ rest) → ⊥) → IsFirstBad c plan shows (concat lines ++ rest) (length lines + 1)
bad-rest c plan shows lines rest proper good plain illegal = by_rest (lines-rest rest plain)
  where
    all : lines_in (concat lines ++ rest) ≡ lines ++ lines_in rest
    all = lines-append lines rest (every-of-All IsEndedLine lines proper)

    of : (more : List (List ℕ)) → lines_in (concat lines ++ rest) ≡ lines ++ more
        → (length lines + 1 ≤ length (lines ++ more) → BeginLegally c plan shows (take (length lines + 1) (lines ++ more)) → ⊥)
        → IsFirstBad c plan shows (concat lines ++ rest) (length lines + 1)
    of more is here = record {
      illegal = illegal;
      counted = omega arith;
      within = subst (λ (ls : List (List ℕ)). length lines + 1 ≤ length ls + 1) (sym is) (omega (arith, length-append lines more));
      before = λ k below. subst (λ (ls : List (List ℕ)). BeginLegally c plan shows (take k ls)) (sym is) (good-before c plan shows lines more k below good);
      here = subst (λ (ls : List (List ℕ)). length lines + 1 ≤ length ls → BeginLegally c plan shows (take (length lines + 1) ls) → ⊥) (sym is) here;
    }

    by_rest : (lines_in rest ≡ []) ⊎ (lines_in rest ≡ rest ∷ []) → IsFirstBad c plan shows (concat lines ++ rest) (length lines + 1)
    by_rest (inl e) = of [] (all ∙ ap (λ (ls : List (List ℕ)). lines ++ ls) e) (λ within begins. omega (arith, within, length-append lines []))
    by_rest (inr e) = of (rest ∷ []) (all ∙ ap (λ (ls : List (List ℕ)). lines ++ ls) e)
        (λ within begins.
        let number : length lines + 1 ≡ suc (length lines) = omega arith in
        let whole : take (length lines + 1) (lines ++ rest ∷ []) ≡ lines ++ rest ∷ [] = ap (λ (n : ℕ). take n (lines ++ rest ∷ [])) number ∙ take-one lines rest [] in
        let end = last-ended lines rest (subst (λ (ls : List (List ℕ)). All IsEnded ls) whole begins.ended) in
        unended rest end.front plain end.ends)

ended-line : (line : List ℕ) → IsEndedLine line → IsEnded line
ended-line line l = record { front = l.front; ends = l.ends }

pub each-ended : (lines : List (List ℕ)) → AllByRecursion IsEndedLine lines → AllByRecursion IsEnded lines
each-ended lines all = every-weaker IsEndedLine IsEnded ended-line lines all

-- a line behind good lines with which no legal history begins
pub bad-line : (c : Configuration) (plan : List Phase) (shows : List Show) (lines : List (List ℕ)) (line rest : List ℕ) → All IsEndedLine lines → BeginLegally c plan shows lines → IsEndedLine line
    → (BeginLegally c plan shows (lines ++ line ∷ []) → ⊥) → IsFirstBad c plan shows (concat lines ++ (line ++ rest)) (length lines + 1)
bad-line c plan shows lines line rest proper good is bad =
    let each = every-of-All IsEndedLine lines proper in
    let both = every-append IsEndedLine lines (line ∷ []) each (is, tt) in
    let same : concat (lines ++ line ∷ []) ++ rest ≡ concat lines ++ (line ++ rest) =
    ap (λ (xs : List ℕ). xs ++ rest) (concat-append lines (line ∷ []))
    ∙ (append_assoc (concat lines) (line ++ []) rest ∙ ap (λ (xs : List ℕ). concat lines ++ (xs ++ rest)) (append-nil line)) in
    let all : lines_in (concat lines ++ (line ++ rest)) ≡ lines ++ line ∷ lines_in rest =
    ap lines_in (sym same) ∙ (lines-append (lines ++ line ∷ []) rest both ∙ append_assoc lines (line ∷ []) (lines_in rest)) in
    let number : length lines + 1 ≡ suc (length lines) = omega arith in
    let whole : take (length lines + 1) (lines ++ line ∷ lines_in rest) ≡ lines ++ line ∷ [] =
    ap (λ (n : ℕ). take n (lines ++ line ∷ lines_in rest)) number ∙ take-one lines line (lines_in rest) in
    record {
      illegal = λ legal. bad (record {
        history = legal.history;
        legal = legal.legal;
        rest = rest;
        begins = legal.is ∙ sym same;
        ended = every-All IsEnded (lines ++ line ∷ []) (each-ended (lines ++ line ∷ []) both);
      });
      counted = omega arith;
      within = subst (λ (ls : List (List ℕ)). length lines + 1 ≤ length ls + 1) (sym all) (omega (arith, length-append lines (line ∷ lines_in rest)));
      before = λ k below. subst (λ (ls : List (List ℕ)). BeginLegally c plan shows (take k ls)) (sym all) (good-before c plan shows lines (line ∷ lines_in rest) k below good);
      here = λ within begins. bad (subst (λ (ls : List (List ℕ)). BeginLegally c plan shows ls) (ap (λ (ls : List (List ℕ)). take (length lines + 1) ls) all ∙ whole) begins);
    }
