-- Behind consistent entries: a line that is that of no consistent next entry, a rest that no newline ends, and
-- nothing at all are the first bad line.
use Rattle.std.proofs.Common.{◌≡◌, ℕ, ◌+◌, ◌<◌, ◌^◌, true, List, [], ◌∷◌, ◌++◌, length, refl, sym, ap, subst, ◌∙◌, arith, append_assoc, append-nil}
use Rattle.std.specs.List.{AllByRecursion, concat}
use Rattle.std.proofs.lemmas.Bool.{eq-eqb}
use Rattle.std.proofs.lemmas.List.Folds.{concat-append}
use Rattle.cp_base.specs.Configuration.{Configuration}
use Rattle.cp_text.specs.Parts.{lacks}
use Rattle.cp_text.proofs.Joined.{lacks_first}
use Rattle.script_cmds.specs.declared.item.Phase.{Phase}
use Rattle.script_cmds.specs.declared.item.Show.{Show}
use Rattle.history_model.specs.Entry.{Entry}
use Rattle.history_model.specs.Legal.{last_state}
use Rattle.history_model.specs.Sent.{sends_of}
use Rattle.history_model.specs.Sized.{IsSizedEntry}
use Rattle.history_model.specs.Text.{entries_text, entry_text, shows_text}
use Rattle.history_model.proofs.Every.{every-All}
use Rattle.history_check.specs.Beginning.{IsBeginning}
use Rattle.history_check.specs.FirstBad.{BeginLegally, IsEnded, IsEndedLine, IsFirstBad, IsLegalText}
use Rattle.history_check.specs.SizedPlan.{IsSizedPlan}
use Rattle.history_check.proofs.BadLines.{bad-line, bad-rest, each-ended}
use Rattle.history_check.proofs.Continuing.{beginning-continued}
use Rattle.history_check.proofs.TextLines.{entries-of-beginning, entry-cut, entry-ends, entry-lacks, entry_front, next-entry, next-line, text-append}

-- the lines of entries, of which the first has this number
pub entry_lines : ℕ → List Entry → List (List ℕ)
entry_lines k [] = []
entry_lines k (entry ∷ entries) = entry_text k entry ∷ entry_lines (k + 1) entries

pub lines-text : (k : ℕ) (entries : List Entry) → concat (entry_lines k entries) ≡ entries_text k entries
unfolding entry_lines
lines-text k [] = refl
lines-text k (entry ∷ entries) = ap (λ (xs : List ℕ). entry_text k entry ++ xs) (lines-text (k + 1) entries)

pub lines-count : (k : ℕ) (entries : List Entry) → length (entry_lines k entries) ≡ length entries
unfolding entry_lines
lines-count k [] = refl
lines-count k (entry ∷ entries) = let later = lines-count (k + 1) entries in omega (arith, later)

pub are-lines : (k : ℕ) (entries : List Entry) → k + length entries < 2 ^ 64 → AllByRecursion IsSizedEntry entries → AllByRecursion IsEndedLine (entry_lines k entries)
unfolding entry_lines
are-lines k [] few sized = tt
are-lines k (entry ∷ entries) few sized = (
  record { front = entry_front k entry; ends = entry-ends k entry; plain = entry-lacks k entry (omega (arith, few)) sized.0 },
  are-lines (k + 1) entries (omega (arith, few)) sized.1,
)

-- the text of a legal history begins with the lines of consistent entries
begin-lines : (c : Configuration) (plan : List Phase) (shows : List Show) (entries : List Entry) → IsBeginning c plan entries → AllByRecursion IsEndedLine (entry_lines 1 entries)
    → BeginLegally c plan shows (entry_lines 1 entries)
begin-lines c plan shows entries b all =
    let more = beginning-continued c plan entries b in
    let shown : List ℕ = shows_text (last_state c (entries ++ more.0)).contents shows in
    record {
      history = entries ++ more.0;
      legal = more.1;
      rest = entries_text (1 + length entries) more.0 ++ shown;
      begins = ap (λ (xs : List ℕ). xs ++ shown) (text-append 1 entries more.0)
          ∙ (append_assoc (entries_text 1 entries) (entries_text (1 + length entries) more.0) shown
          ∙ ap (λ (xs : List ℕ). xs ++ (entries_text (1 + length entries) more.0 ++ shown)) (sym (lines-text 1 entries)));
      ended = every-All IsEnded (entry_lines 1 entries) (each-ended (entry_lines 1 entries) all);
    }

-- a text with a newline does not lack it
pub newline-stands : (front rest : List ℕ) → lacks 10 (front ++ 10 ∷ rest) ≡ true → ⊥
newline-stands [] rest plain = let h = lacks_first 10 10 rest plain in let same = eq-eqb 10 10 refl in absurd cc
newline-stands (b ∷ front) rest plain = newline-stands front rest (lacks_first 10 b (front ++ 10 ∷ rest) plain).1

-- consistent entries that are not all, with the facts on their lines
record IsShort (c : Configuration) (plan : List Phase) (entries : List Entry) : Type 0 where
  sized : IsSizedPlan c plan
  begins : IsBeginning c plan entries
  short : length entries < length (sends_of plan)

proper : (c : Configuration) (plan : List Phase) (entries : List Entry) → IsShort c plan entries → AllByRecursion IsEndedLine (entry_lines 1 entries)
proper c plan entries s =
    let few = s.sized.few in
    let short = s.short in
    are-lines 1 entries (omega (arith, few, short)) (entries-of-beginning c plan entries s.sized s.begins).sized

number-of : (c : Configuration) (plan : List Phase) (shows : List Show) (entries : List Entry) (text : List ℕ) → IsFirstBad c plan shows text (length (entry_lines 1 entries) + 1)
    → IsFirstBad c plan shows text (length entries + 1)
number-of c plan shows entries text bad = subst (λ (n : ℕ). IsFirstBad c plan shows text (n + 1)) (lines-count 1 entries) bad

pub bad-entry : (c : Configuration) (plan : List Phase) (shows : List Show) (entries : List Entry) (line rest : List ℕ) → IsSizedPlan c plan → IsBeginning c plan entries
    → length entries < length (sends_of plan) → lacks 10 line ≡ true
    → ((next : Entry) → IsBeginning c plan (entries ++ next ∷ []) → entry_text (length entries + 1) next ≡ line ++ 10 ∷ [] → ⊥)
    → IsFirstBad c plan shows (entries_text 1 entries ++ (line ++ 10 ∷ rest)) (length entries + 1)
bad-entry c plan shows entries line rest sized b short plain none =
    let s : IsShort c plan entries = record { sized = sized; begins = b; short = short } in
    let lines : List (List ℕ) = entry_lines 1 entries in
    let all = proper c plan entries s in
    let ended : List ℕ = line ++ 10 ∷ [] in
    let text : concat lines ++ (ended ++ rest) ≡ entries_text 1 entries ++ (line ++ 10 ∷ rest) =
    ap (λ (xs : List ℕ). xs ++ (ended ++ rest)) (lines-text 1 entries) ∙ ap (λ (xs : List ℕ). entries_text 1 entries ++ xs) (append_assoc line (10 ∷ []) rest) in
    number-of c plan shows entries (entries_text 1 entries ++ (line ++ 10 ∷ rest))
    (subst (λ (xs : List ℕ). IsFirstBad c plan shows xs (length lines + 1)) text
    (bad-line c plan shows lines ended rest (every-All IsEndedLine lines all) (begin-lines c plan shows entries b all) (record { front = line; ends = refl; plain = plain }) no-more))
  where
    no-more : BeginLegally c plan shows (entry_lines 1 entries ++ (line ++ 10 ∷ []) ∷ []) → ⊥
    no-more more =
        let same : concat (entry_lines 1 entries ++ (line ++ 10 ∷ []) ∷ []) ++ more.rest ≡ entries_text 1 entries ++ (line ++ 10 ∷ more.rest) =
        ap (λ (xs : List ℕ). xs ++ more.rest) (concat-append (entry_lines 1 entries) ((line ++ 10 ∷ []) ∷ []))
        ∙ (append_assoc (concat (entry_lines 1 entries)) ((line ++ 10 ∷ []) ++ []) more.rest
        ∙ (ap (λ (xs : List ℕ). concat (entry_lines 1 entries) ++ (xs ++ more.rest)) (append-nil (line ++ 10 ∷ []))
        ∙ (ap (λ (xs : List ℕ). concat (entry_lines 1 entries) ++ xs) (append_assoc line (10 ∷ []) more.rest)
        ∙ ap (λ (xs : List ℕ). xs ++ (line ++ 10 ∷ more.rest)) (lines-text 1 entries)))) in
        let next = next-line c plan shows entries line more.rest more.history sized b short plain more.legal (more.begins ∙ same) in
        none next.0 next.1 next.2

pub missing-entry : (c : Configuration) (plan : List Phase) (shows : List Show) (entries : List Entry) (rest : List ℕ) → IsSizedPlan c plan → IsBeginning c plan entries
    → length entries < length (sends_of plan) → lacks 10 rest ≡ true → IsFirstBad c plan shows (entries_text 1 entries ++ rest) (length entries + 1)
missing-entry c plan shows entries rest sized b short plain =
    let s : IsShort c plan entries = record { sized = sized; begins = b; short = short } in
    let lines : List (List ℕ) = entry_lines 1 entries in
    let all = proper c plan entries s in
    let text : concat lines ++ rest ≡ entries_text 1 entries ++ rest = ap (λ (xs : List ℕ). xs ++ rest) (lines-text 1 entries) in
    number-of c plan shows entries (entries_text 1 entries ++ rest)
    (subst (λ (xs : List ℕ). IsFirstBad c plan shows xs (length lines + 1)) text
    (bad-rest c plan shows lines rest (every-All IsEndedLine lines all) (begin-lines c plan shows entries b all) plain (λ legal. no-legal (subst (λ (xs : List ℕ). IsLegalText c plan shows xs) text legal))))
  where
    no-legal : IsLegalText c plan shows (entries_text 1 entries ++ rest) → ⊥
    no-legal legal =
        let n = next-entry c plan shows entries rest legal.history sized b short legal.legal legal.is in
        newline-stands (entry_front (length entries + 1) n.next) n.rest
        (subst (λ (xs : List ℕ). lacks 10 xs ≡ true) (sym n.text ∙ entry-cut (length entries + 1) n.next n.rest) plain)
