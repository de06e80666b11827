-- What is added to a text, line by line.
use Rattle.std.proofs.Common.{◌≡◌, ℕ, ◌+◌, List, [], ◌∷◌, ◌++◌, cond, eqb, refl, sym, ap, subst, ◌∙◌, append_assoc, Bool, true, false}
use Rattle.std.proofs.lemmas.List.{append-nil}
use Rattle.std.proofs.lemmas.List.Elements.{All-append, All-nil, All-cons}
use Rattle.script_line.specs.declared.kind.LineKind.{LineKind}
use Rattle.script_line.specs.Line.{Line, line_text}
use Rattle.script_line.specs.Printing.{PrintsLine}
use Rattle.script_line.specs.Sized.{IsSizedLine}
use Rattle.script_cmds.specs.declared.item.Phase.{Phase}
use Rattle.script_cmds.specs.declared.item.Show.{Show}
use Rattle.script_cmds.specs.declared.script.Script.{Script}
use Rattle.script_cmds.specs.private.Printing.{Prints}
use Rattle.script_cmds.specs.Text.{configuration_lines, lines_of, lines_text, numbers_line, phase_lines, show_lines, size_lines}

-- ---- lines

lines_join : (xs ys : List Line) → lines_text (xs ++ ys) ≡ lines_text xs ++ lines_text ys
lines_join [] ys = refl
lines_join (x ∷ xs) ys = ap (λ (t : List ℕ). line_text x ++ 10 ∷ t) (lines_join xs ys) ∙ sym (append_assoc (line_text x) (10 ∷ lines_text xs) (lines_text ys))

pub prints_nothing : (old : List ℕ) → Prints [] old old
prints_nothing old = record { text = sym (append-nil old); sized = All-nil IsSizedLine }

pub prints_both : (a b : List Line) (old mid new : List ℕ) → Prints a old mid → Prints b mid new → Prints (a ++ b) old new
prints_both a b old mid new p q = record {
  text = q.text ∙ ap (λ (t : List ℕ). t ++ lines_text b) p.text ∙ append_assoc old (lines_text a) (lines_text b) ∙ ap (λ (t : List ℕ). old ++ t) (sym (lines_join a b));
  sized = All-append IsSizedLine a b p.sized q.sized;
}

pub prints_three : (a b c : List Line) (old mid then new : List ℕ) → Prints a old mid → Prints b mid then → Prints c then new → Prints (a ++ b ++ c) old new
prints_three a b c old mid then new p q r = prints_both (a ++ b) c old then new (prints_both a b old mid then p q) r

by_size : (b : Bool) (line : Line) (lines : List Line) → cond b lines (line ∷ lines) ≡ cond b [] (line ∷ []) ++ lines
by_size true line lines = refl
by_size false line lines = refl

pub first_size : (kind : LineKind) (number size : ℕ) (sizes : List ℕ) → size_lines kind number (size ∷ sizes) ≡ size_lines kind number (size ∷ []) ++ size_lines kind (number + 1) sizes
first_size kind number size sizes = by_size (eqb size 0) (numbers_line kind (number ∷ size ∷ [])) (size_lines kind (number + 1) sizes)

-- one line
pub prints_line : (line : Line) (old new : List ℕ) → PrintsLine line old new → Prints (line ∷ []) old new
prints_line line old new p = record { text = p.text; sized = All-cons IsSizedLine line [] p.sized (All-nil IsSizedLine) }

-- a whole script
pub script_printed : (script : Script) (phases : List Phase) (shows : List Show) (old begun half end : List ℕ) → old ≡ [] → phases ≡ script.phases → shows ≡ script.shows
    → Prints (configuration_lines script.form script.config) old begun → Prints (phase_lines script.form phases) begun half → Prints (show_lines shows) half end → Prints (lines_of script) [] end
script_printed script phases shows old begun half end none same shown a b c =
    prints_three (configuration_lines script.form script.config) (phase_lines script.form script.phases) (show_lines script.shows) [] begun half end
    (subst (λ (t : List ℕ). Prints (configuration_lines script.form script.config) t begun) none a)
    (subst (λ (xs : List Phase). Prints (phase_lines script.form xs) begun half) same b)
    (subst (λ (xs : List Show). Prints (show_lines xs) half end) shown c)
