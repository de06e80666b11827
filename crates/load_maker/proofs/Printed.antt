-- What is added to a text, line by line.
use Rattle.std.proofs.Common.{◌≡◌, ℕ, List, [], ◌∷◌, ◌++◌, refl, sym, ap, ◌∙◌, append_assoc}
use Rattle.std.proofs.lemmas.List.{append-nil}
use Rattle.std.proofs.lemmas.List.Elements.{All-append, All-cons, All-nil}
use Rattle.script_line.specs.Line.{Line, line_text}
use Rattle.script_line.specs.Printing.{PrintsLine}
use Rattle.script_line.specs.Sized.{IsSizedLine}
use Rattle.script_cmds.specs.Text.{lines_text}
use Rattle.load_maker.specs.Made.{PrintsLines}

pub lines_text-append : (xs ys : List Line) → lines_text (xs ++ ys) ≡ lines_text xs ++ lines_text ys
lines_text-append [] ys = refl
lines_text-append (x ∷ xs) ys =
    ap (λ (t : List ℕ). line_text x ++ 10 ∷ t) (lines_text-append xs ys)
    ∙ sym (append_assoc (line_text x) (10 ∷ lines_text xs) (lines_text ys))

pub prints_none : (old : List ℕ) → PrintsLines [] old old
prints_none old = record { text = sym (append-nil old); sized = All-nil IsSizedLine }

pub prints_more : (a b : List Line) (old mid new : List ℕ) → PrintsLines a old mid → PrintsLines b mid new → PrintsLines (a ++ b) old new
prints_more a b old mid new p q = record {
  text =
      q.text ∙ ap (λ (t : List ℕ). t ++ lines_text b) p.text ∙ append_assoc old (lines_text a) (lines_text b)
      ∙ ap (λ (t : List ℕ). old ++ t) (sym (lines_text-append a b));
  sized = All-append IsSizedLine a b p.sized q.sized;
}

pub prints_one : (line : Line) (old new : List ℕ) → PrintsLine line old new → PrintsLines (line ∷ []) old new
prints_one line old new p = record { text = p.text; sized = All-cons IsSizedLine line [] p.sized (All-nil IsSizedLine) }

-- a line in front of others
pub prints_first : (line : Line) (b : List Line) (old mid new : List ℕ) → PrintsLine line old mid → PrintsLines b mid new → PrintsLines (line ∷ b) old new
prints_first line b old mid new p q = prints_more (line ∷ []) b old mid new (prints_one line old mid p) q

-- the text of lines that are added to nothing
pub printed_whole : (lines : List Line) (old new : List ℕ) → old ≡ [] → PrintsLines lines old new → new ≡ lines_text lines
printed_whole lines old new none p = p.text ∙ ap (λ (t : List ℕ). t ++ lines_text lines) none
