-- The lines of a script that is being read, one more at a time.
use Rattle.std.proofs.Common.{◌≡◌, ℕ, zero, suc, ◌+◌, ◌<◌, ◌≤◌, Bool, true, false, ◌&&◌, cond, eqb, List, [], ◌∷◌, ◌++◌, length, Result, Ok, Err, refl, sym, ap, ◌∙◌, append_assoc, arith}
use Rattle.std.specs.List.{slice_set}
use Rattle.std.proofs.lemmas.List.{append-nil}
use Rattle.std.proofs.lemmas.List.Elements.{All-append, All-cons, All-nil}
use Rattle.script_line.specs.declared.fault.TextCause.{TextCause}
use Rattle.script_line.specs.declared.kind.LineKind.{LineKind}
use Rattle.script_line.specs.declared.kind.LineKind.TheVariants as line
use Rattle.script_line.specs.Line.{Line, line_text}
use Rattle.script_line.specs.Reading.{◌>>=◌}
use Rattle.script_line.specs.Sized.{AreSized, IsSizedLine}
use Rattle.script_cmds.specs.declared.form.Form.{Form}
use Rattle.script_cmds.specs.declared.item.Item.{Item}
use Rattle.script_cmds.specs.declared.item.HostPart.{HostPart}
use Rattle.script_cmds.specs.declared.item.Phase as declared
use Rattle.script_cmds.specs.declared.item.Show.{Show}
use Rattle.script_cmds.specs.declared.progress.Progress.{Progress}
use Rattle.script_cmds.specs.Fault.{judged, after_lines}
use Rattle.script_cmds.specs.Text.{numbers_line, size_lines, item_line, item_lines, part_lines, phase_lines, show_line, show_lines, lines_text}
use Rattle.script_cmds.specs.private.Drafts.{IsZeroFrom}

-- ---- one more line

step_after : (r : Result Progress TextCause) (ls : List Line) (l : Line) (q s : Progress) → ((p : Progress) → r ≡ Ok p → after_lines p ls ≡ Ok q → after_lines p (ls ++ l ∷ []) ≡ Ok s)
    → (r >>= λ p. after_lines p ls) ≡ Ok q → (r >>= λ p. after_lines p (ls ++ l ∷ [])) ≡ Ok s
step_after (Ok p) ls l q s h e = h p refl e
step_after (Err c) ls l q s h e = absurd cc

pub after_one_more : (p : Progress) (ls : List Line) (l : Line) (q s : Progress) → after_lines p ls ≡ Ok q → judged q l ≡ Ok s → after_lines p (ls ++ l ∷ []) ≡ Ok s
after_one_more p [] l q s e j =
    let same : q ≡ p = cc in
    let there : judged p l ≡ Ok s = ap (λ (x : Progress). judged x l) (sym same) ∙ j in
    ap (λ (r : Result Progress TextCause). r >>= λ x. Ok x) there
after_one_more p (m ∷ ms) l q s e j = step_after (judged p m) ms l q s (λ p' is e'. after_one_more p' ms l q s e' j) e

pub text_one_more : (ls : List Line) (l : Line) → lines_text (ls ++ l ∷ []) ≡ lines_text ls ++ (line_text l ++ 10 ∷ [])
text_one_more [] l = refl
text_one_more (m ∷ ms) l = ap (λ (t : List ℕ). line_text m ++ 10 ∷ t) (text_one_more ms l) ∙ sym (append_assoc (line_text m) (10 ∷ lines_text ms) (line_text l ++ 10 ∷ []))

pub sized_one_more : (ls : List Line) (l : Line) → AreSized ls → IsSizedLine l → AreSized (ls ++ l ∷ [])
sized_one_more ls l h s = All-append IsSizedLine ls (l ∷ []) h (All-cons IsSizedLine l [] s (All-nil IsSizedLine))

pub item_one_more : (f : Form) (xs : List Item) (x : Item) → item_lines f (xs ++ x ∷ []) ≡ item_lines f xs ++ item_line f x ∷ []
item_one_more f [] x = refl
item_one_more f (y ∷ ys) x = ap (λ (ls : List Line). item_line f y ∷ ls) (item_one_more f ys x)

pub show_one_more : (xs : List Show) (x : Show) → show_lines (xs ++ x ∷ []) ≡ show_lines xs ++ show_line x ∷ []
show_one_more [] x = refl
show_one_more (y ∷ ys) x = ap (λ (ls : List Line). show_line y ∷ ls) (show_one_more ys x)

pub part_one_more : (f : Form) (xs : List HostPart) (x : HostPart) → part_lines f (xs ++ x ∷ []) ≡ part_lines f xs ++ numbers_line line.Host (x.host ∷ []) ∷ item_lines f x.items
part_one_more f [] x = ap (λ (ls : List Line). numbers_line line.Host (x.host ∷ []) ∷ ls) (append-nil (item_lines f x.items))
part_one_more f (y ∷ ys) x =
    ap (λ (ls : List Line). numbers_line line.Host (y.host ∷ []) ∷ item_lines f y.items ++ ls) (part_one_more f ys x) ∙ sym (append_assoc (numbers_line line.Host (y.host ∷ []) ∷ item_lines f y.items) (part_lines f ys) (numbers_line line.Host (x.host ∷ []) ∷ item_lines f x.items))

pub phase_one_more : (f : Form) (xs : List declared.Phase) (x : declared.Phase) → phase_lines f (xs ++ x ∷ []) ≡ phase_lines f xs ++ numbers_line line.Phase [] ∷ part_lines f x.hosts
phase_one_more f [] x = ap (λ (ls : List Line). numbers_line line.Phase [] ∷ ls) (append-nil (part_lines f x.hosts))
phase_one_more f (y ∷ ys) x =
    ap (λ (ls : List Line). numbers_line line.Phase [] ∷ part_lines f y.hosts ++ ls) (phase_one_more f ys x) ∙ sym (append_assoc (numbers_line line.Phase [] ∷ part_lines f y.hosts) (phase_lines f ys) (numbers_line line.Phase [] ∷ part_lines f x.hosts))

-- ---- a namespace more

pub zeros_say_nothing : (kind : LineKind) (i : ℕ) (sizes : List ℕ) → IsZeroFrom 0 sizes → size_lines kind i sizes ≡ []
zeros_say_nothing kind i [] h = refl
zeros_say_nothing kind i (x ∷ xs) h = rw h.0 (zeros_say_nothing kind (i + 1) xs h.1)

size_by : (b : Bool) (first : Line) (old new more : List Line) → new ≡ old ++ more → cond b new (first ∷ new) ≡ cond b old (first ∷ old) ++ more
size_by true first old new more e = e
size_by false first old new more e = ap (λ (ls : List Line). first ∷ ls) e

pub size_one_more : (kind : LineKind) (i n place k : ℕ) (xs : List ℕ) (size : ℕ) → n ≡ i + k → IsZeroFrom place xs → place ≤ k → k < length xs → eqb size 0 ≡ false
    → size_lines kind i (slice_set xs k size) ≡ size_lines kind i xs ++ numbers_line kind (n ∷ size ∷ []) ∷ []
size_one_more kind i n place k [] size e z le lt s = absurd (omega arith)
size_one_more kind i n (suc place) zero (x ∷ xs) size e z le lt s = absurd (omega arith)
size_one_more kind i n zero zero (x ∷ xs) size e z le lt s =
    let same : n ≡ i = omega arith in
    rw (s, z.0, zeros_say_nothing kind (i + 1) xs z.1, same) refl
size_one_more kind i n zero (suc k) (x ∷ xs) size e z le lt s =
    size_by (eqb x 0) (numbers_line kind (i ∷ x ∷ [])) (size_lines kind (i + 1) xs) (size_lines kind (i + 1) (slice_set xs k size)) (numbers_line kind (n ∷ size ∷ []) ∷ []) (size_one_more kind (i + 1) n zero k xs size (omega arith) z.1 (omega arith) (omega arith) s)
size_one_more kind i n (suc place) (suc k) (x ∷ xs) size e z le lt s =
    size_by (eqb x 0) (numbers_line kind (i ∷ x ∷ [])) (size_lines kind (i + 1) xs) (size_lines kind (i + 1) (slice_set xs k size)) (numbers_line kind (n ∷ size ∷ []) ∷ []) (size_one_more kind (i + 1) n place k xs size (omega arith) z (omega arith) (omega arith) s)

pub zero_one_more : (place k : ℕ) (xs : List ℕ) (size : ℕ) → IsZeroFrom place xs → place ≤ k → IsZeroFrom (suc k) (slice_set xs k size)
zero_one_more place k [] size z le = tt
zero_one_more zero zero (x ∷ xs) size z le = z.1
zero_one_more (suc place) zero (x ∷ xs) size z le = absurd (omega arith)
zero_one_more zero (suc k) (x ∷ xs) size z le = zero_one_more zero k xs size z.1 (omega arith)
zero_one_more (suc place) (suc k) (x ∷ xs) size z le = zero_one_more place k xs size z (omega arith)
