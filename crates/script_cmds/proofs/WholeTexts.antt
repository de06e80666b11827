-- Lines and whole texts: the first fault is told.
use Rattle.std.proofs.Common.{◌≡◌, ℕ, ◌+◌, ◌≤◌, Bool, true, false, ◌&&◌, cond, eqb, List, [], ◌∷◌, ◌++◌, length, Option, None, Result, Ok, Err, refl, sym, ap, ◌∙◌, append_assoc, arith}
use Rattle.std.proofs.lemmas.List.Sums.{sum_by-append}
use Rattle.cp_text.specs.Parts.{parts_between}
use Rattle.cp_text.proofs.Cuts.{some_part}
use Rattle.script_line.specs.declared.fault.TextCause.{TextCause}
use Rattle.script_line.specs.declared.fault.TextCause.TheVariants as cause
use Rattle.script_line.specs.Line.{Line, line_text}
use Rattle.script_cmds.specs.declared.fault.ParseEnd.{ParseEnd}
use Rattle.script_cmds.specs.declared.fault.ParseEnd.TheVariants as told
use Rattle.script_cmds.specs.declared.fault.ScriptFault.{ScriptFault}
use Rattle.script_cmds.specs.declared.progress.Progress.{Progress}
use Rattle.script_cmds.specs.Ends.{Tells}
use Rattle.script_cmds.specs.private.Faults.{Faults}
use Rattle.script_cmds.specs.Fault.{read_line, fault_at, fault_or, fault_from, newlines}
use Rattle.script_cmds.specs.Progress.{is_start}
use Rattle.script_cmds.specs.Text.{lines_text}

-- ---- faults

pub fault_two : (p : Progress) (n : ℕ) (text part : List ℕ) (parts : List (List ℕ)) → fault_from p n (text ∷ part ∷ parts) ≡ fault_or n (read_line p text) (λ p'. fault_from p' (n + 1) (part ∷ parts))
fault_two p n [] part parts = refl
fault_two p n (b ∷ bs) part parts = refl

fault_lines : (p : Progress) (n : ℕ) (text rest after : List ℕ) → parts_between 10 rest ≡ text ∷ parts_between 10 after → fault_from p n (parts_between 10 rest) ≡ fault_or n (read_line p text) (λ p'. fault_from p' (n + 1) (parts_between 10 after))
fault_lines p n text rest after e =
    let q = some_part 10 after in
    ap (fault_from p n) (e ∙ ap (λ (ps : List (List ℕ)). text ∷ ps) q.2) ∙ fault_two p n text q.0 q.1 ∙ ap (λ (ps : List (List ℕ)). fault_or n (read_line p text) (λ p'. fault_from p' (n + 1) ps)) (sym q.2)

pub fault_later : (p p' : Progress) (n : ℕ) (text rest after : List ℕ) → parts_between 10 rest ≡ text ∷ parts_between 10 after → read_line p text ≡ Ok p' → fault_from p n (parts_between 10 rest) ≡ fault_from p' (n + 1) (parts_between 10 after)
fault_later p p' n text rest after e r = fault_lines p n text rest after e ∙ ap (λ (x : Result Progress TextCause). fault_or n x (λ q. fault_from q (n + 1) (parts_between 10 after))) r

pub fault_here : (p : Progress) (n : ℕ) (c : TextCause) (text rest after : List ℕ) → parts_between 10 rest ≡ text ∷ parts_between 10 after → read_line p text ≡ Err c → fault_from p n (parts_between 10 rest) ≡ fault_at n c
fault_here p n c text rest after e r = fault_lines p n text rest after e ∙ ap (λ (x : Result Progress TextCause). fault_or n x (λ q. fault_from q (n + 1) (parts_between 10 after))) r

pub fault_unended : (p : Progress) (n : ℕ) (rest : List ℕ) → parts_between 10 rest ≡ rest ∷ [] → (rest ≡ [] → ⊥) → fault_from p n (parts_between 10 rest) ≡ fault_at n cause.Word
fault_unended p n [] e h = absurd (h refl)
fault_unended p n (b ∷ bs) e h = ap (fault_from p n) e

pub fault_at_end : (p : Progress) (n : ℕ) (rest : List ℕ) → parts_between 10 rest ≡ rest ∷ [] → rest ≡ [] → fault_from p n (parts_between 10 rest) ≡ cond (is_start p.stage) (fault_at n cause.Order) None
fault_at_end p n [] e h = refl
fault_at_end p n (b ∷ bs) e h = absurd cc

-- ---- newlines

pub newlines_after : (text after : List ℕ) → newlines after + 1 ≤ newlines (text ++ 10 ∷ after)
newlines_after text after =
    let parts : newlines (text ++ 10 ∷ after) ≡ newlines text + newlines (10 ∷ after) = sum_by-append (λ (b : ℕ). cond (eqb b 10) 1 0) text (10 ∷ after) in
    let more : newlines (10 ∷ after) ≡ newlines (10 ∷ []) + newlines after = sum_by-append (λ (b : ℕ). cond (eqb b 10) 1 0) (10 ∷ []) after in
    let one : newlines (10 ∷ []) ≡ 1 = refl in
    omega arith

-- a text of lines has a newline for each of them
few_lines : (lines : List Line) → length lines ≤ newlines (lines_text lines)
few_lines [] = omega arith
few_lines (l ∷ ls) = omega (arith, newlines_after (line_text l) (lines_text ls), few_lines ls)

pub few_of_text : (lines read : List Line) (rest text : List ℕ) (most : ℕ) → lines ≡ read → lines_text read ++ rest ≡ text → newlines text ≤ most → length lines ≤ most
few_of_text lines read rest text most same whole few =
    let parts : newlines (lines_text read ++ rest) ≡ newlines (lines_text read) + newlines rest = sum_by-append (λ (b : ℕ). cond (eqb b 10) 1 0) (lines_text read) rest in
    let all : newlines (lines_text read ++ rest) ≡ newlines text = ap newlines whole in
    let len : length lines ≡ length read = ap (length {A = Line}) same in
    omega (arith, few_lines read)

-- ---- one line more of a whole text

pub text_goes_on : (old new : List ℕ) (text rest after whole : List ℕ) → new ≡ old ++ (text ++ 10 ∷ []) → rest ≡ text ++ 10 ∷ after → old ++ rest ≡ whole → new ++ after ≡ whole
text_goes_on old new text rest after whole a b c =
    ap (λ (t : List ℕ). t ++ after) a ∙ append_assoc old (text ++ 10 ∷ []) after ∙ ap (λ (t : List ℕ). old ++ t) (append_assoc text (10 ∷ []) after ∙ sym b) ∙ c

pub count_goes_on : (number : ℕ) (text rest after : List ℕ) → rest ≡ text ++ 10 ∷ after → number + newlines rest ≤ 4294967295 → number + 1 + newlines after ≤ 4294967295
count_goes_on number text rest after e h =
    let same : newlines rest ≡ newlines (text ++ 10 ∷ after) = ap newlines e in
    omega (arith, newlines_after text after)

pub told_here : (end : ParseEnd) (number : ℕ) (p : Progress) (text rest after : List ℕ) (total : Option ScriptFault) → parts_between 10 rest ≡ text ∷ parts_between 10 after → fault_from p number (parts_between 10 rest) ≡ total → Faults number end (read_line p text) → Tells end total
told_here told.NoMemory number p text rest after total e h f = tt
told_here (told.Fault x) number p text rest after total e h f =
    sym h ∙ fault_here p number x.cause text rest after e f.0 ∙ ap (λ (n : ℕ). fault_at n x.cause) (sym f.1)
