-- Lines that are written one by one.
use Rattle.std.proofs.Common.{◌≡◌, ℕ, zero, suc, ◌+◌, ◌<◌, ◌≤◌, List, [], ◌∷◌, ◌++◌, length, take, drop, get_or, Option, Some, None, Result, Ok, Err, OnErr, OnOk, sym, refl, ap, ◌∙◌, subst, arith}
use Rattle.std.specs.Prelude.{option_map, slice_get}
use Rattle.std.specs.List.{concat}
use Rattle.std.specs.Io.KnownBytes.{Appends}
use Rattle.std.proofs.KnownBytes.{Appends-trans}
use Rattle.std.proofs.lemmas.List.{get_or-map as within, append-nil, length-map, take_all, take_more, take-append-drop}
use Rattle.std.proofs.lemmas.List.Folds.{concat-append}
use Rattle.cp_base.specs.Contents.{Contents, bytes_in}
use Rattle.cp_base.specs.declared.limits.TheConstants.{MAX_TRANSFER}
use Rattle.cp_io.specs.Sink.{AppendsFront}
use Rattle.script_cmds.specs.declared.item.Show.{Show}
use Rattle.history_model.specs.Text.{shown_text}
use Rattle.trail_model.specs.World.{Completion}
use Rattle.device_core.specs.Gives.{Ended, ended_by}
use Rattle.nvmecp.specs.Lines.{ended_line, ended_lines, shown_lines}
use Rattle.nvmecp.specs.Shown.{AreShort}
use Rattle.nvmecp.proofs.Fronts.{front_of_first, front_of_second}

-- the lines before one and the line itself
one_more : (lines : List (List ℕ)) (i : ℕ) → i < length lines → concat (take (i + 1) lines) ≡ concat (take i lines) ++ get_or lines i []
one_more lines i below =
    ap concat (take_more lines i [] below) ∙ concat-append (take i lines) (get_or lines i [] ∷ [])
    ∙ ap (λ (text : List ℕ). concat (take i lines) ++ text) (append-nil (get_or lines i []))

-- the lines before one, the line itself, and those after it
all_three : (lines : List (List ℕ)) (i : ℕ) → i < length lines
    → (concat (take i lines) ++ get_or lines i []) ++ concat (drop (i + 1) lines) ≡ concat lines
all_three lines i below =
    ap (λ (text : List ℕ). text ++ concat (drop (i + 1) lines)) (sym (one_more lines i below))
    ∙ sym (concat-append (take (i + 1) lines) (drop (i + 1) lines)) ∙ ap concat (take-append-drop (i + 1) lines)

-- one more line is written
pub more : (old mid new : Option (List ℕ)) (lines : List (List ℕ)) (i : ℕ) (line : List ℕ) → i < length lines → get_or lines i [] ≡ line
    → Appends old mid (concat (take i lines)) → Appends mid new line → Appends old new (concat (take (i + 1) lines))
more old mid new lines i line below is before wrote =
    subst (λ (text : List ℕ). Appends old new text) (ap (λ (l : List ℕ). concat (take i lines) ++ l) (sym is) ∙ sym (one_more lines i below))
    (Appends-trans old mid new (concat (take i lines)) line before wrote)

-- a front of a line after those before it is a front of all
pub cut : (old mid new : Option (List ℕ)) (lines : List (List ℕ)) (i : ℕ) (line : List ℕ) → i < length lines → get_or lines i [] ≡ line
    → Appends old mid (concat (take i lines)) → AppendsFront mid new line → AppendsFront old new (concat lines)
cut old mid new lines i line below is before wrote =
    subst (λ (text : List ℕ). AppendsFront old new text)
    (ap (λ (l : List ℕ). (concat (take i lines) ++ l) ++ concat (drop (i + 1) lines)) (sym is) ∙ all_three lines i below)
    (front_of_first old new (concat (take i lines) ++ line) (concat (drop (i + 1) lines))
    (front_of_second old mid new (concat (take i lines)) line before wrote))

-- the line of a command that is over among those of all
nth_line : (n : ℕ) (history : List Completion) (k : ℕ) (e : Ended) → Some e ≡ option_map ended_by (slice_get history k)
    → get_or (ended_lines n history) k [] ≡ ended_line (n + k) e
nth_line n [] k e is = absurd cc
nth_line n (done ∷ history) zero e is =
    let same : ended_by done ≡ e = cc in
    ap (λ (m : ℕ). ended_line m (ended_by done)) (omega arith) ∙ ap (ended_line (n + 0)) same
nth_line n (done ∷ history) (suc k) e is =
    nth_line (n + 1) history k e is ∙ ap (λ (m : ℕ). ended_line m e) (omega arith)

-- the line of an entry that is told
pub the_line : (history : List Completion) (k : ℕ) (e : Ended) → Some e ≡ option_map ended_by (slice_get history k)
    → get_or (ended_lines 1 history) k [] ≡ ended_line (k + 1) e
the_line history k e is = nth_line 1 history k e is ∙ ap (λ (m : ℕ). ended_line m e) (omega arith)

-- there are as many lines as commands that are over
count_from : (n : ℕ) (history : List Completion) → length (ended_lines n history) ≡ length history
count_from n [] = refl
count_from n (done ∷ history) = ap {B = ℕ} suc (count_from (n + 1) history)

pub count_lines : (history : List Completion) → length (ended_lines 1 history) ≡ length history
count_lines history = count_from 1 history

-- an entry that is told is short, where all are
pub short_entry : (history : List Completion) (k : ℕ) (e : Ended) → Some e ≡ option_map ended_by (slice_get history k) → AreShort history
    → length e.answer.bytes ≤ MAX_TRANSFER
short_entry [] k e is all = absurd cc
short_entry (done ∷ history) zero e is all =
    let same : ended_by done ≡ e = cc in
    subst (λ (x : Ended). length x.answer.bytes ≤ MAX_TRANSFER) same all.0
short_entry (done ∷ history) (suc k) e is all = short_entry history k e is all.1

-- there is an entry of each number below the count
pub no_end : (history : List Completion) (k : ℕ) → k < length history → None ≡ option_map ended_by (slice_get history k) → ⊥
no_end [] k below is = absurd (omega (arith, below))
no_end (done ∷ history) zero below is = absurd cc
no_end (done ∷ history) (suc k) below is = no_end history k (omega (arith, below)) is

-- all lines are written
pub all : (old new : Option (List ℕ)) (lines : List (List ℕ)) (i : ℕ) → length lines ≤ i → Appends old new (concat (take i lines)) → Appends old new (concat lines)
all old new lines i over wrote = subst (λ (ls : List (List ℕ)). Appends old new (concat ls)) (take_all i lines over) wrote

-- what a failure leaves
pub told : {E : Type 0} {P : Type 0} (result : Result (Unit {0}) E) → P → OnErr result P
told (Ok x) p = tt
told (Err e) p = p

-- a show and its line
pub shown_line : (contents : Contents) (shows : List Show) (i : ℕ) (show : Show) → i < length shows → show ≡ get_or shows i show
    → get_or (shown_lines contents shows) i [] ≡ shown_text show (bytes_in contents show.range)
shown_line contents shows i show below is =
    let line : Show → List ℕ = λ (s : Show). shown_text s (bytes_in contents s.range) in
    within line shows i show [] below ∙ ap line (sym is)

-- there are as many lines as shows
pub count_shown : (contents : Contents) (shows : List Show) → length (shown_lines contents shows) ≡ length shows
count_shown contents shows = length-map shows _

-- what is written behind something is written with it
pub both_written : {E : Type 0} (result : Result (Unit {0}) E) (old mid new : Option (List ℕ)) (first second : List ℕ) → Appends old mid first
    → OnOk result (Appends mid new second) → OnOk result (Appends old new (first ++ second))
both_written (Ok x) old mid new first second a b = Appends-trans old mid new first second a b
both_written (Err e) old mid new first second a b = tt
