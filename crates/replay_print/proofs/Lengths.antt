-- The lengths of the printed lines, and the lines as their parts.
use Rattle.std.proofs.Common.{◌≡◌, ℕ, ◌+◌, ◌*◌, ◌<◌, ◌≤◌, ◌^◌, List, [], ◌∷◌, ◌++◌, length, Result, Ok, Err, refl, ap, ◌∙◌, arith, append_assoc, length-append}
use Rattle.std.specs.Prelude.{codes, decimal, OnErr, IsOk}
use Rattle.std.proofs.lemmas.Fmt.{length-decimal-le}
use Rattle.cp_base.specs.declared.region.SpaceId.{SpaceId}
use Rattle.cp_base.specs.declared.region.SpaceId.TheVariants as space
use Rattle.cp_base.specs.declared.replies.Status.{Status}
use Rattle.cp_base.specs.declared.replies.Status.TheVariants as status
use Rattle.cp_text.specs.HexText.{hex_text}
use Rattle.cp_text.proofs.HexTexts.{hex_length}
use Rattle.cp_base.specs.Commands.{word_text}
use Rattle.script_line.specs.Line.{line_text}
use Rattle.script_cmds.specs.Text.{region_line, show_line}
use Rattle.script_cmds.specs.declared.item.Show.{Show}
use Rattle.cp_base.specs.declared.commands.CommandWord.{CommandWord}
use Rattle.cp_base.specs.declared.commands.CommandWord.TheVariants as word
use Rattle.history_model.specs.Text.{lettered, line_of_entry, lines_of_summary, shown_text, status_text}
use Rattle.replay_print.specs.Lines.{number_of_space}
use Rattle.replay_print.specs.Parts.{data_text, name_text, outcome_text}

-- ---- pieces

-- two digits for each byte, and four bytes round them
pub length-data_text : (bytes : List ℕ) → length (data_text bytes) ≡ 2 * length bytes + 4
length-data_text bytes = omega (arith, length-append (hex_text bytes) (10 ∷ []), hex_length bytes)

-- a number of 32 bits has at most 10 digits
pub length-lettered-le_small : (letters : List ℕ) (n : ℕ) → n < 2 ^ 32 → length (lettered letters n) ≤ length letters + 10
length-lettered-le_small letters n low =
    omega (arith, length-append letters (decimal n), length-decimal-le 10 n (omega arith) (omega arith) (omega arith))

-- one of 64 bits has at most 20
pub length-lettered-le : (letters : List ℕ) (n : ℕ) → n < 2 ^ 64 → length (lettered letters n) ≤ length letters + 20
length-lettered-le letters n low =
    omega (arith, length-append letters (decimal n), length-decimal-le 20 n (omega arith) (omega arith) low)

word_text-le : (w : CommandWord) → length (word_text w) ≤ 10
word_text-le word.NvmRead = omega arith
word_text-le _ = omega arith

status_text-le : (s : Status) → length (status_text s) ≤ 12
status_text-le status.Ok = omega arith
status_text-le _ = omega arith

-- ---- lists one after the other

length-four : (a b c d : List ℕ) → length (a ++ b ++ c ++ d) ≡ length a + length b + length c + length d
length-four a b c d = omega (arith, length-append (a ++ b ++ c) d, length-append (a ++ b) c, length-append a b)

length-five : (a b c d e : List ℕ) → length (a ++ b ++ c ++ d ++ e) ≡ length a + length b + length c + length d + length e
length-five a b c d e = omega (arith, length-append (a ++ b ++ c ++ d) e, length-four a b c d)

regroup : (n s w t u v d h e : List ℕ)
    → n ++ s ++ w ++ t ++ u ++ v ++ d ++ h ++ e ≡ n ++ (s ++ w ++ t ++ u ++ v) ++ (d ++ h ++ e)
regroup n s w t u v d h e = simp append_assoc

-- three parts that are added one after the other
pub append_three : (old a b d line first second third : List ℕ) → first ≡ old ++ a → second ≡ first ++ b → third ≡ second ++ d
    → line ≡ a ++ b ++ d → third ≡ old ++ line
append_three old a b d line first second third h1 h2 h3 parts = rw (h3, h2, h1, parts) (simp append_assoc)

-- ---- lines

-- the line of an entry is its three parts
pub line_of_entry-parts : (k host ordinal cid : ℕ) (w : CommandWord) (s : Status) (value : ℕ) (bytes : List ℕ)
    → line_of_entry k host ordinal cid w s value bytes ≡ name_text k host ordinal cid ++ outcome_text w s value ++ data_text bytes
line_of_entry-parts k host ordinal cid w s value bytes =
    regroup (name_text k host ordinal cid) (codes " ") (word_text w) (codes " ") (status_text s) (lettered (codes " r=") value)
    (codes " d=") (hex_text bytes) (10 ∷ [])

length-three : (a b d line : List ℕ) → line ≡ a ++ b ++ d → length line ≡ length a + length b + length d
length-three a b d line parts =
    ap length parts ∙ length-append (a ++ b) d ∙ ap (λ (m : ℕ). m + length d) (length-append a b)

pub length-line_of_entry : (k host ordinal cid : ℕ) (w : CommandWord) (s : Status) (value : ℕ) (bytes : List ℕ)
    → length (line_of_entry k host ordinal cid w s value bytes)
    ≡ length (name_text k host ordinal cid) + length (outcome_text w s value) + length (data_text bytes)
length-line_of_entry k host ordinal cid w s value bytes =
    length-three (name_text k host ordinal cid) (outcome_text w s value) (data_text bytes) (line_of_entry k host ordinal cid w s value bytes)
    (line_of_entry-parts k host ordinal cid w s value bytes)

name_text-le : (k host ordinal cid : ℕ) → k < 2 ^ 32 → host < 2 ^ 32 → ordinal < 2 ^ 32 → cid < 2 ^ 32
    → length (name_text k host ordinal cid) ≤ 47
name_text-le k host ordinal cid low_k low_host low_ordinal low_cid =
    omega (
      arith,
      length-four (lettered (codes "#") k) (lettered (codes " h") host) (lettered (codes " n") ordinal) (lettered (codes " c") cid),
      length-lettered-le_small (codes "#") k low_k,
      length-lettered-le_small (codes " h") host low_host,
      length-lettered-le_small (codes " n") ordinal low_ordinal,
      length-lettered-le_small (codes " c") cid low_cid,
    )

outcome_text-le : (w : CommandWord) (s : Status) (value : ℕ) → value < 2 ^ 64 → length (outcome_text w s value) ≤ 47
outcome_text-le w s value low =
    omega (
      arith,
      length-five (codes " ") (word_text w) (codes " ") (status_text s) (lettered (codes " r=") value),
      word_text-le w,
      status_text-le s,
      length-lettered-le (codes " r=") value low,
    )

-- the line of an entry with at most 8,192 bytes
pub length-line_of_entry-le : (k host ordinal cid : ℕ) (w : CommandWord) (s : Status) (value : ℕ) (bytes : List ℕ)
    → k < 2 ^ 32 → host < 2 ^ 32 → ordinal < 2 ^ 32 → cid < 2 ^ 32 → value < 2 ^ 64 → length bytes ≤ 8192
    → length (line_of_entry k host ordinal cid w s value bytes) ≤ 16482
length-line_of_entry-le k host ordinal cid w s value bytes low_k low_host low_ordinal low_cid low_value few =
    let whole = length-line_of_entry k host ordinal cid w s value bytes in
    let name = name_text-le k host ordinal cid low_k low_host low_ordinal low_cid in
    let outcome = outcome_text-le w s value low_value in
    let ending = length-data_text bytes in
    omega (arith, whole, name, outcome, ending)

length-places : (a b d : List ℕ)
    → length (a ++ 32 ∷ 97 ∷ 116 ∷ 61 ∷ (b ++ 32 ∷ 108 ∷ 101 ∷ 110 ∷ 61 ∷ d)) ≡ length a + length b + length d + 9
length-places a b d =
    omega (
      arith,
      length-append a (32 ∷ 97 ∷ 116 ∷ 61 ∷ (b ++ 32 ∷ 108 ∷ 101 ∷ 110 ∷ 61 ∷ d)),
      length-append b (32 ∷ 108 ∷ 101 ∷ 110 ∷ 61 ∷ d),
    )

region_line-le : (s : SpaceId) (start len : ℕ) → number_of_space s < 2 ^ 32 → start < 2 ^ 64 → len < 2 ^ 64
    → length (line_text (region_line s start len)) ≤ 68
region_line-le (space.Nvm n) start len low_n low_start low_len =
    omega (
      arith,
      length-places (decimal n) (decimal start) (decimal len),
      length-lettered-le_small [] n low_n,
      length-lettered-le [] start low_start,
      length-lettered-le [] len low_len,
    )
region_line-le (space.Mem n) start len low_n low_start low_len =
    omega (
      arith,
      length-places (decimal n) (decimal start) (decimal len),
      length-lettered-le_small [] n low_n,
      length-lettered-le [] start low_start,
      length-lettered-le [] len low_len,
    )

-- the line of a show of at most 8,192 bytes
pub length-shown_text-le : (show : Show) (bytes : List ℕ)
    → number_of_space show.range.space < 2 ^ 32 → show.range.start < 2 ^ 64 → show.range.len < 2 ^ 64 → length bytes ≤ 8192
    → length (shown_text show bytes) ≤ 16482
length-shown_text-le show bytes low_n low_start low_len few =
    omega (
      arith,
      length-four (line_text (show_line show)) (codes " d=") (hex_text bytes) (10 ∷ []),
      region_line-le show.range.space show.range.start show.range.len low_n low_start low_len,
      hex_length bytes,
    )

-- the four lines of a summary
pub length-lines_of_summary-le : (commands ok other total : ℕ) → commands < 2 ^ 32 → ok < 2 ^ 32 → other < 2 ^ 32 → total < 2 ^ 64
    → length (lines_of_summary commands ok other total) ≤ 16482
length-lines_of_summary-le commands ok other total low_commands low_ok low_other low_total =
    omega (
      arith,
      length-five (lettered (codes "commands ") commands) (10 ∷ lettered (codes "ok ") ok) (10 ∷ lettered (codes "other ") other)
          (10 ∷ lettered (codes "sum ") total) (10 ∷ []),
      length-lettered-le_small (codes "commands ") commands low_commands,
      length-lettered-le_small (codes "ok ") ok low_ok,
      length-lettered-le_small (codes "other ") other low_other,
      length-lettered-le (codes "sum ") total low_total,
    )

-- ---- answers

-- an answer that is refused only for a cause which does not hold
pub ok_unless : {A E P : Type 0} (r : Result A E) → OnErr r P → (P → ⊥) → IsOk r
ok_unless (Ok x) h none = refl
ok_unless (Err e) h none = absurd (none h)
