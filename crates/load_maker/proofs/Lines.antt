-- How many lines the text of a load has.
use Rattle.std.proofs.Common.{◌≡◌, ℕ, zero, suc, ◌+◌, ◌*◌, ◌/◌, ◌%◌, ◌^◌, ◌<◌, ◌≤◌, ◌==◌, Bool, true, false, ◌&&◌, List, [], ◌∷◌, ◌++◌, length, not, refl, sym, ap, ◌∙◌, arith, length-append}
use Rattle.std.specs.Prelude.{if◌then◌else◌, nat_lt}
use Rattle.std.proofs.lemmas.Bool.{and_parts}
use Rattle.std.proofs.lemmas.List.Elements.{All-cons, All-head, All-nil, All-tail}
use Rattle.std.proofs.lemmas.List.Sums.{sum_by-append, sum_by-cons}
use Rattle.cp_text.specs.Parts.{lacks}
use Rattle.script_line.specs.declared.kind.LineKind.TheVariants as line
use Rattle.script_line.specs.Field.{Count, IsShaped}
use Rattle.script_line.specs.Line.{Line, fields_of, line_text, send_line}
use Rattle.script_line.specs.Sized.{AreSized, IsLine, IsSized, IsSizedLine}
use Rattle.script_line.proofs.ReadAgain.{line_lacks}
use Rattle.script_line.proofs.Sends.{send_shape}
use Rattle.script_line.specs.declared.version.Version.TheVariants as version
use Rattle.script_cmds.specs.Fault.{newlines}
use Rattle.script_cmds.specs.Text.{lines_text, numbers_line}
use Rattle.load_maker.specs.Load.{device_lines, host_line, host_part, host_turns, load_lines, load_text, ready_lines, seed_word, take_reply_line, turn_lines, turn_takes, word_command}
use Rattle.load_maker.proofs.Fits.{command_sized, take_sized}
use Rattle.load_maker.proofs.Planned.{not_true}
use Rattle.load_maker.proofs.Printed.{lines_text-append}
use Rattle.load_maker.proofs.Sizes.{begun_sized}
use Rattle.load_maker.proofs.Turns.{own_lines}

abbrev counts_ten : ℕ → ℕ
counts_ten byte = if byte == 10 then 1 else 0

newlines-append : (a b : List ℕ) → newlines (a ++ b) ≡ newlines a + newlines b
newlines-append a b = sum_by-append counts_ten a b

none_counted : (text : List ℕ) → lacks 10 text ≡ true → newlines text ≡ 0
none_counted [] h = refl
none_counted (byte ∷ rest) h =
    let parts = and_parts (not (byte == 10)) (lacks 10 rest) h in
    let other : (byte == 10) ≡ false = not_true (byte == 10) parts.0 in
    sum_by-cons counts_ten byte rest ∙ rw (other, none_counted rest parts.1) refl

-- the text of these lines has a newline for each
abbrev IsCounted : List Line → Type 0
IsCounted lines = newlines (lines_text lines) ≡ length lines

one : (l : Line) → IsLine l → IsCounted (l ∷ [])
one l is = newlines-append (line_text l) (10 ∷ []) ∙ ap (λ (k : ℕ). k + 1) (none_counted (line_text l) (line_lacks l is))

join : (xs ys : List Line) → IsCounted xs → IsCounted ys → IsCounted (xs ++ ys)
join xs ys p q =
    ap newlines (lines_text-append xs ys) ∙ newlines-append (lines_text xs) (lines_text ys) ∙ ap (λ (k : ℕ). k + newlines (lines_text ys)) p
    ∙ ap (λ (k : ℕ). length xs + k) q ∙ sym (length-append xs ys)

takes_counted : (number : ℕ) (test : Bool) → IsCounted (if test then [] else take_reply_line (number % 16) ∷ [])
takes_counted number true = refl
takes_counted number false = one (take_reply_line (number % 16)) (record { shape = tt; sized = take_sized (number % 16) (omega arith) })

own_counted : (number word : ℕ) (test : Bool) → IsCounted (if test then turn_lines number (word_command word) else [])
own_counted number word true =
    let sent = send_line version.One (number % 16) (word_command word) in
    join (turn_takes number) (sent ∷ []) (takes_counted number (nat_lt number 16))
    (one sent (record { shape = send_shape version.One (number % 16) (word_command word); sized = command_sized (number % 16) word (omega arith) }))
own_counted number word false = refl

turns_counted : (seed host n : ℕ) → IsCounted (host_turns seed host n)
turns_counted seed host zero = refl
turns_counted seed host (suc n) =
    join (host_turns seed host n) (own_lines host n (seed_word seed n)) (turns_counted seed host n)
    (own_counted (n / 4) (seed_word seed n) (n % 4 == host))

part_counted : (seed n host : ℕ) → host < 4 → IsCounted (host_part seed n host)
part_counted seed n host low =
    let small : host + 1 < 2 ^ 64 = omega arith in
    join (host_line (host + 1) ∷ []) (host_turns seed host n)
    (one (host_line (host + 1)) (record { shape = tt; sized = All-cons IsSized (Count (host + 1)) [] small (All-nil IsSized) }))
    (turns_counted seed host n)

takes_few : (number : ℕ) (test : Bool) → length (if test then [] else take_reply_line (number % 16) ∷ []) ≤ 1
takes_few number true = omega arith
takes_few number false = omega arith

own_few : (number word : ℕ) (test : Bool) → length (if test then turn_lines number (word_command word) else []) ≤ 2
own_few number word true =
    let sent = send_line version.One (number % 16) (word_command word) in
    omega (arith, length-append (turn_takes number) (sent ∷ []), takes_few number (nat_lt number 16))
own_few number word false = omega arith

turns_few : (seed host n : ℕ) → length (host_turns seed host n) ≤ 2 * n
turns_few seed host zero = omega arith
turns_few seed host (suc n) =
    omega (
      arith,
      length-append (host_turns seed host n) (own_lines host n (seed_word seed n)),
      turns_few seed host n,
      own_few (n / 4) (seed_word seed n) (n % 4 == host),
    )

begun : List Line
begun = device_lines ++ ready_lines ++ (numbers_line line.Phase [] ∷ [])

-- what each line says is of its kind
abbrev AreShaped : List Line → Type 0
AreShaped [] = Unit {0}
AreShaped (l ∷ ls) = IsShaped (fields_of l.kind) l.values × AreShaped ls

lines_counted : (ls : List Line) → AreShaped ls → AreSized ls → IsCounted ls
lines_counted [] shapes sized = refl
lines_counted (l ∷ ls) shapes sized =
    join (l ∷ []) ls (one l (record { shape = shapes.0; sized = All-head IsSizedLine l ls sized }))
    (lines_counted ls shapes.1 (All-tail IsSizedLine l ls sized))

begun_counted : IsCounted begun
unfolding begun
begun_counted =
    lines_counted (device_lines ++ ready_lines ++ (numbers_line line.Phase [] ∷ []))
    (tt, (tt, (tt, (tt, (tt, (tt, (tt, (tt, (tt, (tt, (tt, (tt, (tt, (tt, tt)))))))))))))) begun_sized

begun_few : length begun ≡ 14
unfolding begun
begun_few = refl

load_is : (seed n : ℕ) → load_lines seed n ≡ begun ++ host_part seed n 0 ++ host_part seed n 1 ++ host_part seed n 2 ++ host_part seed n 3
unfolding begun
load_is seed n = refl

pub load_few : (seed n : ℕ) → newlines (load_text seed n) ≤ 18 + 8 * n
load_few seed n =
    let p = host_part seed n in
    let a = join begun (p 0) begun_counted (part_counted seed n 0 (omega arith)) in
    let b = join (begun ++ p 0) (p 1) a (part_counted seed n 1 (omega arith)) in
    let c = join (begun ++ p 0 ++ p 1) (p 2) b (part_counted seed n 2 (omega arith)) in
    let d = join (begun ++ p 0 ++ p 1 ++ p 2) (p 3) c (part_counted seed n 3 (omega arith)) in
    let all : newlines (load_text seed n) ≡ length (begun ++ p 0 ++ p 1 ++ p 2 ++ p 3) =
    ap (λ (ls : List Line). newlines (lines_text ls)) (load_is seed n) ∙ d
    in
    omega (
      arith,
      all,
      begun_few,
      length-append begun (p 0),
      length-append (begun ++ p 0) (p 1),
      length-append (begun ++ p 0 ++ p 1) (p 2),
      length-append (begun ++ p 0 ++ p 1 ++ p 2) (p 3),
      turns_few seed 0 n,
      turns_few seed 1 n,
      turns_few seed 2 n,
      turns_few seed 3 n,
    )
