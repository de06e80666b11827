-- The lines of a load are sized.
use Rattle.std.proofs.Common.{◌≡◌, ℕ, zero, suc, ◌+◌, ◌/◌, ◌%◌, ◌^◌, ◌<◌, ◌≤◌, ◌==◌, Bool, true, false, ◌&&◌, List, [], ◌∷◌, ◌++◌, length, refl, sym, ap, subst, ◌∙◌, arith}
use Rattle.std.specs.Prelude.{if◌then◌else◌, nat_lt, All}
use Rattle.std.specs.List.{list_all}
use Rattle.std.proofs.lemmas.Bool.{and_parts, ltb-true}
use Rattle.std.proofs.lemmas.List.Elements.{All-append, All-cons, All-nil}
use Rattle.cp_base.specs.declared.lists.MemRange.{MemRange}
use Rattle.script_line.specs.Field.{Value, Count, Queued, Data, Copied, Covered}
use Rattle.script_line.specs.Line.{Line, send_line}
use Rattle.script_line.specs.Sized.{AreSized, IsSized, IsSizedLine, IsSizedRange}
use Rattle.script_line.specs.declared.kind.LineKind.TheVariants as line
use Rattle.script_line.specs.declared.version.Version.TheVariants as version
use Rattle.script_cmds.specs.Text.{numbers_line}
use Rattle.load_maker.specs.Load.{device_lines, host_line, host_part, host_turns, load_lines, ready_lines, seed_word, take_reply_line, turn_lines, turn_takes, word_command, work_lines}
use Rattle.load_maker.proofs.Fits.{command_sized, take_sized}
use Rattle.load_maker.proofs.Turns.{own_lines}

-- ---- by a test

all_of : {X : Type 0} (P : X → Type 0) (test : X → Bool) → ((x : X) → test x ≡ true → P x) → (xs : List X) → list_all test xs ≡ true → All P xs
all_of P test sound [] h = All-nil P
all_of P test sound (x ∷ xs) h =
    let parts = and_parts (test x) (list_all test xs) h in
    All-cons P x xs (sound x parts.0) (all_of P test sound xs parts.1)

is_sized_range : MemRange → Bool
is_sized_range range = nat_lt range.ns (2 ^ 64) && (nat_lt range.at (2 ^ 64) && nat_lt range.len (2 ^ 64))

is_sized : Value → Bool
is_sized (Count n) = nat_lt n (2 ^ 64)
is_sized (Queued queue cid) = nat_lt queue (2 ^ 64) && nat_lt cid (2 ^ 64)
is_sized (Data bytes) = list_all (λ b. nat_lt b 256) bytes
is_sized (Copied sources) = false
is_sized (Covered ranges) = nat_lt 0 (length ranges) && list_all is_sized_range ranges

range_sound : (range : MemRange) → is_sized_range range ≡ true → IsSizedRange range
unfolding is_sized_range
range_sound range h =
    let first = and_parts (nat_lt range.ns (2 ^ 64)) (nat_lt range.at (2 ^ 64) && nat_lt range.len (2 ^ 64)) h in
    let rest = and_parts (nat_lt range.at (2 ^ 64)) (nat_lt range.len (2 ^ 64)) first.1 in
    (ltb-true _ _ first.0, ltb-true _ _ rest.0, ltb-true _ _ rest.1)

value_sound : (v : Value) → is_sized v ≡ true → IsSized v
unfolding is_sized
value_sound (Count n) h = ltb-true _ _ h
value_sound (Queued queue cid) h =
    let parts = and_parts (nat_lt queue (2 ^ 64)) (nat_lt cid (2 ^ 64)) h in
    (ltb-true _ _ parts.0, ltb-true _ _ parts.1)
value_sound (Data bytes) h = all_of (λ b. b < 256) (λ b. nat_lt b 256) (λ b t. ltb-true _ _ t) bytes h
value_sound (Copied sources) h = absurd cc
value_sound (Covered ranges) h =
    let parts = and_parts (nat_lt 0 (length ranges)) (list_all is_sized_range ranges) h in
    (ltb-true _ _ parts.0, all_of IsSizedRange is_sized_range range_sound ranges parts.1)

is_sized_line : Line → Bool
is_sized_line l = list_all is_sized l.values

lines_sound : (ls : List Line) → list_all is_sized_line ls ≡ true → AreSized ls
unfolding is_sized_line
lines_sound ls h = all_of IsSizedLine (λ (l : Line). list_all is_sized l.values) (λ l t. all_of IsSized is_sized value_sound l.values t) ls h

-- ---- lines after lines

none : AreSized []
none = All-nil IsSizedLine

one : (l : Line) → IsSizedLine l → AreSized (l ∷ [])
one l s = All-cons IsSizedLine l [] s none

join : (xs ys : List Line) → AreSized xs → AreSized ys → AreSized (xs ++ ys)
join xs ys p q = All-append IsSizedLine xs ys p q

takes_sized : (number : ℕ) (test : Bool) → AreSized (if test then [] else take_reply_line (number % 16) ∷ [])
takes_sized number true = none
takes_sized number false = one (take_reply_line (number % 16)) (take_sized (number % 16) (omega arith))

turn_sized : (number word : ℕ) → AreSized (turn_lines number (word_command word))
turn_sized number word =
    join (turn_takes number) (send_line version.One (number % 16) (word_command word) ∷ []) (takes_sized number (nat_lt number 16))
    (one (send_line version.One (number % 16) (word_command word)) (command_sized (number % 16) word (omega arith)))

own_sized : (number word : ℕ) (test : Bool) → AreSized (if test then turn_lines (number / 4) (word_command word) else [])
own_sized number word true = turn_sized (number / 4) word
own_sized number word false = none

turns_sized : (seed host n : ℕ) → AreSized (host_turns seed host n)
turns_sized seed host zero = none
turns_sized seed host (suc n) =
    join (host_turns seed host n) (own_lines host n (seed_word seed n)) (turns_sized seed host n)
    (own_sized n (seed_word seed n) (n % 4 == host))

part_sized : (seed n host : ℕ) → host < 4 → AreSized (host_part seed n host)
part_sized seed n host low =
    let small : host + 1 < 2 ^ 64 = omega arith in
    join (host_line (host + 1) ∷ []) (host_turns seed host n)
    (one (host_line (host + 1)) (All-cons IsSized (Count (host + 1)) [] small (All-nil IsSized))) (turns_sized seed host n)

pub begun_sized : AreSized (device_lines ++ ready_lines ++ (numbers_line line.Phase [] ∷ []))
unfolding is_sized_line is_sized is_sized_range
begun_sized = lines_sound (device_lines ++ ready_lines ++ (numbers_line line.Phase [] ∷ [])) refl

-- the whole load
pub load_sized : (seed n : ℕ) → AreSized (load_lines seed n)
load_sized seed n =
    let begun = device_lines ++ ready_lines ++ (numbers_line line.Phase [] ∷ []) in
    let p = host_part seed n in
    let a = join begun (p 0) begun_sized (part_sized seed n 0 (omega arith)) in
    let b = join (begun ++ p 0) (p 1) a (part_sized seed n 1 (omega arith)) in
    let c = join (begun ++ p 0 ++ p 1) (p 2) b (part_sized seed n 2 (omega arith)) in
    join (begun ++ p 0 ++ p 1 ++ p 2) (p 3) c (part_sized seed n 3 (omega arith))
