-- A script that has the lines of a load.
use Rattle.std.proofs.Common.{◌≡◌, ℕ, zero, suc, ◌+◌, ◌/◌, ◌%◌, ◌<◌, ◌≤◌, ◌==◌, Bool, true, false, List, [], ◌∷◌, ◌++◌, None, Ok, Global, refl, sym, ap, subst, ◌∙◌, append_assoc}
use Rattle.std.specs.Prelude.{if◌then◌else◌, is_ok, nat_lt}
use Rattle.std.specs.declared.sync.Arc.{Arc}
use Rattle.std.proofs.lemmas.List.{append-nil}
use denote.RawPtr.{null_ptr}
use Rattle.cp_base.specs.declared.commands.Command.{Command}
use Rattle.script_line.specs.declared.kind.LineKind.TheVariants as line
use Rattle.script_line.specs.Line.{Line, send_line}
use Rattle.script_line.specs.Sized.{AreSized}
use Rattle.script_line.specs.declared.version.Version.TheVariants as version
use Rattle.script_cmds.specs.declared.item.Item.{Item}
use Rattle.script_cmds.specs.declared.item.Item.TheVariants as item
use Rattle.script_cmds.specs.declared.item.HostPart.{HostPart}
use Rattle.script_cmds.specs.declared.item.Phase as declared
use Rattle.script_cmds.specs.declared.script.Script.{Script}
use Rattle.script_cmds.specs.Fault.{after_lines, first_fault}
use Rattle.script_cmds.specs.Kept.{KeepsOrderAndLimits}
use Rattle.script_cmds.specs.Progress.{start}
use Rattle.script_cmds.specs.Text.{item_line, item_lines, lines_of, lines_text, numbers_line, script_text}
use Rattle.script_cmds.proofs.OneText.{accepted, one_text}
use Rattle.load_maker.specs.Load.{device_lines, first_set, host_line, host_turns, load_lines, load_text, ready_lines, ready_slot, second_set, seed_word, take_reply_line, turn_lines, whole_program, word_command}
use Rattle.load_maker.proofs.Kept.{load_device, load_runs, one_queue}
use Rattle.load_maker.proofs.Sizes.{load_sized}

-- a command is sent
abbrev pub sending : ℕ → Command → Item
sending cid sent = item.Send cid (record { ptr = null_ptr; value = sent })

abbrev pub turn_items : ℕ → Command → List Item
turn_items number sent = (if nat_lt number 16 then [] else item.Take (number % 16) ∷ []) ++ sending (number % 16) sent ∷ []

abbrev pub own_items : ℕ → ℕ → ℕ → List Item
own_items seed host n = if n % 4 == host then turn_items (n / 4) (word_command (seed_word seed n)) else []

-- what a host does of the first commands
abbrev pub host_items : ℕ → ℕ → ℕ → List Item
host_items seed host zero = []
host_items seed host (suc n) = host_items seed host n ++ own_items seed host n

-- what makes the device ready
abbrev pub ready_items : List Item
ready_items =
    sending 1 first_set ∷ item.Take 1 ∷ sending 2 second_set ∷ item.Take 2 ∷ sending 3 whole_program ∷ item.Take 3
    ∷ sending 4 ready_slot ∷ item.Take 4 ∷ []

abbrev pub part_of : ℕ → List Item → HostPart
part_of host items = record { host = host; items = items }

abbrev pub phase_of : List HostPart → declared.Phase
phase_of parts = record { hosts = parts }

abbrev pub work_parts : ℕ → ℕ → List HostPart
work_parts seed n =
    part_of 1 (host_items seed 0 n) ∷ part_of 2 (host_items seed 1 n) ∷ part_of 3 (host_items seed 2 n)
    ∷ part_of 4 (host_items seed 3 n) ∷ []

abbrev pub load_script : ℕ → ℕ → Script
load_script seed n = record {
  form = one_queue;
  config = load_device;
  phases = phase_of (part_of 1 ready_items ∷ []) ∷ phase_of (work_parts seed n) ∷ [];
  shows = [];
}

-- ---- its lines

item_lines-append : (xs ys : List Item) → item_lines one_queue (xs ++ ys) ≡ item_lines one_queue xs ++ item_lines one_queue ys
item_lines-append [] ys = refl
item_lines-append (x ∷ xs) ys = ap (λ (t : List Line). item_line one_queue x ∷ t) (item_lines-append xs ys)

takes_lines : (number : ℕ) (test : Bool)
    → item_lines one_queue (if test then [] else item.Take (number % 16) ∷ []) ≡ (if test then [] else take_reply_line (number % 16) ∷ [])
takes_lines number true = refl
takes_lines number false = refl

turn_items-lines : (number : ℕ) (sent : Command) → item_lines one_queue (turn_items number sent) ≡ turn_lines number sent
turn_items-lines number sent =
    item_lines-append (if nat_lt number 16 then [] else item.Take (number % 16) ∷ []) (sending (number % 16) sent ∷ [])
    ∙ ap (λ (t : List Line). t ++ send_line version.One (number % 16) sent ∷ []) (takes_lines number (nat_lt number 16))

own_items-lines : (number : ℕ) (sent : Command) (test : Bool)
    → item_lines one_queue (if test then turn_items number sent else []) ≡ (if test then turn_lines number sent else [])
own_items-lines number sent true = turn_items-lines number sent
own_items-lines number sent false = refl

host_items-lines : (seed host n : ℕ) → item_lines one_queue (host_items seed host n) ≡ host_turns seed host n
host_items-lines seed host zero = refl
host_items-lines seed host (suc n) =
    item_lines-append (host_items seed host n) (own_items seed host n)
    ∙ ap (λ (t : List Line). t ++ item_lines one_queue (own_items seed host n)) (host_items-lines seed host n)
    ∙ ap (λ (t : List Line). host_turns seed host n ++ t) (own_items-lines (n / 4) (word_command (seed_word seed n)) (n % 4 == host))

regrouped : (a b c d : List Line) (x y z : Line)
    → ((a ++ (x ∷ (b ++ (y ∷ (c ++ (z ∷ (d ++ []))))))) ++ []) ++ [] ≡ ((a ++ (x ∷ b)) ++ (y ∷ c)) ++ (z ∷ d)
regrouped a b c d x y z = simp (append-nil, append_assoc)

-- the lines of a script with these lines in its parts
abbrev with_parts : List Line → List Line → List Line → List Line → List Line
with_parts a b c d =
    device_lines ++ ready_lines ++ (numbers_line line.Phase [] ∷ host_line 1 ∷ [])
    ++ (((a ++ (host_line 2 ∷ (b ++ (host_line 3 ∷ (c ++ (host_line 4 ∷ (d ++ []))))))) ++ []) ++ [])

pub load_script-lines : (seed n : ℕ) → lines_of (load_script seed n) ≡ load_lines seed n
load_script-lines seed n =
    let i = λ (host : ℕ). item_lines one_queue (host_items seed host n) in
    let t = host_turns seed in
    ap (λ (a : List Line). with_parts a (i 1) (i 2) (i 3)) (host_items-lines seed 0 n)
    ∙ ap (λ (b : List Line). with_parts (t 0 n) b (i 2) (i 3)) (host_items-lines seed 1 n)
    ∙ ap (λ (c : List Line). with_parts (t 0 n) (t 1 n) c (i 3)) (host_items-lines seed 2 n)
    ∙ ap (λ (d : List Line). with_parts (t 0 n) (t 1 n) (t 2 n) d) (host_items-lines seed 3 n)
    ∙ ap (λ (ls : List Line). device_lines ++ ready_lines ++ (numbers_line line.Phase [] ∷ host_line 1 ∷ []) ++ ls)
    (regrouped (t 0 n) (t 1 n) (t 2 n) (t 3 n) (host_line 2) (host_line 3) (host_line 4))

-- ---- it is a script that is read

pub script_sized : (seed n : ℕ) → AreSized (lines_of (load_script seed n))
script_sized seed n = subst AreSized (sym (load_script-lines seed n)) (load_sized seed n)

pub script_kept : (seed n : ℕ) → n ≤ 8192 → KeepsOrderAndLimits (load_script seed n)
script_kept seed n bound = ap is_ok (ap (after_lines start) (load_script-lines seed n) ∙ (load_runs seed n bound).runs)

pub load_accepted : (seed n : ℕ) → n ≤ 8192 → first_fault (load_text seed n) ≡ None
load_accepted seed n bound =
    ap (λ (ls : List Line). first_fault (lines_text ls)) (sym (load_script-lines seed n))
    ∙ accepted (load_script seed n) (script_sized seed n) (script_kept seed n bound)

pub same_lines : (seed n : ℕ) (script : Script) → AreSized (lines_of script) → script_text script ≡ load_text seed n
    → lines_of script ≡ load_lines seed n
same_lines seed n script sized same =
    one_text script (load_script seed n) sized (script_sized seed n) (same ∙ ap lines_text (sym (load_script-lines seed n)))
    ∙ load_script-lines seed n
