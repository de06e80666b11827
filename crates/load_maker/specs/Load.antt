-- The load that is made from a seed and a number of commands: which lines its script has. This project's own,
-- but for the words of the generator, which are those of SplitMix64 (Steele, Lea and Flood).
use Rattle.std.specs.Prelude.{ℕ, zero, suc, ◌+◌, ◌*◌, ◌/◌, ◌%◌, ◌^◌, ◌==◌, nat_lt, List, [], ◌∷◌, ◌++◌, replicate, if◌then◌else◌}
use Rattle.rand_xoshiro.specs.SplitMix64.{mix_u64}
use Rattle.cp_base.specs.declared.commands.Command.{Command}
use Rattle.cp_base.specs.declared.commands.Command.TheVariants as command
use Rattle.cp_base.specs.declared.lists.Access.TheVariants as access
use Rattle.cp_base.specs.declared.lists.CopySource.TheVariants as source
use Rattle.cp_base.specs.declared.lists.MemRange.{MemRange}
use Rattle.script_line.specs.declared.kind.LineKind.TheVariants as line
use Rattle.script_line.specs.declared.kind.SpaceKind.TheVariants as space_kind
use Rattle.script_line.specs.Line.{Line, send_line}
use Rattle.script_line.specs.declared.version.Version.TheVariants as version
use Rattle.script_cmds.specs.Text.{lines_text, numbers_line}

-- the state of the generator that this seed gives, after so many words
abbrev pub seed_state : ℕ → ℕ → ℕ
seed_state seed zero = seed
seed_state seed (suc n) = (mix_u64 (seed_state seed n)).1

-- the word of the generator under a number, from 0 on
abbrev pub seed_word : ℕ → ℕ → ℕ
seed_word seed n = (mix_u64 (seed_state seed n)).0

-- The program of the load: it counts the first byte of its first range up by one; its result is one more than that byte was.
--     lddw r1 4294967296, ldxb r0 r1 0, add64 r0 1, stxb r1 0 r0, exit
abbrev pub counting_program : List ℕ
counting_program =
    (24 ∷ 1 ∷ 0 ∷ 0 ∷ 0 ∷ 0 ∷ 0 ∷ 0 ∷ [])
    ++ (0 ∷ 0 ∷ 0 ∷ 0 ∷ 1 ∷ 0 ∷ 0 ∷ 0 ∷ [])
    ++ (113 ∷ 16 ∷ 0 ∷ 0 ∷ 0 ∷ 0 ∷ 0 ∷ 0 ∷ [])
    ++ (7 ∷ 0 ∷ 0 ∷ 0 ∷ 1 ∷ 0 ∷ 0 ∷ 0 ∷ [])
    ++ (115 ∷ 1 ∷ 0 ∷ 0 ∷ 0 ∷ 0 ∷ 0 ∷ 0 ∷ [])
    ++ (149 ∷ 0 ∷ 0 ∷ 0 ∷ 0 ∷ 0 ∷ 0 ∷ 0 ∷ [])

-- bytes of the memory namespace, which a program reads and writes
abbrev pub open_range : ℕ → ℕ → MemRange
open_range at len = record { ns = 1; at = at; len = len; access = access.ReadWrite }

-- what makes the device ready: two sets, and the program in slot 0, active
abbrev pub first_set : Command
first_set = command.SetCreate (open_range 0 256 ∷ [])

abbrev pub second_set : Command
second_set = command.SetCreate (open_range 1024 256 ∷ open_range 0 16 ∷ [])

abbrev pub whole_program : Command
whole_program = command.Load 0 48 0 (record { items = counting_program; spare = 0 })

abbrev pub ready_slot : Command
ready_slot = command.Activate 0

-- so many bytes of one value
unfoldable pub same_bytes : ℕ → ℕ → List ℕ
same_bytes count value = replicate count value

-- the command of a kind, 0 to 7, at a place, which is a block's or a byte's by the kind, and with a value
abbrev pub kind_command : ℕ → ℕ → ℕ → Command
kind_command kind place value =
    if kind == 0 then command.NvmRead 1 (place % 64) 1
    else if kind == 1 then command.NvmWrite 1 (place % 64) (record { items = same_bytes 512 value; spare = 0 })
    else if kind == 2 then command.MemRead 1 (place % 64512) 256
    else if kind == 3 then command.MemWrite 1 (place % 64512) (record { items = same_bytes 16 value; spare = 0 })
    else if kind == 4 then command.MemFill 1 (place % 64512) 1024 value
    else if kind == 5 then command.MemCopy 1 (place % 64512) (source.Nvm 1 (place % 64) 1 ∷ [])
    else if kind == 6 then command.NvmCopy 1 (place % 64) (source.Mem 1 (place % 64512) 512 ∷ [])
    else command.Execute 0 (1 + place % 2) 0 0 100

-- the command that a word of the generator stands for: its low three bits are the kind, the next sixteen the
-- place, and eight of its upper half the value
abbrev pub word_command : ℕ → Command
word_command word = kind_command (word % 8) (word / 8 % 65536) (word / 2 ^ 32 % 256)

abbrev pub take_reply_line : ℕ → Line
take_reply_line cid = numbers_line (line.Take version.One) (cid ∷ [])

abbrev pub host_line : ℕ → Line
host_line host = numbers_line line.Host (host ∷ [])

-- a command and the take of its reply
abbrev pub done_lines : ℕ → Command → List Line
done_lines cid sent = send_line version.One cid sent ∷ take_reply_line cid ∷ []

-- What a host takes before its command of a number, from 0 on: there are sixteen identifiers, so from command 16 on
-- the reply to the command sixteen before.
abbrev pub turn_takes : ℕ → List Line
turn_takes number = if nat_lt number 16 then [] else take_reply_line (number % 16) ∷ []

-- a host's command under its number
abbrev pub turn_lines : ℕ → Command → List Line
turn_lines number sent = turn_takes number ++ send_line version.One (number % 16) sent ∷ []

-- what a host, 0 to 3, does of the first commands: every fourth command is this host's
abbrev pub host_turns : ℕ → ℕ → ℕ → List Line
host_turns seed host zero = []
host_turns seed host (suc n) =
    host_turns seed host n ++ (if n % 4 == host then turn_lines (n / 4) (word_command (seed_word seed n)) else [])

-- a host's part; hosts are numbered from 1 in scripts
abbrev pub host_part : ℕ → ℕ → ℕ → List Line
host_part seed commands host = host_line (host + 1) ∷ host_turns seed host commands

-- the header and the two namespaces
abbrev pub device_lines : List Line
device_lines =
    numbers_line (line.Header version.One) (512 ∷ 16 ∷ 1000 ∷ []) ∷ numbers_line (line.Namespace space_kind.Nvm) (1 ∷ 64 ∷ [])
    ∷ numbers_line (line.Namespace space_kind.Mem) (1 ∷ 65536 ∷ []) ∷ []

-- the first phase: host 1 makes the device ready
abbrev pub ready_lines : List Line
ready_lines =
    numbers_line line.Phase [] ∷ host_line 1 ∷ done_lines 1 first_set ++ done_lines 2 second_set ++ done_lines 3 whole_program
    ++ done_lines 4 ready_slot

-- the second phase: four hosts
abbrev pub work_lines : ℕ → ℕ → List Line
work_lines seed commands =
    numbers_line line.Phase [] ∷ host_part seed commands 0 ++ host_part seed commands 1 ++ host_part seed commands 2
    ++ host_part seed commands 3

-- the lines of the load
abbrev pub load_lines : ℕ → ℕ → List Line
load_lines seed commands = device_lines ++ ready_lines ++ work_lines seed commands

-- the text of the load
abbrev pub load_text : ℕ → ℕ → List ℕ
load_text seed commands = lines_text (load_lines seed commands)
