-- A small device and what it answers, for worked examples. This project's own.
use Rattle.std.specs.Prelude.{ℕ, List, [], ◌∷◌, ◌++◌, length, map, replicate, take, drop}
use Rattle.cp_base.specs.Answer.{Answer}
use Rattle.cp_base.specs.Configuration.{Configuration}
use Rattle.cp_base.specs.Contents.{bytes_of}
use Rattle.cp_base.specs.declared.commands.Command.{Command}
use Rattle.cp_base.specs.declared.commands.Command.TheVariants as command
use Rattle.cp_base.specs.declared.lists.CopySource.{CopySource}
use Rattle.cp_base.specs.declared.lists.CopySource.TheVariants as source
use Rattle.cp_base.specs.declared.lists.Access.TheVariants.{ReadOnly, ReadWrite}
use Rattle.cp_base.specs.declared.lists.MemRange.{MemRange}
use Rattle.cp_base.specs.declared.region.SpaceId.TheVariants as space
use Rattle.cp_base.specs.declared.replies.Status.{Status}
use Rattle.device_model.specs.Execution.{Outcome}
use Rattle.device_model.specs.State.{State, opening}
use Rattle.device_model.specs.Step.{outcome_of}

-- blocks of 512 bytes, and memory namespace 1 of 16 bytes
abbrev pub small : Configuration
small = record { block = 512; depth = 16; budget = 1000; nvm = replicate 8 0; mem = 16 ∷ replicate 7 0 }

abbrev pub write : ℕ → ℕ → List ℕ → Command
write ns at bytes = command.MemWrite ns at (record { items = bytes; spare = 0 })

abbrev pub load : ℕ → ℕ → ℕ → List ℕ → Command
load slot size at bytes = command.Load slot size at (record { items = bytes; spare = 0 })

abbrev pub from_memory : ℕ → ℕ → CopySource
from_memory at len = source.Mem 1 at len

abbrev pub range : ℕ → ℕ → MemRange
range at len = record { ns = 1; at = at; len = len; access = ReadWrite }

-- the same that may only be read
abbrev pub read_only : ℕ → ℕ → MemRange
read_only at len = record { ns = 1; at = at; len = len; access = ReadOnly }

-- the answers to commands that are carried out one after the other, and the state after them
pub record Told : Type 0 where
  pub answers : List Answer
  pub state : State

abbrev pub and_then : Outcome → Told → Told
and_then outcome rest = record { answers = outcome.answer ∷ rest.answers; state = rest.state }

abbrev pub told_by : Outcome → (State → Told) → Told
told_by outcome more = and_then outcome (more outcome.next)

abbrev pub told_in_turn : State → List Command → Told
told_in_turn s [] = record { answers = []; state = s }
told_in_turn s (cmd ∷ cmds) = told_by (outcome_of small s cmd) (λ next. told_in_turn next cmds)

-- the statuses of commands on the small device, from its opening state on
abbrev pub statuses : List Command → List Status
statuses cmds = map (λ (answer : Answer). answer.status) (told_in_turn (opening small) cmds).answers

-- the results of commands on the small device
abbrev pub results : List Command → List ℕ
results cmds = map (λ (answer : Answer). answer.result) (told_in_turn (opening small) cmds).answers

-- len bytes from place at on of its memory, after these commands
abbrev pub shown_after : List Command → ℕ → ℕ → List ℕ
shown_after cmds at len = take len (drop at (bytes_of (told_in_turn (opening small) cmds).state.contents (space.Mem 1)))

-- a set of all the memory, and a program that is loaded into slot 0, made active and executed with this budget
abbrev pub executes : List ℕ → ℕ → List Command
executes code budget =
    command.SetCreate (range 0 16 ∷ []) ∷ load 0 (length code) 0 code ∷ command.Activate 0 ∷ command.Execute 0 1 0 0 budget ∷ []

-- R0 is set to 7; the exit
abbrev pub exits_with_7 : List ℕ
exits_with_7 = (183 ∷ 0 ∷ 0 ∷ 0 ∷ 7 ∷ 0 ∷ 0 ∷ 0 ∷ []) ++ (149 ∷ 0 ∷ 0 ∷ 0 ∷ 0 ∷ 0 ∷ 0 ∷ 0 ∷ [])

-- R1 is set to the address of the range; a byte is stored there, and one behind the range
abbrev pub stores_past_the_end : List ℕ
stores_past_the_end =
    (24 ∷ 1 ∷ 0 ∷ 0 ∷ 0 ∷ 0 ∷ 0 ∷ 0 ∷ []) ++ (0 ∷ 0 ∷ 0 ∷ 0 ∷ 1 ∷ 0 ∷ 0 ∷ 0 ∷ [])
    ++ (114 ∷ 1 ∷ 0 ∷ 0 ∷ 85 ∷ 0 ∷ 0 ∷ 0 ∷ []) ++ (114 ∷ 1 ∷ 16 ∷ 0 ∷ 85 ∷ 0 ∷ 0 ∷ 0 ∷ [])

-- the same, and a program of the device executed on the set, whose first range has the bytes 0 to 7
abbrev pub executes_builtin : List MemRange → ℕ → ℕ → ℕ → ℕ → List Command
executes_builtin ranges slot p1 p2 budget =
    write 1 0 (0 ∷ 1 ∷ 2 ∷ 3 ∷ 4 ∷ 5 ∷ 6 ∷ 7 ∷ []) ∷ command.SetCreate ranges ∷ command.Execute slot 1 p1 p2 budget ∷ []

-- two ranges of eight bytes
abbrev pub two_ranges : List MemRange
two_ranges = range 0 8 ∷ range 8 8 ∷ []
