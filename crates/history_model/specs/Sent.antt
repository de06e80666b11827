-- The commands of a plan, each as its host sends it, and which of them have to come before which. This
-- project's own.
use Rattle.std.specs.Prelude.{◌≡◌, ℕ, ◌+◌, ◌<◌, ◌==◌, not, ◌⊎◌, List, [], ◌∷◌, ◌++◌, Option, Some, None, Contains, count_by, filter, map, option_and_then}
use Rattle.std.specs.List.{last_or}
use Rattle.cp_base.specs.Commands.{aborted_cid}
use Rattle.cp_base.specs.declared.commands.Command.{Command}
use Rattle.cp_base.specs.declared.commands.Command.TheVariants as command
use Rattle.script_cmds.specs.declared.item.Item.{Item}
use Rattle.script_cmds.specs.declared.item.Item.TheVariants as item
use Rattle.script_cmds.specs.declared.item.HostPart.{HostPart}
use Rattle.script_cmds.specs.declared.item.Phase.{Phase}

-- A command as it is sent. Its name is its host and which of all that host's sends it is: the first, of whatever
-- phase, has ordinal 1. With it go its identifier, the number of its phase, the command, the ordinals of the
-- host's commands that the host has taken before it sends this one, and, for an Abort, the ordinal of the
-- command that it names.
pub record Sent : Type 0 where
  pub host : ℕ
  pub ordinal : ℕ
  pub cid : ℕ
  pub phase : ℕ
  pub command : Command
  pub taken : List ℕ
  pub named : Option ℕ

-- an outstanding command of a host
pub record Waiting : Type 0 where
  pub cid : ℕ
  pub ordinal : ℕ

-- the ordinals of the outstanding commands of this identifier
abbrev pub ordinals_of : ℕ → List Waiting → List ℕ
ordinals_of cid waiting = map (λ (w : Waiting). w.ordinal) (filter (λ (w : Waiting). w.cid == cid) waiting)

-- The ordinal of the command that an Abort names: of the outstanding commands of its host the last that
-- was sent under the identifier. None where there is none, and of every other command.
abbrev pub named_in : List Waiting → Command → Option ℕ
named_in waiting cmd = option_and_then (λ cid. last_or None (ordinals_of cid waiting)) (aborted_cid cmd)

-- the commands that a host sends by these items, from an ordinal on
abbrev pub sends_of_items : ℕ → ℕ → ℕ → List Waiting → List ℕ → List Item → List Sent
sends_of_items host phase ordinal waiting taken [] = []
sends_of_items host phase ordinal waiting taken (item.Send cid sent ∷ items) =
    record { host = host; ordinal = ordinal; cid = cid; phase = phase; command = sent.value; taken = taken; named = named_in waiting sent.value }
    ∷ sends_of_items host phase (ordinal + 1) (waiting ++ record { cid = cid; ordinal = ordinal } ∷ []) taken items
sends_of_items host phase ordinal waiting taken (item.Take cid ∷ items) =
    sends_of_items host phase ordinal (filter (λ (w : Waiting). not (w.cid == cid)) waiting) (taken ++ ordinals_of cid waiting) items

-- the ordinal of a host's next command after these
abbrev pub next_ordinal : ℕ → List Sent → ℕ
next_ordinal host earlier = count_by (λ (s : Sent). s.host == host) earlier + 1

-- the commands of a phase after earlier ones, part by part
abbrev pub sends_of_parts : ℕ → List Sent → List HostPart → List Sent
sends_of_parts phase earlier [] = earlier
sends_of_parts phase earlier (part ∷ parts) =
    sends_of_parts phase (earlier ++ sends_of_items part.host phase (next_ordinal part.host earlier) [] [] part.items) parts

-- the commands of phases after earlier ones, phase by phase
abbrev pub sends_of_phases : ℕ → List Sent → List Phase → List Sent
sends_of_phases phase earlier [] = earlier
sends_of_phases phase earlier (p ∷ phases) = sends_of_phases (phase + 1) (sends_of_parts phase earlier p.hosts) phases

-- all commands of a plan, in the order of the script's text
abbrev pub sends_of : List Phase → List Sent
sends_of plan = sends_of_phases 1 [] plan

-- the first command has to be over before the second is sent: its host takes it before, or it belongs
-- to an earlier phase
abbrev pub TakenBefore : Sent → Sent → Type 0
TakenBefore first second =
    (first.phase < second.phase) ⊎ ((first.host ≡ second.host) × Contains second.taken first.ordinal)

-- an Abort names a command of its host
abbrev pub Names : Sent → Sent → Type 0
Names abort other = (abort.host ≡ other.host) × (abort.named ≡ Some other.ordinal)
