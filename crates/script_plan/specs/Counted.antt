-- What the code counts: the lines of phases, and the outstanding commands of each queue. This project's own.
use Rattle.std.specs.Prelude.{◌≡◌, ℕ, ◌+◌, List, [], ◌∷◌, get_or}
use Rattle.script_cmds.specs.declared.item.Phase.{Phase}
use Rattle.history_model.specs.Plan.{in_queue, lines_of_parts}

-- how many lines phases have
abbrev pub lines_of_phases : List Phase → ℕ
lines_of_phases [] = 0
lines_of_phases (phase ∷ phases) = 1 + lines_of_parts phase.hosts + lines_of_phases phases

-- these are the numbers of outstanding commands by their queues; a queue behind the last has none
abbrev pub AreCounts : List ℕ → List ℕ → Type 0
AreCounts counts outstanding = (queue : ℕ) → get_or counts queue 0 ≡ in_queue queue outstanding
