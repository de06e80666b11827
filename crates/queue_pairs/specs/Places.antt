-- The same by the places of the submits. This project's own.
use Rattle.std.specs.Prelude.{◌≡◌, ℕ, ◌==◌, Bool, false, not, if◌then◌else◌, List, [], ◌∷◌, Some, filter, map}
use Rattle.std.specs.List.{list_any}
use Rattle.queue_pairs.specs.Outstanding.{under}
use Rattle.queue_pairs.specs.declared.command.Outstanding.{Outstanding as Waiting}
use Rattle.queue_pairs.specs.declared.command.Stage.{Stage}

-- whether a command was submitted at a place
abbrev pub is_sent_at : List Waiting → ℕ → Bool
is_sent_at commands place = list_any (λ (command : Waiting). command.sent == place) commands

-- no two commands were submitted at one place
abbrev pub PlacesDiffer : List Waiting → Type 0
PlacesDiffer [] = Unit {0}
PlacesDiffer (command ∷ commands) = (is_sent_at commands command.sent ≡ false) × PlacesDiffer commands

-- the commands with another stage of the one that was submitted at a place
abbrev pub restaged : List Waiting → ℕ → Stage → List Waiting
restaged commands place new =
    map (λ (command : Waiting). if command.sent == place then record command { stage = new } else command) commands

-- the commands without the one that was submitted at a place
abbrev pub without_sent : List Waiting → ℕ → List Waiting
without_sent commands place = filter (λ (command : Waiting). not (command.sent == place)) commands

-- of commands that were submitted at different places, the one under an identifier has another stage
abbrev pub IsRestagedUnder : List Waiting → List Waiting → ℕ → Stage → Type 0
IsRestagedUnder old now cid new =
    (command : Waiting) → under old cid ≡ Some command → PlacesDiffer old → now ≡ restaged old command.sent new

-- of commands that were submitted at different places, the one under an identifier is gone
abbrev pub IsGoneUnder : List Waiting → List Waiting → ℕ → Type 0
IsGoneUnder old now cid =
    (command : Waiting) → under old cid ≡ Some command → PlacesDiffer old → now ≡ without_sent old command.sent
