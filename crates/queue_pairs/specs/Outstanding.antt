-- The commands of one host that are outstanding. Source: a submission queue and its completion queue of the NVMe base
-- specification in outline; the statuses and the limits are this project's own.
use Rattle.std.specs.Prelude.{◌≡◌, ℕ, ◌==◌, nat_le, Bool, true, false, not, if◌then◌else◌, List, [], ◌∷◌, ◌++◌, Option, Some, None, Result, Ok, Err, filter, find, length, map}
use Rattle.std.specs.List.{list_any}
use Rattle.queue_pairs.specs.declared.command.Outstanding.{Outstanding as Waiting}
use Rattle.queue_pairs.specs.declared.command.Stage.{Stage}
use Rattle.queue_pairs.specs.declared.command.Stage.TheVariants as stage
use Rattle.queue_pairs.specs.declared.causes.SendCause.{SendCause}
use Rattle.queue_pairs.specs.declared.causes.SendCause.TheVariants as send
use Rattle.queue_pairs.specs.declared.causes.TakeCause.{TakeCause}
use Rattle.queue_pairs.specs.declared.causes.TakeCause.TheVariants as take
use Rattle.queue_pairs.specs.declared.command.Queued.{Queued}

-- how many commands may be outstanding, and those that are, in the order in which they were sent
pub record QueuePair : Type 0 where
  pub depth : ℕ
  pub commands : List Waiting

-- the command that is outstanding under an identifier, where one is
abbrev pub under : List Waiting → ℕ → Option Waiting
under commands cid = find (λ (command : Waiting). command.cid == cid) commands

-- whether one is
abbrev pub is_busy : List Waiting → ℕ → Bool
is_busy commands cid = list_any (λ (command : Waiting). command.cid == cid) commands

-- why a command cannot be sent, where it cannot: as many as may be are outstanding, or else one is under its identifier
abbrev pub send_cause : QueuePair → ℕ → Option SendCause
send_cause q cid =
    if nat_le q.depth (length q.commands) then Some send.QueueFull
    else if is_busy q.commands cid then Some send.CidBusy else None

-- the commands with one more, which is queued
abbrev pub with_sent : List Waiting → ℕ → ℕ → List Waiting
with_sent commands cid sent = commands ++ record { cid = cid; sent = sent; stage = stage.Queued } ∷ []

-- the commands with another stage of the one under an identifier
abbrev pub with_stage : List Waiting → ℕ → Stage → List Waiting
with_stage commands cid new =
    map (λ (command : Waiting). if command.cid == cid then record command { stage = new } else command) commands

-- the commands without the one under an identifier
abbrev pub without_cid : List Waiting → ℕ → List Waiting
without_cid commands cid = filter (λ (command : Waiting). not (command.cid == cid)) commands

-- whether a stage is the first, before a command is picked
abbrev pub is_first : Stage → Bool
is_first stage.Queued = true
is_first stage.Picked = false
is_first (stage.Posted place) = false

-- a command that waits to be picked, by its identifier and the place of its submit
abbrev pub as_queued : Waiting → Queued
as_queued command = record { cid = command.cid; sent = command.sent }

-- those that wait to be picked, in the order in which they were sent
abbrev pub queued : List Waiting → List Queued
queued commands = map as_queued (filter (λ (command : Waiting). is_first command.stage) commands)

-- what a host gets that asks for the answer to a command at this stage: the place where it is posted, or why not
abbrev pub taken_at : Stage → Result ℕ TakeCause
taken_at stage.Queued = Err take.NotYet
taken_at stage.Picked = Err take.NotYet
taken_at (stage.Posted place) = Ok place

abbrev pub taken : Option Waiting → Result ℕ TakeCause
taken None = Err take.NotOutstanding
taken (Some command) = taken_at command.stage

-- no two commands are outstanding under one identifier
abbrev pub CidsDiffer : List Waiting → Type 0
CidsDiffer [] = Unit {0}
CidsDiffer (command ∷ commands) = (is_busy commands command.cid ≡ false) × CidsDiffer commands
