-- Why a call of a host is refused, in the world and by the parts of a device. This project's own.
use Rattle.std.specs.Prelude.{◌≡◌, ℕ, nat_le, Bool, true, false, not, ◌||◌, if◌then◌else◌, IsTrue, Option, None, Some, Result, Ok, Err, is_some, length}
use Rattle.cp_base.specs.Answer.{Answer, only_status}
use Rattle.cp_base.specs.Configuration.{Configuration}
use Rattle.cp_base.specs.declared.commands.Command.{Command}
use Rattle.cp_base.specs.declared.replies.Status.TheVariants as status
use Rattle.device_model.specs.Checks.{refusal_of}
use Rattle.device_model.specs.Execution.{tells}
use Rattle.device_model.specs.Memory.{moves_bytes, takes_memory}
use Rattle.device_model.specs.Step.{outcome_of}
use Rattle.queue_pairs.specs.Outstanding.{send_cause, taken, under}
use Rattle.queue_pairs.specs.declared.causes.SendCause.{SendCause}
use Rattle.queue_pairs.specs.declared.causes.SendCause.TheVariants as send
use Rattle.queue_pairs.specs.declared.causes.TakeCause.{TakeCause}
use Rattle.queue_pairs.specs.declared.causes.TakeCause.TheVariants as take
use Rattle.trail_model.specs.Lawful.{is_abort}
use Rattle.trail_model.specs.World.{Posted, Queued, Stage, Submission, Taken, Working, World, outstanding_of, outstanding_under}
use Rattle.core_model.specs.Parts.{Parts, tables_in}

-- why a host may not submit a command under an identifier, where so many commands may be submitted in all: so many were; or
-- else as many as may be are outstanding for it; or else one is outstanding under the identifier
abbrev pub submit_cause : Configuration → ℕ → World → ℕ → ℕ → Option SendCause
submit_cause c commands w by cid =
    if nat_le commands (length w.submits) then Some send.Spent
    else if nat_le c.depth (length (outstanding_of w.submits by)) then Some send.QueueFull
    else if is_some (outstanding_under w.submits by cid) then Some send.CidBusy else None

-- the same by the parts
abbrev pub submit_cause_in : Configuration → ℕ → Parts → ℕ → ℕ → Option SendCause
submit_cause_in c commands p by cid =
    if nat_le commands p.submitted then Some send.Spent else send_cause (record { depth = c.depth; commands = p.queues by }) cid

-- where the reply to a command of this stage is posted, or why there is none to take
abbrev pub posted_by : Stage → Result ℕ TakeCause
posted_by Queued = Err take.NotYet
posted_by Working = Err take.NotYet
posted_by (Posted place) = Ok place
posted_by Taken = Err take.NotOutstanding

-- the same of a command, where there is one
abbrev pub posted_of : Option Submission → Result ℕ TakeCause
posted_of None = Err take.NotOutstanding
posted_of (Some s) = posted_by s.stage

-- where the reply to a host's outstanding command of an identifier is posted, or why there is none to take
abbrev pub take_answer : World → ℕ → ℕ → Result ℕ TakeCause
take_answer w by cid = posted_of (outstanding_under w.submits by cid)

-- the same by the parts
abbrev pub take_answer_in : Parts → ℕ → ℕ → Result ℕ TakeCause
take_answer_in p by cid = taken (under (p.queues by) cid)

-- what a command that is done at once is told, by the tables of the parts: an Abort 0 where it withdraws a command and else 1
abbrev pub done_answer_in : Configuration → Parts → Command → Option ℕ → Answer
done_answer_in c p cmd aborts =
    if is_abort cmd then tells status.Ok (if is_some aborts then 0 else 1) else (outcome_of c (tables_in p) cmd).answer

-- what a command that is done at once may be told: that there is no memory, where it takes memory, or what the device answers,
-- where it moves no bytes or is refused
abbrev pub MayTell : Bool → Configuration → Parts → Command → Option ℕ → Answer → Type 0
MayTell true c p cmd aborts answer = (answer ≡ only_status status.NoMemory) × IsTrue (takes_memory c (tables_in p) cmd)
MayTell false c p cmd aborts answer =
    (answer ≡ done_answer_in c p cmd aborts) × IsTrue (not (moves_bytes cmd) || is_some (refusal_of c (tables_in p) cmd))
