-- Commands and answers whose bytes are bytes and whose numbers have 64 bits. This project's own.
use Rattle.std.specs.Prelude.{ℕ, ◌^◌, ◌<◌, ◌≤◌, List, length}
use Rattle.std.specs.List.{AllByRecursion}
use Rattle.cp_base.specs.Answer.{Answer}
use Rattle.cp_base.specs.declared.commands.Command.{Command}
use Rattle.cp_base.specs.declared.limits.TheConstants.{MAX_ITEMS, MAX_TRANSFER}
use Rattle.device_model.specs.Sized.{IsSizedBy}
use Rattle.trail_model.specs.declared.events.Event.{Event}
use Rattle.trail_model.specs.declared.events.Event.TheVariants as event

-- each number is a byte
abbrev pub EachByte : List ℕ → Type 0
EachByte bytes = AllByRecursion (λ byte. byte < 256) bytes

-- the bytes of a command are bytes, it has no more ranges than a set may have, and its parameters have 64 bits
abbrev pub CommandSized : Command → Type 0
CommandSized cmd = IsSizedBy EachByte (λ ranges. length ranges ≤ MAX_ITEMS) cmd

-- the command that an event submits is sized
abbrev pub EventSized : Event → Type 0
EventSized (event.Submit by cid ordinal cmd) = CommandSized cmd
EventSized (event.Claim by host ordinal sent) = Unit {0}
EventSized (event.Finish by claim answer) = Unit {0}
EventSized (event.Do by host ordinal sent answer aborts) = Unit {0}
EventSized (event.Take by cid posted) = Unit {0}
EventSized (event.Rest by) = Unit {0}

-- what is told has at most as many bytes as one command may move, each of them a byte, and a number of 64 bits
pub record AnswerSized (answer : Answer) : Type 0 where
  pub result : answer.result < 2 ^ 64
  pub few : length answer.bytes ≤ MAX_TRANSFER
  pub bytes : EachByte answer.bytes
