-- What a host is told. This project's own.
use Rattle.std.specs.Prelude.{ℕ, List, []}
use Rattle.cp_base.specs.declared.replies.Status.{Status}
use Rattle.cp_base.specs.declared.replies.Reply.{Reply}

-- an answer as plain data: the status, a number, and the bytes that were read
pub record Answer : Type 0 where
  pub status : Status
  pub result : ℕ
  pub bytes : List ℕ

-- what a reply tells, however its bytes are kept
abbrev pub answer_of : Reply → Answer
answer_of reply = record { status = reply.status; result = reply.result; bytes = reply.bytes.items }

-- an answer of a status alone
abbrev pub only_status : Status → Answer
only_status status = record { status = status; result = 0; bytes = [] }
