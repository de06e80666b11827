-- One item of a host under the rules of its queues. This project's own.
use Rattle.std.specs.Prelude.{ℕ, ◌∷◌, [], ◌++◌, nat_le, List, Result, Ok, Err, if◌then◌else◌}
use Rattle.script_cmds.specs.declared.item.Item.{Item}
use Rattle.script_cmds.specs.declared.item.Item.TheVariants as item
use Rattle.script_cmds.specs.Queues.{queue_of_cid}
use Rattle.history_model.specs.Plan.{Breach, QueueFull, CidBusy, NotOutstanding, in_queue, is_outstanding}
use Rattle.history_model.specs.Rules.{without}

-- the identifiers of the outstanding commands after a send, or the rule that it breaks
abbrev pub sent_after : ℕ → List ℕ → ℕ → Result (List ℕ) Breach
sent_after depth outstanding cid =
    if nat_le depth (in_queue (queue_of_cid cid) outstanding) then Err QueueFull else if is_outstanding cid outstanding then Err CidBusy else Ok (outstanding ++ cid ∷ [])

-- the same after a take
abbrev pub taken_after : List ℕ → ℕ → Result (List ℕ) Breach
taken_after outstanding cid =
    if is_outstanding cid outstanding then Ok (without cid outstanding) else Err NotOutstanding

-- the same after an item
abbrev pub outstanding_after : ℕ → List ℕ → Item → Result (List ℕ) Breach
outstanding_after depth outstanding (item.Send cid command) = sent_after depth outstanding cid
outstanding_after depth outstanding (item.Take cid) = taken_after outstanding cid
